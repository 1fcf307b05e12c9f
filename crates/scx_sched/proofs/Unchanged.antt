-- What no query of a program changes: the clock, whether the policy is in force, the cycle under way, the tree of
-- weights with who is runnable in it, the rules, and what an event by Linux rules keeps until it ends.
use Rattle.std.proofs.Common.{◌≡◌, ℕ, Bool, true, false, ◌&&◌, if◌then◌else◌, nat_lt, length, Option, Some, None, is_none, refl, sym, ap, ◌∙◌}
use Rattle.scx_isa_semantics.specs.declared.callbacks.Callback.{Callback}
use Rattle.scx_isa_semantics.specs.Elements.{Maps}
use Rattle.scx_vm.specs.Programs.{VerifiedProgram}
use Rattle.scx_vm.specs.declared.arguments.Args.{Args}
use Rattle.scx_sched_world.specs.declared.call.Insert.{Insert}
use Rattle.scx_sched_world.specs.declared.eject.Eject.{Eject}
use Rattle.scx_sched_world.specs.World.{WorldState, nothing_passes, are_linux, is_by_linux, with_cycling, cycling_by_linux, switch_at, with_switch}
use Rattle.scx_sched_world.specs.Tasks.{after_enter, brought, after_keep, put_parked}
use Rattle.scx_sched_world.specs.Ejecting.{put_out, put_builtin}
use Rattle.scx_sched_machine.specs.Steps.{State}
use Rattle.scx_sched_machine.specs.Callbacks.{call_ending}
use Rattle.scx_sched_machine.specs.Ejecting.{eject}
use Rattle.scx_sched_machine.proofs.Choices.{keeps_if}
use Rattle.scx_sched.proofs.Marks.{KeepsMarks, Anywhere, kept_switch, kept_cycling}
use Rattle.scx_sched.proofs.Queries.{KeepsQueries, off_queues, kept_called, kept_marks, kept_enter, kept_brought, kept_query, kept_ejecting, kept_eject}

-- from the first world to the second
abbrev pub IsAsBefore : WorldState → WorldState → Type 0
IsAsBefore v w = (w.clock ≡ v.clock) × (w.ejected ≡ v.ejected) × (w.cycling ≡ v.cycling) × (w.tree ≡ v.tree) × (w.rules ≡ v.rules) × (w.passing ≡ v.passing)

-- a world is as it was before a change that isn't one of these
pub as_before : (w : WorldState) → IsAsBefore w w
as_before w = (refl, refl, refl, refl, refl, refl)

-- nor does any small change of a query
same_so : (v : WorldState) → KeepsQueries (IsAsBefore v)
same_so v = off_queues (IsAsBefore v) (λ w x other h. h) (λ w n o later h. h) (λ w t s k c h. h) (λ w q i m a b c d n ns h. h)

module _ (v : WorldState) where
  -- as the processor of a task, its slice or sets of processors change
  pub same_marks : KeepsMarks Anywhere (IsAsBefore v)
  same_marks = kept_marks (IsAsBefore v) (same_so v)

  pub same_entered : (w : WorldState) (t : ℕ) (i : Insert) → IsAsBefore v w → IsAsBefore v (after_enter w t i)
  same_entered w t i h = kept_enter (IsAsBefore v) (same_so v) w t i h

  pub same_put_builtin : (w : WorldState) (t : ℕ) → IsAsBefore v w → IsAsBefore v (put_builtin w t)
  same_put_builtin w t h = keeps_if (IsAsBefore v) (nat_lt t (length w.tasks)) _ w h h

  pub same_put_parked : (w : WorldState) (t : ℕ) → IsAsBefore v w → IsAsBefore v (put_parked w t)
  same_put_parked w t h = keeps_if (IsAsBefore v) (nat_lt t (length w.tasks)) _ w h h

-- nor does a run
pub same_called : (p : Option VerifiedProgram) (b : Callback) (a : Args) (maps : Maps) (w : WorldState) → IsAsBefore w (call_ending p b a maps w).outside
same_called p b a maps w = kept_called (IsAsBefore w) (kept_query (IsAsBefore w) (same_so w)) p b a maps w (as_before w)

-- an ejection puts the policy out of force, and changes no more of these
pub eject_sets : (s : State) (x : Eject) → IsAsBefore (put_out s.world x) (eject s x).state.world
eject_sets s x = let w = put_out s.world x in kept_eject (IsAsBefore w) (kept_ejecting (IsAsBefore w) (same_so w) (λ v t h. h)) s x (as_before w)

-- ---- other small steps

-- as a front goes to a local queue, clock, ejection, cycle, tree and rules stay as they are
pub same_brought : (o : Option ℕ) (w : WorldState) (c : ℕ) → IsAsBefore w (brought o w c)
same_brought o w c = kept_brought (IsAsBefore w) (same_so w) o w c (as_before w)

-- as a task keeps its processor, clock, ejection, cycle, tree and rules stay as they are
pub same_kept : (w : WorldState) (o : Option ℕ) → IsAsBefore w (after_keep w o)
same_kept w None = as_before w
same_kept w (Some t) = as_before w

-- ---- what begins and ends with cycles

-- from the first world to the second: the clock, whether the policy is in force, the tree, and the rules
abbrev pub IsAsRuled : WorldState → WorldState → Type 0
IsAsRuled v w = (w.clock ≡ v.clock) × (w.ejected ≡ v.ejected) × (w.tree ≡ v.tree) × (w.rules ≡ v.rules)

-- a processor that begins to switch changes none of these
pub ruled_switch : (w : WorldState) (c : ℕ) → IsAsRuled w (with_switch w c)
ruled_switch w c = kept_switch (IsAsRuled w) (λ v p a x waker h. h) w c (refl, refl, refl, refl)

-- nor does a cycle that begins or ends
pub ruled_cycling : (w : WorldState) (o : Option ℕ) → IsAsRuled w (with_cycling w o)
ruled_cycling w o = kept_cycling (IsAsRuled w) (λ v p a x waker h. h) w o (refl, refl, refl, refl)

-- by the same rules, with a policy that is in force or not as before
pub same_linux : (v w : WorldState) → w.rules ≡ v.rules → w.ejected ≡ v.ejected → is_by_linux w ≡ is_by_linux v
same_linux v w rules out = ap (λ r. are_linux r && is_none w.ejected) rules ∙ ap (λ (o : Option Eject). are_linux v.rules && is_none o) out

-- ---- plain rules keep nothing until an event ends

abbrev pub IsTidy : WorldState → Type 0
IsTidy w = is_by_linux w ≡ false → w.passing ≡ nothing_passes

-- by Linux rules nothing is said
pub tidy_linux : (w : WorldState) → is_by_linux w ≡ true → IsTidy w
tidy_linux w linux plain = let bad : true ≡ false = sym linux ∙ plain in absurd (cc)

-- where none of these changes
pub tidy_same : (v w : WorldState) → w.rules ≡ v.rules → w.ejected ≡ v.ejected → w.passing ≡ v.passing → IsTidy v → IsTidy w
tidy_same v w rules out same h plain = same ∙ h (sym (same_linux v w rules out) ∙ plain)

-- a processor that begins to switch by Linux rules alone
pub tidy_switch : (w : WorldState) (c : ℕ) → IsTidy w → IsTidy (with_switch w c)
tidy_switch w c h = go (is_by_linux w) refl
  where
    go : (b : Bool) → is_by_linux w ≡ b → IsTidy (if b then record w { passing = record w.passing { switching = switch_at w c } } else w)
    go true linux = tidy_linux (record w { passing = record w.passing { switching = switch_at w c } }) linux
    go false plain = h

-- and a cycle that begins or ends
pub tidy_cycling : (w : WorldState) (o : Option ℕ) → IsTidy w → IsTidy (with_cycling w o)
tidy_cycling w o h plain = go (is_by_linux w) refl (sym (same_linux w (with_cycling w o) (ruled_cycling w o).3 (ruled_cycling w o).1) ∙ plain)
  where
    go : (b : Bool) → is_by_linux w ≡ b → is_by_linux w ≡ false → (if b then cycling_by_linux w o else record w { cycling = o }).passing ≡ nothing_passes
    go true linux x = let bad : true ≡ false = sym linux ∙ x in absurd (cc)
    go false y x = h x
