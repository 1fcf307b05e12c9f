-- Once the policy is ejected no callback of it runs, and a task that leaves its processor takes nobody out
-- of a local queue.
use Rattle.std.proofs.Common.{◌≡◌, ℕ, ◌<◌, Bool, true, false, nat_lt, ◌&&◌, if◌then◌else◌, length, Option, Some, None, is_some, is_none, refl, sym, ap, ◌∙◌, subst, arith}
use Rattle.scx_dsq.specs.declared.entries.Rank.TheVariants.{Vtime}
use Rattle.scx_isa_semantics.specs.declared.callbacks.Callback.{Callback}
use Rattle.scx_isa_semantics.specs.declared.callbacks.Callback.TheVariants as callback
use Rattle.scx_vm.specs.Programs.{VerifiedProgram}
use Rattle.scx_vm.specs.declared.arguments.Args.{Args}
use Rattle.scx_sched_world.specs.declared.eject.Eject.{Eject}
use Rattle.scx_sched_world.specs.Ids.{builtin_queue, local_on}
use Rattle.scx_sched_world.specs.World.{WorldState, are_linux, at_callback, quiet}
use Rattle.scx_sched_world.specs.Tasks.{local_len, to_front}
use Rattle.scx_sched_world.specs.Ejecting.{builtin_vtime, put_builtin, after_charge}
use Rattle.scx_sched_policy.specs.Policy.{program_of}
use Rattle.scx_sched_machine.specs.Steps.{State, Stepped, with_world, one_after_other, is_ejected, is_by_linux}
use Rattle.scx_sched_machine.specs.Ejecting.{ejected_for}
use Rattle.scx_sched_machine.specs.Callbacks.{call_ending, calls_of, after_callback, cause_of, unless_ejected, acting, call_back, task_and_number}
use Rattle.scx_sched_machine.specs.Put.{enters, enqueue_choice, enters_builtin, comes_in, put}
use Rattle.scx_sched_machine.specs.Cycle.{keeps_slice, put_back, leave}
use Rattle.scx_sched_machine.proofs.Choices.{keeps_if}
use Rattle.scx_sched.proofs.Lengths.{len_pushed}
use Rattle.scx_sched.proofs.Stepwise.{IsSwitch, Silent, Called, off_cpu, by_stop}

-- ---- no callback runs

-- a callback of that program, or of none
abbrev pub run_back : Option VerifiedProgram → State → Callback → Args → ℕ → ℕ → Stepped
run_back p s b a t c =
    let w = at_callback s.world b t c in
    let e = call_ending p b a s.maps w in
    one_after_other (record { state = after_callback s.policy e; notes = e.outside.notes; calls = calls_of p b a s.maps w }) (ejected_for (cause_of b e) (after_callback s.policy e))

-- an ejected policy has no programs
pub acting_out : (s : State) (b : Callback) → is_ejected s ≡ true → acting s b ≡ None
acting_out s b out = go s.world.ejected out
  where
    go : (o : Option Eject) → is_some o ≡ true → unless_ejected o (program_of s.policy b) ≡ None
    go None e = absurd (cc)
    go (Some x) e = refl

enqueue_out : (s : State) (a : Args) (t c : ℕ) → is_ejected s ≡ true → (call_back s callback.Enqueue a t c).state ≡ with_world s (quiet (at_callback s.world callback.Enqueue t c))
unfolding call_back call_ending
enqueue_out s a t c out = go (acting s callback.Enqueue) (acting_out s callback.Enqueue out)
  where
    go : (p : Option VerifiedProgram) → p ≡ None → (run_back p s callback.Enqueue a t c).state ≡ with_world s (quiet (at_callback s.world callback.Enqueue t c))
    go None e = refl
    go (Some p) e = absurd (cc)

-- ---- plain rules

-- a task leaves only by plain rules
abbrev pub LeavesPlainly : Option ℕ → State → Type 0
LeavesPlainly None s = Unit {0}
LeavesPlainly (Some t) s = is_by_linux s ≡ false

-- once the policy is ejected, the machine doesn't go by Linux rules
pub out_is_plain : (s : State) → is_ejected s ≡ true → is_by_linux s ≡ false
out_is_plain s out = go (are_linux s.world.rules) s.world.ejected out
  where
    go : (b : Bool) (o : Option Eject) → is_some o ≡ true → (b && is_none o) ≡ false
    go b None e = absurd (cc)
    go true (Some x) e = refl
    go false (Some x) e = refl

-- by plain rules nobody keeps the processor
pub kept_by_none : (s : State) (p : Option ℕ) → is_by_linux s ≡ false → keeps_slice s p ≡ false
kept_by_none s None plain = refl
kept_by_none s (Some t) plain = rw plain refl

-- and a task that was stopped is put
pub put_back_plain : (s : State) (c t : ℕ) → is_by_linux s ≡ false → put_back s c t ≡ put s t c 0
unfolding put_back
put_back_plain s c t plain = ap (λ b. if b then enters s t (to_front c) else put s t c 0) (kept_by_none s (Some t) plain)

-- ---- who waits for a processor

-- somebody waits for that processor
abbrev pub HasLocal : ℕ → WorldState → Type 0
HasLocal c w = 0 < local_len w c

-- who leaves, leaves an ejected scheduler
abbrev pub IsOut : Option ℕ → State → Type 0
IsOut None s = Unit {0}
IsOut (Some t) s = is_ejected s ≡ true

module _ (c : ℕ) where
  local_put_builtin : (w : WorldState) (t : ℕ) → HasLocal c w → HasLocal c (put_builtin w t)
  local_put_builtin w t h = keeps_if (HasLocal c) (nat_lt t (length w.tasks)) _ w (omega (arith, h, len_pushed w.queues builtin_queue (local_on c) t (Vtime (builtin_vtime w t)))) h

  local_comes_in : (s : State) (t d : ℕ) → is_ejected s ≡ true → HasLocal c s.world → HasLocal c (comes_in s t d).state.world
  unfolding comes_in enters_builtin
  local_comes_in s t d out h = go (is_ejected s) out
    where
      go : (b : Bool) → b ≡ true → HasLocal c (if b then enters_builtin s t else enters s t (enqueue_choice s.policy.callbacks.enqueue d s.world.call.insert)).state.world
      go true e = local_put_builtin s.world t h
      go false e = absurd (cc)

  local_put : (s : State) (t d flags : ℕ) → is_ejected s ≡ true → HasLocal c s.world → HasLocal c (put s t d flags).state.world
  unfolding put
  local_put s t d flags out h =
      let v = with_world s (quiet (at_callback s.world callback.Enqueue t d)) in
      subst (λ (x : State). HasLocal c (comes_in x t d).state.world) (sym (enqueue_out s (task_and_number t flags) t d out)) (local_comes_in v t d out h)

  -- the task before leaves, and those who wait for the processor stay
  pub local_leave : (s : State) (d : ℕ) (p : Option ℕ) → IsOut p s → HasLocal c s.world → HasLocal c (leave s d p).state.world
  unfolding leave
  local_leave s d None out h = h
  local_leave s d (Some t) out h = by_stop (λ (r : Stepped). HasLocal c (put_back r.state d t).state.world) off d t 1 each
    where
      off : State
      off = off_cpu s d t

      each : (r : Stepped) → IsSwitch off t d (after_charge off.world t) r → HasLocal c (put_back r.state d t).state.world
      each _ (Silent gone) = let v = with_world off (after_charge off.world t) in subst (λ (x : Stepped). HasLocal c x.state.world) (sym (put_back_plain v d t (out_is_plain v out))) (local_put v t d 0 out h)
      each _ (Called b a force is) = let bad : true ≡ false = sym out ∙ force in absurd (cc)
