-- Timers run as it is computed, and in no other way.
use Rattle.std.proofs.Common.{◌≡◌, ℕ, zero, suc, ◌≤◌, Bool, true, false, nat_le, if◌then◌else◌, length, Option, Some, None, unwrap_or, refl, sym, ◌∙◌, ap, subst, arith}
use Rattle.std.proofs.lemmas.Bool.Decides.{nat_tests}
use Rattle.scx_isa_semantics.specs.declared.callbacks.Callback.TheVariants as callback
use Rattle.scx_sched_world.specs.declared.timers.Alarm.{Alarm}
use Rattle.scx_sched_world.specs.World.{WorldState}
use Rattle.scx_sched_world.specs.Helpers.{alarm_at, due_now}
use Rattle.scx_sched_machine.specs.Steps.{State, Stepped, one_after_other, is_by_linux}
use Rattle.scx_sched_machine.specs.Callbacks.{call_by_linux, one_number}
use Rattle.scx_sched_machine.specs.Firing.{due, fires, fire, fire_below, fire_all}
use Rattle.scx_laws.specs.Timers.{IsDue, ringing, has_rung, Fires, NotYet, Rings, FiresFirst, NoTimer, NextTimer, FiresAll}
use Rattle.scx_laws.proofs.Differing.{calls_if_there, only_calls_if_there}

-- ---- one timer

abbrev due_as : WorldState → Bool → Option Alarm → Option Alarm
due_as w b o = if b then due_now w o else None

abbrev due_if : Alarm → Bool → Option Alarm
due_if a b = if b then Some a else None

due_is : (s : State) (n : ℕ) (a : Alarm) → due s n ≡ Some a → IsDue s n a
unfolding due
due_is s n a d = go (is_by_linux s) refl (alarm_at s.world n) refl d
  where
    at : (x : Alarm) → is_by_linux s ≡ true → alarm_at s.world n ≡ Some x → (b : Bool) → nat_le x.due s.world.clock ≡ b → due_if x b ≡ Some a → IsDue s n a
    at x e k false z y = absurd (cc)
    at x e k true z y =
        let is : x ≡ a = ap (λ o. unwrap_or o x) y in
        let come : x.due ≤ s.world.clock = grind (arith, nat_tests, z) in
        record { by_linux = e; started = k ∙ y; has_come = subst (λ (v : Alarm). v.due ≤ s.world.clock) is come }

    go : (b : Bool) → is_by_linux s ≡ b → (o : Option Alarm) → alarm_at s.world n ≡ o → due_as s.world b o ≡ Some a → IsDue s n a
    go false e o k y = absurd (cc)
    go true e None k y = absurd (cc)
    go true e (Some x) k y = at x e k (nat_le x.due s.world.clock) refl y

due_of : (s : State) (n : ℕ) (a : Alarm) → IsDue s n a → due s n ≡ Some a
unfolding due
due_of s n a h =
    let come : nat_le a.due s.world.clock ≡ true = grind (arith, nat_tests, h.has_come) in
    ap (λ b. due_as s.world b (alarm_at s.world n)) h.by_linux ∙ ap (λ o. due_now s.world o) h.started ∙ ap (λ b. due_if a b) come

not_due : (s : State) (n : ℕ) → ((a : Alarm) → ¬ IsDue s n a) → due s n ≡ None
not_due s n never = go (due s n) refl
  where
    go : (o : Option Alarm) → due s n ≡ o → due s n ≡ None
    go None e = e
    go (Some a) e = absurd (never a (due_is s n a e))

abbrev rung : Stepped → Stepped
rung r = record r { state = has_rung r.state }

fires_one : (s : State) (n : ℕ) → Fires s n (fire s n)
unfolding fire
fires_one s n = go (due s n) refl
  where
    go : (o : Option Alarm) → due s n ≡ o → Fires s n (fires o s n)
    go None e = NotYet (λ a h. let bad : None ≡ Some a = sym e ∙ due_of s n a h in absurd (cc)) refl
    go (Some a) e = Rings a (call_by_linux (ringing s n) callback.Timer (one_number n) 0 a.cpu) (due_is s n a e) (calls_if_there (ringing s n) callback.Timer (one_number n) 0 a.cpu) refl

only_fires_one : (s : State) (n : ℕ) (r : Stepped) → Fires s n r → r ≡ fire s n
unfolding fire
only_fires_one s n r (NotYet never k) = k ∙ ap (λ o. fires o s n) (sym (not_due s n never))
only_fires_one s n r (Rings a told d h k) =
    k ∙ ap (λ x. rung x) (only_calls_if_there (ringing s n) callback.Timer (one_number n) 0 a.cpu told h) ∙ ap (λ o. fires o s n) (sym (due_of s n a d))

-- ---- all timers

fires_first : (n : ℕ) (s : State) → FiresFirst n s (fire_below n s)
fires_first zero s = NoTimer s _ refl
fires_first (suc n) s = let b = fire_below n s in NextTimer n s b (fire b.state n) _ (fires_first n s) (fires_one b.state n) refl

only_fires_first : (n : ℕ) (s : State) (r : Stepped) → FiresFirst n s r → r ≡ fire_below n s
only_fires_first zero s r (NoTimer _ _ k) = k
only_fires_first (suc n) s r (NextTimer _ _ b f _ h x k) =
    k ∙ ap (λ z. one_after_other b z) (only_fires_one b.state n f x) ∙ ap (λ (z : Stepped). one_after_other z (fire z.state n)) (only_fires_first n s b h)

-- all timers run as it is computed
pub fires_every : (s : State) → FiresAll s (fire_all s)
unfolding fire_all
fires_every s = fires_first (length s.world.timers) s

-- and in no other way
pub only_fires_every : (s : State) (r : Stepped) → FiresAll s r → r ≡ fire_all s
unfolding fire_all
only_fires_every s r h = only_fires_first (length s.world.timers) s r h
