-- After few events no task has waited too long.
use Rattle.std.proofs.Common.{◌≡◌, ℕ, ◌+◌, ◌-◌, ◌<◌, ◌≤◌, Bool, false, cond, not, nat_lt, List, [], ◌∷◌, length, position, Option, Some, None, refl, sym, ap, ◌∙◌, subst, arith}
use Rattle.std.proofs.lemmas.Bool.{le-ltb}
use Rattle.std.specs.List.{position_or_len}
use Rattle.scx_sched_tasks.specs.declared.task.Task.{Task}
use Rattle.scx_sched_tasks.specs.Waits.{is_late, is_overdue}
use Rattle.scx_sched_world.specs.Tasks.{later, begun_periods}
use Rattle.scx_sched_world.specs.Waits.{first_overdue}
use Rattle.scx_sched_machine.specs.declared.events.Event.{Event}
use Rattle.scx_sched_machine.specs.declared.events.Event.TheVariants.{Wake, Sleep, Tick, Clock, SetWeight, SetTaskWeight}
use Rattle.scx_sched_machine.specs.declared.events.Refused.{Refused}
use Rattle.scx_sched_policy.specs.Policy.{PolicyState}
use Rattle.scx_sched_machine.specs.Steps.{State, with_world, is_ejected}
use Rattle.scx_sched_machine.specs.Events.{overdue}
use Rattle.scx_sched_machine.proofs.Choices.{keeps_if}
use Rattle.scx_sched.specs.Sim.{SimState, refusal, stepped_if, after_event, IsValid}
use Rattle.scx_sched.proofs.Blaming.{honest_let_all_go, honest_fire_all}
use Rattle.scx_sched.proofs.Deciding.{accepted, decides}
use Rattle.scx_sched.proofs.Events.{IsFineNow, fine_step}
use Rattle.scx_load_driver.specs.Runs.{stepped_all, AreAccepted}
use Rattle.scx_explore_findings.specs.HiddenStates.{once_let_go, once_later, late_in}
use Rattle.scx_explore_findings.specs.HiddenLaws.{NobodyIsLate}

-- ---- a clock that no wait can exceed

not_late : (now limit : ℕ) (o : Option ℕ) → now ≤ limit → is_late now limit o ≡ false
not_late now limit None l = refl
not_late now limit (Some n) l = le-ltb limit (now - n) (omega (arith, l))

none_passes : (p : Task → Bool) → ((x : Task) → p x ≡ false) → (xs : List Task) → position_or_len p xs ≡ length xs
none_passes p none [] = refl
none_passes p none (x ∷ xs) =
    let more = none_passes p none xs in
    ap (λ (b : Bool). cond (not b) (1 + position_or_len p xs) 0) (none x) ∙ omega (arith, more)

none_found : (p : Task → Bool) → ((x : Task) → p x ≡ false) → (xs : List Task) → position p xs ≡ None
none_found p none xs =
    ap (λ (n : ℕ). cond (nat_lt n (length xs)) (Some n) None) (none_passes p none xs)
    ∙ ap (λ (b : Bool). cond b (Some (length xs)) None) (le-ltb (length xs) (length xs) (omega arith))

-- while the clock is at most the limit, no task is late
none_late : (s : State) → s.world.clock ≤ s.policy.timeout_ms → overdue s ≡ None
none_late s l =
    let w = s.world in
    let limit = s.policy.timeout_ms in
    keeps_if (λ (o : Option ℕ). o ≡ None) (is_ejected s) None (first_overdue w limit) refl (none_found (is_overdue w.clock limit) (λ x. not_late w.clock limit x.since l) w.tasks)

none_late_then : (s : State) → s.world.clock < s.policy.timeout_ms → overdue (once_later s).state ≡ None
none_late_then s l =
    let h = honest_let_all_go (with_world s (begun_periods (later s.world))) in
    let g = honest_fire_all (once_let_go s).state in
    let limit : (once_later s).state.policy.timeout_ms ≡ s.policy.timeout_ms = ap (λ (p : PolicyState). p.timeout_ms) (g.policy ∙ h.policy) in
    none_late (once_later s).state (omega (arith, l, g.clock, h.clock, limit))

-- before the clock reaches the limit no event finds a task that has waited too long
pub none_late_in : (s : State) (e : Event) → s.world.clock < s.policy.timeout_ms → late_in s e ≡ None
none_late_in s (Wake t) few = refl
none_late_in s (Sleep t) few = refl
none_late_in s (Tick c) few = refl
none_late_in s Clock few = none_late_then s few
none_late_in s (SetWeight g x) few = refl
none_late_in s (SetTaskWeight t x) few = refl

-- ---- after a list of events

-- after that many events all is fine, and the policy is that one
pub record IsAfter (n k : ℕ) (p : PolicyState) (s : SimState) : Type 0 where
  pub fine : IsFineNow n k k s.state.world
  pub policy : s.state.policy ≡ p

-- one more event that is accepted
pub after_one : (n k : ℕ) (p : PolicyState) (s : SimState) (e : Event) → refusal s e ≡ None → IsAfter n k p s → IsAfter n (k + 1) p (after_event s e)
after_one n k p s e ok h =
    let taken = (accepted s e ok).taken in
    let here : IsFineNow (length s.state.world.tasks) k k s.state.world = subst (λ (m : ℕ). IsFineNow m k k s.state.world) (sym h.fine.sound.tasks) h.fine in
    subst (IsAfter n (k + 1) p) (ap (λ (o : Option Refused). stepped_if o s e) (sym ok)) (record {
      fine = fine_step n k s.state e h.fine.sound.tasks taken h.fine;
      policy = (decides s.state k e taken here).policy ∙ h.policy;
    })

after_list : (n k j : ℕ) (p : PolicyState) (s : SimState) (events : List Event) → j ≡ k + length events → AreAccepted s events → IsAfter n k p s → IsAfter n j p (stepped_all s events)
after_list n k j p s [] e all h = subst (λ (i : ℕ). IsAfter n i p s) (omega (arith, e)) h
after_list n k j p s (x ∷ xs) e all h = after_list n (k + 1) j p (after_event s x) xs (omega (arith, e)) all.1 (after_one n k p s x all.0 h)

-- after a list of them
pub after_first : (root : SimState) (events : List Event) → IsValid root.state 0 → AreAccepted root events → IsAfter (length root.state.world.tasks) (length events) root.state.policy (stepped_all root events)
after_first root events valid all = after_list (length root.state.world.tasks) 0 (length events) root.state.policy root events (omega arith) all (record { fine = valid.fine; policy = refl })

-- after fewer events than a task may wait milliseconds, no task has waited too long
pub late_none : (n k : ℕ) (p : PolicyState) (s : SimState) (e : Event) → IsAfter n k p s → k < p.timeout_ms → late_in s.state e ≡ None
late_none n k p s e h few =
    let limit : s.state.policy.timeout_ms ≡ p.timeout_ms = ap (λ (q : PolicyState). q.timeout_ms) h.policy in
    none_late_in s.state e (omega (arith, few, h.fine.clock, limit))

-- so it is after a list of events
pub nobody_is_late : NobodyIsLate
nobody_is_late root events e valid all few = late_none (length root.state.world.tasks) (length events) root.state.policy (stepped_all root events) e (after_first root events valid all) few
