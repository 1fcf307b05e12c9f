-- Two machines that are the same but for what is left out show the same, as long as no task is late.
use Rattle.std.proofs.Common.{◌≡◌, ℕ, ◌+◌, ◌<◌, ◌≤◌, true, List, [], ◌∷◌, length, Option, Some, None, refl, sym, ap, ◌∙◌, subst, arith}
use Rattle.scx_sched_machine.specs.declared.events.Event.{Event}
use Rattle.scx_sched_machine.specs.declared.events.Refused.{Refused}
use Rattle.scx_sched_policy.specs.Policy.{PolicyState}
use Rattle.scx_sched.specs.Sim.{SimState, refusal, stepped_if, after_event}
use Rattle.scx_load_driver.specs.Runs.{stepped_all}
use Rattle.scx_sched_world.specs.World.{running}
use Rattle.scx_explore_findings.specs.Findings.{waits_left, IsFirstLeft, IsIdleBehind}
use Rattle.scx_explore_findings.specs.declared.finding.Finding.{Finding}
use Rattle.scx_explore_findings.specs.declared.finding.Finding.TheVariants as finding
use Rattle.scx_explore_findings.specs.Hidden.{Hidden}
use Rattle.scx_explore_findings.specs.HiddenMachines.{AreUnread, StayAsLate}
use Rattle.scx_explore_findings.specs.ReachedStates.{SameMachinesShowTheSame, ReachedStatesGoAlike}
use Rattle.scx_explore_findings.specs.IdleSlices.{is_idle_of, any_task, AreSame as IdleAreSame}
use Rattle.scx_explore_findings.proofs.Omitting.{Omitted, length_same}
use Rattle.scx_explore_findings.proofs.LeftOut.{omit_machine, parts_alone, parts_same, slices_alone, slices_same}
use Rattle.scx_explore_findings.proofs.Machines.{lists_dont_depend}
use Rattle.scx_explore_findings.proofs.Near.{IsAfter, after_one, after_first, late_none}
use Rattle.scx_explore_findings.proofs.Words.{words_dont_depend}

-- ---- what is shown

module _ (s t : SimState) (as_many : length s.state.world.tasks ≡ length t.state.world.tasks) (left_same : (c u : ℕ) → waits_left t.state.world c u ≡ waits_left s.state.world c u) (idle_same : (c : ℕ) → running t.state.world c ≡ running s.state.world c) where
  first_left : (c : ℕ) (o : Option ℕ) → IsFirstLeft s.state.world c o → IsFirstLeft t.state.world c o
  first_left c None k = λ u l. left_same c u ∙ k u (subst (λ (n : ℕ). u < n) (sym as_many) l)
  first_left c (Some u) k = (subst (λ (n : ℕ). u < n) as_many k.0, left_same c u ∙ k.1, λ v l. left_same c v ∙ k.2 v l)

  -- of as many tasks, of which the same are left, in both the same CPU is idle while the same task waits
  pub idle_there : (e : Event) (o : Option Finding) → IsIdleBehind s e o → IsIdleBehind t e o
  idle_there e None k = λ c is free. first_left c None (k c is (sym (idle_same c) ∙ free))
  idle_there e (Some (finding.Idle c u)) k = (k.0, idle_same c ∙ k.1, first_left c (Some u) k.2)
  idle_there e (Some (finding.Fault f)) k = k
  idle_there e (Some (finding.Stall u)) k = k
  idle_there e (Some (finding.Exit n)) k = k
  idle_there e (Some (finding.Overtaken p)) k = k
  idle_there e (Some (finding.Waits u ms)) k = k
  idle_there e (Some (finding.Takes b n)) k = k

module _ (h : Omitted) (s t : SimState) (same : omit_machine h s ≡ omit_machine h t) where
  as_many : length s.state.world.tasks ≡ length t.state.world.tasks
  as_many = length_same h.parts (is_idle_of h.idle s.state.world) s.state.world.tasks ∙ ap (λ (y : SimState). length y.state.world.tasks) same ∙ sym (length_same h.parts (is_idle_of h.idle t.state.world) t.state.world.tasks)

  left_same : (c u : ℕ) → waits_left t.state.world c u ≡ waits_left s.state.world c u
  left_same c u = ap (λ (y : SimState). waits_left y.state.world c u) (sym same)

  idle_same : (c : ℕ) → running t.state.world c ≡ running s.state.world c
  idle_same c = ap (λ (y : SimState). running y.state.world c) (sym same)

  idle_alike : (e : Event) (o : Option Finding) → IsIdleBehind s e o → IsIdleBehind t e o
  idle_alike = idle_there s t as_many left_same idle_same

-- machines that are the same but for what is hidden show the same
pub same_machines_show_the_same : SameMachinesShowTheSame
same_machines_show_the_same h s t same = record {
  ejected = ap (λ (y : SimState). y.state.world.ejected) same;
  idle = idle_alike (parts_alone h) s t (parts_same h s t same);
  written = λ f ids xs out is. words_dont_depend h f ids xs s t out same is;
}

-- and with slices of idle tasks alone left out too
pub idle_shown : (s t : SimState) → IdleAreSame s t → (e : Event) (o : Option Finding) → IsIdleBehind s e o → IsIdleBehind t e o
idle_shown s t same = idle_alike (slices_alone any_task) s t (slices_same any_task s t same)

-- ---- lists that are short enough

-- one more event at most, whether it is accepted or not
after_any : (n k : ℕ) (p : PolicyState) (s : SimState) (e : Event) → IsAfter n k p s → (j : ℕ) × (j ≤ k + 1) × IsAfter n j p (after_event s e)
after_any n k p s e h = go (refusal s e) refl
  where
    go : (o : Option Refused) → refusal s e ≡ o → (j : ℕ) × (j ≤ k + 1) × IsAfter n j p (after_event s e)
    go None fine = (k + 1, omega arith, after_one n k p s e fine h)
    go (Some r) is = (k, omega arith, subst (IsAfter n k p) (ap (λ (o : Option Refused). stepped_if o s e) (sym is)) h)

module _ (h : Hidden) (p : PolicyState) where
  stay : (n m k l : ℕ) (s t : SimState) (events : List Event) → IsAfter n k p s → IsAfter m l p t → (h.waits ≡ true → k + length events ≤ p.timeout_ms) → (h.waits ≡ true → l + length events ≤ p.timeout_ms) → StayAsLate h s t events
  stay n m k l s t [] a b few many = tt
  stay n m k l s t (e ∷ es) a b few many =
      let x = after_any n k p s e a in
      let y = after_any m l p t e b in (
        λ hidden. late_none n k p s e a (omega (arith, few hidden)) ∙ sym (late_none m l p t e b (omega (arith, many hidden))),
        stay n m x.0 y.0 (after_event s e) (after_event t e) es x.2 y.2 (λ hidden. omega (arith, few hidden, x.1)) (λ hidden. omega (arith, many hidden, y.1)),
      )

-- of two states that lists lead to events lead on alike
pub reached_states_go_alike : ReachedStatesGoAlike
reached_states_go_alike h root one other events valid unread fine good few many same =
    let a = after_first root one valid fine in
    let b = after_first root other valid good in
    lists_dont_depend h (stepped_all root one) (stepped_all root other) events (subst (AreUnread h) (sym a.policy) unread) same
    (stay h root.state.policy (length root.state.world.tasks) (length root.state.world.tasks) (length one) (length other) (stepped_all root one) (stepped_all root other) events a b few many)
