-- Each event leads from two states that are the same but for what is left out to two such states, and its rounds do, whoever
-- sleeps or is held.
use Rattle.std.proofs.Common.{◌≡◌, ℕ, true}
use Rattle.scx_sched_machine.specs.declared.events.Event.{Event}
use Rattle.scx_sched_policy.specs.Policy.{PolicyState}
use Rattle.scx_sched_machine.specs.Steps.{State, is_by_linux}
use Rattle.scx_sched_machine.specs.Events.{own_step, event_step}
use Rattle.scx_sched_machine.specs.Rounds.{round, with_rounds}
use Rattle.scx_explore_findings.specs.HiddenStates.{late_in}
use Rattle.scx_explore_findings.proofs.Omitting.{Omitted, omit_state}
use Rattle.scx_explore_findings.proofs.Steps.{Tells, Passes}
use Rattle.scx_explore_findings.proofs.Begun.{here, follows, apart_here, same_here}
use Rattle.scx_explore_findings.proofs.Events.{passes_any_round, passes_own, Left, as_steps, of_steps, small}
use Rattle.scx_explore_findings.proofs.PairedCycles.{pair_with_rounds}

module _ (h : Omitted) (p : PolicyState) where
  module _ (s t : State) (same : omit_state h s ≡ omit_state h t) (is : s.policy ≡ p) where
    own_alike : (e : Event) → late_in s e ≡ late_in t e → Passes h p (own_step s e) (own_step t e)
    own_alike e late = follows h s.world p (own_step s e) (own_step t e) (passes_own (here h s.world) p e s t (same_here h s t same) is (apart_here h s t same) late)

    round_alike : (c : ℕ) → is_by_linux s ≡ true → Passes h p (round s c) (round t c)
    round_alike c linux = follows h s.world p (round s c) (round t c) (passes_any_round (here h s.world) p c s t (same_here h s t same) is (apart_here h s t same) linux)

  -- in two states that are the same an event comes to the same, where the same task or none waits too long in both
  pub passes_event : (e : Event) (s t : State) → omit_state h s ≡ omit_state h t → s.policy ≡ p → (Tells h p (own_step s e) (own_step t e) → late_in s e ≡ late_in t e) → Passes h p (event_step s e) (event_step t e)
  passes_event e s t same is late =
      let r = own_step s e in
      let q = own_step t e in
      of_steps h p (with_rounds r) (with_rounds q) (pair_with_rounds (Left h p) (small h p) (λ c v w x linux. as_steps h p (round v c) (round w c) (round_alike v w x.same x.policy c linux)) r q
      (as_steps h p r q (λ own. own_alike s t same is e (late own) own)))
