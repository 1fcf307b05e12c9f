-- Outcomes: how far a list of events is accepted, and what ends it.
use Rattle.std.specs.Prelude.{◌≡◌, ℕ, ◌+◌, ◌≤◌, ◌<◌, List, [], ◌∷◌, length, take, slice_index_or, Option, Some, None, unwrap_or}
use Rattle.scx_sched_world.specs.declared.eject.Eject.{Eject}
use Rattle.scx_sched_machine.specs.declared.events.Event.{Event}
use Rattle.scx_sched_machine.specs.declared.events.Refused.{Refused}
use Rattle.scx_sched.specs.Sim.{SimState, refusal, after_event}
use Rattle.scx_load_driver.specs.Runs.{stepped_all, AreAccepted}
use Rattle.scx_explore_findings.specs.declared.outcome.Outcome.{Outcome}
use Rattle.scx_explore_findings.specs.declared.outcome.Outcome.TheVariants as outcome

-- how a list ends at the event of that number, if it ends there: the event is refused, or accepted
-- and the policy ejected by it
abbrev pub end_of : Option Refused → Option Eject → ℕ → Option Outcome
end_of (Some r) x at = Some (outcome.Refused at r)
end_of None (Some x) at = Some (outcome.Ejected at x)
end_of None None at = None

-- from a machine on, after `at` events
abbrev pub outcome_from : ℕ → SimState → List Event → Outcome
outcome_from at s [] = outcome.InForce
outcome_from at s (e ∷ es) =
    let t = after_event s e in
    unwrap_or (end_of (refusal s e) t.state.world.ejected at) (outcome_from (at + 1) t es)

-- of a list
abbrev pub outcome_of : SimState → List Event → Outcome
outcome_of s events = outcome_from 0 s events

-- how many events of the list are done until it ends so
abbrev pub done_of : Outcome → List Event → ℕ
done_of outcome.InForce events = length events
done_of (outcome.Ejected at x) events = at + 1
done_of (outcome.Refused at r) events = at

-- the machine after the first n events of the list
abbrev pub after_first : SimState → List Event → ℕ → SimState
after_first s events n = stepped_all s (take n events)

-- the first n events are accepted, and the policy is in force before them and after each
pub record IsInForceFor (s : SimState) (events : List Event) (n : ℕ) : Type 0 where
  pub inside : n ≤ length events
  pub accepted : AreAccepted s (take n events)
  pub force : (k : ℕ) → k ≤ n → (after_first s events k).state.world.ejected ≡ None

-- that event is accepted, and is the first one by which the policy is ejected, for that cause
pub record IsEjectedAt (s : SimState) (events : List Event) (at : ℕ) (x : Eject) : Type 0 where
  pub inside : at < length events
  pub before : IsInForceFor s events at
  pub accepted : AreAccepted s (take (at + 1) events)
  pub out : (after_first s events (at + 1)).state.world.ejected ≡ Some x

-- that event is the first one that is refused, and the policy is in force
pub record IsRefusedAt (s : SimState) (events : List Event) (at : ℕ) (r : Refused) : Type 0 where
  pub inside : at < length events
  pub before : IsInForceFor s events at
  pub refused : (d : Event)
      → refusal (after_first s events at) (slice_index_or events at d) ≡ Some r

-- in the run of the list the outcome happens
abbrev pub Happens : SimState → List Event → Outcome → Type 0
Happens s events outcome.InForce = IsInForceFor s events (length events)
Happens s events (outcome.Ejected at x) = IsEjectedAt s events at x
Happens s events (outcome.Refused at r) = IsRefusedAt s events at r
