-- What a step says of each event, accepted or not.
use Rattle.std.proofs.Common.{◌≡◌, Option, Some, None, Result, OnOk, subst}
use Rattle.scx_sched_machine.specs.declared.events.Event.{Event}
use Rattle.scx_sched_machine.specs.declared.events.Refused.{Refused}
use Rattle.scx_sched.specs.Sim.{SimState, refusal, after_event, stepped_if, answer_of}
use Rattle.scx_sched.specs.Causes.{EjectsOnce, IsNeverStuck}
use Rattle.scx_sched.specs.Once.{AreInQueues}
use Rattle.scx_sched.specs.Decided.{EventsDecide, Follows}

-- what the contract of a step says of an event is that the state after it follows
pub follows : (s : SimState) (e : Event) (t : SimState) (r : Result (Unit {0}) Refused) → r ≡ answer_of (refusal s e) → t ≡ after_event s e → OnOk r (EventsDecide s e t) → OnOk r (EjectsOnce s e t) → IsNeverStuck t.state.world → AreInQueues t.state.world → Follows (refusal s e) s e t
follows s e t r answer state decided ejects unstuck there = go (refusal s e) state (subst (λ (x : Result (Unit {0}) Refused). OnOk x (EventsDecide s e t)) answer decided) (subst (λ (x : Result (Unit {0}) Refused). OnOk x (EjectsOnce s e t)) answer ejects)
  where
    go : (o : Option Refused) → t ≡ stepped_if o s e → OnOk (answer_of o) (EventsDecide s e t) → OnOk (answer_of o) (EjectsOnce s e t) → Follows o s e t
    go None x d c = (d, c, unstuck, there)
    go (Some refused) x d c = x

-- of the state that it makes
pub follows_stepped : (s : SimState) (e : Event) (t : SimState) (r : Result (Unit {0}) Refused) → r ≡ answer_of (refusal s e) → t ≡ after_event s e → OnOk r (EventsDecide s e t) → OnOk r (EjectsOnce s e t) → IsNeverStuck t.state.world → AreInQueues t.state.world → Follows (refusal s e) s e (after_event s e)
follows_stepped s e t r answer state decided ejects unstuck there = subst (λ (x : SimState). Follows (refusal s e) s e x) state (follows s e t r answer state decided ejects unstuck there)
