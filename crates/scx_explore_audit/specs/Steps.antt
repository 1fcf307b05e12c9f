-- The outcome of one event of a move, and the rest of a millisecond.
use Rattle.std.specs.Prelude.{◌≡◌, ℕ, ◌-◌, ⊤, List, [], ◌∷◌, ◌++◌, length, None}
use Rattle.scx_sched_machine.specs.declared.events.Event.{Event}
use Rattle.scx_sched_machine.specs.declared.events.Event.TheVariants.{Wake, Sleep, Clock}
use Rattle.scx_sched.specs.Sim.{SimState, refusal, after_event, calls_of}
use Rattle.scx_explore_findings.specs.Asked.{RunAsVerified}
use Rattle.scx_explore_findings.specs.declared.finding.Sort.{Sort}
use Rattle.scx_explore_findings.specs.Path.{PathState, machine_of, went_on}
use Rattle.scx_explore_audit.specs.declared.advance.Went.{Went}
use Rattle.scx_explore_audit.specs.declared.advance.Went.TheVariants.{There, Over, Shows}
use Rattle.scx_explore_audit.specs.Claims.{AreFree, TaskSet, of_tasks, ticks}

-- what the answer says of an event that has led to that state
abbrev pub IsSeen : Went → List Sort → SimState → Event → Type 0
IsSeen There sorts s e = AreFree sorts s e
IsSeen Over sorts s e = AreFree sorts s e × (s.state.world.ejected ≡ None → ⊥)
IsSeen Shows sorts s e = ⊤

-- what the answer says of the event after the list, and what becomes of the list: it goes on by
-- one that is accepted and shows nothing; or the event is refused, or shows nothing and ends it. If
-- it is accepted, its callbacks run as they were verified
abbrev pub Comes : Went → List Sort → Event → PathState → PathState → Type 0
Comes There sorts e p q =
    (refusal (machine_of p) e ≡ None) × AreFree sorts (after_event (machine_of p) e) e
    × (q ≡ went_on p e) × RunAsVerified (calls_of (machine_of p) e)
Comes Over sorts e p q =
    (refusal (machine_of p) e ≡ None
    → AreFree sorts (after_event (machine_of p) e) e
    × ((after_event (machine_of p) e).state.world.ejected ≡ None → ⊥)
    × RunAsVerified (calls_of (machine_of p) e))
    × (q ≡ p)
Comes Shows sorts e p q = q ≡ p

-- what is left of a millisecond where the tasks before that one had their turns to go to sleep
abbrev pub from_sleep : SimState → ℕ → TaskSet → List Event
from_sleep r t sleeps =
    of_tasks (λ u. Sleep u) sleeps t (length r.state.world.tasks - t) ++ Clock ∷ []

-- where the processors before that one had their turns to tick
abbrev pub from_tick : SimState → ℕ → TaskSet → List Event
from_tick r c sleeps = ticks c (length r.state.world.cpus - c) ++ from_sleep r 0 sleeps

-- where the tasks before that one had their turns to wake
abbrev pub from_wake : SimState → ℕ → TaskSet → TaskSet → List Event
from_wake r t wakes sleeps =
    of_tasks (λ u. Wake u) wakes t (length r.state.world.tasks - t) ++ from_tick r 0 sleeps
