-- Laws of the machine.
use Rattle.std.specs.Prelude.{◌≡◌, false, ℕ, ◌+◌, ◌<◌, length, Option, None}
use Rattle.scx_sched_machine.specs.declared.events.Event.{Event}
use Rattle.scx_sched_machine.specs.Steps.{State, is_by_linux}
use Rattle.scx_sched_world.specs.World.{running, wait}
use Rattle.scx_sched_machine.specs.Events.{refusal, event_step, tick, reweigh}
use Rattle.scx_sched_world.specs.declared.eject.Eject.{Eject}
use Rattle.scx_sched_machine.specs.Ejecting.{eject}
use Rattle.scx_sched.specs.Over.{GoesOver}
use Rattle.scx_sched.specs.Left.{LeavesNothing}
use Rattle.scx_sched.specs.Ranges.{IsFine}
use Rattle.scx_sched.specs.Kept.{IsKeptBySteps}
use Rattle.scx_sched.specs.Accepted.{IsPushAccepted}

-- an accepted event keeps each task in its place, and lets numbers grow no more than one event may
abbrev pub StepKeepsFine : Type 0
StepKeepsFine =
    (n e : ℕ) (s : State) (v : Event)
    → length s.world.tasks ≡ n → refusal s v ≡ None → IsFine n e e None s.world.cpus s.world
    → IsFine n (e + 1) (e + 1) None (event_step s v).state.world.cpus (event_step s v).state.world

-- by plain rules, after a tick that leaves its processor idle, no task is left waiting for it
abbrev pub TickLeavesNothing : Type 0
TickLeavesNothing =
    (n e : ℕ) (s : State) (c : ℕ)
    → is_by_linux s ≡ false → c < length s.world.cpus → IsFine n e e None s.world.cpus s.world
    → running (tick s c).state.world c ≡ None → LeavesNothing (tick s c).state.world c

-- each small step that an event is made of keeps what holds inside of it
abbrev pub StepsKeepFine : Type 0
StepsKeepFine = (n e : ℕ) → IsKeptBySteps n (IsFine n e)

-- an ejection loses no task, and stops none
abbrev pub EjectionLosesNobody : Type 0
EjectionLosesNobody =
    (n e m : ℕ) (hand : Option ℕ) (s : State) (x : Eject)
    → IsFine n e m hand s.world.cpus s.world → GoesOver s.world (eject s x).state.world

-- a change of a task's own weight leaves each task's wait as long as it was, whatever callbacks do
abbrev pub WeightsKeepWaits : Type 0
WeightsKeepWaits =
    (s : State) (t x u : ℕ) → wait (reweigh s t x).state.world u ≡ wait s.world u

-- and where that holds, no push is refused
abbrev pub NoPushIsRefused : Type 0
NoPushIsRefused = (n e m : ℕ) → IsPushAccepted n e m
