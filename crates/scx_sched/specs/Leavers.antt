-- The tasks that left a policy's custody in dispatch, of which `dequeue` tells.
use Rattle.std.specs.Prelude.{◌≡◌, ℕ, ◌<◌, ◌≤◌, ◌⊎◌, Option, Some, None, length}
use Rattle.scx_dsq.specs.Queues.{QueueState, queue_of}
use Rattle.scx_isa_semantics.specs.declared.callbacks.Callback.TheVariants as callback
use Rattle.scx_sched_world.specs.Ids.{global, local_on}
use Rattle.scx_sched_machine.specs.Steps.{State, CallMade}
use Rattle.scx_sched_machine.specs.Callbacks.{task_and_number}
use Rattle.scx_sched_machine.specs.Cycle.{dispatch_called}
use Rattle.scx_sched.specs.Causes.{IsAmong}
use Rattle.scx_sched.specs.Ranges.{IsFine}

-- GLOBAL, or the local queue of a processor
abbrev pub TakesToRun : ℕ → Type 0
TakesToRun q = (q ≡ global) ⊎ (local_on 0 ≤ q)

-- the task waits in such a queue
abbrev pub WaitsToRun : QueueState → ℕ → Type 0
WaitsToRun s t = (q : ℕ) × (queue_of s t ≡ Some q) × TakesToRun q

-- a call of `dequeue` that is given a task which waits in such a queue, and 0
abbrev pub TellsOfLeaver : CallMade → Type 0
TellsOfLeaver m =
    (t : ℕ) × (m.arguments ≡ task_and_number t 0) × WaitsToRun m.world.queues t

-- each `dequeue` that follows a call of dispatch is such a call
abbrev pub LeaversWait : Type 0
LeaversWait =
    (n e k : ℕ) (s : State) (c : ℕ) (p : Option ℕ)
    → c < length s.world.cpus → IsFine n e k None s.world.cpus s.world
    → (m : CallMade) → IsAmong m (dispatch_called s c p).calls → m.callback ≡ callback.Dequeue
    → TellsOfLeaver m
