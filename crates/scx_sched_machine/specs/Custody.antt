-- Tasks in a policy's custody: those that wait in a queue of its own, or that it holds without a
-- queue. A policy that has `dequeue` hears of each that leaves it (ext.c, `task_leave_custody`).
use Rattle.std.specs.Prelude.{ℕ, Bool, false, ◌&&◌, ◌||◌, ◌==◌, nat_lt, List, [], ◌∷◌, take, if◌then◌else◌, Option, Some, None, is_some}
use Rattle.scx_dsq.specs.Queues.{queue_of}
use Rattle.scx_isa_semantics.specs.declared.callbacks.Callback.TheVariants as callback
use Rattle.scx_sched_world.specs.declared.notes.Note.{Note}
use Rattle.scx_sched_world.specs.declared.notes.What.{What}
use Rattle.scx_sched_world.specs.declared.notes.What.TheVariants as note
use Rattle.scx_sched_world.specs.Ids.{policy_end, held_queue}
use Rattle.scx_sched_world.specs.declared.eject.Cause.{Cause}
use Rattle.scx_sched_world.specs.World.{WorldState, quiet}
use Rattle.scx_sched_policy.specs.Policy.{program_of}
use Rattle.scx_sched_machine.specs.Steps.{State, Stepped, with_world, stays, one_after_other, is_ejected, is_by_linux}
use Rattle.scx_sched_machine.specs.Ejecting.{ejected_for}
use Rattle.scx_sched_machine.specs.Callbacks.{call_by_linux, task_and_number}

-- whether tasks of that queue are in custody; of none they aren't
abbrev pub is_custody : Option ℕ → Bool
is_custody None = false
is_custody (Some q) = nat_lt q policy_end || (q == held_queue)

-- whether the task is in custody
abbrev pub is_in_custody : WorldState → ℕ → Bool
is_in_custody w t = is_custody (queue_of w.queues t)

-- the policy hears that the task left its custody, with these flags
unfoldable pub tells_dequeued : State → ℕ → ℕ → ℕ → Stepped
tells_dequeued s t c flags = call_by_linux s callback.Dequeue (task_and_number t flags) t c

-- the same, where the task was in custody
abbrev pub tells_dequeued_if : Bool → State → ℕ → ℕ → ℕ → Stepped
tells_dequeued_if b s t c flags = if b then tells_dequeued s t c flags else stays s

-- ---- out of dispatch

-- the task that left custody as that was noted of dispatch: one that was moved, or one that was
-- held and put into a queue that isn't the policy's; else none
abbrev pub leaver : What → Option ℕ
leaver (note.Insert t q) = if nat_lt q policy_end then None else Some t
leaver (note.Move t c) = Some t
leaver x = None

-- the policy hears that a task left custody in dispatch, if one did
abbrev pub tells_of : Option ℕ → State → ℕ → Stepped
tells_of None s c = stays s
tells_of (Some t) s c = tells_dequeued s t c 0

-- the policy hears of each task that left custody as these things were noted, in their order
abbrev pub tells_each : List Note → State → ℕ → Stepped
tells_each [] s c = stays s
tells_each (n ∷ ns) s c =
    let r = tells_of (leaver n.what) s c in one_after_other r (tells_each ns r.state c)

-- dispatch is the last callback again, of which it counts whether it moved a task; an ejection
-- forgets that
abbrev pub moved_as : Bool → State → State
moved_as b s =
    if is_ejected s then s
    else with_world s (record s.world { call = record s.world.call { has_moved = b } })

-- whether a policy hears who leaves its custody
unfoldable pub hears_dequeue : State → Bool
hears_dequeue s = is_by_linux s && is_some (program_of s.policy callback.Dequeue)

-- a policy that has `dequeue` hears of each task that left custody as these things were noted of
-- dispatch, which has ended
unfoldable pub tells_left : State → ℕ → List Note → Stepped
tells_left s c ns =
    if hears_dequeue s
    then (
    let r = tells_each ns s c in
    record r { state = moved_as s.world.call.has_moved r.state })
    else stays s

-- ---- dispatch, as it ends

-- what a callback noted is handed on, and where it had a cause the policy is ejected
unfoldable pub ended : Option Cause → State → Stepped
ended why s =
    let q = with_world s (quiet s.world) in
    one_after_other (record { state = q; notes = s.world.notes; calls = [] }) (ejected_for why q)

-- what dispatch noted is handed on, and the policy hears of each task that left custody in the
-- first that many of its notes
unfoldable pub told_first : ℕ → Option Cause → State → ℕ → Stepped
told_first n why s c =
    let r = ended why s in one_after_other r (tells_each (take n s.world.notes) r.state c)
