-- Tasks whose groups have used what they may are parked: they go to a queue of the machine's own,
-- until a period begins (`cpu.max` of Linux Documentation/admin-guide/cgroup-v2.rst).
use Rattle.std.specs.Prelude.{ℕ, zero, suc, ◌+◌, [], ◌∷◌, if◌then◌else◌, Option, Some, None, ◌≡◌, false}
use Rattle.scx_dsq.specs.Queues.{front_of, len_of, behind_of}
use Rattle.scx_sched_world.specs.declared.notes.What.TheVariants as note
use Rattle.scx_sched_world.specs.Ids.{global, parked_queue, local_on}
use Rattle.scx_sched_world.specs.World.{WorldState, task_at, is_throttled, note_now}
use Rattle.scx_sched_world.specs.Tasks.{put_parked, after_leave, next_for, let_go}
use Rattle.scx_sched_machine.specs.Steps.{State, Stepped, with_world, stays, one_after_other, kicked_if_idle}
use Rattle.scx_sched_machine.specs.Filling.{fill}
use Rattle.scx_sched_machine.specs.Put.{put}

-- the task at hand is parked
unfoldable pub park : State → ℕ → Stepped
park s t = record {
  state = with_world s (put_parked s.world t);
  notes = note_now s.world (note.Insert t parked_queue) ∷ [];
  calls = [];
}

-- that task, if it is throttled
abbrev pub if_throttled : WorldState → Option ℕ → Option ℕ
if_throttled w None = None
if_throttled w (Some t) = if is_throttled w t then Some t else None

-- the front of a queue, if it is throttled
abbrev pub throttled_front : State → ℕ → Option ℕ
throttled_front s q = if_throttled s.world (front_of s.world.queues q)

-- the first task of a queue that may run on that processor, if it is throttled
abbrev pub throttled_next : State → ℕ → ℕ → Option ℕ
throttled_next s q c = if_throttled s.world (next_for s.world q c)

-- ---- before a front is picked

-- a task leaves its queue and is parked, if there is one, and what follows that
abbrev pub park_then : (State → Stepped) → State → Option ℕ → Stepped
park_then next s None = stays s
park_then next s (Some t) =
    let p = park (with_world s (after_leave s.world t)) t in one_after_other p (next p.state)

-- as long as the first task of a queue that may run on that processor is throttled, it is parked,
-- at most so often
unfoldable pub park_next : ℕ → State → ℕ → ℕ → Stepped
park_next zero s q c = stays s
park_next (suc n) s q c = park_then (λ r. park_next n r q c) s (throttled_next s q c)

-- wherever the local queue is empty it is filled from that of all processors, and as long as its
-- front may not run, that is parked, at most so often
unfoldable pub clear : ℕ → State → ℕ → Stepped
clear zero s c = stays s
clear (suc n) s c =
    let f = fill s global c in
    one_after_other f
    (park_then (λ r. clear n r c) f.state (throttled_front f.state (local_on c)))

-- how many tasks wait in the two queues
abbrev pub in_reach : State → ℕ → ℕ
in_reach s c = len_of s.world.queues (local_on c) + len_of s.world.queues global

-- the local queue comes to have a front that may run, if one of the two has such a task
unfoldable pub supply : State → ℕ → Stepped
supply s c = clear (in_reach s c) s c

-- ---- once the clock has grown

-- the task is parked no more, waits from now on, and is put as for its processor, which under Linux
-- rules looks for work as the event ends, if it is idle
unfoldable pub let_go_one : State → ℕ → Stepped
let_go_one s t =
    let c = (task_at s.world t).prev_cpu in
    let r = put (with_world s (let_go s.world t)) t c 0 in
    record r { state = kicked_if_idle r.state c }

-- of the parked those that may run again are let go, in their order from that one on; at most
-- that many are looked at
unfoldable pub let_go_from : ℕ → State → Option ℕ → Stepped
let_go_from zero s at = stays s
let_go_from (suc n) s None = stays s
let_go_from (suc n) s (Some t) =
    let next = behind_of s.world.queues t in
    if is_throttled s.world t then let_go_from n s next
    else (let r = let_go_one s t in one_after_other r (let_go_from n r.state next))

-- all who may run again
unfoldable pub let_all_go : State → Stepped
let_all_go s =
    let_go_from (len_of s.world.queues parked_queue) s (front_of s.world.queues parked_queue)

-- the front of that queue, if there is one, may run
abbrev pub FrontMayRun : State → ℕ → Type 0
FrontMayRun s q = (t : ℕ) → front_of s.world.queues q ≡ Some t → is_throttled s.world t ≡ false
