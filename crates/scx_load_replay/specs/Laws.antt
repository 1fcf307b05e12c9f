-- Laws of the events of every file: each line comes, and none is refused.
use Rattle.std.specs.Prelude.{◌≡◌, nat_lt, Bool, map, filter}
use Rattle.scx_sched_machine.specs.declared.events.Event.{Event}
use Rattle.scx_sched_policy.specs.Policy.{PolicyState}
use Rattle.scx_sched.specs.Sim.{SimState, IsFirstState}
use Rattle.scx_load_workloads.specs.Workload.{first_tree}
use Rattle.scx_load_driver.specs.Runs.{AreAccepted}
use Rattle.scx_load_replay.specs.Replay.{ReplayState, IsReplay, block_of}
use Rattle.scx_load_replay.specs.Events.{replay_events}

-- an event that a line may say: no tick, and not the clock
abbrev pub is_listed : Event → Bool
is_listed e = nat_lt (block_of e) 3

-- with ticks and the clock left out, the events of a file are those of its lines, each once and in
-- their order
abbrev pub EachLineComes : Type 0
EachLineComes =
    (r : ReplayState) → IsReplay r
    → filter is_listed (replay_events r) ≡ map (λ l. l.event) r.lines

-- in a machine that was made of the file's processors, groups and tasks, with any policy
abbrev pub NoEventIsRefused : Type 0
NoEventIsRefused =
    (r : ReplayState) (p : PolicyState) (s : SimState)
    → IsReplay r → IsFirstState p (first_tree r.workload) r.workload.cpus s
    → AreAccepted s (replay_events r)
