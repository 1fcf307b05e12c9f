-- Machines of which something of the record of each task is hidden, and what a step of one comes
-- to.
use Rattle.std.specs.Prelude.{ℕ, map, Option, None}
use Rattle.scx_sched_world.specs.Tasks.{later, begun_periods}
use Rattle.scx_sched_machine.specs.declared.events.Event.{Event}
use Rattle.scx_sched_machine.specs.declared.events.Event.TheVariants.{Wake, Sleep, Tick, Clock, SetWeight, SetTaskWeight}
use Rattle.scx_sched_machine.specs.Events.{overdue}
use Rattle.scx_sched_machine.specs.Firing.{fire_all}
use Rattle.scx_sched_machine.specs.Parking.{let_all_go}
use Rattle.scx_sched_machine.specs.Steps.{State, CallMade, Stepped, with_world}
use Rattle.scx_explore_findings.specs.Hidden.{Hidden, hide}

-- the machine without all that is hidden
abbrev pub hide_state : Hidden → State → State
hide_state h s = record s { world = hide h s.world }

-- a callback that is called, in such a world
abbrev pub hide_call : Hidden → CallMade → CallMade
hide_call h c = record c { world = hide h c.world }

-- what a step comes to, without all that is hidden
abbrev pub hide_step : Hidden → Stepped → Stepped
hide_step h r =
    record { state = hide_state h r.state; notes = r.notes; calls = map (hide_call h) r.calls }

-- the clock has grown: periods have begun, and tasks that may run again were let go
abbrev pub once_let_go : State → Stepped
once_let_go s = let_all_go (with_world s (begun_periods (later s.world)))

-- and timers that are due have run
abbrev pub once_later : State → Stepped
once_later s = fire_all (once_let_go s).state

-- the task that has waited for too long once the clock has grown, while the policy is in force; no
-- other event looks for one
abbrev pub late_in : State → Event → Option ℕ
late_in s (Wake t) = None
late_in s (Sleep t) = None
late_in s (Tick c) = None
late_in s Clock = overdue (once_later s).state
late_in s (SetWeight g x) = None
late_in s (SetTaskWeight t x) = None
