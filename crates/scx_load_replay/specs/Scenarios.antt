-- A scenario: what a workload or a file of events says of a run.
use Rattle.std.specs.Prelude.{ℕ, Bool, true, false, List, Ok}
use Rattle.scx_isa_semantics.specs.Results.{◌>>=◌}
use Rattle.scx_isa_semantics.specs.declared.rules.Rules.{Rules}
use Rattle.scx_sched_machine.specs.declared.events.Event.{Event}
use Rattle.scx_sched.specs.Sim.{SimState}
use Rattle.scx_load_files.specs.Faults.{Reading}
use Rattle.scx_load_workloads.specs.Workload.{WorkloadState, IsWorkload}
use Rattle.scx_load_workloads.specs.Reading.{workload_by}
use Rattle.scx_load_driver.specs.Events.{workload_events}
use Rattle.scx_load_replay.specs.Replay.{IsReplay}
use Rattle.scx_load_replay.specs.Events.{replay_events}
use Rattle.scx_load_replay.specs.Reading.{replay_by, has_events}
use Rattle.scx_load_replay.specs.declared.scenario.Scenario.{Scenario}
use Rattle.scx_load_replay.specs.declared.scenario.Scenario.TheVariants as scenario

-- every scenario is whole
abbrev pub IsScenario : Scenario → Type 0
IsScenario (scenario.Workload w) = IsWorkload w
IsScenario (scenario.Events r) = IsReplay r

-- the CPUs, milliseconds, groups and tasks of a scenario
abbrev pub workload_of : Scenario → WorkloadState
workload_of (scenario.Workload w) = w
workload_of (scenario.Events r) = r.workload

-- the events of a scenario, from a first state on
abbrev pub scenario_events : Scenario → SimState → List Event
scenario_events (scenario.Workload w) s = workload_events w s
scenario_events (scenario.Events r) s = replay_events r

-- the scenario that a text is as a file of events, or else as a workload
abbrev pub scenario_if : Bool → Rules → List ℕ → Reading Scenario
scenario_if true rules text = replay_by rules text >>= λ r. Ok (scenario.Events r)
scenario_if false rules text = workload_by rules text >>= λ w. Ok (scenario.Workload w)

-- the scenario that a text is for a policy by those rules: a file of events if its top table has a
-- key `events`
abbrev pub scenario_by : Rules → List ℕ → Reading Scenario
scenario_by rules text = scenario_if (has_events text) rules text
