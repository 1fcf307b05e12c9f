-- No event of a scenario is refused.
use Rattle.scx_sched_policy.specs.Policy.{PolicyState}
use Rattle.scx_sched.specs.Sim.{SimState, IsFirstState}
use Rattle.scx_load_workloads.specs.Workload.{IsWorkload, first_tree}
use Rattle.scx_load_driver.specs.Runs.{AreAccepted}
use Rattle.scx_load_driver.proofs.Law as workloads
use Rattle.scx_load_replay.specs.declared.scenario.Scenario.{Scenario}
use Rattle.scx_load_replay.specs.declared.scenario.Scenario.TheVariants as scenario
use Rattle.scx_load_replay.specs.Scenarios.{IsScenario, workload_of, scenario_events}
use Rattle.scx_load_replay.proofs.Accepting as replays

-- in a machine that was made of its CPUs, groups and tasks
pub none_of_either : (x : Scenario) (p : PolicyState) (s : SimState) → IsScenario x → IsFirstState p (first_tree (workload_of x)) (workload_of x).cpus s → AreAccepted s (scenario_events x s)
none_of_either (scenario.Workload w) p s whole first = workloads.none_is_refused w p s whole first
none_of_either (scenario.Events r) p s whole first = replays.none_is_refused r p s whole first

-- its CPUs, groups and tasks are a workload's
pub workload_is_whole : (x : Scenario) → IsScenario x → IsWorkload (workload_of x)
workload_is_whole (scenario.Workload w) whole = whole
workload_is_whole (scenario.Events r) whole = whole.workload
