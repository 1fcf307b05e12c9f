-- Workload files whose events begin with a list of events.
use Rattle.std.specs.Prelude.{◌≡◌, ℕ, List, ◌++◌, Ok}
use Rattle.scx_weights.specs.declared.group.Group.{Group}
use Rattle.scx_sched_machine.specs.declared.events.Event.{Event}
use Rattle.scx_sched.specs.Sim.{SimState}
use Rattle.scx_load_workloads.specs.Workload.{WorkloadState}
use Rattle.scx_load_workloads.specs.Reading.{workload_by}
use Rattle.scx_load_driver.specs.Events.{workload_events}

-- the first list begins with the second one
pub record BeginsWith (xs ys : List Event) : Type 0 where
  pub rest : List Event
  pub list : xs ≡ ys ++ rest

-- both workloads have as many processors, the same groups, and the same tasks in them, each of the
-- same weight and with the same mask, and their random numbers begin at the same seed
pub record HasSameParts (v w : WorkloadState) : Type 0 where
  pub cpus : v.cpus ≡ w.cpus
  pub seed : v.seed ≡ w.seed
  pub groups : v.groups ≡ w.groups
  pub homes : v.homes ≡ w.homes
  pub own_weights : v.own_weights ≡ w.own_weights
  pub masks : v.masks ≡ w.masks

-- the first workload has the parts of the second one, and its events, for that machine, begin with
-- the list
pub record IsRunOf (v w : WorkloadState) (s : SimState) (events : List Event) : Type 0 where
  pub parts : HasSameParts v w
  pub begins : BeginsWith (workload_events v s) events

-- the text is the file of a workload with these parts, for a policy by the machine's rules, whose
-- events, for that machine, begin with the list
pub record IsFileOf (w : WorkloadState) (s : SimState) (events : List Event) (text : List ℕ)
    : Type 0 where
  pub file : WorkloadState
  pub read : workload_by s.state.world.rules text ≡ Ok file
  pub run : IsRunOf file w s events
