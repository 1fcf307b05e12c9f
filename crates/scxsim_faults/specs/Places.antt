-- The place of a policy's fault or exit: the call of a helper, and the event of the run.
use Rattle.std.specs.Prelude.{◌≡◌, ℕ, ℤ, ◌≤◌, List, ◌∷◌, ◌++◌, length, slice_get, take, Option, Some, None, Ok, Err}
use Rattle.scx_isa_semantics.specs.declared.callbacks.Callback.TheVariants.{SelectCpu}
use Rattle.scx_isa_semantics.specs.declared.instructions.Insn.TheVariants as insn
use Rattle.scx_isa_semantics.specs.declared.values.Pointer.{Pointer}
use Rattle.scx_isa_semantics.specs.declared.values.Pointer.TheVariants as pointer
use Rattle.scx_isa_semantics.specs.declared.values.Value.{Value}
use Rattle.scx_isa_semantics.specs.declared.values.Value.TheVariants as value
use Rattle.scx_isa_semantics.specs.Code.{at}
use Rattle.scx_isa_semantics.specs.Elements.{Maps}
use Rattle.scx_isa_semantics.specs.HostTables.{helper_at}
use Rattle.scx_isa_semantics.specs.Machine.{Machine, start}
use Rattle.scx_isa_semantics.specs.Steps.{step}
use Rattle.scx_isa_semantics.specs.Runs.{Leads, LeadsTo}
use Rattle.scx_vm.specs.Programs.{VerifiedProgram}
use Rattle.scx_vm.specs.declared.arguments.Args.{Args}
use Rattle.scx_vm.specs.Arguments.{program_arguments}
use Rattle.scx_vm.specs.Host.{host}
use Rattle.scx_vm_tagged.specs.Watched.{held, EndsAt}
use Rattle.scx_sched_world.specs.declared.eject.Cause.{Cause}
use Rattle.scx_sched_world.specs.declared.eject.Cause.TheVariants as reason
use Rattle.scx_sched_world.specs.declared.faults.Fault.TheVariants.{NoSuchCpu}
use Rattle.scx_sched_world.specs.Ejecting.{eject_of}
use Rattle.scx_sched_world.specs.World.{WorldState}
use Rattle.scx_sched_world.specs.Helpers.{cpus_of, world_functions}
use Rattle.scx_sched_machine.specs.declared.events.Event.{Event}
use Rattle.scx_sched_policy.specs.Policy.{PolicyState}
use Rattle.scx_sched_machine.specs.Start.{first_state, start_calls}
use Rattle.scx_sched_machine.specs.Steps.{CallMade}
use Rattle.scx_sched.specs.Causes.{EndsIn, IsLast}
use Rattle.scx_sched.specs.Sim.{SimState, IsFirstState, after_event, calls_of}
use Rattle.scx_load_policies.specs.Policies.{PolicyFile}
use Rattle.scx_load_policies.specs.Reading.{policy_text}
use Rattle.scx_load_policies.specs.Building.{IsBuilt}
use Rattle.scx_load_workloads.specs.Workload.{WorkloadState, first_tree}
use Rattle.scx_load_driver.specs.Runs.{stepped_all}
use Rattle.scx_load_replay.specs.declared.scenario.Scenario.{Scenario}
use Rattle.scx_load_replay.specs.Scenarios.{workload_of, scenario_events}
use Rattle.scxsim_faults.specs.declared.place.FaultPlace.{FaultPlace}
use Rattle.scxsim_faults.specs.declared.place.HelperCall.{HelperCall}
use Rattle.scxsim_faults.specs.declared.policy_queues.PolicyQueues.{PolicyQueues}
use Rattle.scxsim_faults.specs.Queues.{listed, policy_queues}

-- ---- in the run of one callback

-- the call of a program as the callback that it was verified for
abbrev pub call_of : VerifiedProgram → Args → Maps → WorldState → CallMade
call_of p a maps w = record {
  callback = p.context.callback;
  program = p;
  arguments = a;
  maps = maps;
  world = w;
}

-- The run of the callback's program, from its start, comes to a call of this helper at this slot,
-- with these values in r1 to r5. Up to this call the callback has no fault, and it didn't end the
-- policy. After it, it has that fault, or has ended the policy so.
pub record IsFirstCause (m : CallMade) (cause : Cause) (slot : ℕ) (call : HelperCall)
    : Type 0 where
  pub steps : ℕ
  pub state : Machine
  pub before : WorldState
  pub leads : Leads (host world_functions) m.callback m.program.code steps 0
      (start (program_arguments m.arguments) m.maps) m.world slot state before
  pub calls : at m.program.code slot ≡ Some (insn.Call call.number)
  pub helper : helper_at call.number ≡ Some call.helper
  pub registers : call.arguments ≡ held state
  pub none_before : (n s : ℕ) (k : Machine) (w : WorldState) → n ≤ steps
      → Leads (host world_functions) m.callback m.program.code n 0
      (start (program_arguments m.arguments) m.maps) m.world s k w
      → w.call.cause ≡ None
  pub next_slot : ℕ
  pub next_state : Machine
  pub after : WorldState
  pub does : LeadsTo (host world_functions) (step m.callback m.program.code slot state) before
      next_slot next_state after
  pub has : after.call.cause ≡ Some cause

-- No helper call of the run has a fault or ends the policy, and select_cpu ends at this slot with
-- an answer that is no CPU.
pub record IsWrongAnswer (m : CallMade) (cause : Cause) (slot answer : ℕ) : Type 0 where
  pub world : WorldState
  pub ends : EndsAt (host world_functions) m.callback m.program.code (program_arguments m.arguments)
      m.maps m.world answer world slot
  pub none_before : world.call.cause ≡ None
  pub select_cpu : m.callback ≡ SelectCpu
  pub past : length world.cpus ≤ answer
  pub cause_is : cause ≡ reason.Fault NoSuchCpu

-- a place with a helper's call is the first that has a fault or ends the policy; one without is
-- that of a wrong answer
abbrev pub IsCauseAt : CallMade → FaultPlace → Option HelperCall → Type 0
IsCauseAt m p None = IsWrongAnswer m p.cause p.slot p.answer
IsCauseAt m p (Some call) = IsFirstCause m p.cause p.slot call

-- the policy's queues before that: at least those that were there as the callback began, and
-- of those that are there as it ends the first ones
pub record HasQueues (m : CallMade) (w : WorldState) (queues : PolicyQueues) : Type 0 where
  pub count : ℕ
  pub enough : length (policy_queues m.world) ≤ count
  pub first : listed queues ≡ take count (policy_queues w)

-- the processors on which the task at that pointer may run, one bit each; 0 where it points to no
-- task
abbrev pub allowed_at : WorldState → Pointer → ℕ
allowed_at w (pointer.Task t) = cpus_of w t.0
allowed_at w p = 0

-- the processors on which a task may run, one bit each; 0 of a value that is no task
abbrev pub allowed_to : WorldState → Option Value → ℕ
allowed_to w (Some (value.Pointer p)) = allowed_at w p
allowed_to w v = 0

-- the processors on which the task may run that a call was given first, one bit each
abbrev pub allowed_in : WorldState → Option HelperCall → ℕ
allowed_in w None = 0
allowed_in w (Some call) = allowed_to w (slice_get call.arguments 0)

-- the callback comes to the place's answer, in a world with as many CPUs and these queues of the
-- policy, where the task of the call may run on those CPUs
pub record HasAnswered (m : CallMade) (p : FaultPlace) : Type 0 where
  pub world : WorldState
  pub ends : EndsIn m p.answer world
  pub count : p.cpus ≡ length world.cpus
  pub allowed : p.allowed ≡ allowed_in world p.call
  pub has_queues : HasQueues m world p.queues

-- the place is where the first fault or exit of that callback came
pub record IsPlaceOf (m : CallMade) (p : FaultPlace) : Type 0 where
  pub callback : p.callback ≡ m.callback
  pub given : p.given ≡ m.arguments.first
  pub answered : HasAnswered m p
  pub cause_at : IsCauseAt m p p.call

-- ---- in a run of the machine

-- In this event the policy is ejected for that fault or exit. The callback that ejects it is the
-- last one of the event, and the place is its.
pub record IsPlaceAt (s : SimState) (event : Event) (p : FaultPlace) : Type 0 where
  pub in_force : s.state.world.ejected ≡ None
  pub clock : ℕ
  pub ejected : (after_event s event).state.world.ejected ≡ Some (eject_of p.cause clock)
  pub ejecting : CallMade
  pub last : IsLast ejecting (calls_of s event)
  pub place : IsPlaceOf ejecting p

-- in one of these events the policy is ejected there
pub record IsPlaceIn (s : SimState) (events : List Event) (p : FaultPlace) : Type 0 where
  pub done : List Event
  pub event : Event
  pub rest : List Event
  pub whole : events ≡ done ++ event ∷ rest
  pub place : IsPlaceAt (stepped_all s done) event p

-- The machine can't begin, since init or enable fails. The callback that fails is the last one that
-- is called, and the place is its.
pub record IsPlaceAtStart (policy : PolicyState) (w : WorkloadState) (p : FaultPlace) : Type 0 where
  pub answer : ℤ
  pub fails : first_state policy (first_tree w) w.cpus ≡ Err answer
  pub failing : CallMade
  pub last : IsLast failing (start_calls policy (first_tree w) w.cpus)
  pub place : IsPlaceOf failing p

-- in the run of the scenario under the policy the place is where it was ejected, or couldn't begin
pub data IsPlaceUnder (policy : PolicyState) (x : Scenario) (p : FaultPlace) : Type 0 where
  In_event : (s : SimState)
      → IsFirstState policy (first_tree (workload_of x)) (workload_of x).cpus s
      → IsPlaceIn s (scenario_events x s) p → IsPlaceUnder policy x p
  At_start : IsPlaceAtStart policy (workload_of x) p → IsPlaceUnder policy x p

-- that is the policy of the text, and its random numbers begin at the seed
pub record IsPolicyOf (text : List ℕ) (seed : ℕ) (policy : PolicyState) : Type 0 where
  pub file : PolicyFile
  pub read : policy_text text ≡ Ok file
  pub built : IsBuilt file policy
  pub seeded : policy.seed ≡ seed

-- the place is where the policy of that text was ejected
pub record IsPlaceFound (text : List ℕ) (x : Scenario) (p : FaultPlace) : Type 0 where
  pub policy : PolicyState
  pub reads : IsPolicyOf text (workload_of x).seed policy
  pub there : IsPlaceUnder policy x p
