-- Ejected for a cause: a policy is put out of force because a task waited too long, or
-- because a callback that really ran had a fault or called `exit`; once, and for good. And wherever
-- a callback has a fault or calls `exit`, it is.
use Rattle.std.specs.Prelude.{◌≡◌, ℕ, ℤ, ◌+◌, ◌≤◌, List, [], ◌∷◌, ◌++◌, length, Some, None}
use Rattle.scx_isa_semantics.specs.declared.callbacks.Callback.TheVariants.{SelectCpu}
use Rattle.scx_isa_semantics.specs.Code.{instruction_count}
use Rattle.scx_isa_semantics.specs.Elements.{Maps}
use Rattle.scx_isa_semantics.specs.Runs.{Runs}
use Rattle.scx_vm.specs.Arguments.{program_arguments}
use Rattle.scx_vm.specs.Host.{host}
use Rattle.scx_sched_world.specs.declared.eject.Cause.{Cause}
use Rattle.scx_sched_world.specs.declared.eject.Cause.TheVariants as reason
use Rattle.scx_sched_world.specs.declared.eject.Eject.{Eject}
use Rattle.scx_sched_world.specs.declared.eject.Eject.TheVariants as cause
use Rattle.scx_sched_world.specs.declared.faults.Fault.{Fault}
use Rattle.scx_sched_world.specs.declared.faults.Fault.TheVariants.{Stuck, NoSuchCpu}
use Rattle.scx_sched_world.specs.World.{WorldState}
use Rattle.scx_sched_world.specs.Tasks.{later}
use Rattle.scx_sched_world.specs.Waits.{IsFirstOverdue}
use Rattle.scx_sched_world.specs.Helpers.{world_functions}
use Rattle.scx_sched_machine.specs.declared.events.Event.{Event}
use Rattle.scx_sched_machine.specs.declared.events.Event.TheVariants.{Wake, Sleep, Tick, Clock, SetWeight, SetTaskWeight}
use Rattle.scx_sched_machine.specs.Steps.{CallMade}
use Rattle.scx_sched.specs.Sim.{SimState, calls_of}

-- the program comes to that answer and to that world, in no more steps than it has instructions
pub record EndsIn (m : CallMade) (answer : ℕ) (w : WorldState) : Type 0 where
  pub steps : ℕ
  pub maps : Maps
  pub run : Runs (host world_functions) m.callback m.program.code (program_arguments m.arguments)
      m.maps m.world answer steps maps w
  pub in_bound : steps ≤ instruction_count m.program.code

-- a callback with that fault: of its first helper call that has one, or else of its answer
pub data HasFault (m : CallMade) (f : Fault) : Type 0 where
  Of_helper : (answer : ℕ) (w : WorldState)
      → EndsIn m answer w → w.call.cause ≡ Some (reason.Fault f) → HasFault m f
  Of_answer : (answer : ℕ) (w : WorldState)
      → EndsIn m answer w → w.call.cause ≡ None → m.callback ≡ SelectCpu → length w.cpus ≤ answer
      → f ≡ NoSuchCpu → HasFault m f

-- a callback that called `exit` with that code, before any fault and any other call of it
pub data HasExit (m : CallMade) (code : ℤ) : Type 0 where
  Of_call : (answer : ℕ) (w : WorldState)
      → EndsIn m answer w → w.call.cause ≡ Some (reason.Exit code) → HasExit m code

-- a callback with that reason to put the policy out of force
abbrev pub HasReason : CallMade → Cause → Type 0
HasReason m (reason.Fault f) = HasFault m f
HasReason m (reason.Exit code) = HasExit m code

-- the call is the last one of these
abbrev pub IsLast : CallMade → List CallMade → Type 0
IsLast m calls = (before : List CallMade) × (calls ≡ before ++ m ∷ [])

-- one of the calls
abbrev pub IsAmong : CallMade → List CallMade → Type 0
IsAmong m calls = (before : List CallMade) × (after : List CallMade) × (calls ≡ before ++ m ∷ after)

-- the clock by which things happen in an event: that of the clock comes once it has grown
abbrev pub clock_in : SimState → Event → ℕ
clock_in s (Wake t) = s.state.world.clock
clock_in s (Sleep t) = s.state.world.clock
clock_in s (Tick c) = s.state.world.clock
clock_in s Clock = s.state.world.clock + 1
clock_in s (SetWeight g x) = s.state.world.clock
clock_in s (SetTaskWeight t x) = s.state.world.clock

-- what put a policy out of force in an event
pub data IsCause (s : SimState) (e : Event) : Eject → Type 0 where
  Waited : (t : ℕ)
      → e ≡ Clock → IsFirstOverdue (later s.state.world) s.state.policy.timeout_ms t
      → IsCause s e (cause.Stall t (s.state.world.clock + 1))
  Went_wrong : (m : CallMade) (f : Fault)
      → IsLast m (calls_of s e) → HasFault m f → IsCause s e (cause.Fault f (clock_in s e))
  Ended : (m : CallMade) (code : ℤ)
      → IsLast m (calls_of s e) → HasExit m code → IsCause s e (cause.Exit code (clock_in s e))

-- from before an event to after it
pub record EjectsOnce (s : SimState) (e : Event) (t : SimState) : Type 0 where
  pub stays : (x : Eject) → s.state.world.ejected ≡ Some x → t.state.world.ejected ≡ Some x
  pub cause : (x : Eject)
      → s.state.world.ejected ≡ None → t.state.world.ejected ≡ Some x → IsCause s e x
  -- no callback has a fault after which the policy is in force
  pub heard : t.state.world.ejected ≡ None → (m : CallMade) (f : Fault) → IsAmong m (calls_of s e)
      → HasFault m f → ⊥
  -- nor does any call `exit`
  pub obeyed : t.state.world.ejected ≡ None → (m : CallMade) (code : ℤ) → IsAmong m (calls_of s e)
      → HasExit m code → ⊥

-- no policy is out of force for a callback that was stuck
abbrev pub IsNeverStuck : WorldState → Type 0
IsNeverStuck w = (n : ℕ) → w.ejected ≡ Some (cause.Fault Stuck n) → ⊥
