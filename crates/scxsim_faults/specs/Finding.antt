-- The finder of faults: what it keeps of each callback that it hears, and what is told of it. No
-- public clause cites it.
use Rattle.std.specs.Prelude.{◌≡◌, ℕ, ◌≤◌, Bool, true, false, length, Option, Some, None, IfSome}
use Rattle.scx_isa_semantics.specs.declared.callbacks.Callback.TheVariants.{SelectCpu}
use Rattle.scx_isa_semantics.specs.declared.instructions.Insn.TheVariants as insn
use Rattle.scx_isa_semantics.specs.Code.{at}
use Rattle.scx_isa_semantics.specs.HostTables.{helper_at}
use Rattle.scx_vm.specs.Programs.{VerifiedProgram}
use Rattle.scx_vm.specs.declared.arguments.Args.{Args}
use Rattle.scx_sched_world.specs.declared.faults.Fault.TheVariants.{NoSuchCpu}
use Rattle.scx_sched_world.specs.declared.eject.Cause.{Cause}
use Rattle.scx_sched_world.specs.declared.eject.Cause.TheVariants as reason
use Rattle.scx_sched_world.specs.declared.eject.Eject.{Eject}
use Rattle.scx_sched_world.specs.declared.eject.Eject.TheVariants as cause
use Rattle.scx_sched_world.specs.World.{WorldState}
use Rattle.scx_sched_machine.specs.declared.start.NewError.{NewError}
use Rattle.scx_sched_machine.specs.declared.start.NewError.TheVariants as start
use Rattle.scx_sched_policy.specs.Policy.{PolicyState}
use Rattle.scx_load_replay.specs.declared.scenario.Scenario.{Scenario}
use Rattle.scx_sched_machine.specs.Steps.{CallMade}
use Rattle.scxsim_faults.specs.declared.policy_queues.PolicyQueues.{PolicyQueues}
use Rattle.scxsim_faults.specs.declared.finder.Finder.{Finder}
use Rattle.scxsim_faults.specs.declared.place.FaultPlace.{FaultPlace}
use Rattle.scxsim_faults.specs.declared.place.HelperCall.{HelperCall}
use Rattle.scxsim_faults.specs.declared.running.Answered.{Answered}
use Rattle.scxsim_faults.specs.Places.{allowed_in, IsPlaceOf, IsPlaceUnder}

-- the run came to a call of that helper at that slot, with these values in r1 to r5, by which what
-- was awaited came about
pub record IsCallAt (program : VerifiedProgram) (ran : Answered) (slot : ℕ) (call : HelperCall)
    : Type 0 where
  pub came : ran.came ≡ Some (record { slot = slot; arguments = call.arguments })
  pub calls : at program.code slot ≡ Some (insn.Call call.number)
  pub helper : helper_at call.number ≡ Some call.helper

-- select_cpu answered no CPU, and before that it had no fault and didn't end the policy; the slot
-- is that of its exit
pub record IsAnswerAt (program : VerifiedProgram) (ran : Answered) (w : WorldState) (cause : Cause)
    (slot : ℕ) : Type 0 where
  pub none : w.call.cause ≡ None
  pub cause_is : cause ≡ reason.Fault NoSuchCpu
  pub slot_is : slot ≡ ran.last
  pub select_cpu : program.context.callback ≡ SelectCpu
  pub past : length w.cpus ≤ ran.answer

-- that slot, that fault or exit and that call are told of a run that ended in that world
abbrev pub IsToldAt :
    VerifiedProgram → Answered → WorldState → Cause → ℕ → Option HelperCall → Type 0
IsToldAt program ran w x slot None = IsAnswerAt program ran w x slot
IsToldAt program ran w x slot (Some call) =
    (w.call.cause ≡ Some x) × IsCallAt program ran slot call

-- all that is told of a run
pub record IsTold (program : VerifiedProgram) (a : Args) (ran : Answered) (w : WorldState)
    (queues : PolicyQueues) (p : FaultPlace) : Type 0 where
  pub callback : p.callback ≡ program.context.callback
  pub given : p.given ≡ a.first
  pub answer : p.answer ≡ ran.answer
  pub cpus : p.cpus ≡ length w.cpus
  pub allowed : p.allowed ≡ allowed_in w p.call
  pub queues_are : p.queues ≡ queues
  pub told_at : IsToldAt program ran w p.cause p.slot p.call

-- told of the call, the finder keeps the place of its first fault or exit if it had one
abbrev pub Finds : Finder → CallMade → Finder → Type 0
Finds f m g = IfSome g.found (IsPlaceOf m)

-- the ejection is for that fault or exit of a callback
abbrev pub IsForCause : Cause → Eject → Type 0
IsForCause x (cause.Fault f clock) = x ≡ reason.Fault f
IsForCause x (cause.Exit n clock) = x ≡ reason.Exit n
IsForCause x (cause.Stall t clock) = ⊥

-- whether a machine can't begin because init or enable fails
abbrev pub is_init_failed : NewError → Bool
is_init_failed (start.InitFailed n) = true
is_init_failed e = false

-- the place is found under that policy; there is none without a policy
abbrev pub IsUnderAny : Option PolicyState → Scenario → FaultPlace → Type 0
IsUnderAny None x p = ⊥
IsUnderAny (Some policy) x p = IsPlaceUnder policy x p
