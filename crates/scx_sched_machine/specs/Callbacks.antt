-- A callback is run, and what follows it.
use Rattle.std.specs.Prelude.{ℕ, ⊤, ◌≤◌, Bool, true, false, ◌&&◌, is_some, nat_lt, List, [], ◌∷◌, length, if◌then◌else◌, Option, Some, None}
use Rattle.scx_isa_semantics.specs.declared.callbacks.Callback.{Callback}
use Rattle.scx_isa_semantics.specs.declared.callbacks.Callback.TheVariants as callback
use Rattle.scx_isa_semantics.specs.Elements.{Maps}
use Rattle.scx_isa_semantics.specs.Code.{instruction_count}
use Rattle.scx_isa_semantics.specs.Endings.{Ending, run_of}
use Rattle.scx_isa_semantics.specs.Runs.{Runs}
use Rattle.scx_vm.specs.Programs.{VerifiedProgram}
use Rattle.scx_vm.specs.declared.arguments.Arg.{Arg}
use Rattle.scx_vm.specs.declared.arguments.Arg.TheVariants.{Unset, Num}
use Rattle.scx_vm.specs.declared.arguments.Args.{Args}
use Rattle.scx_vm.specs.Arguments.{program_arguments}
use Rattle.scx_vm.specs.Host.{host, answer_to, after_query}
use Rattle.scx_sched_world.specs.declared.eject.Cause.{Cause}
use Rattle.scx_sched_world.specs.declared.eject.Cause.TheVariants as reason
use Rattle.scx_sched_world.specs.declared.eject.Eject.{Eject}
use Rattle.scx_sched_world.specs.declared.notes.Note.{Note}
use Rattle.scx_sched_world.specs.declared.faults.Fault.{Fault}
use Rattle.scx_sched_world.specs.declared.faults.Fault.TheVariants.{Stuck, NoSuchCpu}
use Rattle.scx_sched_world.specs.World.{WorldState, at_callback, quiet}
use Rattle.scx_sched_world.specs.Helpers.{task_argument, world_functions}
use Rattle.scx_sched_policy.specs.Policy.{PolicyState, program_of}
use Rattle.scx_sched_machine.specs.Steps.{State, CallMade, Stepped, stays, one_after_other, is_by_linux}
use Rattle.scx_sched_machine.specs.Ejecting.{ejected_for}

-- the program is run with the world as its outside; one that is absent does nothing, and answers 0
unfoldable pub call_ending :
    Option VerifiedProgram → Callback → Args → Maps → WorldState → Ending WorldState
call_ending None b a maps w = record { answer = Some 0; maps = maps; outside = w }
call_ending (Some p) b a maps w =
    run_of (answer_to world_functions) (after_query world_functions) b p.code (program_arguments a)
    maps w

-- what a callback leaves, when its notes are handed on
abbrev pub after_callback : PolicyState → Ending WorldState → State
after_callback p e = record { policy = p; maps = e.maps; world = quiet e.outside }

-- a program that is absent isn't called
abbrev pub calls_of : Option VerifiedProgram → Callback → Args → Maps → WorldState → List CallMade
calls_of None b a maps w = []
calls_of (Some p) b a maps w =
    record { callback = b; program = p; arguments = a; maps = maps; world = w } ∷ []

-- ---- what is wrong with a callback

-- select_cpu answers a processor
abbrev pub answer_fault : Callback → WorldState → ℕ → Option Fault
answer_fault callback.SelectCpu w n = if nat_lt n (length w.cpus) then None else Some NoSuchCpu
answer_fault b w n = None

-- one that comes to no answer is stuck
abbrev pub end_fault : Callback → WorldState → Option ℕ → Option Fault
end_fault b w None = Some Stuck
end_fault b w (Some n) = answer_fault b w n

-- a fault as a cause to put the policy out of force
abbrev pub as_cause : Option Fault → Option Cause
as_cause None = None
as_cause (Some f) = Some (reason.Fault f)

-- the first cause, if there is one, else the second one, if there is one
abbrev pub or_cause : Option Cause → Option Cause → Option Cause
or_cause None o = o
or_cause (Some x) o = Some x

-- why the policy is put out of force as a callback ends: the first fault or exit of its helper
-- calls; where there is none, the fault of its end
abbrev pub cause_of : Callback → Ending WorldState → Option Cause
cause_of b e = or_cause e.outside.call.cause (as_cause (end_fault b e.outside e.answer))

-- ---- a callback of the policy

-- a program of the policy, or none once the policy is ejected
abbrev pub unless_ejected : Option Eject → Option VerifiedProgram → Option VerifiedProgram
unless_ejected None p = p
unless_ejected (Some x) p = None

-- its program, while the policy is in force
abbrev pub acting : State → Callback → Option VerifiedProgram
acting s b = unless_ejected s.world.ejected (program_of s.policy b)

-- one that moves nobody, and that is never wrong where no program is called
abbrev pub is_calm : Callback → Bool
is_calm callback.Dispatch = false
is_calm callback.SelectCpu = false
is_calm b = true

-- with that task and processor at hand; where it had a cause the policy is ejected as it ends
unfoldable pub call_back : State → Callback → Args → ℕ → ℕ → Stepped
call_back s b a t c =
    let p = acting s b in
    let w = at_callback s.world b t c in
    let e = call_ending p b a s.maps w in
    one_after_other (record {
      state = after_callback s.policy e;
      notes = e.outside.notes;
      calls = calls_of p b a s.maps w;
    })
    (ejected_for (cause_of b e) (after_callback s.policy e))

-- Linux rules call some callbacks more, where the policy has them
unfoldable pub call_by_linux : State → Callback → Args → ℕ → ℕ → Stepped
call_by_linux s b a t c =
    if is_by_linux s && is_some (program_of s.policy b) then call_back s b a t c else stays s

-- what it answers, if it comes to an answer
unfoldable pub answered_by : State → Callback → Args → ℕ → ℕ → Option ℕ
answered_by s b a t c = (call_ending (acting s b) b a s.maps (at_callback s.world b t c)).answer

-- what its program notes while it runs
unfoldable pub noted_by : State → Callback → Args → ℕ → ℕ → List Note
noted_by s b a t c =
    (call_ending (acting s b) b a s.maps (at_callback s.world b t c)).outside.notes

-- a callback that is called is never stuck: it comes to an answer, in no more steps than its
-- program has instructions
pub record IsAnswered (c : CallMade) : Type 0 where
  pub answer : ℕ
  pub steps : ℕ
  pub maps : Maps
  pub world : WorldState
  pub run : Runs (host world_functions) c.callback c.program.code (program_arguments c.arguments)
      c.maps c.world answer steps maps world
  pub in_bound : steps ≤ instruction_count c.program.code

-- each callback that is called comes to an answer, in no more steps than its program
-- has instructions
abbrev pub AreAnswered : List CallMade → Type 0
AreAnswered [] = ⊤
AreAnswered (c ∷ cs) = IsAnswered c × AreAnswered cs

-- ---- what callbacks are given

-- nothing in r1 to r3, as init is given
abbrev pub no_arguments : Args
no_arguments = record { first = Unset; second = Unset; third = Unset }

-- a task in r1 and nothing else, as enable and running are given
abbrev pub one_task : ℕ → Args
one_task t = record { first = task_argument t; second = Unset; third = Unset }

-- a task, the processor on which it ran last, and 0
abbrev pub task_cpu_and_0 : ℕ → ℕ → Args
task_cpu_and_0 t c = record { first = task_argument t; second = Num c; third = Num 0 }

-- a task and a number: the flags of enqueue, or whether the task stays runnable
abbrev pub task_and_number : ℕ → ℕ → Args
task_and_number t n = record { first = task_argument t; second = Num n; third = Unset }

-- a number and nothing else, as `timer` is given
abbrev pub one_number : ℕ → Args
one_number n = record { first = Num n; second = Unset; third = Unset }

-- two numbers, as `update_idle` is given
abbrev pub two_numbers : ℕ → ℕ → Args
two_numbers n m = record { first = Num n; second = Num m; third = Unset }

-- a pointer to a task, or the number 0 where there is no task
abbrev pub task_or_0 : Option ℕ → Arg
task_or_0 None = Num 0
task_or_0 (Some t) = task_argument t

-- a processor, and the task before or 0
abbrev pub cpu_and_task : ℕ → Option ℕ → Args
cpu_and_task c p = record { first = Num c; second = task_or_0 p; third = Unset }
