-- A machine begins, by cases: each task is at home, init runs, then enable and `set_weight` of each
-- task, by number, and then `update_idle` of each processor.
use Rattle.std.specs.Prelude.{◌≡◌, ℕ, suc, ℤ, ◌<◌, true, false, length, Some, None, Result, Ok, Err}
use Rattle.std.specs.Int.{w64, bit_at, cast_signed}
use Rattle.scx_sched_tasks.specs.declared.task.Task.{Task}
use Rattle.scx_weights.specs.Hierarchy.{Hierarchy, is_active_task, own_weight, mask_of}
use Rattle.scx_isa_semantics.specs.declared.callbacks.Callback.{Callback}
use Rattle.scx_isa_semantics.specs.declared.callbacks.Callback.TheVariants as callback
use Rattle.scx_isa_semantics.specs.Endings.{Ending}
use Rattle.scx_vm.specs.Programs.{VerifiedProgram}
use Rattle.scx_vm.specs.declared.arguments.Args.{Args}
use Rattle.scx_sched_world.specs.declared.faults.Fault.{Fault}
use Rattle.scx_sched_world.specs.declared.eject.Cause.TheVariants as reason
use Rattle.scx_sched_world.specs.World.{WorldState, without_marks, task_at, at_callback}
use Rattle.scx_sched_world.specs.First.{first_world}
use Rattle.scx_sched_world.specs.Tasks.{with_home, begun_periods}
use Rattle.scx_sched_policy.specs.Policy.{PolicyState, program_of}
use Rattle.scx_sched_machine.specs.Steps.{State, with_world, is_by_linux}
use Rattle.scx_sched_machine.specs.Callbacks.{acting, after_callback, no_arguments, one_task, task_and_number, two_numbers}
use Rattle.scx_sched_machine.specs.Start.{by_policy, blank, fault_answer}
use Rattle.scx_laws.specs.BoundTasks.{IsFirstHome}
use Rattle.scx_laws.specs.Differences.{HearsIdle}
use Rattle.scx_laws.specs.Callbacks.{EndsAs}

-- a task is bound, and to none of the processors
pub record IsNowhere (tree : Hierarchy) (cpus t : ℕ) : Type 0 where
  pub some : 0 < length tree.masks
  pub outside : (c : ℕ) → c < cpus → ¬ (bit_at (mask_of tree t) c ≡ 1)

-- there must be 1 to 64 processors, and every task asleep and able to run on one of them
pub data HasBadShape (tree : Hierarchy) (cpus : ℕ) : Type 0 where
  NoCpu : cpus ≡ 0 → HasBadShape tree cpus
  ManyCpus : 64 < cpus → HasBadShape tree cpus
  Active : (t : ℕ) → t < length tree.homes → is_active_task tree t ≡ true → HasBadShape tree cpus
  Nowhere : (t : ℕ) → t < length tree.homes → IsNowhere tree cpus t → HasBadShape tree cpus

-- ---- before any callback

-- the record of a task that was last on the lowest processor on which it may run
pub record IsAtHome (w : WorldState) (t : ℕ) (x : Task) : Type 0 where
  pub cpu : ℕ
  pub first : IsFirstHome w t cpu
  pub all : x ≡ with_home (task_at w t) cpu

-- each task was last there
pub record AreAtHome (w v : WorldState) : Type 0 where
  pub many : length v.tasks ≡ length w.tasks
  pub each : (t : ℕ) → t < length w.tasks → IsAtHome w t (task_at v t)
  pub others : v ≡ record w { tasks = v.tasks }

-- the state of a machine before any callback: periods of all groups begin, random numbers with the
-- policy's seed, and each task is at home
pub record IsBlank (p : PolicyState) (tree : Hierarchy) (cpus : ℕ) (s : State) : Type 0 where
  pub world : WorldState
  pub at_home : AreAtHome (begun_periods (by_policy p (first_world tree cpus))) world
  pub all : s ≡ with_world (blank p tree cpus) world

-- ---- init

-- a callback fails by a fault or an exit, which goes before an answer, or where it is stuck
pub data FailsBy (e : Ending WorldState) : ℤ → Type 0 where
  HasFault : (f : Fault) → e.outside.call.cause ≡ Some (reason.Fault f) → FailsBy e fault_answer
  HasExit : (n : ℤ) → e.outside.call.cause ≡ Some (reason.Exit n) → FailsBy e n
  HasStuck : e.outside.call.cause ≡ None → e.answer ≡ None → FailsBy e fault_answer

-- it fails, or any answer but 0 ends it
pub data Judged (s : State) (e : Ending WorldState) (r : Result State ℤ) : Type 0 where
  FailsFirst : (n : ℤ) → FailsBy e n → r ≡ Err n → Judged s e r
  Refuses : (n : ℕ)
      → e.outside.call.cause ≡ None → e.answer ≡ Some n → 0 < n → r ≡ Err (cast_signed w64 n)
      → Judged s e r
  Accepts : e.outside.call.cause ≡ None → e.answer ≡ Some 0 → r ≡ Ok (after_callback s.policy e)
      → Judged s e r

-- init is called: the state after it, or the number with which it fails
pub record Initializes (s : State) (r : Result State ℤ) : Type 0 where
  pub ending : Ending WorldState
  pub ends : EndsAs (acting s callback.Init) callback.Init no_arguments s.maps
      (at_callback s.world callback.Init 0 0) ending
  pub judged : Judged s ending r

-- ---- callbacks that answer nothing

-- after one the machine goes on, or it fails
pub data Passes (s : State) (e : Ending WorldState) (r : Result State ℤ) : Type 0 where
  Fails : (n : ℤ) → FailsBy e n → r ≡ Err n → Passes s e r
  Answers : (n : ℕ)
      → e.outside.call.cause ≡ None → e.answer ≡ Some n → r ≡ Ok (after_callback s.policy e)
      → Passes s e r

-- one is called, with that task and processor at hand: the state after it, or the number with which
-- it fails
pub record Calls (s : State) (b : Callback) (a : Args) (t c : ℕ) (r : Result State ℤ)
    : Type 0 where
  pub ending : Ending WorldState
  pub ends : EndsAs (acting s b) b a s.maps (at_callback s.world b t c) ending
  pub passes : Passes s ending r

-- one that is called under Linux rules alone, if the policy has it
pub data CallsByLinux (s : State) (b : Callback) (a : Args) (t c : ℕ) (r : Result State ℤ)
    : Type 0 where
  NotByPlain : is_by_linux s ≡ false → r ≡ Ok s → CallsByLinux s b a t c r
  IsNotThere : program_of s.policy b ≡ None → r ≡ Ok s → CallsByLinux s b a t c r
  IsCalledFor : (p : VerifiedProgram)
      → is_by_linux s ≡ true → program_of s.policy b ≡ Some p → Calls s b a t c r
      → CallsByLinux s b a t c r

-- ---- each task

-- enable is called for a task, and then `set_weight` with its own weight (ext.c,
-- `__scx_enable_task`)
pub data Enables (s : State) (t : ℕ) (r : Result State ℤ) : Type 0 where
  NotEnabled : (n : ℤ)
      → Calls s callback.Enable (one_task t) t 0 (Err n) → r ≡ Err n → Enables s t r
  IsEnabled : (u : State)
      → Calls s callback.Enable (one_task t) t 0 (Ok u)
      → CallsByLinux u callback.SetWeight (task_and_number t (own_weight u.world.tree t)) t 0 r
      → Enables s t r

-- of the first tasks; none after one that fails
pub data EnablesAll : ℕ → State → Result State ℤ → Type 0 where
  Nobody : (s : State) (r : Result State ℤ) → r ≡ Ok s → EnablesAll 0 s r
  Failed : (n : ℕ) (s : State) (x : ℤ) (r : Result State ℤ)
      → EnablesAll n s (Err x) → r ≡ Err x → EnablesAll (suc n) s r
  Next : (n : ℕ) (s u : State) (r : Result State ℤ)
      → EnablesAll n s (Ok u) → Enables u n r → EnablesAll (suc n) s r

-- ---- each processor

-- the policy hears of the first processors that they are idle; of none after one that fails
pub data TellsIdleAll : ℕ → State → Result State ℤ → Type 0 where
  NoneTold : (s : State) (r : Result State ℤ) → r ≡ Ok s → TellsIdleAll 0 s r
  HasFailed : (n : ℕ) (s : State) (x : ℤ) (r : Result State ℤ)
      → TellsIdleAll n s (Err x) → r ≡ Err x → TellsIdleAll (suc n) s r
  NextTold : (n : ℕ) (s u : State) (r : Result State ℤ)
      → TellsIdleAll n s (Ok u) → CallsByLinux u callback.UpdateIdle (two_numbers n 1) 0 n r
      → TellsIdleAll (suc n) s r

-- a policy that has `update_idle` hears of all processors that they are idle; which ones it kicked
-- or claimed in that is forgotten (ext.c, `SCX_RQ_ROOT_IDLE_RENOTIFY`)
pub data AllAreIdle (s : State) (r : Result State ℤ) : Type 0 where
  NobodyHears : ¬ HearsIdle s → r ≡ Ok s → AllAreIdle s r
  IdleFails : (n : ℤ)
      → HearsIdle s → TellsIdleAll (length s.world.cpus) s (Err n) → r ≡ Err n → AllAreIdle s r
  IdleTold : (u : State)
      → HearsIdle s → TellsIdleAll (length s.world.cpus) s (Ok u)
      → r ≡ Ok (with_world u (without_marks u.world)) → AllAreIdle s r

-- ---- all of it

-- from the state before any callback: the first state of a machine, or the number with which a
-- callback fails
pub data BeginsFrom (b : State) (r : Result State ℤ) : Type 0 where
  InitFails : (n : ℤ) → Initializes b (Err n) → r ≡ Err n → BeginsFrom b r
  EnableFails : (s : State) (n : ℤ)
      → Initializes b (Ok s) → EnablesAll (length s.world.tasks) s (Err n) → r ≡ Err n
      → BeginsFrom b r
  Succeeds : (s u : State)
      → Initializes b (Ok s) → EnablesAll (length s.world.tasks) s (Ok u) → AllAreIdle u r
      → BeginsFrom b r

-- the first state of a machine, or the number with which a callback fails
pub record Begins (p : PolicyState) (tree : Hierarchy) (cpus : ℕ) (r : Result State ℤ)
    : Type 0 where
  pub before : State
  pub is_blank : IsBlank p tree cpus before
  pub from : BeginsFrom before r
