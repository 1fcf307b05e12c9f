-- The first state: after init, enable and `set_weight` of each task, and `update_idle` of each
-- processor.
use Rattle.std.specs.Prelude.{◌≡◌, ℕ, ⊤, zero, suc, ℤ, negsuc, Bool, true, false, ◌&&◌, ◌||◌, not, ◌==◌, nat_lt, List, [], ◌++◌, length, if◌then◌else◌, Option, Some, None, is_some, Result, Ok, Err}
use Rattle.std.specs.Int.{w64, cast_signed}
use Rattle.scx_maps.specs.Contents.{zeros}
use Rattle.scx_weights.specs.Hierarchy.{Hierarchy, is_active_task, own_weight, binds, is_in_mask}
use Rattle.scx_weights.specs.Counting.{any_below}
use Rattle.scx_isa_semantics.specs.declared.callbacks.Callback.{Callback}
use Rattle.scx_isa_semantics.specs.declared.callbacks.Callback.TheVariants as callback
use Rattle.scx_isa_semantics.specs.Endings.{Ending}
use Rattle.scx_sched_world.specs.declared.eject.Cause.{Cause}
use Rattle.scx_sched_world.specs.declared.eject.Cause.TheVariants as reason
use Rattle.scx_vm.specs.declared.arguments.Args.{Args}
use Rattle.scx_sched_world.specs.World.{WorldState, with_rules, with_tracking, with_timers, with_random, without_marks, at_callback}
use Rattle.scx_sched_world.specs.First.{first_world, at_first_homes}
use Rattle.scx_sched_world.specs.Tasks.{begun_periods}
use Rattle.scx_sched_machine.specs.declared.start.NewError.{NewError}
use Rattle.scx_sched_machine.specs.declared.start.NewError.TheVariants.{InitFailed, BadShape, OutOfMemory}
use Rattle.scx_sched_policy.specs.Policy.{PolicyState, program_of, tracks_idle}
use Rattle.scx_sched_machine.specs.Steps.{State, CallMade, with_world, is_by_linux}
use Rattle.scx_sched_machine.specs.Callbacks.{acting, call_ending, calls_of, after_callback, AreAnswered, no_arguments, one_task, task_and_number, two_numbers}

-- whether a task is bound, and to no processor below that number
abbrev pub is_nowhere : Hierarchy → ℕ → ℕ → Bool
is_nowhere tree cpus t = binds tree && not (any_below cpus (is_in_mask tree t))

-- the number of processors is out of range, a task is active, or one may run nowhere
abbrev pub is_bad_shape : Hierarchy → ℕ → Bool
is_bad_shape tree cpus =
    nat_lt cpus 1
    || (nat_lt 64 cpus
    || any_below (length tree.homes) (λ t. is_active_task tree t || is_nowhere tree cpus t))

-- the world of a policy: its rules, its timers, whether the host tracks idle processors, and where
-- its random numbers begin
abbrev pub by_policy : PolicyState → WorldState → WorldState
by_policy p w =
    with_random (with_timers (with_tracking (with_rules w p.rules) (tracks_idle p)) p.timers) p.seed

-- before any callback, by the policy's rules; periods of all groups begin, and bound tasks are
-- where they may run
abbrev pub blank : PolicyState → Hierarchy → ℕ → State
blank p tree cpus = record {
  policy = p;
  maps = zeros p.shapes;
  world = at_first_homes (begun_periods (by_policy p (first_world tree cpus)));
}

-- ---- init

-- what a fault is answered with: Linux's EINVAL
abbrev pub fault_answer : ℤ
fault_answer = negsuc 21

-- how init ends, called in that state
abbrev pub init_ending : State → Ending WorldState
init_ending s =
    call_ending (acting s callback.Init) callback.Init no_arguments s.maps
    (at_callback s.world callback.Init 0 0)

-- the answer that means a cause: the code of an exit
abbrev pub cause_answer : Cause → ℤ
cause_answer (reason.Fault f) = fault_answer
cause_answer (reason.Exit n) = n

-- the answer with which the machine can't begin; a fault or an exit goes before an answer
abbrev pub bad_answer : Option Cause → Option ℕ → Option ℤ
bad_answer (Some x) a = Some (cause_answer x)
bad_answer None None = Some fault_answer
bad_answer None (Some n) = if n == 0 then None else Some (cast_signed w64 n)

-- that state, or, where there is one, the answer with which the machine can't begin
abbrev pub ok_unless : Option ℤ → State → Result State ℤ
ok_unless None s = Ok s
ok_unless (Some n) s = Err n

-- after init
unfoldable pub after_init : State → Result State ℤ
after_init s =
    ok_unless (bad_answer (init_ending s).outside.call.cause (init_ending s).answer)
    (after_callback s.policy (init_ending s))

-- ---- callbacks that answer nothing

-- how that callback ends, called in that state
abbrev pub begin_ending : State → Callback → Args → ℕ → ℕ → Ending WorldState
begin_ending s b a t c = call_ending (acting s b) b a s.maps (at_callback s.world b t c)

-- a callback that answers nothing can fail by a fault, by an exit, or as it gets stuck
abbrev pub failure : Option Cause → Option ℕ → Option ℤ
failure (Some x) a = Some (cause_answer x)
failure None None = Some fault_answer
failure None (Some n) = None

-- after it, or the answer with which the machine can't begin
unfoldable pub begin_with : State → Callback → Args → ℕ → ℕ → Result State ℤ
begin_with s b a t c =
    ok_unless
    (failure (begin_ending s b a t c).outside.call.cause (begin_ending s b a t c).answer)
    (after_callback s.policy (begin_ending s b a t c))

-- whether a policy has a callback that Linux rules call more
abbrev pub has_by_linux : State → Callback → Bool
has_by_linux s b = is_by_linux s && is_some (program_of s.policy b)

-- after a callback that Linux rules call more, where the policy has it
unfoldable pub begin_by_linux : State → Callback → Args → ℕ → ℕ → Result State ℤ
begin_by_linux s b a t c = if has_by_linux s b then begin_with s b a t c else Ok s

-- ---- each task

-- after enable of that task
abbrev pub enable : State → ℕ → Result State ℤ
enable s t = begin_with s callback.Enable (one_task t) t 0

-- after `set_weight` of that task (ext.c, `__scx_enable_task`); where enable has failed, its answer
abbrev pub then_weigh : Result State ℤ → ℕ → Result State ℤ
then_weigh (Err x) t = Err x
then_weigh (Ok s) t =
    begin_by_linux s callback.SetWeight (task_and_number t (own_weight s.world.tree t)) t 0

-- after enable and `set_weight` of one more task; where one before it has failed, its answer
abbrev pub then_enable : Result State ℤ → ℕ → Result State ℤ
then_enable (Err x) t = Err x
then_enable (Ok s) t = then_weigh (enable s t) t

-- after enable and `set_weight` of the first tasks; where one has failed, its answer
abbrev pub after_enables : ℕ → State → Result State ℤ
after_enables zero s = Ok s
after_enables (suc n) s = then_enable (after_enables n s) n

-- ---- each processor

-- after `update_idle` of one more processor; where one before it has failed, its answer
abbrev pub then_idle : Result State ℤ → ℕ → Result State ℤ
then_idle (Err x) c = Err x
then_idle (Ok s) c = begin_by_linux s callback.UpdateIdle (two_numbers c 1) 0 c

-- after `update_idle` of the first processors; where one has failed, its answer
abbrev pub after_idles : ℕ → State → Result State ℤ
after_idles zero s = Ok s
after_idles (suc n) s = then_idle (after_idles n s) n

-- what was kicked or claimed as the policy begins is forgotten
abbrev pub unmarked : Result State ℤ → Result State ℤ
unmarked (Err x) = Err x
unmarked (Ok s) = Ok (with_world s (without_marks s.world))

-- a policy that has `update_idle` hears of each processor that it is idle (ext.c,
-- `SCX_RQ_ROOT_IDLE_RENOTIFY`)
abbrev pub all_idle : State → Result State ℤ
all_idle s =
    if has_by_linux s callback.UpdateIdle then unmarked (after_idles (length s.world.cpus) s)
    else Ok s

-- ---- all of it

-- after all tasks, each processor; where a callback has failed, its answer
abbrev pub then_all_idle : Result State ℤ → Result State ℤ
then_all_idle (Err n) = Err n
then_all_idle (Ok s) = all_idle s

-- after enable and `set_weight` of each task, by number, and `update_idle` of each processor; where
-- init has failed, its answer
abbrev pub all_enabled : Result State ℤ → Result State ℤ
all_enabled (Err n) = Err n
all_enabled (Ok s) = then_all_idle (after_enables (length s.world.tasks) s)

-- the first state of a policy's machine; where it can't begin, init's answer, the code of an exit,
-- or -22
abbrev pub first_state : PolicyState → Hierarchy → ℕ → Result State ℤ
first_state p tree cpus = all_enabled (after_init (blank p tree cpus))

-- memory is taken after the shape was looked at, and before a callback runs
abbrev pub IsRefusal : PolicyState → Hierarchy → ℕ → NewError → Type 0
IsRefusal p tree cpus BadShape = is_bad_shape tree cpus ≡ true
IsRefusal p tree cpus OutOfMemory = is_bad_shape tree cpus ≡ false
IsRefusal p tree cpus (InitFailed n) =
    (is_bad_shape tree cpus ≡ false) × (first_state p tree cpus ≡ Err n)

-- ---- the callbacks that are called: none after one that fails

-- the call of init, if the policy has one
abbrev pub init_calls : State → List CallMade
init_calls s =
    calls_of (acting s callback.Init) callback.Init no_arguments s.maps
    (at_callback s.world callback.Init 0 0)

-- the call of that callback, if the policy has it
abbrev pub begin_calls : State → Callback → Args → ℕ → ℕ → List CallMade
begin_calls s b a t c = calls_of (acting s b) b a s.maps (at_callback s.world b t c)

-- the same for a callback that Linux rules call more
abbrev pub begin_calls_by_linux : State → Callback → Args → ℕ → ℕ → List CallMade
begin_calls_by_linux s b a t c = if has_by_linux s b then begin_calls s b a t c else []

-- the call of `set_weight` of that task; none where something failed before
abbrev pub weigh_calls : Result State ℤ → ℕ → List CallMade
weigh_calls (Err x) t = []
weigh_calls (Ok s) t =
    begin_calls_by_linux s callback.SetWeight (task_and_number t (own_weight s.world.tree t)) t 0

-- the calls of enable and `set_weight` of that task; none where something failed before
abbrev pub enable_calls : Result State ℤ → ℕ → List CallMade
enable_calls (Err x) t = []
enable_calls (Ok s) t =
    begin_calls s callback.Enable (one_task t) t 0 ++ weigh_calls (enable s t) t

-- of the first tasks
abbrev pub calls_below : ℕ → State → List CallMade
calls_below zero s = []
calls_below (suc n) s = calls_below n s ++ enable_calls (after_enables n s) n

-- the call of `update_idle` of that processor; none where something failed before
abbrev pub idle_calls : Result State ℤ → ℕ → List CallMade
idle_calls (Err x) c = []
idle_calls (Ok s) c = begin_calls_by_linux s callback.UpdateIdle (two_numbers c 1) 0 c

-- of the first processors
abbrev pub idle_calls_below : ℕ → State → List CallMade
idle_calls_below zero s = []
idle_calls_below (suc n) s = idle_calls_below n s ++ idle_calls (after_idles n s) n

-- of all processors, if the policy has `update_idle`; none where something failed before
abbrev pub calls_after_enables : Result State ℤ → List CallMade
calls_after_enables (Err n) = []
calls_after_enables (Ok s) =
    if has_by_linux s callback.UpdateIdle then idle_calls_below (length s.world.cpus) s else []

-- the calls of each task and then of each processor, once init has not failed
abbrev pub calls_after_init : Result State ℤ → List CallMade
calls_after_init (Err n) = []
calls_after_init (Ok s) =
    calls_below (length s.world.tasks) s
    ++ calls_after_enables (after_enables (length s.world.tasks) s)

-- the callbacks that are called as a machine begins: init, enable and `set_weight` of each task,
-- and `update_idle` of each processor
abbrev pub start_calls : PolicyState → Hierarchy → ℕ → List CallMade
start_calls p tree cpus =
    init_calls (blank p tree cpus) ++ calls_after_init (after_init (blank p tree cpus))

-- the callbacks that are called before a machine is refused for that; none before memory is taken
abbrev pub calls_before : PolicyState → Hierarchy → ℕ → NewError → List CallMade
calls_before p tree cpus BadShape = []
calls_before p tree cpus OutOfMemory = []
calls_before p tree cpus (InitFailed n) = start_calls p tree cpus

-- before a callback runs nothing is said
abbrev pub AreAnsweredBefore : PolicyState → Hierarchy → ℕ → NewError → Type 0
AreAnsweredBefore p tree cpus BadShape = ⊤
AreAnsweredBefore p tree cpus OutOfMemory = ⊤
AreAnsweredBefore p tree cpus (InitFailed n) = AreAnswered (start_calls p tree cpus)
