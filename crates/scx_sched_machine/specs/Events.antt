-- Events: which are accepted, and what each one does.
use Rattle.std.specs.Prelude.{ℕ, Bool, true, false, ◌==◌, ◌&&◌, ◌||◌, ◌+◌, ◌%◌, ◌^◌, not, is_some, nat_lt, [], ◌∷◌, length, if◌then◌else◌, Option, Some, None}
use Rattle.scx_weights.specs.Refusals.{max_weight, is_outside}
use Rattle.scx_isa_semantics.specs.declared.callbacks.Callback.TheVariants as callback
use Rattle.scx_sched_world.specs.declared.notes.What.TheVariants as note
use Rattle.scx_vm.specs.Programs.{VerifiedProgram}
use Rattle.scx_sched_world.specs.declared.call.Insert.{Insert}
use Rattle.scx_sched_world.specs.World as world
use Rattle.scx_sched_world.specs.World.{WorldState, with_switch, with_slept, with_waker, task_at, is_runnable, may_run, first_home, has_one_cpu, is_throttled, waits, running, cpu_of, is_idle, choice, default_choice, after_claim, at_callback, note_now}
use Rattle.scx_sched_world.specs.declared.eject.Eject.TheVariants as cause
use Rattle.scx_sched_world.specs.Tasks.{for_cpu, to_local, homed, after_wake, after_sleep, after_leave, after_stop, after_tick, used_ms, later, begun_periods, after_reweigh, after_own_weight}
use Rattle.scx_sched_world.specs.Helpers.{with_insert}
use Rattle.scx_sched_world.specs.Waits.{first_overdue}
use Rattle.scx_sched_machine.specs.declared.events.Event.{Event}
use Rattle.scx_sched_machine.specs.declared.events.Event.TheVariants.{Wake, Sleep, Tick, Clock, SetWeight, SetTaskWeight}
use Rattle.scx_sched_machine.specs.declared.events.Refused.{Refused}
use Rattle.scx_sched_machine.specs.declared.events.Refused.TheVariants.{AlreadyRunnable, NotRunnable, UnknownTask, UnknownCpu, UnknownGroup, BadWeight}
use Rattle.scx_sched_policy.specs.Policy.{program_of}
use Rattle.scx_sched_machine.specs.Steps.{State, Stepped, with_world, stays, after, one_after_other, is_ejected, is_by_linux, kicked_if_idle}
use Rattle.scx_sched_machine.specs.Ejecting.{eject}
use Rattle.scx_sched_machine.specs.Callbacks.{acting, call_back, call_by_linux, answered_by, one_task, task_cpu_and_0, task_and_number}
use Rattle.scx_sched_machine.specs.Custody.{is_in_custody, tells_dequeued_if}
use Rattle.scx_sched_machine.specs.Put.{enters, put}
use Rattle.scx_sched_machine.specs.Firing.{fire_all}
use Rattle.scx_sched_machine.specs.Parking.{park, let_all_go}
use Rattle.scx_sched_machine.specs.Cycle.{after_stopping, cycle}
use Rattle.scx_sched_machine.specs.Rounds.{with_rounds}

-- ---- refusals

-- why an event is refused; none where it is accepted
abbrev pub refusal : State → Event → Option Refused
refusal s (Wake t) =
    if nat_lt t (length s.world.tasks)
    then (if is_runnable s.world t then Some AlreadyRunnable else None)
    else Some UnknownTask
refusal s (Sleep t) =
    if nat_lt t (length s.world.tasks)
    then (if is_runnable s.world t then None else Some NotRunnable)
    else Some UnknownTask
refusal s (Tick c) = if nat_lt c (length s.world.cpus) then None else Some UnknownCpu
refusal s Clock = None
refusal s (SetWeight g x) =
    if nat_lt g (length s.world.tree.groups)
    then (if is_outside max_weight x then Some BadWeight else None)
    else Some UnknownGroup
refusal s (SetTaskWeight t x) =
    if nat_lt t (length s.world.tasks)
    then (if is_outside max_weight x then Some BadWeight else None)
    else Some UnknownTask

-- ---- what each event does

-- a processor, or the lowest one on which the task may run, where it may not run on that (core.c,
-- `select_fallback_rq`)
abbrev pub cpu_or_home : WorldState → ℕ → ℕ → ℕ
cpu_or_home w t c = if may_run w t c then c else first_home w t

-- the processor that select_cpu answers; one that isn't there has ejected the policy
abbrev pub answered_cpu : WorldState → ℕ → Option ℕ → ℕ
answered_cpu w t None = default_choice w t
answered_cpu w t (Some n) =
    if nat_lt n (length w.cpus) then cpu_or_home w t n else default_choice w t

-- the processor for which a task that wakes is put; the default choice where no program answered,
-- or no policy is in force
abbrev pub target : Option VerifiedProgram → WorldState → ℕ → Option ℕ → ℕ
target None w t a = default_choice w t
target (Some p) w t a = answered_cpu w t a

-- what select_cpu inserted is applied, where LOCAL is of the target; else the task is put
abbrev pub insert_or_put : Option Insert → State → ℕ → ℕ → Stepped
insert_or_put None s t c = put s t c 1
insert_or_put (Some i) s t c = enters s t (for_cpu c i)

-- a task is woken from no processor any more
abbrev pub woken : State → State
woken s = with_world s (with_waker s.world None)

-- a target that is idle looks for a task: under Linux rules as the event ends, else at once
unfoldable pub wake_target : State → ℕ → Stepped
wake_target s c =
    if is_by_linux s then stays (kicked_if_idle (woken s) c)
    else (if is_idle s.world c then cycle s c None false else stays s)

-- the task comes to wait for the target, as that insert wants it to, and a target that is idle
-- looks for a task
unfoldable pub comes_to : Option Insert → State → ℕ → ℕ → Stepped
comes_to i s t c =
    let r = insert_or_put i s t c in
    one_after_other r (wake_target r.state c)

-- what select_cpu inserted is dropped where the policy is out of force
abbrev pub while_in_force : State → Option Insert → Option Insert
while_in_force s i = if is_ejected s then None else i

-- a policy that has `runnable` hears that the task woke, and the task comes to wait for the target
-- (ext.c, `enqueue_task_scx`)
unfoldable pub told_runnable : Option Insert → State → ℕ → ℕ → Stepped
told_runnable i s t c =
    let r = call_by_linux s callback.Runnable (task_and_number t 1) t c in
    one_after_other r (comes_to (while_in_force r.state i) r.state t c)

-- the target is, under Linux rules, the task's processor from then on, and the task comes to wait
unfoldable pub settle : State → ℕ → ℕ → Stepped
settle s t c =
    let v = with_world s (homed s.world t c) in
    if is_by_linux v then told_runnable v.world.call.insert v t c
    else comes_to v.world.call.insert v t c

-- the task is to come into the local queue of the processor that was chosen, if one was
abbrev pub inserted_by_choice : WorldState → Option ℕ → WorldState
inserted_by_choice w None = w
inserted_by_choice w (Some c) = with_insert w (to_local c)

-- under Linux rules the default choice claims its processor, and inserts the task into the local
-- queue there (ext.c, `select_task_rq_scx`)
abbrev pub chosen_by_default : WorldState → ℕ → WorldState
chosen_by_default w t =
    if world.is_by_linux w then inserted_by_choice (after_claim w (choice w t)) (choice w t) else w

-- where no program was asked, the processor is chosen by default
abbrev pub chosen : Option VerifiedProgram → State → ℕ → State
chosen None s t = with_world s (chosen_by_default s.world t)
chosen (Some p) s t = s

-- select_cpu is asked, with the processor at hand on which the task ran last
unfoldable pub ask_target : State → ℕ → Stepped
ask_target s t =
    let c = (task_at s.world t).prev_cpu in
    let r = call_back s callback.SelectCpu (task_cpu_and_0 t c) t c in
    let n = target (acting r.state callback.SelectCpu) r.state.world t
    (answered_by s callback.SelectCpu (task_cpu_and_0 t c) t c) in
    one_after_other r (settle (chosen (acting r.state callback.SelectCpu) r.state t) t n)

-- under Linux rules nobody is asked where the task may run on one processor alone (core.c,
-- `select_task_rq`)
abbrev pub asks_target : State → ℕ → Bool
asks_target s t = not (is_by_linux s && has_one_cpu s.world t)

-- that processor is the target
unfoldable pub settle_at_home : State → ℕ → ℕ → Stepped
settle_at_home s t c = settle (with_world s (at_callback s.world callback.SelectCpu t c)) t c

-- the target of a task that wakes is asked for, or is the only processor on which it may run
unfoldable pub select : State → ℕ → Stepped
select s t =
    if asks_target s t then ask_target s t else settle_at_home s t (first_home s.world t)

-- under Linux rules callbacks of a wake run on the processor on which the task was last
unfoldable pub from_waker : State → ℕ → State
from_waker s t =
    if is_by_linux s then with_world s (with_waker s.world (Some (task_at s.world t).prev_cpu))
    else s

-- a task wakes: it is noted, the task waits from now on, and select_cpu is asked
unfoldable pub wake : State → ℕ → Stepped
wake s t =
    after (note_now s.world (note.Wake t) ∷ [])
    (select (from_waker (with_world s (after_wake s.world t)) t) t)

-- under Linux rules dispatch is told of the task that goes to sleep
unfoldable pub told_of_sleep : State → ℕ → State
told_of_sleep s t = if is_by_linux s then with_world s (with_slept s.world t) else s

-- the task sleeps, and a policy that has `quiescent` hears that it isn't runnable any more (ext.c,
-- `dequeue_task_scx`)
unfoldable pub falls_asleep : State → ℕ → ℕ → Stepped
falls_asleep s t c =
    call_by_linux (with_world s (after_sleep s.world t)) callback.Quiescent (task_and_number t 1)
    t c

-- the processor of a task that sleeps now looks for another
unfoldable pub looks_after_sleep : State → ℕ → ℕ → Stepped
looks_after_sleep s t c = cycle (told_of_sleep s t) c None true

-- a task leaves its processor, on which it was the current one; the number says whether it stays
-- runnable
unfoldable pub leaves_cpu : State → ℕ → ℕ → ℕ → Stepped
leaves_cpu s c t n =
    after (note_now s.world (note.Stop t c) ∷ [])
    (after_stopping (with_world s (after_stop (with_switch s.world c) c t)) c t n)

-- a task leaves its queue, of which a policy in whose custody it was hears, with these flags
unfoldable pub leaves_queue : State → ℕ → ℕ → ℕ → Stepped
leaves_queue s t c flags =
    tells_dequeued_if (is_in_custody s.world t) (with_world s (after_leave s.world t)) t c flags

-- a task that runs leaves its processor and sleeps, and the processor looks for another
unfoldable pub sleep_from_cpu : State → ℕ → ℕ → Stepped
sleep_from_cpu s t c =
    let r = leaves_cpu s c t 0 in
    let q = falls_asleep r.state t c in
    one_after_other r (one_after_other q (looks_after_sleep q.state t c))

-- a task that waits leaves its queue, of which a policy in whose custody it was hears, and sleeps
unfoldable pub sleep_from_queue : State → ℕ → ℕ → Stepped
sleep_from_queue s t c =
    let r = leaves_queue s t c 1 in one_after_other r (falls_asleep r.state t c)

-- a task goes to sleep from that processor, or, where it runs on none, from its queue
abbrev pub sleep_from : Option ℕ → State → ℕ → Stepped
sleep_from None s t = sleep_from_queue s t (task_at s.world t).prev_cpu
sleep_from (Some c) s t = sleep_from_cpu s t c

-- a task goes to sleep, from where it is, and that is noted first
unfoldable pub sleep : State → ℕ → Stepped
sleep s t = after (note_now s.world (note.Sleep t) ∷ []) (sleep_from (cpu_of s.world t) s t)

-- a task that may not run any more leaves its processor and is parked, and the processor
-- looks for another
unfoldable pub throttle : State → ℕ → ℕ → Stepped
throttle s c t =
    let r = leaves_cpu s c t 1 in
    let p = park r.state t in
    one_after_other r (one_after_other p (cycle p.state c None true))

-- whether a millisecond ends with a tick: each one where slices end exactly
abbrev pub is_tick_time : State → Bool
is_tick_time s = (s.policy.tick_ms == 0) || ((s.world.clock + 1) % s.policy.tick_ms == 0)

-- whether a slice that has run out ends by now: under Linux rules at a tick alone (ext.c,
-- `task_tick_scx`)
unfoldable pub ends_slices : State → Bool
ends_slices s = not (is_by_linux s) || is_tick_time s

-- a task whose slice has run out may be replaced
unfoldable pub expire : State → ℕ → ℕ → Stepped
expire s c t =
    if ((task_at s.world t).slice == 0) && ends_slices s then cycle s c (Some t) true else stays s

-- the groups of a task that ran for a millisecond have used it, and the task may be replaced
unfoldable pub use_up : State → ℕ → ℕ → Stepped
use_up s c t =
    let v = with_world s (used_ms s.world t) in
    if is_throttled v.world t then throttle v c t else expire v c t

-- whether a policy hears of that tick: under Linux rules, where it has `tick` (ext.c,
-- `task_tick_scx`)
unfoldable pub hears_tick : State → Bool
hears_tick s =
    (is_by_linux s && is_some (program_of s.policy callback.Tick)) && is_tick_time s

-- the policy hears of the tick of a task, if it hears of that one
unfoldable pub tick_heard : State → ℕ → ℕ → Stepped
tick_heard s c t = if hears_tick s then call_back s callback.Tick (one_task t) t c else stays s

-- a task has run for a millisecond; the slice that `tick` leaves is the one that counts
unfoldable pub count_down : State → ℕ → ℕ → Stepped
count_down s c t =
    let r = tick_heard (with_world s (after_tick s.world t)) c t in
    one_after_other r (use_up r.state c t)

-- a processor that runs no task looks for one; under Linux rules it sleeps until it is given work
-- (ext.c, `task_tick_scx` is called for a task that runs)
unfoldable pub tick_idle : State → ℕ → Stepped
tick_idle s c = if is_by_linux s then stays s else cycle s c None false

-- a processor ran that task for a millisecond, or none
abbrev pub tick_of : Option ℕ → State → ℕ → Stepped
tick_of None s c = tick_idle s c
tick_of (Some t) s c = count_down s c t

-- a processor ran for a millisecond, whether a task runs on it or none does
unfoldable pub tick : State → ℕ → Stepped
tick s c = tick_of (running s.world c) s c

-- ---- the clock

-- who has waited too long, while the policy is in force
abbrev pub overdue : State → Option ℕ
overdue s = if is_ejected s then None else first_overdue s.world s.policy.timeout_ms

-- the policy is ejected for that task, which waited too long; without one nothing is done
abbrev pub eject_if_stalled : Option ℕ → State → Stepped
eject_if_stalled None s = stays s
eject_if_stalled (Some t) s = eject s (cause.Stall t s.world.clock)

-- the watchdog looks
unfoldable pub watch : State → Stepped
watch s = eject_if_stalled (overdue s) s

-- timers that are due run, and then the watchdog looks
unfoldable pub timers_and_watchdog : State → Stepped
timers_and_watchdog s = let r = fire_all s in one_after_other r (watch r.state)

-- periods begin, who may run again is let go, timers that are due run, and then the watchdog looks
unfoldable pub clock : State → Stepped
clock s =
    let r = let_all_go (with_world s (begun_periods (later s.world))) in
    one_after_other r (timers_and_watchdog r.state)

-- ---- a task's own weight (syscalls.c, `set_user_nice`; core.c, `sched_change_begin`)

-- the flag with which a task that was changed is runnable again, RESTORE
abbrev pub restore_flag : ℕ
restore_flag = 2

-- the flags of a task that leaves to be changed, SAVE and SCHED_CHANGE
abbrev pub change_flags : ℕ
change_flags = 2 ^ 33 + 2

-- the task has that weight, and the policy hears it
unfoldable pub takes_weight : State → ℕ → ℕ → ℕ → Stepped
takes_weight s t c x =
    call_by_linux (with_world s (after_own_weight s.world t x)) callback.SetWeight
    (task_and_number t x) t c

-- the policy hears that the task isn't runnable, its weight, and that it is runnable again
unfoldable pub changes_weight : State → ℕ → ℕ → ℕ → Stepped
changes_weight s t c x =
    let q = call_by_linux s callback.Quiescent (task_and_number t change_flags) t c in
    let w = takes_weight q.state t c x in
    let r = call_by_linux w.state callback.Runnable (task_and_number t restore_flag) t c in
    one_after_other q (one_after_other w r)

-- a task that runs stays on its processor; the policy hears that it stops before and runs again
-- afterwards
unfoldable pub reweigh_running : State → ℕ → ℕ → ℕ → Stepped
reweigh_running s t c x =
    let a = call_by_linux s callback.Stopping (task_and_number t 0) t c in
    let b = changes_weight a.state t c x in
    let r = call_by_linux b.state callback.Running (one_task t) t c in
    one_after_other a (one_after_other b r)

-- a task that waits leaves its queue, and is put again; its wait goes on
unfoldable pub reweigh_waiting : State → ℕ → ℕ → ℕ → Stepped
reweigh_waiting s t c x =
    let a = leaves_queue s t c change_flags in
    let b = changes_weight a.state t c x in
    one_after_other a (one_after_other b (put b.state t c 0))

-- of a task that doesn't run: one that sleeps or is parked stays where it is
unfoldable pub reweigh_off_cpu : State → ℕ → ℕ → ℕ → Stepped
reweigh_off_cpu s t c x =
    if waits s.world t then reweigh_waiting s t c x else takes_weight s t c x

-- on that processor, or off
abbrev pub reweigh_at : Option ℕ → State → ℕ → ℕ → Stepped
reweigh_at None s t x = reweigh_off_cpu s t (task_at s.world t).prev_cpu x
reweigh_at (Some c) s t x = reweigh_running s t c x

-- by Linux rules, with all callbacks on processor 0
unfoldable pub reweigh_by_linux : State → ℕ → ℕ → Stepped
reweigh_by_linux s t x =
    let r = reweigh_at (cpu_of s.world t) (with_world s (with_waker s.world (Some 0))) t x in
    record r { state = woken r.state }

-- a policy that is out of force hears nothing, nor does one by plain rules
unfoldable pub reweigh : State → ℕ → ℕ → Stepped
reweigh s t x =
    if is_by_linux s then reweigh_by_linux s t x
    else stays (with_world s (after_own_weight s.world t x))

-- what an accepted event does, before processors look for work
abbrev pub own_step : State → Event → Stepped
own_step s (Wake t) = wake s t
own_step s (Sleep t) = sleep s t
own_step s (Tick c) = tick s c
own_step s Clock = clock s
own_step s (SetWeight g x) = record {
  state = with_world s (after_reweigh s.world g x);
  notes = note_now s.world (note.Weight g x) ∷ [];
  calls = [];
}
own_step s (SetTaskWeight t x) =
    after (note_now s.world (note.TaskWeight t x) ∷ []) (reweigh s t x)

-- what an accepted event does
abbrev pub event_step : State → Event → Stepped
event_step s e = with_rounds (own_step s e)
