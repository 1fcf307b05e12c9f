-- What each helper answers, and what it makes of the world. A call with a fault answers that it is
-- invalid, and changes nothing but that the fault is kept, if it is the first one of the callback.
use Rattle.std.specs.Prelude.{ℕ, Bool, true, false, ◌&&◌, ◌==◌, nat_lt, nat_le, not, ◌||◌, ◌+◌, ◌-◌, ◌*◌, ◌/◌, ◌%◌, ◌^◌, min, max, List, length, if◌then◌else◌, Option, Some, None, is_none, slice_index_or, slice_set}
use Rattle.std.specs.Int.{w64, bit_at, cast_signed}
use Rattle.std.specs.List.{list_any}
use Rattle.scx_dsq.specs.Queues.{exists, entry_of, is_in, front_of, len_of}
use Rattle.scx_dsq.specs.Calls.{create_refusal, after_create, clashes}
use Rattle.scx_dsq.specs.Laws.{one_if}
use Rattle.scx_dsq.specs.declared.entries.Rank.{Rank}
use Rattle.scx_dsq.specs.declared.entries.Rank.TheVariants.{Fifo, Front, Vtime}
use Rattle.scx_weights.specs.Hierarchy.{home_of, own_weight, mask_of}
use Rattle.scx_weights.specs.Weights.{task_weight}
use Rattle.scx_isa_semantics.specs.declared.callbacks.Callback.{Callback}
use Rattle.scx_isa_semantics.specs.declared.callbacks.Callback.TheVariants as callback
use Rattle.scx_isa_semantics.specs.declared.host_tables.Helper.{Helper}
use Rattle.scx_isa_semantics.specs.declared.host_tables.Helper.TheVariants.{KtimeGetNs, CreateDsq, DsqInsert, DsqInsertVtime, DsqMoveToLocal, SelectCpuDfl, CpuIdle, TaskByPid, DsqNrQueued, KickCpu, SmpProcessorId, Exit, CpuCurr, DsqPeek, TaskRunning, TaskCpu, PickIdle, ClaimIdle, TimerStart, TimerCancel, PrandomU32, MayRun}
use Rattle.scx_isa_semantics.specs.declared.host_tables.TaskId.{TaskId}
use Rattle.scx_isa_semantics.specs.declared.host_tables.Field.{Field}
use Rattle.scx_isa_semantics.specs.declared.host_tables.Field.TheVariants.{Pid, Weight, Slice, DsqVtime, PrevCpu, Group, RunNs, Cpus}
use Rattle.scx_vm.specs.declared.arguments.Arg.{Arg}
use Rattle.scx_vm.specs.declared.arguments.Arg.TheVariants as argument
use Rattle.scx_vm.specs.declared.arguments.Answer.{Answer}
use Rattle.scx_vm.specs.declared.arguments.Answer.TheVariants as answer
use Rattle.scx_vm.specs.Host.{Functions}
use Rattle.scx_sched_tasks.specs.declared.task.Task.{Task}
use Rattle.scx_sched_world.specs.declared.eject.Cause.{Cause}
use Rattle.scx_sched_world.specs.declared.eject.Cause.TheVariants as reason
use Rattle.scx_sched_world.specs.declared.faults.Fault.{Fault}
use Rattle.scx_sched_world.specs.declared.faults.Fault.TheVariants.{NoSuchQueue, CannotInsert, NoSuchCpu, UnknownFlag, CannotCreate, BuiltinVtime, Mixed, IdleUntracked, NotAllowed}
use Rattle.scx_sched_world.specs.declared.call.Insert.{Insert}
use Rattle.scx_sched_world.specs.declared.kicks.Kick.{Kick}
use Rattle.scx_sched_world.specs.declared.kicks.Kick.TheVariants.{Any, IfIdle, Preempt}
use Rattle.scx_sched_world.specs.declared.timers.Alarm.{Alarm}
use Rattle.scx_sched_world.specs.declared.notes.What.TheVariants as notes
use Rattle.scx_sched_world.specs.Ids.{policy_end, global, local, held_queue, local_on}
use Rattle.scx_sched_world.specs.World.{WorldState, with_queues, with_kick, with_preemption, is_by_linux, task_at, with_task, running, is_this, current, is_current, is_idle, this_if, lowest_cpu, is_claimed, is_free, choice, default_choice, after_claim, with_timer_at_hand, here, with_note, binds, may_run, with_random}
use Rattle.scx_sched_world.specs.CpuSets.{is_in_set}
use Rattle.scx_sched_world.specs.Tasks.{with_slice, with_vtime, after_leave, after_enter, local_cpu, after_local, for_cpu, next_for}

-- -22 as a number of 64 bits
abbrev pub invalid : ℕ
invalid = 0xffff_ffff_ffff_ffea

-- ---- arguments

-- the number that an argument is; 0 where it is a task or not set
abbrev pub number_of : Arg → ℕ
number_of (argument.Num n) = n
number_of a = 0

-- the task that an argument points to; none where it is a number or not set
abbrev pub task_of : Arg → Option ℕ
task_of (argument.Task t) = Some t.0
task_of a = None

-- the number in the argument at that index, from 0; 0 where no number is given there
abbrev pub given_number : List Arg → ℕ → ℕ
given_number a i = number_of (slice_index_or a i argument.Unset)

-- the task in the argument at that index, from 0, if one is given there
abbrev pub given_task : List Arg → ℕ → Option ℕ
given_task a i = task_of (slice_index_or a i argument.Unset)

-- a task as a program is given it
abbrev pub task_argument : ℕ → Arg
task_argument t = argument.Task (record { 0 = t })

-- ---- faults

-- the first cause of a callback counts
abbrev pub first_cause : Option Cause → Cause → Option Cause
first_cause None x = Some x
first_cause (Some first) x = Some first

-- the callback at hand has that cause to put the policy out of force, unless it had one before;
-- nothing else is changed (ext.c, `scx_claim_exit`)
abbrev pub with_cause : WorldState → Cause → WorldState
with_cause w x = record w { call = record w.call { cause = first_cause w.call.cause x } }

-- the callback at hand has that fault
abbrev pub with_fault : WorldState → Fault → WorldState
with_fault w f = with_cause w (reason.Fault f)

-- what a call answers that only does something: -22 where it has a fault, else 0
abbrev pub invalid_if : Option Fault → ℕ
invalid_if None = 0
invalid_if (Some f) = invalid

-- ---- queues

-- a queue of the policy
abbrev pub is_there : WorldState → ℕ → Bool
is_there w q = nat_lt q policy_end && exists w.queues q

-- whether the policy may create a queue of that id: below the end, not there yet, with room left
abbrev pub can_create : WorldState → ℕ → Bool
can_create w q = nat_lt q policy_end && is_none (create_refusal w.queues q)

-- what creating a queue makes of the world: the queue is there, or the callback has a fault
abbrev pub after_create_dsq : WorldState → ℕ → WorldState
after_create_dsq w q =
    if can_create w q then with_queues w (after_create w.queues q) else with_fault w CannotCreate

-- what creating a queue answers: 0, or -22 where it can't be created
abbrev pub create_answer : WorldState → ℕ → ℕ
create_answer w q = if can_create w q then 0 else invalid

-- asking how long a queue is changes nothing; it is a fault where the policy has no such queue
abbrev pub after_queued : WorldState → ℕ → WorldState
after_queued w q = if is_there w q then w else with_fault w NoSuchQueue

-- how many tasks wait in a queue of the policy; -22 where it has no such queue
abbrev pub queued_answer : WorldState → ℕ → ℕ
queued_answer w q = if is_there w q then len_of w.queues q else invalid

-- ---- inserts

-- whether a helper was given the task at hand; false where it was given no task
abbrev pub is_at_hand : WorldState → Option ℕ → Bool
is_at_hand w None = false
is_at_hand w (Some t) = t == w.call.task

-- whether a callback is dispatch, in which an insert takes effect at once
abbrev pub is_dispatch : Callback → Bool
is_dispatch callback.Dispatch = true
is_dispatch b = false

-- the machine holds the task
abbrev pub is_held : WorldState → Option ℕ → Bool
is_held w None = false
is_held w (Some t) = is_in held_queue (entry_of w.queues t)

-- in select_cpu and enqueue the task at hand, and once; in dispatch a task that is held
abbrev pub may_insert_in : Callback → WorldState → Option ℕ → Bool
may_insert_in callback.SelectCpu w t = is_none w.call.insert && is_at_hand w t
may_insert_in callback.Enqueue w t = is_none w.call.insert && is_at_hand w t
may_insert_in callback.Dispatch w t = is_held w t
may_insert_in b w t = false

-- whether the callback at hand may insert that task, into whichever queue
abbrev pub may_insert : WorldState → Option ℕ → Bool
may_insert w t = may_insert_in w.call.callback w t

-- Where a task may be put: GLOBAL, LOCAL, the local queue of a processor, a queue of the policy.
-- The low 32 bits of the id of a local queue are its CPU.
abbrev pub queue_fault : WorldState → ℕ → Option Fault
queue_fault w q =
    if nat_lt q policy_end then (if exists w.queues q then None else Some NoSuchQueue)
    else if q == global then None
    else if q == local then None
    else if nat_lt q (local_on 0) then Some NoSuchQueue
    else if nat_lt q (local_on (length w.cpus)) then None
    else if nat_lt q (local_on 0x1_0000_0000) then Some NoSuchCpu
    else Some NoSuchQueue

-- whether a task goes in by virtual time, and not in order of arrival
abbrev pub is_vtime : Rank → Bool
is_vtime Fifo = false
is_vtime Front = false
is_vtime (Vtime n) = true

-- Into the machine's own queues tasks go in order of arrival alone, and into a queue of the policy
-- as those went that wait there.
abbrev pub rank_fault : WorldState → ℕ → Rank → Option Fault
rank_fault w q r =
    if is_vtime r && nat_le policy_end q then Some BuiltinVtime
    else (if list_any (clashes q r) w.queues.entries then Some Mixed else None)

-- the first fault, if there is one, else the second one, if there is one
abbrev pub or_fault : Option Fault → Option Fault → Option Fault
or_fault None o = o
or_fault (Some f) o = Some f

-- ---- flags of an insert

-- the flag that marks a wake, which changes nothing
abbrev pub wakeup_flag : ℕ
wakeup_flag = 1

-- Linux rules know two flags more: PREEMPT (2^32) and HEAD (2^48)
abbrev pub are_linux_flags : ℕ → Bool
are_linux_flags n =
    let high = n / 2 ^ 32 in
    nat_le (n % 2 ^ 32) 1
    && ((high == 0) || ((high == 1) || ((high == 2 ^ 16) || (high == 2 ^ 16 + 1))))

-- whether the flags of an insert are known
abbrev pub are_known : WorldState → ℕ → Bool
are_known w n = if is_by_linux w then are_linux_flags n else nat_le n 1

-- whether flags have PREEMPT
abbrev pub has_preempt : ℕ → Bool
has_preempt n = (n / 2 ^ 32) % 2 == 1

-- whether flags have HEAD
abbrev pub has_head : ℕ → Bool
has_head n = (n / 2 ^ 48) % 2 == 1

-- both flags put the task at the front, where it goes in order of arrival
abbrev pub arrival_rank : ℕ → Rank
arrival_rank n = if has_preempt n || has_head n then Front else Fifo

-- what is wrong with the flags of an insert
abbrev pub flags_fault : WorldState → ℕ → Option Fault
flags_fault w n = if are_known w n then None else Some UnknownFlag

-- ---- inserts where a task may not run

-- the processor to whose local queue an insert into that queue brings a task, if that is known by
-- now: LOCAL is one in dispatch alone
abbrev pub cpu_meant : WorldState → ℕ → Option ℕ
cpu_meant w q = if (q == local) && is_dispatch w.call.callback then Some w.call.cpu else local_cpu w q

-- whether the task may run there; true where one of both isn't given
abbrev pub may_go : WorldState → Option ℕ → Option ℕ → Bool
may_go w (Some t) (Some c) = may_run w t c
may_go w o p = true

-- a task isn't put into the local queue of a processor on which it may not run (ext.c,
-- `task_can_run_on_remote_rq`)
abbrev pub placing_fault : WorldState → Option ℕ → ℕ → Option Fault
placing_fault w t q = if may_go w t (cpu_meant w q) then None else Some NotAllowed

-- ---- inserts that come to something

-- what is wrong with an insert: first with its task, then its flags, its queue, its rank, and where
-- the task may run
abbrev pub insert_fault : WorldState → Option ℕ → Insert → ℕ → Option Fault
insert_fault w t i flags =
    if may_insert w t
    then or_fault (flags_fault w flags)
    (or_fault (queue_fault w i.queue)
    (or_fault (rank_fault w i.queue i.rank) (placing_fault w t i.queue)))
    else Some CannotInsert

-- under Linux rules an insert in dispatch of a task that isn't held is passed over, but for its
-- flags (ext.c, `finish_dispatch`)
abbrev pub is_late : WorldState → Option ℕ → Bool
is_late w t = is_by_linux w && (is_dispatch w.call.callback && not (is_held w t))

-- the insert is kept until the callback ends
abbrev pub with_insert : WorldState → Insert → WorldState
with_insert w i = record w { call = record w.call { insert = Some i } }

-- the callback brought a task to a queue
abbrev pub with_move : WorldState → WorldState
with_move w = record w { call = record w.call { has_moved = true } }

-- a held task goes at once to where the insert wants it
abbrev pub after_release : WorldState → Option ℕ → Insert → WorldState
after_release w None i = w
after_release w (Some t) i =
    with_note (with_move (after_enter (after_leave w t) t i)) (notes.Insert t i.queue)

-- what an insert makes of the world: its fault is kept, or it takes effect, in dispatch at once
abbrev pub insert_or_fault : WorldState → Option Fault → Option ℕ → Insert → WorldState
insert_or_fault w None t i =
    if is_dispatch w.call.callback then after_release w t (for_cpu w.call.cpu i)
    else with_insert w i
insert_or_fault w (Some f) t i = with_fault w f

-- a late insert counts as one all the same
abbrev pub after_late : WorldState → Option Fault → WorldState
after_late w None = with_move w
after_late w (Some f) = with_fault w f

-- the world after a helper call that inserts a task
abbrev pub after_insert : WorldState → Option ℕ → Insert → ℕ → WorldState
after_insert w t i flags =
    if is_late w t then after_late w (flags_fault w flags)
    else insert_or_fault w (insert_fault w t i flags) t i

-- what a helper call answers that inserts a task: 0, or -22 where it has a fault
abbrev pub insert_answer : WorldState → Option ℕ → Insert → ℕ → ℕ
insert_answer w t i flags =
    if is_late w t then invalid_if (flags_fault w flags)
    else invalid_if (insert_fault w t i flags)

-- what a call asks for that inserts in order of arrival: a queue, a slice, and flags
abbrev pub insert_of : WorldState → List Arg → Insert
insert_of w a = record {
  queue = given_number a 1;
  slice = given_number a 2;
  rank = arrival_rank (given_number a 3);
  preempts = has_preempt (given_number a 3);
  refills = is_by_linux w;
}

-- what a call asks for that inserts by virtual time: a queue, a slice, and the time
abbrev pub insert_of_vtime : WorldState → List Arg → Insert
insert_of_vtime w a = record {
  queue = given_number a 1;
  slice = given_number a 2;
  rank = Vtime (given_number a 3);
  preempts = false;
  refills = is_by_linux w;
}

-- ---- moves

-- how many tasks these are: 1 where there is one, else 0
abbrev pub one_if_some : Option ℕ → ℕ
one_if_some None = 0
one_if_some (Some t) = 1

-- whether tasks may be moved from that queue: in dispatch, from one of the policy's own
abbrev pub can_move : WorldState → ℕ → Bool
can_move w q = is_dispatch w.call.callback && is_there w q

-- a task comes to the local queue of the processor at hand, from none
abbrev pub moved_here : WorldState → ℕ → WorldState
moved_here w t =
    with_note (with_move (after_local w w.call.cpu t)) (notes.Move t w.call.cpu)

-- a task goes from its queue to the local queue of the processor at hand, if there is one
abbrev pub moved_to_local : WorldState → Option ℕ → WorldState
moved_to_local w None = w
moved_to_local w (Some t) = moved_here (after_leave w t) t

-- what a move to the local queue makes of the world; where none may be moved, it is a fault
abbrev pub after_move : WorldState → ℕ → WorldState
after_move w q =
    if can_move w q then moved_to_local w (next_for w q w.call.cpu)
    else with_fault w NoSuchQueue

-- what a move answers: 1, 0 where no task waits that may run on the processor, or -22 where none
-- may be moved
abbrev pub move_answer : WorldState → ℕ → ℕ
move_answer w q = if can_move w q then one_if_some (next_for w q w.call.cpu) else invalid

-- ---- processors and tasks

-- where the host doesn't track which processors are idle, asking it for one is a fault, which goes
-- before any other (ext/idle.c, `check_builtin_idle_enabled`)
abbrev pub untracked_fault : WorldState → Option Fault
untracked_fault w = if w.tracks_idle then None else Some IdleUntracked

-- a processor that isn't there is a fault
abbrev pub cpu_fault : WorldState → ℕ → Option Fault
cpu_fault w c = if nat_lt c (length w.cpus) then None else Some NoSuchCpu

-- asking the host about one idle processor
abbrev pub ask_fault : WorldState → ℕ → Option Fault
ask_fault w c = or_fault (untracked_fault w) (cpu_fault w c)

-- a call with that fault answers -22, one without answers that number
abbrev pub unless_fault : Option Fault → ℕ → ℕ
unless_fault None n = n
unless_fault (Some f) n = invalid

-- the world that a call leaves: with its fault, or that one
abbrev pub fault_or : WorldState → Option Fault → WorldState → WorldState
fault_or w None v = v
fault_or w (Some f) v = with_fault w f

-- which processor is chosen by default for a task; 0 where a helper was given no task
abbrev pub choice_answer : WorldState → Option ℕ → ℕ
choice_answer w None = 0
choice_answer w (Some t) = unless_fault (untracked_fault w) (default_choice w t)

-- under Linux rules the processor that is chosen is claimed
abbrev pub after_choice : WorldState → Option ℕ → WorldState
after_choice w None = w
after_choice w (Some t) = fault_or w (untracked_fault w) (after_claim w (choice w t))

-- whether a callback is told that the processor is idle: not where another claimed it before
abbrev pub seems_idle : WorldState → ℕ → Bool
seems_idle w c = is_idle w c && (not (is_claimed w c) || is_in_set w.call.claims c)

-- asking whether a processor is idle changes nothing but that its fault is kept
abbrev pub after_idle : WorldState → ℕ → WorldState
after_idle w c = fault_or w (ask_fault w c) w

-- 1 where a processor seems idle and 0 where it doesn't; -22 where there is a fault
abbrev pub idle_answer : WorldState → ℕ → ℕ
idle_answer w c = unless_fault (ask_fault w c) (one_if (seems_idle w c))

-- pids count from 1
abbrev pub is_pid : WorldState → ℕ → Bool
is_pid w n = nat_lt 0 n && nat_le n (length w.tasks)

-- the task of that pid, or the number 0 where there is none
abbrev pub pid_answer : WorldState → ℕ → Answer
pid_answer w n = if is_pid w n then answer.Task (record { 0 = n - 1 }) else answer.Num 0

-- ---- kicks (ext.c, `kick_one_cpu`, `kick_one_cpu_if_idle`)

-- the kick that flags ask for; none where they are unknown
abbrev pub kick_of : ℕ → Option Kick
kick_of n =
    if n == 0 then Some Any
    else (if n == 1 then Some IfIdle else (if n == 2 then Some Preempt else None))

-- a processor that is there is kicked; one that runs a task, with no cycle of its own under way,
-- isn't where it should be idle
abbrev pub kicked_so : WorldState → ℕ → Kick → WorldState
kicked_so w c Any = with_kick w c
kicked_so w c IfIdle =
    if is_none (running w c) || is_this c w.cycling then with_kick w c else w
kicked_so w c Preempt = with_preemption w c

-- what is wrong with a kick: its flags, or else its processor
abbrev pub kick_fault : WorldState → ℕ → Option Kick → Option Fault
kick_fault w c None = Some UnknownFlag
kick_fault w c (Some k) = if nat_lt c (length w.cpus) then None else Some NoSuchCpu

-- the world after a kick with that fault, or with none
abbrev pub kicked_or_fault : WorldState → Option Fault → ℕ → Option Kick → WorldState
kicked_or_fault w (Some f) c k = with_fault w f
kicked_or_fault w None c None = w
kicked_or_fault w None c (Some k) = kicked_so w c k

-- the world after a helper call that kicks a processor
abbrev pub after_kick : WorldState → ℕ → ℕ → WorldState
after_kick w c flags = kicked_or_fault w (kick_fault w c (kick_of flags)) c (kick_of flags)

-- what a kick answers: 0, or -22 where it has a fault
abbrev pub kick_answer : WorldState → ℕ → ℕ → ℕ
kick_answer w c flags = invalid_if (kick_fault w c (kick_of flags))

-- ---- an end of the policy's own (ext.c, `scx_bpf_exit_bstr`)

-- the callback at hand puts the policy out of force as it ends, with that code, unless it had a
-- cause before
abbrev pub after_exit : WorldState → ℕ → WorldState
after_exit w n = with_cause w (reason.Exit (cast_signed w64 n))

-- ---- who is where

-- a task, or the number 0 where there is none
abbrev pub task_or_null : Option ℕ → Answer
task_or_null None = answer.Num 0
task_or_null (Some t) = answer.Task (record { 0 = t })

-- the current task of a processor; 0 where there is no such processor (ext.c, `scx_bpf_cpu_curr`)
abbrev pub current_answer : WorldState → ℕ → Answer
current_answer w c =
    if nat_lt c (length w.cpus) then task_or_null (current w c) else answer.Num 0

-- asking for a processor that isn't there is a fault
abbrev pub after_asking_cpu : WorldState → ℕ → WorldState
after_asking_cpu w c = if nat_lt c (length w.cpus) then w else with_fault w NoSuchCpu

-- the front of a queue of the policy; 0 where it has no such queue (ext.c, `scx_bpf_dsq_peek`)
abbrev pub peek_answer : WorldState → ℕ → Answer
peek_answer w q =
    if is_there w q then task_or_null (front_of w.queues q) else answer.Num 0

-- whether a helper was given a task that is current on a processor
abbrev pub is_current_one : WorldState → Option ℕ → Bool
is_current_one w None = false
is_current_one w (Some t) = is_current w t

-- the processor of a task; 0 where a helper was given no task
abbrev pub cpu_of_task : WorldState → Option ℕ → ℕ
cpu_of_task w None = 0
cpu_of_task w (Some t) = (task_at w t).prev_cpu

-- whether a helper was given a task that may run on the processor
abbrev pub may_run_there : WorldState → Option ℕ → ℕ → Bool
may_run_there w None c = false
may_run_there w (Some t) c = may_run w t c

-- 1 where the task may run on the processor, else 0; -22 where there is no such processor
abbrev pub may_run_answer : WorldState → Option ℕ → ℕ → ℕ
may_run_answer w t c = unless_fault (cpu_fault w c) (one_if (may_run_there w t c))

-- ---- random numbers (Knuth, The Art of Computer Programming 2, 3.3.4)

-- the number from which the next one is made
abbrev pub next_random : ℕ → ℕ
next_random n = (n * 6364136223846793005 + 1442695040888963407) % 2 ^ 64

-- a random number of 32 bits: the upper half of the next one
abbrev pub random_answer : WorldState → ℕ
random_answer w = next_random w.random / 2 ^ 32

-- after a random number was made
abbrev pub after_random : WorldState → WorldState
after_random w = with_random w (next_random w.random)

-- ---- claims (ext/idle.c, `scx_bpf_pick_idle_cpu`, `scx_bpf_test_and_clear_cpu_idle`)

-- whether the processor is in the mask, a bit for each, and may be chosen
abbrev pub is_free_in : ℕ → WorldState → ℕ → Bool
is_free_in mask w c = (bit_at mask c == 1) && is_free w c

-- the lowest processor of the mask that may be chosen
abbrev pub first_free_in : ℕ → WorldState → Option ℕ
first_free_in mask w = lowest_cpu w (is_free_in mask w)

-- the flag 1 of such a choice asks for a whole core, which is any processor here
abbrev pub pick_flags_fault : ℕ → Option Fault
pick_flags_fault flags = if nat_le flags 1 then None else Some UnknownFlag

-- what is wrong with such a choice: idle processors aren't tracked, or its flags
abbrev pub pick_fault : WorldState → ℕ → Option Fault
pick_fault w flags = or_fault (untracked_fault w) (pick_flags_fault flags)

-- -16 as a number of 64 bits
abbrev pub busy : ℕ
busy = 0xffff_ffff_ffff_fff0

-- what a choice from a mask answers: -22 where it has a fault, -16 where no processor may be chosen
abbrev pub pick_answer_by : Option Fault → Option ℕ → ℕ
pick_answer_by (Some f) o = invalid
pick_answer_by None None = busy
pick_answer_by None (Some c) = c

-- what a choice from a mask answers
abbrev pub pick_answer : WorldState → ℕ → ℕ → ℕ
pick_answer w mask flags = pick_answer_by (pick_fault w flags) (first_free_in mask w)

-- the processor that is chosen is claimed, unless there was a fault
abbrev pub after_pick_by : Option Fault → WorldState → Option ℕ → WorldState
after_pick_by (Some f) w o = with_fault w f
after_pick_by None w o = after_claim w o

-- the world after a choice from a mask
abbrev pub after_pick : WorldState → ℕ → ℕ → WorldState
after_pick w mask flags = after_pick_by (pick_fault w flags) w (first_free_in mask w)

-- 1 where that processor may be chosen, else 0; -22 where there is a fault
abbrev pub claim_answer : WorldState → ℕ → ℕ
claim_answer w c = unless_fault (ask_fault w c) (one_if (is_free w c))

-- where that processor may be chosen it is claimed
abbrev pub after_claim_of : WorldState → ℕ → WorldState
after_claim_of w c = fault_or w (ask_fault w c) (after_claim w (this_if (is_free w c) c))

-- ---- timers (kernel/bpf/helpers.c, `bpf_timer_start`, `bpf_timer_cancel`)

-- whether the policy has that timer
abbrev pub is_timer : WorldState → ℕ → Bool
is_timer w n = nat_lt n (length w.timers)

-- a timer that isn't there is a fault
abbrev pub timer_fault : WorldState → ℕ → Option Fault
timer_fault w n = if is_timer w n then None else Some UnknownFlag

-- nanoseconds as whole milliseconds, rounded up, and at least one
abbrev pub delay_ms : ℕ → ℕ
delay_ms ns = max 1 ((ns + 999999) / 1000000)

-- that timer is due at that clock, for that processor; or it isn't started any more
abbrev pub with_timer : WorldState → ℕ → Option Alarm → WorldState
with_timer w n o = record w { timers = slice_set w.timers n o }

-- a timer that is started now: its callback runs on the processor of this one
abbrev pub alarm_in : WorldState → ℕ → Alarm
alarm_in w ns = record { due = w.clock + delay_ms ns; cpu = here w }

-- a timer is started, whether or not it was before
abbrev pub after_timer_start : WorldState → ℕ → ℕ → WorldState
after_timer_start w n ns = fault_or w (timer_fault w n) (with_timer w n (Some (alarm_in w ns)))

-- what starting a timer answers: 0, or -22 where it isn't there
abbrev pub timer_start_answer : WorldState → ℕ → ℕ
timer_start_answer w n = invalid_if (timer_fault w n)

-- when a timer is due, if it was started
abbrev pub alarm_at : WorldState → ℕ → Option Alarm
alarm_at w n = slice_index_or w.timers n None

-- -35 as a number of 64 bits
abbrev pub deadlock : ℕ
deadlock = 0xffff_ffff_ffff_ffdd

-- what is answered of a timer that is to be cancelled, out of its own callback or not
abbrev pub cancelled_answer : Bool → Option Alarm → ℕ
cancelled_answer true o = deadlock
cancelled_answer false None = 0
cancelled_answer false (Some a) = 1

-- what cancelling a timer answers: 1 where it was started and 0 where it wasn't, -35 out of its own
-- callback, -22 where it isn't there
abbrev pub timer_cancel_answer : WorldState → ℕ → ℕ
timer_cancel_answer w n =
    unless_fault (timer_fault w n) (cancelled_answer (is_this n w.passing.timer) (alarm_at w n))

-- a timer isn't started any more; out of its own callback nothing changes
abbrev pub after_timer_cancel : WorldState → ℕ → WorldState
after_timer_cancel w n =
    fault_or w (timer_fault w n) (if is_this n w.passing.timer then w else with_timer w n None)

-- when that timer was due, if it was, at this clock or before
abbrev pub due_now : WorldState → Option Alarm → Option Alarm
due_now w None = None
due_now w (Some a) = if nat_le a.due w.clock then Some a else None

-- the timer isn't started any more, and its callback is at hand
abbrev pub after_fire : WorldState → ℕ → WorldState
after_fire w n = with_timer_at_hand (with_timer w n None) (Some n)

-- ---- all helpers; elements of maps are looked up by the run itself

-- what a helper call with these arguments answers
abbrev pub helper_answer : WorldState → Helper → List Arg → Answer
helper_answer w KtimeGetNs a = answer.Num (w.clock * 1000000)
helper_answer w CreateDsq a = answer.Num (create_answer w (given_number a 0))
helper_answer w DsqInsert a =
    answer.Num (insert_answer w (given_task a 0) (insert_of w a) (given_number a 3))
helper_answer w DsqInsertVtime a =
    answer.Num (insert_answer w (given_task a 0) (insert_of_vtime w a) (given_number a 4))
helper_answer w DsqMoveToLocal a = answer.Num (move_answer w (given_number a 0))
helper_answer w SelectCpuDfl a = answer.Num (choice_answer w (given_task a 0))
helper_answer w CpuIdle a = answer.Num (idle_answer w (given_number a 0))
helper_answer w TaskByPid a = pid_answer w (given_number a 0)
helper_answer w DsqNrQueued a = answer.Num (queued_answer w (given_number a 0))
helper_answer w KickCpu a = answer.Num (kick_answer w (given_number a 0) (given_number a 1))
helper_answer w SmpProcessorId a = answer.Num (here w)
helper_answer w Exit a = answer.Num 0
helper_answer w CpuCurr a = current_answer w (given_number a 0)
helper_answer w DsqPeek a = peek_answer w (given_number a 0)
helper_answer w TaskRunning a = answer.Num (one_if (is_current_one w (given_task a 0)))
helper_answer w TaskCpu a = answer.Num (cpu_of_task w (given_task a 0))
helper_answer w PickIdle a = answer.Num (pick_answer w (given_number a 0) (given_number a 1))
helper_answer w ClaimIdle a = answer.Num (claim_answer w (given_number a 0))
helper_answer w TimerStart a = answer.Num (timer_start_answer w (given_number a 0))
helper_answer w TimerCancel a = answer.Num (timer_cancel_answer w (given_number a 0))
helper_answer w PrandomU32 a = answer.Num (random_answer w)
helper_answer w MayRun a =
    answer.Num (may_run_answer w (given_task a 0) (given_number a 1))
helper_answer w h a = answer.Num 0

-- the world that a helper call with these arguments leaves
abbrev pub helper_after : WorldState → Helper → List Arg → WorldState
helper_after w CreateDsq a = after_create_dsq w (given_number a 0)
helper_after w DsqInsert a = after_insert w (given_task a 0) (insert_of w a) (given_number a 3)
helper_after w DsqInsertVtime a =
    after_insert w (given_task a 0) (insert_of_vtime w a) (given_number a 4)
helper_after w DsqMoveToLocal a = after_move w (given_number a 0)
helper_after w SelectCpuDfl a = after_choice w (given_task a 0)
helper_after w CpuIdle a = after_idle w (given_number a 0)
helper_after w DsqNrQueued a = after_queued w (given_number a 0)
helper_after w KickCpu a = after_kick w (given_number a 0) (given_number a 1)
helper_after w Exit a = after_exit w (given_number a 0)
helper_after w CpuCurr a = after_asking_cpu w (given_number a 0)
helper_after w DsqPeek a = after_queued w (given_number a 0)
helper_after w PickIdle a = after_pick w (given_number a 0) (given_number a 1)
helper_after w ClaimIdle a = after_claim_of w (given_number a 0)
helper_after w TimerStart a = after_timer_start w (given_number a 0) (given_number a 1)
helper_after w TimerCancel a = after_timer_cancel w (given_number a 0)
helper_after w PrandomU32 a = after_random w
helper_after w MayRun a = after_asking_cpu w (given_number a 1)
helper_after w h a = w

-- ---- the record of a task

-- the weight of a task, in parts of 10000 and at least 1; 0 where there is no such task
abbrev pub weight_at : WorldState → ℕ → ℕ
weight_at w t = if nat_lt t (length w.tasks) then task_weight w.tree t else 0

-- the weight that a policy is told: under Linux rules the task's own, as its nice value gives it,
-- which knows nothing of groups
abbrev pub weight_told : WorldState → ℕ → ℕ
weight_told w t = if is_by_linux w then own_weight w.tree t else weight_at w t

-- the group in which a task lies; 0 where there is no such task
abbrev pub group_at : WorldState → ℕ → ℕ
group_at w t = if nat_lt t (length w.tasks) then home_of w.tree t else 0

-- all processors, one bit each
abbrev pub all_cpus : WorldState → ℕ
all_cpus w = 2 ^ length w.cpus - 1

-- the processors on which a task may run, one bit each
abbrev pub cpus_of : WorldState → ℕ → ℕ
cpus_of w t = if binds w then mask_of w.tree t else all_cpus w

-- the content of a field of a task's record; where there is no such task, 0 in all but the pid
abbrev pub field_of : WorldState → ℕ → Field → ℕ
field_of w t Pid = t + 1
field_of w t Weight = weight_told w t
field_of w t Slice = (task_at w t).slice
field_of w t DsqVtime = (task_at w t).vtime
field_of w t PrevCpu = (task_at w t).prev_cpu
field_of w t Group = group_at w t
field_of w t RunNs = (task_at w t).run_ns
field_of w t Cpus = cpus_of w t

-- the record of a task, stored to at a field; only its slice and its virtual time change so
abbrev pub stored_in : Task → Field → ℕ → Task
stored_in x Slice n = with_slice x n
stored_in x DsqVtime n = with_vtime x n
stored_in x f n = x

-- what a load of a field of a task reads
abbrev pub world_number : WorldState → TaskId → Field → ℕ
world_number w t f = field_of w t.0 f

-- the world after a store to a field of a task; it changes where that field may be stored to
abbrev pub world_stored : WorldState → TaskId → Field → ℕ → WorldState
world_stored w t f n = with_task w t.0 (stored_in (task_at w t.0) f n)

-- the world as a host
abbrev pub world_functions : Functions WorldState
world_functions = record {
  answer = helper_answer;
  after_call = helper_after;
  number = world_number;
  after_store = world_stored;
}

-- ---- budgets: for how many calls there is room, and what they may spend

-- for how many helper calls there is room: each takes a note and a push at most
abbrev pub room_of : WorldState → ℕ
room_of w = min (4096 - length w.notes) (2 ^ 63 - w.queues.pushes)

-- how many pushes were accepted so far, to which a helper call adds one at most
abbrev pub spent_of : WorldState → ℕ
spent_of w = w.queues.pushes
