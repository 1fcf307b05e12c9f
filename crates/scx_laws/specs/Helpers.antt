-- What a helper call may do, by cases: what is wrong with it, and what it does where nothing is
-- wrong. The definitions that compute answers and worlds are in `scx_sched_world`; a law says
-- that they are allowed here, and that nothing else is.
use Rattle.std.specs.Prelude.{◌≡◌, ℕ, ◌+◌, ◌-◌, ◌<◌, ◌≤◌, ◌^◌, ◌*◌, ◌%◌, true, false, List, length, Option, Some, None}
use Rattle.std.specs.Int.{w64, bit_at, cast_signed}
use Rattle.scx_dsq.specs.Queues.{exists, queue_of, front_of, len_of, Waits}
use Rattle.scx_dsq.specs.Calls.{with_queue, after_push, after_remove}
use Rattle.scx_dsq.specs.Entries.{same_sort}
use Rattle.scx_dsq.specs.declared.entries.Entry.{Entry}
use Rattle.scx_dsq.specs.declared.entries.Rank.{Rank}
use Rattle.scx_dsq.specs.declared.entries.Rank.TheVariants.{Fifo, Vtime}
use Rattle.scx_isa_semantics.specs.declared.callbacks.Callback.TheVariants.{SelectCpu, Enqueue, Dispatch}
use Rattle.scx_isa_semantics.specs.declared.host_tables.Helper.{Helper}
use Rattle.scx_isa_semantics.specs.declared.host_tables.Helper.TheVariants.{MapLookupElem, KtimeGetNs, CreateDsq, DsqInsert, DsqInsertVtime, DsqMoveToLocal, SelectCpuDfl, CpuIdle, TaskByPid, DsqNrQueued, KickCpu, SmpProcessorId, Exit, CpuCurr, DsqPeek, TaskRunning, TaskCpu, PickIdle, ClaimIdle, TimerStart, TimerCancel, PrandomU32, MayRun, OnMap}
use Rattle.scx_vm.specs.declared.arguments.Arg.{Arg}
use Rattle.scx_vm.specs.declared.arguments.Answer.{Answer}
use Rattle.scx_vm.specs.declared.arguments.Answer.TheVariants.{Num}
use Rattle.scx_sched_world.specs.declared.call.Insert.{Insert}
use Rattle.scx_sched_world.specs.declared.eject.Cause.{Cause}
use Rattle.scx_sched_world.specs.declared.eject.Cause.TheVariants as reason
use Rattle.scx_sched_world.specs.declared.faults.Fault.{Fault}
use Rattle.scx_sched_world.specs.declared.faults.Fault.TheVariants.{NoSuchQueue, CannotInsert, NoSuchCpu, UnknownFlag, CannotCreate, BuiltinVtime, Mixed, IdleUntracked, NotAllowed}
use Rattle.scx_sched_world.specs.declared.notes.What.TheVariants as notes
use Rattle.scx_sched_world.specs.declared.timers.Alarm.{Alarm}
use Rattle.scx_sched_world.specs.Ids.{policy_end, global, local, held_queue, local_on}
use Rattle.scx_sched_world.specs.CpuSets.{is_in_set, and_cpu}
use Rattle.scx_sched_world.specs.World.{WorldState, with_queues, with_kick, with_preemption, is_by_linux, task_at, running, is_idle, is_claimed, with_random, with_note}
use Rattle.scx_sched_world.specs.Tasks.{after_leave, after_enter, queue_for, for_cpu}
use Rattle.scx_sched_world.specs.Helpers.{invalid, with_insert, with_move, given_number, given_task, task_or_null, insert_of, insert_of_vtime, with_timer, alarm_at}
use Rattle.scx_laws.specs.Differences.{Homes, IsCurrent, IsHere}
use Rattle.scx_laws.specs.BoundTasks.{IsAllowed, IsNextFor}

-- ---- queues that a call names

-- a queue that the policy created
abbrev pub IsPolicyQueue : WorldState → ℕ → Type 0
IsPolicyQueue w q = (q < policy_end) × (exists w.queues q ≡ true)

-- where a task may be put
pub data IsDestination (w : WorldState) (q : ℕ) : Type 0 where
  Own : IsPolicyQueue w q → IsDestination w q
  Global : q ≡ global → IsDestination w q
  Local : q ≡ local → IsDestination w q
  LocalOn : (c : ℕ) → c < length w.cpus → q ≡ local_on c → IsDestination w q

-- the local queue of a processor that there isn't; its number would have 32 bits
pub record NamesNoCpu (w : WorldState) (q : ℕ) : Type 0 where
  pub cpu : ℕ
  pub past : length w.cpus ≤ cpu
  pub small : cpu < 2 ^ 32
  pub named : q ≡ local_on cpu

-- ---- what is wrong with a call

-- a policy creates a queue below the end that isn't there, while there is room
pub record CanCreate (w : WorldState) (q : ℕ) : Type 0 where
  pub below : q < policy_end
  pub free : exists w.queues q ≡ false
  pub room : length w.queues.ids < w.queues.room

-- in select_cpu and enqueue the task at hand, and once; in dispatch a task that is held
pub data MayInsert (w : WorldState) (t : Option ℕ) : Type 0 where
  InSelectCpu : w.call.callback ≡ SelectCpu → w.call.insert ≡ None → t ≡ Some w.call.task
      → MayInsert w t
  InEnqueue : w.call.callback ≡ Enqueue → w.call.insert ≡ None → t ≡ Some w.call.task
      → MayInsert w t
  InDispatch : (u : ℕ)
      → w.call.callback ≡ Dispatch → t ≡ Some u → queue_of w.queues u ≡ Some held_queue
      → MayInsert w t

-- by virtual time into one of the machine's own queues
pub record IsBuiltinVtime (q : ℕ) (r : Rank) : Type 0 where
  pub key : ℕ
  pub by_vtime : r ≡ Vtime key
  pub own : policy_end ≤ q

-- a task waits in the queue that was put there in the other way
pub record IsMixed (w : WorldState) (q : ℕ) (r : Rank) : Type 0 where
  pub task : ℕ
  pub entry : Entry
  pub waits : Waits w.queues q task entry
  pub other : same_sort entry.rank r ≡ false

-- from a queue of the policy, in dispatch
pub record MayMove (w : WorldState) (q : ℕ) : Type 0 where
  pub here : w.call.callback ≡ Dispatch
  pub there : IsPolicyQueue w q

-- the flags of an insert: that of a wake, and, under Linux rules, PREEMPT (2^32), HEAD (2^48), and
-- their sums
pub data AreFlags (w : WorldState) (flags : ℕ) : Type 0 where
  OfWake : flags ≤ 1 → AreFlags w flags
  OfLinux : (wake preempt head : ℕ)
      → is_by_linux w ≡ true → wake ≤ 1 → preempt ≤ 1 → head ≤ 1
      → flags ≡ wake + preempt * 2 ^ 32 + head * 2 ^ 48 → AreFlags w flags

-- under Linux rules an insert in dispatch of a task that isn't held is late (ext.c,
-- `finish_dispatch`)
pub record IsLate (w : WorldState) (t : Option ℕ) : Type 0 where
  pub by_linux : is_by_linux w ≡ true
  pub here : w.call.callback ≡ Dispatch
  pub gone : ¬ MayInsert w t

-- a processor to whose local queue an insert brings its task: the one that is named, or, with LOCAL
-- in dispatch, the one at hand
pub data IsMeant (w : WorldState) (q c : ℕ) : Type 0 where
  IsNamed : c < length w.cpus → q ≡ local_on c → IsMeant w q c
  IsAtHand : w.call.callback ≡ Dispatch → q ≡ local → c ≡ w.call.cpu → IsMeant w q c

-- the task may not run on that processor (ext.c, `task_can_run_on_remote_rq`)
pub record IsForbidden (w : WorldState) (t : Option ℕ) (q : ℕ) : Type 0 where
  pub task : ℕ
  pub given : t ≡ Some task
  pub cpu : ℕ
  pub meant : IsMeant w q cpu
  pub outside : ¬ IsAllowed w task cpu

-- of several faults of an insert the first one here
abbrev pub JudgesInsert : WorldState → Option ℕ → Insert → ℕ → Option Fault → Type 0
JudgesInsert w t i flags (Some CannotInsert) = ¬ MayInsert w t
JudgesInsert w t i flags (Some UnknownFlag) = MayInsert w t × (¬ AreFlags w flags)
JudgesInsert w t i flags (Some NoSuchQueue) =
    MayInsert w t × AreFlags w flags × (¬ IsDestination w i.queue) × (¬ NamesNoCpu w i.queue)
JudgesInsert w t i flags (Some NoSuchCpu) = MayInsert w t × AreFlags w flags × NamesNoCpu w i.queue
JudgesInsert w t i flags (Some BuiltinVtime) =
    MayInsert w t × AreFlags w flags × IsDestination w i.queue × IsBuiltinVtime i.queue i.rank
JudgesInsert w t i flags (Some Mixed) =
    MayInsert w t × AreFlags w flags × IsDestination w i.queue × (¬ IsBuiltinVtime i.queue i.rank)
    × IsMixed w i.queue i.rank
JudgesInsert w t i flags (Some NotAllowed) =
    MayInsert w t × AreFlags w flags × IsDestination w i.queue × (¬ IsBuiltinVtime i.queue i.rank)
    × (¬ IsMixed w i.queue i.rank) × IsForbidden w t i.queue
JudgesInsert w t i flags None =
    MayInsert w t × AreFlags w flags × IsDestination w i.queue × (¬ IsBuiltinVtime i.queue i.rank)
    × (¬ IsMixed w i.queue i.rank) × (¬ IsForbidden w t i.queue)
JudgesInsert w t i flags (Some f) = ⊥

-- only the flags of a late insert are looked at
abbrev pub JudgesFlags : WorldState → ℕ → Option Fault → Type 0
JudgesFlags w flags None = AreFlags w flags
JudgesFlags w flags (Some UnknownFlag) = ¬ AreFlags w flags
JudgesFlags w flags (Some f) = ⊥

-- an insert, in time or late
pub data JudgesAnInsert (w : WorldState) (t : Option ℕ) (i : Insert) (flags : ℕ)
    (o : Option Fault) : Type 0 where
  InTime : ¬ IsLate w t → JudgesInsert w t i flags o → JudgesAnInsert w t i flags o
  TooLate : IsLate w t → JudgesFlags w flags o → JudgesAnInsert w t i flags o

-- a call that wants to create a queue: it can, or CannotCreate is the fault
abbrev pub JudgesCreate : WorldState → ℕ → Option Fault → Type 0
JudgesCreate w q None = CanCreate w q
JudgesCreate w q (Some CannotCreate) = ¬ CanCreate w q
JudgesCreate w q (Some f) = ⊥

-- a call that wants such a queue
abbrev pub JudgesQueue : Type 0 → Option Fault → Type 0
JudgesQueue fits None = fits
JudgesQueue fits (Some NoSuchQueue) = ¬ fits
JudgesQueue fits (Some f) = ⊥

-- a call that wants a timer of the policy
abbrev pub JudgesTimer : WorldState → ℕ → Option Fault → Type 0
JudgesTimer w t None = t < length w.timers
JudgesTimer w t (Some UnknownFlag) = length w.timers ≤ t
JudgesTimer w t (Some f) = ⊥

-- a call that wants a processor
abbrev pub JudgesCpu : WorldState → ℕ → Option Fault → Type 0
JudgesCpu w c None = c < length w.cpus
JudgesCpu w c (Some NoSuchCpu) = length w.cpus ≤ c
JudgesCpu w c (Some f) = ⊥

-- a question whether a processor is idle, or its claim: where the host doesn't track which are
-- idle, that is the fault, before any other (ext/idle.c, `check_builtin_idle_enabled`)
abbrev pub JudgesAsk : WorldState → ℕ → Option Fault → Type 0
JudgesAsk w c None = (w.tracks_idle ≡ true) × (c < length w.cpus)
JudgesAsk w c (Some IdleUntracked) = w.tracks_idle ≡ false
JudgesAsk w c (Some NoSuchCpu) = (w.tracks_idle ≡ true) × (length w.cpus ≤ c)
JudgesAsk w c (Some f) = ⊥

-- the choice of an idle processor for a task; what isn't a task has none, and no fault
abbrev pub JudgesChoice : WorldState → Option ℕ → Option Fault → Type 0
JudgesChoice w None o = o ≡ None
JudgesChoice w (Some t) None = w.tracks_idle ≡ true
JudgesChoice w (Some t) (Some IdleUntracked) = w.tracks_idle ≡ false
JudgesChoice w (Some t) (Some f) = ⊥

-- a kick: the flags 0, 1 (IDLE) and 2 (PREEMPT) are known
abbrev pub JudgesKick : WorldState → ℕ → ℕ → Option Fault → Type 0
JudgesKick w c flags None = (flags ≤ 2) × (c < length w.cpus)
JudgesKick w c flags (Some UnknownFlag) = 2 < flags
JudgesKick w c flags (Some NoSuchCpu) = (flags ≤ 2) × (length w.cpus ≤ c)
JudgesKick w c flags (Some f) = ⊥

-- a choice from a mask: the flags 0 and 1, which asks for a whole core, are known
abbrev pub JudgesPick : WorldState → ℕ → Option Fault → Type 0
JudgesPick w flags None = (w.tracks_idle ≡ true) × (flags ≤ 1)
JudgesPick w flags (Some IdleUntracked) = w.tracks_idle ≡ false
JudgesPick w flags (Some UnknownFlag) = (w.tracks_idle ≡ true) × (1 < flags)
JudgesPick w flags (Some f) = ⊥

-- the fault of a call, or that it has none; of the look-up of an element, which a run does
-- itself, nothing is allowed
abbrev pub Judges : WorldState → Helper → List Arg → Option Fault → Type 0
Judges w KtimeGetNs a o = o ≡ None
Judges w CreateDsq a o = JudgesCreate w (given_number a 0) o
Judges w DsqInsert a o = JudgesAnInsert w (given_task a 0) (insert_of w a) (given_number a 3) o
Judges w DsqInsertVtime a o =
    JudgesAnInsert w (given_task a 0) (insert_of_vtime w a) (given_number a 4) o
Judges w DsqMoveToLocal a o = JudgesQueue (MayMove w (given_number a 0)) o
Judges w SelectCpuDfl a o = JudgesChoice w (given_task a 0) o
Judges w CpuIdle a o = JudgesAsk w (given_number a 0) o
Judges w TaskByPid a o = o ≡ None
Judges w DsqNrQueued a o = JudgesQueue (IsPolicyQueue w (given_number a 0)) o
Judges w KickCpu a o = JudgesKick w (given_number a 0) (given_number a 1) o
Judges w SmpProcessorId a o = o ≡ None
Judges w Exit a o = o ≡ None
Judges w CpuCurr a o = JudgesCpu w (given_number a 0) o
Judges w DsqPeek a o = JudgesQueue (IsPolicyQueue w (given_number a 0)) o
Judges w TaskRunning a o = o ≡ None
Judges w TaskCpu a o = o ≡ None
Judges w PickIdle a o = JudgesPick w (given_number a 1) o
Judges w ClaimIdle a o = JudgesAsk w (given_number a 0) o
Judges w TimerStart a o = JudgesTimer w (given_number a 0) o
Judges w TimerCancel a o = JudgesTimer w (given_number a 0) o
Judges w PrandomU32 a o = o ≡ None
Judges w MayRun a o = JudgesCpu w (given_number a 1) o
Judges w MapLookupElem a o = ⊥
Judges w (OnMap h) a o = ⊥

-- ---- what a call does where nothing is wrong: its answer, and the world that it leaves

-- the insert is kept until the callback ends; in dispatch the held task goes at once to where it
-- wants it, and that is noted; a late insert counts as one, and does nothing else
pub data Inserts (w : WorldState) (t : Option ℕ) (i : Insert) (v : WorldState) : Type 0 where
  Keeps : ¬ (w.call.callback ≡ Dispatch) → v ≡ with_insert w i → Inserts w t i v
  Releases : (u : ℕ)
      → w.call.callback ≡ Dispatch → t ≡ Some u → ¬ IsLate w t
      → v ≡ with_note (with_move (after_enter (after_leave w u) u (for_cpu w.call.cpu i)))
      (notes.Insert u (queue_for w.call.cpu i.queue))
      → Inserts w t i v
  PassesOver : IsLate w t → v ≡ with_move w → Inserts w t i v

-- the first task of the queue that may run on the processor at hand goes to its local queue, and
-- that is noted; a queue that has none for it stays
pub data Moves (w : WorldState) (q n : ℕ) (v : WorldState) : Type 0 where
  First : (t : ℕ) (moved : WorldState)
      → IsNextFor w q w.call.cpu (Some t) → n ≡ 1
      → Homes
      (with_queues w (after_push (after_remove w.queues t) (local_on w.call.cpu) t Fifo)) t
      w.call.cpu moved
      → v ≡ with_note (with_move moved) (notes.Move t w.call.cpu) → Moves w q n v
  HasNone : IsNextFor w q w.call.cpu None → n ≡ 0 → v ≡ w → Moves w q n v

-- a processor that may be chosen: it is idle, and, under Linux rules, chosen for no other task
-- (ext/idle.c, `scx_idle_test_and_clear_cpu`)
pub record IsFree (w : WorldState) (c : ℕ) : Type 0 where
  pub idle : is_idle w c ≡ true
  pub unclaimed : is_claimed w c ≡ false

-- one that may be chosen for a task, which may run there
pub record IsFreeFor (w : WorldState) (t c : ℕ) : Type 0 where
  pub allowed : IsAllowed w t c
  pub free : IsFree w c

-- the processor that is chosen for a task: its own if that is free, else the lowest free one, of
-- those on which it may run; none where the host doesn't track which are idle
pub data IsChoice (w : WorldState) (t : ℕ) : Option ℕ → Type 0 where
  ItsOwn : (c : ℕ)
      → w.tracks_idle ≡ true → c ≡ (task_at w t).prev_cpu → IsFreeFor w t c
      → IsChoice w t (Some c)
  Lowest : (c : ℕ)
      → w.tracks_idle ≡ true → ¬ IsFreeFor w t (task_at w t).prev_cpu → IsFreeFor w t c
      → ((d : ℕ) → d < c → ¬ IsFreeFor w t d)
      → IsChoice w t (Some c)
  NoneFree : ((d : ℕ) → ¬ IsFreeFor w t d) → IsChoice w t None
  NoneTracked : w.tracks_idle ≡ false → IsChoice w t None

-- the processor for which a task is put by default: the one that is chosen, else its own
pub data IsDefault (w : WorldState) (t c : ℕ) : Type 0 where
  Chosen : IsChoice w t (Some c) → IsDefault w t c
  NotChosen : IsChoice w t None → c ≡ (task_at w t).prev_cpu → IsDefault w t c

-- the world with that processor claimed, by the callback at hand
abbrev pub with_claim : WorldState → ℕ → WorldState
with_claim w c = record w {
  claimed = and_cpu w.claimed c;
  call = record w.call { claims = and_cpu w.call.claims c };
}

-- under Linux rules the processor that is chosen is claimed, until a cycle begins there
pub data Claims (w : WorldState) (c : ℕ) (v : WorldState) : Type 0 where
  NoClaim : is_by_linux w ≡ false → v ≡ w → Claims w c v
  MakesClaim : is_by_linux w ≡ true → v ≡ with_claim w c → Claims w c v

-- the choice for a task, and its claim; what isn't a task has none
pub data Chooses (w : WorldState) (n : ℕ) (o : Option ℕ) (v : WorldState) : Type 0 where
  OfTask : (t : ℕ) → o ≡ Some t → IsChoice w t (Some n) → Claims w n v → Chooses w n o v
  OfNone : (t : ℕ)
      → o ≡ Some t → IsChoice w t None → n ≡ (task_at w t).prev_cpu → v ≡ w → Chooses w n o v
  OfNobody : o ≡ None → n ≡ 0 → v ≡ w → Chooses w n o v

-- a processor seems idle to a callback: it is, and no other callback has claimed it
pub data SeemsIdle (w : WorldState) (c : ℕ) : Type 0 where
  IsUnclaimed : IsFree w c → SeemsIdle w c
  ClaimedHere : is_idle w c ≡ true → is_in_set w.call.claims c ≡ true → SeemsIdle w c

-- 1 where a processor seems idle, else 0; one that isn't there is not idle
pub data Tells (w : WorldState) (c n : ℕ) : Type 0 where
  TellsIdle : SeemsIdle w c → n ≡ 1 → Tells w c n
  TellsBusy : ¬ SeemsIdle w c → n ≡ 0 → Tells w c n

-- a processor that is kicked looks for work as the event ends: whether it is idle or not (flag 0),
-- only where no task runs or its own cycle is under way (1), or once the slice of its task is taken
-- (2)
pub data Kicks (w : WorldState) (c flags : ℕ) (v : WorldState) : Type 0 where
  KicksAny : flags ≡ 0 → v ≡ with_kick w c → Kicks w c flags v
  KicksIdle : flags ≡ 1 → running w c ≡ None → v ≡ with_kick w c → Kicks w c flags v
  KicksCycling : flags ≡ 1 → w.cycling ≡ Some c → v ≡ with_kick w c → Kicks w c flags v
  LeavesBusy : (t : ℕ)
      → flags ≡ 1 → running w c ≡ Some t → ¬ (w.cycling ≡ Some c) → v ≡ w → Kicks w c flags v
  KicksToPreempt : flags ≡ 2 → v ≡ with_preemption w c → Kicks w c flags v

-- the task of that pid, which is its number and 1
pub data Finds (w : WorldState) (n : ℕ) (o : Option ℕ) : Type 0 where
  Found : (t : ℕ) → t < length w.tasks → n ≡ t + 1 → o ≡ Some t → Finds w n o
  Nobody : ((t : ℕ) → t < length w.tasks → n ≡ t + 1 → ⊥) → o ≡ None → Finds w n o

-- 1 for a task that is current on a processor, else 0
pub data TellsCurrent (w : WorldState) (o : Option ℕ) (n : ℕ) : Type 0 where
  IsOn : (t c : ℕ) → o ≡ Some t → c < length w.cpus → IsCurrent w c (Some t) → n ≡ 1
      → TellsCurrent w o n
  IsOnNone : (t : ℕ)
      → o ≡ Some t → ((c : ℕ) → c < length w.cpus → ¬ IsCurrent w c (Some t)) → n ≡ 0
      → TellsCurrent w o n
  GivenNone : o ≡ None → n ≡ 0 → TellsCurrent w o n

-- the processor of a task, for which it was put last, or on which it runs
pub data TellsHome (w : WorldState) (o : Option ℕ) (n : ℕ) : Type 0 where
  OfTheTask : (t : ℕ) → o ≡ Some t → n ≡ (task_at w t).prev_cpu → TellsHome w o n
  OfNoTask : o ≡ None → n ≡ 0 → TellsHome w o n

-- 1 for a task that may run on the processor, else 0
pub data TellsAllowed (w : WorldState) (o : Option ℕ) (c n : ℕ) : Type 0 where
  MayThere : (t : ℕ) → o ≡ Some t → IsAllowed w t c → n ≡ 1 → TellsAllowed w o c n
  MayNotThere : (t : ℕ) → o ≡ Some t → ¬ IsAllowed w t c → n ≡ 0 → TellsAllowed w o c n
  NoOneMay : o ≡ None → n ≡ 0 → TellsAllowed w o c n

-- a random number of 32 bits: the upper half of the number that comes next, from which the one
-- after it is made (Knuth, The Art of Computer Programming 2, 3.3.4)
pub record Draws (w : WorldState) (n : ℕ) (v : WorldState) : Type 0 where
  pub next : ℕ
  pub follows : next ≡ (w.random * 6364136223846793005 + 1442695040888963407) % 2 ^ 64
  pub low : ℕ
  pub halves : next ≡ n * 2 ^ 32 + low
  pub short : low < 2 ^ 32
  pub all : v ≡ with_random w next

-- a processor of a mask, a bit for each, that may be chosen
pub record IsFreeIn (w : WorldState) (mask c : ℕ) : Type 0 where
  pub wanted : bit_at mask c ≡ 1
  pub free : IsFree w c

-- the lowest one is chosen, and claimed; -16 where there is none (ext/idle.c,
-- `scx_bpf_pick_idle_cpu`)
pub data PicksFrom (w : WorldState) (mask n : ℕ) (v : WorldState) : Type 0 where
  PicksLowest : IsFreeIn w mask n → ((d : ℕ) → d < n → ¬ IsFreeIn w mask d) → Claims w n v
      → PicksFrom w mask n v
  PicksNone : ((d : ℕ) → ¬ IsFreeIn w mask d) → n ≡ 2 ^ 64 - 16 → v ≡ w → PicksFrom w mask n v

-- 1 for a processor that may be chosen, which is claimed, else 0 (ext/idle.c,
-- `scx_bpf_test_and_clear_cpu_idle`)
pub data ClaimsThis (w : WorldState) (c n : ℕ) (v : WorldState) : Type 0 where
  WasFree : IsFree w c → n ≡ 1 → Claims w c v → ClaimsThis w c n v
  WasTaken : ¬ IsFree w c → n ≡ 0 → v ≡ w → ClaimsThis w c n v

-- a delay in whole milliseconds: the least one that is as long as these nanoseconds, and at least 1
pub record IsDelay (ns delay : ℕ) : Type 0 where
  pub some : 1 ≤ delay
  pub long : ns ≤ delay * 1000000
  pub least : (n : ℕ) → 1 ≤ n → ns ≤ n * 1000000 → delay ≤ n

-- a timer is started, whether or not it was before: it is due after that delay, for the processor
-- of the callback that starts it (kernel/bpf/helpers.c, `bpf_timer_start`)
pub record StartsTimer (w : WorldState) (t ns : ℕ) (v : WorldState) : Type 0 where
  pub delay : ℕ
  pub delays : IsDelay ns delay
  pub cpu : ℕ
  pub here : IsHere w cpu
  pub all : v ≡ with_timer w t (Some (record { due = w.clock + delay; cpu = cpu }))

-- a timer isn't started any more, and 1 is answered where it was; out of its own callback nothing
-- changes, and -35 is answered (kernel/bpf/helpers.c, `bpf_timer_cancel`)
pub data CancelsTimer (w : WorldState) (t n : ℕ) (v : WorldState) : Type 0 where
  OfItself : w.passing.timer ≡ Some t → n ≡ 2 ^ 64 - 35 → v ≡ w → CancelsTimer w t n v
  WasStarted : (a : Alarm)
      → ¬ (w.passing.timer ≡ Some t) → alarm_at w t ≡ Some a → n ≡ 1 → v ≡ with_timer w t None
      → CancelsTimer w t n v
  NotStarted : ¬ (w.passing.timer ≡ Some t)
      → alarm_at w t ≡ None → n ≡ 0 → v ≡ with_timer w t None → CancelsTimer w t n v

-- the callback at hand blames the policy for a fault or an exit: the first of both counts (ext.c,
-- `scx_claim_exit`)
pub data Blames (w : WorldState) (x : Cause) (v : WorldState) : Type 0 where
  IsFirst : w.call.cause ≡ None → v ≡ record w { call = record w.call { cause = Some x } }
      → Blames w x v
  HasOne : (y : Cause) → w.call.cause ≡ Some y → v ≡ w → Blames w x v

-- what a call that answers a number does without a fault: the answer, and the world after it
abbrev pub Does : WorldState → Helper → List Arg → ℕ → WorldState → Type 0
Does w KtimeGetNs a n v = (n ≡ w.clock * 1000000) × (v ≡ w)
Does w CreateDsq a n v = (n ≡ 0) × (v ≡ with_queues w (with_queue w.queues (given_number a 0)))
Does w DsqInsert a n v = (n ≡ 0) × Inserts w (given_task a 0) (insert_of w a) v
Does w DsqInsertVtime a n v = (n ≡ 0) × Inserts w (given_task a 0) (insert_of_vtime w a) v
Does w DsqMoveToLocal a n v = Moves w (given_number a 0) n v
Does w SelectCpuDfl a n v = Chooses w n (given_task a 0) v
Does w CpuIdle a n v = Tells w (given_number a 0) n × (v ≡ w)
Does w DsqNrQueued a n v = (n ≡ len_of w.queues (given_number a 0)) × (v ≡ w)
Does w KickCpu a n v = (n ≡ 0) × Kicks w (given_number a 0) (given_number a 1) v
Does w SmpProcessorId a n v = IsHere w n × (v ≡ w)
Does w Exit a n v = (n ≡ 0) × Blames w (reason.Exit (cast_signed w64 (given_number a 0))) v
Does w TaskRunning a n v = TellsCurrent w (given_task a 0) n × (v ≡ w)
Does w TaskCpu a n v = TellsHome w (given_task a 0) n × (v ≡ w)
Does w PickIdle a n v = PicksFrom w (given_number a 0) n v
Does w ClaimIdle a n v = ClaimsThis w (given_number a 0) n v
Does w TimerStart a n v = (n ≡ 0) × StartsTimer w (given_number a 0) (given_number a 1) v
Does w TimerCancel a n v = CancelsTimer w (given_number a 0) n v
Does w PrandomU32 a n v = Draws w n v
Does w MayRun a n v = TellsAllowed w (given_task a 0) (given_number a 1) n × (v ≡ w)
Does w CpuCurr a n v = ⊥
Does w DsqPeek a n v = ⊥
Does w TaskByPid a n v = ⊥
Does w MapLookupElem a n v = ⊥
Does w (OnMap h) a n v = ⊥

-- the task that a call answers without a fault, or none; most answer a number
abbrev pub Names : WorldState → Helper → List Arg → Option ℕ → Type 0
Names w TaskByPid a o = Finds w (given_number a 0) o
Names w CpuCurr a o = IsCurrent w (given_number a 0) o
Names w DsqPeek a o = o ≡ front_of w.queues (given_number a 0)
Names w KtimeGetNs a o = ⊥
Names w CreateDsq a o = ⊥
Names w DsqInsert a o = ⊥
Names w DsqInsertVtime a o = ⊥
Names w DsqMoveToLocal a o = ⊥
Names w SelectCpuDfl a o = ⊥
Names w CpuIdle a o = ⊥
Names w DsqNrQueued a o = ⊥
Names w KickCpu a o = ⊥
Names w SmpProcessorId a o = ⊥
Names w Exit a o = ⊥
Names w TaskRunning a o = ⊥
Names w TaskCpu a o = ⊥
Names w PickIdle a o = ⊥
Names w ClaimIdle a o = ⊥
Names w TimerStart a o = ⊥
Names w TimerCancel a o = ⊥
Names w PrandomU32 a o = ⊥
Names w MayRun a o = ⊥
Names w MapLookupElem a o = ⊥
Names w (OnMap h) a o = ⊥

-- the answer of a call with a fault: that it is invalid, but 0 of a call that answers a task
abbrev pub wrong_answer : Helper → ℕ
wrong_answer CpuCurr = 0
wrong_answer DsqPeek = 0
wrong_answer h = invalid

-- ---- both together: a call with a fault leaves the blame for it alone
pub data IsEffect (w : WorldState) (h : Helper) (a : List Arg) (x : Answer) (v : WorldState)
    : Type 0 where
  Done : (n : ℕ) → Judges w h a None → Does w h a n v → x ≡ Num n → IsEffect w h a x v
  NamesTask : (o : Option ℕ)
      → Judges w h a None → Names w h a o → x ≡ task_or_null o → v ≡ w → IsEffect w h a x v
  Wrong : (f : Fault)
      → Judges w h a (Some f) → x ≡ Num (wrong_answer h) → Blames w (reason.Fault f) v
      → IsEffect w h a x v
