-- What an accepted event does, by cases, over the steps of a cycle.
use Rattle.std.specs.Prelude.{◌≡◌, ℕ, suc, ◌+◌, ◌^◌, ◌<◌, ◌≤◌, true, false, [], ◌∷◌, length, Option, Some, None}
use Rattle.scx_dsq.specs.Queues.{len_of, front_of, behind_of}
use Rattle.scx_weights.specs.Hierarchy.{with_weight, with_own_weight}
use Rattle.scx_isa_semantics.specs.declared.callbacks.Callback.TheVariants as callback
use Rattle.scx_vm.specs.Programs.{VerifiedProgram}
use Rattle.scx_sched_world.specs.declared.call.Insert.{Insert}
use Rattle.scx_sched_world.specs.declared.notes.What.TheVariants as note
use Rattle.scx_sched_world.specs.Ids.{parked_queue}
use Rattle.scx_sched_world.specs.World.{WorldState, is_throttled, with_tree, with_waker, task_at, wait, waits, running, cpu_of, is_idle, at_callback, note_now}
use Rattle.scx_sched_world.specs.declared.eject.Eject.{Eject}
use Rattle.scx_sched_world.specs.declared.eject.Eject.TheVariants as cause
use Rattle.scx_sched_world.specs.Tasks.{for_cpu, to_local, after_wake, after_sleep, let_go, after_tick, used_ms, later, begun_periods}
use Rattle.scx_sched_world.specs.Helpers.{with_insert}
use Rattle.scx_sched_world.specs.Waits.{IsFirstOverdue}
use Rattle.scx_sched_machine.specs.declared.events.Event.{Event}
use Rattle.scx_sched_machine.specs.declared.events.Event.TheVariants.{Wake, Sleep, Tick, Clock, SetWeight, SetTaskWeight}
use Rattle.scx_sched_machine.specs.Steps.{State, Stepped, with_world, stays, after, one_after_other, is_by_linux}
use Rattle.scx_sched_machine.specs.Callbacks.{call_back, answered_by, task_cpu_and_0, task_and_number}
use Rattle.scx_laws.specs.Differences.{Homes, TellsWaker, CallsIfThere, HearsTick, EndsSlices, TellsSleep, LooksIfIdle}
use Rattle.scx_laws.specs.BoundTasks.{IsAllowed, IsFirstHome, HasOneCpu}
use Rattle.scx_laws.specs.Helpers.{IsChoice, IsDefault, with_claim}
use Rattle.scx_laws.specs.Ejections.{Ejects}
use Rattle.scx_laws.specs.Cycles.{noting, silent, entering, HearsStop, HearsRun, LeavesCpu, Puts, parking, Cycles}
use Rattle.scx_laws.specs.Custody.{LeavesQueue}
use Rattle.scx_laws.specs.Timers.{FiresAll}
use Rattle.scx_laws.specs.Rounds.{IsFollowed}
use Rattle.scx_laws.specs.Refusals.{IsWeight}

-- the state in which a task has become runnable, and waits from now on
abbrev pub after_waking : State → ℕ → State
after_waking s t = with_world s (after_wake s.world t)

-- once the task is runnable; it is given the processor on which it ran last
abbrev pub select_called : State → ℕ → Stepped
select_called s t =
    call_back s callback.SelectCpu (task_cpu_and_0 t (task_at s.world t).prev_cpu) t
    (task_at s.world t).prev_cpu

-- what select_cpu answers once the task is runnable, if it comes to an answer
abbrev pub select_answered : State → ℕ → Option ℕ
select_answered s t =
    answered_by s callback.SelectCpu (task_cpu_and_0 t (task_at s.world t).prev_cpu) t
    (task_at s.world t).prev_cpu

-- after select_cpu, which answered so: the processor that it names, or the lowest one on which the
-- task may run, where it may not run on that (core.c, `select_fallback_rq`); the default choice
-- where there is no such callback, or the policy is ejected, as it is by an answer that is no
-- processor
pub data IsTarget (s : State) (t : ℕ) (answer : Option ℕ) (c : ℕ) : Type 0 where
  Is_ejected :
      (x : Eject)
      → s.world.ejected ≡ Some x → IsDefault s.world t c → IsTarget s t answer c
  NoCallback : s.world.ejected ≡ None → s.policy.callbacks.select_cpu ≡ None → IsDefault s.world t c
      → IsTarget s t answer c
  Named : (p : VerifiedProgram)
      → s.world.ejected ≡ None → s.policy.callbacks.select_cpu ≡ Some p → answer ≡ Some c
      → c < length s.world.cpus → IsAllowed s.world t c → IsTarget s t answer c
  NamedOutside : (p : VerifiedProgram) (n : ℕ)
      → s.world.ejected ≡ None → s.policy.callbacks.select_cpu ≡ Some p → answer ≡ Some n
      → n < length s.world.cpus → ¬ IsAllowed s.world t n → IsFirstHome s.world t c
      → IsTarget s t answer c

-- under Linux rules, where there is no such callback, the processor that is chosen is claimed, and
-- the task inserted into the local queue there (ext.c, `select_task_rq_scx`)
pub data InsertsByChoice (s : State) (t : ℕ) (v : State) : Type 0 where
  AsByPlain : is_by_linux s ≡ false → v ≡ s → InsertsByChoice s t v
  HasCallback : (p : VerifiedProgram)
      → s.policy.callbacks.select_cpu ≡ Some p → v ≡ s → InsertsByChoice s t v
  NoneChosen : s.policy.callbacks.select_cpu ≡ None → IsChoice s.world t None → v ≡ s
      → InsertsByChoice s t v
  IsChosen : (c : ℕ)
      → is_by_linux s ≡ true → s.policy.callbacks.select_cpu ≡ None → IsChoice s.world t (Some c)
      → v ≡ with_world s (with_insert (with_claim s.world c) (to_local c)) → InsertsByChoice s t v

-- the target of a task that is runnable is found: select_cpu is called; not so under Linux rules
-- where the task may run on one processor alone, which is the target (core.c, `select_task_rq`)
pub data Selects (s : State) (t c : ℕ) (r : Stepped) : Type 0 where
  Asks_by_plain : (v : State)
      → is_by_linux s ≡ false → IsTarget (select_called s t).state t (select_answered s t) c
      → InsertsByChoice (select_called s t).state t v
      → r ≡ record (select_called s t) { state = v } → Selects s t c r
  Asks_of_several : (v : State)
      → ¬ HasOneCpu s.world t → IsTarget (select_called s t).state t (select_answered s t) c
      → InsertsByChoice (select_called s t).state t v
      → r ≡ record (select_called s t) { state = v } → Selects s t c r
  Is_only_one : is_by_linux s ≡ true → HasOneCpu s.world t → IsFirstHome s.world t c
      → r ≡ silent s (at_callback s.world callback.SelectCpu t c) → Selects s t c r

-- under Linux rules the policy hears that the task is runnable, before what select_cpu inserted is
-- applied; where that puts the policy out of force, nothing is (ext.c, `enqueue_task_scx`)
pub data TellsRunnable (s : State) (t c : ℕ) (told : Stepped) (i : Option Insert) : Type 0 where
  TellsNobody : is_by_linux s ≡ false → told ≡ stays s → i ≡ s.world.call.insert
      → TellsRunnable s t c told i
  TellsPolicy : is_by_linux s ≡ true
      → CallsIfThere s callback.Runnable (task_and_number t 1) t c told
      → told.state.world.ejected ≡ None → i ≡ s.world.call.insert → TellsRunnable s t c told i
  TellsLast : (x : Eject)
      → is_by_linux s ≡ true → CallsIfThere s callback.Runnable (task_and_number t 1) t c told
      → told.state.world.ejected ≡ Some x → i ≡ None → TellsRunnable s t c told i

-- what select_cpu inserted is applied, LOCAL being of the target; else the task is put
pub data Settles (s : State) (t c : ℕ) (i : Option Insert) (r : Stepped) : Type 0 where
  WasInserted : (x : Insert) → i ≡ Some x → r ≡ entering s t (for_cpu c x) → Settles s t c i r
  WasPut : i ≡ None → Puts s t c 1 r → Settles s t c i r

-- the state in which no task is being woken
abbrev pub is_woken : State → State
is_woken s = with_world s (with_waker s.world None)

-- a target that is idle looks for a task: at once, or, under Linux rules, as the event ends
pub data Rouses (s : State) (c : ℕ) (r : Stepped) : Type 0 where
  IdleTarget : is_by_linux s ≡ false → is_idle s.world c ≡ true → Cycles s c None false r
      → Rouses s c r
  BusyTarget : is_by_linux s ≡ false → is_idle s.world c ≡ false → r ≡ stays s → Rouses s c r
  ByLinux : (v : State)
      → is_by_linux s ≡ true → LooksIfIdle (is_woken s) c v → r ≡ stays v → Rouses s c r

-- the task is runnable, its target is found, the task comes to wait for it, and the target looks
pub record Wakes (s : State) (t : ℕ) (r : Stepped) : Type 0 where
  pub woken : State
  pub wakes : TellsWaker (after_waking s t) t woken
  pub cpu : ℕ
  pub selected : Stepped
  pub selects : Selects woken t cpu selected
  pub home : WorldState
  pub homes : Homes selected.state.world t cpu home
  pub told : Stepped
  pub insert : Option Insert
  pub tells : TellsRunnable (with_world selected.state home) t cpu told insert
  pub settled : Stepped
  pub settles : Settles told.state t cpu insert settled
  pub roused : Stepped
  pub rouses : Rouses settled.state cpu roused
  pub all : r ≡ after (note_now s.world (note.Wake t) ∷ [])
      (one_after_other selected (one_after_other told (one_after_other settled roused)))

-- ---- sleep

-- the state in which a task sleeps
abbrev pub asleep : State → ℕ → State
asleep s t = with_world s (after_sleep s.world t)

-- a task sleeps, and under Linux rules the policy hears that it isn't runnable any more (ext.c,
-- `dequeue_task_scx`)
abbrev pub FallsAsleep : State → ℕ → ℕ → Stepped → Type 0
FallsAsleep s t c r =
    CallsIfThere (asleep s t) callback.Quiescent (task_and_number t 1) t c r

-- the task leaves its queue, or its processor, which looks for another task
pub data Sleeps (s : State) (t : ℕ) (r : Stepped) : Type 0 where
  FromQueue : (left gone : Stepped)
      → cpu_of s.world t ≡ None → LeavesQueue s t (task_at s.world t).prev_cpu 1 left
      → FallsAsleep left.state t (task_at s.world t).prev_cpu gone
      → r ≡ after (note_now s.world (note.Sleep t) ∷ []) (one_after_other left gone)
      → Sleeps s t r
  FromCpu : (c : ℕ) (left gone found : Stepped) (told : State)
      → cpu_of s.world t ≡ Some c → LeavesCpu s c t 0 left → FallsAsleep left.state t c gone
      → TellsSleep gone.state t told → Cycles told c None true found
      → r ≡ after (note_now s.world (note.Sleep t) ∷ [])
      (one_after_other left (one_after_other gone found))
      → Sleeps s t r

-- ---- ticks

-- the task has run for a millisecond
abbrev pub ran_on : State → ℕ → State
ran_on s t = with_world s (after_tick s.world t)

-- its groups have used that millisecond
abbrev pub charged : State → ℕ → State
charged s t = with_world s (used_ms s.world t)

-- a task that may not run any more leaves its processor and is parked, and the processor looks for
-- another; else it runs on while its slice lasts, and then the processor looks for a task
pub data UsesUp (s : State) (c t : ℕ) (r : Stepped) : Type 0 where
  IsThrottled : (left found : Stepped)
      → is_throttled (charged s t).world t ≡ true → LeavesCpu (charged s t) c t 1 left
      → Cycles (parking left.state t).state c None true found
      → r ≡ one_after_other left (one_after_other (parking left.state t) found)
      → UsesUp s c t r
  RunsOn : is_throttled (charged s t).world t ≡ false
      → 0 < (task_at (charged s t).world t).slice → r ≡ stays (charged s t) → UsesUp s c t r
  RunsOut : is_throttled (charged s t).world t ≡ false
      → (task_at (charged s t).world t).slice ≡ 0 → EndsSlices (charged s t)
      → Cycles (charged s t) c (Some t) true r → UsesUp s c t r
  RunsToTick : is_throttled (charged s t).world t ≡ false
      → ¬ EndsSlices (charged s t) → r ≡ stays (charged s t) → UsesUp s c t r

-- under Linux rules a policy may hear of the tick of a task that runs; the slice that it leaves is
-- the one that counts. A processor that runs no task looks for one; under Linux rules it sleeps
-- until it is given work
pub data Ticks (s : State) (c : ℕ) (r : Stepped) : Type 0 where
  NobodyRuns : is_by_linux s ≡ false → running s.world c ≡ None → Cycles s c None false r
      → Ticks s c r
  SleepsOn : is_by_linux s ≡ true → running s.world c ≡ None → r ≡ stays s → Ticks s c r
  Runs : (t : ℕ) (heard used : Stepped)
      → running s.world c ≡ Some t → HearsTick (ran_on s t) c t heard
      → UsesUp heard.state c t used → r ≡ one_after_other heard used → Ticks s c r

-- ---- the clock

-- of the parked, from that one on in their order, that many are looked at: who may run again is
-- parked no more, waits from now on, and is put as for its processor, which looks for it if it is
-- idle
pub data LetsGo : ℕ → State → Option ℕ → Stepped → Type 0 where
  Enough : (s : State) (at : Option ℕ) (r : Stepped) → r ≡ stays s → LetsGo 0 s at r
  NoMore : (n : ℕ) (s : State) (r : Stepped) → r ≡ stays s → LetsGo (suc n) s None r
  StaysParked : (n : ℕ) (s : State) (t : ℕ) (r : Stepped)
      → is_throttled s.world t ≡ true → LetsGo n s (behind_of s.world.queues t) r
      → LetsGo (suc n) s (Some t) r
  IsLetGo : (n : ℕ) (s : State) (t : ℕ) (put more r : Stepped) (v : State)
      → is_throttled s.world t ≡ false
      → Puts (with_world s (let_go s.world t)) t (task_at s.world t).prev_cpu 0 put
      → LooksIfIdle put.state (task_at s.world t).prev_cpu v
      → LetsGo n v (behind_of s.world.queues t) more → r ≡ one_after_other put more
      → LetsGo (suc n) s (Some t) r

-- the clock has grown, and periods have begun
abbrev pub after_clock : State → State
after_clock s = with_world s (begun_periods (later s.world))

-- all who may run again are let go
abbrev pub LetsAllGo : State → Stepped → Type 0
LetsAllGo s r =
    LetsGo (len_of s.world.queues parked_queue) s (front_of s.world.queues parked_queue) r

-- no task has waited for longer than the policy's timeout
abbrev pub NobodyIsOverdue : State → Type 0
NobodyIsOverdue s = (t : ℕ) → t < length s.world.tasks → wait s.world t ≤ s.policy.timeout_ms

-- then, where a task has waited longer than a policy in force may let it, the policy is ejected,
-- and the task of the least number is named
pub data Watches (s : State) (r : Stepped) : Type 0 where
  Is_out : (x : Eject) → s.world.ejected ≡ Some x → r ≡ stays s → Watches s r
  In_time : s.world.ejected ≡ None → NobodyIsOverdue s → r ≡ stays s → Watches s r
  Too_late : (t : ℕ)
      → s.world.ejected ≡ None → IsFirstOverdue s.world s.policy.timeout_ms t
      → Ejects s (cause.Stall t s.world.clock) r → Watches s r

-- the clock grows, who may run again is let go, timers that are due run, and the watchdog looks
pub record Ages (s : State) (r : Stepped) : Type 0 where
  pub gone : Stepped
  pub lets_go : LetsAllGo (after_clock s) gone
  pub fired : Stepped
  pub fires : FiresAll gone.state fired
  pub watched : Stepped
  pub watches : Watches fired.state watched
  pub all : r ≡ one_after_other gone (one_after_other fired watched)

-- ---- a task's own weight (syscalls.c, `set_user_nice`)

-- the task has that weight itself; where it isn't there, or that is no weight, nothing changes
pub data SetsWeight (w : WorldState) (t x : ℕ) (v : WorldState) : Type 0 where
  IsSet : t < length w.tree.homes → IsWeight x → v ≡ with_tree w (with_own_weight w.tree t x)
      → SetsWeight w t x v
  HasNoHome : length w.tree.homes ≤ t → v ≡ w → SetsWeight w t x v
  IsOutside : ¬ IsWeight x → v ≡ w → SetsWeight w t x v

-- it is set, and the policy hears it
pub record TakesWeight (s : State) (t c x : ℕ) (r : Stepped) : Type 0 where
  pub weighed : WorldState
  pub sets : SetsWeight s.world t x weighed
  pub hears : CallsIfThere (with_world s weighed) callback.SetWeight (task_and_number t x) t c r

-- the flags SAVE and SCHED_CHANGE of a task that leaves to be changed
abbrev pub leaves_to_change : ℕ
leaves_to_change = 2 ^ 33 + 2

-- the policy hears that the task isn't runnable, its weight, and that it is runnable again (core.c,
-- `sched_change_begin`, `sched_change_end`)
pub record ChangesWeight (s : State) (t c x : ℕ) (r : Stepped) : Type 0 where
  pub rested : Stepped
  pub rests : CallsIfThere s callback.Quiescent (task_and_number t leaves_to_change) t c rested
  pub weighed : Stepped
  pub weighs : TakesWeight rested.state t c x weighed
  pub roused : Stepped
  pub rouses : CallsIfThere weighed.state callback.Runnable (task_and_number t 2) t c roused
  pub all : r ≡ one_after_other rested (one_after_other weighed roused)

-- a task that runs stays on its processor, and the policy hears that it stops and runs again; one
-- that waits leaves its queue and is put again; one that sleeps or is parked stays there
pub data Reweighs (s : State) (t x : ℕ) (r : Stepped) : Type 0 where
  WhileItRuns : (c : ℕ) (stopped changed resumed : Stepped)
      → cpu_of s.world t ≡ Some c
      → HearsStop s c t stopped
      → ChangesWeight stopped.state t c x changed
      → HearsRun changed.state c t resumed
      → r ≡ one_after_other stopped (one_after_other changed resumed)
      → Reweighs s t x r
  WhileItWaits : (left changed put : Stepped)
      → cpu_of s.world t ≡ None → waits s.world t ≡ true
      → LeavesQueue s t (task_at s.world t).prev_cpu leaves_to_change left
      → ChangesWeight left.state t (task_at s.world t).prev_cpu x changed
      → Puts changed.state t (task_at s.world t).prev_cpu 0 put
      → r ≡ one_after_other left (one_after_other changed put)
      → Reweighs s t x r
  WhileItRests : cpu_of s.world t ≡ None → waits s.world t ≡ false
      → TakesWeight s t (task_at s.world t).prev_cpu x r → Reweighs s t x r

-- the state in which callbacks run on processor 0
abbrev pub on_first_cpu : State → State
on_first_cpu s = with_world s (with_waker s.world (Some 0))

-- a task has that weight from then on, which is noted; a policy that is out of force hears nothing,
-- nor does one by plain rules
pub data Weighs (s : State) (t x : ℕ) (r : Stepped) : Type 0 where
  Weighs_by_plain : (weighed : WorldState)
      → is_by_linux s ≡ false → SetsWeight s.world t x weighed
      → r ≡ noting s weighed (note.TaskWeight t x) → Weighs s t x r
  Weighs_by_linux : (done : Stepped)
      → is_by_linux s ≡ true → Reweighs (on_first_cpu s) t x done
      → r ≡ after (note_now s.world (note.TaskWeight t x) ∷ [])
      (record done { state = is_woken done.state })
      → Weighs s t x r

-- what an accepted event does, each kind by its own cases, before processors look for work
abbrev pub Does : State → Event → Stepped → Type 0
Does s (Wake t) r = Wakes s t r
Does s (Sleep t) r = Sleeps s t r
Does s (Tick c) r = Ticks s c r
Does s Clock r = Ages s r
Does s (SetWeight g x) r =
    r ≡ noting s (with_tree s.world (with_weight s.world.tree g x)) (note.Weight g x)
Does s (SetTaskWeight t x) r = Weighs s t x r

-- what an accepted event does, and what follows it
pub record Happens (s : State) (v : Event) (r : Stepped) : Type 0 where
  pub own : Stepped
  pub does : Does s v own
  pub followed : IsFollowed own r
