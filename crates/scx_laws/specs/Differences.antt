-- The places at which Linux rules differ from plain ones, each by cases, in the order of a cycle.
-- Under Linux rules the machine does there what a kernel does, while the policy is in force.
use Rattle.std.specs.Prelude.{◌≡◌, ℕ, ◌+◌, ◌%◌, ◌<◌, true, false, Option, Some, None}
use Rattle.scx_isa_semantics.specs.declared.callbacks.Callback.{Callback}
use Rattle.scx_isa_semantics.specs.declared.callbacks.Callback.TheVariants as callback
use Rattle.scx_vm.specs.Programs.{VerifiedProgram}
use Rattle.scx_vm.specs.declared.arguments.Args.{Args}
use Rattle.scx_sched_world.specs.declared.passing.Switch.{Switch}
use Rattle.scx_sched_world.specs.CpuSets.{but_cpu}
use Rattle.scx_sched_world.specs.World as world
use Rattle.scx_sched_world.specs.World.{WorldState, nothing_passes, with_slept, with_waker, with_task, task_at, running, is_idle}
use Rattle.scx_sched_world.specs.Tasks.{with_home, local_len, after_switch}
use Rattle.scx_sched_policy.specs.Policy.{program_of}
use Rattle.scx_sched_machine.specs.Steps.{State, Stepped, with_world, stays, is_by_linux, kicked}
use Rattle.scx_sched_machine.specs.Callbacks.{call_back, one_task}

-- ---- the processor of a task

-- the task's processor is that one from then on
abbrev pub with_home_at : WorldState → ℕ → ℕ → WorldState
with_home_at w t c = with_task w t (with_home (task_at w t) c)

-- a task's processor is the one for which it is put, and that of a local queue as it comes in
-- (ext.c, `move_remote_task_to_local_dsq`); under plain rules it stays until the task runs
pub data Homes (w : WorldState) (t c : ℕ) (v : WorldState) : Type 0 where
  StaysAtHome : world.is_by_linux w ≡ false → v ≡ w → Homes w t c v
  MovesHome : world.is_by_linux w ≡ true → v ≡ with_home_at w t c → Homes w t c v

-- ---- the current task

-- the task that helpers are told is current on a processor: the one that runs there, but, while the
-- processor switches, the one that it switches from
pub data IsCurrent (w : WorldState) (c : ℕ) (o : Option ℕ) : Type 0 where
  NoSwitch : w.passing.switching ≡ None → o ≡ running w c → IsCurrent w c o
  SwitchesHere : (x : Switch)
      → w.passing.switching ≡ Some x → x.cpu ≡ c → o ≡ x.from → IsCurrent w c o
  SwitchesElsewhere : (x : Switch)
      → w.passing.switching ≡ Some x → ¬ (x.cpu ≡ c) → o ≡ running w c → IsCurrent w c o

-- the world in which that processor switches from the task that runs there
abbrev pub switching_at : WorldState → ℕ → WorldState
switching_at w c = record w {
  passing = record w.passing { switching = Some (record { cpu = c; from = running w c }) };
}

-- under Linux rules a processor switches from its current task as that task leaves, or as a cycle
-- begins there, whichever comes first (core.c, `__schedule`)
pub data BeginsSwitch (w : WorldState) (c : ℕ) (v : WorldState) : Type 0 where
  NoSwitchByPlain : world.is_by_linux w ≡ false → v ≡ w → BeginsSwitch w c v
  IsSwitching : (x : Switch) → w.passing.switching ≡ Some x → v ≡ w → BeginsSwitch w c v
  Begins : world.is_by_linux w ≡ true → w.passing.switching ≡ None → v ≡ switching_at w c
      → BeginsSwitch w c v

-- a cycle begins on a processor; under Linux rules the claim on it ends, and it switches
pub data BeginsCycle (w : WorldState) (c : ℕ) (v : WorldState) : Type 0 where
  BeginsByPlain : world.is_by_linux w ≡ false → v ≡ record w { cycling = Some c }
      → BeginsCycle w c v
  BeginsByLinux : (u : WorldState)
      → world.is_by_linux w ≡ true → BeginsSwitch w c u
      → v ≡ record u { cycling = Some c; claimed = but_cpu w.claimed c } → BeginsCycle w c v

-- a cycle ends; under Linux rules the task that runs is the current one from then on, and no task
-- went to sleep or wakes any more
pub data EndsCycle (w v : WorldState) : Type 0 where
  EndsAsByPlain : world.is_by_linux w ≡ false → v ≡ record w { cycling = None } → EndsCycle w v
  EndsAsByLinux : world.is_by_linux w ≡ true
      → v ≡ record w { cycling = None; passing = nothing_passes } → EndsCycle w v

-- ---- the processor of a callback

-- the processor on which a callback runs: of a wake the one from which the task is woken, else the
-- one at hand
pub data IsHere (w : WorldState) (n : ℕ) : Type 0 where
  WokenFrom : (c : ℕ) → w.passing.waker ≡ Some c → n ≡ c → IsHere w n
  AtHand : w.passing.waker ≡ None → n ≡ w.call.cpu → IsHere w n

-- the state that comes next by Linux rules alone; by plain rules the state stays
pub data NextByLinux (s next v : State) : Type 0 where
  StaysByPlain : is_by_linux s ≡ false → v ≡ s → NextByLinux s next v
  BecomesNext : is_by_linux s ≡ true → v ≡ next → NextByLinux s next v

-- callbacks of a wake run on the processor on which the task was last
abbrev pub TellsWaker : State → ℕ → State → Type 0
TellsWaker s t v =
    NextByLinux s (with_world s (with_waker s.world (Some (task_at s.world t).prev_cpu))) v

-- ---- callbacks by Linux rules

-- a policy may have callbacks besides, as `runnable` and `update_idle`, which are called under
-- Linux rules alone
pub data CallsIfThere (s : State) (b : Callback) (a : Args) (t c : ℕ) (r : Stepped)
    : Type 0 where
  IsPlain : is_by_linux s ≡ false → r ≡ stays s → CallsIfThere s b a t c r
  IsAbsent : program_of s.policy b ≡ None → r ≡ stays s → CallsIfThere s b a t c r
  IsThere : (p : VerifiedProgram)
      → is_by_linux s ≡ true → program_of s.policy b ≡ Some p → r ≡ call_back s b a t c
      → CallsIfThere s b a t c r

-- a millisecond ends with a tick: each one where slices end exactly, else one in `tick_ms`
pub data IsTickTime (s : State) : Type 0 where
  EachMs : s.policy.tick_ms ≡ 0 → IsTickTime s
  AtTick : (s.world.clock + 1) % s.policy.tick_ms ≡ 0 → IsTickTime s

-- at a tick a policy may have `tick`, which is called for the task that runs (ext.c,
-- `task_tick_scx`)
pub data HearsTick (s : State) (c t : ℕ) (r : Stepped) : Type 0 where
  NoTickByPlain : is_by_linux s ≡ false → r ≡ stays s → HearsTick s c t r
  HasNoTick : s.policy.callbacks.tick ≡ None → r ≡ stays s → HearsTick s c t r
  BetweenTicks : ¬ IsTickTime s → r ≡ stays s → HearsTick s c t r
  IsCalled : (p : VerifiedProgram)
      → is_by_linux s ≡ true → s.policy.callbacks.tick ≡ Some p → IsTickTime s
      → r ≡ call_back s callback.Tick (one_task t) t c → HearsTick s c t r

-- a policy that hears which processors are idle: under Linux rules, where it has `update_idle`
-- (ext/idle.c, `__scx_update_idle`)
pub data HearsIdle (s : State) : Type 0 where
  HasUpdateIdle : (p : VerifiedProgram)
      → is_by_linux s ≡ true → s.policy.callbacks.update_idle ≡ Some p → HearsIdle s

-- ---- slices

-- a task with some of its slice left keeps its processor (ext.c, `dispatch_one`)
pub data KeepsSlice (s : State) (p : Option ℕ) : Type 0 where
  HasLeft : (t : ℕ) → is_by_linux s ≡ true → p ≡ Some t → 0 < (task_at s.world t).slice
      → KeepsSlice s p

-- or else it gives way to another, as each task does under plain rules
pub data GivesWay (s : State) (p : Option ℕ) : Type 0 where
  NoTask : p ≡ None → GivesWay s p
  ByPlain : is_by_linux s ≡ false → GivesWay s p
  UsedUp : (t : ℕ) → p ≡ Some t → (task_at s.world t).slice ≡ 0 → GivesWay s p

-- with ticks, a task that begins to run has a slice one nanosecond longer, as a switch takes time
pub data Switches (s : State) (t : ℕ) (v : State) : Type 0 where
  SwitchesByPlain : is_by_linux s ≡ false → v ≡ s → Switches s t v
  SwitchesExactly : s.policy.tick_ms ≡ 0 → v ≡ s → Switches s t v
  TakesTime :
      is_by_linux s ≡ true
      → 0 < s.policy.tick_ms → v ≡ with_world s (after_switch s.world t)
      → Switches s t v

-- a slice that is used up ends at once, or, under Linux rules, at the next tick (ext.c,
-- `task_tick_scx`)
pub data EndsSlices (s : State) : Type 0 where
  EndsByPlain : is_by_linux s ≡ false → EndsSlices s
  EndsAtTick : IsTickTime s → EndsSlices s

-- ---- dispatch

-- dispatch is told of the task that goes to sleep (ext.c, `prev_on_sch`)
abbrev pub TellsSleep : State → ℕ → State → Type 0
TellsSleep s t v = NextByLinux s (with_world s (with_slept s.world t)) v

-- dispatch is to be asked once more: it moved a task, the local queue is empty still, and no task
-- keeps the processor
pub record IsToAsk (s : State) (c : ℕ) (p : Option ℕ) : Type 0 where
  pub gives_way : GivesWay s p
  pub empty : local_len s.world c ≡ 0
  pub moved : s.world.call.has_moved ≡ true

-- a processor that was to ask once more looks again as the event ends (ext/inlines.h,
-- `scx_dispatch_sched`)
pub data GivesUp (s : State) (c : ℕ) (p : Option ℕ) (v : State) : Type 0 where
  GivesUpByPlain : is_by_linux s ≡ false → v ≡ s → GivesUp s c p v
  HasAsked : ¬ IsToAsk s c p → v ≡ s → GivesUp s c p v
  LooksAgain : is_by_linux s ≡ true → IsToAsk s c p → v ≡ kicked s c → GivesUp s c p v

-- ---- idle processors

-- an idle processor for which a task was put looks for it as the event ends
pub data LooksIfIdle (s : State) (c : ℕ) (v : State) : Type 0 where
  LooksByPlain : is_by_linux s ≡ false → v ≡ s → LooksIfIdle s c v
  IsBusy : is_idle s.world c ≡ false → v ≡ s → LooksIfIdle s c v
  Looks : is_by_linux s ≡ true → is_idle s.world c ≡ true → v ≡ kicked s c → LooksIfIdle s c v
