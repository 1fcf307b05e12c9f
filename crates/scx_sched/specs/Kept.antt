-- What each small step of a world keeps, so that whole events keep it. The fact is one of the task
-- that is in no place, of who runs where, and of the world.
use Rattle.std.specs.Prelude.{◌≡◌, ℕ, ◌+◌, ◌==◌, ◌<◌, Bool, true, false, List, length, Option, Some, None, is_some, slice_index_or, slice_set}
use Rattle.scx_dsq.specs.Queues.{front_of, entry_of, is_in, queue_of}
use Rattle.scx_weights.specs.Limits.{is_throttled}
use Rattle.scx_isa_semantics.specs.declared.callbacks.Callback.{Callback}
use Rattle.scx_isa_semantics.specs.Effects.{Query}
use Rattle.scx_vm.specs.Host.{after_query}
use Rattle.scx_sched_world.specs.declared.call.Insert.{Insert}
use Rattle.scx_sched_world.specs.declared.cpu_set.CpuSet.{CpuSet}
use Rattle.scx_sched_world.specs.declared.eject.Eject.{Eject}
use Rattle.scx_sched_world.specs.declared.passing.Passing.{Passing}
use Rattle.scx_sched_world.specs.Ids.{parked_queue, local_on}
use Rattle.scx_sched_world.specs.World.{WorldState, with_cycling, out_of_cycle, with_waker, is_by_linux, task_at, with_task, at_callback, quiet, may_run}
use Rattle.scx_sched_world.specs.Tasks.{with_slice, with_home, for_cpu, to_held, to_global, to_local, to_front, after_sleep, after_enter, after_fill, after_stop, started_at, after_run, after_keep, put_parked, after_leave}
use Rattle.scx_sched_world.specs.Helpers.{is_dispatch, with_insert, with_timer, world_functions}
use Rattle.scx_sched.specs.Once.{GoesSomewhere}
use Rattle.scx_sched_world.specs.Ejecting.{put_out, evict, cut_task, put_builtin, after_catch_up, after_charge}
use Rattle.scx_sched.specs.Allowed.{MayGo}

-- the world with these sets of processors that are claimed, kicked and preempted, of those that the
-- callback at hand claimed, and with what an event by Linux rules keeps until it ends
abbrev pub with_sets :
    WorldState → (claimed kicked preempted claims : CpuSet) (passing : Passing) → WorldState
with_sets w claimed kicked preempted claims passing = record w {
  passing = passing;
  claimed = claimed;
  kicked = kicked;
  preempted = preempted;
  call = record w.call { claims = claims };
}

-- the world in which the last callback moved a task, or didn't
abbrev pub with_moved : WorldState → Bool → WorldState
with_moved w b = record w { call = record w.call { has_moved = b } }

-- no processor wakes tasks that didn't before
abbrev pub WakesNoMore : (old new : Passing) → Type 0
WakesNoMore old new = (c : ℕ) → new.waker ≡ Some c → old.waker ≡ Some c

-- where the task at hand may come to wait: for any processor, held, where a callback inserted it,
-- or, under Linux rules, at the front of a local queue, or where select_cpu inserted it, once the
-- policy has heard that the task is runnable
pub data IsWanted (cpus : ℕ) (w : WorldState) (i : Insert) : Type 0 where
  ForAny : i ≡ to_global → IsWanted cpus w i
  Nowhere : i ≡ to_held → IsWanted cpus w i
  Inserted : (c : ℕ) (said : Insert)
      → c < cpus → w.call.insert ≡ Some said → i ≡ for_cpu c said → IsWanted cpus w i
  InFront : (c : ℕ) → c < cpus → is_by_linux w ≡ true → i ≡ to_front c → IsWanted cpus w i
  Before : (c : ℕ) (said : Insert)
      → c < cpus → is_by_linux w ≡ true → w.call.insert ≡ None
      → GoesSomewhere w.queues cpus (Some said) → i ≡ for_cpu c said → IsWanted cpus w i

-- The fact has a number, which grows by one as a task is charged, and may be said too high: an
-- event charges one task at most.
pub record IsKeptBySteps (n : ℕ) (I : ℕ → Option ℕ → List (Option ℕ) → WorldState → Type 0)
    : Type 0 where
  pub more : (m : ℕ) (hand : Option ℕ) (on : List (Option ℕ)) (w : WorldState)
      → I m hand on w → I (m + 1) hand on w
  pub known : (m : ℕ) (hand : Option ℕ) (on : List (Option ℕ)) (w : WorldState)
      → I m hand on w → length w.tasks ≡ n
  pub query : (m : ℕ) (hand : Option ℕ) (on : List (Option ℕ)) (w : WorldState) (q : Query)
      → I m hand on w → I m hand on (after_query world_functions w q)
  pub begun : (m : ℕ) (hand : Option ℕ) (on : List (Option ℕ)) (w : WorldState)
      (b : Callback) (t c : ℕ)
      → c < length on → I m hand on w → I m hand on (at_callback w b t c)
  pub quiet : (m : ℕ) (hand : Option ℕ) (on : List (Option ℕ)) (w : WorldState)
      → I m hand on w → I m hand on (quiet w)
  pub cycling : (m : ℕ) (hand : Option ℕ) (on : List (Option ℕ)) (w : WorldState) (o : Option ℕ)
      → I m hand on w → I m hand on (with_cycling w o)
  pub ended : (m : ℕ) (hand : Option ℕ) (on : List (Option ℕ)) (w : WorldState)
      → I m hand on w → I m hand on (out_of_cycle w)
  -- whether the last callback moved a task, and a timer that isn't started any more
  pub moved : (m : ℕ) (hand : Option ℕ) (on : List (Option ℕ)) (w : WorldState) (b : Bool)
      → I m hand on w → I m hand on (with_moved w b)
  pub cancelled : (m : ℕ) (hand : Option ℕ) (on : List (Option ℕ)) (w : WorldState) (timer : ℕ)
      → I m hand on w → I m hand on (with_timer w timer None)
  -- Linux rules: sets of processors, what is kept until the event ends, the processor of a task,
  -- and a slice
  pub sets : (m : ℕ) (hand : Option ℕ) (on : List (Option ℕ)) (w : WorldState)
      (claimed kicked preempted claims : CpuSet) (passing : Passing)
      → WakesNoMore w.passing passing
      → I m hand on w → I m hand on (with_sets w claimed kicked preempted claims passing)
  pub wakes : (m : ℕ) (hand : Option ℕ) (on : List (Option ℕ)) (w : WorldState) (waker : Option ℕ)
      → ((c : ℕ) → waker ≡ Some c → c < length on) → I m hand on w → I m hand on (with_waker w waker)
  pub homed : (m : ℕ) (hand : Option ℕ) (on : List (Option ℕ)) (w : WorldState) (t c : ℕ)
      → c < length on → may_run w t c ≡ true → I m hand on w
      → I m hand on (with_task w t (with_home (task_at w t) c))
  pub sliced : (m : ℕ) (hand : Option ℕ) (on : List (Option ℕ)) (w : WorldState) (t slice : ℕ)
      → I m hand on w → I m hand on (with_task w t (with_slice (task_at w t) slice))
  pub wants : (m : ℕ) (hand : Option ℕ) (on : List (Option ℕ)) (w : WorldState) (c : ℕ)
      → c < length on → is_dispatch w.call.callback ≡ false → may_run w w.call.task c ≡ true
      → I m hand on w → I m hand on (with_insert w (to_local c))
  -- tasks come to wait, to run, and leave
  pub entered : (m : ℕ) (on : List (Option ℕ)) (w : WorldState) (t : ℕ) (i : Insert)
      → t < n → IsWanted (length on) w i → MayGo (length on) w t i → I m (Some t) on w
      → I m None on (after_enter w t i)
  pub filled : (m : ℕ) (on : List (Option ℕ)) (w : WorldState) (q c : ℕ)
      → (q == parked_queue) ≡ false → c < length on → I m None on w → I m None on (after_fill w q c)
  pub stopped : (m : ℕ) (on : List (Option ℕ)) (w : WorldState) (c t : ℕ)
      → c < length on → t < n → slice_index_or on c None ≡ Some t → I m None on w
      → I m (Some t) (slice_set on c None) (after_stop w c t)
  pub started : (m : ℕ) (on : List (Option ℕ)) (w : WorldState) (c t : ℕ)
      → c < length on → slice_index_or on c None ≡ None → front_of w.queues (local_on c) ≡ Some t
      → is_throttled w.tree t ≡ false → I m None on w
      → I m None (slice_set on c (Some t)) (started_at (Some t) w c)
  pub ran : (m : ℕ) (on : List (Option ℕ)) (w : WorldState) (c t : ℕ)
      → c < length on → slice_index_or on c None ≡ None
      → is_in (local_on c) (entry_of w.queues t) ≡ true → is_throttled w.tree t ≡ false
      → I m None on w → I m None (slice_set on c (Some t)) (after_run w c t)
  pub put_parked : (m : ℕ) (on : List (Option ℕ)) (w : WorldState) (t : ℕ)
      → t < n → is_throttled w.tree t ≡ true → I m (Some t) on w → I m None on (put_parked w t)
  pub left : (m : ℕ) (on : List (Option ℕ)) (w : WorldState) (q t : ℕ)
      → (q == parked_queue) ≡ false → queue_of w.queues t ≡ Some q → I m None on w
      → I m (Some t) on (after_leave w t)
  pub kept : (m : ℕ) (on : List (Option ℕ)) (w : WorldState) (t : ℕ)
      → I m None on w → I m None on (after_keep w (Some t))
  pub asleep : (m : ℕ) (on : List (Option ℕ)) (w : WorldState) (t : ℕ)
      → t < n → I m (Some t) on w → I m None on (after_sleep w t)
  -- an ejection, and the built-in scheduler
  pub put_out : (m : ℕ) (hand : Option ℕ) (on : List (Option ℕ)) (w : WorldState) (x : Eject)
      → I m hand on w → I m hand on (put_out w x)
  pub evict : (m : ℕ) (hand : Option ℕ) (on : List (Option ℕ)) (w : WorldState) (t : ℕ)
      → t < n → I m hand on w → I m hand on (evict w t)
  pub cut : (m : ℕ) (hand : Option ℕ) (on : List (Option ℕ)) (w : WorldState) (t : ℕ)
      → I m hand on w → I m hand on (cut_task (Some t) w)
  pub put_builtin : (m : ℕ) (on : List (Option ℕ)) (w : WorldState) (t : ℕ)
      → t < n → I m (Some t) on w → I m None on (put_builtin w t)
  pub overtaken : (m : ℕ) (hand : Option ℕ) (on : List (Option ℕ)) (w : WorldState) (t : ℕ)
      → I m hand on w → I m hand on (after_catch_up w t)
  pub charged : (m : ℕ) (hand : Option ℕ) (on : List (Option ℕ)) (w : WorldState) (t : ℕ)
      → is_some w.ejected ≡ true → I m hand on w → I (m + 1) hand on (after_charge w t)
