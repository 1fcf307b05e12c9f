-- A task comes into the queue of an insert: what holds of a world holds after that, if it holds of each change that this is made of.
use Rattle.std.proofs.Common.{ℕ, nat_lt, length, Option, Some, None}
use Rattle.scx_dsq.specs.Calls.{after_push}
use Rattle.scx_sched_world.specs.declared.call.Insert.{Insert}
use Rattle.scx_sched_world.specs.World.{WorldState, with_queues, with_task, with_kick, task_at, is_by_linux, is_this, running}
use Rattle.scx_sched_world.specs.Tasks.{with_slice, with_home, task_after_insert, rank_by, homed, homed_at, local_cpu, after_preempt_of, after_preempt_at, after_preempt, after_enter}
use Rattle.scx_sched_machine.proofs.Choices.{keeps_if}

-- it holds once a task has another processor, and once a task that runs is preempted
pub record KeepsHomes (I : WorldState → Type 0) : Type 0 where
  pub home : (w : WorldState) (t c : ℕ) → I w → I (with_task w t (with_home (task_at w t) c))
  pub preempted : (w : WorldState) (t c : ℕ) → I w → I (with_kick (with_task w t (with_slice (task_at w t) 0)) c)

-- the task is in the queue of the insert, with a slice by it
abbrev pub queued : WorldState → ℕ → Insert → WorldState
queued w t i = with_queues (with_task w t (task_after_insert (task_at w t) i)) (after_push w.queues i.queue t (rank_by w i.rank))

module _ (I : WorldState → Type 0) (k : KeepsHomes I) where
  -- the task's processor is another one
  pub kept_homed : (w : WorldState) (t c : ℕ) → I w → I (homed w t c)
  kept_homed w t c h = keeps_if I (is_by_linux w) (with_task w t (with_home (task_at w t) c)) w (k.home w t c h) h

  kept_homed_at : (w : WorldState) (t : ℕ) (o : Option ℕ) → I w → I (homed_at w t o)
  kept_homed_at w t None h = h
  kept_homed_at w t (Some c) h = kept_homed w t c h

  kept_preempt_of : (w : WorldState) (c : ℕ) (o : Option ℕ) → I w → I (after_preempt_of w c o)
  kept_preempt_of w c None h = h
  kept_preempt_of w c (Some t) h = keeps_if I (is_this c w.cycling) w (with_kick (with_task w t (with_slice (task_at w t) 0)) c) h (k.preempted w t c h)

  kept_preempt_at : (w : WorldState) (o : Option ℕ) → I w → I (after_preempt_at w o)
  kept_preempt_at w None h = h
  kept_preempt_at w (Some c) h = kept_preempt_of w c (running w c) h

  -- a task comes into a queue, if it holds with the task in it
  pub kept_entered : (w : WorldState) (t : ℕ) (i : Insert) → I w → I (queued w t i) → I (after_enter w t i)
  kept_entered w t i h there =
      let home = homed_at (queued w t i) t (local_cpu w i.queue) in
      let at = kept_homed_at (queued w t i) t (local_cpu w i.queue) there in
      keeps_if I (nat_lt t (length w.tasks)) (after_preempt home i) w (keeps_if I i.preempts (after_preempt_at home (local_cpu home i.queue)) home (kept_preempt_at home (local_cpu home i.queue) at) at) h
