-- A task goes into a queue, one step after another.
use Rattle.std.proofs.Common.{◌≡◌, ℕ, ◌<◌, Option, Some, None, false, length, refl, ap, ◌∙◌}
use Rattle.std.proofs.lemmas.Bool.{lt-ltb}
use Rattle.scx_dsq.specs.Calls.{after_push}
use Rattle.scx_dsq.specs.declared.entries.Rank.{Rank}
use Rattle.scx_dsq.specs.declared.entries.Rank.TheVariants.{Fifo, Front, Vtime}
use Rattle.scx_sched_tasks.specs.declared.task.Task.{Task}
use Rattle.scx_sched_world.specs.declared.call.Insert.{Insert}
use Rattle.scx_sched_world.specs.World.{WorldState, with_queues, is_by_linux, task_at, with_task}
use Rattle.scx_sched_world.specs.Tasks.{task_after_insert, rank_by, local_cpu, homed_at, after_preempt, queued_by, after_enter}

-- other records of tasks change no rank
rank_kept : (w : WorldState) (t : ℕ) (x : Task) (r : Rank) → rank_by (with_task w t x) r ≡ rank_by w r
rank_kept w t x Fifo = refl
rank_kept w t x Front = refl
rank_kept w t x (Vtime n) = refl

-- the steps of an insert make the whole of it
pub entered : (w given queued last : WorldState) (t : ℕ) (i : Insert) → t < length w.tasks
    → given ≡ with_task w t (task_after_insert (task_at w t) i) → queued ≡ queued_by given t i → last ≡ after_preempt queued i → last ≡ after_enter w t i
entered w given queued last t i known a b c =
    rw (lt-ltb t (length w.tasks) known, c, b, a, rank_kept w t (task_after_insert (task_at w t) i) i.rank) refl

-- by plain rules a task comes into a queue by the rank of its insert
pub plain_rank : (w : WorldState) (r : Rank) → is_by_linux w ≡ false → rank_by w r ≡ r
plain_rank w Fifo e = refl
plain_rank w Front e = refl
plain_rank w (Vtime n) e = rw e refl

-- and no processor becomes its own
pub plain_home : (w : WorldState) (t : ℕ) (o : Option ℕ) → is_by_linux w ≡ false → homed_at w t o ≡ w
plain_home w t None e = refl
plain_home w t (Some c) e = rw e refl

-- so it only comes into the queue
pub plain_queued : (w : WorldState) (t : ℕ) (i : Insert) → is_by_linux w ≡ false → queued_by w t i ≡ with_queues w (after_push w.queues i.queue t i.rank)
plain_queued w t i e =
    plain_home (with_queues w (after_push w.queues i.queue t (rank_by w i.rank))) t (local_cpu w i.queue) e
    ∙ ap (λ r. with_queues w (after_push w.queues i.queue t r)) (plain_rank w i.rank e)
