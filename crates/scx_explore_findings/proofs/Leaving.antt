-- Parts of the records of tasks are left out, by who runs and waits where: small steps lead from two worlds that are the same
-- but for that to two such worlds.
use Rattle.std.proofs.Common.{◌≡◌, ℕ, ◌==◌, cond, false, List, length, Option, Some, None, unwrap_or, sym, ap, ◌∙◌}
use Rattle.scx_dsq.specs.Calls.{after_create, after_push}
use Rattle.scx_dsq.specs.Queues.{QueueState}
use Rattle.scx_sched_tasks.specs.declared.task.Task.{Task}
use Rattle.scx_sched_world.specs.declared.call.Insert.{Insert}
use Rattle.scx_sched_world.specs.Ids.{held_queue}
use Rattle.scx_sched_world.specs.World.{WorldState, with_queues, task_at, with_task, is_free_for, lowest_cpu, free_choice, choice, default_choice, after_claim}
use Rattle.scx_sched_world.specs.Tasks.{task_after_insert, after_leave, after_local, local_cpu, homed_at, rank_by, after_enter, next_for}
use Rattle.scx_explore_findings.specs.Hidden.{with_tasks}

-- records in which something is left out, where these tasks run and queues are so
abbrev pub Less : Type 0
Less = List (Option ℕ) → QueueState → List Task → List Task

-- the world with these records
abbrev pub leave : Less → WorldState → WorldState
leave l w = with_tasks w (l w.cpus w.queues w.tasks)

-- of two worlds all is the same but for that
abbrev pub Alike : Less → WorldState → WorldState → Type 0
Alike l v w = leave l v ≡ leave l w

-- a step doesn't depend on that
abbrev pub Leaves : Less → (WorldState → WorldState) → Type 0
Leaves l f = (w : WorldState) → Alike l (f w) (f (leave l w))

-- so it is with each small step that a program may ask for; an insert may be asked for whose slice is such
pub record IsLeaving (l : Less) (given : ℕ → Type 0) : Type 0 where
  pub plain : Leaves l (λ w. w)
  pub lengths : (w : WorldState) → length w.tasks ≡ length (leave l w).tasks
  pub home : (w : WorldState) (t : ℕ) → (task_at w t).prev_cpu ≡ (task_at (leave l w) t).prev_cpu
  pub left : (t : ℕ) → Leaves l (λ w. after_leave w t)
  pub created : (q : ℕ) → Leaves l (λ w. with_queues w (after_create w.queues q))
  pub entered : (t : ℕ) (i : Insert) → given i.slice → Leaves l (λ w. after_enter w t i)
  pub claimed : (o : Option ℕ) → Leaves l (λ w. after_claim w o)
  pub brought : (q c t : ℕ) (w : WorldState) → (q == held_queue) ≡ false → next_for w q c ≡ Some t → Alike l (after_local (after_leave w t) c t) (after_local (after_leave (leave l w) t) c t)

-- an inserted task's record is changed, and the task is in its queue
abbrev pub pushed : ℕ → Insert → WorldState → WorldState
pushed t i w = with_queues (with_task w t (task_after_insert (task_at w t) i)) (after_push w.queues i.queue t (rank_by w i.rank))

-- and its processor is the one of a local queue
abbrev pub homing : ℕ → Insert → WorldState → WorldState
homing t i w = homed_at (pushed t i w) t (local_cpu w i.queue)

module _ (l : Less) where
  -- one step after another
  pub both : (f g : WorldState → WorldState) → Leaves l f → Leaves l g → Leaves l (λ w. g (f w))
  both f g k m w = m (f w) ∙ ap (λ (u : WorldState). leave l (g u)) (k w) ∙ sym (m (f (leave l w)))

module _ (l : Less) (given : ℕ → Type 0) (is : IsLeaving l given) where
  free_choice_same : (w : WorldState) (t : ℕ) → free_choice w t ≡ free_choice (leave l w) t
  free_choice_same w t = ap (λ (c : ℕ). cond (is_free_for w t c) (Some c) (lowest_cpu w (is_free_for w t))) (is.home w t)

  -- the processor that is chosen, if one is
  pub chosen_same : (w : WorldState) (t : ℕ) → choice w t ≡ choice (leave l w) t
  chosen_same w t = ap (λ (o : Option ℕ). cond w.tracks_idle o None) (free_choice_same w t)

  -- the processor that is chosen by default
  pub choice_same : (w : WorldState) (t : ℕ) → default_choice w t ≡ default_choice (leave l w) t
  choice_same w t =
      ap (λ (c : ℕ). unwrap_or (choice w t) c) (is.home w t)
      ∙ ap (λ (o : Option ℕ). unwrap_or o (task_at (leave l w) t).prev_cpu) (chosen_same w t)
