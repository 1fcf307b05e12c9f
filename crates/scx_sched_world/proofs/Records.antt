-- Records of tasks that are written and read again.
use Rattle.std.proofs.Common.{◌≡◌, ◌⊎◌, inl, inr, ◌∙◌, ℕ, ◌<◌, Bool, true, false, List, length, set, get_or, Option, Some, None, nat_lt, if◌then◌else◌, refl, sym, ap}
use Rattle.std.proofs.lemmas.Bool.{lt-ltb}
use Rattle.std.proofs.lemmas.List.{length-set, get_or-set_same, set-get_or, set-set}
use Rattle.scx_weights.specs.Hierarchy.{Hierarchy}
use Rattle.scx_weights.specs.Limits.{is_throttled, has_quota, with_use}
use Rattle.scx_weights.proofs.KnownLimits.{none_throttled}
use Rattle.scx_sched_tasks.specs.declared.task.Task.{Task}
use Rattle.scx_sched_tasks.specs.Tasks.{no_task}
use Rattle.scx_sched_world.specs.Tasks.{ran_a_tick, after_tick, used_ms, slice_left}
use Rattle.scx_sched_world.specs.World.{WorldState, with_tree, task_at}

-- a record that is written, read, and written with another virtual time
pub both_set : (tasks : List Task) (t n : ℕ) (x : Task) → t < length tasks → set (set tasks t x) t (record (get_or (set tasks t x) t no_task) { vtime = n }) ≡ set tasks t (record x { vtime = n })
both_set tasks t n x known = rw (get_or-set_same tasks t x no_task known) (set-set tasks t x (record x { vtime = n }))

-- a record that is written as it was read
pub as_before : (tasks : List Task) (t : ℕ) → set tasks t (get_or tasks t no_task) ≡ tasks
as_before tasks t = set-get_or tasks t no_task

-- the slice that a record was written with
pub slice_written : (tasks : List Task) (t : ℕ) (x : Task) → t < length tasks → (get_or (set tasks t x) t no_task).slice ≡ x.slice
slice_written tasks t x known = ap (λ (y : Task). y.slice) (get_or-set_same tasks t x no_task known)

-- whether its groups use a millisecond before the task runs for a tick, or after
pub used_then_ran : (w : WorldState) (t : ℕ) → t < length w.tasks → after_tick (with_tree w (with_use w.tree t)) t ≡ used_ms (after_tick w t) t
used_then_ran w t known = ap (λ b. if b then with_tree (after_tick w t) (with_use w.tree t) else after_tick w t) (sym there)
  where
    there : nat_lt t (length (set w.tasks t (ran_a_tick (task_at w t)))) ≡ true
    there = ap (λ n. nat_lt t n) (length-set w.tasks t (ran_a_tick (task_at w t))) ∙ lt-ltb t (length w.tasks) known

-- what is left of the slice of a task that has run for a tick, where its groups have used that
pub left_after : (w : WorldState) (tree : Hierarchy) (t : ℕ) (throttled : Bool) (left : Option ℕ) → t < length w.tasks → throttled ≡ is_throttled tree t
    → ((throttled ≡ true) × (left ≡ None)) ⊎ ((throttled ≡ false) × (left ≡ Some (ran_a_tick (task_at w t)).slice))
    → left ≡ slice_left (with_tree (after_tick w t) tree) t
left_after w tree t throttled left known is how = go how
  where
    there : nat_lt t (length (set w.tasks t (ran_a_tick (task_at w t)))) ≡ true
    there = ap (λ n. nat_lt t n) (length-set w.tasks t (ran_a_tick (task_at w t))) ∙ lt-ltb t (length w.tasks) known

    go : ((throttled ≡ true) × (left ≡ None)) ⊎ ((throttled ≡ false) × (left ≡ Some (ran_a_tick (task_at w t)).slice)) → left ≡ slice_left (with_tree (after_tick w t) tree) t
    go (inl (e, none)) = none ∙ rw (there, sym is ∙ e) refl
    go (inr (e, some)) = some ∙ rw (there, sym is ∙ e) (ap Some (sym (slice_written w.tasks t (ran_a_tick (task_at w t)) known)))

-- where no group has a quota it may run on
pub left_unlimited : (w : WorldState) (tree : Hierarchy) (t : ℕ) → t < length w.tasks → has_quota tree.groups ≡ false → Some (ran_a_tick (task_at w t)).slice ≡ slice_left (with_tree (after_tick w t) tree) t
left_unlimited w tree t known none = left_after w tree t false (Some (ran_a_tick (task_at w t)).slice) known (sym (none_throttled tree t none)) (inr (refl, refl))
