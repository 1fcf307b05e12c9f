-- Letting tasks go changes nobody's wait: who is parked has none, and one that begins is 0.
use Rattle.std.proofs.Common.{◌≡◌, ℕ, length, Some, refl, sym, ap, ◌∙◌, arith, is_none}
use Rattle.std.proofs.lemmas.List.{length-set}
use Rattle.scx_weights.specs.Hierarchy.{with_own_weight}
use Rattle.scx_weights.specs.Refusals.{own_weight_fault}
use Rattle.scx_sched_tasks.specs.declared.task.Task.{Task}
use Rattle.scx_sched_tasks.specs.Tasks.{no_task}
use Rattle.scx_sched_tasks.specs.Waits.{time_since}
use Rattle.scx_sched_world.specs.World.{WorldState, with_kick, with_task, task_at, wait, with_tree, with_waker, cpu_of}
use Rattle.scx_sched_world.specs.Tasks.{with_since, let_go, after_own_weight}
use Rattle.scx_sched_machine.specs.Steps.{State, Stepped, with_world, stays, is_by_linux}
use Rattle.scx_sched_machine.specs.Put.{put}
use Rattle.scx_sched_machine.specs.Firing.{fire_all}
use Rattle.scx_sched_machine.specs.Events.{woken, reweigh_at, reweigh_by_linux, reweigh}
use Rattle.scx_sched_machine.proofs.Choices.{keeps_if}
use Rattle.scx_sched.specs.Laws.{WeightsKeepWaits}
use Rattle.scx_sched.proofs.Waiting.{since_set}
use Rattle.scx_sched.proofs.Queries.{KeepsBuiltin, KeepsQueries, off_queues, kept_query, kept_ejecting}
use Rattle.scx_sched.proofs.Stepwise.{Stays, stays_walked, IsWalked, KeepsPuts, stays_puts, walk_put, walk_fires, walk_fire_all, owns_all, walk_reweigh_at}
use Rattle.scx_sched.proofs.Written.{each_written}

-- from the first world to the second: the clock, how many tasks there are, and how long each has waited
abbrev pub AreAsLong : WorldState → WorldState → Type 0
AreAsLong w v = (v.clock ≡ w.clock) × (length v.tasks ≡ length w.tasks) × ((t : ℕ) → wait v t ≡ wait w t)

-- in the same world each task has waited as long
pub long_here : (w : WorldState) → AreAsLong w w
long_here w = (refl, refl, λ t. refl)

-- where waits are as long from each of three worlds to the next, they are from first to last
pub long_then : (u w v : WorldState) → AreAsLong u w → AreAsLong w v → AreAsLong u v
long_then u w v a b = (b.0 ∙ a.0, b.1 ∙ a.1, λ t. b.2 t ∙ a.2 t)

-- a wait that begins now is as long as none
pub long_let_go : (w : WorldState) (t : ℕ) → wait w t ≡ 0 → AreAsLong w (let_go w t)
long_let_go w t none =
    let x = with_since (task_at w t) (Some w.clock) in
    let now : time_since w.clock (Some w.clock) ≡ 0 = omega arith in
    (refl, length-set w.tasks t x, each_written (λ u (y : Task). time_since w.clock y.since ≡ wait w u) w.tasks t x no_task (now ∙ sym none) (λ u. refl))

-- from that world on
module _ (w : WorldState) where
  -- another record of a task, whose wait goes on
  long_set : (v : WorldState) (t : ℕ) (x : Task) → x.since ≡ (task_at v t).since → AreAsLong w v → AreAsLong w (with_task v t x)
  long_set v t x same h = (h.0, length-set v.tasks t x ∙ h.1, λ u. ap (λ o. time_since v.clock o) (since_set v.tasks t x same u) ∙ h.2 u)

  -- as a query makes one of its small changes, waits are as long
  long_kept : KeepsQueries (AreAsLong w)
  long_kept = off_queues (AreAsLong w) (λ v x other h. h) (λ v n o later h. h) (λ v t s k c h. long_set v t _ refl h) (λ v q i m a b c d n ns h. h)

  -- a processor that is kicked
  pub long_kick : (v : WorldState) (c : ℕ) → AreAsLong w v → AreAsLong w (with_kick v c)
  long_kick v c h = h

  long_builtin : KeepsBuiltin (AreAsLong w)
  long_builtin v t h = long_set v t _ refl h

  long_walked : IsWalked (Stays (AreAsLong w))
  long_walked = stays_walked (AreAsLong w)

  long_puts : KeepsPuts (Stays (AreAsLong w))
  long_puts = stays_puts (AreAsLong w) long_kept long_builtin (record { query = kept_query (AreAsLong w) long_kept; quiet = λ v h. h; out = λ v x h. h; ejecting = kept_ejecting (AreAsLong w) long_kept long_builtin }) (λ v b t c h. h)

  -- a task that is put
  pub long_put : (s : State) (t c flags : ℕ) → AreAsLong w s.world → AreAsLong w (put s t c flags).state.world
  long_put s t c flags h = walk_put (Stays (AreAsLong w)) long_puts s t c flags h

  -- all timers that are due
  pub long_fire_all : (s : State) → AreAsLong w s.world → AreAsLong w (fire_all s).state.world
  long_fire_all s h = walk_fire_all (Stays (AreAsLong w)) long_walked (λ v j a linux e. walk_fires (Stays (AreAsLong w)) v j a (long_puts.calls a.cpu) (λ x. x) (λ r x. x)) s h

  -- ---- a task's own weight

  long_weighed : (t x : ℕ) (s : State) → Stays (AreAsLong w) s (stays (with_world s (after_own_weight s.world t x)))
  long_weighed t x s h = keeps_if (AreAsLong w) (is_none (own_weight_fault s.world.tree t x)) (with_tree s.world (with_own_weight s.world.tree t x)) s.world h h

  long_reweigh : (s : State) (t x : ℕ) → AreAsLong w s.world → AreAsLong w (reweigh s t x).state.world
  unfolding reweigh reweigh_by_linux
  long_reweigh s t x h =
      let R = Stays (AreAsLong w) in
      let v = with_world s (with_waker s.world (Some 0)) in
      let r = reweigh_at (cpu_of s.world t) v t x in
      keeps_if (λ (y : Stepped). AreAsLong w y.state.world) (is_by_linux s) (record r { state = woken r.state }) (stays (with_world s (after_own_weight s.world t x)))
      (walk_reweigh_at R R (owns_all R long_walked) t x (long_weighed t x) long_puts.calls (λ u c. walk_put R long_puts u t c 0) (λ u y. y) (cpu_of s.world t) v h) (long_weighed t x s h)

-- the law
pub weights_keep_waits : WeightsKeepWaits
weights_keep_waits s t x u = let h = long_reweigh s.world s t x (long_here s.world) in h.2 u
