-- What an ejection does to tasks: who waits in any queue, also in those of the machine, waits for
-- the built-in scheduler from then on, and who runs stays where it runs. No task comes or goes.
use Rattle.std.specs.Prelude.{◌≡◌, ℕ, true, false, Some}
use Rattle.scx_dsq.specs.Queues.{queue_of}
use Rattle.scx_sched_world.specs.Ids.{builtin_queue, parked_queue}
use Rattle.scx_sched_world.specs.World.{WorldState, waits}

-- from world to world: all who wait go over, no other comes to wait, who runs or is parked stays so
pub record GoesOver (w v : WorldState) : Type 0 where
  pub waiting : (t : ℕ) → waits w t ≡ true → queue_of v.queues t ≡ Some builtin_queue
  pub others : (t : ℕ) → waits w t ≡ false → waits v t ≡ false
  pub parked : (t : ℕ) → queue_of w.queues t ≡ Some parked_queue
      → queue_of v.queues t ≡ Some parked_queue
  pub running : v.cpus ≡ w.cpus
  pub tree : v.tree ≡ w.tree
