-- Nobody is parked without cause.
use Rattle.std.specs.Prelude.{◌≡◌, ℕ, true, Some}
use Rattle.scx_dsq.specs.Queues.{queue_of}
use Rattle.scx_weights.specs.Limits.{is_throttled}
use Rattle.scx_sched_world.specs.Ids.{parked_queue}
use Rattle.scx_sched_world.specs.World.{WorldState}

-- who is parked is throttled
abbrev pub AreThrottled : WorldState → Type 0
AreThrottled w = (t : ℕ) → queue_of w.queues t ≡ Some parked_queue → is_throttled w.tree t ≡ true
