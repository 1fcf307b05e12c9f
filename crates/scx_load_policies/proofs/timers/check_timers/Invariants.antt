use Rattle.std.proofs.Common.{◌≡◌}
use Rattle.toml.specs.View.{items_view}
use Rattle.scx_load_policies.specs.Timers.{timers_from}
use Rattle.scx_load_policies.proofs.Timing.{left}
use Rattle.scx_load_policies.proofs.timers.check_timers.Given as goal

abbrev pub invariant-loop-number : goal.invariant-loop-number
invariant-loop-number l = left l.elements l.number ≡ timers_from 0 (items_view l.elements)
