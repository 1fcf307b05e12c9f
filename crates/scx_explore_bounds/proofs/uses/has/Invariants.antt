use Rattle.std.proofs.Common.{◌≡◌, false}
use Rattle.scx_isa_semantics.specs.Code.{at}
use Rattle.scx_verify_explain.specs.Listings.{known_at}
use Rattle.scx_explore_bounds.specs.Uses.{any_below, is_use}
use Rattle.scx_explore_bounds.proofs.uses.has.Given as goal

-- no instruction so far
abbrev pub invariant-loop-slot : goal.invariant-loop-slot
invariant-loop-slot l =
    any_below l.slot (λ s. is_use l.such (at l.listing.code.items s) (known_at l.listing s)) ≡ false
