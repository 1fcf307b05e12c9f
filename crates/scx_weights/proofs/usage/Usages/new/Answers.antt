use Rattle.scx_weights.proofs.Settling.{nothing_used, new_usages}
use Rattle.scx_weights.proofs.usage.Usages.new.Goals as goal

pub returns-clause-used : goal.returns-clause-used
returns-clause-used c = rw (c.in_ok-vec.ensures.items_if_clones_equal (λ y e. e), c.in_ok-vec-2.ensures.items_if_clones_equal (λ y e. e)) (nothing_used c.args.groups.now)

pub returns-clause-usages : goal.returns-clause-usages
returns-clause-usages c = rw (c.in_ok-vec.ensures.items_if_clones_equal (λ y e. e), c.in_ok-vec-2.ensures.items_if_clones_equal (λ y e. e)) (new_usages c.args.groups.now c.has_quota.result)
