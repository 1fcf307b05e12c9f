use Rattle.std.proofs.Common.{arith}
use Rattle.scx_explore_states.specs.Written.{AreAlike, task_in}
use Rattle.scx_explore_states.proofs.Placed.{below_more}
use Rattle.scx_explore_states.proofs.written.are_alike.Goals as goal

pub loop-place-preserved : goal.loop-place-preserved
loop-place-preserved c =
    below_more (λ p. AreAlike c.args.sim.now.state.world (task_in c.args.order.now p) p) c.loop-place.place c.loop-place.invariant (c.is_alike.ensures c.if-not-is_alike.false)

pub returns : goal.returns
returns c is t few = c.loop-place.invariant t (omega (arith, few, c.loop-place-test.false))
