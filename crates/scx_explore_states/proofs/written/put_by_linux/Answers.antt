use Rattle.std.proofs.Common.{ap, ◌∙◌}
use Rattle.scx_sched_policy.specs.Policy.{PolicyState}
use Rattle.scx_explore_states.proofs.Putting.{linux_parts}
use Rattle.scx_explore_states.proofs.written.put_by_linux.Goals as goal

pub returns : goal.returns
returns c is =
    linux_parts c.args.sim.now.state.world _ _ c.tick_ms-tick.result c.clock-clock.result _ _ _ _ c.past_tick.ensures (c.tick_ms-tick.ensures ∙ ap (λ (p : PolicyState). p.tick_ms) c.policy.ensures) c.clock-clock.ensures (c.put.ensures c.if-not-put.false) (c.put_linux.ensures is)
