use Rattle.std.proofs.Common.{length, ap, ◌∙◌}
use Rattle.scx_sched.specs.Sim.{SimState}
use Rattle.scx_explore_audit.proofs.walking.tasks_of.Goals as goal

pub returns : goal.returns
returns c = c.tasks.ensures ∙ ap (λ (s : SimState). length s.state.world.tasks) c.sim_at-first.ensures
