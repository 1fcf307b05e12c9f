use Rattle.std.proofs.Common.{length, ap, ◌∙◌}
use Rattle.scx_sched.specs.Sim.{SimState}
use Rattle.scx_explore_audit.proofs.walking.cpus_of.Goals as goal

pub returns : goal.returns
returns c = c.cpus.ensures ∙ ap (λ (s : SimState). length s.state.world.cpus) c.sim_at-first.ensures
