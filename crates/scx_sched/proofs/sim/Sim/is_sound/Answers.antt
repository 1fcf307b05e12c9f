use Rattle.std.proofs.Common.{subst}
use Rattle.scx_sched.specs.Usages.{AreBounded}
use Rattle.scx_sched.specs.Sim.{SimState}
use Rattle.scx_sched.proofs.Bounded.{are_bounded}
use Rattle.scx_sched.proofs.sim.Sim.is_sound.Goals as goal

pub returns-clause-bounded : goal.returns-clause-bounded
returns-clause-bounded c = subst (λ (x : SimState). AreBounded x.state.world) c.self.view_is (are_bounded c.self.inside.machine.world c.self.invariant.valid.fine.within)
