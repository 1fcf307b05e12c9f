use Rattle.std.proofs.Common.{sym, subst}
use Rattle.scx_sched.specs.Sim.{SimState}
use Rattle.scx_explore_findings.specs.Path.{IsAs}
use Rattle.scxsim_explore.proofs.Copies.{kept_all}
use Rattle.scxsim_explore.proofs.machines.Machines.give_back.Goals as goal

pub invariant_of-self : goal.invariant_of-self
invariant_of-self c =
    kept_all c.self.inside.first c.args.sim c.self.inside.others.items c.push.new.self.items c.push.result c.push.ensures.items c.self.invariant (subst (λ (s : SimState). IsAs s c.args.sim) (sym c.self.view_is) c.requires)
