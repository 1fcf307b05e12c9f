use Rattle.std.proofs.Common.{◌∙◌, subst}
use Rattle.scx_sched.specs.Sim.{SimState}
use Rattle.scxsim_explore.specs.Telling.{IsSure}
use Rattle.scxsim_explore.proofs.auditing.is_closed.Goals as goal

pub returns : goal.returns
returns c = λ is.
    let root = c.in_ok-path.ensures ∙ c.first-first.ensures in
    subst (λ (s : SimState). IsSure c.args.form c.args.unfound.bounds c.args.moves c.args.unfound.reach c.args.unfound.sorts.now s) root (c.is_closed_along-closed.ensures is)
