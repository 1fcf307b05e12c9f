use Rattle.std.proofs.Common.{subst}
use Rattle.scx_sched.specs.Sim.{SimState}
use Rattle.scx_explore_findings.specs.Path.{IsAs}
use Rattle.scx_explore_findings.proofs.SamePolicy.{as_stepped}
use Rattle.scx_explore_findings.proofs.path.step_copy.Goals as goal

pub returns-clause-alike : goal.returns-clause-alike
returns-clause-alike g c =
    subst (λ (s : SimState). IsAs s c.step_heard.new.self) c.copy_from.ensures (as_stepped c.copy_from.new.self c.args.event c.step_heard.new.self c.step_heard.result c.step_heard.ensures.answer c.step_heard.ensures.state c.step_heard.ensures.decided)
