use Rattle.std.proofs.Common.{ap, ◌∙◌}
use Rattle.scx_sched.specs.Sim.{SimState, refusal, after_event}
use Rattle.scx_explore_findings.proofs.SamePolicy.{as_stepped}
use Rattle.scx_explore_findings.proofs.Replaying.{end_refused, end_accepted}
use Rattle.scx_explore_findings.proofs.outcome.step_to_end.Goals as goal

pub returns-in-Ok-clause-answer : goal.returns-in-Ok-clause-answer
returns-in-Ok-clause-answer g c =
    c.ejected_at.ensures
    ∙ end_accepted (refusal c.args.sim.now c.args.event) c.step.new.self.state.world.ejected (after_event c.args.sim.now c.args.event).state.world.ejected c.args.at tt c.in-Ok.ensures.answer (ap (λ (s : SimState). s.state.world.ejected) c.in-Ok.ensures.state)

pub returns-in-Err-clause-answer : goal.returns-in-Err-clause-answer
returns-in-Err-clause-answer g c =
    end_refused (refusal c.args.sim.now c.args.event) (after_event c.args.sim.now c.args.event).state.world.ejected c.args.at _ c.in-Err.ensures.answer

pub returns-in-Ok-clause-alike : goal.returns-in-Ok-clause-alike
returns-in-Ok-clause-alike g c = as_stepped c.args.sim.now c.args.event c.step.new.self c.step.result c.step.ensures.answer c.step.ensures.state c.step.ensures.decided

pub returns-in-Err-clause-alike : goal.returns-in-Err-clause-alike
returns-in-Err-clause-alike g c = as_stepped c.args.sim.now c.args.event c.step.new.self c.step.result c.step.ensures.answer c.step.ensures.state c.step.ensures.decided
