use Rattle.scxsim_steps.proofs.Refusing.{past_is_said}
use Rattle.scxsim_steps.proofs.telling.step.Goals as goal

pub returns-in_ok-write_all-in-None-clause-done : goal.returns-in_ok-write_all-in-None-clause-done
returns-in_ok-write_all-in-None-clause-done g c =
    past_is_said c.args.policy.now c.args.scenario.now c.args.ms.now c.in_ok-page.field-0 (g.W.Out.contents c.args.out.now) (g.W.Out.contents c.write_all-in-None.new.out) c.as_bytes.result.now
    c.in_ok-page.ensures.none c.in-None.is c.as_bytes.ensures.value c.in_ok-write_all-in-None.ensures.ok
