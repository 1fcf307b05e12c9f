use Rattle.std.proofs.Common.{sym}
use Rattle.scxsim_faults.proofs.Ejected.{places_for}
use Rattle.scxsim_faults.proofs.finding.hear.Goals as goal

pub returns-in-Some-clause-place : goal.returns-in-Some-clause-place
returns-in-Some-clause-place c =
    places_for c.step_heard.result c.args.sim.now c.step_heard.new.self c.args.event _ c.step_heard.new.hearer c.in-Some.why c.found_for.result c.requires c.step_heard.ensures.state c.step_heard.ensures.cause c.step_heard.ensures.refused
    (sym c.in-Some.ensures) c.step_heard.ensures.calls c.found_for.ensures.kept c.found_for.ensures.cause
