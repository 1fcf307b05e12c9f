use Rattle.std.proofs.Common.{sym, ◌∙◌}
use Rattle.scx_sched.specs.Sim.{refusal, calls_of}
use Rattle.scx_explore_findings.proofs.Running.{is_accepted, run_wanted}
use Rattle.scx_explore_findings.proofs.showing.takes.Goals as goal

pub returns-then-is_ok-clause-accepted : goal.returns-then-is_ok-clause-accepted
returns-then-is_ok-clause-accepted c _ =
    is_accepted (refusal c.args.sim.now c.args.event) c.step_heard-answer.result c.step_heard-answer.ensures.answer (sym c.is_ok.ensures.value ∙ c.if-is_ok.true)

pub returns-then-is_ok-clause-called : goal.returns-then-is_ok-clause-called
returns-then-is_ok-clause-called c h =
    run_wanted c.of-tally.result c.step_heard-answer.new.hearer (calls_of c.args.sim.now c.args.event) c.args.callback c.args.instructions c.step_heard-answer.ensures.calls c.of-tally.ensures h
