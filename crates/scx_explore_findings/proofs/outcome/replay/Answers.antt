use Rattle.std.proofs.Common.{sym, ◌∙◌, arith}
use Rattle.scx_explore_findings.proofs.SamePolicy.{as_itself, as_another}
use Rattle.scx_explore_findings.proofs.Replaying.{gone_nowhere, ended_in_force, ended, goes_on}
use Rattle.scx_explore_findings.proofs.outcome.replay.Goals as goal

pub loop-at-init : goal.loop-at-init
loop-at-init g c = (gone_nowhere c.args.sim.now c.args.events.now g.S.Sink.takes c.args.sink.now c.requires, as_itself c.args.sim.now)

pub loop-at-preserved : goal.loop-at-preserved
loop-at-preserved g c = (
  goes_on c.args.sim.now c.args.events.now g.S.Sink.takes c.args.sink.now c.loop-at.at c.loop-at.sim c.step_to_end.new.sim c.loop-at.sink c.step_to_end.new.sink _ (omega (arith, c.loop-at-test.true)) c.loop-at.invariant.0 c.step_to_end.ensures.state c.step_to_end.ensures.notes (sym c.step_to_end.ensures.answer ∙ c.in_default.is),
  as_another c.args.sim.now c.loop-at.sim c.step_to_end.new.sim c.loop-at.invariant.1 c.step_to_end.ensures.alike,
)

pub returns-in-Some-clause-answer : goal.returns-in-Some-clause-answer
returns-in-Some-clause-answer g c =
    (ended c.args.sim.now c.args.events.now g.S.Sink.takes c.args.sink.now c.loop-at.at c.loop-at.sim c.step_to_end.new.sim c.loop-at.sink c.step_to_end.new.sink _ (omega (arith, c.loop-at-test.true)) c.loop-at.invariant.0 c.in-Some.ensures.state c.in-Some.ensures.notes _ c.in-Some.ensures.answer).answer

pub returns-in-Some-clause-happens : goal.returns-in-Some-clause-happens
returns-in-Some-clause-happens g c =
    (ended c.args.sim.now c.args.events.now g.S.Sink.takes c.args.sink.now c.loop-at.at c.loop-at.sim c.step_to_end.new.sim c.loop-at.sink c.step_to_end.new.sink _ (omega (arith, c.loop-at-test.true)) c.loop-at.invariant.0 c.in-Some.ensures.state c.in-Some.ensures.notes _ c.in-Some.ensures.answer).happens

pub returns-in-Some-clause-state : goal.returns-in-Some-clause-state
returns-in-Some-clause-state g c =
    (ended c.args.sim.now c.args.events.now g.S.Sink.takes c.args.sink.now c.loop-at.at c.loop-at.sim c.step_to_end.new.sim c.loop-at.sink c.step_to_end.new.sink _ (omega (arith, c.loop-at-test.true)) c.loop-at.invariant.0 c.in-Some.ensures.state c.in-Some.ensures.notes _ c.in-Some.ensures.answer).state

pub returns-in-Some-clause-notes : goal.returns-in-Some-clause-notes
returns-in-Some-clause-notes g c =
    (ended c.args.sim.now c.args.events.now g.S.Sink.takes c.args.sink.now c.loop-at.at c.loop-at.sim c.step_to_end.new.sim c.loop-at.sink c.step_to_end.new.sink _ (omega (arith, c.loop-at-test.true)) c.loop-at.invariant.0 c.in-Some.ensures.state c.in-Some.ensures.notes _ c.in-Some.ensures.answer).notes

pub returns-clause-answer : goal.returns-clause-answer
returns-clause-answer g c =
    (ended_in_force c.args.sim.now c.args.events.now g.S.Sink.takes c.args.sink.now c.loop-at.at c.loop-at.sim c.loop-at.sink (omega (arith, c.loop-at-test.false)) c.loop-at.invariant.0).answer

pub returns-clause-happens : goal.returns-clause-happens
returns-clause-happens g c =
    (ended_in_force c.args.sim.now c.args.events.now g.S.Sink.takes c.args.sink.now c.loop-at.at c.loop-at.sim c.loop-at.sink (omega (arith, c.loop-at-test.false)) c.loop-at.invariant.0).happens

pub returns-clause-state : goal.returns-clause-state
returns-clause-state g c =
    (ended_in_force c.args.sim.now c.args.events.now g.S.Sink.takes c.args.sink.now c.loop-at.at c.loop-at.sim c.loop-at.sink (omega (arith, c.loop-at-test.false)) c.loop-at.invariant.0).state

pub returns-clause-notes : goal.returns-clause-notes
returns-clause-notes g c =
    (ended_in_force c.args.sim.now c.args.events.now g.S.Sink.takes c.args.sink.now c.loop-at.at c.loop-at.sim c.loop-at.sink (omega (arith, c.loop-at-test.false)) c.loop-at.invariant.0).notes

pub returns-in-Some-clause-alike : goal.returns-in-Some-clause-alike
returns-in-Some-clause-alike g c = as_another c.args.sim.now c.loop-at.sim c.step_to_end.new.sim c.loop-at.invariant.1 c.in-Some.ensures.alike

pub returns-clause-alike : goal.returns-clause-alike
returns-clause-alike g c = c.loop-at.invariant.1
