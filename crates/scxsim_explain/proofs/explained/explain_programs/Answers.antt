use Rattle.std.proofs.Common.{rules}
use Rattle.scxsim_explain.proofs.Taking.{begins, goes_on, ends}
use Rattle.scxsim_explain.proofs.explained.explain_programs.Goals as goal

pub loop-callback-init : goal.loop-callback-init
loop-callback-init c = begins c.args.policy.now _ _ c.none-verdicts.ensures

pub loop-callback-preserved : goal.loop-callback-preserved
loop-callback-preserved c =
    let here = c.loop-callback in
    goes_on c.args.policy.now _ here.callback-index _ here.policy _ here.verdicts _ _ _ c.in_ok-verdict.verdict c.loop-callback-test.true c.in_ok-verdict.ensures.verdict c.explain_callback.ensures.rest c.set.ensures c.in_ok-verdict.ensures.programs here.invariant

pub returns : goal.returns
returns c =
    let all = ends c.args.policy.now _ c.loop-callback.callback-index _ _ _ c.loop-callback-test.false c.loop-callback.invariant in
    record { verdicts = all.0; programs = all.1; memory = search rules }
