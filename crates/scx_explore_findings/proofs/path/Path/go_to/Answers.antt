use Rattle.std.proofs.Common.{arith}
use Rattle.scx_explore_findings.proofs.CommonBeginnings.{stopped}
use Rattle.scx_explore_findings.proofs.path.Path.go_to.Goals as goal

pub returns-in-Err-clause-refused : goal.returns-in-Err-clause-refused
returns-in-Err-clause-refused c =
    stopped c.loop-depth.self c.go_on.new.self c.args.events.now c.loop-depth.depth _ _ c.in-Err.ensures.list c.in-Err.ensures.answer c.loop-depth.invariant.events (omega (arith, c.loop-depth-test.true))
