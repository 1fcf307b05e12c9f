use Rattle.std.proofs.Common.{arith}
use Rattle.scx_load_driver.specs.Driver.{remaining}
use Rattle.scx_load_replay.proofs.Beginning.{next_more}
use Rattle.scx_load_replay.proofs.workload_files.following.are_next.Goals as goal

pub loop-at-preserved : goal.loop-at-preserved
loop-at-preserved c =
    next_more c.args.events.now c.loop-at.at _ (remaining c.args.driver.now c.args.sim.now) (remaining c.loop-at.driver c.loop-at.sim) (remaining c.is_next.new.driver c.is_next.new.sim) (omega (arith, c.loop-at-test.true)) c.loop-at.invariant (c.is_next.ensures c.if-not-is_next.false)
