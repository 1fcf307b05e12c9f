use Rattle.std.proofs.Common.{arith}
use Rattle.scxsim_commands.proofs.Lining.{appends}
use Rattle.scxsim_commands.proofs.verdict_lines.lines_of.Goals as goal

pub loop-callback-preserved : goal.loop-callback-preserved
loop-callback-preserved c = record {
  bytes = appends c.args.verdicts.now c.loop-callback.callback-index _ c.loop-callback.lines.bytes _ c.push_line.new.lines.bytes c.loop-callback-test.true c.get.ensures c.push_line.ensures.bytes c.loop-callback.invariant.bytes;
  room = omega (arith, c.push_line.ensures.room, c.loop-callback.invariant.room);
}
