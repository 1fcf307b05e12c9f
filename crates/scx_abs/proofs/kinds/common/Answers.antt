use Rattle.std.proofs.Common.{◌&&◌, arith}
use Rattle.scx_abs.specs.Cells.{is_written}
use Rattle.scx_abs.proofs.Sets.{each_byte_from}
use Rattle.scx_abs.proofs.kinds.common.Goals as goal

pub returns : goal.returns
returns c =
    each_byte_from c.loop-byte.common (λ k. is_written c.args.first k && is_written c.args.second k) c.loop-byte.invariant.long
    (λ k lt. c.loop-byte.invariant.so_far k (omega (arith, c.loop-byte-test.false)))
