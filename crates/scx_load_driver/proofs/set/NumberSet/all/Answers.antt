use Rattle.std.proofs.Common.{rules, ◌+◌, ◌/◌, true, arith}
use Rattle.scx_load_driver.proofs.Sets.{filled, all_bits}
use Rattle.scx_load_driver.proofs.set.NumberSet.all.Goals as goal

pub returns : goal.returns
returns c = filled c.args.limit (c.args.limit / 64 + 1) 0xffff_ffff_ffff_ffff _ true (search rules) (omega arith) all_bits
