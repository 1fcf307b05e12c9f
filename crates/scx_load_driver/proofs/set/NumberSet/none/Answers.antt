use Rattle.std.proofs.Common.{rules, ◌+◌, ◌/◌, false, arith}
use Rattle.scx_load_driver.proofs.Sets.{filled, no_bits}
use Rattle.scx_load_driver.proofs.set.NumberSet.none.Goals as goal

pub returns : goal.returns
returns c = filled c.args.limit (c.args.limit / 64 + 1) 0 _ false (search rules) (omega arith) no_bits
