use Rattle.std.proofs.Common.{◌≤◌, ◌<◌, length, sym, arith}
use Rattle.std.specs.Int.{w64, trailing_zeros}
use Rattle.scx_sched_world.proofs.Picks.{lowest_is, none_is}
use Rattle.scx_sched_world.proofs.world.World.lowest_of.Goals as goal

pub returns-then-cpu-len-clause-lowest : goal.returns-then-cpu-len-clause-lowest
returns-then-cpu-len-clause-lowest c p h =
    let few : length c.args.self.now.cpus ≤ 64 = rw (← c.self.view_is) c.self.invariant.few_cpus in
    let l : trailing_zeros w64 c.args.bits < length c.args.self.now.cpus = rw (← c.self.view_is) (omega arith) in
    sym (lowest_is c.args.bits c.args.self.now p (omega arith) few h l)

pub returns-else-cpu-len-clause-lowest : goal.returns-else-cpu-len-clause-lowest
returns-else-cpu-len-clause-lowest c p h =
    let few : length c.args.self.now.cpus ≤ 64 = rw (← c.self.view_is) c.self.invariant.few_cpus in
    let past : length c.args.self.now.cpus ≤ trailing_zeros w64 c.args.bits = rw (← c.self.view_is) (omega arith) in
    sym (none_is c.args.bits c.args.self.now p (omega arith) few h past)
