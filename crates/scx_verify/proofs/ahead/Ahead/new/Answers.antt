use Rattle.std.proofs.Common.{rules, ◌≡◌, ◌+◌, None, replicate, refl}
use Rattle.scx_verify.proofs.Indices.{nothing_known}
use Rattle.scx_verify.proofs.ahead.Ahead.new.Goals as goal

pub returns-clause-none : goal.returns-clause-none
returns-clause-none c =
    let all : c.in_ok-vec.field-0.items ≡ replicate (c.args.slots + 1) None = search rules in
    nothing_known (c.args.slots + 1) c.in_ok-vec.field-0.items _ None refl all
