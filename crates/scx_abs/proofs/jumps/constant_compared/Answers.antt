use Rattle.std.proofs.Common.{◌≡◌, rules}
use Rattle.scx_isa_semantics.specs.Arithmetic.{immediate}
use Rattle.scx_isa_semantics.specs.declared.operations.Width.TheVariants.{Bits64}
use Rattle.scx_abs.proofs.Branches.{constant_compared}
use Rattle.scx_abs.proofs.jumps.constant_compared.Goals as goal

pub returns-in-Bits64-Immediate-clause-sides : goal.returns-in-Bits64-Immediate-clause-sides
returns-in-Bits64-Immediate-clause-sides c =
    let same : c.immediate.result ≡ immediate Bits64 c.in-Bits64-Immediate.k = search rules in
    rw (c.in-Bits64-Immediate.is-0, c.in-Bits64-Immediate.is-1)
    (constant_compared c.args.state.now c.args.comparison c.args.register c.in-Bits64-Immediate.k c.immediate.result c.args.numbers c.requires same)
