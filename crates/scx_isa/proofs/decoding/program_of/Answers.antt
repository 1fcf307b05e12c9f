use Rattle.std.proofs.Common.{arith}
use Rattle.scx_isa.proofs.Programs.{program_is_spelled}
use Rattle.scx_isa.proofs.decoding.program_of.Goals as goal

pub new-requires : goal.new-requires
new-requires c =
    let spells = program_is_spelled c.args.bytes.now c.in_ok-code.code.items (λ i. omega (arith, c.type_inv.bytes i)) c.in_ok-code.ensures.exact in
    spells.program
