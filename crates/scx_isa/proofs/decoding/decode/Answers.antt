use Rattle.std.proofs.Common.{arith}
use Rattle.scx_isa.proofs.Programs.{is_decoded, is_given}
use Rattle.scx_isa.proofs.FirstFaults.{is_refused}
use Rattle.scx_isa.proofs.decoding.decode.Goals as goal

pub returns-clause-decoded : goal.returns-clause-decoded
returns-clause-decoded c = is_decoded c.args.bytes.now c.program_of.result (λ i. omega (arith, c.type_inv.bytes i)) c.program_of.ensures.exact

pub returns-clause-spelled : goal.returns-clause-spelled
returns-clause-spelled c = is_given c.args.bytes.now c.program_of.result c.program_of.ensures.exact

pub returns-clause-refused : goal.returns-clause-refused
returns-clause-refused c = is_refused c.args.bytes.now c.program_of.result (λ i. omega (arith, c.type_inv.bytes i)) c.program_of.ensures.exact c.program_of.ensures.memory
