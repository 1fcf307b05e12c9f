use Rattle.std.proofs.Common.{arith}
use Rattle.scx_asm_text.proofs.Digits.{two_pushed}
use Rattle.scx_asm_text.proofs.printing.push_number.Goals as goal

pub returns-then-number-lt100-clause-bytes : goal.returns-then-number-lt100-clause-bytes
returns-then-number-lt100-clause-bytes c =
    two_pushed c.args.line.now.bytes c.push_digit-then-number-lt100.new.line.bytes c.push_digit-then-number-lt100-2.new.line.bytes c.args.number (omega arith) (omega arith) c.push_digit-then-number-lt100.ensures.bytes c.push_digit-then-number-lt100-2.ensures.bytes
