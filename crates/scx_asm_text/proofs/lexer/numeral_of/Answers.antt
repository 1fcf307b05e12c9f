use Rattle.std.proofs.Common.{◌≡◌, ◌+◌, ◌*◌, Some, get_or, sym}
use Rattle.std.specs.Char.{digit_value}
use Rattle.scx_asm_text.specs.Tokens.{if_64_bits}
use Rattle.scx_asm_text.proofs.Numerals.{one_digit, all_digits}
use Rattle.scx_asm_text.proofs.lexer.numeral_of.Goals as goal

pub loop-digit-preserved : goal.loop-digit-preserved
loop-digit-preserved c =
    let read : if_64_bits (c.loop-digit.value * c.args.radix + digit_value (get_or c.args.digits.now c.loop-digit.digit-index 0)) ≡ Some c.in_ok-value.value = sym (rw c.digit_value_of.ensures.value at c.in_ok-value.ensures) in
    one_digit c.args.radix c.args.digits.now c.loop-digit.digit-index c.loop-digit.value c.in_ok-value.value c.loop-digit-test.true c.loop-digit.invariant.0 read

pub returns : goal.returns
returns c = all_digits c.args.radix c.args.digits.now c.loop-digit.digit-index c.loop-digit.value c.loop-digit-test.false c.loop-digit.invariant.1 c.loop-digit.invariant.0
