use Rattle.std.proofs.Common.{◌+◌, ◌-◌, ap, ◌∙◌, arith}
use Rattle.scx_abs.specs.Calls.{with_written}
use Rattle.scx_abs.proofs.Fillings.{one_filled_first}
use Rattle.scx_abs.proofs.states.AbsState.fill.Goals as goal

pub loop-byte-preserved : goal.loop-byte-preserved
loop-byte-preserved c =
    let end = c.args.at + c.args.count in
    ap (λ a. with_written a (c.loop-byte.byte + 1) (end - (c.loop-byte.byte + 1))) c.fill_byte.ensures
    ∙ one_filled_first c.loop-byte.self c.loop-byte.byte end (omega (arith, c.loop-byte-test.true, c.from.ensures, c.from-2.ensures)) ∙ c.loop-byte.invariant
