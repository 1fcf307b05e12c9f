use Rattle.std.proofs.Common.{◌≡◌, ◌+◌, ◌/◌, ◌%◌, true, ◌∙◌, arith}
use Rattle.scx_abs.specs.Cells.{is_written, written_in}
use Rattle.scx_abs.specs.States.{cell_at}
use Rattle.scx_abs.proofs.Fillings.{others_say}
use Rattle.scx_abs.proofs.calls.are_written.Goals as goal

pub loop-byte-preserved : goal.loop-byte-preserved
loop-byte-preserved c =
    let here : is_written (written_in (cell_at c.args.state.now (c.loop-byte.byte / 8))) (c.loop-byte.byte % 8) ≡ true = first_of (cc, search) in
    others_say c.args.state.now c.loop-byte.byte (c.args.at + c.args.count) here (omega (arith, c.loop-byte-test.true, c.from.ensures, c.from-2.ensures)) ∙ c.loop-byte.invariant
