use Rattle.std.proofs.Common.{rules, ◌≡◌, ◌+◌, true, ◌∙◌, arith}
use Rattle.std.proofs.lemmas.Grind.{common_steps}
use Rattle.scx_abs.specs.Cells.{is_written}
use Rattle.scx_abs.proofs.Sets.{written_on}
use Rattle.scx_abs.proofs.kinds.all_written.Goals as goal

pub loop-byte-preserved : goal.loop-byte-preserved
loop-byte-preserved c =
    let here : is_written c.args.set c.loop-byte.byte ≡ true = first_of (search rules, grind (arith, common_steps)) in
    written_on c.args.set c.loop-byte.byte (c.args.first + c.args.count) here c.loop-byte-test.true ∙ c.loop-byte.invariant
