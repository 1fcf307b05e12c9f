use Rattle.std.proofs.Common.{rules, [], slice_index_or, refl, ap, ◌∙◌, arith}
use Rattle.std.proofs.lemmas.Grind.{common_steps}
use Rattle.scx_abs.specs.declared.kinds.Cell.TheVariants.{Bytes}
use Rattle.scx_abs.specs.Cells.{join_cell}
use Rattle.scx_abs.proofs.Blanks.{blank_joined}
use Rattle.scx_abs.proofs.Lists.{joined_more, joined_later}
use Rattle.scx_abs.proofs.states.join_cells.Goals as goal

pub loop-cell-init : goal.loop-cell-init
loop-cell-init c = record {
  long = first_of (search rules, grind (arith, common_steps));
  so_far = blank_joined c.args.cells.now c.args.others.now c.args.low c.requires.first c.requires.second;
  later = λ k le. refl;
}

pub loop-cell-preserved : goal.loop-cell-preserved
loop-cell-preserved c =
    let at = c.loop-cell in
    let here = at.invariant.later at.cell (omega arith) in
    let joined = c.joined_cell.ensures ∙ ap (λ k. join_cell k (slice_index_or c.args.others.now at.cell (Bytes []))) here in
    record {
      long = first_of (search rules, grind (arith, common_steps));
      so_far = joined_more join_cell at.cells c.args.cells.now c.args.others.now at.cell c.joined_cell.result (Bytes [])
          (omega (arith, c.loop-cell-test.true, at.invariant.long)) joined at.invariant.so_far;
      later = joined_later at.cells c.args.cells.now at.cell c.joined_cell.result (Bytes []) at.invariant.later;
    }
