use Rattle.std.proofs.Common.{rules}
use Rattle.scx_abs.proofs.Blanks.{blanks_put}
use Rattle.scx_abs.proofs.states.copy_cells.Goals as goal

pub returns : goal.returns
returns c =
    blanks_put c.args.cells.now c.args.others.now c.copy_from_slice.new.self c.args.low (search rules) (search rules) c.requires.within c.requires.first c.requires.second
    c.copy_from_slice.ensures.after
