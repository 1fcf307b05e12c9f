use Rattle.std.specs.Prelude.{string_bytes}
use Rattle.scxsim_tables.specs.Tables.{check_line}
use Rattle.scxsim_output.proofs.Pieces.{all_put}
use Rattle.scxsim_tables.proofs.checking.line_of.Goals as goal

pub returns : goal.returns
returns c =
    all_put c.finish.result string_bytes _ _ (check_line c.args.figures.now c.args.words.now) c.new-line.ensures c.write_check.ensures c.finish.ensures.ok
