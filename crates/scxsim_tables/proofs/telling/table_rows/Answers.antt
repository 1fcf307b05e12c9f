use Rattle.std.specs.Prelude.{string_bytes}
use Rattle.scxsim_tables.specs.Tables.{table_rows}
use Rattle.scxsim_output.proofs.Pieces.{all_put}
use Rattle.scxsim_tables.proofs.telling.table_rows.Goals as goal

pub returns : goal.returns
returns c =
    all_put c.finish.result string_bytes _ _ (table_rows c.args.figures.now c.args.words.now) c.new-rows.ensures c.write_tables.ensures c.finish.ensures.ok
