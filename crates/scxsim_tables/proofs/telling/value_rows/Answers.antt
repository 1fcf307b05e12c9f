use Rattle.std.specs.Prelude.{string_bytes}
use Rattle.scxsim_tables.specs.Values.{value_rows}
use Rattle.scxsim_output.proofs.Pieces.{all_put}
use Rattle.scxsim_tables.proofs.telling.value_rows.Goals as goal

pub returns : goal.returns
returns c =
    all_put c.finish.result string_bytes _ _ (value_rows c.args.figures.now) c.new-rows.ensures c.write_list.ensures c.finish.ensures.ok
