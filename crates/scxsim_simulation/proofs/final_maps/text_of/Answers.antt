use Rattle.std.specs.Prelude.{string_bytes}
use Rattle.scxsim_simulation.specs.MapLines.{map_lines}
use Rattle.scxsim_output.proofs.Pieces.{all_put}
use Rattle.scxsim_simulation.proofs.final_maps.text_of.Goals as goal

pub returns : goal.returns
returns c = all_put c.finish.result string_bytes _ _ (map_lines c.args.maps.now) c.new-text.ensures c.push_maps.ensures c.finish.ensures.ok
