use Rattle.std.specs.Prelude.{string_bytes}
use Rattle.scxsim_output.proofs.Pieces.{all_put}
use Rattle.scxsim_why.specs.Json.{idle_line}
use Rattle.scxsim_why.proofs.telling_json.idle_line.Goals as goal

pub returns : goal.returns
returns c = all_put c.finish.result string_bytes _ _ (idle_line c.args.idle) c.new-line.ensures c.push_idle.ensures c.finish.ensures.ok
