use Rattle.scxsim_output.proofs.Pieces.{puts_both}
use Rattle.scxsim_why.specs.Json.{idle_line}
use Rattle.scxsim_why.proofs.telling_json.push_idle.Goals as goal

pub returns : goal.returns
unfolding idle_line
returns c =
    let numbers = puts_both c.number-2.new.self c.number.new.self c.args.line.now _ _ c.number.ensures c.number-2.ensures in
    puts_both c.push.new.self c.number-2.new.self c.args.line.now _ _ numbers c.push.ensures
