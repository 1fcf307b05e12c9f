use Rattle.std.specs.Prelude.{string_bytes}
use Rattle.scxsim_explore_lines.proofs.Places.{of_place}
use Rattle.scxsim_explore_lines.proofs.causes.words_of.Goals as goal

pub returns : goal.returns
returns c =
    of_place c.finish.result string_bytes c.args.place.now _ _ c.call_of-call.result _ c.new-words.ensures c.write_place.ensures c.append.ensures c.finish.ensures.ok
