use Rattle.std.specs.Prelude.{string_bytes}
use Rattle.scxsim_explore_lines.proofs.Places.{of_found}
use Rattle.scxsim_explore_lines.proofs.causes.cause_in.Goals as goal

pub returns : goal.returns
returns c =
    let there = rw (c.new.ensures, c.in_ok-sim.ensures) at c.find_fault_among-place.ensures in
    of_found c.words_at.result string_bytes c.find_fault_among-place.result c.args.first.now c.args.events.now there c.words_at.ensures.words c.words_at.ensures.none
