use Rattle.std.proofs.Common.{get_or, decimal}
use Rattle.scxsim_output.specs.Texts.{Puts}
use Rattle.scxsim_output.specs.Texts.{all_below}
use Rattle.scxsim_statistics.specs.Cells.{right}
use Rattle.scxsim_statistics.proofs.numbers.write_numbers.Given as goal

abbrev pub invariant-loop-place : goal.invariant-loop-place
invariant-loop-place l =
    Puts l.initial.page (all_below (λ k. right 9 (decimal (get_or l.numbers k 0))) l.place) l.page
