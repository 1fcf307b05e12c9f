use Rattle.std.proofs.Common.{◌≡◌, true, sym, ◌∙◌}
use Rattle.std.proofs.lemmas.List.Sums.{AllPass-from_list_all}
use Rattle.scxsim_explore_lines.specs.Sought.{is_answered}
use Rattle.scxsim_explore_lines.proofs.Each.{of_each_fault, ten_faults}
use Rattle.scxsim_explore_lines.proofs.sought.are_all_answered.Goals as goal

pub returns : goal.returns
returns c = λ yes fault.
    let each = is_answered c.args.tracks_idle c.args.are_bound c.args.found.now c.args.sorts.now in
    of_each_fault (λ f. each f ≡ true) (AllPass-from_list_all each ten_faults (sym c.are_answered.ensures ∙ yes)) fault
