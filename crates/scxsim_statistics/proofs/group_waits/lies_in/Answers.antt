use Rattle.std.proofs.Common.{eqb, ap, ◌∙◌}
use Rattle.std.specs.List.{list_any}
use Rattle.scxsim_statistics.proofs.Merging.{any_there}
use Rattle.scxsim_statistics.proofs.group_waits.lies_in.Goals as goal

pub returns : goal.returns
returns c =
    c.is_among.ensures ∙ any_there c.args.group c.path_of-levels.result ∙ ap (λ gs. list_any (λ x. eqb x c.args.group) gs) c.path_of-levels.ensures
