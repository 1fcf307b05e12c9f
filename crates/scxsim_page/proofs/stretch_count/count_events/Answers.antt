use Rattle.std.proofs.Common.{ap, ◌∙◌}
use Rattle.scxsim_page.specs.Stretches.{all_counted}
use Rattle.scxsim_page.proofs.Summing.{run_is_counted}
use Rattle.scxsim_page.proofs.stretch_count.count_events.Goals as goal

pub returns : goal.returns
returns g c =
    c.count_all-count.ensures ∙ ap (λ m. all_counted m c.observe.new.observer) c.clock.ensures ∙ run_is_counted _ _ _ _ _ c.observe.ensures
