use Rattle.std.proofs.Common.{ap, ◌∙◌, length}
use Rattle.scx_load_replay.specs.Scenarios.{scenario_events}
use Rattle.scx_load_replay.specs.Sources.{remaining}
use Rattle.scxsim_page.specs.Stretches.{none_yet}
use Rattle.scxsim_page.proofs.Summing.{counted_alike}
use Rattle.scxsim_page.proofs.stretch_count.count_stretches.Goals as goal

pub returns : goal.returns
returns g c =
    counted_alike _ _ _ (λ x. remaining c.in_ok-source.source x) (λ x. scenario_events c.args.run.now.scenario x) _ _
    (rw c.new-events.ensures.events at c.count_events.ensures) c.in_ok-sim.ensures c.in_ok-source.ensures
    (c.in_ok-counting.ensures ∙ ap (λ tasks. none_yet c.args.window (length tasks)) (c.tasks.ensures ∙ ap (λ w. w.homes) c.workload-workload.ensures))
