use Rattle.std.proofs.Common.{ap, ◌∙◌}
use Rattle.scxsim_faults.proofs.Ejected.{in_event, at_start}
use Rattle.scxsim_faults.proofs.finding.find_with.Goals as goal

pub returns-in-Ok : goal.returns-in-Ok
returns-in-Ok c =
    in_event c.args.policy c.args.scenario.now c.args.tree c.cpus.result c.in-Ok.sim c.find_in_scenario-found.result c.requires (c.cpus.ensures ∙ ap (λ w. w.cpus) c.workload.ensures) c.in-Ok.ensures.first c.find_in_scenario-found.ensures

pub returns-in-Err : goal.returns-in-Err
returns-in-Err c =
    at_start c.args.policy c.args.scenario.now c.args.tree c.cpus.result c.in-Err.error _ _ c.not_begun.result c.requires (c.cpus.ensures ∙ ap (λ w. w.cpus) c.workload.ensures) c.in-Err.ensures.refused c.new-finder.ensures c.in-Err.ensures.calls_before c.not_begun.ensures.none
    (rw (← c.found.ensures) c.not_begun.ensures.kept)
