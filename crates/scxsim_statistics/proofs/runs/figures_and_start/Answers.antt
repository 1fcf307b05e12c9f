use Rattle.std.proofs.Common.{refl, subst, sym}
use Rattle.scx_sched.specs.Sim.{SimState}
use Rattle.scxsim_runs.specs.Scenarios.{IsScenarioRun}
use Rattle.scxsim_statistics.proofs.Reading.{of_texts, name_is}
use Rattle.scxsim_statistics.proofs.runs.figures_and_start.Goals as goal

pub returns-clause-of_texts : goal.returns-clause-of_texts
returns-clause-of_texts g c =
    of_texts c.args.policy.now c.args.scenario.now _ _ _ _ _
    c.in_ok-gather_beside.ensures.workload refl c.in_ok-run.ensures.run c.in_ok-run.ensures.events c.in_ok-gather_beside.ensures.of_run
    (name_is c.args.policy.now _ _ c.in_ok-gather_beside.ensures.name c.in_ok-run.ensures.named)

pub returns-clause-start : goal.returns-clause-start
returns-clause-start g c =
    let To : SimState → Type 0 = λ s. IsScenarioRun c.args.policy.now c.args.scenario.now c.in_ok-run.run'.scenario s in
    (c.in_ok-run.run'.scenario, subst To (sym c.in_ok-gather_beside.ensures.start) c.in_ok-run.ensures.run, c.in_ok-gather_beside.ensures.workload, c.in_ok-gather_beside.ensures.events)
