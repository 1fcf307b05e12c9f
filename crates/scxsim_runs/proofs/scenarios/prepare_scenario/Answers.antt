use Rattle.std.proofs.lemmas.Result.{err_from_is_err_and}
use Rattle.scxsim_runs.specs.declared.scenarios.ScenarioRun.{ScenarioRun}
use Rattle.scxsim_runs.proofs.Running.{scenario_is}
use Rattle.scxsim_runs.proofs.ScenarioCauses.{scenario_cause, build_cause}
use Rattle.scxsim_runs.proofs.scenarios.prepare_scenario.Goals as goal

pub returns-clause-run : goal.returns-clause-run
returns-clause-run c =
    scenario_is c.args.policy.now c.args.scenario.now _ _ _ (λ (run : ScenarioRun). run.scenario) (λ (run : ScenarioRun). run.sim) c.begin_scenario.result c.in_ok-text.ensures.read (rw c.rules.ensures at c.in_ok-scenario.ensures.read) c.in_ok-policy.ensures.built (rw (c.seed.ensures, c.workload.ensures) at c.in_ok-policy.ensures.seeded)
    c.begin_scenario.ensures.scenario c.begin_scenario.ensures.first c.begin_scenario.ensures.accepted c.begin_scenario.ensures.answered

pub returns-in_err-scenario-clause-refused : goal.returns-in_err-scenario-clause-refused
returns-in_err-scenario-clause-refused c =
    let error = err_from_is_err_and c.from_residual-in_err-scenario.result c.from_residual-in_err-scenario.ensures.1 in
    rw (error.1, error.2) (scenario_cause c.args.policy.now c.args.scenario.now _ c.in_err-scenario.field-0.0 c.in_ok-text.ensures.read (rw c.rules.ensures at c.in_err-scenario.ensures.refused))

pub returns-in_err-policy-clause-refused : goal.returns-in_err-policy-clause-refused
returns-in_err-policy-clause-refused c =
    let error = err_from_is_err_and c.from_residual-in_err-policy.result c.from_residual-in_err-policy.ensures.1 in
    rw (error.1, error.2) (build_cause c.args.policy.now c.args.scenario.now _ _ c.in_err-policy.field-0.0 c.in_ok-text.ensures.read (rw c.rules.ensures at c.in_ok-scenario.ensures.read) c.in_err-policy.ensures.refused)
