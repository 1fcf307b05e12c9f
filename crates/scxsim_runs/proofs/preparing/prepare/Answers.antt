use Rattle.std.proofs.lemmas.Result.{err_from_is_err_and}
use Rattle.scx_load_driver.specs.Driver.{DriverState}
use Rattle.scxsim_runs.specs.declared.preparing.Run.{Run}
use Rattle.scxsim_runs.proofs.Causing.{workload_cause}
use Rattle.scxsim_runs.proofs.Running.{run_is}
use Rattle.scxsim_runs.proofs.preparing.prepare.Goals as goal

pub returns-clause-run : goal.returns-clause-run
returns-clause-run c =
    run_is c.args.policy.now c.args.workload.now _ _ _ (λ (run : Run DriverState). run.workload) (λ (run : Run DriverState). run.sim) c.begin.result c.in_ok-text.ensures.read (rw c.rules.ensures at c.in_ok-workload.ensures.read) c.in_ok-policy.ensures.built (rw c.seed.ensures at c.in_ok-policy.ensures.seeded) c.begin.ensures.workload c.begin.ensures.first c.begin.ensures.accepted c.begin.ensures.answered

pub returns-in_err-workload-clause-refused : goal.returns-in_err-workload-clause-refused
returns-in_err-workload-clause-refused c =
    let error = err_from_is_err_and c.from_residual-in_err-workload.result c.from_residual-in_err-workload.ensures.1 in
    rw (error.1, error.2) (workload_cause c.args.policy.now c.args.workload.now _ c.in_err-workload.field-0.0 c.in_ok-text.ensures.read (rw c.rules.ensures at c.in_err-workload.ensures.refused))
