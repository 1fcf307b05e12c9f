use Rattle.scxsim_simulation.proofs.Determined.{runs_determined, traces_determined, reports_determined}
use Rattle.scxsim_simulation.proofs.determinism.texts_determine_runs.Goals as goal

pub returns-clause-runs : goal.returns-clause-runs
returns-clause-runs c = runs_determined

pub returns-clause-traces : goal.returns-clause-traces
returns-clause-traces c = traces_determined

pub returns-clause-reports : goal.returns-clause-reports
returns-clause-reports c = reports_determined
