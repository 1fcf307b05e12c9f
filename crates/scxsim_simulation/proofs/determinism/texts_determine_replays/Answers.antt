use Rattle.scxsim_simulation.proofs.Determined.{replays_determined, replay_traces_determined}
use Rattle.scxsim_simulation.proofs.determinism.texts_determine_replays.Goals as goal

pub returns-clause-runs : goal.returns-clause-runs
returns-clause-runs c = replays_determined

pub returns-clause-traces : goal.returns-clause-traces
returns-clause-traces c = replay_traces_determined
