use Rattle.scx_laws.proofs.NotedRuns.{notes_tell_the_state, notes_tell_run_times}
use Rattle.scx_laws.proofs.telling.notes_tell_the_state.Goals as goal

pub returns-clause-state : goal.returns-clause-state
returns-clause-state c = notes_tell_the_state

pub returns-clause-run_times : goal.returns-clause-run_times
returns-clause-run_times c = notes_tell_run_times
