use Rattle.scx_explore_states.proofs.Pointers.{runs_point_to_their_task}
use Rattle.scx_explore_states.proofs.laws.runs_point_to_their_task.Goals as goal

pub returns : goal.returns
returns c = runs_point_to_their_task
