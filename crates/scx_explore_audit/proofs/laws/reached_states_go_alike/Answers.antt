use Rattle.scx_explore_findings.proofs.Shown.{reached_states_go_alike}
use Rattle.scx_explore_audit.proofs.laws.reached_states_go_alike.Goals as goal

pub returns : goal.returns
returns c = reached_states_go_alike
