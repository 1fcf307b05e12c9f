use Rattle.scx_explore_audit.proofs.Covered.{lists_are_of_events}
use Rattle.scx_explore_audit.proofs.laws.lists_are_of_events.Goals as goal

pub returns : goal.returns
returns c = lists_are_of_events
