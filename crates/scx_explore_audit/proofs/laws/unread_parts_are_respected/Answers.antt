use Rattle.scx_explore_audit.proofs.Matched.{unread_parts_are_respected}
use Rattle.scx_explore_audit.proofs.laws.unread_parts_are_respected.Goals as goal

pub returns : goal.returns
returns c = unread_parts_are_respected
