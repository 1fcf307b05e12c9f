use Rattle.scx_explore_audit.proofs.Settled.{told}
use Rattle.scx_explore_audit.proofs.Rowed.{told_whole}
use Rattle.scx_explore_audit.proofs.audit.none_in_lists.Goals as goal

pub returns-clause-none : goal.returns-clause-none
returns-clause-none c = told _ c.args.path.now.root c.args.path.now.room _ c.is_audited-closed.ensures.closed

pub returns-clause-whole : goal.returns-clause-whole
returns-clause-whole c = told_whole _ c.args.path.now.root c.args.path.now.room _ c.is_audited-closed.ensures.closed c.is_audited-closed.ensures.numbers
