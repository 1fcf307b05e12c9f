use Rattle.scx_explore_audit.specs.Closed.{AreNumbersOf, claim_of}
use Rattle.scx_explore_audit.proofs.Settled.{closed_from, in_any_case}
use Rattle.scx_explore_audit.proofs.audit.is_audited.Goals as goal

pub returns-clause-numbers : goal.returns-clause-numbers
returns-clause-numbers c =
    in_any_case (AreNumbersOf c.args.path.now.root c.args.charted.table.numbers.now) _ (c.in_ok-numbered.ensures.numbers c.if-not-numbered.false)

pub returns-clause-closed : goal.returns-clause-closed
returns-clause-closed c =
    closed_from (claim_of c.args.charted) _ c.args.path.now.root _ c.args.path.now.room _ c.in_ok-numbered.ensures.root c.in_ok-numbered.ensures.room c.is_charted_closed.ensures
