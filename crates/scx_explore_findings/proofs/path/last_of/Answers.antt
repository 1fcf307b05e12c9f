use Rattle.std.proofs.Common.{sym, ◌∙◌}
use Rattle.scx_explore_findings.proofs.ListMachines.{last_of_some}
use Rattle.scx_explore_findings.proofs.path.last_of.Goals as goal

pub returns : goal.returns
returns c =
    c.index-before-before.is ∙ last_of_some c.args.root.now c.args.before.now c.index-before-before.result (sym c.is_empty.ensures ∙ c.if-is_empty.false)
