use Rattle.std.proofs.Common.{◌∙◌, arith}
use Rattle.scx_explore_findings.proofs.PathFields.{kept_index, kept_at}
use Rattle.scx_explore_findings.proofs.path.Path.sim_at.Goals as goal

pub index-requires : goal.index-requires
index-requires c =
    omega (arith, kept_index c.self.inside c.args.self.now c.self.view_is c.self.invariant c.args.depth c.if-depth-eq0.false c.requires, c.self.inside.sims.ok.0)

pub returns : goal.returns
returns c =
    c.index.ensures ∙ kept_at c.self.inside c.args.self.now c.self.view_is c.self.invariant c.args.depth c.index.result.now c.if-depth-eq0.false c.requires
