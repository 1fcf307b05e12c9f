use Rattle.std.proofs.Common.{get_or}
use Rattle.std.proofs.lemmas.List.Elements.{All-get_or, All-set}
use Rattle.scx_explore_findings.specs.Path.{IsAs}
use Rattle.scx_explore_findings.proofs.SamePolicy.{as_another, as_stepped}
use Rattle.scx_explore_findings.proofs.pool.step_in.Goals as goal

pub returns-clause-alike : goal.returns-clause-alike
returns-clause-alike g c =
    let root = c.args.root.now in
    let sims = c.args.sims.now in
    let n = c.args.number in
    let d = c.index-sims-number.result in
    let new = c.step.new.self in
    All-set (IsAs root) sims n new (as_another root (get_or sims n d) new (All-get_or (IsAs root) sims n d c.requires.there c.requires.alike) (as_stepped (get_or sims n d) c.args.event new c.step.result c.step.ensures.answer c.step.ensures.state c.step.ensures.decided)) c.requires.alike
