use Rattle.std.proofs.Common.{ap, ◌∙◌}
use Rattle.scx_explore_findings.specs.Path.{PathState}
use Rattle.scx_explore_findings.proofs.CommonBeginnings.{went_room, went_root}
use Rattle.scx_explore_audit.proofs.TriedPaths.{tried_on}
use Rattle.scx_explore_audit.proofs.walking.go_on.Goals as goal

pub returns-clause-root : goal.returns-clause-root
returns-clause-root c = ap (λ (p : PathState). p.root) c.go_on.ensures.list ∙ went_root c.args.path.now c.args.event

pub returns-clause-room : goal.returns-clause-room
returns-clause-room c = ap (λ (p : PathState). p.room) c.go_on.ensures.list ∙ went_room c.args.path.now c.args.event

pub returns-clause-tried : goal.returns-clause-tried
returns-clause-tried c = tried_on c.args.path.now _ c.args.event c.go_on.ensures.list c.requires (c.is_tried.ensures c.if-not-is_tried.false)
