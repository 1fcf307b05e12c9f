use Rattle.std.proofs.Common.{ap}
use Rattle.scx_explore_findings.specs.Path.{PathState}
use Rattle.scx_explore_audit.proofs.TriedPaths.{tried_back}
use Rattle.scx_explore_audit.proofs.walking.go_back.Goals as goal

pub returns-clause-root : goal.returns-clause-root
returns-clause-root c = ap (λ (p : PathState). p.root) c.go_back.ensures

pub returns-clause-room : goal.returns-clause-room
returns-clause-room c = ap (λ (p : PathState). p.room) c.go_back.ensures

pub returns-clause-tried : goal.returns-clause-tried
returns-clause-tried c = tried_back c.args.path.now _ c.args.depth c.go_back.ensures c.requires
