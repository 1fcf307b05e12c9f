use Rattle.std.proofs.Common.{◌∙◌, eqb}
use Rattle.std.specs.List.{list_any}
use Rattle.scx_weights.specs.Hierarchy.{path}
use Rattle.scx_weights.proofs.Used.{way_passed, way_ended}
use Rattle.scx_weights.proofs.usage.lies_in.Goals.{in-Some+else-other-group, in_default}
use Rattle.scx_weights.proofs.usage.lies_in.Goals as goal

pub loop-level-preserved : goal.loop-level-preserved
loop-level-preserved c =
    let groups = c.args.groups.now in
    let group = c.args.group in
    let before = c.loop-level in
    elim c.match-at.branch [
      | in-Some+else-other-group w ↦
          way_passed groups group before._level w.in-Some.other before.at c.match-at.at (list_any (λ x. eqb x group) (path groups c.args.home))
          c.loop-level-test.true w.in-Some.is (w.at-is ∙ w.parent_of-at.ensures) w.if-other-group.false before.invariant
      | in_default w ↦ before.invariant ∙ way_ended groups (λ x. eqb x group) before._level before.at c.match-at.at w.in_default.is w.at-is
    ]
