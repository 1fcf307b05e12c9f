use Rattle.std.proofs.Common.{sym, ◌∙◌, get_or}
use Rattle.scx_weights.specs.Hierarchy.{quota_at}
use Rattle.scx_weights.specs.Limits.{is_used_up}
use Rattle.scx_weights.proofs.Paths.{parent_within}
use Rattle.scx_weights.proofs.Used.{found_here, passed_here, way_ended}
use Rattle.scx_weights.proofs.usage.Usages.is_way_throttled.Goals.{in-Some+else-is_used_up, in_default}
use Rattle.scx_weights.proofs.usage.Usages.is_way_throttled.Goals as goal

pub returns-then-is_used_up : goal.returns-then-is_used_up
returns-then-is_used_up c =
    let groups = c.args.groups.now in
    let used = c.args.self.now.used.items in
    let before = c.loop-level in
    let x = c.in-Some.group in
    let known = before.invariant.known x c.in-Some.is in
    found_here groups used before._level x c.index.result.now before.at c.is_used_up.result _ c.loop-level-test.true known c.requires.lengths c.in-Some.is c.index.ensures c.is_used_up.ensures c.if-is_used_up.true before.invariant.left

pub loop-level-preserved : goal.loop-level-preserved
loop-level-preserved c =
    let groups = c.args.groups.now in
    let used = c.args.self.now.used.items in
    let before = c.loop-level in
    elim c.match-at.branch [
      | in-Some+else-is_used_up w ↦
          let x = w.in-Some.group in
          let known = before.invariant.known x w.in-Some.is in
          record {
            known = λ y e. parent_within groups c.requires.forest x y known (sym w.parent_of-at.ensures ∙ sym w.at-is ∙ e);
            left = passed_here groups used before._level x w.index.result.now before.at c.match-at.at w.is_used_up.result _ c.loop-level-test.true known c.requires.lengths w.in-Some.is (w.at-is ∙ w.parent_of-at.ensures) w.index.ensures w.is_used_up.ensures w.if-is_used_up.false before.invariant.left;
          }
      | in_default w ↦ record {
        known = λ y e. before.invariant.known y (sym w.at-is ∙ e);
        left = before.invariant.left ∙ way_ended groups (λ g. is_used_up (quota_at groups g) (get_or used g 0)) before._level before.at c.match-at.at w.in_default.is w.at-is;
      }
    ]
