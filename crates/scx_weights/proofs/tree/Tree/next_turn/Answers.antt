use Rattle.std.proofs.Common.{subst}
use Rattle.scx_weights.specs.Hierarchy.{Hierarchy, masks_in}
use Rattle.scx_weights.specs.Limits.{NoneBegins}
use Rattle.scx_weights.specs.Pending.{usages_in}
use Rattle.scx_weights.proofs.KnownLimits.{none_between}
use Rattle.scx_weights.proofs.tree.Tree.next_turn.Goals as goal

pub returns-clause-none : goal.returns-clause-none
returns-clause-none c =
    let inside = c.self.inside in
    let u = inside.usages in
    let t : Hierarchy = record { groups = inside.groups.items; homes = inside.homes.items; own_weights = inside.own_weights.items; masks = masks_in inside.bound inside.masks.items; active = inside.active.items; usages = usages_in inside.groups.items u.used.items u.pending.items } in
    subst (λ (x : Hierarchy). NoneBegins x c.args.clock c.next_turn.result) c.self.view_is (none_between t u.beat u.since u.next c.args.clock c.next_turn.result u.limited c.self.invariant.1 c.next_turn.ensures)
