use Rattle.std.proofs.Common.{◌≡◌, ℕ, List, length, None, sym, ap, ◌∙◌, subst}
use Rattle.scx_weights.specs.Hierarchy.{Hierarchy}
use Rattle.scx_weights.specs.Refusals.{own_weights_fault}
use Rattle.scx_load_workloads.proofs.OwnWeights.{AreOwn, none_refused}
use Rattle.scx_load_workloads.proofs.workload.Workload.unbound_tree.Goals as goal

pub unreachable-requires : goal.unreachable-requires
unreachable-requires c =
    let tree = c.in-Ok.tree in
    let made = (c.in-Ok.ensures {u = tt}).made in
    let even : length c.deref-3.result.now ≡ length tree.homes =
    ap (λ (ws : List ℕ). length ws) c.deref-3.ensures.value
    ∙ c.self.invariant.weighed
    ∙ sym (ap (λ (hs : List ℕ). length hs) c.deref-2.ensures.value)
    ∙ sym (ap (λ (t : Hierarchy). length t.homes) made) in
    let none : own_weights_fault tree c.deref-3.result.now ≡ None = none_refused tree c.deref-3.result.now even (subst AreOwn (sym c.deref-3.ensures.value) c.self.invariant.own_weights) in
    let some = (c.in-Err-set_own_weights.ensures {u = tt}).refused in
    let bad = sym none ∙ some in
    absurd (cc)
