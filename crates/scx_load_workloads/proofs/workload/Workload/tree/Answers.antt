use Rattle.std.proofs.Common.{◌≡◌, ℕ, List, length, None, sym, ap, ◌∙◌, subst}
use Rattle.scx_weights.specs.Hierarchy.{Hierarchy}
use Rattle.scx_weights.specs.Refusals.{masks_fault}
use Rattle.scx_load_workloads.specs.Workload.{WorkloadState}
use Rattle.scx_load_workloads.proofs.OwnWeights.{AreMasks, none_unbound}
use Rattle.scx_load_workloads.proofs.workload.Workload.tree.Goals as goal

pub unreachable-requires : goal.unreachable-requires
unreachable-requires c =
    let w = c.self.inside in
    let tree = c.in_ok-tree.tree in
    let masks = c.deref.result.now in
    let homes : length w.homes.items ≡ length c.args.self.now.homes = ap (λ (v : WorkloadState). length v.homes) c.self.view_is in
    let even : length masks ≡ length tree.homes =
    ap (λ (ms : List ℕ). length ms) c.deref.ensures.value
    ∙ c.self.invariant.masked
    ∙ homes
    ∙ sym (ap (λ (t : Hierarchy). length t.homes) c.in_ok-tree.ensures) in
    let none : masks_fault tree masks ≡ None = none_unbound w.cpus tree masks even (subst (AreMasks w.cpus) (sym c.deref.ensures.value) c.self.invariant.masks) in
    let some = (c.in-Err.ensures {u = tt}).refused in
    let bad = sym none ∙ some in
    absurd (cc)
