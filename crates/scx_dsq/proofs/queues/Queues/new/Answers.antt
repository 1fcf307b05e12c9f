use Rattle.std.proofs.Common.{◌≡◌, ◌≤◌, None, length, replicate, vec_capacity, rules}
use Rattle.scx_dsq.proofs.Makings.{new_keeps}
use Rattle.scx_dsq.proofs.queues.Queues.new.Goals as goal

pub invariant_of-result : goal.invariant_of-result
invariant_of-result c =
    let entries : c.in_ok-vec.field-0.items ≡ replicate c.args.tasks None = search rules in
    let links : length c.in_ok-vec-2.field-0.items ≡ c.args.tasks = search rules in
    let spots : length c.in_ok-vec-3.field-0.items ≡ c.args.tasks = search rules in
    let room : length c.in_ok-spare_heaps.field-0.items ≤ vec_capacity c.in_ok-with_capacity.field-0 = search rules in
    let orders : length c.in_ok-spare_heaps.field-0.items ≤ vec_capacity c.in_ok-with_capacity-2.field-0 = search rules in
    new_keeps _ c.args.tasks c.in_ok-with_capacity.ensures.items c.in_ok-spare_heaps.ensures.empty entries links spots room c.in_ok-with_capacity-2.ensures.items orders
