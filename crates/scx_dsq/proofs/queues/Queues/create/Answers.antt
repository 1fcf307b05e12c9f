use Rattle.std.proofs.Common.{◌≡◌, ◌+◌, ◌∙◌, true, false, nat_le, length, insert, sym, ap, refl, arith, rules}
use Rattle.std.proofs.lemmas.Bool.{le-leb}
use Rattle.std.proofs.lemmas.List.{append-nil, length-map}
use Rattle.scx_dsq.specs.declared.queue.Queue.{Queue}
use Rattle.scx_dsq.specs.Queues.{exists, task_count}
use Rattle.scx_dsq.specs.Arrays.{QueuesValue}
use Rattle.scx_dsq.specs.Kept.{ids_of, state_of}
use Rattle.scx_dsq.specs.Order.{IsGap}
use Rattle.scx_dsq.proofs.Makings.{created_keeps, created_state, created_arrays}
use Rattle.scx_dsq.proofs.queues.Queues.create.Goals as goal

pub invariant_of-self-2 : goal.invariant_of-self-2
invariant_of-self-2 c =
    let gap : IsGap (ids_of c.self.inside.live.items) c.self.inside.order.items c.args.id c.in-Err.gap = rw (c.deref.ensures.value, c.deref-2.ensures.value) at c.in-Err.ensures.missing in
    let count : c.len.result ≡ length c.self.inside.live.items = search rules in
    let pushed = rw c.none.ensures at c.push_reserved.ensures.items in
    let order = c.in-Ok.ensures.items ∙ ap (λ n. insert c.self.inside.order.items c.in-Err.gap n) count in
    created_keeps c.self.inside _ c.args.id c.in-Err.gap c.in-Some.heap c.self.invariant gap order c.in-Ok.ensures.capacity c.in-Some.ensures.items pushed c.push_reserved.ensures.capacity refl refl refl refl

pub returns-clause-arrays : goal.returns-clause-arrays
returns-clause-arrays c =
    let pushed = rw c.none.ensures at c.push_reserved.ensures.items in
    rw (← c.self.view_is) (created_arrays c.self.inside _ c.args.id c.in-Some.heap c.self.invariant _ c.in-Some.ensures.items pushed)

pub returns-clause-state : goal.returns-clause-state
returns-clause-state c =
    let new : exists (state_of c.self.inside) c.args.id ≡ false = rw (← c.deref.ensures.value) (sym c.in-Err.ensures.named) in
    let pushed = rw c.none.ensures at c.push_reserved.ensures.items in
    rw (← c.self.view_is) (created_state c.self.inside c.push_reserved.new.self.items c.pop.new.self.items c.args.id c.in-Some.heap new c.in-Some.ensures.items pushed)

pub returns-in_default-pop-clause-tasks : goal.returns-in_default-pop-clause-tasks
returns-in_default-pop-clause-tasks c = ap (λ (v : QueuesValue). task_count v.state) c.self.view_is

pub returns-in_default-pop-clause-pushes : goal.returns-in_default-pop-clause-pushes
returns-in_default-pop-clause-pushes c = ap (λ (v : QueuesValue). v.state.pushes) c.self.view_is

pub returns-clause-tasks : goal.returns-clause-tasks
returns-clause-tasks c = ap (λ (v : QueuesValue). task_count v.state) c.self.view_is

pub returns-clause-pushes : goal.returns-clause-pushes
returns-clause-pushes c = ap (λ (v : QueuesValue). v.state.pushes) c.self.view_is

pub returns-in_default-clause-state : goal.returns-in_default-clause-state
returns-in_default-clause-state c =
    let there : exists (state_of c.self.inside) c.args.id ≡ true = rw (← c.deref.ensures.value) (sym c.in_default.ensures.named) in
    rw (← c.self.view_is, there) refl

pub returns-in_default-pop-clause-state : goal.returns-in_default-pop-clause-state
returns-in_default-pop-clause-state c =
    let new : exists (state_of c.self.inside) c.args.id ≡ false = rw (← c.deref.ensures.value) (sym c.in-Err.ensures.named) in
    let same : c.pop.new.self.items ≡ c.self.inside.spare.items = sym (c.in_default-pop.ensures.items ∙ append-nil c.pop.new.self.items) in
    let none : length c.self.inside.spare.items ≡ 0 = search rules in
    let full : nat_le (length c.self.inside.live.items + length c.self.inside.spare.items) (length (ids_of c.self.inside.live.items)) ≡ true = le-leb _ _ (omega (arith, none, length-map c.self.inside.live.items (λ (q : Queue). q.id))) in
    rw (same, ← c.self.view_is, new, full) refl

pub returns-in_default-pop-clause-unchanged : goal.returns-in_default-pop-clause-unchanged
returns-in_default-pop-clause-unchanged c =
    let same : c.pop.new.self.items ≡ c.self.inside.spare.items = sym (c.in_default-pop.ensures.items ∙ append-nil c.pop.new.self.items) in
    rw same c.self.view_is
