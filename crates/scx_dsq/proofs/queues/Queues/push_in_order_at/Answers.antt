use Rattle.std.proofs.Common.{◌<◌, ◌∙◌, ap, refl, arith}
use Rattle.std.proofs.lemmas.List.{length-set}
use Rattle.std.proofs.lemmas.Result.{err_from_is_err_and}
use Rattle.scx_dsq.specs.Queues.{IsQueueAt, task_count}
use Rattle.scx_dsq.specs.Arrays.{QueuesValue}
use Rattle.scx_dsq.specs.Kept.{state_of}
use Rattle.scx_dsq.proofs.QueueReads.{found_at, is_there, opened, not_refused, refused}
use Rattle.scx_dsq.proofs.Pushes.{can_push_in_order, pushed_in_order, pushed_in_order_state, entered_in_order}
use Rattle.scx_dsq.proofs.Costs.{arrays_same}
use Rattle.scx_dsq.proofs.queues.Queues.push_in_order_at.Goals as goal

pub returns-in_err-admit_at-clause-answer : goal.returns-in_err-admit_at-clause-answer
returns-in_err-admit_at-clause-answer c =
    let refusal = refused c.self.inside c.args.id c.args.task c.args.rank _ c.self.invariant (rw (c.deref.ensures.value, c.deref-2.ensures.value) at c.in_err-admit_at.ensures.refused) in
    let error = err_from_is_err_and c.from_residual.result c.from_residual.ensures.1 in
    rw (error.1, error.2, ← c.self.view_is, refusal) refl

pub returns-in_err-admit_at-clause-state : goal.returns-in_err-admit_at-clause-state
returns-in_err-admit_at-clause-state c =
    let refusal = refused c.self.inside c.args.id c.args.task c.args.rank _ c.self.invariant (rw (c.deref.ensures.value, c.deref-2.ensures.value) at c.in_err-admit_at.ensures.refused) in
    rw (← c.self.view_is, refusal) refl

pub link_in-requires : goal.link_in-requires
link_in-requires c =
    let within : c.args.task < task_count (state_of c.self.inside) = rw (← c.self.view_is) at c.requires.task in
    let open_to = opened c.self.inside c.args.place c.args.id c.args.task c.args.rank c.index_mut.result.now c.self.invariant (rw (c.deref.ensures.value, c.deref-2.ensures.value) at c.in_ok-admit_at.ensures.admitted) c.index_mut.ensures.value in
    rw c.deref_mut.ensures.value (can_push_in_order c.self.inside c.args.place c.args.id c.args.task c.args.rank c.index_mut.result.now c.self.invariant within c.requires.order open_to)

pub invariant_of-self : goal.invariant_of-self
invariant_of-self c =
    let within : c.args.task < task_count (state_of c.self.inside) = rw (← c.self.view_is) at c.requires.task in
    let open_to = opened c.self.inside c.args.place c.args.id c.args.task c.args.rank c.index_mut.result.now c.self.invariant (rw (c.deref.ensures.value, c.deref-2.ensures.value) at c.in_ok-admit_at.ensures.admitted) c.index_mut.ensures.value in
    let changed = entered_in_order c.self.inside c.args.place c.args.id c.args.task c.args.rank c.index_mut.result.now c.link_in.new.queue c.deref_mut.result.now c.link_in.new.links c.in_order.result c.in_order.ensures c.deref_mut.ensures.value c.link_in.ensures.queue c.link_in.ensures.links in
    pushed_in_order c.self.inside _ c.args.place c.args.id c.args.task c.args.rank c.index_mut.result.now c.self.invariant within c.requires.order open_to changed

pub returns-clause-answer : goal.returns-clause-answer
returns-clause-answer c =
    let open_to = opened c.self.inside c.args.place c.args.id c.args.task c.args.rank c.index_mut.result.now c.self.invariant (rw (c.deref.ensures.value, c.deref-2.ensures.value) at c.in_ok-admit_at.ensures.admitted) c.index_mut.ensures.value in
    rw (← c.self.view_is, not_refused c.self.inside c.args.place c.args.id c.args.task c.args.rank c.index_mut.result.now open_to) refl

pub returns-clause-state : goal.returns-clause-state
returns-clause-state c =
    let within : c.args.task < task_count (state_of c.self.inside) = rw (← c.self.view_is) at c.requires.task in
    let open_to = opened c.self.inside c.args.place c.args.id c.args.task c.args.rank c.index_mut.result.now c.self.invariant (rw (c.deref.ensures.value, c.deref-2.ensures.value) at c.in_ok-admit_at.ensures.admitted) c.index_mut.ensures.value in
    let changed = entered_in_order c.self.inside c.args.place c.args.id c.args.task c.args.rank c.index_mut.result.now c.link_in.new.queue c.deref_mut.result.now c.link_in.new.links c.in_order.result c.in_order.ensures c.deref_mut.ensures.value c.link_in.ensures.queue c.link_in.ensures.links in
    rw (← c.self.view_is) (pushed_in_order_state c.self.inside _ c.args.place c.args.id c.args.task c.args.rank c.index_mut.result.now c.self.invariant within c.requires.order open_to changed)

pub returns-clause-arrays : goal.returns-clause-arrays
returns-clause-arrays c =
    rw (← c.self.view_is) (arrays_same c.self.inside.live.items c.args.place c.index_mut.result.now c.link_in.new.queue c.index_mut.ensures.value (rw c.link_in.ensures.queue refl))

pub returns-clause-tasks : goal.returns-clause-tasks
returns-clause-tasks c = length-set c.self.inside.entries.items c.args.task _ ∙ ap (λ (v : QueuesValue). task_count v.state) c.self.view_is

pub returns-clause-pushes : goal.returns-clause-pushes
returns-clause-pushes c = rw (← c.self.view_is) (omega arith)

pub returns-in_err-admit_at-clause-unchanged : goal.returns-in_err-admit_at-clause-unchanged
returns-in_err-admit_at-clause-unchanged c = rw (err_from_is_err_and c.from_residual.result c.from_residual.ensures.1).1 refl

pub admit_at-requires-clause-place : goal.admit_at-requires-clause-place
admit_at-requires-clause-place c =
    let at : IsQueueAt (state_of c.self.inside) c.args.place c.args.id = rw (← c.self.view_is) at c.requires.place in
    rw c.deref.ensures.value (found_at c.self.inside c.args.place c.args.id at).0

pub admit_at-requires-clause-is : goal.admit_at-requires-clause-is
admit_at-requires-clause-is c =
    let at : IsQueueAt (state_of c.self.inside) c.args.place c.args.id = rw (← c.self.view_is) at c.requires.place in
    rw c.deref.ensures.value (found_at c.self.inside c.args.place c.args.id at).1

pub admit_at-requires-clause-there : goal.admit_at-requires-clause-there
admit_at-requires-clause-there c =
    let at : IsQueueAt (state_of c.self.inside) c.args.place c.args.id = rw (← c.self.view_is) at c.requires.place in
    rw c.deref.ensures.value (is_there (state_of c.self.inside) c.args.place c.args.id at)

pub index_mut-requires : goal.index_mut-requires
index_mut-requires c =
    let at : IsQueueAt (state_of c.self.inside) c.args.place c.args.id = rw (← c.self.view_is) at c.requires.place in
    let inside = (found_at c.self.inside c.args.place c.args.id at).0 in omega (arith, inside, c.self.inside.live.ok.0)
