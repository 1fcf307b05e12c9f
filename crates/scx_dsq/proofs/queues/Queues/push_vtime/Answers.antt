use Rattle.std.proofs.Common.{ℕ, ◌-◌, ◌<◌, ◌∙◌, List, ap, refl, subst, sym, arith}
use Rattle.std.proofs.lemmas.List.{length-set}
use Rattle.std.proofs.lemmas.Result.{err_from_is_err_and}
use Rattle.scx_dsq.specs.declared.entries.Rank.TheVariants.{Vtime}
use Rattle.scx_dsq.specs.declared.heap.Item.{Item}
use Rattle.scx_dsq.specs.Queues.{task_count}
use Rattle.scx_dsq.specs.Arrays.{QueuesValue}
use Rattle.scx_dsq.specs.Kept.{state_of, Inserted}
use Rattle.scx_dsq.proofs.Costs.{paid_none}
use Rattle.scx_dsq.proofs.QueueReads.{opened_in, not_refused, refused_in}
use Rattle.scx_dsq.proofs.Pushes.{can_push_vtime, entry_made, pushed_vtime, pushed_vtime_state, pushed_vtime_paid, entered_vtime}
use Rattle.scx_dsq.proofs.queues.Queues.push_vtime.Goals as goal

pub returns-in_err-index-clause-answer : goal.returns-in_err-index-clause-answer
returns-in_err-index-clause-answer g c =
    let refusal = refused_in c.self.inside _ _ c.args.id c.args.task (Vtime c.args.key) _ c.self.invariant c.deref.ensures.value c.deref-3.ensures.value c.in_err-index.ensures.refused in
    let error = err_from_is_err_and c.from_residual.result c.from_residual.ensures.1 in
    rw (error.1, error.2, ← c.self.view_is, refusal) refl

pub returns-in_err-index-clause-state : goal.returns-in_err-index-clause-state
returns-in_err-index-clause-state g c =
    let refusal = refused_in c.self.inside _ _ c.args.id c.args.task (Vtime c.args.key) _ c.self.invariant c.deref.ensures.value c.deref-3.ensures.value c.in_err-index.ensures.refused in
    rw (← c.self.view_is, refusal) refl

pub insert_into-requires : goal.insert_into-requires
insert_into-requires g c =
    let x : Item = record { task = c.args.task; priority = c.new-priority.result } in
    let within : c.args.task < task_count (state_of c.self.inside) = subst (λ (v : QueuesValue). c.args.task < task_count v.state) (sym c.self.view_is) c.requires.task in
    let open_to = opened_in c.self.inside _ _ c.in_ok-index.index c.args.id c.args.task (Vtime x.priority.key) (Vtime c.args.key) c.index_mut.result.now c.self.invariant c.deref.ensures.value c.deref-3.ensures.value (ap Vtime c.new-priority.ensures.key) c.in_ok-index.ensures.admitted c.index_mut.ensures.value in
    rw c.deref_mut.ensures.value (can_push_vtime c.self.inside c.in_ok-index.index c.args.id x c.index_mut.result.now c.self.invariant within open_to)

pub invariant_of-self : goal.invariant_of-self
invariant_of-self g c =
    let x : Item = record { task = c.args.task; priority = c.new-priority.result } in
    let within : c.args.task < task_count (state_of c.self.inside) = subst (λ (v : QueuesValue). c.args.task < task_count v.state) (sym c.self.view_is) c.requires.task in
    let open_to = opened_in c.self.inside _ _ c.in_ok-index.index c.args.id c.args.task (Vtime x.priority.key) (Vtime c.args.key) c.index_mut.result.now c.self.invariant c.deref.ensures.value c.deref-3.ensures.value (ap Vtime c.new-priority.ensures.key) c.in_ok-index.ensures.admitted c.index_mut.ensures.value in
    let entered : Inserted c.self.inside.spots.items c.index_mut.result.now x c.insert_into.new.spots c.insert_into.new.queue = subst (λ (spots : List ℕ). Inserted spots c.index_mut.result.now x c.insert_into.new.spots c.insert_into.new.queue) c.deref_mut.ensures.value c.insert_into.ensures.entered in
    let changed = entered_vtime c.self.inside c.in_ok-index.index c.args.id x c.index_mut.result.now c.insert_into.new.queue c.deref_mut.result.now c.insert_into.new.spots c.vtime.result (entry_made (state_of c.self.inside) c.args.id c.new-priority.result c.vtime.result c.vtime.ensures c.new-priority.ensures.stamp) c.deref_mut.ensures.value c.insert_into.ensures.entered in
    pushed_vtime c.self.inside _ c.in_ok-index.index c.args.id x c.index_mut.result.now c.insert_into.new.queue c.insert_into.new.spots c.self.invariant within open_to entered c.new-priority.ensures.stamp changed

pub returns-clause-answer : goal.returns-clause-answer
returns-clause-answer g c =
    let open_to = opened_in c.self.inside _ _ c.in_ok-index.index c.args.id c.args.task (Vtime c.args.key) (Vtime c.args.key) c.index_mut.result.now c.self.invariant c.deref.ensures.value c.deref-3.ensures.value refl c.in_ok-index.ensures.admitted c.index_mut.ensures.value in
    rw (← c.self.view_is, not_refused c.self.inside c.in_ok-index.index c.args.id c.args.task (Vtime c.args.key) c.index_mut.result.now open_to) refl

pub returns-clause-state : goal.returns-clause-state
returns-clause-state g c =
    let x : Item = record { task = c.args.task; priority = c.new-priority.result } in
    let within : c.args.task < task_count (state_of c.self.inside) = subst (λ (v : QueuesValue). c.args.task < task_count v.state) (sym c.self.view_is) c.requires.task in
    let open_to = opened_in c.self.inside _ _ c.in_ok-index.index c.args.id c.args.task (Vtime x.priority.key) (Vtime c.args.key) c.index_mut.result.now c.self.invariant c.deref.ensures.value c.deref-3.ensures.value (ap Vtime c.new-priority.ensures.key) c.in_ok-index.ensures.admitted c.index_mut.ensures.value in
    let entered : Inserted c.self.inside.spots.items c.index_mut.result.now x c.insert_into.new.spots c.insert_into.new.queue = subst (λ (spots : List ℕ). Inserted spots c.index_mut.result.now x c.insert_into.new.spots c.insert_into.new.queue) c.deref_mut.ensures.value c.insert_into.ensures.entered in
    let changed = entered_vtime c.self.inside c.in_ok-index.index c.args.id x c.index_mut.result.now c.insert_into.new.queue c.deref_mut.result.now c.insert_into.new.spots c.vtime.result (entry_made (state_of c.self.inside) c.args.id c.new-priority.result c.vtime.result c.vtime.ensures c.new-priority.ensures.stamp) c.deref_mut.ensures.value c.insert_into.ensures.entered in
    rw (← c.self.view_is, ← c.new-priority.ensures.key) (pushed_vtime_state c.self.inside _ c.in_ok-index.index c.args.id x c.index_mut.result.now c.insert_into.new.queue c.insert_into.new.spots c.self.invariant within open_to entered c.new-priority.ensures.stamp changed)

pub returns-clause-cost : goal.returns-clause-cost
returns-clause-cost g c =
    let x : Item = record { task = c.args.task; priority = c.new-priority.result } in
    let within : c.args.task < task_count (state_of c.self.inside) = subst (λ (v : QueuesValue). c.args.task < task_count v.state) (sym c.self.view_is) c.requires.task in
    let open_to = opened_in c.self.inside _ _ c.in_ok-index.index c.args.id c.args.task (Vtime x.priority.key) (Vtime c.args.key) c.index_mut.result.now c.self.invariant c.deref.ensures.value c.deref-3.ensures.value (ap Vtime c.new-priority.ensures.key) c.in_ok-index.ensures.admitted c.index_mut.ensures.value in
    let entered : Inserted c.self.inside.spots.items c.index_mut.result.now x c.insert_into.new.spots c.insert_into.new.queue = subst (λ (spots : List ℕ). Inserted spots c.index_mut.result.now x c.insert_into.new.spots c.insert_into.new.queue) c.deref_mut.ensures.value c.insert_into.ensures.entered in
    let changed = entered_vtime c.self.inside c.in_ok-index.index c.args.id x c.index_mut.result.now c.insert_into.new.queue c.deref_mut.result.now c.insert_into.new.spots c.vtime.result (entry_made (state_of c.self.inside) c.args.id c.new-priority.result c.vtime.result c.vtime.ensures c.new-priority.ensures.stamp) c.deref_mut.ensures.value c.insert_into.ensures.entered in
    rw (← c.self.view_is) (pushed_vtime_paid c.self.inside _ c.in_ok-index.index c.args.id x c.index_mut.result.now c.insert_into.new.queue c.insert_into.new.spots c.self.invariant within open_to entered c.new-priority.ensures.stamp changed (c.insert_into.new.steps - c.args.steps.now) c.insert_into.ensures.cost)

pub returns-in_err-index-clause-cost : goal.returns-in_err-index-clause-cost
returns-in_err-index-clause-cost g c = paid_none c.args.self.now c.args.self.now c.args.id _ refl (omega arith)

pub returns-clause-tasks : goal.returns-clause-tasks
returns-clause-tasks g c = length-set c.self.inside.entries.items c.args.task _ ∙ ap (λ (v : QueuesValue). task_count v.state) c.self.view_is

pub returns-clause-pushes : goal.returns-clause-pushes
returns-clause-pushes g c = rw (← c.self.view_is) (omega arith)

pub returns-in_err-index-clause-unchanged : goal.returns-in_err-index-clause-unchanged
returns-in_err-index-clause-unchanged g c = rw (err_from_is_err_and c.from_residual.result c.from_residual.ensures.1).1 refl

pub returns-in_err-index-clause-free : goal.returns-in_err-index-clause-free
returns-in_err-index-clause-free g c = rw (err_from_is_err_and c.from_residual.result c.from_residual.ensures.1).1 refl
