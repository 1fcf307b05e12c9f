use Rattle.std.proofs.Common.{◌≡◌, ◌<◌, true, false, Option, Some, None, is_some, option_map, refl, sym, ap, ◌∙◌}
use Rattle.std.proofs.lemmas.Bool.{both_ways}
use Rattle.scx_dsq.specs.declared.entries.Entry.{Entry}
use Rattle.scx_dsq.specs.Queues.{QueueState, IsQueueAt, exists, task_count, entry_of, queue_of}
use Rattle.scx_dsq.specs.Kept.{state_of}
use Rattle.scx_dsq.proofs.QueueReads.{entry_read, stands_at}
use Rattle.scx_dsq.proofs.Facts.{tasks_without}
use Rattle.scx_dsq.proofs.queues.Queues.remove.Goals as goal

pub unreachable-requires : goal.unreachable-requires
unreachable-requires g c =
    let within : c.args.task < task_count (state_of c.self.inside) = rw (← c.self.view_is) at c.requires in
    let waits = entry_read c.self.inside c.args.task c.index.result.now within c.index.ensures ∙ c.in-Some.is in
    let out : exists (state_of c.self.inside) c.queue.result ≡ false = rw (← c.deref.ensures.value) (sym c.in_default-find.ensures.found) in
    both_ways _ (rw c.queue.ensures at out) (c.self.invariant.sound.homes c.args.task c.in-Some.entry waits)

pub take_out-requires-clause-place : goal.take_out-requires-clause-place
take_out-requires-clause-place g c =
    let found : IsQueueAt (state_of c.self.inside) c.in-Some-find.index c.queue.result = stands_at c.self.inside _ c.in-Some-find.index c.queue.result c.deref.ensures.value c.in-Some-find.ensures.at in
    rw (← c.self.view_is) (rw c.queue.ensures at found)

pub returns-clause-tasks : goal.returns-clause-tasks
returns-clause-tasks g c = ap (λ (s : QueueState). task_count s) c.take_out.ensures.state ∙ tasks_without c.args.self.now.state (Some c.args.task)

pub returns-clause-pushes : goal.returns-clause-pushes
returns-clause-pushes g c = ap (λ (s : QueueState). s.pushes) c.take_out.ensures.state

pub returns-in_default-clause-state : goal.returns-in_default-clause-state
returns-in_default-clause-state g c =
    let within : c.args.task < task_count (state_of c.self.inside) = rw (← c.self.view_is) at c.requires in
    let none : entry_of (state_of c.self.inside) c.args.task ≡ None = entry_read c.self.inside c.args.task c.index.result.now within c.index.ensures ∙ c.in_default.is in
    rw (← c.self.view_is, none) refl

pub returns-in_default-clause-cost : goal.returns-in_default-clause-cost
returns-in_default-clause-cost g c =
    let within : c.args.task < task_count (state_of c.self.inside) = rw (← c.self.view_is) at c.requires in
    let none : entry_of (state_of c.self.inside) c.args.task ≡ None = entry_read c.self.inside c.args.task c.index.result.now within c.index.ensures ∙ c.in_default.is in
    rw (← c.self.view_is, none) tt

pub returns-clause-state : goal.returns-clause-state
returns-clause-state g c =
    let within : c.args.task < task_count (state_of c.self.inside) = rw (← c.self.view_is) at c.requires in
    let waits : entry_of (state_of c.self.inside) c.args.task ≡ Some c.in-Some.entry = entry_read c.self.inside c.args.task c.index.result.now within c.index.ensures ∙ c.in-Some.is in
    let there : is_some (entry_of c.args.self.now.state c.args.task) ≡ true = rw (← c.self.view_is) (ap (λ (o : Option Entry). is_some o) waits) in
    rw there c.take_out.ensures.state

pub returns-clause-cost : goal.returns-clause-cost
returns-clause-cost g c =
    let within : c.args.task < task_count (state_of c.self.inside) = rw (← c.self.view_is) at c.requires in
    let waits : entry_of (state_of c.self.inside) c.args.task ≡ Some c.in-Some.entry = entry_read c.self.inside c.args.task c.index.result.now within c.index.ensures ∙ c.in-Some.is in
    let queue : queue_of c.args.self.now.state c.args.task ≡ Some c.in-Some.entry.queue = rw (← c.self.view_is) (ap (λ (o : Option Entry). option_map (λ p. p.queue) o) waits) in
    rw queue c.take_out.ensures.cost
