use Rattle.std.proofs.Common.{◌≡◌, ◌<◌, length, get_or, ap, ◌∙◌, arith}
use Rattle.std.proofs.lemmas.List.{get_or_read, length-set}
use Rattle.scx_sched_tasks.specs.declared.task.Task.{Task}
use Rattle.scx_sched_tasks.specs.Tasks.{no_task}
use Rattle.scx_sched_tasks.proofs.Times.{many_waits}
use Rattle.scx_sched_tasks.proofs.Watching.{watched_same}
use Rattle.scx_sched_tasks.proofs.tasks.Tasks.run_for.Goals as goal

-- it waits as before
pub invariant_of-self : goal.invariant_of-self
invariant_of-self c =
    let old = c.self.inside.records.items in
    let t = c.args.task in
    let x = c.run_on-facts.result in
    let count : length old ≡ length c.args.self.now = ap length c.self.view_is in
    let known : t < length old = omega (arith, count, c.requires.known) in
    let since : x.since ≡ (get_or old t no_task).since =
    ap (λ (y : Task). y.since) c.run_on-facts.ensures ∙ many_waits c.args.ms c.index.result.now
    ∙ ap (λ (y : Task). y.since) (get_or_read old t c.index.result.now known c.index.ensures no_task) in
    record {
      few = omega (arith, length-set old t x, c.self.invariant.few);
      watched = watched_same c.self.inside.watch old t x since c.self.invariant.watched;
    }
