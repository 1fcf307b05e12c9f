use Rattle.std.proofs.lemmas.List.{length-replicate}
use Rattle.scx_sched_tasks.specs.Tasks.{new_task}
use Rattle.scx_sched_tasks.proofs.tasks.Tasks.new.Goals as goal

pub invariant_of-result : goal.invariant_of-result
invariant_of-result c =
    let items = c.in_ok-vec.ensures.items_if_clones_equal (λ y e. e) in
    record {
      few = rw (items, length-replicate c.args.count new_task) c.requires;
      watched = rw items (c.new.ensures c.args.count);
    }
