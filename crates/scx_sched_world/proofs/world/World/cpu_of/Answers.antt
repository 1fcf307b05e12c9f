use Rattle.std.proofs.Common.{◌≡◌, ◌<◌, length, get_or, sym, ◌∙◌, arith}
use Rattle.std.proofs.lemmas.List.{get_or_default}
use Rattle.scx_sched_world.proofs.Running.{lowest_on}
use Rattle.scx_sched_world.proofs.world.World.cpu_of.Goals as goal

pub returns-then-task-len : goal.returns-then-task-len
returns-then-task-len c =
    let known : c.args.task < length c.self.inside.running_on.items = omega arith in
    let here : c.index.result.now ≡ get_or c.self.inside.running_on.items c.args.task 0 = c.index.ensures ∙ get_or_default c.self.inside.running_on.items c.args.task c.index.result.now 0 known in
    let lowest = lowest_on c.index.result.now c.args.task c.self.inside.cpus.items (omega arith) c.self.invariant.few_cpus (λ x l. rw here (c.self.invariant.running c.args.task x known l)) in
    rw (← c.self.view_is) (c.lowest_bit.ensures ∙ sym lowest)
