use Rattle.std.proofs.Common.{◌<◌, length, sym, ◌∙◌, arith}
use Rattle.scx_weights.proofs.Counting.{any_below_at}
use Rattle.scx_sched_world.specs.World.{is_this, current}
use Rattle.scx_sched_world.proofs.world.World.is_current.Goals as goal

pub returns-then-is_current_on : goal.returns-then-is_current_on
returns-then-is_current_on c =
    let w = c.args.self.now in
    let l : c.loop-cpu.cpu < length w.cpus = omega (arith, c.loop-cpu-test.true, c.loop-cpu.auto.cpu-end, c.cpus-cpu-end.ensures.cpus) in
    sym (any_below_at (length w.cpus) c.loop-cpu.cpu (λ k. is_this c.args.task (current w k)) l (sym c.is_current_on.ensures ∙ c.if-is_current_on.true))
