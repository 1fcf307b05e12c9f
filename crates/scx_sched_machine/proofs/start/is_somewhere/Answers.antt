use Rattle.std.proofs.Common.{sym, ◌∙◌, arith}
use Rattle.scx_weights.specs.Hierarchy.{is_in_mask}
use Rattle.scx_sched_machine.proofs.Active.{any_below_at}
use Rattle.scx_sched_machine.proofs.start.is_somewhere.Goals as goal

pub returns-then-is_in_mask : goal.returns-then-is_in_mask
returns-then-is_in_mask c =
    sym (any_below_at c.args.cpus c.loop-cpu.cpu (is_in_mask c.args.tree.now c.args.task) (omega (arith, c.loop-cpu-test.true)) (sym c.is_in_mask.ensures ∙ c.if-is_in_mask.true))
