use Rattle.std.proofs.Common.{arith, sym, ◌∙◌}
use Rattle.scx_sched_policy.proofs.InVain.{walk_moves}
use Rattle.scx_sched_policy.proofs.vain.+walk.Goals as goal

pub returns-in-Moves : goal.returns-in-Moves
returns-in-Moves t c =
    walk_moves c.args.program.now c.args.left c.args.slot c.args.known c.in_ok-insn.insn _ _ (omega (arith, c.if-left-eq0.false)) (sym c.in_ok-insn.ensures) (sym c.part_of.ensures ∙ c.in-Moves.is) c.walk-in-Moves.ensures c.both_known.ensures
