use Rattle.std.proofs.Common.{sym}
use Rattle.scx_isa.proofs.Counts.{one_more}
use Rattle.scx_isa.proofs.program.count.Goals as goal

pub loop-occupant-preserved : goal.loop-occupant-preserved
loop-occupant-preserved g c =
    rw (c.from-count.ensures, c.is_some.ensures, c.loop-occupant.invariant, c.occupant-item.is) (sym (one_more c.args.occupants.now c.loop-occupant.occupant-index _ c.loop-occupant-test.true))
