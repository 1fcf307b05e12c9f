use Rattle.std.proofs.Common.{false, sym}
use Rattle.scx_isa.proofs.Codes.{occupant_fits, spelling_more}
use Rattle.scx_isa.proofs.encoding.write.Goals as goal

pub push_occupant-requires : goal.push_occupant-requires
push_occupant-requires c = occupant_fits false c.args.occupants.now c.loop-occupant.occupant-index c.requires.insns

pub loop-occupant-preserved : goal.loop-occupant-preserved
loop-occupant-preserved c =
    let more = spelling_more c.args.occupants.now c.loop-occupant.occupant-index c.loop-occupant-test.true in
    rw (c.in_ok-push_occupant.ensures {u = tt}, c.loop-occupant.invariant) (sym more)
