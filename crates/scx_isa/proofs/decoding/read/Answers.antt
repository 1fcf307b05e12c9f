use Rattle.std.proofs.Common.{None, ◌/◌, ◌∙◌, length, arith}
use Rattle.std.proofs.lemmas.Result.{err_from_is_err_and}
use Rattle.scx_isa_encoding.specs.Slots.{slots_in}
use Rattle.scx_isa.specs.Reading.{read_slots}
use Rattle.scx_isa.proofs.Loop.{goes_on, ends, is_done}
use Rattle.scx_isa.proofs.decoding.read.Goals as goal

pub returns-in_err-occupant : goal.returns-in_err-occupant
returns-in_err-occupant c =
    let p = err_from_is_err_and c.from_residual-in_err-occupant.result c.from_residual-in_err-occupant.ensures.1 in
    let fails = rw (c.slot_of.ensures, c.split_at.ensures.back) at c.in_err-occupant.ensures in
    rw (p.1, p.2) (ends c.in_err-occupant.field-0.0 c.loop-number.code.items (length c.args.bytes.now / 8) c.loop-number.number c.loop-number.due c.loop-number.rest.now (read_slots 0 None (slots_in (length c.args.bytes.now / 8) c.args.bytes.now)) c.loop-number-test.true c.loop-number.invariant.left fails c.loop-number.invariant.read)

pub push_reserved-requires : goal.push_reserved-requires
push_reserved-requires c = omega (arith, c.loop-number.invariant.count, c.loop-number.invariant.room, c.loop-number-test.true)

pub loop-number-preserved : goal.loop-number-preserved
loop-number-preserved c =
    let read = rw (c.slot_of.ensures, c.split_at.ensures.back) at c.in_ok-occupant.ensures in
    let more = goes_on c.loop-number.code.items (length c.args.bytes.now / 8) c.loop-number.number c.loop-number.due c.loop-number.rest.now c.in_ok-occupant.occupant (read_slots 0 None (slots_in (length c.args.bytes.now / 8) c.args.bytes.now)) c.loop-number-test.true c.loop-number.invariant.left read c.loop-number.invariant.read in
    record {
      read = rw (c.push_reserved.ensures.items, c.due_behind-due.ensures, c.split_at.ensures.back) more;
      left = omega arith;
      count = omega (arith, c.push_reserved.ensures.len, c.loop-number.invariant.count);
      room = c.push_reserved.ensures.capacity ∙ c.loop-number.invariant.room;
    }

pub returns : goal.returns
returns c = is_done c.loop-number.code.items (length c.args.bytes.now / 8) c.loop-number.number c.loop-number.due c.loop-number.rest.now _ c.loop-number-test.false c.loop-number.invariant.read
