use Rattle.std.proofs.Common.{◌≡◌, None, ◌*◌, ◌-◌, length}
use Rattle.std.specs.Vec.{vec_len, vec_capacity}
use Rattle.scx_isa_encoding.specs.Slots.{slots_in}
use Rattle.scx_isa.specs.Reading.{read_slots}
use Rattle.scx_isa.proofs.Loop.{with_front, rest_of}
use Rattle.scx_isa.proofs.decoding.read.Given as goal

abbrev pub invariant-loop-number : goal.invariant-loop-number
invariant-loop-number l = record {
  read : with_front l.code.items (rest_of l.slots l.number l.due l.rest) ≡ read_slots 0 None (slots_in l.slots l.bytes);
  left : length l.rest ≡ 8 * (l.slots - l.number);
  count : vec_len l.code ≡ l.number;
  room : vec_capacity l.code ≡ l.slots;
}
