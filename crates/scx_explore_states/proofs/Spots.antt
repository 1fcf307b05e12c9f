-- The number of a spot tells each of its parts.
use Rattle.std.proofs.Common.{◌+◌, ◌*◌, ◌<◌, ◌≡◌, Bool, true, false, refl, arith}
use Rattle.scx_explore_states.specs.Rows.{bit_of}
use Rattle.scx_explore_states.specs.Laws.{NumbersTell}

-- a bit is 0 or 1
pub bit_small : (b : Bool) → bit_of b < 2
bit_small true = omega arith
bit_small false = omega arith

-- and tells which
bits_tell : (b c : Bool) → bit_of b ≡ bit_of c → b ≡ c
bits_tell true true e = refl
bits_tell false false e = refl
bits_tell true false e = absurd (omega (arith, e))
bits_tell false true e = absurd (omega (arith, e))

-- the number of a spot tells each of its parts
pub numbers_tell : NumbersTell
numbers_tell s t f g e =
    let b : bit_of s.by_vtime < 2 = bit_small s.by_vtime in
    let c : bit_of t.by_vtime < 2 = bit_small t.by_vtime in
    let same : s.wait * 65536 + s.place * 256 + s.prev_cpu * 16 + s.ahead * 2 + bit_of s.by_vtime
    ≡ t.wait * 65536 + t.place * 256 + t.prev_cpu * 16 + t.ahead * 2 + bit_of t.by_vtime = e in
    record {
      wait = omega (arith, same, b, c, f.place, f.prev_cpu, f.ahead, g.place, g.prev_cpu, g.ahead);
      place = omega (arith, same, b, c, f.place, f.prev_cpu, f.ahead, g.place, g.prev_cpu, g.ahead);
      prev_cpu = omega (arith, same, b, c, f.place, f.prev_cpu, f.ahead, g.place, g.prev_cpu, g.ahead);
      ahead = omega (arith, same, b, c, f.place, f.prev_cpu, f.ahead, g.place, g.prev_cpu, g.ahead);
      by_vtime = bits_tell s.by_vtime t.by_vtime
          (omega (arith, same, b, c, f.place, f.prev_cpu, f.ahead, g.place, g.prev_cpu, g.ahead));
    }
