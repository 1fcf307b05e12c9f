use Rattle.std.proofs.Common.{rules, ◌≡◌, ◌+◌, ◌&&◌, ◌||◌, nat_le, nat_lt, length, ap, ◌∙◌, arith}
use Rattle.std.proofs.lemmas.Grind.{common_steps}
use Rattle.scx_abs.specs.Cells.{is_written}
use Rattle.scx_abs.proofs.Sets.{each_byte_from, marked_none, marked_more}
use Rattle.scx_abs.proofs.kinds.marked.Goals as goal

pub loop-byte-init : goal.loop-byte-init
loop-byte-init c =
    let long : length c.args.set ≡ 8 = first_of (search rules, grind (arith, common_steps)) in
    record { long = long; so_far = λ k. marked_none c.args.set c.args.first k }

pub loop-byte-preserved : goal.loop-byte-preserved
loop-byte-preserved c = record {
  long = first_of (search rules, grind (arith, common_steps));
  so_far = marked_more c.loop-byte.marked c.args.set c.args.first c.loop-byte.byte (omega (arith, c.loop-byte-test.true, c.requires, c.loop-byte.invariant.long)) c.loop-byte.auto.byte c.loop-byte.invariant.so_far;
}

pub returns : goal.returns
returns c =
    let end : c.loop-byte.byte ≡ c.args.first + c.args.count = omega (arith, c.loop-byte-test.false, c.loop-byte.auto.byte-end (omega arith)) in
    each_byte_from c.loop-byte.marked (λ k. is_written c.args.set k || (nat_le c.args.first k && nat_lt k (c.args.first + c.args.count))) c.loop-byte.invariant.long
    (λ k lt. c.loop-byte.invariant.so_far k ∙ ap (λ e. is_written c.args.set k || (nat_le c.args.first k && nat_lt k e)) end)
