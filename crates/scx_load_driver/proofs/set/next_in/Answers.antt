use Rattle.std.proofs.Common.{◌≡◌, ◌<◌, ◌+◌, ◌-◌, ◌*◌, ◌/◌, ◌%◌, ◌^◌, ℕ, min, get_or, refl, sym, subst, arith}
use Rattle.std.specs.Int.{w64, trailing_zeros}
use Rattle.std.specs.Int.Bits.{bit_and}
use Rattle.std.proofs.lemmas.Grind.{common_steps}
use Rattle.scx_load_driver.specs.Sets.{is_in, IsNext}
use Rattle.scx_load_driver.proofs.Sets.{next_behind, lowest_from}
use Rattle.scx_load_driver.proofs.set.next_in.Goals as goal

pub returns-then-rest-eq0 : goal.returns-then-rest-eq0
returns-then-rest-eq0 c = next_behind c.args.words.now c.args.from c.args.end c.next_from_word.result _ refl c.if-rest-eq0.true c.next_from_word.ensures

pub returns-else-rest-eq0 : goal.returns-else-rest-eq0
returns-else-rest-eq0 c =
    let words = c.args.words.now in
    let from = c.args.from in
    let rest : ℕ = bit_and (get_or words (from / 64) 0) ((2 ^ 64 - 1) * 2 ^ (from % 64) % 2 ^ 64) in
    let some : 0 < rest = omega (arith, c.if-rest-eq0.false) in
    let is : c.min.result ≡ min (from / 64 * 64 + trailing_zeros w64 rest) c.args.end = grind (arith, common_steps) in
    subst (λ n. IsNext (is_in words) from c.args.end n) (sym is) (lowest_from words from c.args.end rest refl some)
