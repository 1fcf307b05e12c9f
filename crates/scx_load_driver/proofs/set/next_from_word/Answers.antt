use Rattle.std.proofs.Common.{rules, ◌≡◌, ◌<◌, ◌+◌, ◌*◌, ◌^◌, min, get_or, sym, subst, arith}
use Rattle.std.specs.Int.{w64, trailing_zeros}
use Rattle.std.proofs.lemmas.Grind.{common_steps}
use Rattle.scx_load_driver.specs.Sets.{is_in, IsNext}
use Rattle.scx_load_driver.proofs.Sets.{next_in_word}
use Rattle.scx_load_driver.proofs.set.next_from_word.Goals as goal

pub loop-word-init : goal.loop-word-init
loop-word-init c = record { first = omega arith; few = c.requires.first; none = λ n l m. absurd (omega (arith, l, m)) }

pub returns-then-words-word-ne0 : goal.returns-then-words-word-ne0
returns-then-words-word-ne0 c =
    let words = c.args.words.now in
    let k = c.loop-word.word in
    let inv = c.loop-word.invariant in
    let some : 0 < get_or words k 0 = (search rules) in
    let fits : get_or words k 0 < 2 ^ 64 = (search rules) in
    let is : c.min.result ≡ min (k * 64 + trailing_zeros w64 (get_or words k 0)) c.args.end = grind (arith, common_steps) in
    subst (λ n. IsNext (is_in words) (64 * c.args.first) c.args.end n) (sym is) (next_in_word words c.args.first k c.args.end inv.first inv.none some fits)
