use Rattle.std.proofs.Common.{◌≡◌, ◌*◌, ◌/◌, ◌%◌, ◌^◌, false, length, set, get_or, sym, ap, ◌∙◌, arith}
use Rattle.std.specs.Int.{w64, bit_not}
use Rattle.std.specs.Int.Bits.{bit_and}
use Rattle.std.proofs.lemmas.List.{set_past, get_or_read}
use Rattle.scx_load_driver.specs.Sets.{members}
use Rattle.scx_load_driver.proofs.Sets.{length_members, removed}
use Rattle.scx_load_driver.proofs.set.NumberSet.remove.Goals as goal

pub returns-then-number-self : goal.returns-then-number-self
returns-then-number-self c =
    let inside = c.self.inside in
    let n = c.args.number in
    let word : c.index-word.result.now ≡ get_or inside.words.items (n / 64) 0 = get_or_read inside.words.items (n / 64) c.index-word.result.now (omega (arith, c.if-number-self.true, c.self.invariant.enough)) c.index-word.ensures 0 in
    ap (λ w. members inside.limit (set inside.words.items (n / 64) (bit_and w (bit_not w64 (1 * 2 ^ (n % 64) % 2 ^ 64))))) word
    ∙ removed inside.limit n inside.words.items (omega (arith, c.if-number-self.true)) c.self.invariant.enough
    ∙ ap (λ xs. set xs n false) c.self.view_is

pub returns-else-number-self : goal.returns-else-number-self
returns-else-number-self c =
    let n = c.args.number in
    sym (set_past c.args.self.now n false (omega (arith, c.if-number-self.false, ap length c.self.view_is, length_members c.self.inside.limit c.self.inside.words.items)))
