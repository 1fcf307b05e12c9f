use Rattle.std.proofs.Common.{◌≡◌, ℕ, ◌+◌, ◌-◌, ◌*◌, ◌<◌, length, get_or, sym, ap, ◌∙◌, arith, rules}
use Rattle.scx_maps.specs.Words.{key_words}
use Rattle.scx_maps.proofs.PartWords.{length-key_words, freed_word_there}
use Rattle.scx_maps.proofs.keys.Keys.word.Goals as goal

pub returns-else-place-slots-2 : goal.returns-else-place-slots-2
returns-else-place-slots-2 c =
    let keys = c.args.self.now in
    let slots : c.len-slots.result ≡ length keys.held = search rules in
    let j : ℕ = c.args.number - 1 - 2 * c.len-slots.result in
    let long = length-key_words keys in
    let below : j < length keys.held = omega (arith, slots, long, c.requires, c.if-number-eq0.false, c.if-place-slots-2.false) in
    let place : 1 + 2 * length keys.held + j ≡ c.args.number = omega (arith, slots, c.if-number-eq0.false, c.if-place-slots-2.false) in
    c.freed_word.ensures ∙ sym (freed_word_there keys j below) ∙ ap (λ i. get_or (key_words keys) i 0) place
