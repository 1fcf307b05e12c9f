use Rattle.std.proofs.Common.{◌≡◌, ◌≢◌, ℕ, ◌+◌, ◌/◌, length, get_or, Some, None, ap, sym, ◌∙◌, arith}
use Rattle.scx_isa_semantics.specs.Directories.{Directory, Array}
use Rattle.scx_isa_semantics.specs.Elements.{directory}
use Rattle.scx_maps.specs.Words.{part_words, held_word, key_word}
use Rattle.scxsim_simulation.specs.MapLines.{held_in}
use Rattle.scxsim_simulation.proofs.Places.{hash_slots, held_there, key_there, holds_none, holds_key}
use Rattle.scxsim_simulation.proofs.map_places.held_key.Goals as goal

pub returns-then-part_word-eq0 : goal.returns-then-part_word-eq0
returns-then-part_word-eq0 c =
    let d : Directory = directory c.args.maps.now c.args.map in
    let s : ℕ = c.args.slot in
    let word : c.part_word.result ≡ get_or (part_words d) (1 + s) 0 = c.part_word.ensures ∙ ap (λ p. get_or (part_words (get_or c.args.maps.now.directories p Array)) (1 + s) 0) c.from-part.ensures in
    sym (holds_none (get_or (held_in d) s None) (sym (held_there d s c.requires) ∙ sym word ∙ c.if-part_word-eq0.true))

pub returns : goal.returns
returns c =
    let d : Directory = directory c.args.maps.now c.args.map in
    let s : ℕ = c.args.slot in
    let word : c.part_word.result ≡ get_or (part_words d) (1 + s) 0 = c.part_word.ensures ∙ ap (λ p. get_or (part_words (get_or c.args.maps.now.directories p Array)) (1 + s) 0) c.from-part.ensures in
    let not : held_word (get_or (held_in d) s None) ≢ 0 = λ e. c.if-part_word-eq0.false (word ∙ held_there d s c.requires ∙ e) in
    let words : c.part_words-slots.result ≡ length (part_words d) = c.part_words-slots.ensures ∙ ap (λ p. length (part_words (get_or c.args.maps.now.directories p Array))) c.from-part.ensures in
    let place : 1 + c.part_words-slots.result / 3 + s ≡ 1 + length (held_in d) + s = omega (arith, words, hash_slots d s c.requires) in
    let key : c.part_word-2.result ≡ key_word (get_or (held_in d) s None) =
    c.part_word-2.ensures ∙ ap (λ p. get_or (part_words (get_or c.args.maps.now.directories p Array)) (1 + c.part_words-slots.result / 3 + s) 0) c.from-part.ensures
    ∙ ap (λ i. get_or (part_words d) i 0) place ∙ key_there d s c.requires in
    ap Some key ∙ sym (holds_key (get_or (held_in d) s None) not)
