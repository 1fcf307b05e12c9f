use Rattle.std.proofs.Common.{◌≡◌, ℕ, List, length, sym, ap, ◌∙◌, arith}
use Rattle.scx_maps.specs.Keeping.{directory_by}
use Rattle.scx_maps.specs.Words.{key_words, part_words}
use Rattle.scx_maps.proofs.PartWords.{length-key_words}
use Rattle.scx_maps.proofs.directory.Directory.words.Goals as goal

pub overflow_mul-result : goal.overflow_mul-result
overflow_mul-result c = record { fits = omega (arith, c.slots.ensures.few) }

pub overflow_add-result : goal.overflow_add-result
overflow_add-result c = record { fits = omega (arith, c.slots.ensures.few) }

pub returns-in-Hash : goal.returns-in-Hash
returns-in-Hash c =
    let keys = c.self.inside.keys in
    let part : part_words c.args.self.now ≡ key_words keys = ap part_words (sym c.self.view_is) ∙ ap (λ k. part_words (directory_by k c.self.inside.line keys)) c.in-Hash.is in
    omega (arith, c.slots.ensures.slots, length-key_words keys, ap (λ (ws : List ℕ). length ws) part)
