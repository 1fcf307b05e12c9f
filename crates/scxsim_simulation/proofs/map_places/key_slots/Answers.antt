use Rattle.std.proofs.Common.{◌≡◌, ◌/◌, length, get_or, ap, sym, ◌∙◌}
use Rattle.scx_isa_semantics.specs.Directories.{Directory, Array}
use Rattle.scx_isa_semantics.specs.Elements.{directory}
use Rattle.scx_maps.specs.Words.{part_words}
use Rattle.scxsim_simulation.proofs.Places.{slots_of_kind}
use Rattle.scxsim_simulation.proofs.map_places.key_slots.Goals as goal

pub returns-in-Hash : goal.returns-in-Hash
returns-in-Hash c =
    let d : Directory = directory c.args.maps.now c.args.map in
    let words : c.part_words.result ≡ length (part_words d) = c.part_words.ensures ∙ ap (λ p. length (part_words (get_or c.args.maps.now.directories p Array))) c.from-part.ensures in
    ap (λ n. n / 3) words ∙ slots_of_kind d _ (sym c.kind.ensures ∙ c.in-Hash.is)
