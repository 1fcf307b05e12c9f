use Rattle.std.proofs.Common.{◌≡◌, ℕ, List, [], get_or, ap, sym, ◌∙◌, arith}
use Rattle.std.proofs.lemmas.List.{get_or_past}
use Rattle.scx_isa_semantics.specs.Directories.{Directory, Array}
use Rattle.scx_isa_semantics.specs.Elements.{directory, elements}
use Rattle.scx_maps.specs.Words.{part_words}
use Rattle.scxsim_simulation.proofs.Places.{listed_at}
use Rattle.scxsim_simulation.proofs.map_places.value_in_line.Goals as goal

pub returns-then-slots-eq0 : goal.returns-then-slots-eq0
returns-then-slots-eq0 c =
    let slots : List (List ℕ) = elements c.args.maps.now c.args.map in
    sym (listed_at slots (directory c.args.maps.now c.args.map) c.args.place c.requires.place ∙ get_or_past slots _ [] (omega (arith, c.requires.slots, c.if-slots-eq0.true)))

pub returns : goal.returns
returns c =
    let slots : List (List ℕ) = elements c.args.maps.now c.args.map in
    let d : Directory = directory c.args.maps.now c.args.map in
    let first : c.part_word-first.result ≡ get_or (part_words d) 0 0 = c.part_word-first.ensures ∙ ap (λ p. get_or (part_words (get_or c.args.maps.now.directories p Array)) 0 0) c.from.ensures in
    rw (c.from-2.ensures, c.from-3.ensures, c.from-4.ensures, first, c.requires.slots) at c.bytes_of.ensures ∙ sym (listed_at slots d c.args.place c.requires.place)
