use Rattle.std.proofs.Common.{◌≡◌, get_or, ap, ◌∙◌}
use Rattle.scx_isa_semantics.specs.Directories.{Directory, Array}
use Rattle.scx_isa_semantics.specs.Elements.{directory, elements}
use Rattle.scx_maps.specs.Words.{part_words}
use Rattle.scxsim_simulation.proofs.Places.{line_count}
use Rattle.scxsim_simulation.proofs.map_places.line_length.Goals as goal

pub returns-in-Queue : goal.returns-in-Queue
returns-in-Queue c =
    let d : Directory = directory c.args.maps.now c.args.map in
    let word : c.part_word.result ≡ get_or (part_words d) 1 0 = c.part_word.ensures ∙ ap (λ p. get_or (part_words (get_or c.args.maps.now.directories p Array)) 1 0) c.from-part.ensures in
    word ∙ line_count (elements c.args.maps.now c.args.map) d c.kind.result c.kind.ensures c.in-Queue.is
