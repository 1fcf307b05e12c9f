use Rattle.std.proofs.Common.{◌≡◌, ◌++◌, take, slice_index_or}
use Rattle.scx_isa_semantics.specs.Directories.{Array}
use Rattle.scx_maps.specs.Words.{part_words}
use Rattle.scx_explore_states.proofs.map_words.put_part.Given as goal

-- the words of the map so far come after those that were there
abbrev pub invariant-loop-number : goal.invariant-loop-number
invariant-loop-number l =
    l.words.items
    ≡ l.initial.words.items
    ++ take l.number (part_words (slice_index_or l.maps.directories l.part Array))
