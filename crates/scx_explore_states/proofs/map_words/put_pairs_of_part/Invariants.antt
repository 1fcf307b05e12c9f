use Rattle.std.proofs.Common.{◌≡◌, ◌++◌, take, slice_index_or}
use Rattle.scx_isa_semantics.specs.Directories.{Array}
use Rattle.scx_maps.specs.Words.{part_words}
use Rattle.scx_explore_states.specs.NotZero.{pairs_from}
use Rattle.scx_explore_states.proofs.map_words.put_pairs_of_part.Given as goal

-- the pairs of the words so far come after the words that were there
abbrev pub invariant-loop-word : goal.invariant-loop-word
invariant-loop-word l =
    l.words.items
    ≡ l.initial.words.items
    ++ pairs_from l.place (take l.word (part_words (slice_index_or l.maps.directories l.part Array)))
