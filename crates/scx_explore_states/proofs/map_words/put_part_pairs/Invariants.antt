use Rattle.std.proofs.Common.{◌≡◌, ◌+◌, ◌++◌, length, take}
use Rattle.scx_maps.specs.Words.{parts_words}
use Rattle.scx_explore_states.specs.NotZero.{pairs_from}
use Rattle.scx_explore_states.proofs.map_words.put_part_pairs.Given as goal

-- the pairs of the maps so far come after the words that were there, and the place is that after them
abbrev pub invariant-loop-part : goal.invariant-loop-part
invariant-loop-part l = record {
  words : l.words.items ≡ l.initial.words.items ++ pairs_from l.first (parts_words (take l.part l.maps.directories));
  place : l.place ≡ l.first + length (parts_words (take l.part l.maps.directories));
}
