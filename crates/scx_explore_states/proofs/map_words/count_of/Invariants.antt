use Rattle.std.proofs.Common.{◌≡◌, ◌+◌, ◌/◌, length, take}
use Rattle.scx_maps.specs.Lending.{all_bytes}
use Rattle.scx_maps.specs.Words.{parts_words}
use Rattle.scx_explore_states.proofs.map_words.count_of.Given as goal

-- the words of bytes and of the maps so far are counted
abbrev pub invariant-loop-part : goal.invariant-loop-part
invariant-loop-part l =
    l.count ≡ (length (all_bytes l.maps) + 7) / 8 + length (parts_words (take l.part l.maps.directories))
