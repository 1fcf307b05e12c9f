use Rattle.std.proofs.Common.{◌≡◌, ◌++◌, take}
use Rattle.scx_maps.specs.Words.{parts_words}
use Rattle.scx_explore_states.proofs.map_words.put_parts.Given as goal

-- the words of the maps so far come after those that were there
abbrev pub invariant-loop-part : goal.invariant-loop-part
invariant-loop-part l =
    l.words.items ≡ l.initial.words.items ++ parts_words (take l.part l.maps.directories)
