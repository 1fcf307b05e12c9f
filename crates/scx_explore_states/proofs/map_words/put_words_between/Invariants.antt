use Rattle.std.proofs.Common.{◌≡◌, ℕ, List, ◌++◌}
use Rattle.scx_explore_states.specs.NotZero.{pairs_from}
use Rattle.scx_explore_states.specs.Written.{byte_words}
use Rattle.scx_explore_states.proofs.map_words.put_words_between.Given as goal

-- the pairs of the words so far come after what was there before them
abbrev pub invariant-loop-at : goal.invariant-loop-at
invariant-loop-at l =
    (before : List ℕ)
    → l.initial.words.items ≡ before ++ pairs_from 0 (byte_words l.bytes l.from)
    → l.words.items ≡ before ++ pairs_from 0 (byte_words l.bytes l.at)
