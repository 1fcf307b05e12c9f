use Rattle.std.proofs.Common.{◌≡◌, ◌+◌, ◌*◌, ◌/◌, ◌++◌, length}
use Rattle.std.specs.Prelude.{min}
use Rattle.scx_explore_states.specs.NotZero.{pairs_from}
use Rattle.scx_explore_states.specs.Written.{byte_words}
use Rattle.scx_explore_states.proofs.map_words.put_byte_pairs.Given as goal

-- the pairs of the blocks so far come after the words that were there
abbrev pub invariant-loop-block : goal.invariant-loop-block
invariant-loop-block l =
    l.words.items
    ≡ l.initial.words.items
    ++ pairs_from 0 (byte_words l.bytes (min (16 * l.block) ((length l.bytes + 7) / 8)))
