use Rattle.std.proofs.Common.{◌≡◌, ◌++◌}
use Rattle.scx_explore_states.specs.Written.{spot_words}
use Rattle.scx_explore_states.proofs.written.put_spots.Given as goal

-- the words of the pairs so far come after those that were there
abbrev pub invariant-loop-pair : goal.invariant-loop-pair
invariant-loop-pair l = l.words.items ≡ l.initial.words.items ++ spot_words l.rows l.order l.pair
