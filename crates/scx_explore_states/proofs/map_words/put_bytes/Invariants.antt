use Rattle.std.proofs.Common.{◌≡◌, ◌++◌}
use Rattle.scx_explore_states.specs.Written.{byte_words}
use Rattle.scx_explore_states.proofs.map_words.put_bytes.Given as goal

-- the words of the bytes so far come after those that were there
abbrev pub invariant-loop-at : goal.invariant-loop-at
invariant-loop-at l = l.words.items ≡ l.initial.words.items ++ byte_words l.bytes l.at
