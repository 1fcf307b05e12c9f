use Rattle.std.proofs.Common.{◌≡◌, ◌++◌, replicate}
use Rattle.scx_explore_states.proofs.map_words.fill.Given as goal

-- a zero for each turn comes after the words that were there
abbrev pub invariant-loop : goal.invariant-loop
invariant-loop l = l.words.items ≡ l.initial.words.items ++ replicate l.counter 0
