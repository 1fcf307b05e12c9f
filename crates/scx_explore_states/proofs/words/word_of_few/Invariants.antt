use Rattle.std.proofs.Common.{◌≡◌, drop}
use Rattle.scx_explore_states.specs.Written.{word_from, word_of}
use Rattle.scx_explore_states.proofs.words.word_of_few.Given as goal

-- with the bytes that are left it becomes the number of all
abbrev pub invariant-loop-at : goal.invariant-loop-at
invariant-loop-at l = word_from l.word (drop l.at l.bytes) ≡ word_of l.bytes
