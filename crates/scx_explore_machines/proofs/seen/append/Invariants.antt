use Rattle.std.proofs.Common.{◌≡◌, ◌≤◌, ◌++◌, length, take}
use Rattle.std.specs.Prelude.{vec_capacity}
use Rattle.scx_explore_machines.proofs.seen.append.Given as goal

-- the numbers so far come after those that were there, in the same room
abbrev pub invariant-loop-word : goal.invariant-loop-word
invariant-loop-word l =
    (l.words.items ≡ l.initial.words.items ++ take l.word-index l.state)
    × (vec_capacity l.words ≡ vec_capacity l.initial.words)
    × (l.word-index-end ≡ length l.state)
    × (l.word-index ≤ l.word-index-end)
