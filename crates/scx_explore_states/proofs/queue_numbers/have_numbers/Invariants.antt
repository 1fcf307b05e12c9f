use Rattle.std.proofs.Common.{take}
use Rattle.scx_explore_states.specs.Words.{HasNumbers}
use Rattle.scx_explore_states.proofs.queue_numbers.have_numbers.Given as goal

-- each of the others so far has a number
abbrev pub invariant-loop-at : goal.invariant-loop-at
invariant-loop-at l = HasNumbers l.ids (take l.at l.others)
