use Rattle.std.proofs.Common.{◌≡◌, ◌++◌}
use Rattle.scx_explore_states.specs.Written.{used_words}
use Rattle.scx_explore_states.proofs.written.put_used.Given as goal

-- the words of the groups so far come after those that were there
abbrev pub invariant-loop-group : goal.invariant-loop-group
invariant-loop-group l =
    l.words.items ≡ l.initial.words.items ++ used_words l.sim.state.world.tree l.group
