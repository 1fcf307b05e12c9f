use Rattle.std.proofs.Common.{◌≡◌, ◌++◌}
use Rattle.scx_explore_states.specs.Written.{timer_words}
use Rattle.scx_explore_states.proofs.written.put_timers.Given as goal

-- the words of the timers so far follow those that were there
abbrev pub invariant-loop-timer : goal.invariant-loop-timer
invariant-loop-timer l =
    l.words.items ≡ l.initial.words.items ++ timer_words l.sim.state.world l.timer
