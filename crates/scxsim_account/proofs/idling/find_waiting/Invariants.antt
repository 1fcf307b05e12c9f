use Rattle.std.proofs.Common.{◌≡◌}
use Rattle.scxsim_account.specs.Idling.{waiting_below}
use Rattle.scxsim_account.proofs.idling.find_waiting.Given as goal

abbrev pub invariant-loop-cpu : goal.invariant-loop-cpu
invariant-loop-cpu l = l.waiting.items ≡ waiting_below l.cpu l.world l.pauses l.initial.waiting.items
