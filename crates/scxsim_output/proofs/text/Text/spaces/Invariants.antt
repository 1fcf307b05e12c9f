use Rattle.std.proofs.Common.{◌-◌, ◌≤◌, replicate}
use Rattle.scxsim_output.specs.Texts.{Puts}
use Rattle.scxsim_output.proofs.text.Text.spaces.Given as goal

abbrev pub invariant-loop-done : goal.invariant-loop-done
invariant-loop-done l = (l.done ≤ l.count) × Puts l.initial.self (replicate l.done 32) l.self

abbrev pub decreases-loop-done : goal.decreases-loop-done
decreases-loop-done l = l.count - l.done
