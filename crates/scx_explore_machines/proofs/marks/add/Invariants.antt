use Rattle.std.proofs.Common.{◌≤◌, length}
use Rattle.scx_explore_machines.proofs.marks.add.Given as goal

-- there are no fewer places than before
abbrev pub invariant-loop : goal.invariant-loop
invariant-loop l = length l.initial.numbers.items ≤ length l.numbers.items
