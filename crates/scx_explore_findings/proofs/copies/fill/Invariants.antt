use Rattle.scx_explore_findings.specs.Copies.{AreCopies}
use Rattle.scx_explore_findings.proofs.copies.fill.Given as goal

-- the machines so far are copies
abbrev pub invariant-loop-made : goal.invariant-loop-made
invariant-loop-made l = AreCopies l.root l.made l.sims.items
