use Rattle.scx_explore_findings.specs.Path.{SharesBeginning}
use Rattle.scx_explore_findings.proofs.path.common_beginning.Given as goal

-- both lists begin with those so far
abbrev pub invariant-loop-at : goal.invariant-loop-at
invariant-loop-at l = SharesBeginning l.at l.events l.others
