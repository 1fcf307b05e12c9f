use Rattle.std.proofs.Common.{map, drop}
use Rattle.scx_isa_semantics.specs.Callbacks.{callbacks}
use Rattle.scxsim_explain.specs.Explained.{first_line}
use Rattle.scxsim_explain.proofs.Taking.{Leads}
use Rattle.scxsim_explain.proofs.explained.explain_programs.Given as goal

-- whatever verdicts the programs still to come get, the policy has all its verdicts then
abbrev pub invariant-loop-callback : goal.invariant-loop-callback
invariant-loop-callback l =
    Leads l.initial.policy (map first_line l.initial.programs.items) (drop l.callback-index callbacks) l.policy l.verdicts (map first_line l.programs.items)
