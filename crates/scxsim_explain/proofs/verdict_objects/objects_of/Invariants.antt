use Rattle.std.proofs.Common.{◌≡◌, ◌++◌, drop}
use Rattle.scx_isa_semantics.specs.Callbacks.{callbacks}
use Rattle.scxsim_explain.specs.VerdictObjects.{objects_of, verdict_objects}
use Rattle.scxsim_explain.proofs.verdict_objects.objects_of.Given as goal

-- the objects so far, and those of the callbacks still to come, are all
abbrev pub invariant-loop-callback : goal.invariant-loop-callback
invariant-loop-callback l = l.lines.items ++ objects_of l.verdicts (drop l.callback-index callbacks) ≡ verdict_objects l.verdicts
