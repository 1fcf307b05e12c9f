use Rattle.std.specs.Prelude.{take}
use Rattle.scxsim_trace.specs.Lines.{names_of}
use Rattle.scxsim_explore_lines.specs.Summary.{answer_lines}
use Rattle.scxsim_explore_lines.proofs.Written.{AreWritten}
use Rattle.scxsim_explore_lines.proofs.summary.write_answers.Given as goal

-- the lines so far
abbrev pub invariant-loop-told : goal.invariant-loop-told
invariant-loop-told g l = AreWritten (answer_lines (names_of l.about) l.mode (take l.told-index l.found)) (g.W.Out.contents l.initial.out) (g.W.Out.contents l.out) (g.W.Out.failure_count l.initial.out) (g.W.Out.failure_count l.out)
