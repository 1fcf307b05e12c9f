use Rattle.std.specs.Prelude.{take, flat_map}
use Rattle.scxsim_explore_lines.specs.Summary.{kept_line}
use Rattle.scxsim_explore_lines.proofs.Written.{AreWritten}
use Rattle.scxsim_explore_lines.proofs.summary.write_levels.Given as goal

-- the lines so far
abbrev pub invariant-loop-level : goal.invariant-loop-level
invariant-loop-level g l = AreWritten (flat_map (kept_line l.mode) (take l.level-index l.levels)) (g.W.Out.contents l.initial.out) (g.W.Out.contents l.out) (g.W.Out.failure_count l.initial.out) (g.W.Out.failure_count l.out)
