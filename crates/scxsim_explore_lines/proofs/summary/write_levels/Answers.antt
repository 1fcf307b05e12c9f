use Rattle.std.proofs.Common.{rules, ◌<◌, length}
use Rattle.scxsim_explore_lines.specs.Summary.{kept_line}
use Rattle.scxsim_explore_lines.proofs.Written.{none_written, lines_more}
use Rattle.scxsim_explore_lines.proofs.summary.write_levels.Goals as goal

pub loop-level-init : goal.loop-level-init
loop-level-init g c = none_written _ _

pub loop-level-preserved : goal.loop-level-preserved
loop-level-preserved g c =
    let within : c.loop-level.level-index < length c.args.levels.now = search rules in
    lines_more (kept_line c.args.mode) c.args.levels.now c.loop-level.level-index _ _ _ _ _ _ _ within (search rules) c.loop-level.invariant c.in_ok-write_kept.ensures.ok c.in_ok-write_kept.ensures.failures
