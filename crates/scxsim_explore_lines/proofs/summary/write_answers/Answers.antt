use Rattle.std.proofs.Common.{rules, ◌<◌, length}
use Rattle.scxsim_trace.specs.Lines.{names_of}
use Rattle.scxsim_explore_lines.specs.Summary.{answer_line}
use Rattle.scxsim_explore_lines.proofs.Written.{none_written, lines_more}
use Rattle.scxsim_explore_lines.proofs.summary.write_answers.Goals as goal

pub loop-told-init : goal.loop-told-init
loop-told-init g c = none_written _ _

pub loop-told-preserved : goal.loop-told-preserved
loop-told-preserved g c =
    let within : c.loop-told.told-index < length c.args.found.now = search rules in
    lines_more (answer_line (names_of c.args.about.now) c.args.mode) c.args.found.now c.loop-told.told-index c.told-item.result _ _ _ _ _ _ within (search rules) c.loop-told.invariant c.in_ok-write_answer.ensures.ok c.in_ok-write_answer.ensures.failures
