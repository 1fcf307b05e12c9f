use Rattle.std.proofs.Common.{rules, ◌<◌, length}
use Rattle.scxsim_trace.specs.Lines.{names_of}
use Rattle.scxsim_explore_lines.specs.Found.{told_text}
use Rattle.scxsim_explore_lines.proofs.Written.{none_written, lines_more}
use Rattle.scxsim_explore.proofs.showing.write_lists.Goals as goal

pub loop-list-init : goal.loop-list-init
loop-list-init g c = record { alike = c.requires.alike; written = none_written _ _ }

pub loop-list-preserved : goal.loop-list-preserved
loop-list-preserved g c =
    let within : c.loop-list.list-index < length c.args.lists.now = search rules in
    record {
      alike = c.in_ok-write_list.ensures.alike;
      written = lines_more (told_text (names_of c.args.about.now) c.args.first.now c.args.mode) c.args.lists.now c.loop-list.list-index c.list-item.result _ _ _ _ _ _ within (search rules) c.loop-list.invariant.written c.in_ok-write_list.ensures.told c.in_ok-write_list.ensures.failures;
    }
