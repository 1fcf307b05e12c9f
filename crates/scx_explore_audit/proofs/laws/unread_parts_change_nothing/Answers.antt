use Rattle.scx_explore_findings.proofs.DelayedMachines.{events_dont_tell_times}
use Rattle.scx_explore_findings.proofs.GivenSlices.{such_programs_give_slices}
use Rattle.scx_explore_findings.proofs.Machines.{events_tell_no_idle_slices}
use Rattle.scx_explore_findings.proofs.SameMachines.{events_read_no_such_part, lists_read_no_such_part}
use Rattle.scx_explore_findings.proofs.SameShown.{such_parts_show_nothing}
use Rattle.scx_explore_audit.proofs.laws.unread_parts_change_nothing.Goals as goal

pub returns-clause-event : goal.returns-clause-event
returns-clause-event c = events_read_no_such_part

pub returns-clause-list : goal.returns-clause-list
returns-clause-list c = lists_read_no_such_part

pub returns-clause-shown : goal.returns-clause-shown
returns-clause-shown c = such_parts_show_nothing

pub returns-clause-times : goal.returns-clause-times
returns-clause-times c = events_dont_tell_times

pub returns-clause-slices : goal.returns-clause-slices
returns-clause-slices c s t e tells same = events_tell_no_idle_slices s t e tells same

pub returns-clause-given : goal.returns-clause-given
returns-clause-given c = such_programs_give_slices
