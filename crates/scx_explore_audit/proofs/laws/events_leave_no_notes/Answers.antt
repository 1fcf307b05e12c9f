use Rattle.scx_explore_findings.proofs.Between.{events_leave_no_notes}
use Rattle.scx_explore_findings.proofs.QueueWalk.{events_keep_queues_sound}
use Rattle.scx_explore_audit.proofs.laws.events_leave_no_notes.Goals as goal

pub returns-clause-notes : goal.returns-clause-notes
returns-clause-notes c = events_leave_no_notes

pub returns-clause-queues : goal.returns-clause-queues
returns-clause-queues c = events_keep_queues_sound
