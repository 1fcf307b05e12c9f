use Rattle.scx_dsq.proofs.After.{behind_is_known}
use Rattle.scx_dsq.proofs.queues.Queues.next_after.Goals as goal

pub returns-in-Some-clause-known : goal.returns-in-Some-clause-known
returns-in-Some-clause-known c = behind_is_known c.args.self.now.state c.args.task c.next_after_entry.result c.next_after_entry.ensures
