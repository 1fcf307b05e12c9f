use Rattle.std.proofs.Common.{length}
use Rattle.scx_load_workloads.proofs.reading.read_weighed.Goals as goal

pub returns-in-Plain-clause-valid : goal.returns-in-Plain-clause-valid
returns-in-Plain-clause-valid c = c.read_group.ensures.valid (length c.args.tasks.now.homes)

pub returns-in-Some-clause-valid : goal.returns-in-Some-clause-valid
returns-in-Some-clause-valid c = c.read_task.ensures.valid (length c.args.groups.now.groups)

pub returns-in-None-clause-valid : goal.returns-in-None-clause-valid
returns-in-None-clause-valid c = c.read_group-in-None.ensures.valid (length c.args.tasks.now.homes)
