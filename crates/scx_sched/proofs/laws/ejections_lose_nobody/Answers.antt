use Rattle.scx_sched.proofs.Going.{loses_nobody}
use Rattle.scx_sched.proofs.laws.ejections_lose_nobody.Goals as goal

pub returns : goal.returns
returns c = loses_nobody
