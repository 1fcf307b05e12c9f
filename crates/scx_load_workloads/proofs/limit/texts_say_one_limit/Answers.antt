use Rattle.scx_load_workloads.proofs.Limits.{texts_say_one_limit_lem}
use Rattle.scx_load_workloads.proofs.limit.texts_say_one_limit.Goals as goal

pub returns : goal.returns
returns c = texts_say_one_limit_lem
