use Rattle.std.proofs.Common.{refl, arith}
use Rattle.scx_sched_tasks.proofs.Watching.{none_watched}
use Rattle.scx_sched_tasks.proofs.watch.Watch.new.Goals as goal

pub returns : goal.returns
returns c = λ n. none_watched _ 0xffff_ffff_ffff_ffff n (omega arith) refl
