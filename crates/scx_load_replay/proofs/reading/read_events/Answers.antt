use Rattle.scx_load_replay.specs.Kept.{progress_of}
use Rattle.scx_load_replay.proofs.Following.{lines_are_right}
use Rattle.scx_load_replay.proofs.reading.read_events.Goals as goal

pub invariant_of-result : goal.invariant_of-result
invariant_of-result c = lines_are_right c.args.rules c.args.workload c.args.text.now (progress_of c.in-Ok.field-0) c.is_whole.ensures c.in-Ok.ensures
