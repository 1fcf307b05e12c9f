use Rattle.std.proofs.Common.{◌≡◌}
use Rattle.scx_load_replay.specs.Kept.{progress_of}
use Rattle.scx_load_replay.specs.Reading.{lines_in}
use Rattle.scx_load_replay.proofs.Passing.{left}
use Rattle.scx_load_replay.proofs.reading.read_lines.Given as goal

abbrev pub invariant-loop-index : goal.invariant-loop-index
invariant-loop-index l = left l.rules l.workload l.texts.items l.index (progress_of l.progress) ≡ lines_in l.rules l.workload l.text
