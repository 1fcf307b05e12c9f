-- The meaning of the fields of the lines that were read so far.
use Rattle.scx_load_replay.specs.declared.progress.Progress.{Progress}
use Rattle.scx_load_replay.specs.Lines.{ProgressState}

-- the lines that the fields mean
abbrev pub progress_of : Progress → ProgressState
progress_of p =
    record { lines = p.lines.items; awake = p.awake.items; at = p.at; block = p.block }
