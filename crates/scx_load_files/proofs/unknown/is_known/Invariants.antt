use Rattle.std.proofs.Common.{◌≡◌, drop}
use Rattle.scx_load_files.specs.Unknown.{is_known, words}
use Rattle.scx_load_files.proofs.unknown.is_known.Given as goal

abbrev pub invariant-loop-name : goal.invariant-loop-name
invariant-loop-name l = is_known (words (drop l.name-index l.known)) l.key ≡ is_known (words l.known) l.key
