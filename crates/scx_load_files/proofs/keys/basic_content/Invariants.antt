use Rattle.std.proofs.Common.{string_bytes, ◌≡◌, flat_map}
use Rattle.scx_load_files.specs.Keys.{escape}
use Rattle.scx_load_files.proofs.keys.basic_content.Given as goal

abbrev pub invariant-loop-c : goal.invariant-loop-c
invariant-loop-c l = string_bytes l.found ≡ flat_map escape l.yielded
