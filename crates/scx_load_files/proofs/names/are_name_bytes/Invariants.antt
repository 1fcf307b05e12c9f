use Rattle.std.proofs.Common.{◌≡◌, drop}
use Rattle.scx_load_files.specs.Names.{are_name_bytes}
use Rattle.scx_load_files.proofs.names.are_name_bytes.Given as goal

abbrev pub invariant-loop-byte : goal.invariant-loop-byte
invariant-loop-byte l = are_name_bytes (drop l.byte-index l.bytes) ≡ are_name_bytes l.bytes
