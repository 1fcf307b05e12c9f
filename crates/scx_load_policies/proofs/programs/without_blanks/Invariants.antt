use Rattle.std.proofs.Common.{◌≡◌, ◌++◌, drop}
use Rattle.scx_load_policies.specs.Programs.{without_blanks}
use Rattle.scx_load_policies.proofs.programs.without_blanks.Given as goal

abbrev pub invariant-loop-byte : goal.invariant-loop-byte
invariant-loop-byte l = l.bytes.items ++ without_blanks (drop l.byte-index l.text) ≡ without_blanks l.text
