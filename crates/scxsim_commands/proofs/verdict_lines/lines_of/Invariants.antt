use Rattle.std.proofs.Common.{◌≡◌, ◌++◌, ◌*◌, ◌≤◌, drop}
use Rattle.arrayvec.specs.ArrayString.{array_string_len}
use Rattle.scx_isa_semantics.specs.Callbacks.{callbacks}
use Rattle.scxsim_commands.specs.VerdictLines.{lines_of, verdict_lines}
use Rattle.scxsim_commands.proofs.verdict_lines.lines_of.Given as goal

-- the lines so far, and those of the callbacks still to come, are all
abbrev pub invariant-loop-callback : goal.invariant-loop-callback
invariant-loop-callback l = record {
  bytes : l.lines.bytes ++ lines_of l.verdicts (drop l.callback-index callbacks) ≡ verdict_lines l.verdicts;
  room : array_string_len l.lines ≤ 128 * l.callback-index;
}
