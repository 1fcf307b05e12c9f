use Rattle.std.proofs.Common.{◌≡◌, ◌-◌, ◌≤◌, length, take}
use Rattle.std.specs.Io.KnownBytes.{Appends}
use Rattle.scxsim_output.proofs.out.Out.write_short.Given as goal

abbrev pub invariant-loop-done : goal.invariant-loop-done
invariant-loop-done g l = record {
  within : l.done ≤ length l.bytes;
  written : Appends (g.Self.Out.contents l.initial.self) (g.Self.Out.contents l.self) (take l.done l.bytes);
  unfailed : g.Self.Out.failure_count l.self ≡ g.Self.Out.failure_count l.initial.self;
}

abbrev pub decreases-loop-done : goal.decreases-loop-done
decreases-loop-done g l = length l.bytes - l.done
