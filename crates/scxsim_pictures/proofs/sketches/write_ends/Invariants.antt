use Rattle.std.proofs.Common.{◌≡◌}
use Rattle.scxsim_pictures.specs.Sketching.{Grows}
use Rattle.scxsim_pictures.proofs.sketches.write_ends.Given as goal

abbrev pub invariant-loop-place : goal.invariant-loop-place
invariant-loop-place g l = record {
  grown : Grows (g.W.Out.contents l.initial.out) (g.W.Out.contents l.out);
  unfailed : g.W.Out.failure_count l.out ≡ g.W.Out.failure_count l.initial.out;
}
