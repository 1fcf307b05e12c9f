use Rattle.std.proofs.Common.{◌≡◌}
use Rattle.scxsim_explain.specs.Listed.{Grows}
use Rattle.scxsim_explain.proofs.writing.write_listing.Given as goal

abbrev pub invariant-loop-slot : goal.invariant-loop-slot
invariant-loop-slot g l = record {
  grown : Grows (g.W.Out.contents l.initial.out) (g.W.Out.contents l.out);
  unfailed : g.W.Out.failure_count l.out ≡ g.W.Out.failure_count l.initial.out;
}
