use Rattle.std.proofs.Common.{◌≡◌, take, map}
use Rattle.scxsim_explain.specs.Explained.{first_line}
use Rattle.scxsim_explain.proofs.Listing.{HasListed}
use Rattle.scxsim_explain.proofs.writing.write_rest.Given as goal

abbrev pub invariant-loop-explained : goal.invariant-loop-explained
invariant-loop-explained g l = record {
  listed : HasListed (g.W.Out.contents l.initial.out) (g.W.Out.contents l.out) (map first_line (take l.explained-index l.programs));
  unfailed : g.W.Out.failure_count l.out ≡ g.W.Out.failure_count l.initial.out;
}
