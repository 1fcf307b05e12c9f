use Rattle.std.proofs.Common.{rules}
use Rattle.scxsim_explain.proofs.Listing.{grown_more}
use Rattle.scxsim_explain.proofs.writing.write_listing.Goals as goal

pub loop-slot-preserved : goal.loop-slot-preserved
loop-slot-preserved g c = record {
  grown = grown_more _ _ _ _ c.loop-slot.invariant.grown c.in_ok-write_all.ensures.ok;
  unfailed = search rules;
}
