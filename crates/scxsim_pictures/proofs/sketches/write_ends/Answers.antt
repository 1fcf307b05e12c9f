use Rattle.std.proofs.Common.{rules}
use Rattle.scxsim_pictures.proofs.Growing.{grown_by, grown_twice, grown_further}
use Rattle.scxsim_pictures.proofs.sketches.write_ends.Goals as goal

pub loop-place-preserved : goal.loop-place-preserved
loop-place-preserved g c = record {
  grown = grown_twice _ _ _ c.loop-place.invariant.grown (grown_by _ _ _ c.in_ok-write.ensures.ok);
  unfailed = search rules;
}

pub returns-clause-ok : goal.returns-clause-ok
returns-clause-ok g c =
    grown_further c.write-2.result _ _ _ _ c.loop-place.invariant.grown c.write-2.ensures.ok
