use Rattle.std.proofs.Common.{arith, length, ◌≤◌, ◌-◌, length-drop}
use Rattle.std.proofs.lemmas.Grind.{common_steps}
use Rattle.std.proofs.lemmas.List.{take_rest}
use Rattle.scxsim_output.proofs.Growth.{grows_on}
use Rattle.scxsim_output.proofs.out.write_front.Goals as goal

-- the bytes that this write took come right after those of the writes before it
pub loop-done-preserved : goal.loop-done-preserved
loop-done-preserved g c = record {
  within = let bound : c.in-Ok.count ≤ length c.args.bytes.now - c.loop-done.done = simp (take_rest, length-drop) at c.in-Ok.ensures.bound in omega arith;
  written = grows_on _ _ _ c.args.bytes.now c.loop-done.done c.in-Ok.count c.loop-done.invariant.written
      (rw take_rest at c.in-Ok.ensures.grows);
  unfailed = grind (arith, common_steps, c.in-Ok.ensures.worked);
}
