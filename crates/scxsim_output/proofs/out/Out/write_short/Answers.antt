use Rattle.std.proofs.Common.{arith, length, take, ◌≤◌, ◌-◌, length-drop}
use Rattle.std.proofs.lemmas.Grind.{common_steps}
use Rattle.std.proofs.lemmas.List.{take_rest}
use Rattle.scxsim_output.proofs.Growth.{grows_on}
use Rattle.scxsim_output.proofs.out.Out.write_short.Goals as goal

-- the bytes that this write took come right after those of the writes before it
pub loop-done-preserved : goal.loop-done-preserved
loop-done-preserved g c = record {
  within = let bound : c.in_ok-taken.taken ≤ length (take c.args.count c.args.text.now) - c.loop-done.done = simp (take_rest, length-drop) at c.in_ok-taken.ensures.bound in omega arith;
  written = grows_on _ _ _ (take c.args.count c.args.text.now) c.loop-done.done c.in_ok-taken.taken c.loop-done.invariant.written
      (rw take_rest at c.in_ok-taken.ensures.grows);
  unfailed = grind (arith, common_steps, c.in_ok-taken.ensures.worked);
}
