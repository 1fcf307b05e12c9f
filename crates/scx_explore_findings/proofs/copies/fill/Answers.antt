use Rattle.scx_explore_findings.proofs.MachineCopies.{no_copies, one_copy}
use Rattle.scx_explore_findings.proofs.copies.fill.Goals as goal

pub loop-made-init : goal.loop-made-init
loop-made-init c = no_copies c.args.root.now c.args.sims.now.items c.requires

pub loop-made-preserved : goal.loop-made-preserved
loop-made-preserved c = one_copy c.args.root.now c.loop-made.made c.loop-made.sims.items _ c.loop-made.invariant c.in_ok-add_copy.ensures
