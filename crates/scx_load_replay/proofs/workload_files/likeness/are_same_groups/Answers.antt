use Rattle.scx_load_replay.proofs.SameParts.{same_more}
use Rattle.scx_load_replay.proofs.workload_files.likeness.are_same_groups.Goals as goal

pub loop-at-preserved : goal.loop-at-preserved
loop-at-preserved c =
    same_more c.args.groups.now c.args.others.now c.loop-at.at (c.are_same_at.ensures.first c.if-not-are_same_at.false) (c.are_same_at.ensures.second c.if-not-are_same_at.false) (c.are_same_at.ensures.same c.if-not-are_same_at.false) c.loop-at.invariant
