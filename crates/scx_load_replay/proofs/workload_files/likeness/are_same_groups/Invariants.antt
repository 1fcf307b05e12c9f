use Rattle.std.proofs.Common.{◌≡◌, take}
use Rattle.scx_load_replay.proofs.workload_files.likeness.are_same_groups.Given as goal

-- so many groups are the same
abbrev pub invariant-loop-at : goal.invariant-loop-at
invariant-loop-at l = take l.at l.groups ≡ take l.at l.others
