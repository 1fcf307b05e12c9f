use Rattle.std.proofs.Common.{◌≡◌, ◌++◌, take}
use Rattle.scx_load_driver.specs.Driver.{remaining}
use Rattle.scx_load_replay.proofs.workload_files.following.are_next.Given as goal

-- so many events of the list have come
abbrev pub invariant-loop-at : goal.invariant-loop-at
invariant-loop-at l = remaining l.fn.driver l.fn.sim ≡ take l.at l.events ++ remaining l.driver l.sim
