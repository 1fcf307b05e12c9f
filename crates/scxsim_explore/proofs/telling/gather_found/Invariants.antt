use Rattle.std.specs.Prelude.{◌≡◌, All}
use Rattle.scxsim_explore.specs.Lists.{IsKept}
use Rattle.scxsim_explore.proofs.telling.gather_found.Given as goal

-- the lists so far are kept, and the machine stays
abbrev pub invariant-loop-place : goal.invariant-loop-place
invariant-loop-place l = record {
  same : l.begun.machines ≡ l.initial.begun.machines;
  kept : All (IsKept l.mode l.about l.initial.begun.machines) l.lists.items;
}
