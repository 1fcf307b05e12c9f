use Rattle.std.specs.Prelude.{◌≡◌, ◌≢◌, ◌≤◌, All, length, take}
use Rattle.scx_explore_findings.specs.declared.finding.Sort.TheVariants as sort
use Rattle.scx_explore_bounds.specs.declared.bounds.Mode.TheVariants as mode
use Rattle.scxsim_explore.specs.Telling.{HasNone}
use Rattle.scxsim_explore.proofs.ending.gather_unfound.Given as goal

-- nothing was found of the sorts so far, and in lists of events none of them is a stall
abbrev pub invariant-loop-sort : goal.invariant-loop-sort
invariant-loop-sort l = record {
  within : l.count ≤ length l.places;
  none : All (HasNone l.found) (take l.count l.places);
  stalls : l.asked.mode ≡ mode.Events → All (λ x. x ≢ sort.Stall) (take l.count l.places);
}
