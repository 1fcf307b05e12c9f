use Rattle.std.specs.Prelude.{◌≡◌, ◌+◌, ◌≤◌, true, drop}
use Rattle.scxsim_explore_lines.specs.Found.{ms_begun}
use Rattle.scxsim_explore_lines.proofs.lengths.ms_begun.Given as goal

-- those that are counted, and those of the rest, are all
abbrev pub invariant-loop-event : goal.invariant-loop-event
invariant-loop-event l = record {
  counted : l.count + ms_begun (drop l.event-index l.events) l.is_first ≡ ms_begun l.events true;
  within : l.count ≤ l.event-index;
}
