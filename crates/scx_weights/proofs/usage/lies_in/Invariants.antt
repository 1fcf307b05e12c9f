use Rattle.std.proofs.Common.{◌≡◌, ◌-◌, ◌==◌}
use Rattle.std.specs.List.{list_any}
use Rattle.scx_weights.specs.Hierarchy.{upward, path}
use Rattle.scx_weights.proofs.usage.lies_in.Given as goal

-- it is on the way as far as it is on what is left of it
abbrev pub invariant-loop-level : goal.invariant-loop-level
invariant-loop-level l = list_any (λ x. x == l.group) (path l.groups l.home) ≡ list_any (λ x. x == l.group) (upward l.groups (3 - l._level) l.at)
