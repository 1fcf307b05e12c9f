-- The meaning of a path's fields. No public clause cites it.
use Rattle.std.specs.Prelude.{◌≤◌, length, All, vec_capacity}
use Rattle.scx_explore_findings.specs.declared.path.Path.TheInside.{Inside}
use Rattle.scx_explore_findings.specs.Path.{PathState, IsAs, IsAlong}

-- the path that the fields mean
abbrev pub path_of : Inside → PathState
path_of i = record { root = i.root; events = i.events.items; room = length i.sims.items }

-- what always holds of the fields of a path
pub record IsKept (i : Inside) : Type 0 where
  pub along : IsAlong i.root i.events.items i.sims.items
  pub alike : All (IsAs i.root) i.sims.items
  pub room : length i.sims.items ≤ vec_capacity i.events
