-- The summary of the lists after a search and an audit. No public clause cites it.
use Rattle.std.specs.Prelude.{ℕ, ◌+◌, ◌-◌, ◌^◌, min, Bool, true, false, Option, Some, None, unwrap_or, Result, Ok, Err}
use Rattle.scx_explore_audit.specs.declared.table.Moves.{Moves}
use Rattle.scx_explore.specs.declared.course.End.{End}
use Rattle.scx_explore.specs.declared.course.End.TheVariants.{Ended, At, Full}
use Rattle.scxsim_explore_lines.specs.Summary.{Nones}

-- what is said after an audit with that answer, or without memory for one, if all lists of `done`
-- steps were searched
abbrev pub concluded : {E : Type 0} → Result Bool E → ℕ → Moves → Nones → Nones
concluded (Ok true) done moves n = record n { again = Some moves }
concluded (Ok false) done moves n = record n { reach = Some (unwrap_or n.reach done); again = None }
concluded (Err e) done moves n = record n { reach = Some (unwrap_or n.reach done); again = None }

-- the depth up to which all lists were searched; none if no depth has further states
abbrev pub reach_of : End → Option ℕ
reach_of Ended = None
reach_of (At depth) = Some depth
reach_of (Full depth) = Some depth

-- the depth that doesn't fit, if one doesn't
abbrev pub misfit_of : End → Option ℕ
misfit_of Ended = None
misfit_of (At depth) = None
misfit_of (Full depth) = Some (min (depth + 1) (2 ^ 64 - 1))
