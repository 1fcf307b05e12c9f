-- Half a word tells each part of a task's spot.
use Rattle.std.specs.Prelude.{◌≡◌, ◌<◌}
use Rattle.scx_explore_states.specs.declared.rows.Spot.{Spot}
use Rattle.scx_explore_states.specs.Rows.{spot_number}

-- the parts of a spot fit into their bits
pub record Fits (s : Spot) : Type 0 where
  pub place : s.place < 256
  pub prev_cpu : s.prev_cpu < 16
  pub ahead : s.ahead < 8

-- of two spots that are written as the same number each part is the same
pub record IsSame (s t : Spot) : Type 0 where
  pub wait : s.wait ≡ t.wait
  pub place : s.place ≡ t.place
  pub prev_cpu : s.prev_cpu ≡ t.prev_cpu
  pub ahead : s.ahead ≡ t.ahead
  pub by_vtime : s.by_vtime ≡ t.by_vtime

-- the number of a spot tells each of its parts
abbrev pub NumbersTell : Type 0
NumbersTell = (s t : Spot) → Fits s → Fits t → spot_number s ≡ spot_number t → IsSame s t
