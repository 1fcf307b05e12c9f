-- The time of one row more in an area.
use Rattle.std.proofs.Common.{◌≡◌, ℕ, ◌+◌, ◌-◌, ◌^◌, refl, add-one}
use Rattle.std.specs.Prelude.{min}
use Rattle.scxsim_layout.specs.declared.grids.Grid.{Grid}
use Rattle.scxsim_layout.specs.Areas.{time_at, stacked}

-- the rows below a number, and that of the number
pub one_more : (row : ℕ) (g : Grid) (column : ℕ)
    → stacked (row + 1) g column ≡ min (stacked row g column + time_at g row column) (2 ^ 64 - 1)
one_more row g column = rw add-one refl
