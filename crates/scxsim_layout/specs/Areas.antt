-- The heights of an area: in each column, times of several rows one upon the other.
use Rattle.std.specs.Prelude.{ℕ, zero, suc, ◌+◌, ◌-◌, ◌*◌, ◌/◌, ◌^◌, if◌then◌else◌, min, max, nat_lt, slice_index_or}
use Rattle.scxsim_layout.specs.declared.grids.Grid.{Grid}

-- the time of a row in a column; none where there is no such column
abbrev pub time_at : Grid → ℕ → ℕ → ℕ
time_at g row column =
    if nat_lt column g.columns then slice_index_or g.sums.items (row * g.columns + column) 0 else 0

-- the time in a column of all rows below that number, at most 64 bits
abbrev pub stacked : ℕ → Grid → ℕ → ℕ
stacked zero g column = 0
stacked (suc row) g column = min (stacked row g column + time_at g row column) (2 ^ 64 - 1)

-- the height of some time, where `full` milliseconds are as high as `tall`
abbrev pub height_of : ℕ → ℕ → ℕ → ℕ
height_of time full tall = min (min (time * tall) (2 ^ 64 - 1) / max full 1) tall
