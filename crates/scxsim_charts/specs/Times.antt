-- The sums of time of a chart.
use Rattle.std.specs.Prelude.{ℕ, ◌+◌, ◌-◌, ◌*◌, ◌^◌, if◌then◌else◌, min, nat_lt, slice_index_or}
use Rattle.scxsim_charts.specs.declared.grids.Grid.{Grid}
use Rattle.scxsim_charts.specs.declared.rows.Rows.{Rows}
use Rattle.scxsim_charts.specs.declared.chart_sums.Chart.{Chart}

-- the time of that character of that row; none where there is no such character
abbrev pub time_at : Grid → ℕ → ℕ → ℕ
time_at g row cell =
    if nat_lt cell g.cells then slice_index_or g.times.items (row * g.cells + cell) 0 else 0

-- the row of the sums of a task on a CPU
abbrev pub row_on : Rows → ℕ → ℕ → ℕ
row_on r cpu task =
    if r.by_group then 0 else min (min (cpu * r.tasks) (2 ^ 64 - 1) + task) (2 ^ 64 - 1)

-- the time that a task ran on a CPU in a character
abbrev pub time_on : Chart → ℕ → ℕ → ℕ → ℕ
time_on c cpu cell task = time_at c.sums.cpus (row_on c.rows cpu task) cell
