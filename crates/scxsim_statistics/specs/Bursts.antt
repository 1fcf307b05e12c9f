-- The bursts of a task: each from a wake, as its millisecond begins, to the next sleep, as its
-- millisecond ends.
use Rattle.std.specs.Prelude.{ℕ, ◌+◌, ◌-◌, ◌*◌, ◌/◌, ◌==◌, if◌then◌else◌, List, slice_index_or, slice_set}
use Rattle.scx_sched_world.specs.declared.notes.What.{What}
use Rattle.scx_sched_world.specs.declared.notes.What.TheVariants.{Wake, Sleep}
use Rattle.scxsim_views.specs.Lengths.{no_lengths, at_most_64_bits, with_length}
use Rattle.scxsim_statistics.specs.declared.bursts.BurstFigures.{BurstFigures}

-- the bursts of a task before a run
abbrev pub no_bursts : BurstFigures
no_bursts = record { lengths = no_lengths; woke = 0; ran = 0 }

-- the bursts of the task of that number; those before a run where there is none
abbrev pub bursts_at : List BurstFigures → ℕ → BurstFigures
bursts_at xs t = slice_index_or xs t no_bursts

-- from the clock of a wake to the end of the millisecond of a sleep
abbrev pub burst_ms : ℕ → ℕ → ℕ
burst_ms woke clock = at_most_64_bits (clock + 1) - woke

-- a burst begins at that clock
abbrev pub with_woke : ℕ → BurstFigures → BurstFigures
with_woke clock x = record x { woke = clock }

-- a burst ends with the millisecond of that clock
abbrev pub with_burst : ℕ → BurstFigures → BurstFigures
with_burst clock x = record x { lengths = with_length x.woke (burst_ms x.woke clock) x.lengths }

-- the task goes to sleep, and has run for so long
abbrev pub with_ran : ℕ → BurstFigures → BurstFigures
with_ran ms x = record x { ran = ms }

-- a burst of the task of that number begins at that clock, if it is there
abbrev pub woken_at : List BurstFigures → ℕ → ℕ → List BurstFigures
woken_at xs t clock = slice_set xs t (with_woke clock (bursts_at xs t))

-- a burst of that task ends with the millisecond of that clock, if it is there
abbrev pub ended_at : List BurstFigures → ℕ → ℕ → List BurstFigures
ended_at xs t clock = slice_set xs t (with_burst clock (bursts_at xs t))

-- that task, if it is there, goes to sleep, and has run for so long
abbrev pub slept_at : List BurstFigures → ℕ → ℕ → List BurstFigures
slept_at xs t ms = slice_set xs t (with_ran ms (bursts_at xs t))

-- the bursts of all tasks after a note
abbrev pub bursts_noted : ℕ → What → List BurstFigures → List BurstFigures
bursts_noted clock (Wake t) xs = woken_at xs t clock
bursts_noted clock (Sleep t) xs = ended_at xs t clock
bursts_noted clock what xs = xs

-- how many times as long as they ran its finished bursts took, in hundredths, rounded down; 0 where
-- nothing ran in them
abbrev pub slowdown : BurstFigures → ℕ
slowdown x = if x.ran == 0 then 0 else at_most_64_bits (x.lengths.total * 100) / x.ran
