-- The wake-to-run latencies of a task: each from a wake to the first run after it.
use Rattle.std.specs.Prelude.{ℕ, ◌-◌, List, Option, Some, None, slice_index_or, slice_set}
use Rattle.scx_sched_world.specs.declared.notes.What.{What}
use Rattle.scx_sched_world.specs.declared.notes.What.TheVariants.{Wake, Run}
use Rattle.scxsim_views.specs.Lengths.{Lengths, no_lengths, with_length}
use Rattle.scxsim_statistics.specs.declared.latencies.LatencyFigures.{LatencyFigures}

-- the latencies of a task before a run: it hasn't woken
abbrev pub no_latencies : LatencyFigures
no_latencies = record { lengths = no_lengths; woke = None }

-- the latencies of the task of that number; those before a run where there is none
abbrev pub latencies_at : List LatencyFigures → ℕ → LatencyFigures
latencies_at xs t = slice_index_or xs t no_latencies

-- the task wakes at that clock, and hasn't run since
abbrev pub with_waking : ℕ → LatencyFigures → LatencyFigures
with_waking clock x = record x { woke = Some clock }

-- lengths with the latency that ends at that clock, if the task hasn't run since it woke
abbrev pub with_latency : Option ℕ → ℕ → Lengths → Lengths
with_latency None clock x = x
with_latency (Some woke) clock x = with_length woke (clock - woke) x

-- the task runs at that clock: if it hasn't run since it woke, a latency ends
abbrev pub with_first_run : ℕ → LatencyFigures → LatencyFigures
with_first_run clock x = record { lengths = with_latency x.woke clock x.lengths; woke = None }

-- the task of that number wakes at that clock, if it is there
abbrev pub waking_at : List LatencyFigures → ℕ → ℕ → List LatencyFigures
waking_at xs t clock = slice_set xs t (with_waking clock (latencies_at xs t))

-- that task runs at that clock, if it is there
abbrev pub first_run_at : List LatencyFigures → ℕ → ℕ → List LatencyFigures
first_run_at xs t clock = slice_set xs t (with_first_run clock (latencies_at xs t))

-- the latencies of all tasks after a note
abbrev pub latencies_noted : ℕ → What → List LatencyFigures → List LatencyFigures
latencies_noted clock (Wake t) xs = waking_at xs t clock
latencies_noted clock (Run t c) xs = first_run_at xs t clock
latencies_noted clock what xs = xs
