-- Which processors look for work as an event by Linux rules ends.
use Rattle.std.specs.Prelude.{ℕ, zero, suc, Bool, ◌==◌, ◌&&◌, ◌||◌, not, length, Option, None}
use Rattle.scx_sched_world.specs.CpuSets.{is_in_set}
use Rattle.scx_sched_world.specs.World.{WorldState, is_idle, this_if, or_this}
use Rattle.scx_sched_world.specs.Tasks.{local_len}

-- whether a task waits in the local queue of the processor
abbrev pub has_local : WorldState → ℕ → Bool
has_local w c = not (local_len w c == 0)

-- whether a processor is to look for work: it was kicked, or is idle with a task in its local queue
abbrev pub is_pending : WorldState → ℕ → Bool
is_pending w c = is_in_set w.kicked c || (is_idle w c && has_local w c)

-- the lowest pending one of the processors below that number
unfoldable pub pending_below : ℕ → WorldState → Option ℕ
pending_below zero w = None
pending_below (suc n) w = or_this (pending_below n w) (this_if (is_pending w n) n)

-- the lowest processor that is to look for work
abbrev pub first_pending : WorldState → Option ℕ
first_pending w = pending_below (length w.cpus) w
