-- The milliseconds that CPUs lost: they were idle while a task waited that may run there.
use Rattle.std.specs.Prelude.{ℕ, zero, suc, ◌+◌, ◌==◌, ◌&&◌, ◌||◌, if◌then◌else◌, nat_lt, Bool, true, false, List, length, is_none, slice_index_or, slice_set}
use Rattle.std.specs.List.{list_any}
use Rattle.scx_sched_world.specs.World.{WorldState, binds, may_run, running}
use Rattle.scxsim_views.specs.declared.pauses.Doing.{Doing}
use Rattle.scxsim_views.specs.Pauses.{waits, doing_at}
use Rattle.scxsim_views.specs.Lengths.{up}

-- the CPU is there, and is idle
abbrev pub is_cpu_idle : WorldState → ℕ → Bool
is_cpu_idle w c = nat_lt c (length w.cpus) && is_none (running w c)

-- one of that many tasks, from this one on, waits and may run on that CPU
abbrev pub bound_waits : WorldState → ℕ → ℕ → ℕ → List Doing → Bool
bound_waits w c zero t ds = false
bound_waits w c (suc n) t ds =
    (waits (doing_at ds t) && may_run w t c) || bound_waits w c n (t + 1) ds

-- while a task waits, one does that may run on that CPU: any where no task is bound to CPUs
abbrev pub has_work : WorldState → ℕ → List Doing → Bool
has_work w c ds = if binds w then bound_waits w c (length w.tasks) 0 ds else true

-- while a task waits, one does that may run on that CPU, which is idle
abbrev pub is_wasted : WorldState → ℕ → List Doing → Bool
is_wasted w c ds = is_cpu_idle w c && has_work w c ds

-- such is some CPU below that number
abbrev pub wasted_below : ℕ → WorldState → List Doing → Bool
wasted_below zero w ds = false
wasted_below (suc c) w ds = wasted_below c w ds || is_wasted w c ds

-- how much the processor of that number lost; 0 where there is none
abbrev pub lost_at : List ℕ → ℕ → ℕ
lost_at xs c = slice_index_or xs c 0

-- one millisecond more that this processor lost, if it is there
abbrev pub one_lost : List ℕ → ℕ → List ℕ
one_lost xs c = slice_set xs c (up (lost_at xs c))

-- one more of each CPU below that number that is wasted
abbrev pub lost_below : ℕ → WorldState → List Doing → List ℕ → List ℕ
lost_below zero w ds xs = xs
lost_below (suc c) w ds xs =
    if is_wasted w c ds then one_lost (lost_below c w ds xs) c else lost_below c w ds xs

-- with a tick of that processor the ticks of a millisecond begin, and a task waits
abbrev pub loses : ℕ → List Doing → Bool
loses c ds = (c == 0) && list_any waits ds

-- what each processor lost, with that millisecond if it is one in which a task waits
abbrev pub lost_if : Bool → WorldState → List Doing → List ℕ → List ℕ
lost_if true w ds xs = lost_below (length w.cpus) w ds xs
lost_if false w ds xs = xs

-- in how many milliseconds some processor lost one, with that one if a task waits in it
abbrev pub anywhere_if : Bool → WorldState → List Doing → ℕ → ℕ
anywhere_if waiting w ds n = if waiting && wasted_below (length w.cpus) w ds then up n else n
