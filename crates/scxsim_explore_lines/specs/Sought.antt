-- The faults that lists of events are asked about, and those that a summary speaks of.
use Rattle.std.specs.Prelude.{Bool, true, not, ◌||◌, List}
use Rattle.scx_sched_world.specs.declared.faults.Fault.{Fault}
use Rattle.scx_sched_world.specs.declared.faults.Fault.TheVariants.{Stuck, NoSuchQueue, CannotInsert, Mixed, BuiltinVtime, NoSuchCpu, UnknownFlag, CannotCreate, IdleUntracked, NotAllowed}
use Rattle.scx_explore_findings.specs.declared.finding.Sort.{Sort}
use Rattle.scx_explore_findings.specs.declared.finding.Sort.TheVariants as sort
use Rattle.scxsim_explore_lines.specs.Found.{ToldList}
use Rattle.scxsim_explore_lines.specs.Summary.{has_found, has_sort}

-- The lists are asked about the fault. No callback asks for idle CPUs in vain where the host tracks
-- them, and none names a CPU on which a task may not run where tasks aren't bound.
abbrev pub is_sought : Bool → Bool → Fault → Bool
is_sought tracks bound Stuck = true
is_sought tracks bound NoSuchQueue = true
is_sought tracks bound CannotInsert = true
is_sought tracks bound Mixed = true
is_sought tracks bound BuiltinVtime = true
is_sought tracks bound NoSuchCpu = true
is_sought tracks bound UnknownFlag = true
is_sought tracks bound CannotCreate = true
is_sought tracks bound IdleUntracked = not tracks
is_sought tracks bound NotAllowed = bound

-- a fault that the lists are asked about is one of these sorts or was found
abbrev pub is_answered : Bool → Bool → List ToldList → List Sort → Fault → Bool
is_answered tracks bound found sorts f =
    not (is_sought tracks bound f)
    || (has_sort sorts (sort.Fault f) || has_found found (sort.Fault f))
