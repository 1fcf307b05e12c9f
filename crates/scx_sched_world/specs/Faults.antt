-- What can be wrong with a callback, each by its number.
use Rattle.std.specs.Prelude.{ℕ}
use Rattle.scx_sched_world.specs.declared.faults.Fault.{Fault}
use Rattle.scx_sched_world.specs.declared.faults.Fault.TheVariants.{Stuck, NoSuchQueue, CannotInsert, Mixed, BuiltinVtime, NoSuchCpu, UnknownFlag, CannotCreate, IdleUntracked, NotAllowed}

-- the number of a fault, by which traces and reports name it
abbrev pub fault_number : Fault → ℕ
fault_number Stuck = 0
fault_number NoSuchQueue = 1
fault_number CannotInsert = 2
fault_number Mixed = 3
fault_number BuiltinVtime = 4
fault_number NoSuchCpu = 5
fault_number UnknownFlag = 6
fault_number CannotCreate = 7
fault_number IdleUntracked = 8
fault_number NotAllowed = 9
