-- Each of the ten faults.
use Rattle.std.proofs.Common.{List, [], ◌∷◌, arith}
use Rattle.std.specs.Prelude.{All}
use Rattle.scx_sched_world.specs.declared.faults.Fault.{Fault}
use Rattle.scx_sched_world.specs.declared.faults.Fault.TheVariants.{Stuck, NoSuchQueue, CannotInsert, Mixed, BuiltinVtime, NoSuchCpu, UnknownFlag, CannotCreate, IdleUntracked, NotAllowed}

-- the faults, by their numbers
abbrev pub ten_faults : List Fault
ten_faults = Stuck ∷ NoSuchQueue ∷ CannotInsert ∷ Mixed ∷ BuiltinVtime ∷ NoSuchCpu ∷ UnknownFlag ∷ CannotCreate ∷ IdleUntracked ∷ NotAllowed ∷ []

-- what holds of the ten faults holds of each
pub of_each_fault : (P : Fault → Type 0) → All P ten_faults → (f : Fault) → P f
of_each_fault P all Stuck = all 0 Stuck (omega arith)
of_each_fault P all NoSuchQueue = all 1 Stuck (omega arith)
of_each_fault P all CannotInsert = all 2 Stuck (omega arith)
of_each_fault P all Mixed = all 3 Stuck (omega arith)
of_each_fault P all BuiltinVtime = all 4 Stuck (omega arith)
of_each_fault P all NoSuchCpu = all 5 Stuck (omega arith)
of_each_fault P all UnknownFlag = all 6 Stuck (omega arith)
of_each_fault P all CannotCreate = all 7 Stuck (omega arith)
of_each_fault P all IdleUntracked = all 8 Stuck (omega arith)
of_each_fault P all NotAllowed = all 9 Stuck (omega arith)
