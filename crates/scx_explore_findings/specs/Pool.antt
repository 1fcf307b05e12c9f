-- Machines by number.
use Rattle.std.specs.Prelude.{ℕ, List, slice_index_or, slice_set}
use Rattle.scx_sched.specs.Sim.{SimState}

-- the machine from which each may begin, and the machines
pub record PoolState : Type 0 where
  pub root : SimState
  pub sims : List SimState

-- the machine of that number
abbrev pub machine_at : PoolState → ℕ → SimState
machine_at p n = slice_index_or p.sims n p.root

-- that machine is the one of that number, and the others stay
abbrev pub with_machine : PoolState → ℕ → SimState → PoolState
with_machine p n s = record p { sims = slice_set p.sims n s }
