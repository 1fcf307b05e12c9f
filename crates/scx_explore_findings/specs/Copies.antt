-- Copies of a machine.
use Rattle.std.specs.Prelude.{◌≡◌, ℕ, List, length, All}
use Rattle.scx_sched.specs.Sim.{SimState}

-- there are that many machines, and each is the same as that one
pub record AreCopies (root : SimState) (count : ℕ) (sims : List SimState) : Type 0 where
  pub many : length sims ≡ count
  pub same : All (λ s. s ≡ root) sims
