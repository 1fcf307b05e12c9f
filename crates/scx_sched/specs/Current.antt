-- Between two events no processor switches from one task to another.
use Rattle.std.specs.Prelude.{◌≡◌, ℕ}
use Rattle.scx_sched_world.specs.World.{WorldState, running, current}

-- the current task of each processor, as helpers are told it, is the one that runs there
abbrev pub AreCurrent : WorldState → Type 0
AreCurrent w = (c : ℕ) → current w c ≡ running w c
