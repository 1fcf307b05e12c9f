-- Tasks go over one after another.
use Rattle.std.proofs.Common.{◌≡◌, ◌+◌, ℕ, ◌++◌, add-one, refl}
use Rattle.scx_sched_world.specs.World.{WorldState}
use Rattle.scx_sched_world.specs.Ejecting.{evict, after_evictions, evict_note, evict_notes}

-- as one task more goes over, it does so behind the others
pub evicted_next : (n : ℕ) (w : WorldState) → after_evictions (n + 1) w ≡ evict (after_evictions n w) n
evicted_next n w = rw add-one refl

-- as one task more goes over, its note comes behind those of the others
pub notes_next : (n : ℕ) (w : WorldState) → evict_notes (n + 1) w ≡ evict_notes n w ++ evict_note (after_evictions n w) n
notes_next n w = rw add-one refl
