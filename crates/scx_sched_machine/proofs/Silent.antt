-- A world in which nothing is noted.
use Rattle.std.proofs.Common.{◌≡◌, List, [], ap}
use Rattle.scx_sched_world.specs.declared.notes.Note.{Note}
use Rattle.scx_sched_world.specs.World.{WorldState, quiet}

-- it has no notes to forget
pub quiet_already : (w : WorldState) → w.notes ≡ [] → w ≡ quiet w
quiet_already w e = ap (λ (ns : List Note). record w { notes = ns }) e
