-- A local queue is filled.
use Rattle.std.specs.Prelude.{ℕ, List, [], ◌∷◌, Option, Some, None}
use Rattle.scx_sched_world.specs.declared.notes.Note.{Note}
use Rattle.scx_sched_world.specs.declared.notes.What.TheVariants.{Move}
use Rattle.scx_sched_world.specs.World.{WorldState, note_now}
use Rattle.scx_sched_world.specs.Tasks.{fill_front, after_fill}
use Rattle.scx_sched_machine.specs.Steps.{State, Stepped, with_world}

-- what is noted of that task: it goes to that processor's local queue; without one nothing
abbrev pub move_note : WorldState → Option ℕ → ℕ → List Note
move_note w None c = []
move_note w (Some t) c = note_now w (Move t c) ∷ []

-- where the local queue is empty, the first task of another that may run on its processor comes to
-- it
unfoldable pub fill : State → ℕ → ℕ → Stepped
fill s q c = record {
  state = with_world s (after_fill s.world q c);
  notes = move_note s.world (fill_front s.world q c) c;
  calls = [];
}
