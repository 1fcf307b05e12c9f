-- A sink that writes a line for each note. Its states are of any type: the definition speaks of
-- their output, of the names in them, and of the contents seen of the output.
use Rattle.std.specs.Prelude.{◌≡◌, true}
use Rattle.scx_sched_world.specs.declared.notes.Note.{Note}
use Rattle.scxsim_trace.specs.Lines.{NameLists, note_line}
use Rattle.scxsim_trace.specs.Writing.{Seen, Written}

-- the line of the note is written, and the output and the names stay the same ones; a sink that has
-- failed is left as it was
abbrev pub TakesLine :
    {S G : Type 0} → (S → G) → (S → NameLists) → (S → Seen) → S → Note → S → Type 0
TakesLine output names seen s n t =
    ((seen s).failed ≡ true → t ≡ s) × (output t ≡ output s) × (names t ≡ names s)
    × Written (seen s) (note_line (names s) n) (seen t)
