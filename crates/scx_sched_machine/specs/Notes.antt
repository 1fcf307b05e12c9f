-- Notes that a sink takes, one after another.
use Rattle.std.specs.Prelude.{◌≡◌, List, [], ◌∷◌}
use Rattle.scx_sched_world.specs.declared.notes.Note.{Note}

-- from this state the sink may, taking these notes in order, come to that one
abbrev pub Takes : {S : Type 0} → (S → Note → S → Type 0) → S → List Note → S → Type 0
Takes takes s [] t = t ≡ s
Takes {S} takes s (n ∷ ns) t = (u : S) × takes s n u × Takes takes u ns t
