-- An observer that counts: what it keeps as the events and notes of a run come.
use Rattle.std.specs.Prelude.{◌≡◌, ℕ, Bool, false, List, [], ◌∷◌}
use Rattle.scx_sched_world.specs.declared.notes.Note.{Note}
use Rattle.scx_sched_world.specs.declared.notes.What.{What}
use Rattle.scx_sched_machine.specs.declared.events.Event.{Event}
use Rattle.scx_sched.specs.Sim.{SimState, after_event, notes_of}

-- notes, one after another, each of which changes what is kept
abbrev pub noted_all : {K : Type 0} → (ℕ → What → K → K) → List Note → K → K
noted_all noted [] k = k
noted_all noted (n ∷ ns) k = noted_all noted ns (noted n.clock n.what k)

-- events, one after another: each changes what is kept before the machine takes it, and
-- then its notes do
abbrev pub kept_of_all :
    {K : Type 0} → (SimState → Event → K → K) → (ℕ → What → K → K) → SimState → List Event → K → K
kept_of_all expected noted s [] k = k
kept_of_all expected noted s (e ∷ es) k =
    kept_of_all expected noted (after_event s e) es
    (noted_all noted (notes_of s e) (expected s e k))

-- an observer that counts changes what it keeps at an event, and fails at none
abbrev pub CountsEvent :
    {V K : Type 0}
    → (V → Bool) → (V → K) → (SimState → Event → K → K) → V → SimState → Event → V → Type 0
CountsEvent has_failed kept expected v s e w =
    (has_failed w ≡ has_failed v) × (kept w ≡ expected s e (kept v))

-- and at a note, unless it fails there
abbrev pub CountsNote :
    {V K : Type 0} → (V → Bool) → (V → K) → (ℕ → What → K → K) → V → ℕ → ℕ → What → V → Type 0
CountsNote has_failed kept noted v moment clock what w =
    has_failed w ≡ false → kept w ≡ noted clock what (kept v)
