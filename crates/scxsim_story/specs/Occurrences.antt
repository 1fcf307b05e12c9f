-- The story of a run: the occurrences of one task, a line each.
use Rattle.std.specs.Prelude.{◌≡◌, ℕ, ◌==◌, Bool, true, false, List, [], ◌∷◌, ◌++◌, codes, decimal, Option, None, Some}
use Rattle.std.specs.List.{filter}
use Rattle.scx_sched_world.specs.declared.notes.Note.{Note}
use Rattle.scx_sched_world.specs.declared.notes.What.{What}
use Rattle.scx_sched_world.specs.declared.notes.What.TheVariants.{Wake, Sleep, Insert, Move, Run, Stop, Idle, Weight, TaskWeight, Stall, Fault, Exit}
use Rattle.scxsim_story.specs.declared.subject.Subject.{Subject}

-- true for a note of the task, of its own or its group's weight, or of the policy's ejection
abbrev pub concerns : Subject → What → Bool
concerns x (Wake t) = t == x.task
concerns x (Sleep t) = t == x.task
concerns x (Insert t queue) = t == x.task
concerns x (Move t c) = t == x.task
concerns x (Run t c) = t == x.task
concerns x (Stop t c) = t == x.task
concerns x (Idle c) = false
concerns x (Weight g weight) = g == x.group
concerns x (TaskWeight t weight) = t == x.task
concerns x (Stall t) = true
concerns x (Fault f) = true
concerns x (Exit n) = true

-- the occurrences of a task among notes, in their order
abbrev pub occurrences : Subject → List Note → List Note
occurrences x notes = filter (λ n. concerns x n.what) notes

-- a line of a story: a clock, and the words of the occurrence
abbrev pub line : ℕ → List ℕ → List ℕ
line clock words = decimal clock ++ codes " " ++ words ++ codes "\n"

-- a text grows by a line for each note, in their order, with its clock
abbrev pub Tells : List Note → List ℕ → List ℕ → Type 0
Tells [] old new = new ≡ old
Tells (n ∷ ns) old new = (words : List ℕ) × Tells ns (old ++ line n.clock words) new

-- ---- while a run goes on, the line of the last occurrence isn't written yet

-- the text so far, and the occurrence whose line is missing
pub record Told : Type 0 where
  pub text : List ℕ
  pub pending : Option Note

-- the missing line is written, if there is one
abbrev pub Writes : Option Note → List ℕ → List ℕ → Type 0
Writes None old new = new ≡ old
Writes (Some n) old new = (words : List ℕ) × (new ≡ old ++ line n.clock words)

-- and then no line is missing
abbrev pub Settles : Told → Told → Type 0
Settles a b = Writes a.pending a.text b.text × (b.pending ≡ None)

-- an occurrence's line is missing from then on; a note that is none changes nothing
abbrev pub Hears : Bool → Note → Told → Told → Type 0
Hears false n a b = b ≡ a
Hears true n a b = Writes a.pending a.text b.text × (b.pending ≡ Some n)

-- ---- an observer, whose states are of any type

-- an event comes: the missing line is written, unless the observer fails there
abbrev pub ExpectsEvent :
    {V : Type 0} → (V → Bool) → (V → Subject) → (V → Told) → V → V → Type 0
ExpectsEvent has_failed whose told v w =
    (whose w ≡ whose v)
    × (has_failed w ≡ false → (has_failed v ≡ false) × Settles (told v) (told w))

-- a note comes
abbrev pub HearsNote :
    {V : Type 0} → (V → Bool) → (V → Subject) → (V → Told) → V → ℕ → What → V → Type 0
HearsNote has_failed whose told v clock what w =
    (whose w ≡ whose v)
    × (has_failed w ≡ false
    → Hears (concerns (whose v) what) (record { clock = clock; what = what }) (told v) (told w))
