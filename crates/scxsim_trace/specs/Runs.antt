-- A run of a list of events with an observer, up to the end or to the observer's failure.
use Rattle.std.specs.Prelude.{◌≡◌, ⊤, Bool, true, false, List, [], ◌∷◌, ◌++◌, None, Option, ℕ}
use Rattle.std.specs.Io.KnownBytes.{Appends}
use Rattle.scxsim_output.specs.Output.{AppendsBeginning}
use Rattle.scx_sched_world.specs.declared.notes.Note.{Note}
use Rattle.scx_sched_machine.specs.declared.events.Event.{Event}
use Rattle.scx_sched_machine.specs.Notes.{Takes}
use Rattle.scx_sched_machine.specs.Callbacks.{AreAnswered}
use Rattle.scx_sched.specs.Sim.{SimState, refusal, after_event, notes_of, calls_of}
use Rattle.scx_sched.specs.Decided.{Follows}
use Rattle.scx_sched.specs.Once.{IsOnce}
use Rattle.scx_sched.specs.Waits.{IsTimely, HasWaits}
use Rattle.scx_sched.specs.Usages.{AreBounded}
use Rattle.scx_load_driver.specs.Runs.{stepped_all, notes_of_all}
use Rattle.scxsim_trace.specs.Lines.{NameLists, note_lines}

-- ---- every state of a run

-- between two events each runnable task is in one place, each wait is counted, none is late, and no
-- group with a quota has used much more than that
pub record IsInOrder (s : SimState) : Type 0 where
  pub once : IsOnce None s.state.world
  pub counted : HasWaits None s.state.world
  pub timely : IsTimely s.state
  pub bounded : AreBounded s.state.world

-- an event does what it alone decides, or is refused and changes nothing, and each callback that
-- is called comes to an answer
abbrev pub GoesWell : SimState → Event → Type 0
GoesWell s e = AreAnswered (calls_of s e) × Follows (refusal s e) s e (after_event s e)

-- so it is at first and after each event, and each event goes well
abbrev pub StaysInOrder : SimState → List Event → Type 0
StaysInOrder s [] = IsInOrder s
StaysInOrder s (e ∷ es) = IsInOrder s × GoesWell s e × StaysInOrder (after_event s e) es

-- ---- up to a failure

-- An observer is shown these events before the machine takes them, and takes their notes, one event
-- after another, up to the end or to the first event after which it has failed.
abbrev pub Observed :
    {S : Type 0}
    → (S → SimState → Event → S → Type 0) → (S → Note → S → Type 0) → (S → Bool) → List Event
    → SimState → S → SimState → S → Type 0
Observed comes takes has_failed [] s a t b = (t ≡ s) × (b ≡ a) × IsInOrder s
Observed {S} comes takes has_failed (e ∷ es) s a t b =
    (d : S) × (c : S) × comes a s e d × Takes takes d (notes_of s e) c × IsInOrder s × GoesWell s e
    × (has_failed c ≡ true → (t ≡ after_event s e) × (b ≡ c) × IsInOrder (after_event s e))
    × (has_failed c ≡ false → Observed comes takes has_failed es (after_event s e) c t b)

-- the machine takes these events, of which nothing is noted, and they don't change the observer
abbrev pub GoUnheeded :
    {S : Type 0} → (S → SimState → Event → S → Type 0) → S → SimState → List Event → Type 0
GoUnheeded comes a s [] = ⊤
GoUnheeded comes a s (e ∷ es) =
    comes a s e a × (notes_of s e ≡ []) × GoesWell s e × IsInOrder (after_event s e)
    × GoUnheeded comes a (after_event s e) es

-- from the first events and state to the second, past such events
pub record PassesBy {S : Type 0} (comes : S → SimState → Event → S → Type 0) (events : List Event)
    (s : SimState) (rest : List Event) (t : SimState) (a : S) : Type 0 where
  pub done : List Event
  pub whole : events ≡ done ++ rest
  pub state : t ≡ stepped_all s done
  pub unheeded : GoUnheeded comes a s done

-- The machine takes these events and the sink their notes, one event after another, up to the end
-- or to the first event after which the sink has failed.
abbrev pub GoesThrough :
    {S : Type 0}
    → (S → Note → S → Type 0) → (S → Bool) → List Event → SimState → S → SimState → S → Type 0
GoesThrough takes has_failed [] s a t b = (t ≡ s) × (b ≡ a) × IsInOrder s
GoesThrough {S} takes has_failed (e ∷ es) s a t b =
    (c : S) × Takes takes a (notes_of s e) c × IsInOrder s × GoesWell s e
    × (has_failed c ≡ true → (t ≡ after_event s e) × (b ≡ c) × IsInOrder (after_event s e))
    × (has_failed c ≡ false → GoesThrough takes has_failed es (after_event s e) c t b)

-- The lines of these events are written whole, and of those of the next one a beginning.
pub record IsCutIn (names : NameLists) (s : SimState) (done : List Event) (e : Event)
    (old new : Option (List ℕ)) : Type 0 where
  pub between : Option (List ℕ)
  pub whole : Appends old between (note_lines names (notes_of_all s done))
  pub cut : AppendsBeginning between new (note_lines names (notes_of (stepped_all s done) e))

-- The machine takes events up to the first one of which a line isn't written whole, and
-- none after it.
pub record StopsAtFailure (names : NameLists) (events : List Event) (s t : SimState)
    (old new : Option (List ℕ)) : Type 0 where
  pub done : List Event
  pub event : Event
  pub rest : List Event
  pub whole : events ≡ done ++ event ∷ rest
  pub state : t ≡ stepped_all s (done ++ event ∷ [])
  pub in_order : StaysInOrder s (done ++ event ∷ [])
  pub lines : IsCutIn names s done event old new
