-- A run shown to an observer: each event before the machine takes it, and then its notes.
use Rattle.std.specs.Prelude.{◌≡◌, ℕ, ◌+◌, ◌-◌, ◌^◌, min, Bool, true, false, List, [], ◌∷◌, ◌++◌}
use Rattle.scx_sched_world.specs.declared.notes.Note.{Note}
use Rattle.scx_sched_world.specs.declared.notes.What.{What}
use Rattle.scx_sched_machine.specs.declared.events.Event.{Event}
use Rattle.scx_sched_machine.specs.declared.events.Event.TheVariants.{Wake, Sleep, Tick, Clock, SetWeight, SetTaskWeight}
use Rattle.scx_sched_machine.specs.Notes.{Takes}
use Rattle.scx_sched.specs.Sim.{SimState, after_event, notes_of}
use Rattle.scx_load_driver.specs.Runs.{stepped_all}

-- true for an event that comes as its millisecond ends
abbrev pub is_at_end : Event → Bool
is_at_end (Wake t) = false
is_at_end (Sleep t) = true
is_at_end (Tick c) = true
is_at_end Clock = false
is_at_end (SetWeight g w) = false
is_at_end (SetTaskWeight t w) = false

-- the moment of a note of this clock
abbrev pub moment : Bool → ℕ → ℕ
moment true clock = min (clock + 1) (2 ^ 64 - 1)
moment false clock = clock

-- a note is shown to an observer that has not failed, and to no other
abbrev pub IsShown :
    {V : Type 0} → (V → Bool) → (V → ℕ → ℕ → What → V → Type 0) → Bool → V → Note → V → Type 0
IsShown has_failed shows at_end v n w =
    (has_failed v ≡ true → w ≡ v)
    × (has_failed v ≡ false → shows v (moment at_end n.clock) n.clock n.what w)

-- an event comes, and then its notes
abbrev pub IsWatched :
    {V : Type 0}
    → (V → SimState → Event → V → Type 0) → (V → Bool) → (V → ℕ → ℕ → What → V → Type 0) → SimState
    → Event → V → V → Type 0
IsWatched {V} expects has_failed shows s e v w =
    (u : V) × expects v s e u × Takes (IsShown has_failed shows (is_at_end e)) u (notes_of s e) w

-- events, one after another
abbrev pub AreWatched :
    {V : Type 0}
    → (V → SimState → Event → V → Type 0) → (V → Bool) → (V → ℕ → ℕ → What → V → Type 0) → SimState
    → List Event → V → V → Type 0
AreWatched expects has_failed shows s [] v w = w ≡ v
AreWatched {V} expects has_failed shows s (e ∷ es) v w =
    (u : V) × IsWatched expects has_failed shows s e v u
    × AreWatched expects has_failed shows (after_event s e) es u w

-- the machine takes these events, and the observer is shown them, up to the end or until
-- the observer has failed
pub record Watches {V : Type 0} (expects : V → SimState → Event → V → Type 0)
    (has_failed : V → Bool) (shows : V → ℕ → ℕ → What → V → Type 0) (events : List Event)
    (s : SimState) (v : V) (t : SimState) (w : V) : Type 0 where
  pub done : List Event
  pub rest : List Event
  pub whole : events ≡ done ++ rest
  pub state : t ≡ stepped_all s done
  pub shown : AreWatched expects has_failed shows s done v w
  pub all : has_failed w ≡ false → rest ≡ []

-- ---- the sink of an observer

-- A sink that hands notes on to an observer. Its states are of any type: the definition speaks of
-- the observer that they lead to, of the event's place in its millisecond, and of the observer's
-- state.
abbrev pub HandsOn :
    {S G V : Type 0}
    → (S → G) → (S → Bool) → (S → V) → (V → Bool) → (V → ℕ → ℕ → What → V → Type 0) → S → Note → S
    → Type 0
HandsOn lead at_end view has_failed shows s n t =
    (has_failed (view s) ≡ true → t ≡ s) × (lead t ≡ lead s) × (at_end t ≡ at_end s)
    × IsShown has_failed shows (at_end s) (view s) n (view t)

-- such a sink as an event comes
abbrev pub ComesTo :
    {S G V : Type 0}
    → (S → G) → (S → Bool) → (S → V) → (V → SimState → Event → V → Type 0) → S → SimState → Event
    → S → Type 0
ComesTo lead at_end view expects s m e t =
    (lead t ≡ lead s) × (at_end t ≡ is_at_end e) × expects (view s) m e (view t)
