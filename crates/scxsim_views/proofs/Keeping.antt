-- The sums of an observer that counts, of a run that it was shown to the end.
use Rattle.std.proofs.Common.{◌≡◌, ℕ, Bool, true, false, List, [], ◌∷◌, ◌++◌, refl, sym, ap, ◌∙◌}
use Rattle.std.proofs.lemmas.Bool.{both_ways}
use Rattle.scx_sched_world.specs.declared.notes.Note.{Note}
use Rattle.scx_sched_world.specs.declared.notes.What.{What}
use Rattle.scx_sched_machine.specs.declared.events.Event.{Event}
use Rattle.scx_sched_machine.specs.Notes.{Takes}
use Rattle.scx_sched.specs.Sim.{SimState, after_event, notes_of}
use Rattle.scx_load_driver.specs.Runs.{stepped_all}
use Rattle.scxsim_trace.specs.Observing.{is_at_end, IsShown, AreWatched, Watches}
use Rattle.scxsim_views.specs.Watching.{noted_all, kept_of_all, CountsEvent, CountsNote}

-- an observer that has not failed after a note hadn't before it
before_note : {V K : Type 0} (has_failed : V → Bool) (kept : V → K) (noted : ℕ → What → K → K) (at_end f : Bool) (n : Note) (v w : V)
    → has_failed v ≡ f → IsShown has_failed (CountsNote has_failed kept noted) at_end v n w → has_failed w ≡ false → (f ≡ false) × (kept w ≡ noted n.clock n.what (kept v))
before_note has_failed kept noted at_end true n v w is (same, shown) well =
    absurd (both_ways (has_failed v) (sym (ap has_failed (same is)) ∙ well) is)
before_note has_failed kept noted at_end false n v w is (same, shown) well = (refl, shown is well)

all_noted : {V K : Type 0} (has_failed : V → Bool) (kept : V → K) (noted : ℕ → What → K → K) (at_end : Bool) (ns : List Note) (v w : V)
    → Takes (IsShown has_failed (CountsNote has_failed kept noted) at_end) v ns w → has_failed w ≡ false
    → (has_failed v ≡ false) × (kept w ≡ noted_all noted ns (kept v))
all_noted has_failed kept noted at_end [] v w same well = (sym (ap has_failed same) ∙ well, ap kept same)
all_noted {V} {K} has_failed kept noted at_end (n ∷ ns) v w (u, one, rest) well =
    let behind = all_noted has_failed kept noted at_end ns u w rest well in
    let first = before_note has_failed kept noted at_end (has_failed v) n v u refl one behind.0 in
    (first.0, behind.1 ∙ ap (λ k. noted_all noted ns k) first.1)

-- an observer that counts, and hasn't failed, keeps of all events and notes what the definition says
pub all_kept : {V K : Type 0} (has_failed : V → Bool) (kept : V → K) (expected : SimState → Event → K → K) (noted : ℕ → What → K → K) (es : List Event) (s : SimState) (v w : V)
    → AreWatched (CountsEvent has_failed kept expected) has_failed (CountsNote has_failed kept noted) s es v w → has_failed w ≡ false
    → (has_failed v ≡ false) × (kept w ≡ kept_of_all expected noted s es (kept v))
all_kept has_failed kept expected noted [] s v w same well = (sym (ap has_failed same) ∙ well, ap kept same)
all_kept {V} {K} has_failed kept expected noted (e ∷ es) s v w (u, (x, (stays, at_event), shown), rest) well =
    let behind = all_kept has_failed kept expected noted es (after_event s e) u w rest well in
    let notes = all_noted has_failed kept noted (is_at_end e) (notes_of s e) x u shown behind.0 in (
      sym stays ∙ notes.0,
      behind.1 ∙ ap (λ k. kept_of_all expected noted (after_event s e) es k) (notes.1 ∙ ap (λ k. noted_all noted (notes_of s e) k) at_event),
    )

append_nil : {A : Type 0} (xs : List A) → xs ++ [] ≡ xs
append_nil [] = refl
append_nil (x ∷ xs) = ap (λ ys. x ∷ ys) (append_nil xs)

-- of a whole run
pub run_is_kept : {V K : Type 0} (has_failed : V → Bool) (kept : V → K) (expected : SimState → Event → K → K) (noted : ℕ → What → K → K) (events : List Event) (s t : SimState) (v w : V)
    → Watches (CountsEvent has_failed kept expected) has_failed (CountsNote has_failed kept noted) events s v t w → has_failed w ≡ false
    → (t ≡ stepped_all s events) × (kept w ≡ kept_of_all expected noted s events (kept v))
run_is_kept {V} {K} has_failed kept expected noted events s t v w watched well =
    let whole : events ≡ watched.done = watched.whole ∙ ap (λ rest. watched.done ++ rest) (watched.all well) ∙ append_nil watched.done in (
      watched.state ∙ ap (λ es. stepped_all s es) (sym whole),
      (all_kept has_failed kept expected noted watched.done s v w watched.shown well).1 ∙ ap (λ es. kept_of_all expected noted s es (kept v)) (sym whole),
    )
