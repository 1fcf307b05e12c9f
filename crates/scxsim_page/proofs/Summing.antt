-- What has been counted of a run that a view was shown to its end.
use Rattle.std.proofs.Common.{◌≡◌, ℕ, Bool, false, List, [], ◌∷◌, ◌++◌, length, refl, sym, ap, ◌∙◌}
use Rattle.std.proofs.lemmas.List.{append-nil}
use Rattle.scx_sched_world.specs.declared.notes.Note.{Note}
use Rattle.scx_sched_machine.specs.declared.events.Event.{Event}
use Rattle.scx_sched_machine.specs.Notes.{Takes}
use Rattle.scx_sched.specs.Sim.{SimState, after_event, notes_of}
use Rattle.scx_load_driver.specs.Runs.{stepped_all}
use Rattle.scxsim_trace.specs.Observing.{is_at_end, moment, IsShown, AreWatched, Watches}
use Rattle.scxsim_page.specs.Stretches.{Counts, after_note, after_notes, after_events, all_counted, stretches_of}

-- each note counts, and each is shown
notes_counted : (at_end : Bool) (ns : List Note) (k l : Counts)
    → Takes (IsShown (λ _. false) (λ v m _ what w. w ≡ after_note m what v) at_end) k ns l → l ≡ after_notes at_end ns k
notes_counted at_end [] k l same = same
notes_counted at_end (n ∷ ns) k l (u, (same, shown), rest) =
    notes_counted at_end ns u l rest ∙ ap (λ x. after_notes at_end ns x) (shown refl)

events_counted : (es : List Event) (s : SimState) (k l : Counts)
    → AreWatched (λ v _ _ w. w ≡ v) (λ _. false) (λ v m _ what w. w ≡ after_note m what v) s es k l → l ≡ after_events s es k
events_counted [] s k l same = same
events_counted (e ∷ es) s k l (u, (v, before, shown), rest) =
    events_counted es (after_event s e) u l rest
    ∙ ap (λ x. after_events (after_event s e) es x) (notes_counted (is_at_end e) (notes_of s e) v u shown ∙ ap (λ x. after_notes (is_at_end e) (notes_of s e) x) before)

-- of a whole run
pub run_is_counted : (events : List Event) (s t : SimState) (k l : Counts)
    → Watches (λ v _ _ w. w ≡ v) (λ _. false) (λ v m _ what w. w ≡ after_note m what v) events s k t l
    → all_counted t.state.world.clock l ≡ stretches_of s events k
run_is_counted events s t k l watched =
    let whole : events ≡ watched.done = watched.whole ∙ ap (λ rest. watched.done ++ rest) (watched.all refl) ∙ append-nil watched.done in
    ap (λ (x : SimState). all_counted x.state.world.clock l) (watched.state ∙ ap (λ es. stepped_all s es) (sym whole))
    ∙ ap (λ x. all_counted (stepped_all s events).state.world.clock x) (events_counted watched.done s k l watched.shown ∙ ap (λ es. after_events s es k) (sym whole))

-- of a run of the same machine through the same events, counted from the same beginning
pub counted_alike : (count : ℕ) (s t : SimState) (given all : SimState → List Event) (k l : Counts)
    → count ≡ stretches_of t (given t) k → t ≡ s → ((x : SimState) → given x ≡ all x) → k ≡ l → count ≡ stretches_of s (all s) l
counted_alike count s t given all k l counted same each begin =
    counted ∙ ap (λ es. stretches_of t es k) (each t) ∙ ap (λ x. stretches_of x (all x) k) same ∙ ap (λ x. stretches_of s (all s) x) begin
