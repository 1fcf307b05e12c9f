-- A run as it is shown to an observer, one note and one event after another.
use Rattle.std.proofs.Common.{◌≡◌, ℕ, Bool, true, false, List, [], ◌∷◌, refl, sym, ap, subst, ◌∙◌}
use Rattle.scx_sched_world.specs.declared.notes.Note.{Note}
use Rattle.scx_sched_world.specs.declared.notes.What.{What}
use Rattle.scx_sched_machine.specs.declared.events.Event.{Event}
use Rattle.scx_sched_machine.specs.Notes.{Takes}
use Rattle.scx_sched.specs.Sim.{SimState, after_event, notes_of}
use Rattle.scxsim_trace.specs.Runs.{Observed}
use Rattle.scxsim_trace.specs.Observing.{IsShown, IsWatched, Watches, HandsOn, ComesTo}

-- the observer of a sink that takes notes
pub handed_on : {S G V : Type 0} (lead : S → G) (at_end : S → Bool) (view : S → V) (has_failed : V → Bool) (shows : V → ℕ → ℕ → What → V → Type 0) (notes : List Note) (s t : S)
    → Takes (HandsOn lead at_end view has_failed shows) s notes t
    → (lead t ≡ lead s) × Takes (IsShown has_failed shows (at_end s)) (view s) notes (view t)
handed_on lead at_end view has_failed shows [] s t same = (ap lead same, ap view same)
handed_on lead at_end view has_failed shows (n ∷ ns) s t (u, (stays, one_lead, one_end, shown), rest) =
    let behind = handed_on lead at_end view has_failed shows ns u t rest in
    let P : Bool → Type 0 = λ b. Takes (IsShown has_failed shows b) (view u) ns (view t) in
    (behind.0 ∙ one_lead, (view u, shown, subst P one_end behind.1))

-- a test doesn't both hold and fail
differ : (f : Bool) → f ≡ true → f ≡ false → ⊥
differ true x y = absurd (cc)
differ false x y = absurd (cc)

-- a sink that hands on shows its observer all that it is shown
module _ {S G V : Type 0} (lead : S → G) (at_end : S → Bool) (view : S → V) (expects : V → SimState → Event → V → Type 0) (has_failed : V → Bool) (shows : V → ℕ → ℕ → What → V → Type 0) where
  pub watched : (es : List Event) (s : SimState) (a : S) (t : SimState) (b : S)
      → Observed (ComesTo lead at_end view expects) (HandsOn lead at_end view has_failed shows) (λ x. has_failed (view x)) es s a t b
      → (lead b ≡ lead a) × Watches expects has_failed shows es s (view a) t (view b)
  watched [] s a t b (state, same, now) =
      (ap lead same, record { done = []; rest = []; whole = refl; state = state; shown = ap view same; all = λ _. refl })
  watched (e ∷ es) s a t b (d, c, (one_lead, one_end, shown), notes, now, well, ends, goes) = by_failure (has_failed (view c)) refl (λ x. watched es (after_event s e) c t b (goes x))
    where
      handed : (lead c ≡ lead d) × Takes (IsShown has_failed shows (at_end d)) (view d) (notes_of s e) (view c)
      handed = handed_on lead at_end view has_failed shows (notes_of s e) d c notes

      one : IsWatched expects has_failed shows s e (view a) (view c)
      one = let P : Bool → Type 0 = λ x. Takes (IsShown has_failed shows x) (view d) (notes_of s e) (view c) in (view d, shown, subst P one_end handed.1)

      by_failure : (f : Bool) → has_failed (view c) ≡ f → (has_failed (view c) ≡ false → (lead b ≡ lead c) × Watches expects has_failed shows es (after_event s e) (view c) t (view b)) → (lead b ≡ lead a) × Watches expects has_failed shows (e ∷ es) s (view a) t (view b)
      by_failure true x further =
          let end = ends x in
          let none : has_failed (view b) ≡ false → es ≡ [] = λ y. absurd (differ (has_failed (view c)) x (sym (ap (λ z. has_failed (view z)) end.1) ∙ y)) in
          (ap lead end.1 ∙ (handed.0 ∙ one_lead), record { done = e ∷ []; rest = es; whole = refl; state = end.0; shown = (view c, one, ap view end.1); all = none })
      by_failure false x further =
          let more = further x in
          (more.0 ∙ (handed.0 ∙ one_lead), record { done = e ∷ more.1.done; rest = more.1.rest; whole = ap (λ fs. e ∷ fs) more.1.whole; state = more.1.state; shown = (view c, one, more.1.shown); all = more.1.all })
