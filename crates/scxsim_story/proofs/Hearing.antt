-- What has been told, one note and one event after another.
use Rattle.std.proofs.Common.{◌≡◌, ℕ, Bool, true, false, List, [], ◌∷◌, ◌++◌, Option, None, Some, refl, sym, ap, subst, cond, filter, ◌∙◌, append_assoc}
use Rattle.std.proofs.lemmas.Bool.{both_ways}
use Rattle.std.proofs.lemmas.List.{append-nil}
use Rattle.std.proofs.lemmas.List.Elements.{filter-append}
use Rattle.scx_sched_world.specs.declared.notes.Note.{Note}
use Rattle.scx_sched_machine.specs.declared.events.Event.{Event}
use Rattle.scx_sched_machine.specs.Notes.{Takes}
use Rattle.scx_sched.specs.Sim.{SimState, after_event, notes_of}
use Rattle.scx_load_driver.specs.Runs.{notes_of_all}
use Rattle.scxsim_trace.specs.Observing.{is_at_end, IsShown, AreWatched, Watches}
use Rattle.scxsim_story.specs.declared.subject.Subject.{Subject}
use Rattle.scxsim_story.specs.Occurrences.{concerns, occurrences, line, Tells, Told, Writes, Settles, Hears, ExpectsEvent, HearsNote}

-- lines, and then more of them
tells_both : (ns ms : List Note) (a b c : List ℕ) → Tells ns a b → Tells ms b c → Tells (ns ++ ms) a c
tells_both [] ms a b c same next = let P : List ℕ → Type 0 = λ x. Tells ms x c in subst P same next
tells_both (n ∷ ns) ms a b c (words, rest) next = (words, tells_both ns ms (a ++ line n.clock words) b c rest next)

-- the occurrence whose line is missing, as a list
abbrev owed : Option Note → List Note
owed None = []
owed (Some n) = n ∷ []

tells_owed : (p : Option Note) (a b : List ℕ) → Writes p a b → Tells (owed p) a b
tells_owed None a b same = same
tells_owed (Some n) a b (words, e) = (words, e)

-- of what was owed and of these occurrences lines were written, but for what is owed then
abbrev HasTold : Told → List Note → Told → Type 0
HasTold a ns b = (told : List Note) × (owed a.pending ++ ns ≡ told ++ owed b.pending) × Tells told a.text b.text

told_none : (a b : Told) → b ≡ a → HasTold a [] b
told_none a b same = ([], append-nil (owed a.pending) ∙ ap (λ x. owed x.pending) (sym same), ap (λ x. x.text) same)

told_settled : (a b : Told) → Settles a b → HasTold a [] b
told_settled a b (written, none) =
    (owed a.pending, ap (λ p. owed a.pending ++ owed p) (sym none), tells_owed a.pending a.text b.text written)

told_heard : (is : Bool) (p : Note → Bool) (n : Note) (a b : Told) → p n ≡ is → Hears is n a b → HasTold a (filter p (n ∷ [])) b
told_heard false p n a b e same =
    let P : List Note → Type 0 = λ ns. HasTold a ns b in
    subst P (ap (λ c. cond c (n ∷ []) []) (sym e)) (told_none a b same)
told_heard true p n a b e (written, held) =
    let P : List Note → Type 0 = λ ns. HasTold a ns b in
    subst P (ap (λ c. cond c (n ∷ []) []) (sym e))
    (owed a.pending, ap (λ q. owed a.pending ++ owed q) (sym held), tells_owed a.pending a.text b.text written)

told_both : (a b c : Told) (ns ms : List Note) → HasTold a ns b → HasTold b ms c → HasTold a (ns ++ ms) c
told_both a b c ns ms (first, e, one) (then, f, two) = (
  first ++ then,
  sym (append_assoc (owed a.pending) ns ms) ∙ ap (λ l. l ++ ms) e ∙ append_assoc first (owed b.pending) ms ∙ ap (λ l. first ++ l) f ∙ sym (append_assoc first then (owed c.pending)),
  tells_both first then a.text b.text c.text one two,
)

-- ---- the states of a view

-- from a state that hasn't failed to another, these occurrences were told
abbrev IsToldOf : {V : Type 0} → (V → Bool) → (V → Subject) → (V → Told) → V → List Note → V → Type 0
IsToldOf has_failed whose told v notes w =
    (has_failed v ≡ false) × (whose w ≡ whose v) × HasTold (told v) (occurrences (whose v) notes) (told w)

one_told : {V : Type 0} (has_failed : V → Bool) (whose : V → Subject) (told : V → Told) (at_end f : Bool) (n : Note) (v w : V)
    → has_failed v ≡ f → IsShown has_failed (λ x moment clock what y. HearsNote has_failed whose told x clock what y) at_end v n w → has_failed w ≡ false
    → IsToldOf has_failed whose told v (n ∷ []) w
one_told has_failed whose told at_end true n v w is (same, shown) well =
    absurd (both_ways (has_failed v) (sym (ap has_failed (same is)) ∙ well) is)
one_told has_failed whose told at_end false n v w is (same, shown) well =
    let heard = shown is in
    (is, heard.0, told_heard (concerns (whose v) n.what) (λ m. concerns (whose v) m.what) n (told v) (told w) refl (heard.1 well))

then_told : {V : Type 0} (has_failed : V → Bool) (whose : V → Subject) (told : V → Told) (ns ms : List Note) (u v w : V)
    → (whose v ≡ whose u) → HasTold (told u) (occurrences (whose u) ns) (told v) → IsToldOf has_failed whose told v ms w
    → (whose w ≡ whose u) × HasTold (told u) (occurrences (whose u) (ns ++ ms)) (told w)
then_told has_failed whose told ns ms u v w same first (well, still, next) =
    let P : Subject → Type 0 = λ x. HasTold (told v) (occurrences x ms) (told w) in
    let Q : List Note → Type 0 = λ l. HasTold (told u) l (told w) in (
      still ∙ same,
      subst Q (sym (filter-append (λ n. concerns (whose u) n.what) ns ms))
          (told_both (told u) (told v) (told w) (occurrences (whose u) ns) (occurrences (whose u) ms) first (subst P same next)),
    )

all_told : {V : Type 0} (has_failed : V → Bool) (whose : V → Subject) (told : V → Told) (at_end : Bool) (ns : List Note) (v w : V)
    → Takes (IsShown has_failed (λ x moment clock what y. HearsNote has_failed whose told x clock what y) at_end) v ns w → has_failed w ≡ false
    → IsToldOf has_failed whose told v ns w
all_told has_failed whose told at_end [] v w same well =
    (sym (ap has_failed same) ∙ well, ap whose same, told_none (told v) (told w) (ap told same))
all_told has_failed whose told at_end (n ∷ ns) v w (u, one, rest) well =
    let behind = all_told has_failed whose told at_end ns u w rest well in
    let first = one_told has_failed whose told at_end (has_failed v) n v u refl one behind.0 in
    let both = then_told has_failed whose told (n ∷ []) ns v u w first.1 first.2 behind in
    (first.0, both.0, both.1)

all_watched : {V : Type 0} (has_failed : V → Bool) (whose : V → Subject) (told : V → Told) (es : List Event) (s : SimState) (v w : V)
    → AreWatched (λ x _ _ y. ExpectsEvent has_failed whose told x y) has_failed (λ x moment clock what y. HearsNote has_failed whose told x clock what y) s es v w → has_failed w ≡ false
    → IsToldOf has_failed whose told v (notes_of_all s es) w
all_watched has_failed whose told [] s v w same well =
    (sym (ap has_failed same) ∙ well, ap whose same, told_none (told v) (told w) (ap told same))
all_watched has_failed whose told (e ∷ es) s v w (u, (x, (same, expected), shown), rest) well =
    let behind = all_watched has_failed whose told es (after_event s e) u w rest well in
    let notes = all_told has_failed whose told (is_at_end e) (notes_of s e) x u shown behind.0 in
    let settled = expected notes.0 in
    let begun = then_told has_failed whose told [] (notes_of s e) v x u same (told_settled (told v) (told x) settled.1) notes in
    let both = then_told has_failed whose told (notes_of s e) (notes_of_all (after_event s e) es) v u w begun.0 begun.1 behind in
    (settled.0, both.0, both.1)

-- ---- a whole run

-- a view that heard a whole run, and then writes the line that is missing, has told all occurrences after its first text
pub run_is_told : {V : Type 0} (has_failed : V → Bool) (whose : V → Subject) (told : V → Told) (events : List Event) (s t : SimState) (v w : V) (x : Subject) (first last : List ℕ)
    → Watches (λ x _ _ y. ExpectsEvent has_failed whose told x y) has_failed (λ x moment clock what y. HearsNote has_failed whose told x clock what y) events s v t w
    → has_failed w ≡ false → whose v ≡ x → (told v).pending ≡ None → (told v).text ≡ first → Writes (told w).pending (told w).text last
    → Tells (occurrences x (notes_of_all s events)) first last
run_is_told has_failed whose told events s t v w x first last watched well is none begun written =
    let whole : events ≡ watched.done = watched.whole ∙ ap (λ rest. watched.done ++ rest) (watched.all well) ∙ append-nil watched.done in
    let os = occurrences (whose v) (notes_of_all s watched.done) in
    let end : Told = record { text = last; pending = None } in
    let all = all_watched has_failed whose told watched.done s v w watched.shown well in
    let ended = told_both (told v) (told w) end os [] all.2 (told_settled (told w) end (written, refl)) in
    let P : List ℕ → Type 0 = λ text. Tells ended.0 text last in
    let Q : List Note → Type 0 = λ l. Tells l first last in
    let R : List Event → Type 0 = λ es. Tells (occurrences (whose v) (notes_of_all s es)) first last in
    let S : Subject → Type 0 = λ y. Tells (occurrences y (notes_of_all s events)) first last in
    let lists : ended.0 ≡ os =
    sym (append-nil ended.0) ∙ sym ended.1 ∙ ap (λ p. owed p ++ (os ++ [])) none ∙ append-nil os in
    subst S is (subst R (sym whole) (subst Q lists (subst P begun ended.2)))
