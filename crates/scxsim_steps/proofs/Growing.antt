-- How a page grows, one note and one event after another.
use Rattle.std.proofs.Common.{◌≡◌, ℕ, ◌==◌, nat_lt, if◌then◌else◌, Bool, true, false, List, [], ◌∷◌, ◌++◌, sym, ap, subst, cond, filter, ◌∙◌, refl}
use Rattle.scx_sched_world.specs.declared.notes.Note.{Note}
use Rattle.scx_sched_machine.specs.declared.events.Event.{Event}
use Rattle.scx_sched_machine.specs.Notes.{Takes}
use Rattle.scx_sched.specs.Sim.{SimState, after_event, notes_of}
use Rattle.scxsim_trace.specs.Lines.{NameLists}
use Rattle.scxsim_trace.specs.Runs.{IsInOrder, Observed}
use Rattle.scxsim_steps.specs.Stepping.{notes_within, events_within, Grows, HasLines, Kept, Hears, TakesNote, GrowsBy}

-- one note, and then others
one_grows : (is : Bool) (names : NameLists) (n : Note) (ns rest : List Note) (a b new : List ℕ) → Hears is names n a b → Grows names (ns ++ rest) b new → Grows names (cond is (n ∷ ns) ns ++ rest) a new
one_grows false names n ns rest a b new same g =
    let P : List ℕ → Type 0 = λ x. Grows names (ns ++ rest) x new in subst P same g
one_grows true names n ns rest a b new (words, e) g =
    let P : List ℕ → Type 0 = λ x. Grows names (ns ++ rest) x new in (words, subst P e g)

-- there was memory before, and millisecond and names stay the same
pub takes_well : (ns : List Note) (a b : Kept) → Takes TakesNote a ns b → b.lost ≡ false → a.lost ≡ false
takes_well [] a b same well = sym (ap (λ k. k.lost) same) ∙ well
takes_well (n ∷ ns) a b (u, (stays, ms, names, heard), more) well = (heard (takes_well ns u b more well)).0

pub takes_names : (ns : List Note) (a b : Kept) → Takes TakesNote a ns b → b.names ≡ a.names
takes_names [] a b same = ap (λ k. k.names) same
takes_names (n ∷ ns) a b (u, (stays, ms, names, heard), more) = takes_names ns u b more ∙ names

pub takes_ms : (ns : List Note) (a b : Kept) → Takes TakesNote a ns b → b.ms ≡ a.ms
takes_ms [] a b same = ap (λ k. k.ms) same
takes_ms (n ∷ ns) a b (u, (stays, ms, names, heard), more) = takes_ms ns u b more ∙ ms

-- notes of an event, and then others
pub takes_grow : (ns rest : List Note) (a b : Kept) (new : List ℕ) → Takes TakesNote a ns b → b.lost ≡ false → Grows a.names rest b.text new
    → Grows a.names (filter (λ n. n.clock == a.ms) ns ++ rest) a.text new
takes_grow [] rest a b new same well g =
    let P : List ℕ → Type 0 = λ x. Grows a.names rest x new in subst P (ap (λ k. k.text) same) g
takes_grow (n ∷ ns) rest a b new (u, (stays, ms, names, heard), more) well g =
    let P : NameLists → Type 0 = λ x. Grows x rest b.text new in
    let Q : NameLists → Type 0 = λ x. Grows x (filter (λ m. m.clock == u.ms) ns ++ rest) u.text new in
    let R : ℕ → Type 0 = λ k. Grows a.names (filter (λ m. m.clock == k) ns ++ rest) u.text new in
    let behind = takes_grow ns rest u b new more well (subst P (sym names) g) in
    one_grows (n.clock == a.ms) a.names n (filter (λ m. m.clock == a.ms) ns) rest a.text u.text new (heard (takes_well ns u b more well)).1 (subst R ms (subst Q names behind))

-- ---- events up to the end of a millisecond

-- the next event comes in time
pub within_next : (ms clock : ℕ) (s : SimState) (e : Event) (es : List Event) (rest : SimState → List Event) → clock ≡ s.state.world.clock → nat_lt ms clock ≡ false → es ≡ e ∷ rest (after_event s e)
    → events_within ms s es ≡ e ∷ events_within ms (after_event s e) (rest (after_event s e))
within_next ms clock s e es rest at before next =
    ap (λ l. events_within ms s l) next ∙ ap (λ f. if f then [] else e ∷ events_within ms (after_event s e) (rest (after_event s e))) (sym (ap (λ k. nat_lt ms k) at) ∙ before)

-- it comes after it
pub within_past : (ms clock : ℕ) (s : SimState) (e : Event) (es rest : List Event) → clock ≡ s.state.world.clock → nat_lt ms clock ≡ true → es ≡ e ∷ rest → events_within ms s es ≡ []
within_past ms clock s e es rest at past next =
    ap (λ l. events_within ms s l) next ∙ ap (λ f. if f then [] else e ∷ events_within ms (after_event s e) rest) (sym (ap (λ k. nat_lt ms k) at) ∙ past)

-- no event comes
pub within_none : (ms : ℕ) (s : SimState) (es : List Event) → es ≡ [] → events_within ms s es ≡ []
within_none ms s es none = ap (λ l. events_within ms s l) none

-- ---- a run of them

-- nothing came
none_grows : (a b : Kept) → b ≡ a → b.lost ≡ false → (a.lost ≡ false) × (b.text ≡ a.text)
none_grows a b same well = (sym (ap (λ k. k.lost) same) ∙ well, ap (λ k. k.text) same)

-- an event, and then others
one_event : (s t : SimState) (e : Event) (es : List Event) (a d c b : Kept) → d ≡ a → Takes TakesNote d (notes_of s e) c
    → (c.lost ≡ true → (t ≡ after_event s e) × (b ≡ c) × IsInOrder (after_event s e)) → (c.lost ≡ false → GrowsBy (notes_within a.ms (after_event s e) es) c b)
    → GrowsBy (filter (λ n. n.clock == a.ms) (notes_of s e) ++ notes_within a.ms (after_event s e) es) a b
one_event s t e es a d c b stays took ends more well = go c.lost refl
  where
    taken : Takes TakesNote a (notes_of s e) c
    taken = let P : Kept → Type 0 = λ k. Takes TakesNote k (notes_of s e) c in subst P stays took

    go : (f : Bool) → c.lost ≡ f → (a.lost ≡ false) × Grows a.names (filter (λ n. n.clock == a.ms) (notes_of s e) ++ notes_within a.ms (after_event s e) es) a.text b.text
    go true is = let bad : true ≡ false = sym is ∙ (sym (ap (λ (k : Kept). k.lost) (ends is).1) ∙ well) in absurd (cc)
    go false is =
        let P : NameLists → Type 0 = λ x. Grows x (notes_within a.ms (after_event s e) es) c.text b.text in
        let there = subst P (takes_names (notes_of s e) a c taken) (more is well).1 in
        (takes_well (notes_of s e) a c taken is, takes_grow (notes_of s e) (notes_within a.ms (after_event s e) es) a c b.text taken is there)

-- the next event, if it comes in time
next_grows : (e : Event) (es : List Event) (s : SimState) (a : Kept) (t : SimState) (b : Kept)
    → ((c : Kept) → Observed (λ x m e y. y ≡ x) TakesNote (λ k. k.lost) (events_within c.ms (after_event s e) es) (after_event s e) c t b → GrowsBy (notes_within c.ms (after_event s e) es) c b)
    → (f : Bool) → Observed (λ x m e y. y ≡ x) TakesNote (λ k. k.lost) (if f then [] else e ∷ events_within a.ms (after_event s e) es) s a t b
    → GrowsBy (if f then [] else filter (λ n. n.clock == a.ms) (notes_of s e) ++ notes_within a.ms (after_event s e) es) a b
next_grows e es s a t b rest true (still, same, order) = none_grows a b same
next_grows e es s a t b rest false (d, c, stays, took, order, goes, ends, more) =
    let Run : ℕ → Type 0 = λ k. Observed (λ x m e y. y ≡ x) TakesNote (λ k. k.lost) (events_within k (after_event s e) es) (after_event s e) c t b in
    let Grown : ℕ → Type 0 = λ k. GrowsBy (notes_within k (after_event s e) es) c b in
    let P : Kept → Type 0 = λ k. Takes TakesNote k (notes_of s e) c in
    let ms : c.ms ≡ a.ms = takes_ms (notes_of s e) a c (subst P stays took) in
    one_event s t e es a d c b stays took ends (λ f. subst Grown ms (rest c (subst Run (sym ms) (more f))))

-- the page grows by the notes of the millisecond
pub observed_grows : (es : List Event) (s : SimState) (a : Kept) (t : SimState) (b : Kept) → Observed (λ x m e y. y ≡ x) TakesNote (λ k. k.lost) (events_within a.ms s es) s a t b
    → GrowsBy (notes_within a.ms s es) a b
observed_grows [] s a t b (still, same, order) = none_grows a b same
observed_grows (e ∷ es) s a t b ran = next_grows e es s a t b (λ c x. observed_grows es (after_event s e) c t b x) (nat_lt a.ms s.state.world.clock) ran

-- and so by those of that number
pub until_grows : (ms : ℕ) (es : List Event) (s : SimState) (a : Kept) (t : SimState) (b : Kept) → a.ms ≡ ms → Observed (λ x m e y. y ≡ x) TakesNote (λ k. k.lost) (events_within ms s es) s a t b
    → GrowsBy (notes_within a.ms s es) a b
until_grows ms es s a t b is ran =
    let Run : ℕ → Type 0 = λ k. Observed (λ x m e y. y ≡ x) TakesNote (λ k. k.lost) (events_within k s es) s a t b in
    observed_grows es s a t b (subst Run (sym is) ran)

-- ---- the whole page

-- a page that grew from nothing by the lines of these notes, and then by what is left
pub lines_of_end : (names : NameLists) (ms : ℕ) (s : SimState) (es : List Event) (a b : Kept) (rest page : List ℕ)
    → GrowsBy (notes_within a.ms s es) a b → a.ms ≡ ms → a.names ≡ names → a.text ≡ [] → b.lost ≡ false → page ≡ b.text ++ rest
    → HasLines names (notes_within ms s es) page
lines_of_end names ms s es a b rest page grows is_ms is_names empty well whole =
    let P : List ℕ → Type 0 = λ x. Grows a.names (notes_within a.ms s es) x b.text in
    let Q : NameLists → Type 0 = λ x. Grows x (notes_within a.ms s es) [] b.text in
    let R : ℕ → Type 0 = λ k. Grows names (notes_within k s es) [] b.text in
    record { lines = b.text; rest = rest; grown = subst R is_ms (subst Q is_names (subst P empty (grows well).1)); whole = whole }
