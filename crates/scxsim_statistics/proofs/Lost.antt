-- What is counted of lost milliseconds is what the notes and the events say.
use Rattle.std.proofs.Common.{◌≡◌, ℕ, zero, suc, ◌+◌, ◌<◌, ◌≤◌, Bool, true, false, ◌&&◌, cond, List, [], ◌∷◌, length, refl, sym, ap, subst, ◌∙◌, arith, ◌⊎◌, inl, inr, is_none}
use Rattle.std.specs.List.{list_any}
use Rattle.std.proofs.lemmas.Bool.{cases_eq, cases_lt, le-ltb}
use Rattle.std.proofs.lemmas.List.{length-set, get_or-set_same, get_or-set_other}
use Rattle.scx_sched_world.specs.declared.notes.Note.{Note}
use Rattle.scx_sched_world.specs.World.{WorldState, running}
use Rattle.scx_sched_machine.specs.declared.events.Event.{Event}
use Rattle.scx_sched_machine.specs.declared.events.Event.TheVariants as event
use Rattle.scx_sched.specs.Sim.{SimState, after_event, notes_of}
use Rattle.scxsim_views.specs.declared.pauses.Doing.{Doing}
use Rattle.scxsim_views.specs.Pauses.{waits}
use Rattle.scxsim_views.specs.Watching.{noted_all, kept_of_all}
use Rattle.scxsim_views.specs.Lengths.{one_if, at_most_64_bits, up}
use Rattle.scxsim_statistics.specs.Losses.{has_work, is_wasted, wasted_below, lost_at, one_lost, lost_below, loses, lost_if}
use Rattle.scxsim_statistics.specs.Counting.{RunCounts, counts_after_note, counts_after_event}
use Rattle.scxsim_statistics.specs.Figures.{begins_ticks, doing_after_notes, lost_in, lost_anywhere_in}
use Rattle.scxsim_statistics.proofs.Told.{more_if}

-- ---- one millisecond

length_lost : (n : ℕ) (w : WorldState) (ds : List Doing) (xs : List ℕ) → length (lost_below n w ds xs) ≡ length xs
length_lost zero w ds xs = refl
length_lost (suc n) w ds xs = by_test (is_wasted w n ds) ∙ length_lost n w ds xs
  where
    by_test : (b : Bool) → length (cond b (one_lost (lost_below n w ds xs) n) (lost_below n w ds xs)) ≡ length (lost_below n w ds xs)
    by_test true = length-set (lost_below n w ds xs) n (up (lost_at (lost_below n w ds xs) n))
    by_test false = refl

-- another processor than the last one
elsewhere : (b : Bool) (ys : List ℕ) (n c : ℕ) → (c ≡ n → ⊥) → lost_at (cond b (one_lost ys n) ys) c ≡ lost_at ys c
elsewhere true ys n c other = get_or-set_other ys n c (up (lost_at ys n)) 0 other
elsewhere false ys n c other = refl

not_lost : (n c : ℕ) (w : WorldState) (ds : List Doing) (xs : List ℕ) → n ≤ c → lost_at (lost_below n w ds xs) c ≡ lost_at xs c
not_lost zero c w ds xs le = refl
not_lost (suc n) c w ds xs le =
    elsewhere (is_wasted w n ds) (lost_below n w ds xs) n c (λ e. omega (arith, e, le)) ∙ not_lost n c w ds xs (omega (arith, le))

is_lost : (n c : ℕ) (w : WorldState) (ds : List Doing) (xs : List ℕ) → c < n → c < length xs → lost_at (lost_below n w ds xs) c ≡ cond (is_wasted w c ds) (up (lost_at xs c)) (lost_at xs c)
is_lost zero c w ds xs below within = absurd (omega (arith, below))
is_lost (suc n) c w ds xs below within = go (cases_eq c n) (λ less. is_lost n c w ds xs less within)
  where
    here : (b : Bool) → c < length (lost_below n w ds xs) → lost_at (cond b (one_lost (lost_below n w ds xs) c) (lost_below n w ds xs)) c ≡ cond b (up (lost_at (lost_below n w ds xs) c)) (lost_at (lost_below n w ds xs) c)
    here true within' = get_or-set_same (lost_below n w ds xs) c (up (lost_at (lost_below n w ds xs) c)) 0 within'
    here false within' = refl

    go : (c ≡ n) ⊎ (c ≡ n → ⊥) → (c < n → lost_at (lost_below n w ds xs) c ≡ cond (is_wasted w c ds) (up (lost_at xs c)) (lost_at xs c))
        → lost_at (lost_below (suc n) w ds xs) c ≡ cond (is_wasted w c ds) (up (lost_at xs c)) (lost_at xs c)
    go (inl e) before =
        let P : ℕ → Type 0 = λ k. lost_at (cond (is_wasted w k ds) (one_lost (lost_below n w ds xs) k) (lost_below n w ds xs)) c ≡ cond (is_wasted w c ds) (up (lost_at xs c)) (lost_at xs c) in
        subst P e (here (is_wasted w c ds) (subst (λ m. c < m) (sym (length_lost n w ds xs)) within)
        ∙ ap (λ v. cond (is_wasted w c ds) (up v) v) (not_lost n c w ds xs (subst (λ k. k ≤ c) e (omega arith))))
    go (inr other) before =
        elsewhere (is_wasted w n ds) (lost_below n w ds xs) n c other ∙ before (omega (arith, below, other))

-- a CPU that isn't there loses nothing
past : (w : WorldState) (ds : List Doing) (c : ℕ) → length w.cpus ≤ c → is_wasted w c ds ≡ false
past w ds c le = ap (λ b. (b && is_none (running w c)) && has_work w c ds) (le-ltb c (length w.cpus) le)

lost_one : (c : ℕ) (w : WorldState) (ds : List Doing) (xs : List ℕ) → c < length xs → lost_at (lost_below (length w.cpus) w ds xs) c ≡ cond (is_wasted w c ds) (up (lost_at xs c)) (lost_at xs c)
lost_one c w ds xs within = go (cases_lt c (length w.cpus))
  where
    go : (c < length w.cpus) ⊎ (length w.cpus ≤ c) → lost_at (lost_below (length w.cpus) w ds xs) c ≡ cond (is_wasted w c ds) (up (lost_at xs c)) (lost_at xs c)
    go (inl there) = is_lost (length w.cpus) c w ds xs there within
    go (inr out) = not_lost (length w.cpus) c w ds xs out ∙ ap (λ b. cond b (up (lost_at xs c)) (lost_at xs c)) (sym (past w ds c out))

lost_of : (b : Bool) (c : ℕ) (w : WorldState) (ds : List Doing) (xs : List ℕ) → c < length xs → lost_at (lost_if b w ds xs) c ≡ cond (b && is_wasted w c ds) (up (lost_at xs c)) (lost_at xs c)
lost_of true c w ds xs within = lost_one c w ds xs within
lost_of false c w ds xs within = refl

length_if : (b : Bool) (w : WorldState) (ds : List Doing) (xs : List ℕ) → length (lost_if b w ds xs) ≡ length xs
length_if true w ds xs = length_lost (length w.cpus) w ds xs
length_if false w ds xs = refl

-- ---- events and notes

-- what an event makes of what is lost
pub record IsEvent (s : SimState) (e : Event) (k : RunCounts) : Type 0 where
  pub there : length (counts_after_event s e k).lost ≡ length k.lost
  pub doing : (counts_after_event s e k).doing ≡ k.doing
  pub lost : (c : ℕ) → c < length k.lost
      → lost_at (counts_after_event s e k).lost c ≡ cond ((begins_ticks e && list_any waits k.doing) && is_wasted s.state.world c k.doing) (up (lost_at k.lost c)) (lost_at k.lost c)
  pub anywhere : (counts_after_event s e k).anywhere ≡ cond ((begins_ticks e && list_any waits k.doing) && wasted_below (length s.state.world.cpus) s.state.world k.doing) (up k.anywhere) k.anywhere

event_told : (s : SimState) (e : Event) (k : RunCounts) → IsEvent s e k
event_told s (event.Tick b) k = record {
  there = length_if (loses b k.doing) s.state.world k.doing k.lost;
  doing = refl;
  lost = λ c within. lost_of (loses b k.doing) c s.state.world k.doing k.lost within;
  anywhere = refl;
}
event_told s (event.Wake t) k = record { there = refl; doing = refl; lost = λ c within. refl; anywhere = refl }
event_told s (event.Sleep t) k = record { there = refl; doing = refl; lost = λ c within. refl; anywhere = refl }
event_told s event.Clock k = record { there = refl; doing = refl; lost = λ c within. refl; anywhere = refl }
event_told s (event.SetWeight g x) k = record { there = refl; doing = refl; lost = λ c within. refl; anywhere = refl }
event_told s (event.SetTaskWeight t x) k = record { there = refl; doing = refl; lost = λ c within. refl; anywhere = refl }

-- notes change what tasks do, and nothing of what is lost
pub record AreNoted (ns : List Note) (k j : RunCounts) : Type 0 where
  pub doing : j.doing ≡ doing_after_notes ns k.doing
  pub lost : j.lost ≡ k.lost
  pub anywhere : j.anywhere ≡ k.anywhere

notes_told : (ns : List Note) (k : RunCounts) → AreNoted ns k (noted_all counts_after_note ns k)
notes_told [] k = record { doing = refl; lost = refl; anywhere = refl }
notes_told (n ∷ ns) k =
    let later = notes_told ns (counts_after_note n.clock n.what k) in
    record { doing = later.doing; lost = later.lost; anywhere = later.anywhere }

-- ---- a run

added : (a m n : ℕ) → (a + m) + n ≡ a + (m + n)
added a m n = omega arith

none : (a : ℕ) → a ≡ a + 0
none a = omega arith

-- what a processor lost in a run is added to what was counted before
pub lost_told : (c : ℕ) (es : List Event) (s : SimState) (k : RunCounts) (a : ℕ) → c < length k.lost → lost_at k.lost c ≡ at_most_64_bits a
    → lost_at (kept_of_all counts_after_event counts_after_note s es k).lost c ≡ at_most_64_bits (a + lost_in c k.doing s es)
lost_told c [] s k a within is = is ∙ ap at_most_64_bits (none a)
lost_told c (e ∷ es) s k a within is =
    let test = (begins_ticks e && list_any waits k.doing) && is_wasted s.state.world c k.doing in
    let at_event = event_told s e k in
    let notes = notes_told (notes_of s e) (counts_after_event s e k) in
    let behind = noted_all counts_after_note (notes_of s e) (counts_after_event s e k) in
    let one = more_if test (lost_at k.lost c) (lost_at (counts_after_event s e k).lost c) a is (at_event.lost c within) in
    let doing : behind.doing ≡ doing_after_notes (notes_of s e) k.doing = notes.doing ∙ ap (λ ds. doing_after_notes (notes_of s e) ds) at_event.doing in
    let later = lost_told c es (after_event s e) behind (a + one_if test) (subst (λ m. c < m) (sym (ap (λ xs. length xs) notes.lost ∙ at_event.there)) within) (ap (λ xs. lost_at xs c) notes.lost ∙ one) in
    later ∙ ap (λ ds. at_most_64_bits ((a + one_if test) + lost_in c ds (after_event s e) es)) doing
    ∙ ap at_most_64_bits (added a (one_if test) (lost_in c (doing_after_notes (notes_of s e) k.doing) (after_event s e) es))

-- the same of some processor
pub anywhere_told : (es : List Event) (s : SimState) (k : RunCounts) (a : ℕ) → k.anywhere ≡ at_most_64_bits a
    → (kept_of_all counts_after_event counts_after_note s es k).anywhere ≡ at_most_64_bits (a + lost_anywhere_in k.doing s es)
anywhere_told [] s k a is = is ∙ ap at_most_64_bits (none a)
anywhere_told (e ∷ es) s k a is =
    let test = (begins_ticks e && list_any waits k.doing) && wasted_below (length s.state.world.cpus) s.state.world k.doing in
    let at_event = event_told s e k in
    let notes = notes_told (notes_of s e) (counts_after_event s e k) in
    let behind = noted_all counts_after_note (notes_of s e) (counts_after_event s e k) in
    let one = more_if test k.anywhere (counts_after_event s e k).anywhere a is at_event.anywhere in
    let doing : behind.doing ≡ doing_after_notes (notes_of s e) k.doing = notes.doing ∙ ap (λ ds. doing_after_notes (notes_of s e) ds) at_event.doing in
    let later = anywhere_told es (after_event s e) behind (a + one_if test) (notes.anywhere ∙ one) in
    later ∙ ap (λ ds. at_most_64_bits ((a + one_if test) + lost_anywhere_in ds (after_event s e) es)) doing
    ∙ ap at_most_64_bits (added a (one_if test) (lost_anywhere_in (doing_after_notes (notes_of s e) k.doing) (after_event s e) es))
