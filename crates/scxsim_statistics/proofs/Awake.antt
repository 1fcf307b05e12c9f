-- What is counted of the bursts of one task is what the notes and the events say.
use Rattle.std.proofs.Common.{◌≡◌, ℕ, suc, ◌+◌, ◌-◌, ◌<◌, ◌^◌, min, max, Bool, true, false, cond, eqb, List, [], ◌∷◌, ◌++◌, length, refl, sym, ap, subst, ◌∙◌, arith}
use Rattle.std.specs.Prelude.{sum}
use Rattle.std.proofs.lemmas.List.{length-set}
use Rattle.std.proofs.lemmas.List.Sums.{sum_by-cons}
use Rattle.scx_sched_world.specs.declared.notes.Note.{Note}
use Rattle.scx_sched_world.specs.declared.notes.What.{What}
use Rattle.scx_sched_world.specs.declared.notes.What.TheVariants.{Wake, Sleep, Insert, Move, Run, Stop, Idle, Weight, TaskWeight, Stall, Fault, Exit}
use Rattle.scx_sched_world.specs.World.{task_at}
use Rattle.scx_sched_machine.specs.declared.events.Event.{Event}
use Rattle.scx_sched_machine.specs.declared.events.Event.TheVariants as event
use Rattle.scx_sched.specs.Sim.{SimState, after_event, notes_of}
use Rattle.scx_load_driver.specs.Runs.{notes_of_all}
use Rattle.scxsim_trace.specs.Report.{ran_ms}
use Rattle.scxsim_views.specs.Watching.{noted_all, kept_of_all}
use Rattle.scxsim_statistics.specs.declared.bursts.BurstFigures.{BurstFigures}
use Rattle.scxsim_views.specs.Lengths.{Lengths, at_most_64_bits, with_length}
use Rattle.scxsim_statistics.specs.Bursts.{no_bursts, bursts_at, burst_ms, with_woke, with_burst, with_ran, bursts_noted}
use Rattle.scxsim_statistics.specs.Counting.{RunCounts, counts_after_note, counts_after_event}
use Rattle.scxsim_statistics.specs.Figures.{is_wake, is_sleep, burst_if, bursts_in, bursts_of, greatest, sends_to_sleep, ran_asleep_in, IsOfBursts}
use Rattle.scxsim_statistics.proofs.Places.{at_changed, at_changed_by, part_stays}
use Rattle.scxsim_views.proofs.Percentiles.{times_with, are_percentiles}
use Rattle.scxsim_statistics.proofs.Told.{one_more, IsLongest, longest_made, longest_stays, max_none, max_shifted}

-- ---- what is kept of one task, but for how long it ran

record Row : Type 0 where
  pub lengths : Lengths
  pub woke : ℕ

abbrev row_in : BurstFigures → Row
row_in x = record { lengths = x.lengths; woke = x.woke }

abbrev row : ℕ → RunCounts → Row
row t k = row_in (bursts_at k.bursts t)

abbrev ended_if : Bool → ℕ → Row → Row
ended_if true clock r = record r { lengths = with_length r.woke (burst_ms r.woke clock) r.lengths }
ended_if false clock r = r

abbrev begun_if : Bool → ℕ → Row → Row
begun_if true clock r = record r { woke = clock }
begun_if false clock r = r

abbrev row_noted : ℕ → Note → Row → Row
row_noted t n r = begun_if (is_wake t n.what) n.clock (ended_if (is_sleep t n.what) n.clock r)

abbrev row_all : ℕ → List Note → Row → Row
row_all t [] r = r
row_all t (n ∷ ns) r = row_all t ns (row_noted t n r)

-- one note

wake_said : (b : Bool) (clock : ℕ) (x : BurstFigures) → row_in (cond b (with_woke clock x) x) ≡ begun_if b clock (row_in x)
wake_said true clock x = refl
wake_said false clock x = refl

sleep_said : (b : Bool) (clock : ℕ) (x : BurstFigures) → row_in (cond b (with_burst clock x) x) ≡ ended_if b clock (row_in x)
sleep_said true clock x = refl
sleep_said false clock x = refl

note_one : (what : What) (clock : ℕ) (xs : List BurstFigures) (t : ℕ) → t < length xs
    → row_in (bursts_at (bursts_noted clock what xs) t) ≡ row_noted t (record { clock = clock; what = what }) (row_in (bursts_at xs t))
note_one (Wake u) clock xs t within = ap row_in (at_changed (with_woke clock) xs u t no_bursts within) ∙ wake_said (eqb t u) clock (bursts_at xs t)
note_one (Sleep u) clock xs t within = ap row_in (at_changed (with_burst clock) xs u t no_bursts within) ∙ sleep_said (eqb t u) clock (bursts_at xs t)
note_one (Insert u queue) clock xs t within = refl
note_one (Move u c) clock xs t within = refl
note_one (Run u c) clock xs t within = refl
note_one (Stop u c) clock xs t within = refl
note_one (Idle c) clock xs t within = refl
note_one (Weight g x) clock xs t within = refl
note_one (TaskWeight u x) clock xs t within = refl
note_one (Stall u) clock xs t within = refl
note_one (Fault f) clock xs t within = refl
note_one (Exit n) clock xs t within = refl

note_keeps_ran : (what : What) (clock : ℕ) (xs : List BurstFigures) (t : ℕ) → t < length xs → (bursts_at (bursts_noted clock what xs) t).ran ≡ (bursts_at xs t).ran
note_keeps_ran (Wake u) clock xs t within = part_stays (λ (x : BurstFigures). x.ran) (with_woke clock) xs u t no_bursts (λ x. refl) within
note_keeps_ran (Sleep u) clock xs t within = part_stays (λ (x : BurstFigures). x.ran) (with_burst clock) xs u t no_bursts (λ x. refl) within
note_keeps_ran (Insert u queue) clock xs t within = refl
note_keeps_ran (Move u c) clock xs t within = refl
note_keeps_ran (Run u c) clock xs t within = refl
note_keeps_ran (Stop u c) clock xs t within = refl
note_keeps_ran (Idle c) clock xs t within = refl
note_keeps_ran (Weight g x) clock xs t within = refl
note_keeps_ran (TaskWeight u x) clock xs t within = refl
note_keeps_ran (Stall u) clock xs t within = refl
note_keeps_ran (Fault f) clock xs t within = refl
note_keeps_ran (Exit n) clock xs t within = refl

length_noted : (what : What) (clock : ℕ) (xs : List BurstFigures) → length (bursts_noted clock what xs) ≡ length xs
length_noted (Wake u) clock xs = length-set xs u (with_woke clock (bursts_at xs u))
length_noted (Sleep u) clock xs = length-set xs u (with_burst clock (bursts_at xs u))
length_noted (Insert u queue) clock xs = refl
length_noted (Move u c) clock xs = refl
length_noted (Run u c) clock xs = refl
length_noted (Stop u c) clock xs = refl
length_noted (Idle c) clock xs = refl
length_noted (Weight g x) clock xs = refl
length_noted (TaskWeight t x) clock xs = refl
length_noted (Stall u) clock xs = refl
length_noted (Fault f) clock xs = refl
length_noted (Exit n) clock xs = refl

-- several notes

record AreNoted (t : ℕ) (ns : List Note) (k j : RunCounts) : Type 0 where
  pub there : t < length j.bursts
  pub same : row t j ≡ row_all t ns (row t k)
  pub ran : (bursts_at j.bursts t).ran ≡ (bursts_at k.bursts t).ran

notes_told : (t : ℕ) (ns : List Note) (k : RunCounts) → t < length k.bursts → AreNoted t ns k (noted_all counts_after_note ns k)
notes_told t [] k within = record { there = within; same = refl; ran = refl }
notes_told t (n ∷ ns) k within =
    let later = notes_told t ns (counts_after_note n.clock n.what k) (subst (λ m. t < m) (sym (length_noted n.what n.clock k.bursts)) within) in
    record {
      there = later.there;
      same = later.same ∙ ap (λ r. row_all t ns r) (note_one n.what n.clock k.bursts t within);
      ran = later.ran ∙ note_keeps_ran n.what n.clock k.bursts t within;
    }

-- ---- events

ran_said : (b : Bool) (ms : ℕ) (x : BurstFigures) → (cond b (with_ran ms x) x).ran ≡ cond b ms x.ran
ran_said true ms x = refl
ran_said false ms x = refl

row_said : (b : Bool) (ms : ℕ) (x : BurstFigures) → row_in (cond b (with_ran ms x) x) ≡ row_in x
row_said true ms x = refl
row_said false ms x = refl

record IsEvent (t : ℕ) (s : SimState) (e : Event) (k : RunCounts) : Type 0 where
  pub there : t < length (counts_after_event s e k).bursts
  pub same : row t (counts_after_event s e k) ≡ row t k
  pub ran : (bursts_at (counts_after_event s e k).bursts t).ran ≡ cond (sends_to_sleep t e) (ran_ms (task_at s.state.world t)) (bursts_at k.bursts t).ran

event_told : (t : ℕ) (s : SimState) (e : Event) (k : RunCounts) → t < length k.bursts → IsEvent t s e k
event_told t s (event.Sleep u) k within =
    let ran : ℕ → ℕ = λ i. ran_ms (task_at s.state.world i) in
    let at = at_changed_by (λ i x. with_ran (ran i) x) k.bursts u t no_bursts within in
    record {
      there = subst (λ m. t < m) (sym (length-set k.bursts u (with_ran (ran u) (bursts_at k.bursts u)))) within;
      same = ap row_in at ∙ row_said (eqb t u) (ran t) (bursts_at k.bursts t);
      ran = ap (λ (x : BurstFigures). x.ran) at ∙ ran_said (eqb t u) (ran t) (bursts_at k.bursts t);
    }
event_told t s (event.Wake u) k within = record { there = within; same = refl; ran = refl }
event_told t s (event.Tick c) k within = record { there = within; same = refl; ran = refl }
event_told t s event.Clock k within = record { there = within; same = refl; ran = refl }
event_told t s (event.SetWeight g x) k within = record { there = within; same = refl; ran = refl }
event_told t s (event.SetTaskWeight u x) k within = record { there = within; same = refl; ran = refl }

row_all_append : (t : ℕ) (ns ms : List Note) (r : Row) → row_all t (ns ++ ms) r ≡ row_all t ms (row_all t ns r)
row_all_append t [] ms r = refl
row_all_append t (n ∷ ns) ms r = row_all_append t ns ms (row_noted t n r)

-- what is kept of a task after a run is what the notes of the run make of it, and how long it had
-- run as it went to sleep last
bursts_told : (t : ℕ) (es : List Event) (s : SimState) (k : RunCounts) → t < length k.bursts
    → (row t (kept_of_all counts_after_event counts_after_note s es k) ≡ row_all t (notes_of_all s es) (row t k))
    × ((bursts_at (kept_of_all counts_after_event counts_after_note s es k).bursts t).ran ≡ ran_asleep_in t (bursts_at k.bursts t).ran s es)
bursts_told t [] s k within = (refl, refl)
bursts_told t (e ∷ es) s k within =
    let at_event = event_told t s e k within in
    let notes = notes_told t (notes_of s e) (counts_after_event s e k) at_event.there in
    let later = bursts_told t es (after_event s e) (noted_all counts_after_note (notes_of s e) (counts_after_event s e k)) notes.there in (
      later.0 ∙ ap (λ r. row_all t (notes_of_all (after_event s e) es) r) (notes.same ∙ ap (λ r. row_all t (notes_of s e) r) at_event.same)
          ∙ sym (row_all_append t (notes_of s e) (notes_of_all (after_event s e) es) (row t k)),
      later.1 ∙ ap (λ ran. ran_asleep_in t ran (after_event s e) es) (notes.ran ∙ at_event.ran),
    )

-- ---- how many, their sum, and the longest

capped_sum : (v a l : ℕ) → v ≡ at_most_64_bits a → at_most_64_bits (v + l) ≡ at_most_64_bits (a + l)
capped_sum v a l e = rw e (twice_capped a l (2 ^ 64 - 1))
  where
    twice_capped : (a l m : ℕ) → min (min a m + l) m ≡ min (a + l) m
    twice_capped a l m = omega arith

record IsTold (a b m : ℕ) (ts : List (ℕ × ℕ)) (ls : List ℕ) (x : Lengths) : Type 0 where
  pub count : x.count ≡ at_most_64_bits (a + length ls)
  pub total : x.total ≡ at_most_64_bits (b + sum ls)
  pub longest : x.longest ≡ max m (greatest ls)
  pub times : x.times ≡ times_with ls ts

none_told : (t : ℕ) (r : Row) (a b : ℕ) → r.lengths.count ≡ at_most_64_bits a → r.lengths.total ≡ at_most_64_bits b → IsTold a b r.lengths.longest r.lengths.times [] r.lengths
none_told t r a b count total = record {
  count = count ∙ ap at_most_64_bits (none a);
  total = total ∙ ap at_most_64_bits (none b);
  longest = max_none r.lengths.longest;
  times = refl;
}
  where
    none : (a : ℕ) → a ≡ a + 0
    none a = omega arith

-- what notes make of any row is told
abbrev AreTold : ℕ → List Note → Type 0
AreTold t ns =
    (r : Row) (a b : ℕ) → r.lengths.count ≡ at_most_64_bits a → r.lengths.total ≡ at_most_64_bits b → IsLongest r.lengths
    → IsTold a b r.lengths.longest r.lengths.times (bursts_in t r.woke ns) (row_all t ns r).lengths

-- behind a wake, or behind none
behind : (t : ℕ) (ns : List Note) (wake : Bool) (clock : ℕ) (q : Row) (c d : ℕ) → AreTold t ns → q.lengths.count ≡ at_most_64_bits c → q.lengths.total ≡ at_most_64_bits d → IsLongest q.lengths
    → IsTold c d q.lengths.longest q.lengths.times (bursts_in t (cond wake clock q.woke) ns) (row_all t ns (begun_if wake clock q)).lengths
behind t ns true clock q c d told count total first = told (record { lengths = q.lengths; woke = clock }) c d count total first
behind t ns false clock q c d told count total first = told q c d count total first

one_told : (t : ℕ) (ns : List Note) (sleep wake : Bool) (clock : ℕ) (r : Row) (a b : ℕ) → AreTold t ns → r.lengths.count ≡ at_most_64_bits a → r.lengths.total ≡ at_most_64_bits b → IsLongest r.lengths
    → IsTold a b r.lengths.longest r.lengths.times (burst_if sleep r.woke clock ++ bursts_in t (cond wake clock r.woke) ns) (row_all t ns (begun_if wake clock (ended_if sleep clock r))).lengths
one_told t ns false wake clock r a b told count total first = behind t ns wake clock r a b told count total first
one_told t ns true wake clock r a b told count total first =
    let ms = burst_ms r.woke clock in
    let rest = bursts_in t (cond wake clock r.woke) ns in
    let later = behind t ns wake clock (ended_if true clock r) (a + 1) (b + ms) told (one_more r.lengths.count a count) (capped_sum r.lengths.total b ms total) (longest_stays r.woke ms r.lengths) in
    record {
      count = later.count ∙ ap at_most_64_bits (shifted a (length rest));
      total = later.total ∙ ap at_most_64_bits (added b ms (sum rest) ∙ ap (λ n. b + n) (sym (sum_by-cons (λ x. x) ms rest)));
      longest = later.longest ∙ ap (λ m. max m (greatest rest)) (longest_made r.woke ms r.lengths first) ∙ max_shifted r.lengths.longest ms (greatest rest);
      times = later.times;
    }
  where
    shifted : (a n : ℕ) → (a + 1) + n ≡ a + suc n
    shifted a n = omega arith

    added : (a m n : ℕ) → (a + m) + n ≡ a + (m + n)
    added a m n = omega arith

lengths_told : (t : ℕ) (ns : List Note) (r : Row) (a b : ℕ) → r.lengths.count ≡ at_most_64_bits a → r.lengths.total ≡ at_most_64_bits b → IsLongest r.lengths
    → IsTold a b r.lengths.longest r.lengths.times (bursts_in t r.woke ns) (row_all t ns r).lengths
lengths_told t [] r a b count total first = none_told t r a b count total
lengths_told t (n ∷ ns) r a b count total first = one_told t ns (is_sleep t n.what) (is_wake t n.what) n.clock r a b (lengths_told t ns) count total first

-- of a task of which nothing was counted before the run
pub are_of_bursts : (t : ℕ) (s : SimState) (es : List Event) (k : RunCounts) → t < length k.bursts → bursts_at k.bursts t ≡ no_bursts
    → IsOfBursts t s es (notes_of_all s es) (bursts_at (kept_of_all counts_after_event counts_after_note s es k).bursts t)
are_of_bursts t s es k within unused =
    let ns = notes_of_all s es in
    let told = bursts_told t es s k within in
    let lengths = lengths_told t ns (row_in no_bursts) 0 0 refl refl (λ e. refl) in
    let same = told.0 ∙ ap (λ x. row_all t ns (row_in x)) unused in
    let at : (f : Lengths → ℕ) → f (bursts_at (kept_of_all counts_after_event counts_after_note s es k).bursts t).lengths ≡ f (row_all t ns (row_in no_bursts)).lengths = λ f. ap (λ (r : Row). f r.lengths) same in
    let count = at (λ x. x.count) ∙ lengths.count ∙ ap at_most_64_bits (from_0 (length (bursts_of t ns))) in
    let times = ap (λ (r : Row). r.lengths.times) same ∙ lengths.times in
    record {
      count = count;
      total = at (λ x. x.total) ∙ lengths.total ∙ ap at_most_64_bits (from_0 (sum (bursts_of t ns)));
      longest = at (λ x. x.longest) ∙ lengths.longest ∙ from_none (greatest (bursts_of t ns));
      percentiles = are_percentiles (bursts_of t ns) (bursts_at (kept_of_all counts_after_event counts_after_note s es k).bursts t).lengths count times;
      ran = told.1 ∙ ap (λ (x : BurstFigures). ran_asleep_in t x.ran s es) unused;
    }
  where
    from_0 : (n : ℕ) → 0 + n ≡ n
    from_0 n = omega arith

    from_none : (a : ℕ) → max 0 a ≡ a
    from_none a = omega arith
