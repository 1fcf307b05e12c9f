-- What is counted of one task is what the notes say.
use Rattle.std.proofs.Common.{◌≡◌, ℕ, ◌+◌, ◌-◌, ◌^◌, min, max, Bool, true, false, not, ◌&&◌, ◌||◌, cond, eqb, ltb, List, [], ◌∷◌, ◌++◌, length, map, Option, None, Some, refl, sym, ap, ◌∙◌, arith}
use Rattle.std.specs.List.{filter}
use Rattle.scx_sched_world.specs.declared.notes.Note.{Note}
use Rattle.scx_sched_world.specs.declared.notes.What.{What}
use Rattle.scx_sched_world.specs.declared.notes.What.TheVariants.{Wake, Sleep, Insert, Move, Run, Stop, Idle, Weight, TaskWeight, Stall, Fault, Exit}
use Rattle.scxsim_views.specs.declared.pauses.Doing.{Doing}
use Rattle.scxsim_views.specs.declared.pauses.Doing.TheVariants.{Sleeps, Waits, Runs, IsParked}
use Rattle.scxsim_views.specs.declared.pauses.Pause.{Pause}
use Rattle.scxsim_views.specs.declared.pauses.PauseKind.{PauseKind}
use Rattle.scxsim_views.specs.declared.pauses.PauseKind.TheVariants as kind
use Rattle.scxsim_views.specs.Pauses.{sleeps, does, ending_pause}
use Rattle.scxsim_statistics.specs.declared.tally.TaskFigures.{TaskFigures}
use Rattle.scxsim_views.specs.Lengths as w
use Rattle.scxsim_views.specs.Lengths.{one_if, at_most_64_bits, up, length_of, with_length, with_wait}
use Rattle.scxsim_statistics.specs.Counting.{with_stop, with_pause_of, counted_for}
use Rattle.scxsim_statistics.specs.Figures.{is_of, does_at, does_after, to_list, ended_at, pauses_in, is_wait_kind, is_wait, longest_of, is_wake, is_stop, wakes_of, stops_in}
use Rattle.scxsim_views.proofs.Percentiles.{times_with}
use Rattle.scxsim_statistics.proofs.Rows.{with_option, Row, figures_noted, row_noted, row_all}

-- ---- a count that is capped

-- a capped count, counted up by one, is the capped count of one more
pub one_more : (v a : ℕ) → v ≡ at_most_64_bits a → up v ≡ at_most_64_bits (a + 1)
one_more v a e = rw e (twice_capped a (2 ^ 64 - 1))
  where
    twice_capped : (a m : ℕ) → min (min a m + 1) m ≡ min (a + 1) m
    twice_capped a m = omega arith

-- one more where the test passes
pub more_if : (b : Bool) (v x a : ℕ) → v ≡ at_most_64_bits a → x ≡ cond b (up v) v → x ≡ at_most_64_bits (a + one_if b)
more_if true v x a is more = more ∙ one_more v a is
more_if false v x a is more = more ∙ is ∙ ap at_most_64_bits (add_none a)
  where
    add_none : (a : ℕ) → a ≡ a + 0
    add_none a = omega arith

-- ---- wakes

-- a pause changes neither
pause_keeps : (q : Option Pause) (x : TaskFigures) → ((with_option q x).wakes ≡ x.wakes) × ((with_option q x).stopped ≡ x.stopped)
pause_keeps None x = (refl, refl)
pause_keeps (Some p) x = by_kind p.kind
  where
    by_kind : (k : PauseKind) → ((with_pause_of k p x).wakes ≡ x.wakes) × ((with_pause_of k p x).stopped ≡ x.stopped)
    by_kind kind.Wait = (refl, refl)
    by_kind kind.Parked = (refl, refl)

-- a note that says nothing of wakes, or of stops
other_wakes : (b : Bool) (now t : ℕ) (what : What) (d : Doing) (x : TaskFigures) → ((e : Doing) (y : TaskFigures) → (counted_for what e y).wakes ≡ y.wakes)
    → (figures_noted b now t what d x).wakes ≡ x.wakes
other_wakes true now t what d x keeps = keeps (does now what d) (with_option (ending_pause now t what d) x) ∙ (pause_keeps (ending_pause now t what d) x).0
other_wakes false now t what d x keeps = refl

other_stops : (b : Bool) (now t : ℕ) (what : What) (d : Doing) (x : TaskFigures) → ((e : Doing) (y : TaskFigures) → (counted_for what e y).stopped ≡ y.stopped)
    → (figures_noted b now t what d x).stopped ≡ x.stopped
other_stops true now t what d x keeps = keeps (does now what d) (with_option (ending_pause now t what d) x) ∙ (pause_keeps (ending_pause now t what d) x).1
other_stops false now t what d x keeps = refl

stop_keeps_wakes : (b : Bool) (x : TaskFigures) → (cond b x (with_stop x)).wakes ≡ x.wakes
stop_keeps_wakes true x = refl
stop_keeps_wakes false x = refl

wake_said : (b : Bool) (now t u : ℕ) (d : Doing) (x : TaskFigures) → (figures_noted b now t (Wake u) d x).wakes ≡ cond b (up x.wakes) x.wakes
wake_said true now t u d x = ap up (pause_keeps (ending_pause now t (Wake u) d) x).0
wake_said false now t u d x = refl

wakes_one : (now t : ℕ) (what : What) (d : Doing) (x : TaskFigures) → (figures_noted (is_of t what) now t what d x).wakes ≡ cond (is_wake t what) (up x.wakes) x.wakes
wakes_one now t (Wake u) d x = wake_said (eqb t u) now t u d x
wakes_one now t (Sleep u) d x = other_wakes (eqb t u) now t (Sleep u) d x (λ e y. refl)
wakes_one now t (Run u c) d x = other_wakes (eqb t u) now t (Run u c) d x (λ e y. refl)
wakes_one now t (Stop u c) d x = other_wakes (eqb t u) now t (Stop u c) d x (λ e y. stop_keeps_wakes (sleeps e) y)
wakes_one now t (Insert u queue) d x = other_wakes (eqb t u) now t (Insert u queue) d x (λ e y. refl)
wakes_one now t (Move u c) d x = refl
wakes_one now t (Idle c) d x = refl
wakes_one now t (Weight g v) d x = refl
wakes_one now t (TaskWeight u v) d x = refl
wakes_one now t (Stall u) d x = refl
wakes_one now t (Fault f) d x = refl
wakes_one now t (Exit n) d x = refl

none : (a : ℕ) → a ≡ a + 0
none a = omega arith

added : (a m n : ℕ) → (a + m) + n ≡ a + (m + n)
added a m n = omega arith

-- the wakes of a task in notes are added to those that were counted before
pub wakes_told : (t : ℕ) (ns : List Note) (r : Row) (a : ℕ) → r.figures.wakes ≡ at_most_64_bits a → (row_all t ns r).figures.wakes ≡ at_most_64_bits (a + wakes_of t ns)
wakes_told t [] r a is = is ∙ ap at_most_64_bits (none a)
wakes_told t (n ∷ ns) r a is =
    let b = is_wake t n.what in
    let one = more_if b r.figures.wakes (row_noted t n r).figures.wakes a is (wakes_one n.clock t n.what r.doing r.figures) in
    wakes_told t ns (row_noted t n r) (a + one_if b) one ∙ ap at_most_64_bits (added a (one_if b) (wakes_of t ns))

-- ---- stops

stop_said : (b : Bool) (now t u c : ℕ) (d : Doing) (x : TaskFigures) → (figures_noted b now t (Stop u c) d x).stopped ≡ cond (b && not (sleeps d)) (up x.stopped) x.stopped
stop_said true now t u c Sleeps x = refl
stop_said true now t u c (Waits since) x = refl
stop_said true now t u c Runs x = refl
stop_said true now t u c (IsParked since) x = refl
stop_said false now t u c d x = refl

stops_one : (now t : ℕ) (what : What) (d : Doing) (x : TaskFigures)
    → (figures_noted (is_of t what) now t what d x).stopped ≡ cond (is_stop t what && not (sleeps d)) (up x.stopped) x.stopped
stops_one now t (Stop u c) d x = stop_said (eqb t u) now t u c d x
stops_one now t (Wake u) d x = other_stops (eqb t u) now t (Wake u) d x (λ e y. refl)
stops_one now t (Sleep u) d x = other_stops (eqb t u) now t (Sleep u) d x (λ e y. refl)
stops_one now t (Run u c) d x = other_stops (eqb t u) now t (Run u c) d x (λ e y. refl)
stops_one now t (Insert u queue) d x = other_stops (eqb t u) now t (Insert u queue) d x (λ e y. refl)
stops_one now t (Move u c) d x = refl
stops_one now t (Idle c) d x = refl
stops_one now t (Weight g v) d x = refl
stops_one now t (TaskWeight u v) d x = refl
stops_one now t (Stall u) d x = refl
stops_one now t (Fault f) d x = refl
stops_one now t (Exit n) d x = refl

-- a task's stops in notes, but for those asleep, are added to those that were counted before
pub stops_told : (t : ℕ) (ns : List Note) (r : Row) (a : ℕ) → r.figures.stopped ≡ at_most_64_bits a → (row_all t ns r).figures.stopped ≡ at_most_64_bits (a + stops_in t r.doing ns)
stops_told t [] r a is = is ∙ ap at_most_64_bits (none a)
stops_told t (n ∷ ns) r a is =
    let b = is_stop t n.what && not (sleeps r.doing) in
    let one = more_if b r.figures.stopped (row_noted t n r).figures.stopped a is (stops_one n.clock t n.what r.doing r.figures) in
    stops_told t ns (row_noted t n r) (a + one_if b) one ∙ ap at_most_64_bits (added a (one_if b) (stops_in t (does_at t n r.doing) ns))

-- ---- pauses

-- what a row says that its task does after notes is what the task does behind them
pub does_told : (t : ℕ) (ns : List Note) (r : Row) → (row_all t ns r).doing ≡ does_after t r.doing ns
does_told t [] r = refl
does_told t (n ∷ ns) r = does_told t ns (row_noted t n r)

-- what pauses make of waits
abbrev pub waited_if : Bool → Pause → w.Lengths → w.Lengths
waited_if true p x = with_wait p x
waited_if false p x = x

abbrev pub waited_all : List Pause → w.Lengths → w.Lengths
waited_all [] x = x
waited_all (p ∷ ps) x = waited_all ps (waited_if (is_wait p) p x)

-- the pauses of two lists count in waits as those of one and then those of the other do
pub waited_append : (ps qs : List Pause) (x : w.Lengths) → waited_all (ps ++ qs) x ≡ waited_all qs (waited_all ps x)
waited_append [] qs x = refl
waited_append (p ∷ ps) qs x = waited_append ps qs (waited_if (is_wait p) p x)

-- a pause, if there is one, counts in a task's waits as a list of it alone does
pub pause_said : (q : Option Pause) (x : TaskFigures) → (with_option q x).waits ≡ waited_all (to_list q) x.waits
pause_said None x = refl
pause_said (Some p) x = by_kind p.kind
  where
    by_kind : (k : PauseKind) → (with_pause_of k p x).waits ≡ waited_if (is_wait_kind k) p x.waits
    by_kind kind.Wait = refl
    by_kind kind.Parked = refl

stop_keeps_waits : (b : Bool) (x : TaskFigures) → (cond b x (with_stop x)).waits ≡ x.waits
stop_keeps_waits true x = refl
stop_keeps_waits false x = refl

count_keeps_waits : (what : What) (d : Doing) (x : TaskFigures) → (counted_for what d x).waits ≡ x.waits
count_keeps_waits (Wake u) d x = refl
count_keeps_waits (Stop u c) d x = stop_keeps_waits (sleeps d) x
count_keeps_waits (Sleep u) d x = refl
count_keeps_waits (Run u c) d x = refl
count_keeps_waits (Insert u queue) d x = refl
count_keeps_waits (Move u c) d x = refl
count_keeps_waits (Idle c) d x = refl
count_keeps_waits (Weight g v) d x = refl
count_keeps_waits (TaskWeight t v) d x = refl
count_keeps_waits (Stall u) d x = refl
count_keeps_waits (Fault f) d x = refl
count_keeps_waits (Exit n) d x = refl

waits_one : (b : Bool) (now t : ℕ) (what : What) (d : Doing) (x : TaskFigures)
    → (figures_noted b now t what d x).waits ≡ waited_all (to_list (cond b (ending_pause now t what d) None)) x.waits
waits_one true now t what d x = count_keeps_waits what (does now what d) (with_option (ending_pause now t what d) x) ∙ pause_said (ending_pause now t what d) x
waits_one false now t what d x = refl

-- a task's waits after notes are those before with the pauses counted that end in the notes
pub waits_told : (t : ℕ) (ns : List Note) (r : Row) → (row_all t ns r).figures.waits ≡ waited_all (pauses_in t r.doing ns) r.figures.waits
waits_told t [] r = refl
waits_told t (n ∷ ns) r =
    waits_told t ns (row_noted t n r)
    ∙ ap (λ x. waited_all (pauses_in t (does_at t n r.doing) ns) x) (waits_one (is_of t n.what) n.clock t n.what r.doing r.figures)
    ∙ sym (waited_append (to_list (ended_at t n r.doing)) (pauses_in t (does_at t n r.doing) ns) r.figures.waits)

-- ---- how many waits, and the longest

count_one : (b : Bool) (p : Pause) (x : w.Lengths) → (waited_if b p x).count ≡ cond b (up x.count) x.count
count_one true p x = refl
count_one false p x = refl

length_filtered : (b : Bool) (p : Pause) (ps : List Pause) (a : ℕ) → (a + one_if b) + length (filter is_wait ps) ≡ a + length (cond b (p ∷ filter is_wait ps) (filter is_wait ps))
length_filtered true p ps a = omega arith
length_filtered false p ps a = omega arith

-- the waits among some pauses are added to as many as were counted before
pub count_told : (ps : List Pause) (x : w.Lengths) (a : ℕ) → x.count ≡ at_most_64_bits a → (waited_all ps x).count ≡ at_most_64_bits (a + length (filter is_wait ps))
count_told [] x a is = is ∙ ap at_most_64_bits (none a)
count_told (p ∷ ps) x a is =
    let one = more_if (is_wait p) x.count (waited_if (is_wait p) p x).count a is (count_one (is_wait p) p x) in
    count_told ps (waited_if (is_wait p) p x) (a + one_if (is_wait p)) one ∙ ap at_most_64_bits (length_filtered (is_wait p) p ps a)

-- the table of lengths after some pauses is the one before with those of the waits among them
pub times_told : (ps : List Pause) (x : w.Lengths) → (waited_all ps x).times ≡ times_with (map length_of (filter is_wait ps)) x.times
times_told [] x = refl
times_told (p ∷ ps) x = by_test (is_wait p) (times_told ps (waited_if (is_wait p) p x))
  where
    by_test : (b : Bool) → (waited_all ps (waited_if b p x)).times ≡ times_with (map length_of (filter is_wait ps)) (waited_if b p x).times
        → (waited_all ps (waited_if b p x)).times ≡ times_with (map length_of (cond b (p ∷ filter is_wait ps) (filter is_wait ps))) x.times
    by_test true later = later
    by_test false later = later

-- the longest is at least 0, which it is while there is none
abbrev pub IsLongest : w.Lengths → Type 0
IsLongest x = x.count ≡ 0 → x.longest ≡ 0

-- with one more the longest is the longer of it and of the longest before
pub longest_made : (since length : ℕ) (x : w.Lengths) → IsLongest x → (with_length since length x).longest ≡ max x.longest length
longest_made since length x first = by_test (x.count) (x.longest) length first
  where
    by_test : (n old new : ℕ) → (n ≡ 0 → old ≡ 0) → cond (eqb n 0 || ltb old new) new old ≡ max old new
    by_test n old new first = grind (arith, first)

-- with one more there is one
pub longest_stays : (since length : ℕ) (x : w.Lengths) → IsLongest (with_length since length x)
longest_stays since length x none = absurd (never x.count none)
  where
    never : (n : ℕ) → min (n + 1) (2 ^ 64 - 1) ≡ 0 → ⊥
    never n e = omega (arith, e)

-- a number is the greater of it and of 0
pub max_none : (a : ℕ) → a ≡ max a 0
max_none a = omega arith

-- the greatest of three numbers, in whichever order
pub max_shifted : (a b c : ℕ) → max (max a b) c ≡ max a (max b c)
max_shifted a b c = omega arith

-- the longest wait after some pauses is the longest of those before and of those among them
pub longest_told : (ps : List Pause) (x : w.Lengths) → IsLongest x → (waited_all ps x).longest ≡ max x.longest (longest_of (filter is_wait ps))
longest_told [] x first = max_none x.longest
longest_told (p ∷ ps) x first = by_test (is_wait p) (longest_told ps (with_wait p x) (longest_stays p.since (length_of p) x)) (longest_told ps x first)
  where
    by_test : (b : Bool) → (waited_all ps (with_wait p x)).longest ≡ max (with_wait p x).longest (longest_of (filter is_wait ps)) → (waited_all ps x).longest ≡ max x.longest (longest_of (filter is_wait ps))
        → (waited_all ps (waited_if b p x)).longest ≡ max x.longest (longest_of (cond b (p ∷ filter is_wait ps) (filter is_wait ps)))
    by_test true with_it without =
        with_it ∙ ap (λ m. max m (longest_of (filter is_wait ps))) (longest_made p.since (length_of p) x first) ∙ max_shifted x.longest (length_of p) (longest_of (filter is_wait ps))
    by_test false with_it without = without
