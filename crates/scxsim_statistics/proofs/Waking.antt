-- What is counted of the wake-to-run latencies of one task is what the notes say.
use Rattle.std.proofs.Common.{◌≡◌, ℕ, ◌-◌, ◌<◌, Bool, true, false, cond, eqb, List, [], ◌∷◌, ◌++◌, length, Option, None, Some, refl, sym, ap, subst, ◌∙◌, append_assoc}
use Rattle.std.proofs.lemmas.List.{length-set}
use Rattle.scx_sched_world.specs.declared.notes.Note.{Note}
use Rattle.scx_sched_world.specs.declared.notes.What.{What}
use Rattle.scx_sched_world.specs.declared.notes.What.TheVariants.{Wake, Sleep, Insert, Move, Run, Stop, Idle, Weight, TaskWeight, Stall, Fault, Exit}
use Rattle.scx_sched_machine.specs.declared.events.Event.{Event}
use Rattle.scx_sched_machine.specs.declared.events.Event.TheVariants as event
use Rattle.scx_sched.specs.Sim.{SimState, after_event, notes_of}
use Rattle.scx_load_driver.specs.Runs.{notes_of_all}
use Rattle.scxsim_views.specs.Watching.{noted_all, kept_of_all}
use Rattle.scxsim_statistics.specs.declared.latencies.LatencyFigures.{LatencyFigures}
use Rattle.scxsim_statistics.specs.Latencies.{no_latencies, latencies_at, with_waking, with_first_run, latencies_noted}
use Rattle.scxsim_statistics.specs.Counting.{RunCounts, counts_after_note, counts_after_event}
use Rattle.scxsim_statistics.specs.Figures.{is_wake, is_run, latency_if, latencies_in, latencies_of}
use Rattle.scxsim_statistics.proofs.Places.{at_changed}
use Rattle.scxsim_statistics.proofs.Merging.{IsOfLengths, none_counted, with_none, one_counted}

-- ---- one task

abbrev ran_if : Bool → ℕ → LatencyFigures → LatencyFigures
ran_if true clock x = with_first_run clock x
ran_if false clock x = x

abbrev woken_if : Bool → ℕ → LatencyFigures → LatencyFigures
woken_if true clock x = with_waking clock x
woken_if false clock x = x

abbrev noted : ℕ → Note → LatencyFigures → LatencyFigures
noted t n x = woken_if (is_wake t n.what) n.clock (ran_if (is_run t n.what) n.clock x)

abbrev all_noted : ℕ → List Note → LatencyFigures → LatencyFigures
all_noted t [] x = x
all_noted t (n ∷ ns) x = all_noted t ns (noted t n x)

wake_said : (b : Bool) (clock : ℕ) (x : LatencyFigures) → cond b (with_waking clock x) x ≡ woken_if b clock x
wake_said true clock x = refl
wake_said false clock x = refl

run_said : (b : Bool) (clock : ℕ) (x : LatencyFigures) → cond b (with_first_run clock x) x ≡ ran_if b clock x
run_said true clock x = refl
run_said false clock x = refl

note_one : (what : What) (clock : ℕ) (xs : List LatencyFigures) (t : ℕ) → t < length xs
    → latencies_at (latencies_noted clock what xs) t ≡ noted t (record { clock = clock; what = what }) (latencies_at xs t)
note_one (Wake u) clock xs t within = at_changed (with_waking clock) xs u t no_latencies within ∙ wake_said (eqb t u) clock (latencies_at xs t)
note_one (Run u c) clock xs t within = at_changed (with_first_run clock) xs u t no_latencies within ∙ run_said (eqb t u) clock (latencies_at xs t)
note_one (Sleep u) clock xs t within = refl
note_one (Insert u queue) clock xs t within = refl
note_one (Move u c) clock xs t within = refl
note_one (Stop u c) clock xs t within = refl
note_one (Idle c) clock xs t within = refl
note_one (Weight g x) clock xs t within = refl
note_one (TaskWeight u x) clock xs t within = refl
note_one (Stall u) clock xs t within = refl
note_one (Fault f) clock xs t within = refl
note_one (Exit n) clock xs t within = refl

length_noted : (what : What) (clock : ℕ) (xs : List LatencyFigures) → length (latencies_noted clock what xs) ≡ length xs
length_noted (Wake u) clock xs = length-set xs u (with_waking clock (latencies_at xs u))
length_noted (Run u c) clock xs = length-set xs u (with_first_run clock (latencies_at xs u))
length_noted (Sleep u) clock xs = refl
length_noted (Insert u queue) clock xs = refl
length_noted (Move u c) clock xs = refl
length_noted (Stop u c) clock xs = refl
length_noted (Idle c) clock xs = refl
length_noted (Weight g x) clock xs = refl
length_noted (TaskWeight t x) clock xs = refl
length_noted (Stall u) clock xs = refl
length_noted (Fault f) clock xs = refl
length_noted (Exit n) clock xs = refl

-- ---- notes and events

notes_keep : (ns : List Note) (k : RunCounts) → length (noted_all counts_after_note ns k).latencies ≡ length k.latencies
notes_keep [] k = refl
notes_keep (n ∷ ns) k = notes_keep ns (counts_after_note n.clock n.what k) ∙ length_noted n.what n.clock k.latencies

notes_told : (t : ℕ) (ns : List Note) (k : RunCounts) → t < length k.latencies → latencies_at (noted_all counts_after_note ns k).latencies t ≡ all_noted t ns (latencies_at k.latencies t)
notes_told t [] k within = refl
notes_told t (n ∷ ns) k within =
    notes_told t ns (counts_after_note n.clock n.what k) (subst (λ m. t < m) (sym (length_noted n.what n.clock k.latencies)) within)
    ∙ ap (λ x. all_noted t ns x) (note_one n.what n.clock k.latencies t within)

event_keeps : (s : SimState) (e : Event) (k : RunCounts) → (counts_after_event s e k).latencies ≡ k.latencies
event_keeps s (event.Wake u) k = refl
event_keeps s (event.Sleep u) k = refl
event_keeps s (event.Tick c) k = refl
event_keeps s event.Clock k = refl
event_keeps s (event.SetWeight g x) k = refl
event_keeps s (event.SetTaskWeight t x) k = refl

-- what is counted of a run has as many tasks as before it
pub latencies_stay : (es : List Event) (s : SimState) (k : RunCounts) → length (kept_of_all counts_after_event counts_after_note s es k).latencies ≡ length k.latencies
latencies_stay [] s k = refl
latencies_stay (e ∷ es) s k =
    latencies_stay es (after_event s e) (noted_all counts_after_note (notes_of s e) (counts_after_event s e k)) ∙ notes_keep (notes_of s e) (counts_after_event s e k)
    ∙ ap (λ xs. length xs) (event_keeps s e k)

all_noted_append : (t : ℕ) (ns ms : List Note) (x : LatencyFigures) → all_noted t (ns ++ ms) x ≡ all_noted t ms (all_noted t ns x)
all_noted_append t [] ms x = refl
all_noted_append t (n ∷ ns) ms x = all_noted_append t ns ms (noted t n x)

run_told : (t : ℕ) (es : List Event) (s : SimState) (k : RunCounts) → t < length k.latencies
    → latencies_at (kept_of_all counts_after_event counts_after_note s es k).latencies t ≡ all_noted t (notes_of_all s es) (latencies_at k.latencies t)
run_told t [] s k within = refl
run_told t (e ∷ es) s k within =
    let at_event = counts_after_event s e k in
    let behind = noted_all counts_after_note (notes_of s e) at_event in
    let there : t < length at_event.latencies = subst (λ (xs : List LatencyFigures). t < length xs) (sym (event_keeps s e k)) within in
    run_told t es (after_event s e) behind (subst (λ m. t < m) (sym (notes_keep (notes_of s e) at_event)) there)
    ∙ ap (λ x. all_noted t (notes_of_all (after_event s e) es) x) (notes_told t (notes_of s e) at_event there ∙ ap (λ xs. all_noted t (notes_of s e) (latencies_at xs t)) (event_keeps s e k))
    ∙ sym (all_noted_append t (notes_of s e) (notes_of_all (after_event s e) es) (latencies_at k.latencies t))

-- ---- lengths

first_run : (woke : Option ℕ) (clock : ℕ) (x : LatencyFigures) (ls : List ℕ) → x.woke ≡ woke → IsOfLengths ls x.lengths → IsOfLengths (ls ++ latency_if true woke clock) (with_first_run clock x).lengths
first_run woke clock x ls is counted = rw is (by_wake woke)
  where
    by_wake : (o : Option ℕ) → IsOfLengths (ls ++ latency_if true o clock) (with_first_run clock (record { lengths = x.lengths; woke = o })).lengths
    by_wake None = with_none ls x.lengths counted
    by_wake (Some since) = one_counted ls since (clock - since) x.lengths counted

ran_told : (run : Bool) (clock : ℕ) (x : LatencyFigures) (ls : List ℕ) → IsOfLengths ls x.lengths → IsOfLengths (ls ++ latency_if run x.woke clock) (ran_if run clock x).lengths
ran_told true clock x ls counted = first_run x.woke clock x ls refl counted
ran_told false clock x ls counted = with_none ls x.lengths counted

woken_keeps : (wake : Bool) (clock : ℕ) (x : LatencyFigures) → (woken_if wake clock x).lengths ≡ x.lengths
woken_keeps true clock x = refl
woken_keeps false clock x = refl

woke_told : (wake run : Bool) (clock : ℕ) (x : LatencyFigures) → (woken_if wake clock (ran_if run clock x)).woke ≡ cond wake (Some clock) (cond run None x.woke)
woke_told true run clock x = refl
woke_told false true clock x = refl
woke_told false false clock x = refl

notes_counted : (t : ℕ) (ns : List Note) (x : LatencyFigures) (ls : List ℕ) → IsOfLengths ls x.lengths → IsOfLengths (ls ++ latencies_in t x.woke ns) (all_noted t ns x).lengths
notes_counted t [] x ls counted = with_none ls x.lengths counted
notes_counted t (n ∷ ns) x ls counted =
    let wake = is_wake t n.what in
    let run = is_run t n.what in
    let ends = latency_if run x.woke n.clock in
    let woke = woke_told wake run n.clock x in
    let here : IsOfLengths (ls ++ ends) (noted t n x).lengths = subst (λ y. IsOfLengths (ls ++ ends) y) (sym (woken_keeps wake n.clock (ran_if run n.clock x))) (ran_told run n.clock x ls counted) in
    let later = notes_counted t ns (noted t n x) (ls ++ ends) here in
    let P : Option ℕ → Type 0 = λ o. IsOfLengths ((ls ++ ends) ++ latencies_in t o ns) (all_noted t ns (noted t n x)).lengths in
    subst (λ ks. IsOfLengths ks (all_noted t ns (noted t n x)).lengths) (append_assoc ls ends (latencies_in t (cond wake (Some n.clock) (cond run None x.woke)) ns)) (subst P woke later)

-- of a task of which nothing was counted before the run
pub latencies_told : (t : ℕ) (s : SimState) (es : List Event) (k : RunCounts) → t < length k.latencies → latencies_at k.latencies t ≡ no_latencies
    → IsOfLengths (latencies_of t (notes_of_all s es)) (latencies_at (kept_of_all counts_after_event counts_after_note s es k).latencies t).lengths
latencies_told t s es k within unused =
    let ns = notes_of_all s es in
    let same = run_told t es s k within ∙ ap (λ x. all_noted t ns x) unused in
    subst (λ (x : LatencyFigures). IsOfLengths (latencies_of t ns) x.lengths) (sym same) (notes_counted t ns no_latencies [] none_counted)
