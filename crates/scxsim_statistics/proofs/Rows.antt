-- What is counted of one task, as notes come.
use Rattle.std.proofs.Common.{◌≡◌, ℕ, ◌<◌, Bool, true, false, cond, eqb, List, [], ◌∷◌, ◌++◌, length, set, Option, None, Some, refl, sym, ap, subst, ◌∙◌, ◌⊎◌, inl, inr}
use Rattle.std.proofs.lemmas.Bool.{cases_eq, eq-eqb, ne_eqb}
use Rattle.std.proofs.lemmas.List.{length-set, get_or-set_same, get_or-set_other}
use Rattle.scx_sched_world.specs.Ids.{parked_queue}
use Rattle.scx_sched_world.specs.declared.notes.Note.{Note}
use Rattle.scx_sched_world.specs.declared.notes.What.{What}
use Rattle.scx_sched_world.specs.declared.notes.What.TheVariants.{Wake, Sleep, Insert, Move, Run, Stop, Idle, Weight, TaskWeight, Stall, Fault, Exit}
use Rattle.scx_sched_machine.specs.declared.events.Event.{Event}
use Rattle.scx_sched_machine.specs.declared.events.Event.TheVariants as event
use Rattle.scx_sched.specs.Sim.{SimState, after_event, notes_of}
use Rattle.scx_load_driver.specs.Runs.{notes_of_all}
use Rattle.scxsim_views.specs.declared.pauses.Doing.{Doing}
use Rattle.scxsim_views.specs.declared.pauses.Doing.TheVariants.{Sleeps, Waits, Runs, IsParked}
use Rattle.scxsim_views.specs.declared.pauses.Pause.{Pause}
use Rattle.scxsim_views.specs.Pauses.{sleeps, is_parked, doing_at, of_task, does, pause_of, ending_pause, doing_with, doing_after, ended_with, ended_by}
use Rattle.scxsim_views.specs.Watching.{noted_all, kept_of_all}
use Rattle.scxsim_statistics.specs.declared.tally.TaskFigures.{TaskFigures}
use Rattle.scxsim_statistics.specs.Counting.{RunCounts, no_figures, figures_at, with_wake, with_stop, with_pause, after_pause, counted_for, cut_off, stop_counted, tasks_counted, counts_after_note, counts_after_event}
use Rattle.scxsim_statistics.specs.Figures.{is_that, is_of, does_at}
use Rattle.scxsim_statistics.proofs.Places.{at_changed}

-- ---- what a task does

doing_one : (o : Option ℕ) (now : ℕ) (what : What) (ds : List Doing) (t : ℕ) → t < length ds
    → doing_at (doing_with o now what ds) t ≡ cond (is_that t o) (does now what (doing_at ds t)) (doing_at ds t)
doing_one None now what ds t within = refl
doing_one (Some u) now what ds t within = at_changed (does now what) ds u t Sleeps within

-- ---- the pause that ends

abbrev pub with_option : Option Pause → TaskFigures → TaskFigures
with_option None x = x
with_option (Some p) x = with_pause p x

abbrev pub IsPauseOfTask : ℕ → Option Pause → Type 0
IsPauseOfTask u None = Unit {0}
IsPauseOfTask u (Some p) = p.task ≡ u

-- the pause that is told of what a task does is a pause of this task
pub of_pause : (now u : ℕ) (d : Doing) → IsPauseOfTask u (pause_of now u d)
of_pause now u Sleeps = tt
of_pause now u (Waits since) = refl
of_pause now u Runs = tt
of_pause now u (IsParked since) = refl

of_either : (b : Bool) (u : ℕ) (q r : Option Pause) → IsPauseOfTask u q → IsPauseOfTask u r → IsPauseOfTask u (cond b q r)
of_either true u q r is_q is_r = is_q
of_either false u q r is_q is_r = is_r

of_ended : (now u : ℕ) (what : What) (d : Doing) → IsPauseOfTask u (ending_pause now u what d)
of_ended now u (Wake t) d = of_pause now u d
of_ended now u (Sleep t) d = of_pause now u d
of_ended now u (Run t c) d = of_pause now u d
of_ended now u (Stop t c) d = tt
of_ended now u (Insert t queue) d =
    of_either (eqb queue parked_queue) u (pause_of now u d) (cond (is_parked d) (pause_of now u d) None) (of_pause now u d)
    (of_either (is_parked d) u (pause_of now u d) None (of_pause now u d) tt)
of_ended now u (Move t c) d = tt
of_ended now u (Idle c) d = tt
of_ended now u (Weight g x) d = tt
of_ended now u (TaskWeight t x) d = tt
of_ended now u (Stall t) d = tt
of_ended now u (Fault f) d = tt
of_ended now u (Exit n) d = tt

-- a pause of a task that is there changes its figures as the pause says
pub pause_here : (q : Option Pause) (tasks : List TaskFigures) (u : ℕ) → IsPauseOfTask u q → u < length tasks → figures_at (after_pause q tasks) u ≡ with_option q (figures_at tasks u)
pause_here None tasks u is within = refl
pause_here (Some p) tasks u is within =
    let P : ℕ → Type 0 = λ k. figures_at (set tasks k (with_pause p (figures_at tasks k))) u ≡ with_pause p (figures_at tasks u) in
    subst P (sym is) (get_or-set_same tasks u (with_pause p (figures_at tasks u)) no_figures within)

-- a pause of a task changes the figures of no other
pub pause_there : (q : Option Pause) (tasks : List TaskFigures) (u t : ℕ) → IsPauseOfTask u q → (t ≡ u → ⊥) → figures_at (after_pause q tasks) t ≡ figures_at tasks t
pause_there None tasks u t is other = refl
pause_there (Some p) tasks u t is other =
    let P : ℕ → Type 0 = λ k. figures_at (set tasks k (with_pause p (figures_at tasks k))) t ≡ figures_at tasks t in
    subst P (sym is) (get_or-set_other tasks u t (with_pause p (figures_at tasks u)) no_figures other)

pause_one : (o : Option ℕ) (now : ℕ) (what : What) (ds : List Doing) (tasks : List TaskFigures) (t : ℕ) → t < length tasks
    → figures_at (after_pause (ended_with o now what ds) tasks) t ≡ cond (is_that t o) (with_option (ending_pause now t what (doing_at ds t)) (figures_at tasks t)) (figures_at tasks t)
pause_one None now what ds tasks t within = refl
pause_one (Some u) now what ds tasks t within = go (cases_eq t u)
  where
    go : (t ≡ u) ⊎ (t ≡ u → ⊥) → figures_at (after_pause (ending_pause now u what (doing_at ds u)) tasks) t ≡ cond (eqb t u) (with_option (ending_pause now t what (doing_at ds t)) (figures_at tasks t)) (figures_at tasks t)
    go (inl e) =
        let P : ℕ → Type 0 = λ k. figures_at (after_pause (ending_pause now k what (doing_at ds k)) tasks) t ≡ with_option (ending_pause now t what (doing_at ds t)) (figures_at tasks t) in
        rw (eq-eqb t u e) (subst P e (pause_here (ending_pause now t what (doing_at ds t)) tasks t (of_ended now t what (doing_at ds t)) within))
    go (inr other) =
        rw (ne_eqb t u other) (pause_there (ending_pause now u what (doing_at ds u)) tasks u t (of_ended now u what (doing_at ds u)) other)

-- ---- wakes and stops

same_either : {X : Type 0} (b : Bool) (x : X) → x ≡ cond b x x
same_either true x = refl
same_either false x = refl

stop_one : (ds : List Doing) (tasks : List TaskFigures) (u t : ℕ) → t < length tasks
    → figures_at (stop_counted ds tasks u) t ≡ cond (eqb t u) (cond (sleeps (doing_at ds t)) (figures_at tasks t) (with_stop (figures_at tasks t))) (figures_at tasks t)
stop_one ds tasks u t within = go (cases_eq t u)
  where
    here : (b : Bool) → figures_at (cond b tasks (cut_off tasks t)) t ≡ cond b (figures_at tasks t) (with_stop (figures_at tasks t))
    here true = refl
    here false = get_or-set_same tasks t (with_stop (figures_at tasks t)) no_figures within

    there : (b : Bool) → (t ≡ u → ⊥) → figures_at (cond b tasks (cut_off tasks u)) t ≡ figures_at tasks t
    there true other = refl
    there false other = get_or-set_other tasks u t (with_stop (figures_at tasks u)) no_figures other

    go : (t ≡ u) ⊎ (t ≡ u → ⊥) → figures_at (stop_counted ds tasks u) t ≡ cond (eqb t u) (cond (sleeps (doing_at ds t)) (figures_at tasks t) (with_stop (figures_at tasks t))) (figures_at tasks t)
    go (inl e) =
        let P : ℕ → Type 0 = λ k. figures_at (stop_counted ds tasks k) t ≡ cond (sleeps (doing_at ds t)) (figures_at tasks t) (with_stop (figures_at tasks t)) in
        rw (eq-eqb t u e) (subst P e (here (sleeps (doing_at ds t))))
    go (inr other) = rw (ne_eqb t u other) (there (sleeps (doing_at ds u)) other)

count_one : (what : What) (ds : List Doing) (tasks : List TaskFigures) (t : ℕ) → t < length tasks
    → figures_at (tasks_counted what ds tasks) t ≡ cond (is_of t what) (counted_for what (doing_at ds t) (figures_at tasks t)) (figures_at tasks t)
count_one (Wake u) ds tasks t within = at_changed with_wake tasks u t no_figures within
count_one (Stop u c) ds tasks t within = stop_one ds tasks u t within
count_one (Sleep u) ds tasks t within = same_either (eqb t u) (figures_at tasks t)
count_one (Run u c) ds tasks t within = same_either (eqb t u) (figures_at tasks t)
count_one (Insert u queue) ds tasks t within = same_either (eqb t u) (figures_at tasks t)
count_one (Move u c) ds tasks t within = refl
count_one (Idle c) ds tasks t within = refl
count_one (Weight g x) ds tasks t within = refl
count_one (TaskWeight u x) ds tasks t within = refl
count_one (Stall u) ds tasks t within = refl
count_one (Fault f) ds tasks t within = refl
count_one (Exit n) ds tasks t within = refl

-- ---- lengths

length_paused : (q : Option Pause) (tasks : List TaskFigures) → length (after_pause q tasks) ≡ length tasks
length_paused None tasks = refl
length_paused (Some p) tasks = length-set tasks p.task (with_pause p (figures_at tasks p.task))

length_stopped : (b : Bool) (tasks : List TaskFigures) (u : ℕ) → length (cond b tasks (cut_off tasks u)) ≡ length tasks
length_stopped true tasks u = refl
length_stopped false tasks u = length-set tasks u (with_stop (figures_at tasks u))

length_counted : (what : What) (ds : List Doing) (tasks : List TaskFigures) → length (tasks_counted what ds tasks) ≡ length tasks
length_counted (Wake u) ds tasks = length-set tasks u (with_wake (figures_at tasks u))
length_counted (Stop u c) ds tasks = length_stopped (sleeps (doing_at ds u)) tasks u
length_counted (Sleep u) ds tasks = refl
length_counted (Run u c) ds tasks = refl
length_counted (Insert u queue) ds tasks = refl
length_counted (Move u c) ds tasks = refl
length_counted (Idle c) ds tasks = refl
length_counted (Weight g x) ds tasks = refl
length_counted (TaskWeight t x) ds tasks = refl
length_counted (Stall u) ds tasks = refl
length_counted (Fault f) ds tasks = refl
length_counted (Exit n) ds tasks = refl

length_doing : (o : Option ℕ) (now : ℕ) (what : What) (ds : List Doing) → length (doing_with o now what ds) ≡ length ds
length_doing None now what ds = refl
length_doing (Some u) now what ds = length-set ds u (does now what (doing_at ds u))

-- ---- a row

pub record Row : Type 0 where
  pub doing : Doing
  pub figures : TaskFigures

abbrev pub row : ℕ → RunCounts → Row
row t k = record { doing = doing_at k.doing t; figures = figures_at k.tasks t }

abbrev pub figures_noted : Bool → ℕ → ℕ → What → Doing → TaskFigures → TaskFigures
figures_noted true now t what d x = counted_for what (does now what d) (with_option (ending_pause now t what d) x)
figures_noted false now t what d x = x

abbrev pub row_noted : ℕ → Note → Row → Row
row_noted t n r = record { doing = does_at t n r.doing; figures = figures_noted (is_of t n.what) n.clock t n.what r.doing r.figures }

abbrev pub row_all : ℕ → List Note → Row → Row
row_all t [] r = r
row_all t (n ∷ ns) r = row_all t ns (row_noted t n r)

-- the task is there
pub record IsThere (t : ℕ) (k : RunCounts) : Type 0 where
  pub tasks : t < length k.tasks
  pub doing : t < length k.doing

-- a task that is there is there after a note too
pub there_noted : (t now : ℕ) (what : What) (k : RunCounts) → IsThere t k → IsThere t (counts_after_note now what k)
there_noted t now what k there = record {
  tasks = subst (λ n. t < n) (sym (length_counted what (doing_after now what k.doing) (after_pause (ended_by now what k.doing) k.tasks) ∙ length_paused (ended_by now what k.doing) k.tasks)) there.tasks;
  doing = subst (λ n. t < n) (sym (length_doing (of_task what) now what k.doing)) there.doing;
}

count_joined : (b : Bool) (what : What) (now t : ℕ) (d e : Doing) (x y z : TaskFigures)
    → e ≡ cond b (does now what d) d → y ≡ cond b (with_option (ending_pause now t what d) x) x → z ≡ cond b (counted_for what e y) y → z ≡ figures_noted b now t what d x
count_joined true what now t d e x y z e_is y_is z_is = z_is ∙ ap (λ f. counted_for what f y) e_is ∙ ap (λ w. counted_for what (does now what d) w) y_is
count_joined false what now t d e x y z e_is y_is z_is = z_is ∙ y_is

figures_one : (t : ℕ) (n : Note) (k : RunCounts) → IsThere t k → figures_at (counts_after_note n.clock n.what k).tasks t ≡ (row_noted t n (row t k)).figures
figures_one t n k there =
    let q = ended_by n.clock n.what k.doing in
    count_joined (is_of t n.what) n.what n.clock t (doing_at k.doing t) (doing_at (doing_after n.clock n.what k.doing) t) (figures_at k.tasks t) (figures_at (after_pause q k.tasks) t) (figures_at (counts_after_note n.clock n.what k).tasks t)
    (doing_one (of_task n.what) n.clock n.what k.doing t there.doing)
    (pause_one (of_task n.what) n.clock n.what k.doing k.tasks t there.tasks)
    (count_one n.what (doing_after n.clock n.what k.doing) (after_pause q k.tasks) t (subst (λ m. t < m) (sym (length_paused q k.tasks)) there.tasks))

two_parts : (d : Doing) (x : TaskFigures) (r : Row) → d ≡ r.doing → x ≡ r.figures → record { doing = d; figures = x } ≡ r
two_parts d x r same_doing same_figures = ap (λ e. record { doing = e; figures = x }) same_doing ∙ ap (λ y. record { doing = r.doing; figures = y }) same_figures

row_one : (t : ℕ) (n : Note) (k : RunCounts) → IsThere t k → row t (counts_after_note n.clock n.what k) ≡ row_noted t n (row t k)
row_one t n k there =
    two_parts (doing_at (counts_after_note n.clock n.what k).doing t) (figures_at (counts_after_note n.clock n.what k).tasks t) (row_noted t n (row t k))
    (doing_one (of_task n.what) n.clock n.what k.doing t there.doing) (figures_one t n k there)

-- ---- notes and events

-- a task's row after what is counted of notes is what these notes make of its row alone
pub row_of_notes : (t : ℕ) (ns : List Note) (k : RunCounts) → IsThere t k → IsThere t (noted_all counts_after_note ns k) × (row t (noted_all counts_after_note ns k) ≡ row_all t ns (row t k))
row_of_notes t [] k there = (there, refl)
row_of_notes t (n ∷ ns) k there =
    let later = row_of_notes t ns (counts_after_note n.clock n.what k) (there_noted t n.clock n.what k there) in
    (later.0, later.1 ∙ ap (λ r. row_all t ns r) (row_one t n k there))

same_rows : (t : ℕ) (s : SimState) (e : Event) (k : RunCounts) → IsThere t k → IsThere t (counts_after_event s e k) × (row t (counts_after_event s e k) ≡ row t k)
same_rows t s (event.Wake u) k there = (there, refl)
same_rows t s (event.Sleep u) k there = (record { tasks = there.tasks; doing = there.doing }, refl)
same_rows t s (event.Tick c) k there = (record { tasks = there.tasks; doing = there.doing }, refl)
same_rows t s event.Clock k there = (there, refl)
same_rows t s (event.SetWeight g x) k there = (there, refl)
same_rows t s (event.SetTaskWeight u x) k there = (there, refl)

-- the notes of two lists change a row as those of one and then those of the other do
pub row_all_append : (t : ℕ) (ns ms : List Note) (r : Row) → row_all t (ns ++ ms) r ≡ row_all t ms (row_all t ns r)
row_all_append t [] ms r = refl
row_all_append t (n ∷ ns) ms r = row_all_append t ns ms (row_noted t n r)

-- a task's row after what is counted of a run is what the notes of the run make of it
pub row_of_run : (t : ℕ) (es : List Event) (s : SimState) (k : RunCounts) → IsThere t k
    → IsThere t (kept_of_all counts_after_event counts_after_note s es k) × (row t (kept_of_all counts_after_event counts_after_note s es k) ≡ row_all t (notes_of_all s es) (row t k))
row_of_run t [] s k there = (there, refl)
row_of_run t (e ∷ es) s k there =
    let at_event = same_rows t s e k there in
    let notes = row_of_notes t (notes_of s e) (counts_after_event s e k) at_event.0 in
    let later = row_of_run t es (after_event s e) (noted_all counts_after_note (notes_of s e) (counts_after_event s e k)) notes.0 in (
      later.0,
      later.1 ∙ ap (λ r. row_all t (notes_of_all (after_event s e) es) r) (notes.1 ∙ ap (λ r. row_all t (notes_of s e) r) at_event.1)
          ∙ sym (row_all_append t (notes_of s e) (notes_of_all (after_event s e) es) (row t k)),
    )

-- as many tasks as before
notes_keep : (ns : List Note) (k : RunCounts) → length (noted_all counts_after_note ns k).tasks ≡ length k.tasks
notes_keep [] k = refl
notes_keep (n ∷ ns) k =
    let q = ended_by n.clock n.what k.doing in
    notes_keep ns (counts_after_note n.clock n.what k) ∙ length_counted n.what (doing_after n.clock n.what k.doing) (after_pause q k.tasks) ∙ length_paused q k.tasks

event_keeps : (s : SimState) (e : Event) (k : RunCounts) → (counts_after_event s e k).tasks ≡ k.tasks
event_keeps s (event.Wake u) k = refl
event_keeps s (event.Sleep u) k = refl
event_keeps s (event.Tick c) k = refl
event_keeps s event.Clock k = refl
event_keeps s (event.SetWeight g x) k = refl
event_keeps s (event.SetTaskWeight t x) k = refl

-- what is counted of a run has as many tasks as before it
pub tasks_kept : (es : List Event) (s : SimState) (k : RunCounts) → length (kept_of_all counts_after_event counts_after_note s es k).tasks ≡ length k.tasks
tasks_kept [] s k = refl
tasks_kept (e ∷ es) s k =
    tasks_kept es (after_event s e) (noted_all counts_after_note (notes_of s e) (counts_after_event s e k)) ∙ notes_keep (notes_of s e) (counts_after_event s e k) ∙ ap (λ xs. length xs) (event_keeps s e k)
