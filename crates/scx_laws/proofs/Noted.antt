-- A note tells one thing of a task; a small step of a world changes that, or leaves it.
use Rattle.std.proofs.Common.{◌≡◌, ℕ, ◌<◌, ◌≤◌, Bool, true, false, ◌==◌, ◌||◌, not, ◌⊎◌, inl, inr, if◌then◌else◌, List, [], ◌∷◌, ◌++◌, length, set, get_or, position, Option, Some, None, is_some, is_none, option_map, refl, sym, ap, ◌∙◌, subst, arith}
use Rattle.std.specs.List.{position_or_len}
use Rattle.std.proofs.lemmas.Bool.{cases_eq, cases_lt, eq-eqb, ne_eqb, or_right}
use Rattle.std.proofs.lemmas.List.{length-set, get_or-set_same, get_or-set_other, get_or_past, get_or_default}
use Rattle.std.proofs.lemmas.List.Folds.{position_or_len-set}
use Rattle.std.proofs.lemmas.List.Sums.{sum_by-set}
use Rattle.scx_dsq.specs.declared.entries.Entry.{Entry}
use Rattle.scx_dsq.specs.declared.entries.Rank.{Rank}
use Rattle.scx_dsq.specs.Queues.{QueueState, task_count, entry_of, queue_of}
use Rattle.scx_dsq.specs.Calls.{push_refusal, with_task as with_place, after_push, after_remove}
use Rattle.scx_dsq.specs.Laws.{one_if, standing}
use Rattle.scx_dsq.proofs.Facts.{tasks_removed}
use Rattle.scx_dsq.proofs.Positions.{position_is, no_position}
use Rattle.scx_sched_tasks.specs.declared.task.Task.{Task}
use Rattle.scx_sched_world.specs.declared.notes.Note.{Note}
use Rattle.scx_sched_world.specs.declared.notes.What.TheVariants as note
use Rattle.scx_sched_world.specs.Ids.{parked_queue}
use Rattle.scx_sched_world.specs.World.{WorldState, with_task, task_at, waits_in, waits, is_this, or_this, cpu_of, is_runnable, note_now}
use Rattle.scx_sched_world.specs.Tasks.{with_home, with_slice, after_leave}
use Rattle.scx_sched.specs.Once.{runs, IsSound}
use Rattle.scx_sched.proofs.Entering.{one_le, nowhere}
use Rattle.scx_sched.proofs.Marks.{KeepsMarks, Anywhere}
use Rattle.scx_sched.proofs.Sound.{waits_known}
use Rattle.scx_sched.proofs.Waiting.{waits_there, pushed_other, pushed_here, removed_other, since_set}
use Rattle.scx_laws.specs.Telling.{Told, tell, asleep, moved_by, since_in, told_of, told_by, told}

-- ---- notes

-- notes one list after another
pub told_append : (xs ys : List Note) (u : ℕ) (x : Told) → told (xs ++ ys) u x ≡ told ys u (told xs u x)
told_append [] ys u x = refl
told_append (n ∷ ns) ys u x = told_append ns ys u (told_by n u x)

-- a note of another task, or of none, tells nothing of it
pub told_another : (n : Note) (u : ℕ) (x : Told) → is_this u (moved_by n.what) ≡ false → told_by n u x ≡ x
told_another n u x e = ap (λ b. if b then told_of n.what n.clock x else x) e

-- what is told has these parts
pub same_told : (x y : Told) → x.runnable ≡ y.runnable → x.cpu ≡ y.cpu → x.queue ≡ y.queue → x.since ≡ y.since → x ≡ y
same_told x y a b c d =
    ap (λ r. record { runnable = r; cpu = x.cpu; queue = x.queue; since = x.since }) a
    ∙ (ap (λ r. record { runnable = y.runnable; cpu = r; queue = x.queue; since = x.since }) b
    ∙ (ap (λ r. record { runnable = y.runnable; cpu = y.cpu; queue = r; since = x.since }) c ∙ ap (λ r. record { runnable = y.runnable; cpu = y.cpu; queue = y.queue; since = r }) d))

-- one note of a task tells of that one alone
pub one_note : (n : Note) (t u : ℕ) (x y : Told) → moved_by n.what ≡ Some t → (u ≡ t → told_of n.what n.clock x ≡ y) → ((u ≡ t → ⊥) → x ≡ y) → told (n ∷ []) u x ≡ y
one_note n t u x y named here others = go (cases_eq u t)
  where
    go : (u ≡ t) ⊎ (u ≡ t → ⊥) → told (n ∷ []) u x ≡ y
    go (inl e) = ap (λ b. if b then told_of n.what n.clock x else x) (ap (λ o. is_this u o) named ∙ eq-eqb u t e) ∙ here e
    go (inr d) = told_another n u x (ap (λ o. is_this u o) named ∙ ne_eqb u t d) ∙ others d

-- ---- CPUs

-- a task that runs on no CPU doesn't run on this one
pub runs_nowhere : (cpus : List (Option ℕ)) (t c : ℕ) → runs cpus t ≡ 0 → is_this t (get_or cpus c None) ≡ false
runs_nowhere cpus t c none = go (cases_lt c (length cpus))
  where
    counted : (b : Bool) → one_if b ≡ 0 → b ≡ false
    counted true e = absurd (omega (arith, e))
    counted false e = refl

    go : (c < length cpus) ⊎ (length cpus ≤ c) → is_this t (get_or cpus c None) ≡ false
    go (inl l) = counted (is_this t (get_or cpus c None)) (omega (arith, none, sum_by-set (λ o. one_if (is_this t o)) cpus c None None l))
    go (inr past) = ap (λ o. is_this t o) (get_or_past {X = Option ℕ} cpus c None past)

-- nor is it found on any
pub no_cpu : (cpus : List (Option ℕ)) (t : ℕ) → runs cpus t ≡ 0 → position (is_this t) cpus ≡ None
no_cpu cpus t none = no_position (is_this t) cpus (λ k d l. ap (λ o. is_this t o) (get_or_default cpus k d None l) ∙ runs_nowhere cpus t k none)

-- a task that begins to run on a CPU is found there
pub cpu_set_here : (cpus : List (Option ℕ)) (t c : ℕ) → runs cpus t ≡ 0 → c < length cpus → position (is_this t) (set cpus c (Some t)) ≡ Some c
cpu_set_here cpus t c none l =
    position_is (is_this t) (set cpus c (Some t)) c None (subst (λ k. c < k) (sym (length-set cpus c (Some t))) l) (ap (λ o. is_this t o) (get_or-set_same {A = Option ℕ} cpus c (Some t) None l) ∙ eq-eqb t t refl)
    (λ k d. ap (λ o. is_this t o) (get_or-set_other {A = Option ℕ} cpus c k (Some t) None d) ∙ runs_nowhere cpus t k none)

-- as another task comes to a CPU or leaves it, this one is found where it was
pub cpu_set_other : (cpus : List (Option ℕ)) (u c : ℕ) (o : Option ℕ) → is_this u (get_or cpus c None) ≡ false → is_this u o ≡ false → position (is_this u) (set cpus c o) ≡ position (is_this u) cpus
cpu_set_other cpus u c o was is =
    let e : position_or_len (is_this u) (set cpus c o) ≡ position_or_len (is_this u) cpus = position_or_len-set (is_this u) cpus c o None (is ∙ sym was) in
    rw (e, length-set cpus c o) refl

-- ---- two worlds

-- where a task is runnable, runs, is queued and waits in both as in the other, the same is so of it
pub same_tell : (w v : WorldState) (u : ℕ) → v.tree.active ≡ w.tree.active → v.cpus ≡ w.cpus → entry_of v.queues u ≡ entry_of w.queues u → (task_at v u).since ≡ (task_at w u).since → tell v u ≡ tell w u
same_tell w v u a c q s =
    same_told (tell v u) (tell w u) (ap (λ xs. get_or xs u false) a) (ap (λ xs. position (is_this u) xs) c) (ap (λ (o : Option Entry). option_map (λ p. p.queue) o) q) s

-- so it is with another record of a task, whose wait goes on
pub tell_task : (w : WorldState) (t u : ℕ) (x : Task) → x.since ≡ (task_at w t).since → tell (with_task w t x) u ≡ tell w u
tell_task w t u x same = same_tell w (with_task w t x) u refl refl refl (since_set w.tasks t x same u)

-- and as CPUs of tasks, slices and sets of CPUs change
pub tell_marks : (u : ℕ) (y : Told) → KeepsMarks Anywhere (λ w. tell w u ≡ y)
tell_marks u y = record {
  there = λ w c h l. tt;
  homed = λ w t c l h. tell_task w t u (with_home (task_at w t) c) refl ∙ h;
  sliced = λ w t n h. tell_task w t u (with_slice (task_at w t) n) refl ∙ h;
  sets = λ w a b c d h. h;
}

-- a world with these queues, in which each runs and has its wait as in the other
pub record IsAs (w : WorldState) (s : QueueState) (v : WorldState) : Type 0 where
  pub queues : v.queues ≡ s
  pub cpus : v.cpus ≡ w.cpus
  pub active : v.tree.active ≡ w.tree.active
  pub since : (k : ℕ) → (task_at v k).since ≡ (task_at w k).since
  pub notes : v.notes ≡ w.notes

-- it stays such a one as CPUs of tasks, slices and sets of CPUs change
pub as_marks : (w : WorldState) (s : QueueState) → KeepsMarks Anywhere (IsAs w s)
as_marks w s = record {
  there = λ v c h l. tt;
  homed = λ v t c l h. record { queues = h.queues; cpus = h.cpus; active = h.active; since = λ k. since_set v.tasks t (with_home (task_at v t) c) refl k ∙ h.since k; notes = h.notes };
  sliced = λ v t n h. record { queues = h.queues; cpus = h.cpus; active = h.active; since = λ k. since_set v.tasks t (with_slice (task_at v t) n) refl k ∙ h.since k; notes = h.notes };
  sets = λ v a b c d h. record { queues = h.queues; cpus = h.cpus; active = h.active; since = h.since; notes = h.notes };
}

-- ---- who sleeps

no_since : (o : Option ℕ) (b : Bool) → is_some o ≡ b → b ≡ false → o ≡ None
no_since None b e f = refl
no_since (Some k) b e f = absurd (cc)

no_place : (o : Option Entry) → one_if (is_some o) ≡ 0 → option_map (λ (p : Entry). p.queue) o ≡ None
no_place None e = refl
no_place (Some p) e = absurd (omega (arith, e))

-- where each task is where it should be, one that isn't runnable is nowhere
pub sleeps : (on : List (Option ℕ)) (n : ℕ) (v : WorldState) (t : ℕ) → IsSound None on n v → is_runnable v t ≡ false → tell v t ≡ asleep
sleeps on n v t h rests = same_told (tell v t) asleep rests (no_cpu v.cpus t off) queue (no_since (task_at v t).since (waits v t || false) (h.waiting t) (ap (λ o. waits_in o || false) queue))
  where
    off : runs v.cpus t ≡ 0
    off = omega (arith, h.once t, ap one_if rests)

    queue : queue_of v.queues t ≡ None
    queue = no_place (entry_of v.queues t) (omega (arith, h.once t, ap one_if rests))

-- ---- a task that goes from queue to queue

-- the first of two that is there
or_some : (o p : Option ℕ) → is_some o ≡ true → or_this o p ≡ o
or_some None p e = absurd (cc)
or_some (Some k) p e = refl

-- who waits has its wait
has_wait : (hand : Option ℕ) (on : List (Option ℕ)) (n : ℕ) (w : WorldState) (t : ℕ) → waits w t ≡ true → IsSound hand on n w → is_some (task_at w t).since ≡ true
has_wait hand on n w t here h = h.waiting t ∙ ap (λ b. b || is_this t hand) here

-- a note that tells of a waiting task another queue alone
abbrev pub TellsQueue : Note → ℕ → Type 0
TellsQueue n q = (x : Told) → is_some x.since ≡ true → told_of n.what n.clock x ≡ record x { queue = Some q }

-- so does an insert into any queue but that of parked tasks
pub insert_tells : (t q now : ℕ) → (q == parked_queue) ≡ false → TellsQueue (record { clock = now; what = note.Insert t q }) q
insert_tells t q now apart x some = rw apart (ap (λ o. record x { queue = Some q; since = o }) (or_some x.since (Some now) some))

-- a task that waits goes to another queue, and this is noted
pub moves_on : (hand : Option ℕ) (on : List (Option ℕ)) (n : ℕ) (w v : WorldState) (told-so : Note) (t q u : ℕ) (r : Rank) → IsAs w (after_push (after_remove w.queues t) q t r) v → push_refusal (after_remove w.queues t) q t r ≡ None → waits w t ≡ true → IsSound hand on n w → moved_by told-so.what ≡ Some t → TellsQueue told-so q
    → told (told-so ∷ []) u (tell w u) ≡ tell v u
moves_on hand on n w v told-so t q u r same ok here h named tells = one_note told-so t u (tell w u) (tell v u) named at others
  where
    s : QueueState
    s = after_remove w.queues t

    known : t < task_count s
    known = subst (λ k. t < k) (sym (tasks_removed w.queues t)) (waits_known w.queues t (waits_there w.queues t here))

    lands : queue_of v.queues t ≡ Some q
    lands = ap (λ x. queue_of x t) same.queues ∙ pushed_here s q t r known ok

    at : u ≡ t → told_of told-so.what told-so.clock (tell w u) ≡ tell v u
    at e =
        tells (tell w u) (subst (λ k. is_some (task_at w k).since ≡ true) (sym e) (has_wait hand on n w t here h))
        ∙ same_told (record (tell w u) { queue = Some q }) (tell v u) (ap (λ xs. get_or xs u false) (sym same.active)) (ap (λ xs. position (is_this u) xs) (sym same.cpus)) (sym (ap (λ k. queue_of v.queues k) e ∙ lands)) (sym (same.since u))

    others : (u ≡ t → ⊥) → tell w u ≡ tell v u
    others d = sym (same_tell w v u same.active same.cpus (ap (λ x. entry_of x u) same.queues ∙ (pushed_other s q t u r d ∙ removed_other w.queues t u d)) (same.since u))

-- ---- the task at hand comes to a queue

-- The notes fit a task: of the one at hand all but its queue, and its wait too if that begins now.
pub record IsReady (u t : ℕ) (w : WorldState) (x : Told) : Type 0 where
  pub runnable : x.runnable ≡ is_runnable w u
  pub cpu : x.cpu ≡ cpu_of w u
  pub queue : (u ≡ t → ⊥) → x.queue ≡ queue_of w.queues u
  pub since : (u ≡ t → ⊥) → x.since ≡ (task_at w u).since
  pub waits : u ≡ t → or_this x.since (Some w.clock) ≡ (task_at w u).since

-- what is so is told of it
pub ready_tell : (on : List (Option ℕ)) (n : ℕ) (w : WorldState) (u t : ℕ) → IsSound (Some t) on n w → IsReady u t w (tell w u)
ready_tell on n w u t h = record { runnable = refl; cpu = refl; queue = λ d. refl; since = λ d. refl; waits = λ e. or_some (task_at w u).since (Some w.clock) (h.waiting u ∙ (ap (λ b. waits w u || b) (eq-eqb u t e) ∙ or_right (waits w u) true refl)) }

-- so it is of a task that has left its queue, of which nothing is noted
pub ready_left : (on : List (Option ℕ)) (n : ℕ) (w : WorldState) (u t : ℕ) → waits w t ≡ true → IsSound None on n w → IsReady u t (after_leave w t) (tell w u)
ready_left on n w u t here h = record {
  runnable = refl;
  cpu = refl;
  queue = λ d. ap (λ (o : Option Entry). option_map (λ p. p.queue) o) (sym (removed_other w.queues t u d));
  since = λ d. refl;
  waits = λ e. or_some (task_at w u).since (Some w.clock) (subst (λ k. is_some (task_at w k).since ≡ true) (sym e) (has_wait None on n w t here h));
}

-- the queue to which it was pushed, once it is in some place
landed : (on : List (Option ℕ)) (n : ℕ) (w v : WorldState) (t q : ℕ) (r : Rank) → t < n → v.queues ≡ after_push w.queues q t r → v.cpus ≡ w.cpus → v.tree.active ≡ w.tree.active → IsSound (Some t) on n w → IsSound None on n v → queue_of v.queues t ≡ Some q
landed on n w v t q r within queues cpus active h k = ap (λ s. queue_of s t) queues ∙ go (push_refusal w.queues q t r) refl
  where
    none : entry_of w.queues t ≡ None
    none = nowhere w t h.once

    one : standing (after_push w.queues q t r) t ≡ 1
    one = omega (arith, h.once t, ap one_if (eq-eqb t t refl), k.once t, ap (λ xs. runs xs t) cpus, ap (λ xs. one_if (get_or xs t false)) active, ap (λ s. standing s t) queues, one_le (get_or w.tree.active t false))

    go : (o : Option _) → push_refusal w.queues q t r ≡ o → queue_of (after_push w.queues q t r) t ≡ Some q
    go None ok = pushed_here w.queues q t r (subst (λ j. t < j) (sym h.even) within) ok
    go (Some e) refused =
        let same : after_push w.queues q t r ≡ w.queues = ap (λ o. if is_none o then with_place w.queues q t r else w.queues) refused in
        absurd (omega (arith, one, ap (λ s. standing s t) same, ap (λ (o : Option Entry). one_if (is_some o)) none))

-- the task at hand comes to a queue, and this is noted
pub comes : (on : List (Option ℕ)) (n : ℕ) (w v : WorldState) (t q u : ℕ) (r : Rank) (x : Told) → t < n → v.queues ≡ after_push w.queues q t r → v.cpus ≡ w.cpus → v.tree.active ≡ w.tree.active
    → ((k : ℕ) → (k ≡ t → (q == parked_queue) ≡ false) → (task_at v k).since ≡ (task_at w k).since) → IsSound (Some t) on n w → IsSound None on n v → IsReady u t w x → told (note_now w (note.Insert t q) ∷ []) u x ≡ tell v u
comes on n w v t q u r x within queues cpus active same h k ready = one_note (note_now w (note.Insert t q)) t u x (tell v u) refl at others
  where
    lands : queue_of v.queues t ≡ Some q
    lands = landed on n w v t q r within queues cpus active h k

    runnable : x.runnable ≡ is_runnable v u
    runnable = ready.runnable ∙ ap (λ xs. get_or xs u false) (sym active)

    cpu : x.cpu ≡ cpu_of v u
    cpu = ready.cpu ∙ ap (λ xs. position (is_this u) xs) (sym cpus)

    at : u ≡ t → told_of (note.Insert t q) w.clock x ≡ tell v u
    at e = same_told (told_of (note.Insert t q) w.clock x) (tell v u) runnable cpu (sym there) (since (q == parked_queue) refl)
      where
        there : queue_of v.queues u ≡ Some q
        there = ap (λ j. queue_of v.queues j) e ∙ lands

        since : (b : Bool) → (q == parked_queue) ≡ b → since_in q w.clock x.since ≡ (task_at v u).since
        since true parked = rw parked (sym (no_since (task_at v u).since (waits v u || false) (k.waiting u) (ap (λ o. waits_in o || false) there ∙ ap (λ b. not b || false) parked)))
        since false apart = rw apart (ready.waits e ∙ sym (same u (λ f. apart)))

    others : (u ≡ t → ⊥) → x ≡ tell v u
    others d =
        same_told x (tell v u) runnable cpu (ready.queue d ∙ ap (λ (o : Option Entry). option_map (λ p. p.queue) o) (sym (ap (λ s. entry_of s u) queues ∙ pushed_other w.queues q t u r d)))
        (ready.since d ∙ sym (same u (λ f. absurd (d f))))
