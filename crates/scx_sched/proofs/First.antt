-- The first state: the machine's own queues are made, nobody runs or waits, and callbacks keep it so.
use Rattle.std.proofs.Common.{◌≡◌, ℕ, zero, suc, ◌+◌, ◌<◌, ◌≤◌, Bool, true, false, ◌==◌, ◌||◌, nat_lt, ◌⊎◌, inl, inr, List, [], ◌∷◌, length, get_or, nat_le, Option, Some, None, Ok, refl, ◌∙◌, ap, arith, is_none, length-append, replicate, sym, option_map, not, ◌&&◌}
use Rattle.std.proofs.lemmas.Bool.{cases_eq, cases_lt, eq-eqb, ne_eqb}
use Rattle.std.proofs.lemmas.Bool.Decides.{nat_tests}
use Rattle.std.proofs.lemmas.List.Folds.{list_any-append}
use Rattle.scx_dsq.specs.Queues.{QueueState, exists, queue_of}
use Rattle.scx_dsq.specs.Calls.{after_create, create_refusal, with_queue, empty}
use Rattle.scx_sched_world.specs.Ids.{global, held_queue, builtin_queue, parked_queue, local_on}
use Rattle.std.proofs.lemmas.List.{length-replicate, get_or-replicate, get_or_past}
use Rattle.std.proofs.lemmas.List.Folds.{sum_by-replicate}
use Rattle.scx_dsq.specs.Queues.{entry_at, entry_of}
use Rattle.scx_dsq.specs.declared.entries.Entry.{Entry}
use Rattle.scx_dsq.specs.Laws.{one_if}
use Rattle.scx_isa_semantics.specs.declared.callbacks.Callback.{Callback}
use Rattle.scx_vm.specs.declared.arguments.Args.{Args}
use Rattle.scx_weights.specs.Hierarchy as tree-of
use Rattle.scx_weights.specs.Hierarchy.{Hierarchy, is_active_task, is_in_mask}
use Rattle.scx_weights.specs.Counting.{any_below}
use Rattle.scx_sched_world.specs.declared.timers.Alarm.{Alarm}
use Rattle.scx_sched_world.specs.CpuSets.{no_cpus}
use Rattle.scx_sched_world.specs.World.{WorldState, is_this, at_callback, are_linux, binds, with_task, task_at}
use Rattle.scx_sched_tasks.specs.declared.task.Task.{Task}
use Rattle.scx_sched_tasks.specs.Tasks.{no_task, new_task}
use Rattle.scx_sched_world.specs.First.{first_world}
use Rattle.scx_sched_policy.specs.Policy.{PolicyState}
use Rattle.scx_sched_machine.specs.Steps.{State}
use Rattle.scx_sched_machine.specs.Callbacks.{call_ending, acting}
use Rattle.scx_sched_machine.specs.Start.{is_bad_shape, first_state, by_policy, is_nowhere, blank}
use Rattle.scx_sched_machine.proofs.Choices.{keeps_if}
use Rattle.scx_sched.specs.Once.{runs, HasQueues, IsSound}
use Rattle.scx_sched.specs.Ranges.{IsFine}
use Rattle.scx_sched.specs.Kept.{IsKeptBySteps}
use Rattle.scx_sched.proofs.Unchanged.{same_called}
use Rattle.scx_sched.proofs.Begins.{left_by, keeps_started, IsAnyOf}
use Rattle.scx_sched.proofs.Skeleton.{keeps_called}
use Rattle.scx_sched.proofs.Fine.{fine_steps, IsRange, range_same, fine_of}
use Rattle.scx_sched.proofs.Timely.{IsInTime, AreInTime, time_steps, time_same}
use Rattle.scx_sched_world.specs.First.{with_locals, own_queues, first_queues}
use Rattle.scx_sched_world.specs.Tasks.{begun_periods, with_home}
use Rattle.scx_sched.proofs.Bounded.{most_first, within_first}
use Rattle.scx_sched.proofs.Homes.{keeps_homes, homes_allow}
use Rattle.scx_sched.specs.Allowed.{IsAllowedIn}
use Rattle.scx_sched.proofs.Sound.{sound_marks}

or_false : (b : Bool) → (b || false) ≡ b
or_false true = refl
or_false false = refl

or_true : (b : Bool) → (b || true) ≡ true
or_true true = refl
or_true false = refl

-- what exists in a queue list with one more
exists_with : (s : QueueState) (q r : ℕ) → exists (with_queue s q) r ≡ (exists s r || (q == r))
exists_with s q r = list_any-append (λ other. other == r) s.ids (q ∷ []) ∙ ap (λ b. exists s r || b) (one (q == r))
  where
    one : (b : Bool) → (b || false) ≡ b
    one b = or_false b

-- a new id with room is taken
is_made : (s : QueueState) (q : ℕ) → exists s q ≡ false → length s.ids < s.room → after_create s q ≡ with_queue s q
is_made s q new room = let free : nat_le s.room (length s.ids) ≡ false = grind (arith, nat_tests, room) in rw (new, free) refl

-- after so many local queues
pub record HasLocals (n : ℕ) (s t : QueueState) : Type 0 where
  pub count : length t.ids ≡ length s.ids + n
  pub room : t.room ≡ s.room
  pub stay : (r : ℕ) → exists s r ≡ true → exists t r ≡ true
  pub made : (c : ℕ) → c < n → exists t (local_on c) ≡ true
  pub later : (c : ℕ) → n ≤ c → exists t (local_on c) ≡ false

one_more : (n : ℕ) (s t : QueueState) → length s.ids + suc n ≤ s.room → HasLocals n s t → HasLocals (suc n) s (after_create t (local_on n))
one_more n s t room h = rw made record {
  count = length-append t.ids (local_on n ∷ []) ∙ omega (arith, h.count);
  room = h.room;
  stay = λ r e. rw (exists_with t (local_on n) r, h.stay r e) refl;
  made = λ c l. here c l (cases_eq c n);
  later = λ c l. rw (exists_with t (local_on n) (local_on c), h.later c (omega (arith, l)), ne_eqb (local_on n) (local_on c) (λ e. omega (arith, e, l))) refl;
}
  where
    made : after_create t (local_on n) ≡ with_queue t (local_on n)
    made = is_made t (local_on n) (h.later n (omega arith)) (omega (arith, h.count, h.room, room))

    here : (c : ℕ) → c < suc n → (c ≡ n) ⊎ (c ≡ n → ⊥) → exists (with_queue t (local_on n)) (local_on c) ≡ true
    here c l (inl e) = rw (e, exists_with t (local_on n) (local_on n), eq-eqb (local_on n) (local_on n) refl) (or_true (exists t (local_on n)))
    here c l (inr d) = rw (exists_with t (local_on n) (local_on c), h.made c (omega (arith, l, d))) refl

locals : (n : ℕ) (s : QueueState) → ((c : ℕ) → exists s (local_on c) ≡ false) → length s.ids + n ≤ s.room → HasLocals n s (with_locals n s)
locals zero s none room = record { count = omega arith; room = refl; stay = λ r e. e; made = λ c l. absurd (omega (arith, l)); later = λ c l. none c }
locals (suc n) s none room = one_more n s (with_locals n s) room (locals n s none (omega (arith, room)))

own : (cpus tasks : ℕ) → own_queues cpus tasks ≡ record { room = 20 + cpus; ids = global ∷ held_queue ∷ builtin_queue ∷ parked_queue ∷ []; entries = replicate tasks None; pushes = 0 }
own cpus tasks =
    let a = is_made (empty (20 + cpus) tasks) global refl (omega arith) in
    rw (
      a,
      is_made (with_queue (empty (20 + cpus) tasks) global) held_queue refl (omega arith),
      is_made (with_queue (with_queue (empty (20 + cpus) tasks) global) held_queue) builtin_queue refl (omega arith),
      is_made (with_queue (with_queue (with_queue (empty (20 + cpus) tasks) global) held_queue) builtin_queue) parked_queue refl (omega arith),
    ) refl

-- the queues are there
pub first_has_queues : (cpus tasks : ℕ) → HasQueues (first_queues cpus tasks) cpus
first_has_queues cpus tasks = rw (own cpus tasks) record {
  global = l.stay global refl;
  held = l.stay held_queue refl;
  builtin = l.stay builtin_queue refl;
  parked = l.stay parked_queue refl;
  locals = λ c k. l.made c k;
}
  where
    s : QueueState
    s = record { room = 20 + cpus; ids = global ∷ held_queue ∷ builtin_queue ∷ parked_queue ∷ []; entries = replicate tasks None; pushes = 0 }

    none : (c : ℕ) → exists s (local_on c) ≡ false
    none c = rw (ne_eqb global (local_on c) (λ e. omega (arith, e)), ne_eqb held_queue (local_on c) (λ e. omega (arith, e)), ne_eqb builtin_queue (local_on c) (λ e. omega (arith, e)), ne_eqb parked_queue (local_on c) (λ e. omega (arith, e))) refl

    l : HasLocals cpus s (with_locals cpus s)
    l = locals cpus s none (omega arith)

-- ---- nobody waits, runs or is active

places_created : (s : QueueState) (q : ℕ) → (after_create s q).entries ≡ s.entries
places_created s q = keeps_if (λ (t : QueueState). t.entries ≡ s.entries) (is_none (create_refusal s q)) (with_queue s q) s refl refl

locals_places : (n : ℕ) (s : QueueState) → (with_locals n s).entries ≡ s.entries
locals_places zero s = refl
locals_places (suc n) s = places_created (with_locals n s) (local_on n) ∙ locals_places n s

first_places : (cpus tasks : ℕ) → (first_queues cpus tasks).entries ≡ replicate tasks None
first_places cpus tasks = locals_places cpus (own_queues cpus tasks) ∙ ap (λ (s : QueueState). s.entries) (own cpus tasks)

-- at first no task is in a queue
pub nowhere : (cpus tasks t : ℕ) → entry_of (first_queues cpus tasks) t ≡ None
nowhere cpus tasks t = rw (first_places cpus tasks) (go (cases_lt t tasks))
  where
    go : (t < tasks) ⊎ (tasks ≤ t) → entry_at (replicate tasks None) t ≡ None
    go (inl l) = get_or-replicate {A = Option Entry} tasks t None None l
    go (inr past) = get_or_past {X = Option Entry} (replicate tasks None) t None (rw (length-replicate {A = Option Entry} tasks None) past)

nobody_runs : (cpus t : ℕ) → runs (replicate cpus None) t ≡ 0
nobody_runs cpus t = sum_by-replicate (λ o. one_if (is_this t o)) cpus None ∙ omega arith

-- what is so of a new task, and of none, is so of each
each_new : (P : Task → Type 0) (n t : ℕ) → P new_task → P no_task → P (get_or (replicate n new_task) t no_task)
each_new P n t new none = go (cases_lt t n)
  where
    go : (t < n) ⊎ (n ≤ t) → P (get_or (replicate n new_task) t no_task)
    go (inl l) = rw (get_or-replicate n t new_task no_task l) new
    go (inr past) = rw (get_or_past (replicate n new_task) t no_task (rw (length-replicate n new_task) past)) none

at_home : (n t : ℕ) → (get_or (replicate n new_task) t no_task).prev_cpu ≡ 0
at_home n t = each_new (λ x. x.prev_cpu ≡ 0) n t refl refl

never_ran : (n t : ℕ) → (get_or (replicate n new_task) t no_task).run_ns ≡ 0
never_ran n t = each_new (λ x. x.run_ns ≡ 0) n t refl refl

never_charged : (n t : ℕ) → (get_or (replicate n new_task) t no_task).builtin ≡ 0
never_charged n t = each_new (λ x. x.builtin ≡ 0) n t refl refl

never_waited : (n t : ℕ) → (get_or (replicate n new_task) t no_task).since ≡ None
never_waited n t = each_new (λ x. x.since ≡ None) n t refl refl

none_below : (n t : ℕ) (test : ℕ → Bool) → any_below n test ≡ false → t < n → test t ≡ false
none_below zero t test none l = absurd (omega (arith, l))
none_below (suc n) t test none l = go (any_below n test) (test n) refl refl none (cases_eq t n) (λ e d. none_below n t test e (omega (arith, l, d)))
  where
    go : (a b : Bool) → any_below n test ≡ a → test n ≡ b → (a || b) ≡ false → (t ≡ n) ⊎ (t ≡ n → ⊥) → (any_below n test ≡ false → (t ≡ n → ⊥) → test t ≡ false) → test t ≡ false
    go false false x y z (inl is) f = rw is y
    go false false x y z (inr d) f = f x d
    go true b x y z c f = absurd (cc)
    go false true x y z c f = absurd (cc)

pub record HasShape (tree : Hierarchy) (cpus : ℕ) : Type 0 where
  pub some : 0 < cpus
  pub fine : any_below (length tree.homes) (λ t. is_active_task tree t || is_nowhere tree cpus t) ≡ false

has_shape : (tree : Hierarchy) (cpus : ℕ) → is_bad_shape tree cpus ≡ false → HasShape tree cpus
has_shape tree cpus e = go (nat_lt cpus 1) (nat_lt 64 cpus) (any_below (length tree.homes) (λ t. is_active_task tree t || is_nowhere tree cpus t)) refl refl e
  where
    go : (a b c : Bool) → nat_lt cpus 1 ≡ a → any_below (length tree.homes) (λ t. is_active_task tree t || is_nowhere tree cpus t) ≡ c → (a || (b || c)) ≡ false → HasShape tree cpus
    go false false false x y z = record { some = grind (arith, nat_tests, x); fine = y }
    go false false true x y z = absurd (cc)
    go false true c x y z = absurd (cc)
    go true b c x y z = absurd (cc)

neither : (a b : Bool) → (a || b) ≡ false → a ≡ false
neither true b e = absurd (cc)
neither false b e = refl

both_are : (o : Option Entry) (p : Entry) → o ≡ None → o ≡ Some p → ⊥
both_are o p x y = absurd (cc)

no_alarm : (a : Alarm) → None ≡ Some a → ⊥
no_alarm a e = absurd (cc)

-- no timer was started
pub none_started : (k i : ℕ) → get_or (replicate {A = Option Alarm} k None) i None ≡ None
none_started zero i = refl
none_started (suc k) zero = refl
none_started (suc k) (suc i) = none_started k i

first_is_sound : (p : PolicyState) (tree : Hierarchy) (cpus : ℕ) → HasShape tree cpus → length tree.active ≡ length tree.homes → IsSound None (replicate cpus None) (length tree.homes) (begun_periods (by_policy p (first_world tree cpus)))
first_is_sound p tree cpus shape flags = record {
  cpus = refl;
  tasks = length-replicate (length tree.homes) new_task;
  even = rw (first_places cpus (length tree.homes)) (length-replicate {A = Option Entry} (length tree.homes) None);
  flags = flags;
  members = refl;
  homes = λ t. rw (at_home (length tree.homes) t, length-replicate {A = Option ℕ} cpus None) shape.some;
  queues = rw (length-replicate {A = Option ℕ} cpus None) (first_has_queues cpus (length tree.homes));
  sorted = λ t. rw (nowhere cpus (length tree.homes) t) refl;
  stamped = λ t p e. absurd (both_are (entry_of (first_queues cpus (length tree.homes)) t) p (nowhere cpus (length tree.homes) t) e);
  once = λ t. rw (nobody_runs cpus t, nowhere cpus (length tree.homes) t, sleeps t (cases_lt t (length tree.homes))) refl;
  here = record { hand = rw (length-replicate {A = Option ℕ} cpus None) shape.some; wakes = λ c e. absurd (cc); timed = λ i a e. absurd (no_alarm a (sym (none_started p.timers i) ∙ e)) };
  goes = tt;
  not_first = λ e. tt;
  waiting = λ t. rw (never_waited (length tree.homes) t, nowhere cpus (length tree.homes) t) refl;
  at_once = λ e. refl;
}
  where
    sleeps : (t : ℕ) → (t < length tree.homes) ⊎ (length tree.homes ≤ t) → is_active_task tree t ≡ false
    sleeps t (inl l) = neither (is_active_task tree t) (is_nowhere tree cpus t) (none_below (length tree.homes) t (λ u. is_active_task tree u || is_nowhere tree cpus u) shape.fine l)
    sleeps t (inr past) = get_or_past tree.active t false (rw flags past)

first_is_in_range : (p : PolicyState) (tree : Hierarchy) (cpus : ℕ) → HasShape tree cpus → IsRange 0 0 (replicate cpus None) (begun_periods (by_policy p (first_world tree cpus)))
first_is_in_range p tree cpus shape =
    let n = length tree.homes in
    (omega arith, (λ t. rw (never_ran n t) (omega arith)), (λ t. rw (never_charged n t) (omega arith)), omega arith, (λ force. (refl, λ t. never_charged n t)), (λ g. most_first tree g), within_first tree cpus shape.some)

-- where a task is neither active nor bound to no processor
bound_somewhere : (a b s : Bool) → (a || (b && not s)) ≡ false → b ≡ true → s ≡ true
bound_somewhere true b s e x = absurd (cc)
bound_somewhere false true true e x = refl
bound_somewhere false true false e x = absurd (cc)
bound_somewhere false false s e x = absurd (cc)

-- of a policy by Linux rules tasks are bound as its tree says
bound_by_tree : (a b : Bool) → (a && b) ≡ true → b ≡ true
bound_by_tree true b e = e
bound_by_tree false b e = absurd (cc)

-- nobody runs or waits, and each task may run on its processor
first_is_allowed : (p : PolicyState) (tree : Hierarchy) (cpus : ℕ) → HasShape tree cpus → IsAllowedIn (replicate cpus None) (length tree.homes) (blank p tree cpus).world
first_is_allowed p tree cpus shape = record {
  runs = λ c t e. absurd (idle_first c t e);
  local = λ c t l e. absurd (keeps_homes (λ v. queue_of v.queues t ≡ Some (local_on c) → ⊥) (λ v u d x none. none) w0 (nobody_waits c t) e);
  home = λ t l. homes_allow w0 (λ u v bound. somewhere u v bound) t (rw (length-replicate n new_task) l);
  asks = λ i e. absurd (keeps_homes (λ v. v.call.insert ≡ Some i → ⊥) (λ v u d x none. none) w0 (λ x. absurd (cc)) e);
}
  where
    n : ℕ
    n = length tree.homes

    w0 : WorldState
    w0 = begun_periods (by_policy p (first_world tree cpus))

    idle_first : (c t : ℕ) → get_or (replicate {A = Option ℕ} cpus None) c None ≡ Some t → ⊥
    idle_first c t e = let bad : None ≡ Some t = sym (idle_at (cases_lt c cpus)) ∙ e in absurd (cc)
      where
        idle_at : (c < cpus) ⊎ (cpus ≤ c) → get_or (replicate {A = Option ℕ} cpus None) c None ≡ None
        idle_at (inl l) = get_or-replicate {A = Option ℕ} cpus c None None l
        idle_at (inr past) = get_or_past {X = Option ℕ} (replicate {A = Option ℕ} cpus None) c None (rw (length-replicate {A = Option ℕ} cpus None) past)

    nobody_waits : (c t : ℕ) → queue_of (first_queues cpus n) t ≡ Some (local_on c) → ⊥
    nobody_waits c t e = let bad : None ≡ Some (local_on c) = sym (ap (λ (o : Option Entry). option_map (λ (q : Entry). q.queue) o) (nowhere cpus n t)) ∙ e in absurd (cc)

    somewhere : (u : ℕ) → u < length w0.tasks → binds w0 ≡ true → any_below (length w0.cpus) (is_in_mask tree u) ≡ true
    somewhere u l bound =
        let fine = none_below n u (λ v. is_active_task tree v || is_nowhere tree cpus v) shape.fine (rw (← length-replicate n new_task) l) in
        ap (λ k. any_below k (is_in_mask tree u)) (length-replicate {A = Option ℕ} cpus None) ∙ bound_somewhere (is_active_task tree u) (tree-of.binds tree) (any_below cpus (is_in_mask tree u)) fine (bound_by_tree (are_linux p.rules) (tree-of.binds tree) bound)

-- ---- init and enable

-- whatever small steps keep, and holds before any callback, holds once a machine is made
blank_started : (I : ℕ → Option ℕ → List (Option ℕ) → WorldState → Type 0) (p : PolicyState) (tree : Hierarchy) (cpus : ℕ) (t : State) → IsKeptBySteps (length tree.homes) I → is_bad_shape tree cpus ≡ false → first_state p tree cpus ≡ Ok t
    → I 0 None (replicate cpus None) (blank p tree cpus).world → I 0 None (replicate cpus None) t.world
blank_started I p tree cpus t k shape e h = keeps_started cpus (λ s. I 0 None on s.world) keeps (λ s x. k.sets 0 None on s.world no_cpus no_cpus no_cpus s.world.call.claims s.world.passing (λ c e. e) x) p tree t e h
  where
    on : List (Option ℕ)
    on = replicate cpus None

    some : 0 < cpus
    some = (has_shape tree cpus shape).some

    there : (c : ℕ) → IsAnyOf cpus c → c < length on
    there c (inl e) = rw (length-replicate {A = Option ℕ} cpus None) (omega (arith, some, e))
    there c (inr l) = rw (length-replicate {A = Option ℕ} cpus None) l

    keeps : (s : State) (b : Callback) (a : Args) (t c : ℕ) → IsAnyOf cpus c → I 0 None on s.world → I 0 None on (left_by s b a t c).world
    keeps s b a t c any h =
        let w = at_callback s.world b t c in
        k.quiet 0 None on (call_ending (acting s b) b a s.maps w).outside (keeps_called (length tree.homes) I k 0 None on (acting s b) b a s.maps w (k.begun 0 None on s.world b t c (there c any) h))

-- so does what holds of the first world, and stays whatever the processors of its tasks are
pub steps_started : (I : ℕ → Option ℕ → List (Option ℕ) → WorldState → Type 0) (p : PolicyState) (tree : Hierarchy) (cpus : ℕ) (t : State) → IsKeptBySteps (length tree.homes) I → ((v : WorldState) (u c : ℕ) → I 0 None (replicate cpus None) v → I 0 None (replicate cpus None) (with_task v u (with_home (task_at v u) c))) → is_bad_shape tree cpus ≡ false → first_state p tree cpus ≡ Ok t
    → I 0 None (replicate cpus None) (begun_periods (by_policy p (first_world tree cpus))) → I 0 None (replicate cpus None) t.world
steps_started I p tree cpus t k set shape e h = blank_started I p tree cpus t k shape e (keeps_homes (I 0 None (replicate cpus None)) (λ v u c l x. set v u c x) (begun_periods (by_policy p (first_world tree cpus))) h)

-- what holds between two events holds at first
pub fine_started : (p : PolicyState) (tree : Hierarchy) (cpus : ℕ) (t : State) → is_bad_shape tree cpus ≡ false → length tree.active ≡ length tree.homes → first_state p tree cpus ≡ Ok t → IsFine (length tree.homes) 0 0 None (replicate cpus None) t.world
fine_started p tree cpus t shape flags e =
    let n = length tree.homes in
    let on = replicate {A = Option ℕ} cpus None in
    let good = has_shape tree cpus shape in
    let w0 = begun_periods (by_policy p (first_world tree cpus)) in
    let there = keeps_homes (λ v. (length v.cpus ≡ cpus) × IsSound None on n v × IsRange 0 0 on v) (λ v u c l x. (x.0, (sound_marks None on n).homed v u c (rw (length-replicate {A = Option ℕ} cpus None) (omega (arith, x.0, l (omega (arith, x.0, good.some))))) x.1, range_same 0 0 on v u _ refl refl x.2)) w0 (length-replicate {A = Option ℕ} cpus None, first_is_sound p tree cpus good flags, first_is_in_range p tree cpus good) in
    blank_started (IsFine n 0) p tree cpus t (fine_steps n 0) shape e (fine_of n 0 0 None on (blank p tree cpus).world there.1 (first_is_allowed p tree cpus good) there.2)

-- nobody waits too long at first
pub time_started : (limit : ℕ) (p : PolicyState) (tree : Hierarchy) (cpus : ℕ) (t : State) → is_bad_shape tree cpus ≡ false → first_state p tree cpus ≡ Ok t → IsInTime limit t.world
time_started limit p tree cpus t shape e =
    let n = length tree.homes in
    let h = steps_started (λ m hand on w. AreInTime limit n w) p tree cpus t (time_steps limit n) (λ v u c x. time_same limit n v u _ refl x) shape e (length-replicate n new_task, λ force u. rw (never_waited n u) (omega arith)) in
    h.1

-- its policy is the one that it was given, and in force
pub policy_started : (p : PolicyState) (tree : Hierarchy) (cpus : ℕ) (t : State) → first_state p tree cpus ≡ Ok t → t.policy ≡ p
policy_started p tree cpus t e = keeps_started cpus (λ s. s.policy ≡ p) (λ s b a u c any h. h) (λ s h. h) p tree t e refl

-- it goes by the rules of its policy
pub rules_started : (p : PolicyState) (tree : Hierarchy) (cpus : ℕ) (t : State) → first_state p tree cpus ≡ Ok t → t.world.rules ≡ p.rules
rules_started p tree cpus t e = keeps_started cpus (λ s. s.world.rules ≡ p.rules) (λ s b a u c any h. (same_called (acting s b) b a s.maps (at_callback s.world b u c)).4 ∙ h) (λ s h. h) p tree t e (keeps_homes (λ v. v.rules ≡ p.rules) (λ v u c l same. same) (begun_periods (by_policy p (first_world tree cpus))) refl)

-- as a machine begins, its policy is in force
pub force_started : (p : PolicyState) (tree : Hierarchy) (cpus : ℕ) (t : State) → first_state p tree cpus ≡ Ok t → t.world.ejected ≡ None
force_started p tree cpus t e = keeps_started cpus (λ s. s.world.ejected ≡ None) (λ s b a u c any h. (same_called (acting s b) b a s.maps (at_callback s.world b u c)).1 ∙ h) (λ s h. h) p tree t e (keeps_homes (λ v. v.ejected ≡ None) (λ v u c l same. same) (begun_periods (by_policy p (first_world tree cpus))) refl)
