-- Quiet milliseconds, as events and all at once.
use Rattle.std.proofs.Common.{arith, ◌≡◌, ℕ, zero, suc, ◌+◌, ◌-◌, ◌*◌, ◌/◌, ◌%◌, ◌<◌, ◌≤◌, ◌⊎◌, inl, inr, Bool, true, false, ◌==◌, cond, List, [], ◌∷◌, ◌++◌, length, get_or, Option, Some, None, refl, sym, ap, ◌∙◌, subst}
use Rattle.std.proofs.Math.Nat.{mul-le-mul_right, div-mul-le_self}
use Rattle.std.proofs.lemmas.Bool.{cases_lt, cases_eq, eq-eqb, lt-ltb}
use Rattle.std.proofs.lemmas.Bool.Decides.{nat_tests}
use Rattle.std.proofs.lemmas.List.{get_or_past}
use Rattle.std.proofs.lemmas.List.Sums.{sum_by-cons}
use Rattle.scx_dsq.specs.Laws.{one_if}
use Rattle.scx_weights.specs.Hierarchy.{period_at}
use Rattle.scx_sched_tasks.specs.declared.task.Task.{Task}
use Rattle.scx_sched_tasks.specs.Tasks.{no_task, after_many}
use Rattle.scx_sched_tasks.proofs.Times.{many_waits, many_ran, many_left}
use Rattle.scx_sched_world.specs.declared.timers.Alarm.{Alarm}
use Rattle.scx_sched_world.specs.World.{WorldState, task_at, running, is_this, is_runnable}
use Rattle.scx_sched_world.specs.Helpers.{alarm_at}
use Rattle.scx_sched_world.specs.Tasks.{tick_ns, begun_periods}
use Rattle.scx_sched_world.specs.Quiet.{ticked_for, all_ticked, SlicesLast, StaysCalm}
use Rattle.scx_sched_world.specs.Quiet as world
use Rattle.scx_sched_world.proofs.Quiet.{times, task_below, length-below, all_ticked_is, passed, even_below, groups_below, none_begun, skipped_more}
use Rattle.scx_sched_machine.specs.declared.events.Event.{Event}
use Rattle.scx_sched_machine.specs.declared.events.Event.TheVariants.{Tick, Clock}
use Rattle.scx_sched_machine.specs.declared.events.Refused.TheVariants.{RunOver, UnknownCpu}
use Rattle.scx_sched_machine.specs.Callbacks.{AreAnswered}
use Rattle.scx_sched_machine.specs.Steps.{State, Stepped, with_world}
use Rattle.scx_sched_machine.specs.Events as machine
use Rattle.scx_sched_machine.specs.Quiet.{IsAtRest, IsQuiet, skipped}
use Rattle.scx_sched_machine.proofs.Quiet.{Passes, passes_on, ticked_passes, rest_on, Asks, asks_none, quiet_tick, quiet_clock}
use Rattle.scx_sched.specs.Causes.{EjectsOnce}
use Rattle.scx_sched.specs.Decided.{EventsDecide, Follows}
use Rattle.scx_sched.specs.Once.{IsOnce, runs}
use Rattle.scx_sched.specs.Waits.{IsTimely, HasWaits}
use Rattle.scx_sched.specs.Usages.{AreBounded}
use Rattle.scx_sched.specs.Sim.{SimState, IsValid, max_events, refusal, stepped_if, notes_if, calls_if, after_event}
use Rattle.scx_sched.specs.Quiet.{ticks_below, quiet_ms, quiet_events, after_all, is_of_time, AreLeft, GoesQuietly, GoQuietly, TicksWithin, AllWithin}
use Rattle.scx_sched.proofs.Bounded.{are_bounded}
use Rattle.scx_sched.proofs.Causing.{step_cause}
use Rattle.scx_sched.proofs.Deciding.{step_decides}
use Rattle.scx_sched.proofs.Valid.{valid_step}

-- ---- one event after another

pub after_both : (s : SimState) (es fs : List Event) → after_all s (es ++ fs) ≡ after_all (after_all s es) fs
after_both s [] fs = refl
after_both s (e ∷ es) fs = after_both (after_event s e) es fs

pub quietly_both : (s : SimState) (es fs : List Event) → GoQuietly s es → GoQuietly (after_all s es) fs → GoQuietly s (es ++ fs)
quietly_both s [] fs first second = second
quietly_both s (e ∷ es) fs first second = (first.0, quietly_both (after_event s e) es fs first.1 second)

within_both : (ns : ℕ) (a s : SimState) (es fs : List Event) → AllWithin ns a s es → AllWithin ns a (after_all s es) fs → AllWithin ns a s (es ++ fs)
within_both ns a s [] fs first second = second
within_both ns a s (e ∷ es) fs first second = (first.0, within_both ns a (after_event s e) es fs first.1 second)

abbrev pub at : State → ℕ → SimState
at s n = record { state = s; events = n }

-- these events lead quietly from one machine to another, in which all is in order
pub record Leads (ns : ℕ) (a : SimState) (s : State) (n : ℕ) (es : List Event) (u : State) (m : ℕ) : Type 0 where
  pub state : after_all (at s n) es ≡ at u m
  pub quietly : GoQuietly (at s n) es
  pub within : AllWithin ns a (at s n) es
  pub valid : IsValid u m

leads_none : (ns : ℕ) (a : SimState) (s : State) (n : ℕ) → IsValid s n → Leads ns a s n [] s n
leads_none ns a s n h = record { state = refl; quietly = tt; within = tt; valid = h }

leads_both : (ns : ℕ) (a : SimState) (s t u : State) (n m k : ℕ) (es fs : List Event) → Leads ns a s n es t m → Leads ns a t m fs u k → Leads ns a s n (es ++ fs) u k
leads_both ns a s t u n m k es fs first second = record {
  state = after_both (at s n) es fs ∙ ap (λ x. after_all x fs) first.state ∙ second.state;
  quietly = quietly_both (at s n) es fs first.quietly (subst (λ x. GoQuietly x fs) (sym first.state) second.quietly);
  within = within_both ns a (at s n) es fs first.within (subst (λ x. AllWithin ns a x fs) (sym first.state) second.within);
  valid = second.valid;
}

-- ---- an event of which nothing comes but another state

leads_one : (ns : ℕ) (a : SimState) (s u : State) (n : ℕ) (e : Event) → TicksWithin ns a (at s n) e → machine.refusal s e ≡ None → n < max_events → IsValid s n → Asks (machine.event_step s e) u → u.world.queues ≡ s.world.queues → is_of_time e ≡ true → Leads ns a s n (e ∷ []) u (n + 1)
leads_one ns a s u n e within taken room h asks same time = record { state = after; quietly = (goes, tt); within = (within, tt); valid = valid }
  where
    old : SimState
    old = at s n

    step : machine.event_step s e ≡ record { state = u; notes = []; calls = asks.calls }
    step = asks.step

    early : (n == max_events) ≡ false
    early = grind (arith, nat_tests, room)

    ok : refusal old e ≡ None
    ok = ap (λ b. cond b (Some RunOver) (machine.refusal s e)) early ∙ taken

    after : after_event old e ≡ at u (n + 1)
    after = ap (λ o. stepped_if o old e) ok ∙ ap (λ (r : Stepped). at r.state (n + 1)) step

    answered : AreAnswered (machine.event_step s e).calls
    answered = subst (λ (r : Stepped). AreAnswered r.calls) (sym step) asks.answered

    pushes : (machine.event_step s e).state.world.queues.pushes ≡ s.world.queues.pushes
    pushes = ap (λ (r : Stepped). r.state.world.queues.pushes) step ∙ ap (λ q. q.pushes) same

    valid : IsValid u (n + 1)
    valid = subst (λ (r : Stepped). IsValid r.state (n + 1)) step (valid_step s n e ok h answered (omega (arith, pushes)))

    decided : EventsDecide old e (at u (n + 1))
    decided = subst (λ (r : Stepped). EventsDecide old e (at r.state (n + 1))) step (step_decides s n e ok h)

    cause : EjectsOnce old e (at u (n + 1))
    cause = subst (λ (r : Stepped). EjectsOnce old e (at r.state (n + 1))) step (step_cause s n e ok h answered)

    goes : GoesQuietly old e
    goes = record {
      time = time;
      notes = ap (λ o. notes_if o old e) ok ∙ ap (λ (r : Stepped). r.notes) step;
      answered = subst (λ cs. AreAnswered cs) (sym (ap (λ o. calls_if o old e) ok)) answered;
      follows = subst (λ o. Follows o old e (after_event old e)) (sym ok) (subst (λ t. Follows None old e t) (sym after) (decided, cause, valid.unstuck, valid.there));
      once = subst (λ (t : SimState). IsOnce None t.state.world) (sym after) valid.fine.sound.once;
      counted = subst (λ (t : SimState). HasWaits None t.state.world) (sym after) valid.fine.sound.waiting;
      timely = subst (λ (t : SimState). IsTimely t.state) (sym after) valid.timely;
      bounded = subst (λ (t : SimState). AreBounded t.state.world) (sym after) (are_bounded u.world valid.fine.within);
    }

-- ---- a task runs on one processor at most

times_next : (c : ℕ) (o : Option ℕ) (cpus : List (Option ℕ)) (t : ℕ) → times (suc c) (o ∷ cpus) t ≡ one_if (is_this t o) + times c cpus t
times_next zero o cpus t = omega arith
times_next (suc c) o cpus t = omega (arith, times_next c o cpus t)

times_all : (cpus : List (Option ℕ)) (t : ℕ) → times (length cpus) cpus t ≡ runs cpus t
times_all [] t = refl
times_all (o ∷ cpus) t = omega (arith, times_next (length cpus) o cpus t, times_all cpus t, sum_by-cons (λ p. one_if (is_this t p)) o cpus)

times_more : (c n : ℕ) (cpus : List (Option ℕ)) (t : ℕ) → (c < n → times c cpus t + 1 ≤ times n cpus t) → c < suc n → get_or cpus c None ≡ Some t → times c cpus t + 1 ≤ times (suc n) cpus t
times_more c n cpus t before lt e = go (cases_eq c n)
  where
    here : one_if (is_this t (get_or cpus c None)) ≡ 1
    here = ap (λ o. one_if (is_this t o)) e ∙ ap one_if (eq-eqb t t refl)

    go : (c ≡ n) ⊎ (c ≡ n → ⊥) → times c cpus t + 1 ≤ times (suc n) cpus t
    go (inl is) = let same : times c cpus t ≡ times n cpus t = ap (λ k. times k cpus t) is in let now : one_if (is_this t (get_or cpus n None)) ≡ 1 = ap (λ k. one_if (is_this t (get_or cpus k None))) (sym is) ∙ here in omega (arith, same, now)
    go (inr d) = omega (arith, before (omega (arith, lt, d)))

times_grow : (c n : ℕ) (cpus : List (Option ℕ)) (t : ℕ) → c < n → get_or cpus c None ≡ Some t → times c cpus t + 1 ≤ times n cpus t
times_grow c zero cpus t lt e = absurd (omega (arith, lt))
times_grow c (suc n) cpus t lt e = times_more c n cpus t (λ less. times_grow c n cpus t less e) lt e

runs_once : (s : State) (n t : ℕ) → IsValid s n → times (length s.world.cpus) s.world.cpus t ≤ 1
runs_once s n t h = omega (arith, times_all s.world.cpus t, h.fine.sound.once t, one (is_runnable s.world t))
  where
    one : (b : Bool) → one_if b ≤ 1
    one true = omega arith
    one false = omega arith

-- ---- the ticks of a millisecond

-- all that a tick or more leave is as it was
pub all_passes : (n c : ℕ) (w : WorldState) → Passes w (all_ticked n c w)
all_passes n zero w = refl
all_passes n (suc c) w =
    let v = all_ticked n c w in passes_on w v (ticked_for n v c (running v c)) (all_passes n c w) (ticked_passes n v c (running v c))

-- a task's record once the first processors have ticked
ticked_task : (n c t : ℕ) (w : WorldState) → t < length w.tasks → task_at (all_ticked n c w) t ≡ after_many (n * times c w.cpus t) (task_at w t)
ticked_task n c t w lt = ap (λ (v : WorldState). task_at v t) (all_ticked_is n c w) ∙ task_below n c w.cpus w.tasks t lt

some_slice : (w : WorldState) (t k : ℕ) → k < (task_at w t).slice → t < length w.tasks
some_slice w t k lt = go (cases_lt t (length w.tasks))
  where
    go : (t < length w.tasks) ⊎ (length w.tasks ≤ t) → t < length w.tasks
    go (inl l) = l
    go (inr past) = let none : (task_at w t).slice ≡ 0 = ap (λ (x : Task). x.slice) (get_or_past w.tasks t no_task past) in absurd (omega (arith, none, lt))

some_cpu : (cpus : List (Option ℕ)) (c t : ℕ) → get_or cpus c None ≡ Some t → c < length cpus
some_cpu cpus c t e = go (cases_lt c (length cpus))
  where
    go : (c < length cpus) ⊎ (length cpus ≤ c) → c < length cpus
    go (inl l) = l
    go (inr past) = let none : get_or cpus c None ≡ None = get_or_past cpus c None past in absurd (cc)

-- who runs on a processor ran there at first, and has run for less than that much longer
abbrev RunWithin : ℕ → SimState → WorldState → Type 0
RunWithin ns a w = (c t : ℕ) → running w c ≡ Some t → (running a.state.world c ≡ Some t) × ((task_at w t).run_ns + tick_ns ≤ (task_at a.state.world t).run_ns + ns)

leads_tick : (ns : ℕ) (a : SimState) (s : State) (n c : ℕ) → RunWithin ns a s.world → IsAtRest s → IsValid s n → SlicesLast 1 s.world → suc c ≤ length s.world.cpus → n + suc c ≤ max_events
    → Leads ns a s n (ticks_below c) (with_world s (all_ticked 1 c s.world)) (n + c) → Leads ns a s n (ticks_below (suc c)) (with_world s (all_ticked 1 (suc c) s.world)) (n + suc c)
leads_tick ns a s n c runs rest h lasts le room before =
    leads_both ns a s v u n (n + c) (n + suc c) (ticks_below c) (Tick c ∷ []) before
    (subst (λ k. Leads ns a v (n + c) (Tick c ∷ []) u k) more one)
  where
    more : n + c + 1 ≡ n + suc c
    more = omega arith

    w : WorldState
    w = s.world

    v : State
    v = with_world s (all_ticked 1 c w)

    u : State
    u = with_world s (all_ticked 1 (suc c) w)

    passes : Passes w v.world
    passes = all_passes 1 c w

    cpus : v.world.cpus ≡ w.cpus
    cpus = ap (λ (x : WorldState). x.cpus) passes

    here : (t : ℕ) → running v.world c ≡ Some t → running w c ≡ Some t
    here t e = ap (λ xs. get_or xs c None) (sym cpus) ∙ e

    known : (t : ℕ) → running v.world c ≡ Some t → t < length w.tasks
    known t e = some_slice w t (1 * tick_ns) (lasts c t (here t e))

    same : (t : ℕ) → running v.world c ≡ Some t → task_at v.world t ≡ task_at w t
    same t e =
        let none : times c w.cpus t ≡ 0 = omega (arith, runs_once s n t h, times_grow c (length w.cpus) w.cpus t (omega (arith, le)) (here t e)) in
        let once : 1 * times c w.cpus t ≡ 0 = omega (arith, none) in
        ticked_task 1 c t w (known t e) ∙ ap (λ k. after_many k (task_at w t)) once

    slices : (t : ℕ) → running v.world c ≡ Some t → tick_ns < (task_at v.world t).slice
    slices t e = omega (arith, ap (λ (x : Task). x.slice) (same t e), lasts c t (here t e))

    within : TicksWithin ns a (at v (n + c)) (Tick c)
    within t e = let x = runs c t (here t e) in (x.0, omega (arith, ap (λ (y : Task). y.run_ns) (same t e), x.1))

    there : c < length v.world.cpus
    there = subst (λ xs. c < length xs) (sym cpus) (omega (arith, le))

    one : Leads ns a v (n + c) (Tick c ∷ []) u (n + c + 1)
    one = leads_one ns a v u (n + c) (Tick c) within (ap (λ b. cond b None (Some UnknownCpu)) (lt-ltb c (length v.world.cpus) there)) (omega (arith, room)) before.valid
        (quiet_tick v c (rest_on s v.world passes rest) before.valid.still there slices)
        (ap (λ (x : WorldState). x.queues) (all_passes 1 (suc c) w) ∙ sym (ap (λ (x : WorldState). x.queues) passes)) refl

-- of the first processors
leads_ticks : (ns : ℕ) (a : SimState) (s : State) (n c : ℕ) → RunWithin ns a s.world → IsAtRest s → IsValid s n → SlicesLast 1 s.world → c ≤ length s.world.cpus → n + c ≤ max_events → Leads ns a s n (ticks_below c) (with_world s (all_ticked 1 c s.world)) (n + c)
leads_ticks ns a s n zero runs rest h lasts le room = let none : n ≡ n + 0 = omega arith in subst (λ k. Leads ns a s n [] s k) none (leads_none ns a s n h)
leads_ticks ns a s n (suc c) runs rest h lasts le room =
    leads_tick ns a s n c runs rest h lasts le room (leads_ticks ns a s n c runs rest h lasts (omega (arith, le)) (omega (arith, room)))

-- nobody begins to wait or ends a wait
since_same : (n c t : ℕ) (w : WorldState) → (task_at (all_ticked n c w) t).since ≡ (task_at w t).since
since_same n c t w = go (cases_lt t (length w.tasks))
  where
    v : WorldState
    v = all_ticked n c w

    go : (t < length w.tasks) ⊎ (length w.tasks ≤ t) → (task_at v t).since ≡ (task_at w t).since
    go (inl lt) = ap (λ (x : Task). x.since) (ticked_task n c t w lt) ∙ many_waits (n * times c w.cpus t) (task_at w t)
    go (inr past) =
        let many : length v.tasks ≡ length w.tasks = ap (λ (x : WorldState). length x.tasks) (all_ticked_is n c w) ∙ length-below n c w.cpus w.tasks in
        ap (λ (x : Task). x.since) (get_or_past v.tasks t no_task (omega (arith, many, past)) ∙ sym (get_or_past w.tasks t no_task past))

-- ---- a millisecond

leads_ms : (ns : ℕ) (a : SimState) (s : State) (n : ℕ) → RunWithin ns a s.world → IsAtRest s → IsValid s n → SlicesLast 1 s.world
    → ((t k : ℕ) → (task_at s.world t).since ≡ Some k → (s.world.clock + 1) - k ≤ s.policy.timeout_ms)
    → ((k : ℕ) (a : Alarm) → alarm_at s.world k ≡ Some a → s.world.clock + 1 < a.due)
    → n + (length s.world.cpus + 1) ≤ max_events
    → Leads ns a s n (quiet_ms (length s.world.cpus)) (skipped 1 s) (n + (length s.world.cpus + 1))
leads_ms ns a s n runs rest h lasts in_time later room =
    subst (λ k. Leads ns a s n (quiet_ms count) (skipped 1 s) k) sum
    (leads_both ns a s v (skipped 1 s) n (n + count) (n + count + 1) (ticks_below count) (Clock ∷ []) before
    (leads_one ns a v (skipped 1 s) (n + count) Clock tt refl (omega (arith, room)) before.valid
    (asks_none (machine.event_step v Clock) (skipped 1 s) (quiet_clock v (rest_on s v.world passes rest) waits timers)) queues refl))
  where
    w : WorldState
    w = s.world

    count : ℕ
    count = length w.cpus

    sum : n + count + 1 ≡ n + (count + 1)
    sum = omega arith

    v : State
    v = with_world s (all_ticked 1 count w)

    before : Leads ns a s n (ticks_below count) v (n + count)
    before = leads_ticks ns a s n count runs rest h lasts (omega arith) (omega (arith, room))

    passes : Passes w v.world
    passes = all_passes 1 count w

    same_clock : v.world.clock ≡ w.clock
    same_clock = ap (λ (x : WorldState). x.clock) (all_ticked_is 1 count w)

    queues : (skipped 1 s).world.queues ≡ v.world.queues
    queues = refl

    waits : (t k : ℕ) → (task_at v.world t).since ≡ Some k → (v.world.clock + 1) - k ≤ s.policy.timeout_ms
    waits t k e = let was = in_time t k (sym (since_same 1 count t w) ∙ e) in omega (arith, same_clock, was)

    timers : (k : ℕ) (a : Alarm) → alarm_at v.world k ≡ Some a → v.world.clock + 1 < a.due
    timers k a e =
        let was = later k a (ap (λ (x : WorldState). alarm_at x k) (sym passes) ∙ e) in
        omega (arith, same_clock, was)

-- ---- any number of them

-- time alone has passed
pub skipped_passes : (n : ℕ) (w : WorldState) → Passes w (world.skipped n w)
skipped_passes n w = let v = all_ticked n (length w.cpus) w in passes_on w v (world.skipped n w) (all_passes n (length w.cpus) w) refl

skipped_clock : (n : ℕ) (w : WorldState) → (world.skipped n w).clock ≡ w.clock + n
skipped_clock n w = ap (λ (v : WorldState). v.clock + n) (all_ticked_is n (length w.cpus) w)

-- no period begins before the last of these milliseconds ends
none_yet : (n i : ℕ) (w : WorldState) (limit : ℕ) → i < n → 0 < i → StaysCalm w limit (w.clock + n) → begun_periods (passed i w) ≡ passed i w
none_yet n i w limit lt some calm =
    none_begun (passed i w) (even_below i (length w.cpus) w.cpus (length w.tasks) w.tree calm.even ∙ sym (ap length (groups_below i (length w.cpus) w.cpus (length w.tasks) w.tree)))
    (λ g there.
    let groups = groups_below i (length w.cpus) w.cpus (length w.tasks) w.tree in
    ap (λ gs. ((w.clock + i) % period_at gs g) == 0) groups
    ∙ calm.periods (w.clock + i) g (omega (arith, some)) (omega (arith, lt)) (subst (λ gs. g < length gs) groups there))

-- a task's record after that
pub skipped_task : (n t : ℕ) (w : WorldState) → t < length w.tasks → task_at (world.skipped n w) t ≡ after_many (n * times (length w.cpus) w.cpus t) (task_at w t)
skipped_task n t w lt = ticked_task n (length w.cpus) t w lt

no_more : (n k : ℕ) → k ≤ 1 → n * k ≤ n
no_more n zero le = omega arith
no_more n (suc zero) le = omega arith
no_more n (suc (suc k)) le = absurd (omega (arith, le))

-- the slice that is left of a task that runs
slice_left : (s : State) (n i m c t : ℕ) → IsValid s m → SlicesLast n s.world → i < n → running (world.skipped i s.world) c ≡ Some t → 1 * tick_ns < (task_at (world.skipped i s.world) t).slice
slice_left s n i m c t h lasts lt e =
    let w = s.world in
    let runs : running w c ≡ Some t = ap (λ (x : WorldState). running x c) (sym (skipped_passes i w)) ∙ e in
    let whole : n * tick_ns < (task_at w t).slice = lasts c t runs in
    let known : t < length w.tasks = some_slice w t (n * tick_ns) whole in
    let k = i * times (length w.cpus) w.cpus t in
    let is : (task_at (world.skipped i w) t).slice ≡ (after_many k (task_at w t)).slice = ap (λ (x : Task). x.slice) (skipped_task i t w known) in
    omega (arith, is, whole, lt, many_left k (task_at w t), no_more i (times (length w.cpus) w.cpus t) (runs_once s m t h))

-- and how long it has run
ran_within : (s : State) (n i m c t : ℕ) → IsValid s m → SlicesLast n s.world → i < n → running (world.skipped i s.world) c ≡ Some t
    → (running s.world c ≡ Some t) × ((task_at (world.skipped i s.world) t).run_ns + tick_ns ≤ (task_at s.world t).run_ns + n * tick_ns)
ran_within s n i m c t h lasts lt e =
    let w = s.world in
    let runs : running w c ≡ Some t = ap (λ (x : WorldState). running x c) (sym (skipped_passes i w)) ∙ e in
    let known : t < length w.tasks = some_slice w t (n * tick_ns) (lasts c t runs) in
    let k = i * times (length w.cpus) w.cpus t in
    let ran : (task_at (world.skipped i w) t).run_ns ≡ (task_at w t).run_ns + k * 1000000 = ap (λ (x : Task). x.run_ns) (skipped_task i t w known) ∙ many_ran k (task_at w t) in
    (runs, omega (arith, ran, lt, no_more i (times (length w.cpus) w.cpus t) (runs_once s m t h)))

-- at first
runs_at_first : (n m : ℕ) (s : State) → 0 < n → RunWithin (n * tick_ns) (at s m) s.world
runs_at_first n m s some c t e = (e, omega (arith, some))

-- one millisecond more
leads_more : (s : State) (n j m : ℕ) → IsQuiet n s → IsValid s m → suc (suc j) ≤ n → m + suc (suc j) * (length s.world.cpus + 1) ≤ max_events
    → Leads (n * tick_ns) (at s m) s m (quiet_events (suc j) (length s.world.cpus)) (skipped (suc j) s) (m + suc j * (length s.world.cpus + 1))
    → Leads (n * tick_ns) (at s m) s m (quiet_events (suc (suc j)) (length s.world.cpus)) (skipped (suc (suc j)) s) (m + suc (suc j) * (length s.world.cpus + 1))
leads_more s n j m q h le room before =
    subst (λ x. Leads ns a s m (quiet_events (suc i) (length w.cpus)) (with_world s x) (m + suc i * (length w.cpus + 1))) (more ∙ ap (λ k. world.skipped k w) one)
    (leads_both ns a s u (skipped 1 u) m before_events (m + suc i * (length w.cpus + 1)) (quiet_events i (length w.cpus)) (quiet_ms (length w.cpus)) before
    (subst (λ k. Leads ns a u before_events (quiet_ms (length w.cpus)) (skipped 1 u) k) sum
    (subst (λ xs. Leads ns a u before_events (quiet_ms (length xs)) (skipped 1 u) (before_events + (length xs + 1))) cpus
    (leads_ms ns a u before_events (λ c t e. ran_within s n i m c t h q.slices (omega (arith, le)) e) (rest_on s u.world passes q.rest) before.valid (λ c t e. slice_left s n i m c t h q.slices (omega (arith, le)) e) waits timers last))))
  where
    i : ℕ
    i = suc j

    w : WorldState
    w = s.world

    u : State
    u = skipped i s

    before_events : ℕ
    before_events = m + i * (length w.cpus + 1)

    passes : Passes w u.world
    passes = skipped_passes i w

    cpus : u.world.cpus ≡ w.cpus
    cpus = ap (λ (x : WorldState). x.cpus) passes

    ns : ℕ
    ns = n * tick_ns

    a : SimState
    a = at s m

    one : i + 1 ≡ suc i
    one = omega arith

    sum : before_events + (length w.cpus + 1) ≡ m + suc i * (length w.cpus + 1)
    sum = omega arith

    last : before_events + (length u.world.cpus + 1) ≤ max_events
    last = subst (λ xs. before_events + (length xs + 1) ≤ max_events) (sym cpus) (omega (arith, room))

    clock : u.world.clock ≡ w.clock + i
    clock = skipped_clock i w

    waits : (t k : ℕ) → (task_at u.world t).since ≡ Some k → (u.world.clock + 1) - k ≤ s.policy.timeout_ms
    waits t k e = omega (arith, clock, le, q.calm.waits t k (sym (since_same i (length w.cpus) t w) ∙ e))

    timers : (k : ℕ) (a : Alarm) → alarm_at u.world k ≡ Some a → u.world.clock + 1 < a.due
    timers k a e = omega (arith, clock, le, q.calm.timers k a (ap (λ (x : WorldState). alarm_at x k) (sym passes) ∙ e))

    more : (skipped 1 u).world ≡ world.skipped (i + 1) w
    more = skipped_more 1 i w (none_yet n i w s.policy.timeout_ms (omega (arith, le)) (omega arith) q.calm)

-- the machine goes through the events of quiet milliseconds, and comes to what is computed at once
pub leads_quietly : (s : State) (n i m : ℕ) → IsQuiet n s → IsValid s m → 0 < i → i ≤ n → m + i * (length s.world.cpus + 1) ≤ max_events
    → Leads (n * tick_ns) (at s m) s m (quiet_events i (length s.world.cpus)) (skipped i s) (m + i * (length s.world.cpus + 1))
leads_quietly s n zero m q h some le room = absurd (omega (arith, some))
leads_quietly s n (suc zero) m q h some le room =
    let sum : m + (length s.world.cpus + 1) ≡ m + 1 * (length s.world.cpus + 1) = omega arith in
    subst (λ k. Leads (n * tick_ns) (at s m) s m (quiet_ms (length s.world.cpus)) (skipped 1 s) k) sum
    (leads_ms (n * tick_ns) (at s m) s m (runs_at_first n m s (omega (arith, le))) q.rest h (λ c t e. omega (arith, q.slices c t e, le))
    (λ t k e. omega (arith, q.calm.waits t k e, le))
    (λ k a e. omega (arith, q.calm.timers k a e, le)) (omega (arith, room)))
leads_quietly s n (suc (suc j)) m q h some le room =
    leads_more s n j m q h le room (leads_quietly s n (suc j) m q h (omega arith) (omega (arith, le)) (omega (arith, room)))

-- as many events are left for fewer milliseconds
pub left_less : (n m : ℕ) (s : SimState) → m ≤ n → AreLeft n s → AreLeft m s
left_less n m s le h = let fewer : m * (length s.state.world.cpus + 1) ≤ n * (length s.state.world.cpus + 1) = mul-le-mul_right (length s.state.world.cpus + 1) le in omega (arith, fewer, h)

-- as many milliseconds as their events are accepted still
pub few_enough : (n left count : ℕ) → n ≤ left / (count + 1) → n * (count + 1) ≤ left
few_enough n left count le =
    let times : n * (count + 1) ≤ left / (count + 1) * (count + 1) = mul-le-mul_right (count + 1) le in
    omega (arith, times, div-mul-le_self left (count + 1))
