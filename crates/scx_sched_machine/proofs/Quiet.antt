-- A tick and the clock, where nothing happens but that tasks run.
use Rattle.std.proofs.Common.{arith, ◌≡◌, ℕ, zero, suc, ◌+◌, ◌-◌, ◌*◌, ◌<◌, ◌≤◌, ◌⊎◌, inl, inr, Bool, true, false, not, ◌==◌, ◌&&◌, cond, nat_lt, nat_le, if◌then◌else◌, List, [], ◌∷◌, length, get_or, set, Option, Some, None, is_some, is_none, refl, sym, ap, ◌∙◌, subst}
use Rattle.std.specs.List.{position}
use Rattle.std.proofs.lemmas.Bool.{cases_lt, ne_eqb}
use Rattle.std.proofs.lemmas.Bool.Decides.{nat_tests}
use Rattle.std.proofs.lemmas.List.{get_or_past, get_or-set_same, length-set}
use Rattle.std.proofs.lemmas.List.Quantifiers.{position-Some}
use Rattle.scx_isa_semantics.specs.declared.callbacks.Callback.TheVariants as callback
use Rattle.scx_dsq.specs.Queues.{QueueState, len_of, front_of}
use Rattle.scx_weights.specs.Hierarchy.{Hierarchy}
use Rattle.scx_weights.specs.Limits.{has_quota}
use Rattle.scx_sched_tasks.specs.declared.task.Task.{Task}
use Rattle.scx_sched_tasks.specs.Tasks.{no_task}
use Rattle.scx_sched_tasks.specs.Waits.{is_late, is_overdue}
use Rattle.scx_sched_world.specs.declared.call.Call.{Call}
use Rattle.scx_sched_world.specs.declared.notes.Note.{Note}
use Rattle.scx_sched_world.specs.declared.timers.Alarm.{Alarm}
use Rattle.scx_sched_world.specs.Ids.{global, parked_queue}
use Rattle.scx_sched_world.specs.World as world
use Rattle.scx_sched_world.specs.World.{WorldState, task_at, running, with_cycling, cycling_by_linux, at_callback}
use Rattle.scx_sched_world.specs.Pending.{is_pending, pending_below}
use Rattle.scx_sched_world.specs.Waits.{first_overdue}
use Rattle.scx_sched_world.specs.Helpers.{is_there, alarm_at, due_now}
use Rattle.scx_sched_world.specs.Tasks.{local_len, next_for, tick_ns, ran_a_tick, after_tick, used_ms, later, begun_periods, slice_left}
use Rattle.scx_sched_world.specs.Quiet.{ticked_for, SlicesLast, StaysCalm}
use Rattle.scx_sched_world.proofs.Quiet.{calm_less, slices_less}
use Rattle.scx_sched_machine.specs.declared.events.Event.TheVariants.{Tick, Clock}
use Rattle.scx_sched_policy.specs.Policy.{program_of}
use Rattle.scx_sched_machine.specs.Steps.{State, CallMade, Stepped, with_world, stays, one_after_other, is_ejected, is_by_linux}
use Rattle.scx_sched_machine.specs.Callbacks.{AreAnswered}
use Rattle.scx_sched_policy.specs.Vain.{nobody_in, asked_in, in_vain}
use Rattle.scx_sched_machine.specs.Firing.{due, fires, fire, fire_below, fire_all}
use Rattle.scx_sched_machine.specs.Parking.{let_all_go}
use Rattle.scx_sched_machine.specs.Cycle.{stays_idle, cycling, idles, cycle}
use Rattle.scx_sched_machine.specs.Rounds.{next_to_look, most_rounds, rounds, with_rounds}
use Rattle.scx_sched_machine.specs.Events.{is_tick_time, ends_slices, expire, hears_tick, count_down, tick_idle, tick_of, tick, overdue, eject_if_stalled, watch, timers_and_watchdog, clock, event_step}
use Rattle.scx_sched_machine.specs.Quiet.{FindsNone, IsAtRest, IsQuiet}
use Rattle.scx_sched_machine.proofs.Choices.{keeps_if}
use Rattle.scx_sched_machine.proofs.Counting.{count_left}
use Rattle.scx_sched_machine.proofs.Free.{free_tasks}
use Rattle.scx_sched_machine.proofs.Idling.{idle_cycle, idles_answered}
use Rattle.scx_sched_machine.proofs.Leaving.{then_stays}
use Rattle.scx_sched_machine.proofs.Looking.{rounds_last}
use Rattle.scx_sched_machine.proofs.Parked.{go_none}

-- ---- what time changes

-- a world is another one but for the clock, the records of tasks, what groups have used and the
-- last callback
abbrev pub Passes : WorldState → WorldState → Type 0
Passes w u = u ≡ record w { clock = u.clock; tasks = u.tasks; tree = record w.tree { usages = u.tree.usages }; call = u.call; notes = u.notes }

pub passes_on : (w u v : WorldState) → Passes w u → Passes u v → Passes w v
passes_on w u v first second =
    second ∙ ap (λ (x : WorldState). record x { clock = v.clock; tasks = v.tasks; tree = record x.tree { usages = v.tree.usages }; call = v.call; notes = v.notes }) first

-- the same processors are pending
pending_same : (n : ℕ) (w : WorldState) (clock : ℕ) (tasks : List Task) (usages : List ℕ) (call : Call) (notes : List Note)
    → pending_below n (record w { clock = clock; tasks = tasks; tree = record w.tree { usages = usages }; call = call; notes = notes }) ≡ pending_below n w
unfolding pending_below
pending_same zero w clock tasks usages call notes = refl
pending_same (suc n) w clock tasks usages call notes =
    ap (λ o. world.or_this o (world.this_if (is_pending w n) n)) (pending_same n w clock tasks usages call notes)

looks_same : (s : State) (clock : ℕ) (tasks : List Task) (usages : List ℕ) (call : Call) (notes : List Note)
    → next_to_look (with_world s (record s.world { clock = clock; tasks = tasks; tree = record s.world.tree { usages = usages }; call = call; notes = notes })) ≡ next_to_look s
unfolding next_to_look
looks_same s clock tasks usages call notes = ap (λ o. if is_by_linux s then o else None) (pending_same (length s.world.cpus) s.world clock tasks usages call notes)

-- nobody waits in the same queues
nobody_same : (qs : List ℕ) (w : WorldState) (c clock : ℕ) (tasks : List Task) (usages : List ℕ) (call : Call) (notes : List Note)
    → nobody_in (record w { clock = clock; tasks = tasks; tree = record w.tree { usages = usages }; call = call; notes = notes }) c qs ≡ nobody_in w c qs
nobody_same [] w c clock tasks usages call notes = refl
nobody_same (q ∷ qs) w c clock tasks usages call notes =
    ap (λ b. b && (is_there w q && is_none (next_for w q c))) (nobody_same qs w c clock tasks usages call notes)

vain_same : (o : Option (List ℕ)) (w : WorldState) (c clock : ℕ) (tasks : List Task) (usages : List ℕ) (call : Call) (notes : List Note)
    → in_vain (record w { clock = clock; tasks = tasks; tree = record w.tree { usages = usages }; call = call; notes = notes }) c o ≡ in_vain w c o
vain_same None w c clock tasks usages call notes = refl
vain_same (Some qs) w c clock tasks usages call notes = nobody_same qs w c clock tasks usages call notes

rest_same : (s : State) (clock : ℕ) (tasks : List Task) (usages : List ℕ) (call : Call) (notes : List Note) → IsAtRest s
    → IsAtRest (with_world s (record s.world { clock = clock; tasks = tasks; tree = record s.world.tree { usages = usages }; call = call; notes = notes }))
unfolding stays_idle
rest_same s clock tasks usages call notes h = record {
  force = h.force;
  free = h.free;
  parked = h.parked;
  unheard = h.unheard;
  unasked = looks_same s clock tasks usages call notes ∙ h.unasked;
  idle = λ c there plain none.
      ap (λ b. not (is_ejected s) && (not (has_quota s.world.tree.groups) && ((local_len s.world c == 0) && (is_none (next_for s.world global c) && b))))
      (vain_same (asked_in (program_of s.policy callback.Dispatch)) s.world c clock tasks usages call notes)
      ∙ h.idle c there plain none;
}

-- a machine at rest stays so as time passes
pub rest_on : (s : State) (u : WorldState) → Passes s.world u → IsAtRest s → IsAtRest (with_world s u)
rest_on s u same h = subst (λ (x : WorldState). IsAtRest (with_world s x)) (sym same) (rest_same s u.clock u.tasks u.tree.usages u.call u.notes h)

-- ---- a tick

-- where nobody is to look for work nobody does
pub unlooked : (r : Stepped) → next_to_look r.state ≡ None → with_rounds r ≡ r
unfolding with_rounds
unlooked r e = go (is_by_linux r.state)
  where
    go : (b : Bool) → (if b then one_after_other r (rounds most_rounds r.state) else r) ≡ r
    go true = ap (λ x. one_after_other r x) (rounds_last most_rounds r.state e) ∙ then_stays r
    go false = refl

plainly : (w : WorldState) (o : Option ℕ) → world.is_by_linux w ≡ false → with_cycling w o ≡ record w { cycling = o }
plainly w o e = ap (λ b. if b then cycling_by_linux w o else record w { cycling = o }) e

-- a step that changes the state, notes nothing and makes these calls, which are answered
pub record Asks (r : Stepped) (s : State) : Type 0 where
  pub calls : List CallMade
  pub answered : AreAnswered calls
  pub step : r ≡ record { state = s; notes = []; calls = calls }

-- one that makes none
pub asks_none : (r : Stepped) (s : State) → r ≡ stays s → Asks r s
asks_none r s e = record { calls = []; answered = tt; step = e }

-- a cycle that comes to nothing leaves dispatch as the last callback
idles_plainly : (s : State) (c : ℕ) → is_by_linux s ≡ false → s.world.cycling ≡ None → (idles s c).state ≡ with_world s (at_callback s.world callback.Dispatch 0 c)
unfolding idles
idles_plainly s c plain still =
    ap (λ (v : WorldState). with_world s (with_cycling (at_callback v callback.Dispatch 0 c) None)) (plainly s.world (Some c) plain)
    ∙ ap (λ (v : WorldState). with_world s v) (plainly (at_callback (record s.world { cycling = Some c }) callback.Dispatch 0 c) None plain)
    ∙ ap (λ o. with_world s (record (at_callback s.world callback.Dispatch 0 c) { cycling = o })) (sym still)

idles_asks : (s : State) (c : ℕ) → stays_idle s c ≡ true → is_by_linux s ≡ false → s.world.cycling ≡ None → Asks (cycle s c None false) (with_world s (at_callback s.world callback.Dispatch 0 c))
unfolding idles
idles_asks s c idle plain still = record {
  calls = (idles s c).calls;
  answered = idles_answered s c idle;
  step = idle_cycle s c idle ∙ ap (λ (x : State). record { state = x; notes = []; calls = (idles s c).calls }) (idles_plainly s c plain still);
}

-- one that runs no task stays idle
idle_ticks : (s : State) (c : ℕ) → IsAtRest s → s.world.cycling ≡ None → c < length s.world.cpus → running s.world c ≡ None → Asks (tick_idle s c) (with_world s (ticked_for 1 s.world c None))
unfolding tick_idle
idle_ticks s c h still there none = go (is_by_linux s) refl
  where
    go : (b : Bool) → is_by_linux s ≡ b → Asks (if b then stays s else cycle s c None false) (with_world s (if b then s.world else at_callback s.world callback.Dispatch 0 c))
    go true e = asks_none (stays s) s refl
    go false e = idles_asks s c (h.idle c there e none) e still

counted_down_left : (n : ℕ) → tick_ns < n → ((if n == 0xffff_ffff_ffff_ffff then n else n - tick_ns) == 0) ≡ false
counted_down_left n lt = go (n == 0xffff_ffff_ffff_ffff)
  where
    go : (b : Bool) → ((if b then n else n - tick_ns) == 0) ≡ false
    go true = grind (arith, nat_tests, lt)
    go false = grind (arith, nat_tests, lt)

-- who has some of its slice is a task that there is
slice_known : (w : WorldState) (t : ℕ) → tick_ns < (task_at w t).slice → t < length w.tasks
slice_known w t lt = go (cases_lt t (length w.tasks))
  where
    go : (t < length w.tasks) ⊎ (length w.tasks ≤ t) → t < length w.tasks
    go (inl l) = l
    go (inr past) = let none : (task_at w t).slice ≡ 0 = ap (λ (x : Task). x.slice) (get_or_past w.tasks t no_task past) in absurd (omega (arith, none, lt))

-- one that runs a task with some of its slice left goes on
busy_ticks : (s : State) (c t : ℕ) → IsAtRest s → tick_ns < (task_at s.world t).slice → count_down s c t ≡ stays (with_world s (ticked_for 1 s.world c (Some t)))
unfolding hears_tick expire
busy_ticks s c t h lt = count_left s c t unheard left ∙ ap (λ b. if b && ends_slices v then cycle v c (Some t) true else stays v) more
  where
    w : WorldState
    w = after_tick s.world t

    v : State
    v = with_world s (used_ms w t)

    known : t < length s.world.tasks
    known = slice_known s.world t lt

    unheard : hears_tick s ≡ false
    unheard = ap (λ b. b && is_tick_time s) h.unheard

    free : has_quota v.world.tree.groups ≡ false
    free = keeps_if (λ (u : WorldState). has_quota u.tree.groups ≡ false) (nat_lt t (length w.tasks)) _ w h.free h.free

    some_left : (b : Bool) (n : ℕ) → b ≡ false → is_some (if b then None else Some n) ≡ true
    some_left true n e = absurd (cc)
    some_left false n e = refl

    left : is_some (slice_left v.world t) ≡ true
    left = some_left (world.is_throttled v.world t) (task_at v.world t).slice (free_tasks v.world free t)

    slice_is : (task_at v.world t).slice ≡ (ran_a_tick (task_at s.world t)).slice
    slice_is = keeps_if (λ (u : WorldState). (task_at u t).slice ≡ (ran_a_tick (task_at s.world t)).slice) (nat_lt t (length w.tasks)) _ w here here
      where
        here : (task_at w t).slice ≡ (ran_a_tick (task_at s.world t)).slice
        here = ap (λ (x : Task). x.slice) (get_or-set_same s.world.tasks t (ran_a_tick (task_at s.world t)) no_task known)

    more : ((task_at v.world t).slice == 0) ≡ false
    more = ap (λ n. n == 0) slice_is ∙ counted_down_left (task_at s.world t).slice lt

-- a tick leaves all else as it was
pub ticked_passes : (n : ℕ) (w : WorldState) (c : ℕ) (o : Option ℕ) → Passes w (ticked_for n w c o)
ticked_passes n w c None = keeps_if (Passes w) (world.is_by_linux w) w (at_callback w callback.Dispatch 0 c) refl refl
ticked_passes n w c (Some t) = keeps_if (Passes w) (nat_lt t (length _)) _ _ refl refl

-- a tick of a machine at rest
pub quiet_tick : (s : State) (c : ℕ) → IsAtRest s → s.world.cycling ≡ None → c < length s.world.cpus → ((t : ℕ) → running s.world c ≡ Some t → tick_ns < (task_at s.world t).slice)
    → Asks (event_step s (Tick c)) (with_world s (ticked_for 1 s.world c (running s.world c)))
unfolding tick
quiet_tick s c h still there lasts = record {
  calls = asks.calls;
  answered = asks.answered;
  step = ap (λ r. with_rounds r) asks.step ∙ unlooked (record { state = with_world s u; notes = []; calls = asks.calls }) (rest_on s u (ticked_passes 1 s.world c (running s.world c)) h).unasked;
}
  where
    u : WorldState
    u = ticked_for 1 s.world c (running s.world c)

    go : (o : Option ℕ) → running s.world c ≡ o → Asks (tick_of o s c) (with_world s (ticked_for 1 s.world c o))
    go None e = idle_ticks s c h still there e
    go (Some t) e = asks_none (count_down s c t) (with_world s (ticked_for 1 s.world c (Some t))) (busy_ticks s c t h (lasts t e))

    asks : Asks (tick_of (running s.world c) s c) (with_world s u)
    asks = go (running s.world c) refl

-- ---- the clock

-- no timer is due
none_due : (w : WorldState) (o : Option Alarm) → ((a : Alarm) → o ≡ Some a → w.clock < a.due) → due_now w o ≡ None
none_due w None h = refl
none_due w (Some a) h = let late : nat_le a.due w.clock ≡ false = grind (arith, nat_tests, h a refl) in ap (λ b. if b then Some a else None) late

undue : (s : State) (n : ℕ) → ((k : ℕ) (a : Alarm) → alarm_at s.world k ≡ Some a → s.world.clock < a.due) → fire s n ≡ stays s
unfolding fire due
undue s n h = ap (λ o. fires o s n) (go (is_by_linux s))
  where
    go : (b : Bool) → (if b then due_now s.world (alarm_at s.world n) else None) ≡ None
    go true = none_due s.world (alarm_at s.world n) (h n)
    go false = refl

none_fires : (n : ℕ) (s : State) → ((k : ℕ) (a : Alarm) → alarm_at s.world k ≡ Some a → s.world.clock < a.due) → fire_below n s ≡ stays s
none_fires zero s h = refl
none_fires (suc n) s h = ap (λ r. one_after_other r (fire r.state n)) (none_fires n s h) ∙ ap (λ r. one_after_other (stays s) r) (undue s n h)

-- nobody is late
both : {A : Type 0} {b : Bool} → b ≡ false → b ≡ true → A
both e f = absurd (cc)

timely : (now limit : ℕ) (o : Option ℕ) → ((n : ℕ) → o ≡ Some n → now - n ≤ limit) → is_late now limit o ≡ false
timely now limit None h = refl
timely now limit (Some n) h = grind (arith, nat_tests, h n refl)

pub nobody_overdue : (w : WorldState) (limit : ℕ) → ((t n : ℕ) → (task_at w t).since ≡ Some n → w.clock - n ≤ limit) → first_overdue w limit ≡ None
nobody_overdue w limit h = go (first_overdue w limit) refl
  where
    go : (o : Option ℕ) → position (is_overdue w.clock limit) w.tasks ≡ o → o ≡ None
    go None is = refl
    go (Some t) is =
        let x = position-Some (is_overdue w.clock limit) w.tasks t no_task is in
        both (timely w.clock limit (task_at w t).since (h t)) x.1

unwatched : (s : State) → ((t n : ℕ) → (task_at s.world t).since ≡ Some n → s.world.clock - n ≤ s.policy.timeout_ms) → watch s ≡ stays s
unfolding watch
unwatched s h = ap (λ o. eject_if_stalled o s) (go (is_some s.world.ejected))
  where
    go : (b : Bool) → (if b then None else first_overdue s.world s.policy.timeout_ms) ≡ None
    go true = refl
    go false = nobody_overdue s.world s.policy.timeout_ms h

-- the clock of a machine at rest
pub quiet_clock : (s : State) → IsAtRest s
    → ((t n : ℕ) → (task_at s.world t).since ≡ Some n → (s.world.clock + 1) - n ≤ s.policy.timeout_ms)
    → ((k : ℕ) (a : Alarm) → alarm_at s.world k ≡ Some a → s.world.clock + 1 < a.due)
    → event_step s Clock ≡ stays (with_world s (begun_periods (later s.world)))
unfolding clock let_all_go timers_and_watchdog fire_all
quiet_clock s h waits timers =
    ap (λ r. with_rounds (one_after_other r (timers_and_watchdog r.state))) (go_none (len_of s.world.queues parked_queue) v (front_of s.world.queues parked_queue) h.parked)
    ∙ ap (λ r. with_rounds (one_after_other (stays v) (one_after_other r (watch r.state)))) (none_fires (length s.world.timers) v timers)
    ∙ ap (λ r. with_rounds (one_after_other (stays v) (one_after_other (stays v) r))) (unwatched v waits)
    ∙ unlooked (stays v) (rest_on s v.world refl h).unasked
  where
    v : State
    v = with_world s (begun_periods (later s.world))

-- ---- a machine at rest

none_of : {A : Type 0} (o : Option A) → is_some o ≡ false → o ≡ None
none_of None e = refl
none_of (Some x) e = absurd (cc)

nobody : {A : Type 0} (o : Option A) → is_none o ≡ true → o ≡ None
nobody None e = refl
nobody (Some x) e = absurd (cc)

-- in other words
pub at_rest : (s : State) → is_some s.world.ejected ≡ false → has_quota s.world.tree.groups ≡ false → (is_by_linux s && is_some (program_of s.policy callback.Tick)) ≡ false
    → len_of s.world.queues parked_queue ≡ 0 → ((c : ℕ) → c < length s.world.cpus → FindsNone s c) → is_none (next_to_look s) ≡ true → IsAtRest s
at_rest s force free unheard parked idle unasked = record {
  force = none_of s.world.ejected force;
  free = free;
  parked = parked;
  unheard = unheard;
  unasked = nobody (next_to_look s) unasked;
  idle = idle;
}

-- ---- fewer milliseconds

-- of milliseconds that are quiet the first ones are
pub quiet_less : (n m : ℕ) (s : State) → m ≤ n → IsQuiet n s → IsQuiet m s
quiet_less n m s le h = record {
  rest = h.rest;
  slices = slices_less n m s.world le h.slices;
  calm = calm_less s.world s.policy.timeout_ms (s.world.clock + m) (s.world.clock + n) (omega (arith, le)) h.calm;
}

-- where slices last for some milliseconds and all is calm up to a clock, as many are quiet as both allow
pub are_quiet : (n m to : ℕ) (s : State) → IsAtRest s → SlicesLast n s.world → StaysCalm s.world s.policy.timeout_ms to → m ≤ n → s.world.clock + m ≤ to → IsQuiet m s
are_quiet n m to s rest lasts calm le until = record {
  rest = rest;
  slices = slices_less n m s.world le lasts;
  calm = calm_less s.world s.policy.timeout_ms (s.world.clock + m) to until calm;
}
