-- By Linux rules, while the policy is in force, each timer that was started is due later than the clock: it is as it is
-- started, and as the clock grows each that is due runs once, by number.
use Rattle.std.proofs.Common.{◌≡◌, ℕ, zero, suc, ◌+◌, ◌<◌, ◌≤◌, Bool, true, false, ◌&&◌, if◌then◌else◌, nat_lt, nat_le, ◌⊎◌, inl, inr, List, length, set, get_or, Option, Some, None, is_none, Ok, refl, sym, ap, ◌∙◌, subst, arith}
use Rattle.std.proofs.lemmas.Bool.{cases_eq, cases_lt}
use Rattle.std.proofs.lemmas.Bool.Decides.{nat_tests}
use Rattle.std.proofs.lemmas.List.{length-set, length-replicate, get_or-set_same, get_or-set_other, get_or_past, set_past}
use Rattle.scx_isa_semantics.specs.declared.callbacks.Callback.TheVariants as callback
use Rattle.scx_weights.specs.Hierarchy.{Hierarchy, with_weight}
use Rattle.scx_weights.specs.Limits.{with_use}
use Rattle.scx_weights.specs.Refusals.{weight_fault}
use Rattle.scx_sched_tasks.specs.declared.task.Task.{Task}
use Rattle.scx_sched_tasks.specs.Tasks.{new_task}
use Rattle.scx_sched_world.specs.declared.timers.Alarm.{Alarm}
use Rattle.scx_sched_world.specs.World as world
use Rattle.scx_sched_world.specs.World.{WorldState, are_linux, with_tree, with_task}
use Rattle.scx_sched_world.specs.Tasks.{used_ms, later, begun_periods}
use Rattle.scx_sched_world.specs.Helpers.{with_timer, alarm_at, due_now, after_fire}
use Rattle.scx_sched_machine.specs.declared.events.Event.{Event}
use Rattle.scx_sched_policy.specs.Policy.{PolicyState}
use Rattle.scx_sched_machine.specs.Start.{is_bad_shape, first_state}
use Rattle.scx_sched_machine.specs.Steps.{State, with_world, is_by_linux}
use Rattle.scx_sched_machine.specs.Callbacks.{call_by_linux, one_number}
use Rattle.scx_sched_machine.specs.Parking.{let_all_go}
use Rattle.scx_sched_machine.specs.Firing.{due, fires, fire, fire_below, fire_all}
use Rattle.scx_sched_machine.specs.Events.{refusal, overdue, eject_if_stalled, watch, timers_and_watchdog, clock, own_step, event_step}
use Rattle.scx_sched_machine.proofs.Choices.{keeps_if}
use Rattle.scx_sched.specs.Kept.{IsKeptBySteps}
use Rattle.scx_sched.specs.Ranges.{IsFine}
use Rattle.scx_sched.specs.Timers.{AreTimersLater}
use Rattle.scx_sched.proofs.Fine.{fine_steps}
use Rattle.scx_sched.proofs.First.{none_started, steps_started}
use Rattle.scx_sched.proofs.Skeleton.{keeps_eject, keeps_call_by_linux, keeps_timer, due_started}
use Rattle.scx_sched.proofs.Letting.{keeps_let_all_go}
use Rattle.scx_sched.proofs.Watching.{Both, alone_events}
use Rattle.scx_sched.proofs.Events.{IsKeptByEvents, IsKeptByTick, IsTaken, Wakes, Sleeps, Ticks, Clocks, Weighs, WeighsTask, is_taken, IsFineNow, inside_of, fine_events, one_more, fine_later, fine_ticked, fine_clock, fine_reweighed, keeps_now, keeps_wake, keeps_sleep, keeps_tick, keeps_reweigh, keeps_with_rounds}
use Rattle.scx_sched.proofs.Queries.{KeepsQueries, off_queues}
use Rattle.scx_sched.proofs.Written.{each_written}
use Rattle.scx_sched.proofs.Alone.{KeepsAlone, alone_steps}

-- a timer below that number is due later than the clock, another one at it or later
abbrev IsDueFor : ℕ → ℕ → ℕ → Alarm → Type 0
IsDueFor j now i a = (now ≤ a.due) × (i < j → now < a.due)

-- of that many tasks and timers, each timer is due so, if it was started
abbrev AreDue : (n k j : ℕ) → WorldState → Type 0
AreDue n k j w =
    (length w.tasks ≡ n) × (length w.timers ≡ k) × (world.is_by_linux w ≡ true → (i : ℕ) (a : Alarm) → alarm_at w i ≡ Some a → IsDueFor j w.clock i a)

no_alarm : (a : Alarm) → None ≡ Some a → ⊥
no_alarm a e = absurd (cc)

-- an ejected policy goes by no rules
not_linux : (b : Bool) → (b && false) ≡ true → ⊥
not_linux true e = absurd (cc)
not_linux false e = absurd (cc)

module _ (n k j : ℕ) where
  -- another record of a task
  due_task : (w : WorldState) (t : ℕ) (x : Task) → AreDue n k j w → AreDue n k j (with_task w t x)
  due_task w t x h = (length-set w.tasks t x ∙ h.0, h.1, h.2)

  -- another alarm
  due_alarm : (w : WorldState) (i : ℕ) (o : Option Alarm) → ((a : Alarm) → o ≡ Some a → IsDueFor j w.clock i a) → AreDue n k j w → AreDue n k j (with_timer w i o)
  due_alarm w i o new h = (h.0, length-set w.timers i o ∙ h.1, λ linux. each_written (λ u (b : Option Alarm). (a : Alarm) → b ≡ Some a → IsDueFor j w.clock u a) w.timers i o None new (h.2 linux))

  -- each small change of a query
  due_kept : KeepsQueries (AreDue n k j)
  due_kept = off_queues (AreDue n k j) (λ w x other h. h) (λ w i o later h. due_alarm w i o (λ a e. (omega (arith, later a e), λ l. later a e)) h) (λ w t s v c h. due_task w t _ h) (λ w q i m a b c d r ns h. h)

  -- and of a world
  due_alone : KeepsAlone n (AreDue n k j)
  due_alone = record {
    known = λ w h. h.0;
    queries = due_kept;
    waits_now = λ w t h. due_task w t _ h;
    waits_not = λ w t c h. due_task w t _ h;
    builtin = λ w t s v h. due_task w t _ h;
    popped = λ w q h. h;
    out = λ w x h. (h.0, h.1, λ linux. absurd (not_linux (are_linux w.rules) linux));
    rest = λ w cpus o x a b c tree call clock ns h. h;
  }

-- ---- events

-- each task in its place, and each timer due so
abbrev IsRightAndDue : (n e k j m : ℕ) → Option ℕ → List (Option ℕ) → WorldState → Type 0
IsRightAndDue n e k j = Both (IsFine n e) (λ m hand on w. AreDue n k j w)

due_events : (n e k j : ℕ) → IsKeptByEvents n (IsRightAndDue n e k j)
due_events n e k j = alone_events n e (AreDue n k j) (due_alone n k j)

-- ---- timers that run

-- a timer isn't started any more, and the next ones may be due now
due_cleared : (n k i : ℕ) (w : WorldState) → AreDue n k i w → AreDue n k (suc i) (with_timer w i None)
due_cleared n k i w h = (h.0, length-set w.timers i None ∙ h.1, λ linux u a e. go linux u a e (cases_eq u i) (cases_lt i (length w.timers)))
  where
    first : (u : ℕ) (a : Alarm) → (u ≡ i → ⊥) → IsDueFor i w.clock u a → IsDueFor (suc i) w.clock u a
    first u a d x = (x.0, λ l. x.1 (omega (arith, l, d)))

    gone : (u : ℕ) → u ≡ i → length w.timers ≤ i → get_or w.timers u None ≡ None
    gone u is past = get_or_past {X = Option Alarm} w.timers u None (omega (arith, past, is))

    go : world.is_by_linux w ≡ true → (u : ℕ) (a : Alarm) → get_or (set w.timers i None) u None ≡ Some a → (u ≡ i) ⊎ (u ≡ i → ⊥) → (i < length w.timers) ⊎ (length w.timers ≤ i) → IsDueFor (suc i) w.clock u a
    go linux u a e (inl is) (inl l) = absurd (no_alarm a (sym (get_or-set_same w.timers i None None l) ∙ (ap (λ x. get_or (set w.timers i None) x None) (sym is) ∙ e)))
    go linux u a e (inl is) (inr past) = absurd (no_alarm a (sym (gone u is past) ∙ (ap (λ (xs : List (Option Alarm)). get_or xs u None) (sym (set_past w.timers i None past)) ∙ e)))
    go linux u a e (inr d) l = first u a d (h.2 linux u a (sym (get_or-set_other w.timers i u None None d) ∙ e))

-- one that isn't due now is due later
due_passed : (n k i : ℕ) (w : WorldState) → due_now w (alarm_at w i) ≡ None → AreDue n k i w → AreDue n k (suc i) w
due_passed n k i w none h = (h.0, h.1, λ linux u a e. (((h.2 linux u a e).0), λ l. go linux u a e l (cases_eq u i)))
  where
    after : (a : Alarm) (b : Bool) → nat_le a.due w.clock ≡ b → (if b then Some a else None) ≡ None → w.clock < a.due
    after a true x y = absurd (cc)
    after a false x y = grind (arith, nat_tests, x)

    go : world.is_by_linux w ≡ true → (u : ℕ) (a : Alarm) → alarm_at w u ≡ Some a → u < suc i → (u ≡ i) ⊎ (u ≡ i → ⊥) → w.clock < a.due
    go linux u a e l (inl is) = after a (nat_le a.due w.clock) refl (ap (λ o. due_now w o) (sym (ap (λ x. alarm_at w x) (sym is) ∙ e)) ∙ none)
    go linux u a e l (inr d) = (h.2 linux u a e).1 (omega (arith, l, d))

-- by plain rules nothing is said of them
due_plain : (n k i j : ℕ) (w : WorldState) → world.is_by_linux w ≡ false → AreDue n k i w → AreDue n k j w
due_plain n k i j w plain h = (h.0, h.1, λ linux. let bad : true ≡ false = sym linux ∙ plain in absurd (cc))

module _ (n e k m : ℕ) (on : List (Option ℕ)) where
  abbrev IsOnTime : ℕ → State → Type 0
  IsOnTime i s = IsRightAndDue n e k i m None on s.world

  due_fire : (i : ℕ) (s : State) → IsOnTime i s → IsOnTime (suc i) (fire s i).state
  unfolding fire due
  due_fire i s h = go (is_by_linux s) refl (due_now s.world (alarm_at s.world i)) refl
    where
      steps : IsKeptBySteps n (IsRightAndDue n e k (suc i))
      steps = (due_events n e k (suc i)).steps

      runs : (a : Alarm) → a.cpu < length on → IsOnTime (suc i) (fires (Some a) s i).state
      runs a l =
          let v = with_world s (after_fire s.world i) in
          let clear : IsRightAndDue n e k (suc i) m None on (with_timer s.world i None) = record { one = (fine_steps n e).cancelled m None on s.world i h.one; two = due_cleared n k i s.world h.two } in
          let x = keeps_timer n (IsRightAndDue n e k (suc i)) steps m None on (with_timer s.world i None) (Some i) clear in
          keeps_timer n (IsRightAndDue n e k (suc i)) steps m None on (call_by_linux v callback.Timer (one_number i) 0 a.cpu).state.world None (keeps_call_by_linux n (IsRightAndDue n e k (suc i)) steps m None on v callback.Timer (one_number i) 0 a.cpu l x)

      go : (b : Bool) → is_by_linux s ≡ b → (o : Option Alarm) → due_now s.world (alarm_at s.world i) ≡ o → IsOnTime (suc i) (fires (if b then o else None) s i).state
      go false plain o x = record { one = h.one; two = due_plain n k i (suc i) s.world plain h.two }
      go true linux None x = record { one = h.one; two = due_passed n k i s.world x h.two }
      go true linux (Some a) x = runs a (h.one.sound.here.timed i a (due_started s.world i a x))

  due_fire_below : (i : ℕ) (s : State) → IsOnTime 0 s → IsOnTime i (fire_below i s).state
  due_fire_below zero s h = h
  due_fire_below (suc i) s h = due_fire i (fire_below i s).state (due_fire_below i s h)

-- where all timers are due later, they are so for whatever number
due_of : (n j : ℕ) (w : WorldState) → length w.tasks ≡ n → AreTimersLater w → AreDue n (length w.timers) j w
due_of n j w tasks h = (tasks, refl, λ linux i a e. let l = h linux i a e in (omega (arith, l), λ x. l))

-- and back
later_of : (n k : ℕ) (w : WorldState) → AreDue n k k w → AreTimersLater w
later_of n k w h linux i a e = (h.2 linux i a e).1 (go (cases_lt i (length w.timers)))
  where
    go : (i < length w.timers) ⊎ (length w.timers ≤ i) → i < k
    go (inl l) = omega (arith, l, h.1)
    go (inr past) = absurd (no_alarm a (sym (get_or_past {X = Option Alarm} w.timers i None past) ∙ e))

-- as the clock grows timers run that are due
due_clock : (n e : ℕ) (s : State) → length s.world.tasks ≡ n → IsFineNow n e e s.world → AreTimersLater s.world → AreDue n (length s.world.timers) (length s.world.timers) (clock s).state.world
unfolding clock timers_and_watchdog watch fire_all
due_clock n e s tasks fine late = stalled (overdue f)
  where
    many : ℕ
    many = length s.world.timers

    I : ℕ → ℕ → Option ℕ → List (Option ℕ) → WorldState → Type 0
    I i = IsRightAndDue n (e + 1) many i

    v : State
    v = with_world s (begun_periods (later s.world))

    grown : AreDue n many 0 v.world
    grown = (tasks, refl, λ linux i a x. let l = late linux i a x in (omega (arith, l), λ y. absurd (omega (arith, y))))

    l : State
    l = (let_all_go v).state

    gone : I 0 e None s.world.cpus l.world
    gone = keeps_let_all_go n (I 0) (inside_of n (I 0) (due_events n (e + 1) many 0)) (due_events n (e + 1) many 0).let_go e s.world.cpus v (record { one = fine_later n e e s.world fine; two = grown })

    f : State
    f = (fire_below (length l.world.timers) l).state

    fired : I many e None s.world.cpus f.world
    fired = subst (λ i. I i e None s.world.cpus f.world) gone.two.1 (due_fire_below n (e + 1) many e s.world.cpus (length l.world.timers) l gone)

    stalled : (o : Option ℕ) → AreDue n many many (eject_if_stalled o f).state.world
    stalled None = fired.two
    stalled (Some t) = (keeps_eject n (I many) (due_events n (e + 1) many many).steps e None s.world.cpus f _ fired).two

-- after any accepted event
pub timers_step : (n e : ℕ) (s : State) (v : Event) → length s.world.tasks ≡ n → refusal s v ≡ None → IsFineNow n e e s.world → AreTimersLater s.world → AreTimersLater (event_step s v).state.world
timers_step n e s v tasks ok fine late = later_of n many (event_step s v).state.world (keeps_with_rounds n I k e (own_step s v) (go v (is_taken s v ok))).two
  where
    many : ℕ
    many = length s.world.timers

    I : ℕ → Option ℕ → List (Option ℕ) → WorldState → Type 0
    I = IsRightAndDue n (e + 1) many many

    k : IsKeptByEvents n I
    k = due_events n (e + 1) many many

    old : AreDue n many many s.world
    old = due_of n many s.world tasks late

    h : I e None s.world.cpus s.world
    h = record { one = one_more n e e s.world fine; two = old }

    ticks : (c t : ℕ) → c < length s.world.cpus → get_or s.world.cpus c None ≡ Some t → IsKeptByTick n I k e s.world c t
    ticks c t l at =
        let x = fine_ticked n e e s.world c t l at fine in
        record {
          ran = record { one = x.ran; two = due_task n many many s.world t _ old };
          uses = λ w same tree h.
              let z = x.uses w same tree h.one in
              let y = keeps_if (AreDue n many many) (nat_lt t (length w.tasks)) (with_tree w (with_use w.tree t)) w h.two h.two in
              record {
                goes_on = λ free. record { one = z.goes_on free; two = y };
                leaves = λ up. record { one = z.leaves up; two = due_task n many many (used_ms w t) t _ y };
              };
        }

    go : (v : Event) → IsTaken s v → I (e + 1) None (own_step s v).state.world.cpus (own_step s v).state.world
    go _ (Wakes t within resting) = k.steps.more e None _ _ (keeps_wake n I k e s t (omega (arith, within, tasks)) resting h)
    go _ (Sleeps t within runnable) = keeps_sleep n I k e s t (omega (arith, within, tasks)) runnable h
    go _ (Ticks c l) = keeps_tick n I k e s c l h (λ t at. ticks c t l at)
    go _ Clocks = record { one = (fine_events n (e + 1)).steps.more e None _ _ (fine_clock n e s fine); two = due_clock n e s tasks fine late }
    go _ (Weighs g x) = record {
      one = (fine_events n (e + 1)).steps.more e None _ _ (fine_reweighed n (e + 1) e s.world g x (one_more n e e s.world fine));
      two = keeps_if (AreDue n many many) (is_none (weight_fault s.world.tree g x)) (with_tree s.world (with_weight s.world.tree g x)) s.world old old;
    }
    go _ (WeighsTask t x within) = k.steps.more e None _ _ (keeps_now n I k e _ (s.world.cpus, keeps_reweigh n I k e s t x (omega (arith, within, tasks)) h))

-- ---- at first

-- a machine that is made has no timer that is due
pub timers_first : (p : PolicyState) (tree : Hierarchy) (cpus : ℕ) (t : State) → is_bad_shape tree cpus ≡ false → first_state p tree cpus ≡ Ok t → AreTimersLater t.world
timers_first p tree cpus t shape e =
    let n = length tree.homes in
    let k = p.timers in
    later_of n k t.world (steps_started (λ m hand on w. AreDue n k k w) p tree cpus t (alone_steps n (AreDue n k k) (due_alone n k k)) (λ v u c x. due_task n k k v u _ x) shape e (length-replicate n new_task, length-replicate {A = Option Alarm} k None, λ linux i a x. absurd (no_alarm a (sym (none_started k i) ∙ x))))
