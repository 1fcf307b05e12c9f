-- A machine that is later answers events as later, and shows the same.
use Rattle.std.proofs.Common.{◌≡◌, ℕ, zero, suc, ◌+◌, ◌*◌, ◌%◌, ◌<◌, ◌==◌, ◌&&◌, ◌||◌, not, min, Bool, true, false, cond, nat_lt, List, [], ◌∷◌, ◌++◌, length, map, Option, Some, None, refl, sym, ap, ◌∙◌, subst, arith}
use Rattle.scx_dsq.specs.declared.entries.Entry.{Entry}
use Rattle.scx_dsq.specs.Queues.{queue_of, entry_of}
use Rattle.scx_weights.specs.Hierarchy as tree
use Rattle.scx_weights.specs.Limits.{has_quota}
use Rattle.scx_sched_tasks.specs.declared.task.Task.{Task}
use Rattle.scx_sched_tasks.specs.Tasks.{no_task}
use Rattle.scx_sched_tasks.specs.Waits.{time_since}
use Rattle.scx_sched_world.specs.declared.eject.Eject.{Eject}
use Rattle.scx_sched_world.specs.declared.eject.Eject.TheVariants as cause
use Rattle.scx_sched_world.specs.declared.notes.Note.{Note}
use Rattle.scx_sched_world.specs.declared.timers.Alarm.{Alarm}
use Rattle.scx_sched_world.specs.World.{WorldState, are_linux, marks_of, may_run, task_at, cpu_of}
use Rattle.scx_sched_world.specs.Helpers.{alarm_at}
use Rattle.scx_sched_machine.specs.declared.events.Event.{Event}
use Rattle.scx_sched_machine.specs.declared.events.Refused.{Refused}
use Rattle.scx_sched_machine.specs.declared.events.Refused.TheVariants.{RunOver}
use Rattle.scx_sched_machine.specs.Steps.{State, Stepped}
use Rattle.scx_sched_machine.specs.Events.{event_step}
use Rattle.scx_sched.specs.Sim.{SimState, max_events, refusal, stepped_if, after_event}
use Rattle.scx_explore_states.specs.declared.form.Form.{Form}
use Rattle.scx_explore_states.specs.Rows.{kept, slice_kept, is_by_vtime, ahead_of, entries_of, place_of, is_idle, spot_of, bit_of, row_of, no_row, task_row, rows_of}
use Rattle.scx_explore_states.specs.NotZero.{kept_words}
use Rattle.scx_explore_states.specs.Written.{task_in, home_at, task_words, kept_word, time_words, usage_words, used_words, rules_words, past_tick, until_due, cpu_of_alarm, alarm_words, timer_words, marks_words, linux_words, map_words, state_words, IsWritten}
use Rattle.scx_explore_findings.specs.Findings.{fault_in, stall_in, exit_in, is_left, waits_left, IsFirstLeft, IsIdleBehind}
use Rattle.scx_explore_findings.specs.Delayed.{later_by, delayed_task, delayed_alarm, delayed_eject, delayed_note, delay, delay_state, delay_machine, AreClockless, IsSteady, IsWholeTicks, EventsDontTellTimes}
use Rattle.scx_explore_findings.proofs.DelayedTasks.{as_long, found_at, as_late}
use Rattle.scx_explore_findings.proofs.DelayedTicks.{past_as}
use Rattle.scx_explore_findings.proofs.DelayedWorlds.{read, known, linux_as}
use Rattle.scx_explore_findings.proofs.DelayedSteps.{Passes}
use Rattle.scx_explore_findings.proofs.DelayedEvents.{refusal_as, passes_event}

module _ (k : ℕ) where
  -- ---- one event

  -- an event is refused for the same cause
  pub refused_as : (s : SimState) (e : Event) → refusal s e ≡ refusal (delay_machine k s) e
  refused_as s e = ap (λ (o : Option Refused). cond (s.events == max_events) (Some RunOver) o) (refusal_as k s.state e)

  module _ (s : SimState) (e : Event) (none : AreClockless s.state.policy) (whole : IsWholeTicks k s.state) (steady : IsSteady s.state) where
    stepped_as : Passes k s.state.policy s.state.world.rules (event_step s.state e) (event_step (delay_state k s.state) e)
    stepped_as = passes_event k s.state.policy s.state.world.rules none whole e s.state steady (refl, refl)

    -- and the machine after it is the one after it, later
    pub after_as : delay_machine k (after_event s e) ≡ after_event (delay_machine k s) e
    after_as = go (refusal s e) ∙ ap (λ (o : Option Refused). stepped_if o (delay_machine k s) e) (refused_as s e)
      where
        of_parts : State → ℕ → SimState
        of_parts x n = record { state = x; events = n }

        go : (o : Option Refused) → delay_machine k (stepped_if o s e) ≡ stepped_if o (delay_machine k s) e
        go None = ap (λ (r : Stepped). of_parts r.state (s.events + 1)) stepped_as.0
        go (Some r) = refl

  -- ---- what is shown

  pub fault_shown : (o : Option Eject) → fault_in o ≡ fault_in (delayed_eject k o)
  fault_shown None = refl
  fault_shown (Some (cause.Stall t n)) = refl
  fault_shown (Some (cause.Fault f n)) = refl
  fault_shown (Some (cause.Exit c n)) = refl

  pub stall_shown : (o : Option Eject) → stall_in o ≡ stall_in (delayed_eject k o)
  stall_shown None = refl
  stall_shown (Some (cause.Stall t n)) = refl
  stall_shown (Some (cause.Fault f n)) = refl
  stall_shown (Some (cause.Exit c n)) = refl

  pub exit_shown : (o : Option Eject) → exit_in o ≡ exit_in (delayed_eject k o)
  exit_shown None = refl
  exit_shown (Some (cause.Stall t n)) = refl
  exit_shown (Some (cause.Fault f n)) = refl
  exit_shown (Some (cause.Exit c n)) = refl

  -- it is out of force where the other one is
  abbrev IsNone : Option Eject → Type 0
  IsNone None = Unit {0}
  IsNone (Some x) = ⊥

  pub force_back : (o : Option Eject) → delayed_eject k o ≡ None → o ≡ None
  force_back None e = refl
  force_back (Some x) e = absurd (subst IsNone (sym e) tt)

  left_as : (w : WorldState) (c u : ℕ) → waits_left w c u ≡ waits_left (delay k w) c u
  left_as w c u = ap (λ (b : Bool). is_left b (queue_of w.queues u) && may_run w u c) (linux_as k w)

  first_back : (w : WorldState) (c : ℕ) → IsFirstLeft (delay k w) c None → IsFirstLeft w c None
  first_back w c is = λ u l. left_as w c u ∙ is u (subst (λ (n : ℕ). u < n) (as_long (delayed_task k) w.tasks) l)

  first_on : (w : WorldState) (c : ℕ) → IsFirstLeft w c None → IsFirstLeft (delay k w) c None
  first_on w c is = λ u l. sym (left_as w c u) ∙ is u (subst (λ (n : ℕ). u < n) (sym (as_long (delayed_task k) w.tasks)) l)

  -- no processor is idle while a task waits, where none is later
  pub idle_back : (s : SimState) (e : Event) → IsIdleBehind (delay_machine k s) e None → IsIdleBehind s e None
  idle_back s e none c is free = first_back s.state.world c (none c is free)

  pub idle_on : (s : SimState) (e : Event) → IsIdleBehind s e None → IsIdleBehind (delay_machine k s) e None
  idle_on s e none c is free = first_on s.state.world c (none c is free)

  -- ---- words

  module _ (f : Form) (ids : List ℕ) where
    -- the number of the place where a task is that waited so long
    abbrev number_by : WorldState → List (Option Entry) → ℕ → Option Entry → ℕ → ℕ → ℕ
    number_by w es t e waited home =
        min (kept f.waits waited) 65535 * 65536 + place_of ids (cpu_of w t) e * 256 + home % 16 * 16 + ahead_of es e * 2 + bit_of (is_by_vtime e)

    row_as : (w : WorldState) (es : List (Option Entry)) (t : ℕ) (e : Option Entry) → row_of f w t e (spot_of f w ids es t e) ≡ row_of f (delay k w) t e (spot_of f (delay k w) ids es t e)
    row_as w es t e = λ i. record (row_of f w t e (spot_of f w ids es t e)) { spot = spot i; slice = slice i; vtime = vtime i; run_ns = run_ns i }
      where
        there : Task
        there = task_at (delay k w) t

        waited : time_since w.clock (task_at w t).since ≡ time_since (w.clock + k) there.since
        waited =
            as_late k w.clock (task_at w t).since
            ∙ ap (λ (x : Task). time_since (w.clock + k) x.since) (found_at (delayed_task k) w.tasks t no_task)

        spot : number_by w es t e (time_since w.clock (task_at w t).since) (task_at w t).prev_cpu ≡ number_by w es t e (time_since (w.clock + k) there.since) there.prev_cpu
        spot =
            ap (λ (n : ℕ). number_by w es t e n (task_at w t).prev_cpu) waited
            ∙ ap (number_by w es t e (time_since (w.clock + k) there.since)) (read k (λ x. x.prev_cpu) (λ x. refl) w t)

        slice : kept (f.idle_slices || not (is_idle (place_of ids (cpu_of w t) e) e)) (slice_kept f.slices (task_at w t).slice) ≡ kept (f.idle_slices || not (is_idle (place_of ids (cpu_of w t) e) e)) (slice_kept f.slices there.slice)
        slice = read k (λ x. kept (f.idle_slices || not (is_idle (place_of ids (cpu_of w t) e) e)) (slice_kept f.slices x.slice)) (λ x. refl) w t

        vtime : kept f.vtime (task_at w t).vtime ≡ kept f.vtime there.vtime
        vtime = read k (λ x. kept f.vtime x.vtime) (λ x. refl) w t

        run_ns : kept f.run_ns (task_at w t).run_ns ≡ kept f.run_ns there.run_ns
        run_ns = read k (λ x. kept f.run_ns x.run_ns) (λ x. refl) w t

    task_row_as : (w : WorldState) (t : ℕ) → task_row f w ids t ≡ task_row f (delay k w) ids t
    task_row_as w t =
        let es = entries_of w in
        let e = entry_of w.queues t in
        ap (λ (b : Bool). cond b (row_of f w t e (spot_of f w ids es t e)) no_row) (known k w t)
        ∙ ap (λ r. cond (nat_lt t (length (delay k w).tasks)) r no_row) (row_as w es t e)

    rows_as : (w : WorldState) → rows_of f w ids ≡ rows_of f (delay k w) ids
    rows_as w =
        λ i. task_row_as w 0 i ∷ task_row_as w 1 i ∷ task_row_as w 2 i ∷ task_row_as w 3 i ∷ task_row_as w 4 i ∷ task_row_as w 5 i ∷ task_row_as w 6 i ∷ task_row_as w 7 i ∷ []

    -- a timer is due as long after the clock as it was
    due_as : (now : ℕ) (o : Option Alarm) → until_due now o ≡ until_due (now + k) (delayed_alarm k o)
    due_as now None = refl
    due_as now (Some a) = omega arith

    there_as : (o : Option Alarm) → cpu_of_alarm o ≡ cpu_of_alarm (delayed_alarm k o)
    there_as None = refl
    there_as (Some a) = refl

    alarm_as : (now : ℕ) (o : Option Alarm) → alarm_words now o ≡ alarm_words (now + k) (delayed_alarm k o)
    alarm_as now o =
        ap (λ (n : ℕ). n ∷ cpu_of_alarm o ∷ []) (due_as now o)
        ∙ ap (λ (c : ℕ). until_due (now + k) (delayed_alarm k o) ∷ c ∷ []) (there_as o)

    timer_as : (w : WorldState) (n : ℕ) → alarm_words w.clock (alarm_at w n) ≡ alarm_words (w.clock + k) (alarm_at (delay k w) n)
    timer_as w n = alarm_as w.clock (alarm_at w n) ∙ ap (λ (o : Option Alarm). alarm_words (w.clock + k) o) (found_at (delayed_alarm k) w.timers n None)

    timers_as : (w : WorldState) (n : ℕ) → timer_words w n ≡ timer_words (delay k w) n
    timers_as w zero = refl
    timers_as w (suc n) =
        ap (λ (xs : List ℕ). xs ++ alarm_words w.clock (alarm_at w n)) (timers_as w n)
        ∙ ap (λ (xs : List ℕ). timer_words (delay k w) n ++ xs) (timer_as w n)

    -- the same CPUs are claimed, kicked and preempted
    marks_as : (w : WorldState) → linux_words w ≡ linux_words (delay k w)
    marks_as w =
        ap (λ (xs : List ℕ). marks_words (marks_of w) ++ xs) (timers_as w (length w.timers))
        ∙ ap (λ (n : ℕ). marks_words (marks_of w) ++ timer_words (delay k w) n) (as_long (delayed_alarm k) w.timers)

    home_as : (w : WorldState) (t : ℕ) → home_at w t ≡ home_at (delay k w) t
    home_as w t = ap (λ (b : Bool). cond b (cond b (tree.home_of w.tree t) 0) 18446744073709551615) (known k w t)

    -- a form that leaves out the clock, by whole ticks under Linux rules, where no group has a quota
    module _ (s : SimState) (no_clock : f.clock ≡ false) (whole : IsWholeTicks k s.state) (free : has_quota s.state.world.tree.groups ≡ false) where
      times_as : time_words f s.state.world ≡ time_words f (delay k s.state.world)
      times_as =
          let rest = kept_word f.pushes s.state.world.queues.pushes ++ kept_word f.random s.state.world.random in
          ap (λ (b : Bool). kept_word b s.state.world.clock ++ rest) no_clock ∙ sym (ap (λ (b : Bool). kept_word b (s.state.world.clock + k) ++ rest) no_clock)

      usages_as : usage_words s.state.world ≡ usage_words (delay k s.state.world)
      usages_as =
          let w = s.state.world in
          ap (λ (b : Bool). cond b (w.clock ∷ used_words w.tree (length w.tree.groups)) []) free ∙ sym (ap (λ (b : Bool). cond b ((w.clock + k) ∷ used_words w.tree (length w.tree.groups)) []) free)

      rules_as : rules_words s.state ≡ rules_words (delay_state k s.state)
      rules_as = go (are_linux s.state.world.rules) whole
        where
          tick : ℕ
          tick = s.state.policy.tick_ms

          now : ℕ
          now = s.state.world.clock

          go : (b : Bool) → (b ≡ true → past_tick tick k ≡ 0) → cond b (past_tick tick now ∷ linux_words s.state.world) [] ≡ cond b (past_tick tick (now + k) ∷ linux_words (delay k s.state.world)) []
          go true is =
              ap (λ (n : ℕ). n ∷ linux_words s.state.world) (sym (past_as tick now k (is refl)))
              ∙ ap (λ (xs : List ℕ). past_tick tick (now + k) ∷ xs) (marks_as s.state.world)
          go false is = refl

      -- what is kept beside the tasks
      rest_as : time_words f s.state.world ++ (usage_words s.state.world ++ (rules_words s.state ++ kept_words f.map_words (map_words s.state.maps)))
          ≡ time_words f (delay k s.state.world) ++ (usage_words (delay k s.state.world) ++ (rules_words (delay_state k s.state) ++ kept_words f.map_words (map_words s.state.maps)))
      rest_as =
          ap (λ (xs : List ℕ). xs ++ (usage_words s.state.world ++ (rules_words s.state ++ kept_words f.map_words (map_words s.state.maps)))) times_as
          ∙ ap (λ (xs : List ℕ). time_words f (delay k s.state.world) ++ (xs ++ (rules_words s.state ++ kept_words f.map_words (map_words s.state.maps)))) usages_as
          ∙ ap (λ (xs : List ℕ). time_words f (delay k s.state.world) ++ (usage_words (delay k s.state.world) ++ (xs ++ kept_words f.map_words (map_words s.state.maps)))) rules_as

      words_as : (order : List ℕ) → state_words f (rows_of f s.state.world ids) order s ≡ state_words f (rows_of f (delay k s.state.world) ids) order (delay_machine k s)
      words_as order =
          let w = s.state.world in
          let rest : List ℕ = time_words f w ++ (usage_words w ++ (rules_words s.state ++ kept_words f.map_words (map_words s.state.maps))) in
          ap (λ rows. task_words f rows order (min (length w.tasks) 8) ++ rest) (rows_as w)
          ∙ ap (λ (n : ℕ). task_words f (rows_of f (delay k w) ids) order (min n 8) ++ rest) (as_long (delayed_task k) w.tasks)
          ∙ ap (λ (xs : List ℕ). task_words f (rows_of f (delay k w) ids) order (min (length (delay k w).tasks) 8) ++ xs) rest_as

      -- words of the later state are words of this one
      pub written_back : (xs : List ℕ) → IsWritten f ids xs (delay_machine k s) → IsWritten f ids xs s
      written_back xs is = record {
        began = is.began;
        order = is.order;
        fair = record { names = is.fair.names; whole = is.fair.whole; alike = λ p l. (home_as s.state.world (task_in is.order p) ∙ (is.fair.alike p l).0 ∙ sym (home_as s.state.world p), (is.fair.alike p l).1) };
        known = is.known;
        words = is.words ∙ sym (ap (λ (ys : List ℕ). is.began ∷ ys) (words_as is.order));
      }

      -- and words of this one are words of the later state
      pub written_on : (xs : List ℕ) → IsWritten f ids xs s → IsWritten f ids xs (delay_machine k s)
      written_on xs is = record {
        began = is.began;
        order = is.order;
        fair = record { names = is.fair.names; whole = is.fair.whole; alike = λ p l. (sym (home_as s.state.world (task_in is.order p)) ∙ (is.fair.alike p l).0 ∙ home_as s.state.world p, (is.fair.alike p l).1) };
        known = is.known;
        words = is.words ∙ ap (λ (ys : List ℕ). is.began ∷ ys) (words_as is.order);
      }

-- events of a machine that is later go as later
pub events_dont_tell_times : EventsDontTellTimes
events_dont_tell_times k s e none whole steady = record { refusal = refused_as k s e; after = after_as k s e none whole steady }

-- ---- no later

not_later : (n : ℕ) → n + 0 ≡ n
not_later n = omega arith

none_later : (o : Option ℕ) → later_by 0 o ≡ o
none_later None = refl
none_later (Some n) = ap (λ (m : ℕ). Some m) (not_later n)

tasks_none : (xs : List Task) → map (delayed_task 0) xs ≡ xs
tasks_none [] = refl
tasks_none (x ∷ xs) = ap (λ (o : Option ℕ). record x { since = o } ∷ map (delayed_task 0) xs) (none_later x.since) ∙ ap (λ (ys : List Task). x ∷ ys) (tasks_none xs)

alarm_none : (o : Option Alarm) → delayed_alarm 0 o ≡ o
alarm_none None = refl
alarm_none (Some a) = ap (λ (n : ℕ). Some (record a { due = n })) (not_later a.due)

alarms_none : (xs : List (Option Alarm)) → map (delayed_alarm 0) xs ≡ xs
alarms_none [] = refl
alarms_none (x ∷ xs) = ap (λ (o : Option Alarm). o ∷ map (delayed_alarm 0) xs) (alarm_none x) ∙ ap (λ (ys : List (Option Alarm)). x ∷ ys) (alarms_none xs)

eject_none : (o : Option Eject) → delayed_eject 0 o ≡ o
eject_none None = refl
eject_none (Some (cause.Stall t n)) = ap (λ (m : ℕ). Some (cause.Stall t m)) (not_later n)
eject_none (Some (cause.Fault f n)) = ap (λ (m : ℕ). Some (cause.Fault f m)) (not_later n)
eject_none (Some (cause.Exit c n)) = ap (λ (m : ℕ). Some (cause.Exit c m)) (not_later n)

notes_none : (ns : List Note) → map (delayed_note 0) ns ≡ ns
notes_none [] = refl
notes_none (n ∷ ns) = ap (λ (m : ℕ). record n { clock = m } ∷ map (delayed_note 0) ns) (not_later n.clock) ∙ ap (λ (ms : List Note). n ∷ ms) (notes_none ns)

-- a machine that is no later is the same
pub delay_none : (s : SimState) → delay_machine 0 s ≡ s
delay_none s =
    let w = s.state.world in
    let clock = not_later w.clock in
    let tasks = tasks_none w.tasks in
    let timers = alarms_none w.timers in
    let ejected = eject_none w.ejected in
    let notes = notes_none w.notes in
    λ i. record s { state = record s.state { world = record w { clock = clock i; tasks = tasks i; timers = timers i; ejected = ejected i; notes = notes i } } }
