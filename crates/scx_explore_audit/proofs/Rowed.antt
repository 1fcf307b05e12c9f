-- Where slices are left out, rows of ticks follow what a state does: a tick that ends no slice is followed by no event, and one
-- that does by as many ticks as the slice lasts in the other state.
use Rattle.std.proofs.Common.{◌≡◌, ℕ, zero, suc, ◌+◌, ◌-◌, ◌*◌, ◌/◌, ◌%◌, ◌<◌, ◌≤◌, ◌==◌, ◌&&◌, not, min, max, nat_lt, Bool, true, false, cond, List, [], ◌∷◌, length, All, Option, Some, None, refl, sym, ap, ◌∙◌, subst, arith, ⊎_elim, ◌⊎◌, inl, inr}
use Rattle.std.specs.Prelude.{◌≢◌, replicate, IfSome, Result, Ok, Err, IfOk}
use Rattle.std.proofs.lemmas.Bool.{cases_lt, eq-eqb, eqb-true, ne_eqb, lt-ltb}
use Rattle.std.proofs.lemmas.Grind.{div_ceil_times}
use Rattle.std.proofs.lemmas.List.Elements.{All-weaker}
use Rattle.scx_dsq.specs.Queues.{entry_of}
use Rattle.scx_maps.specs.declared.shape.Shape.{Shape}
use Rattle.scx_weights.specs.Limits.{has_quota, with_use}
use Rattle.scx_sched_world.specs.World.{WorldState, with_tree, are_linux, task_at, is_throttled, running}
use Rattle.scx_sched_world.specs.Tasks.{counted_down, after_tick, used_ms, tick_ns}
use Rattle.scx_sched_machine.specs.declared.events.Event.{Event}
use Rattle.scx_sched_machine.specs.declared.events.Event.TheVariants.{Wake, Sleep, Tick, Clock, SetWeight, SetTaskWeight}
use Rattle.scx_sched_machine.specs.declared.events.Refused.{Refused}
use Rattle.scx_sched_machine.specs.declared.events.Refused.TheVariants.{RunOver, UnknownCpu}
use Rattle.scx_sched_machine.specs.Steps.{State, with_world}
use Rattle.scx_sched_machine.proofs.Choices.{keeps_if}
use Rattle.scx_sched_machine.proofs.Free.{free_tasks}
use Rattle.scx_sched_policy.specs.Policy.{PolicyState}
use Rattle.scx_sched.specs.Sim.{SimState, max_events, refusal, stepped_if, after_event}
use Rattle.scx_sched.proofs.Events.{known_running}
use Rattle.scx_load_driver.specs.Runs.{stepped_all}
use Rattle.scx_explore_states.specs.declared.form.Form.{Form}
use Rattle.scx_explore_states.specs.Rows.{is_endless}
use Rattle.scx_explore_states.specs.Telling.{KeepTheSame}
use Rattle.scx_explore_states.specs.Ticks.{ticks_left, ticks_of, times}
use Rattle.scx_explore_states.specs.Words.{most_queues}
use Rattle.scx_explore_states.specs.Written.{own_order, state_words, IsWritten}
use Rattle.scx_explore_states.specs.Rows.{rows_of}
use Rattle.scx_explore_findings.specs.declared.finding.Sort.{Sort}
use Rattle.scx_explore_findings.specs.declared.finding.Sort.TheVariants as sort
use Rattle.scx_explore_findings.specs.Asked.{AskAnyhow, AskOnly}
use Rattle.scx_explore_findings.specs.Counted as counts
use Rattle.scx_explore_findings.specs.Counted.{LoadsNoCount, is_last, EndAlike, IsInForcePlainly}
use Rattle.scx_explore_findings.specs.Findings.{fault_in, stall_in, exit_in}
use Rattle.scx_explore_findings.specs.IdleSlices as idle
use Rattle.scx_explore_findings.specs.IdleSlices.{is_put_nowhere, TellNoIdleSlices}
use Rattle.scx_explore_findings.specs.UnreadParts.{AreAsStates}
use Rattle.scx_explore_findings.specs.Hidden.{Hidden}
use Rattle.scx_explore_findings.specs.WholeForms.{IsWholeInRuns, HasFew, IsLed}
use Rattle.scx_explore_findings.proofs.CountedMachines.{counts_change_nothing, ticked_state, ticked_slice, ticks_only_count}
use Rattle.scx_explore_findings.proofs.CountedRecords.{counted_ends}
use Rattle.scx_explore_findings.proofs.CountedShown.{counted_written, counted_idle}
use Rattle.scx_explore_findings.proofs.FirstLed.{first_led}
use Rattle.scx_explore_findings.proofs.IdleTasks.{on_that}
use Rattle.scx_explore_findings.proofs.Led.{led_one, led_suited}
use Rattle.scx_explore_findings.proofs.Lent.{lent, lent_is, lent_at, lent_same, led_lent}
use Rattle.scx_explore_findings.proofs.SameShown.{such_parts_show_nothing}
use Rattle.scx_explore_findings.proofs.SameTold.{IsSuited, words_keep, cpus_same, ends_same, retold}
use Rattle.scx_explore_findings.proofs.UnusedGroups.{same_itself}
use Rattle.scx_explore_audit.specs.declared.table.Moves.{Moves}
use Rattle.scx_explore_audit.specs.declared.table.Moves.TheVariants.{Events}
use Rattle.scx_explore_audit.specs.Claims.{IsTried, IsMove, IsFree, ShowsNoneAtFirst}
use Rattle.scx_explore_audit.specs.Tried.{IsRow, IsTriedIn}
use Rattle.scx_explore_audit.specs.Closed.{Claim, AreNumbersOf, IsClosed, IsReached, IsNear, IsAudited, IsSurvived, CallsRunAlong, IsFollowed, FollowsRuns}
use Rattle.scx_explore_audit.specs.Whole.{HasRoom, AsksNoStalls, MayLeaveSlices, FormsWholeInRunsAreFollowed, NeedsNoPremise}
use Rattle.scx_explore_audit.proofs.Covered.{respected_followed, closed_tables_cover}
use Rattle.scx_explore_audit.proofs.Respected.{forms_whole_in_runs_are_respected}
use Rattle.scx_explore_audit.proofs.Waitless.{Goes, goes_either}
use Rattle.scx_explore_audit.proofs.Wholly.{tried_none, has_one, bits_apart, counts as counted, IsMatchedAs, Along, Tells, AreOmitted, along_runs, AreSameLater, matched_as, omitted_linked, paired, by_slices, kept_told, written_told, led_reached, led_near, over_reached, fits_near}

-- ---- ticks that a slice lasts

-- the number of them, of one that ends
long_slice : (n : ℕ) → is_endless n ≡ false → ticks_left n ≡ max (n / 1000000 + min 1 (n % 1000000)) 1
long_slice n e = ap (λ (b : Bool). cond b 1 (max (n / 1000000 + min 1 (n % 1000000)) 1)) e

of_two : (n k : ℕ) → max n 1 ≡ suc (suc k) → n ≡ suc (suc k)
of_two zero k e = absurd (omega (arith, e))
of_two (suc n) k e = omega (arith, e)

of_one : (n : ℕ) → max n 1 ≡ 1 → n ≤ 1
of_one n e = omega (arith, e)

two_of : (n k : ℕ) → n ≡ suc k → max n 1 ≡ suc k
two_of n k e = omega (arith, e)

not_endless : (n : ℕ) → is_endless n ≡ false → counted_down n ≡ n - 1000000
not_endless n e = go (n == 0xffff_ffff_ffff_ffff) refl
  where
    go : (b : Bool) → (n == 0xffff_ffff_ffff_ffff) ≡ b → counted_down n ≡ n - 1000000
    go false is = ap (λ (b : Bool). cond b n (n - tick_ns)) is
    go true is = let bad : true ≡ false = sym (ap is_endless (eqb-true n 0xffff_ffff_ffff_ffff is)) ∙ e in absurd (cc)

-- the last one uses it up
last_tick : (n : ℕ) → is_endless n ≡ false → ticks_left n ≡ 1 → is_last n ≡ true
last_tick n e one =
    let few = of_one (n / 1000000 + min 1 (n % 1000000)) (sym (long_slice n e) ∙ one) in
    let fits = div_ceil_times n 1000000 (omega arith) in
    ap (λ (k : ℕ). k == 0) (not_endless n e) ∙ eq-eqb (n - 1000000) 0 (below_one n (n / 1000000 + min 1 (n % 1000000)) few fits.0)
  where
    below_one : (m c : ℕ) → c ≤ 1 → m ≤ c * 1000000 → m - 1000000 ≡ 0
    below_one m c few l = omega (arith, few, l)

-- one before it doesn't, and there is one less
more_ticks : (n k : ℕ) → is_endless n ≡ false → ticks_left n ≡ suc (suc k) → (is_last n ≡ false) × (ticks_left (counted_down n) ≡ suc k)
more_ticks n k e two =
    let c = n / 1000000 + min 1 (n % 1000000) in
    let many : c ≡ suc (suc k) = of_two c k (sym (long_slice n e) ∙ two) in
    let fits = div_ceil_times n 1000000 (omega arith) in
    let m = n - 1000000 in
    let d = m / 1000000 + min 1 (m % 1000000) in
    let less = div_ceil_times m 1000000 (omega arith) in
    let down = not_endless n e in
    let ends : is_endless m ≡ false = ap is_endless (sym down) ∙ (counted_ends n ∙ e) in
    let left : d ≡ suc k = one_less n m c d k many fits.0 fits.1 refl less.0 less.1 in (
      ap (λ (j : ℕ). j == 0) down ∙ ne_eqb m 0 (λ z. some_left n m c k many fits.1 refl z),
      ap ticks_left down ∙ (long_slice m ends ∙ two_of d k left),
    )
  where
    one_less : (a b c d j : ℕ) → c ≡ suc (suc j) → a ≤ c * 1000000 → c * 1000000 < a + 1000000 → b ≡ a - 1000000 → b ≤ d * 1000000 → d * 1000000 < b + 1000000 → d ≡ suc j
    one_less a b c d j x l m y k o = omega (arith, x, l, m, y, k, o)

    some_left : (a b c j : ℕ) → c ≡ suc (suc j) → c * 1000000 < a + 1000000 → b ≡ a - 1000000 → b ≡ 0 → ⊥
    some_left a b c j x m y z = omega (arith, x, m, y, z)

-- ---- one event of two machines that are the same but for what ticks count

module _ (f : Form) (ids : List ℕ) (sorts : List Sort) (sliceless : f.slices ≡ false) (timeless : f.run_ns ≡ false) where
  free_counted : (s m : SimState) (e : Event) → counts.AnswersAlike s m e → (x : Sort) → IsFree x (after_event m e) e → IsFree x (after_event s e) e
  free_counted s m e alike (sort.Fault g) k = λ is. k (ap fault_in (sym alike.ejected) ∙ is)
  free_counted s m e alike sort.Stall k = ap stall_in alike.ejected ∙ k
  free_counted s m e alike sort.Idle k = λ force. counted_idle (after_event m e) (after_event s e) (sym (alike.after force)) e (k (sym alike.ejected ∙ force))
  free_counted s m e alike sort.Overtaken k = k
  free_counted s m e alike sort.Exit k = ap exit_in alike.ejected ∙ k

  -- what the one does in a third state the other one does
  through : (s m t : SimState) (e : Event) → counts.AnswersAlike s m e → IsMatchedAs f ids sorts m t (e ∷ []) → IsMatchedAs f ids sorts s t (e ∷ [])
  through s m t e alike x = record {
    free = λ none fine. (
      All-weaker (λ y. IsFree y (after_event m e) e) (λ y. IsFree y (after_event s e) e) (free_counted s m e alike) sorts (x.free none (sym alike.refusal ∙ fine)).0,
      λ force. tt,
    );
    there = λ survived. x.there (so survived);
    written = λ xs survived is. counted_written f ids sliceless timeless xs (after_event m e) (after_event s e) (sym (alike.after survived.1)) (x.written xs (so survived) is);
  }
    where
      so : IsSurvived s (e ∷ []) → IsSurvived m (e ∷ [])
      so survived = (sym alike.refusal ∙ survived.0, sym alike.ejected ∙ survived.1, tt)

-- ---- ticks in a row

-- a machine in which the slice of a CPU's task lasts that number of ticks more, and there is room for them, at that clock
record Lasts (f : Form) (ids : List ℕ) (shapes : List Shape) (root : SimState) (xs : List ℕ) (c u k n : ℕ) (s : SimState) : Type 0 where
  pub led : IsLed shapes root s
  pub force : s.state.world.ejected ≡ None
  pub runs : running s.state.world c ≡ Some u
  pub ends : is_endless (task_at s.state.world u).slice ≡ false
  pub left : ticks_left (task_at s.state.world u).slice ≡ suc k
  pub fits : s.events + suc k ≤ max_events
  pub clock : s.state.world.clock ≡ n
  pub written : IsWritten f ids xs s

-- the ticks of one lead to one of which the next tick ends the slice, and do nothing before
record LastsTo (f : Form) (ids : List ℕ) (shapes : List Shape) (root : SimState) (xs : List ℕ) (c u k n : ℕ) (s : SimState) : Type 0 where
  pub last : SimState
  pub lasts : Lasts f ids shapes root xs c u 0 n last
  pub state : stepped_all s (replicate (suc k) (Tick c)) ≡ after_event last (Tick c)
  pub shown : (sorts : List Sort) → ShowsNoneAtFirst sorts s (replicate (suc k) (Tick c)) → ShowsNoneAtFirst sorts last (Tick c ∷ [])
  pub run : CallsRunAlong s (replicate (suc k) (Tick c)) → CallsRunAlong last (Tick c ∷ [])
  pub survived : IsSurvived last (Tick c ∷ []) → IsSurvived s (replicate (suc k) (Tick c))

-- ---- a tick that ends no slice

module _ (f : Form) (ids : List ℕ) (shapes : List Shape) (root : SimState) (pushless : f.pushes ≡ false) (sliceless : f.slices ≡ false) (timeless : f.run_ns ≡ false) (plain : are_linux root.state.world.rules ≡ false) (free : has_quota root.state.world.tree.groups ≡ false) (told : AskAnyhow LoadsNoCount root.state.policy) where
  -- a machine to which events have led, with room for one more
  plainly : (s : SimState) → IsLed shapes root s → s.state.world.ejected ≡ None → s.events < max_events → IsInForcePlainly s
  plainly s led force room = record {
    rules = ap are_linux led.rules ∙ plain;
    force = force;
    told = subst (λ (p : PolicyState). AskAnyhow LoadsNoCount p) (sym led.policy) told;
    room = ne_eqb s.events max_events (λ e. omega (arith, room, e));
  }

  free_of : (s : SimState) → IsLed shapes root s → has_quota s.state.world.tree.groups ≡ false
  free_of s led = sym (ap has_quota led.tidy.1.0.0) ∙ free

  -- it accepts a tick of a CPU that is there
  ticks_there : (s : SimState) (c : ℕ) → IsLed shapes root s → c < length root.state.world.cpus → s.events < max_events → refusal s (Tick c) ≡ None
  ticks_there s c led there room =
      let known : c < length s.state.world.cpus = subst (λ (n : ℕ). c < n) led.size.cpus there in
      ap (λ (b : Bool). cond b (Some RunOver) (cond (nat_lt c (length s.state.world.cpus)) None (Some UnknownCpu))) (ne_eqb s.events max_events (λ e. omega (arith, room, e)))
      ∙ ap (λ (b : Bool). cond b None (Some UnknownCpu)) (lt-ltb c (length s.state.world.cpus) known)

  -- what groups have used isn't written
  used_written : (xs : List ℕ) (s : SimState) (u : ℕ) → IsLed shapes root s → IsWritten f ids xs s → IsWritten f ids xs (record s { state = with_world s.state (used_ms s.state.world u) })
  used_written xs s u led is = (such_parts_show_nothing s (record s { state = with_world s.state (used_ms s.state.world u) }) used).written f ids xs pushless is
    where
      no : (b : Bool) → b ≡ false → b ≡ true → ⊥
      no b x y = absurd (cc)

      used : AreAsStates false s.state (with_world s.state (used_ms s.state.world u))
      used =
          keeps_if (λ (w : WorldState). AreAsStates false s.state (with_world s.state w)) (nat_lt u (length s.state.world.tasks)) (with_tree s.state.world (with_use s.state.world.tree u)) s.state.world
          (record {
            parts = record {
              queues = (same_itself s.state led.fine.sound.stamped).parts.queues;
              call = λ e. refl;
              kicked = λ e. refl;
              preempted = λ e. refl;
              usages = λ e. absurd (no (has_quota s.state.world.tree.groups) (free_of s led) e);
            };
            rest = refl;
          })
          (same_itself s.state led.fine.sound.stamped)

  module _ (s : SimState) (c u : ℕ) (led : IsLed shapes root s) (force : s.state.world.ejected ≡ None) (room : s.events < max_events) (fine : refusal s (Tick c) ≡ None) (runs : running s.state.world c ≡ Some u) (last : is_last (task_at s.state.world u).slice ≡ false) where
    may : is_throttled (used_ms s.state.world u) u ≡ false
    may = free_tasks (used_ms s.state.world u) (keeps_if (λ (w : WorldState). has_quota w.tree.groups ≡ false) (nat_lt u (length s.state.world.tasks)) _ s.state.world (free_of s led) (free_of s led)) u

    made : (after_event s (Tick c)).state ≡ with_world s.state (used_ms (after_tick s.state.world u) u)
    made = ticked_state s c u (plainly s led force room) fine runs last may

    used_force : (used_ms (after_tick s.state.world u) u).ejected ≡ None
    used_force = keeps_if (λ (w : WorldState). w.ejected ≡ None) (nat_lt u (length (after_tick s.state.world u).tasks)) _ (after_tick s.state.world u) force force

    used_runs : running (used_ms (after_tick s.state.world u) u) c ≡ Some u
    used_runs = keeps_if (λ (w : WorldState). running w c ≡ Some u) (nat_lt u (length (after_tick s.state.world u).tasks)) _ (after_tick s.state.world u) runs runs

    pub silent_force : (after_event s (Tick c)).state.world.ejected ≡ None
    silent_force = ap (λ (x : State). x.world.ejected) made ∙ used_force

    pub silent_runs : running (after_event s (Tick c)).state.world c ≡ Some u
    silent_runs = ap (λ (x : State). running x.world c) made ∙ used_runs

    pub silent_slice : (task_at (after_event s (Tick c)).state.world u).slice ≡ counted_down (task_at s.state.world u).slice
    silent_slice = ap (λ (x : State). (task_at x.world u).slice) made ∙ ticked_slice s.state.world u last

    used_clock : (used_ms (after_tick s.state.world u) u).clock ≡ s.state.world.clock
    used_clock = keeps_if (λ (w : WorldState). w.clock ≡ s.state.world.clock) (nat_lt u (length (after_tick s.state.world u).tasks)) _ (after_tick s.state.world u) refl refl

    pub silent_clock : (after_event s (Tick c)).state.world.clock ≡ s.state.world.clock
    silent_clock = ap (λ (x : State). x.world.clock) made ∙ used_clock

    pub silent_led : IsLed shapes root (after_event s (Tick c))
    silent_led = led_one shapes root s (Tick c) fine (λ is. is) led

    pub silent_written : (xs : List ℕ) → IsWritten f ids xs s → IsWritten f ids xs (after_event s (Tick c))
    silent_written xs is =
        counted_written f ids sliceless timeless xs (record s { state = with_world s.state (used_ms s.state.world u) }) (after_event s (Tick c))
        (sym (ticks_only_count s c u (plainly s led force room) fine runs last may)) (used_written xs s u led is)

  -- ---- ticks in a row

  in_a_row : (xs : List ℕ) (c u k n : ℕ) (s : SimState) → c < length root.state.world.cpus → Lasts f ids shapes root xs c u k n s → LastsTo f ids shapes root xs c u k n s
  in_a_row xs c u zero n s there h = record { last = s; lasts = h; state = refl; shown = λ sorts none. none; run = λ run. run; survived = λ survived. survived }
  in_a_row xs c u (suc k) n s there h =
      let room : s.events < max_events = omega (arith, h.fits) in
      let fine = ticks_there s c h.led there room in
      let more = more_ticks (task_at s.state.world u).slice k h.ends h.left in
      let v = after_event s (Tick c) in
      let force = silent_force s c u h.led h.force room fine h.runs more.0 in
      let slice = silent_slice s c u h.led h.force room fine h.runs more.0 in
      let events : v.events ≡ s.events + 1 = ap (λ (o : Option Refused). (stepped_if o s (Tick c)).events) fine in
      let next = in_a_row xs c u k n v there (record {
        led = silent_led s c u h.led h.force room fine h.runs more.0;
        force = force;
        runs = silent_runs s c u h.led h.force room fine h.runs more.0;
        ends = ap is_endless slice ∙ (counted_ends (task_at s.state.world u).slice ∙ h.ends);
        left = ap ticks_left slice ∙ more.1;
        fits = room_left s.events v.events (suc k) max_events events h.fits;
        clock = silent_clock s c u h.led h.force room fine h.runs more.0 ∙ h.clock;
        written = silent_written s c u h.led h.force room fine h.runs more.0 xs h.written;
      }) in
      record {
        last = next.last;
        lasts = next.lasts;
        state = next.state;
        shown = λ sorts none. next.shown sorts ((none fine).1 force);
        run = λ run. next.run ((run fine).1 force);
        survived = λ survived. (fine, force, next.survived survived);
      }
    where
      room_left : (n m j most : ℕ) → m ≡ n + 1 → n + suc j ≤ most → m + j ≤ most
      room_left n m j most e l = omega (arith, e, l)

-- ---- what is followed

-- words of the second one are words of the first one, if some are words of both
written_too : (f : Form) (ids xs : List ℕ) (s t : SimState) → f.names ≡ true → IsWritten f ids xs s → IsWritten f ids xs t → (ys : List ℕ) → IsWritten f ids ys t → IsWritten f ids ys s
written_too f ids xs s t names here there ys is =
    let of : (x : SimState) → List ℕ → List ℕ = λ x order. state_words f (rows_of f x.state.world ids) order x in
    let same : here.began ∷ of s own_order ≡ there.began ∷ of t own_order =
    ap (λ (o : List ℕ). here.began ∷ of s o) (sym (here.fair.names names)) ∙ (sym here.words ∙ there.words) ∙ ap (λ (o : List ℕ). there.began ∷ of t o) (there.fair.names names) in
    record {
      began = is.began;
      order = here.order;
      fair = here.fair;
      known = here.known;
      words =
          is.words ∙ ap (λ (o : List ℕ). is.began ∷ of t o) (is.fair.names names)
          ∙ ap (λ (ws : List ℕ). is.began ∷ ws) (rest here.began there.began (of s own_order) (of t own_order) same)
          ∙ ap (λ (o : List ℕ). is.began ∷ of s o) (sym (here.fair.names names));
    }
  where
    rest : (a b : ℕ) (l m : List ℕ) → a ∷ l ≡ b ∷ m → m ≡ l
    rest a b l m e = cc

yes_no : true ≡ false → ⊥
yes_no e = absurd (cc)

pred_of : (n : ℕ) → 0 < n → n ≡ suc (n - 1)
pred_of n l = omega (arith, l)

some_ticks : (n : ℕ) → is_endless n ≡ false → 0 < ticks_left n
some_ticks n e = subst (λ (k : ℕ). 0 < k) (sym (long_slice n e)) (at_least (n / 1000000 + min 1 (n % 1000000)))
  where
    at_least : (m : ℕ) → 0 < max m 1
    at_least m = omega arith

-- a form that keeps what that one keeps, with slices or without
pub with_slices : (b : Bool) (p : PolicyState) (f : Form) → IsWholeInRuns p f → IsWholeInRuns p (record f { slices = b })
with_slices b p f w = record {
  clock = w.clock;
  pushes = w.pushes;
  idle_slices = w.idle_slices;
  keys = w.keys;
  hidden = w.hidden;
  unread = w.unread;
  left_out = record { run_ns = w.left_out.run_ns; vtime = w.left_out.vtime; waits = w.left_out.waits };
  waits = w.waits;
  vtime = w.vtime;
  run_ns = w.run_ns;
  random = w.random;
  names = w.names;
}

-- ---- an event of two machines that are told of each other

module _ (f : Form) (ids : List ℕ) (sorts : List Sort) (root : SimState) (shapes : List Shape) (whole : IsWholeInRuns root.state.policy f) (stalls : (f.waits ≡ true) ⊎ All (λ x. x ≢ sort.Stall) sorts) (s t : SimState) (e : Event) (tried : IsTried root e) (led_s : IsLed shapes root s) (led_t : IsLed shapes root t) (over : s.events ≤ max_events) (fits : t.events + 1 ≤ max_events) (force_t : t.state.world.ejected ≡ None) (early : f.waits ≡ false → t.state.world.clock < t.state.policy.timeout_ms) (run : CallsRunAlong t (e ∷ [])) (told : (less : Bool) → (less ≡ false → f.idle_slices ≡ true) → AreSameLater root f less whole.hidden s t) where
  abbrev h : Hidden
  h = whole.hidden

  abbrev p : PolicyState
  p = root.state.policy

  known : (less : Bool) → (less ≡ true → TellNoIdleSlices p) → Along (Tells less h p) t (e ∷ [])
  known less tells = along_runs less h p whole.unread tells t (e ∷ []) run

  -- where waits are kept
  with_waits : h.waits ≡ false → IsMatchedAs f ids sorts s t (e ∷ [])
  with_waits stay =
      by_slices f (TellNoIdleSlices p) (IsMatchedAs f ids sorts s t (e ∷ [])) whole.idle_slices
      (λ less keeps tells leaves.
      paired root f ids whole.pushes less h stay s t (told less keeps) (IsMatchedAs f ids sorts s t (e ∷ []))
      (λ R linked pair.
      matched_as shapes root f ids (Tells less h p) (AreOmitted less h p R) (omitted_linked f ids less h whole.left_out leaves root p stay R linked) sorts s t (e ∷ [])
      (record { pair = pair; here = led_s; there = led_t; none = (tried_none root e tried, tt); over = over; fits = fits; known = known less tells })) whole.clock)

  -- and where they aren't
  without_waits : h.waits ≡ true → IsMatchedAs f ids sorts s t (e ∷ [])
  without_waits out = record {
    free = λ none fine. let g = goes fine in (g.free (none g.taken).0, λ force. tt);
    there = λ all. let g = goes all.0 in (g.taken, g.force all.1, tt);
    written = λ ys all is. (goes all.0).written all.1 ys is;
  }
    where
      others : All (λ x. x ≢ sort.Stall) sorts
      others = ⊎_elim (λ kept. absurd (bits_apart f.waits (whole.left_out.waits out) kept)) (λ o. o) stalls

      room_t : t.events < max_events
      room_t = omega (arith, fits)

      goes : refusal s e ≡ None → Goes f ids sorts s t e
      goes fine = goes_either AskOnly TellNoIdleSlices f ids sorts root shapes whole out others s t e (tried_none root e tried) led_s led_t over room_t force_t (early (whole.left_out.waits out)) known told fine

  told_matched : IsMatchedAs f ids sorts s t (e ∷ [])
  told_matched = go h.waits refl
    where
      go : (b : Bool) → h.waits ≡ b → IsMatchedAs f ids sorts s t (e ∷ [])
      go false stay = with_waits stay
      go true out = without_waits out

-- ---- rows

module _ (f : Form) (ids : List ℕ) (sorts : List Sort) (root : SimState) (room : ℕ) (shapes : List Shape) (whole : IsWholeInRuns root.state.policy f) (stalls : (f.waits ≡ true) ⊎ All (λ x. x ≢ sort.Stall) sorts) (sizes : HasFew root) (plain : are_linux root.state.world.rules ≡ false) (led : IsLed shapes root root) (few : length ids ≤ most_queues) (fits : HasRoom Events root room) (sliceless : f.slices ≡ false) (timeless : f.run_ns ≡ false) (unread : AskAnyhow LoadsNoCount root.state.policy) (free : has_quota root.state.world.tree.groups ≡ false) (xs : List ℕ) (s t : SimState) (reached : IsReached Events root s) (near : IsNear root room t) (seen : IsAudited f Events sorts root room t near) (here : IsWritten f ids xs s) (there : IsWritten f ids xs t) where
  led_s : IsLed shapes root s
  led_s = led_reached Events root room shapes led fits s t (Clock ∷ []) reached near (Clock, tt, refl)

  led_t : IsLed shapes root t
  led_t = led_near Events root room shapes led fits s t (Clock ∷ []) reached near (Clock, tt, refl)

  over_s : s.events ≤ max_events
  over_s = over_reached Events root room shapes led fits s t (Clock ∷ []) reached near (Clock, tt, refl)

  count_t : t.events ≡ root.events + length near.events
  count_t = ap (λ (x : SimState). x.events) near.state ∙ counted root near.events near.accepted

  -- one event more
  fits_t : t.events + 1 ≤ max_events
  fits_t = fits_near Events root room shapes led fits s t (Clock ∷ []) reached near (Clock, tt, refl)

  follows_as : (v : SimState) → IsLed shapes root v → v.state.world.ejected ≡ None → v.events + 1 ≤ max_events → (f.waits ≡ false → v.state.world.clock < v.state.policy.timeout_ms) → IsWritten f ids xs v → (e : Event) → IsTried root e → CallsRunAlong v (e ∷ []) → s.events < max_events
      → counts.IsMet s (lent s v) e → IsMatchedAs f ids sorts s v (e ∷ [])
  unfolding with_slices
  follows_as v led_v force fits_v early is e tried run room_s met =
      let g : Form = record f { slices = true } in
      let suited = led_suited shapes root s reached.force led_s in
      let suited_v = led_suited shapes root v force led_v in
      let told : KeepTheSame f ids s v = words_keep shapes root f ids xs whole.names few s v suited suited_v here is in
      let m = lent s v in
      let led_m = led_lent shapes root s v led_s in
      let whole_g = with_slices true root.state.policy f whole in
      let again = retold AskOnly TellNoIdleSlices shapes root sizes f ids whole s v suited suited_v here.known is.known told in
      let x : IsMatchedAs f ids sorts m v (e ∷ []) =
      told_matched f ids sorts root shapes whole stalls m v e tried led_m led_v over_s fits_v force early run
      (λ less keeps.
      let k = kept_told AskOnly TellNoIdleSlices g ids root shapes whole_g sizes m v led_m led_v reached.force force refl here.known is.known again less keeps in
      record { here = k.here; there = k.there; clock = k.clock; quota = k.quota; on = k.on; back = k.back; ticks = k.ticks; ticks_back = k.ticks_back }) in
      let alike = counts_change_nothing s m e (plainly f ids shapes root whole.pushes sliceless timeless plain free unread s led_s reached.force room_s) (ne_eqb s.events max_events (λ o. omega (arith, room_s, o))) (lent_same s v) met in
      through f ids sorts sliceless timeless s m v e alike x

  -- an event that is tried once
  once : (e : Event) → IsTried root e → times t e ≡ 1 → counts.IsMet s (lent s t) e → s.events < max_events → IsFollowed f ids Events sorts root s t (e ∷ [])
  once e tried one met room_s =
      let row : IsRow root t (e ∷ []) = (e, tried, ap (λ (n : ℕ). replicate n e) (sym one)) in
      let is : IsTriedIn f.slices Events root t (e ∷ []) = subst (λ (b : Bool). IsTriedIn b Events root t (e ∷ [])) (sym sliceless) row in
      let x = follows_as t led_t near.force fits_t seen.early there e tried (seen.run (e ∷ []) is) room_s met in
      record { other = e ∷ []; move = inr is; free = x.free; there = x.there; written = x.written }

  -- one for which there is no room, as it is refused
  refused : (e : Event) → s.events ≡ max_events → IsFollowed f ids Events sorts root s t (e ∷ [])
  refused e full = record {
    other = [];
    move = inl refl;
    free = λ none fine. absurd (no fine);
    there = λ survived. tt;
    written = λ ys survived is. absurd (no survived.0);
  }
    where
      no : refusal s e ≡ None → ⊥
      no fine = let bad = has_one s e over_s fine in omega (arith, bad, full)

  -- ---- a tick

  suited_s : IsSuited shapes root s
  suited_s = led_suited shapes root s reached.force led_s

  suited_t : IsSuited shapes root t
  suited_t = led_suited shapes root t near.force led_t

  told_t : KeepTheSame f ids s t
  told_t = words_keep shapes root f ids xs whole.names few s t suited_s suited_t here there

  same_cpus : s.state.world.cpus ≡ t.state.world.cpus
  same_cpus = cpus_same AskOnly TellNoIdleSlices shapes root sizes f ids whole s t suited_s suited_t here.known there.known told_t

  module _ (c : ℕ) (tried : c < length root.state.world.cpus) (room_s : s.events < max_events) where
    tick_tried : IsTried root (Tick c)
    tick_tried = tried

    runs_there : running s.state.world c ≡ running t.state.world c
    runs_there = ap (λ (cpus : List (Option ℕ)). running (record s.state.world { cpus = cpus }) c) same_cpus

    none_runs : running s.state.world c ≡ None → IsFollowed f ids Events sorts root s t (Tick c ∷ [])
    none_runs none =
        once (Tick c) tick_tried (ap (ticks_of t.state.world) (sym runs_there ∙ none)) (subst (λ (o : Option ℕ). IfSome o (EndAlike s.state.world (lent s t).state.world)) (sym none) tt) room_s

    module _ (u : ℕ) (runs : running s.state.world c ≡ Some u) where
      runs_t : running t.state.world c ≡ Some u
      runs_t = sym runs_there ∙ runs

      abbrev a : ℕ
      a = (task_at s.state.world u).slice

      abbrev b : ℕ
      b = (task_at t.state.world u).slice

      known_u : u < length root.state.world.tasks
      known_u = known_running (length root.state.world.tasks) led_s.events led_s.events s.state.world c u (subst (λ (n : ℕ). c < n) led_s.size.cpus tried) runs led_s.fine

      busy : idle.is_idle s.state.world u ≡ false
      busy = ap (λ (x : Bool). not x && is_put_nowhere (entry_of s.state.world.queues u)) (on_that s.state.world.cpus c u runs)

      ends_there : is_endless a ≡ is_endless b
      ends_there = ends_same AskOnly TellNoIdleSlices shapes root sizes f ids whole s t suited_s suited_t here.known there.known told_t u known_u busy

      endless : is_endless a ≡ true → IsFollowed f ids Events sorts root s t (Tick c ∷ [])
      endless e =
          once (Tick c) tick_tried (ap (ticks_of t.state.world) runs_t ∙ ap (λ (x : Bool). cond x 1 (max (b / 1000000 + min 1 (b % 1000000)) 1)) (sym ends_there ∙ e))
          (subst (λ (o : Option ℕ). IfSome o (EndAlike s.state.world (lent s t).state.world)) (sym runs) (inl e)) room_s

      -- one that ends no slice shows nothing, if the clock in the second state doesn't
      silent : is_last a ≡ false → IsFollowed f ids Events sorts root s t (Tick c ∷ [])
      silent last =
          let fine = ticks_there f ids shapes root whole.pushes sliceless timeless plain free unread s c led_s tried room_s in
          let force = silent_force f ids shapes root whole.pushes sliceless timeless plain free unread s c u led_s reached.force room_s fine runs last in
          let still = silent_runs f ids shapes root whole.pushes sliceless timeless plain free unread s c u led_s reached.force room_s fine runs last in
          let clock : IsTriedIn f.slices Events root t (Clock ∷ []) = subst (λ (x : Bool). IsTriedIn x Events root t (Clock ∷ [])) (sym sliceless) (Clock, tt, refl) in
          let accepted : refusal t Clock ≡ None = ap (λ (x : Bool). cond x (Some RunOver) None) (ne_eqb t.events max_events (λ o. let l = fits_t in omega (arith, l, o))) in
          record {
            other = [];
            move = inl refl;
            free = λ none ok. (All-weaker (λ x. IsFree x (after_event t Clock) Clock) (λ x. IsFree x (after_event s (Tick c)) (Tick c)) (λ x k. nothing force still x k) sorts (seen.shown (Clock ∷ []) clock accepted).0, λ on. tt);
            there = λ survived. tt;
            written = λ ys survived is. silent_written f ids shapes root whole.pushes sliceless timeless plain free unread s c u led_s reached.force room_s fine runs last ys (written_too f ids xs s t whole.names here there ys is);
          }
        where
          tick_is : (x y : ℕ) → Tick x ≡ Tick y → x ≡ y
          tick_is x y e = cc

          nothing : (after_event s (Tick c)).state.world.ejected ≡ None → running (after_event s (Tick c)).state.world c ≡ Some u → (x : Sort) → IsFree x (after_event t Clock) Clock → IsFree x (after_event s (Tick c)) (Tick c)
          nothing force still (sort.Fault g) k = λ is. let bad : None ≡ Some g = sym (ap fault_in force) ∙ is in absurd (cc)
          nothing force still sort.Stall k = ap stall_in force
          nothing force still sort.Idle k = λ on d is none. let same : c ≡ d = tick_is c d is in let bad : None ≡ Some u = sym (ap (λ (n : ℕ). running (after_event s (Tick c)).state.world n) same ∙ none) ∙ still in absurd (cc)
          nothing force still sort.Overtaken k = k
          nothing force still sort.Exit k = ap exit_in force

      -- one that ends it
      row : is_endless a ≡ false → is_last a ≡ true → IsFollowed f ids Events sorts root s t (Tick c ∷ [])
      row ends last =
          let k = ticks_left b - 1 in
          let ends_b : is_endless b ≡ false = sym ends_there ∙ ends in
          let left : ticks_left b ≡ suc k = pred_of (ticks_left b) (some_ticks b ends_b) in
          let many : times t (Tick c) ≡ suc k = ap (ticks_of t.state.world) runs_t ∙ left in
          let ticks = replicate (suc k) (Tick c) in
          let row : IsRow root t ticks = (Tick c, tick_tried, ap (λ (n : ℕ). replicate n (Tick c)) (sym many)) in
          let is : IsTriedIn f.slices Events root t ticks = subst (λ (x : Bool). IsTriedIn x Events root t ticks) (sym sliceless) row in
          let within = seen.fits sliceless refl (Tick c) tick_tried in
          let most : root.events + room + 1 ≤ max_events = fits (Clock ∷ []) (Clock, tt, refl) in
          let to = in_a_row f ids shapes root whole.pushes sliceless timeless plain free unread xs c u k t.state.world.clock t tried (record {
            led = led_t;
            force = near.force;
            runs = runs_t;
            ends = ends_b;
            left = left;
            clock = refl;
            fits = row_fits t.events root.events (length near.events) (times t (Tick c)) room k max_events count_t within many most;
            written = there;
          }) in
          let v = to.last in
          let l = to.lasts in
          let suited_v = led_suited shapes root v l.force l.led in
          let told_v = words_keep shapes root f ids xs whole.names few s v suited_s suited_v here l.written in
          let ends_v : is_endless a ≡ is_endless (task_at v.state.world u).slice = ends ∙ sym l.ends in
          let lent_v : (task_at (lent s v).state.world u).slice ≡ (task_at v.state.world u).slice =
          lent_at s.state.world.tasks v.state.world.tasks u (subst (λ (n : ℕ). u < n) suited_s.size.0 known_u) (sym suited_s.size.0 ∙ suited_v.size.0) ∙ lent_is a (task_at v.state.world u).slice ends_v in
          let met : counts.IsMet s (lent s v) (Tick c) =
          subst (λ (o : Option ℕ). IfSome o (EndAlike s.state.world (lent s v).state.world)) (sym runs) (inr (last, ap is_last lent_v ∙ last_tick (task_at v.state.world u).slice l.ends l.left)) in
          let early : f.waits ≡ false → v.state.world.clock < v.state.policy.timeout_ms = λ e. early_there t.state.world.clock v.state.world.clock t.state.policy.timeout_ms v.state.policy.timeout_ms l.clock (ap (λ (q : PolicyState). q.timeout_ms) (l.led.policy ∙ sym led_t.policy)) (seen.early e) in
          let x = follows_as v l.led l.force l.fits early l.written (Tick c) tick_tried (to.run (seen.run ticks is)) room_s met in
          record {
            other = ticks;
            move = inr is;
            free = λ none. x.free (to.shown sorts none);
            there = λ survived. to.survived (x.there survived);
            written = λ ys survived w. x.written ys survived (subst (IsWritten f ids ys) to.state w);
          }
        where
          early_there : (a b c d : ℕ) → b ≡ a → d ≡ c → a < c → b < d
          early_there a b c d x y l = omega (arith, x, y, l)

          row_fits : (n r k m most j max : ℕ) → n ≡ r + k → k + m ≤ most → m ≡ suc j → r + most + 1 ≤ max → n + suc j ≤ max
          row_fits n r k m most j max e l o p = omega (arith, e, l, o, p)

      runner : IsFollowed f ids Events sorts root s t (Tick c ∷ [])
      runner = go (is_endless a) (is_last a) refl refl
        where
          go : (x y : Bool) → is_endless a ≡ x → is_last a ≡ y → IsFollowed f ids Events sorts root s t (Tick c ∷ [])
          go true y e o = endless e
          go false false e o = silent o
          go false true e o = row e o

    tick : IsFollowed f ids Events sorts root s t (Tick c ∷ [])
    tick = go (running s.state.world c) refl
      where
        go : (o : Option ℕ) → running s.state.world c ≡ o → IsFollowed f ids Events sorts root s t (Tick c ∷ [])
        go None e = none_runs e
        go (Some u) e = runner u e

  -- ---- any event

  with_room : s.events < max_events → (e : Event) → IsTried root e → IsFollowed f ids Events sorts root s t (e ∷ [])
  with_room l (Wake u) tried = once (Wake u) tried refl tt l
  with_room l (Sleep u) tried = once (Sleep u) tried refl tt l
  with_room l (Tick c) tried = tick c tried l
  with_room l Clock tried = once Clock tt refl tt l
  with_room l (SetWeight g x) tried = absurd tried
  with_room l (SetTaskWeight u x) tried = absurd tried

  follows : (es : List Event) → IsMove Events root es → IsFollowed f ids Events sorts root s t es
  follows es move =
      subst (IsFollowed f ids Events sorts root s t) (sym move.2)
      (⊎_elim (λ (l : s.events < max_events). with_room l move.0 move.1) (λ (l : max_events ≤ s.events). refused move.0 (full s.events max_events over_s l)) (cases_lt s.events max_events))
    where
      full : (n m : ℕ) → n ≤ m → m ≤ n → n ≡ m
      full n m k l = omega (arith, k, l)

-- ---- the law

module _ (f : Form) (ids : List ℕ) (sorts : List Sort) (root : SimState) (room : ℕ) (shapes : List Shape) (whole : IsWholeInRuns root.state.policy f) (others : All (λ x. x ≢ sort.Stall) sorts) (kept : f.slices ≡ true) (sizes : HasFew root) (led : IsLed shapes root root) (few : length ids ≤ most_queues) (fits : HasRoom Events root room) where
  -- an event is followed by itself where slices are kept, and waits aren't
  by_itself : FollowsRuns f ids Events sorts root room
  by_itself xs s t es reached near seen here there move =
      let e = move.0 in
      let one : IsMove Events root (e ∷ []) = (e, move.1, refl) in
      let is : IsTriedIn f.slices Events root t (e ∷ []) = subst (λ (b : Bool). IsTriedIn b Events root t (e ∷ [])) (sym kept) one in
      let led_s = led_reached Events root room shapes led fits s t (e ∷ []) reached near one in
      let led_t = led_near Events root room shapes led fits s t (e ∷ []) reached near one in
      let x : IsMatchedAs f ids sorts s t (e ∷ []) =
      told_matched f ids sorts root shapes whole (inr others) s t e move.1 led_s led_t (over_reached Events root room shapes led fits s t (e ∷ []) reached near one) (fits_near Events root room shapes led fits s t (e ∷ []) reached near one) near.force seen.early (seen.run (e ∷ []) is)
      (written_told AskOnly TellNoIdleSlices f ids root shapes whole sizes s t led_s led_t reached.force near.force kept xs few here there) in
      subst (IsFollowed f ids Events sorts root s t) (sym move.2) (record { other = e ∷ []; move = inr is; free = x.free; there = x.there; written = x.written })

pub forms_whole_in_runs_are_followed : FormsWholeInRunsAreFollowed
forms_whole_in_runs_are_followed f ids moves sorts root room shapes whole stalls leaves sizes led few fits = go f.slices refl leaves
  where
    kept : f.slices ≡ true → AsksNoStalls f moves sorts → FollowsRuns f ids moves sorts root room
    kept e (inl waits) = respected_followed f ids moves sorts root room e (forms_whole_in_runs_are_respected f ids moves sorts root room shapes whole e (inl waits) sizes led few fits)
    kept e (inr o) =
        subst (λ (m : Moves). FollowsRuns f ids m sorts root room) (sym o.0)
        (by_itself f ids sorts root room shapes whole o.1 e sizes led few (subst (λ (m : Moves). HasRoom m root room) o.0 fits))

    no_stalls : AsksNoStalls f moves sorts → (f.waits ≡ true) ⊎ All (λ x. x ≢ sort.Stall) sorts
    no_stalls (inl waits) = inl waits
    no_stalls (inr o) = inr o.1

    go : (b : Bool) → f.slices ≡ b → MayLeaveSlices f moves root → FollowsRuns f ids moves sorts root room
    go true e l = kept e stalls
    go false e (inl is) = kept is stalls
    go false e (inr l) =
        subst (λ (m : Moves). FollowsRuns f ids m sorts root room) (sym l.0)
        (λ xs s t es reached near seen here there move.
        follows f ids sorts root room shapes whole (no_stalls stalls) sizes l.4 led few (subst (λ (m : Moves). HasRoom m root room) l.0 fits) e l.1 l.2 l.3 xs s t reached near seen here there es move)

-- a closed table of a whole form leaves no list out
pub told_whole : {E : Type 0} (c : Claim) (root : SimState) (room : ℕ) (r : Result Bool E) → IfOk r (λ b. b ≡ true → IsClosed c root room) → IfOk r (λ b. b ≡ true → AreNumbersOf root c.ids) → IfOk r (λ b. b ≡ true → NeedsNoPremise c.form c.moves c.limit c.sorts root room)
told_whole c root room (Ok b) shut numbers = λ is p tree cpus first shape flags timeout whole stalls leaves sizes fits.
    closed_tables_cover c root room (forms_whole_in_runs_are_followed c.form c.ids c.moves c.sorts root room p.shapes whole stalls leaves sizes (first_led p tree cpus root shape flags timeout first) (numbers is).few fits) (shut is)
told_whole c root room (Err e) shut numbers = tt
