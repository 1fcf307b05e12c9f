-- By a form that keeps everything, two states with the same words are matched move by move.
use Rattle.std.proofs.Common.{◌≡◌, ℕ, zero, suc, ◌+◌, ◌-◌, ◌<◌, ◌≤◌, ◌==◌, ◌&&◌, not, ◌⊎◌, inl, inr, Bool, true, false, List, [], ◌∷◌, ◌++◌, length, map, All, Option, Some, None, refl, sym, ap, ◌∙◌, subst, arith, ⊎_elim}
use Rattle.std.specs.Prelude.{if◌then◌else◌, option_map}
use Rattle.std.proofs.lemmas.Bool.{cases_lt, eq-eqb}
use Rattle.std.proofs.lemmas.List.Elements.{All-head, All-tail, All-weaker}
use Rattle.scx_dsq.specs.declared.entries.Entry.{Entry}
use Rattle.scx_dsq.specs.Laws.{IsStamped}
use Rattle.scx_dsq.specs.Queues.{entry_of}
use Rattle.scx_isa_semantics.specs.Effects.{Query}
use Rattle.scx_maps.specs.declared.shape.Shape.{Shape}
use Rattle.scx_weights.specs.Limits.{has_quota}
use Rattle.scx_sched_tasks.specs.declared.task.Task.{Task}
use Rattle.scx_sched_world.specs.World.{WorldState, are_linux}
use Rattle.scx_sched_machine.specs.declared.events.Event.{Event}
use Rattle.scx_sched_machine.specs.declared.events.Event.TheVariants.{Wake, Sleep, Tick, Clock, SetWeight, SetTaskWeight}
use Rattle.scx_sched_machine.specs.declared.events.Refused.{Refused}
use Rattle.scx_sched_policy.specs.Policy.{PolicyState}
use Rattle.scx_sched_machine.specs.Steps.{State, with_world}
use Rattle.scx_sched.specs.Sim.{SimState, max_events, refusal, stepped_if, after_event, calls_of}
use Rattle.scx_sched.proofs.Deciding.{accepted}
use Rattle.scx_load_driver.specs.Runs.{stepped_all, AreAccepted}
use Rattle.scx_explore_findings.specs.declared.finding.Sort.{Sort}
use Rattle.scx_explore_findings.specs.Findings.{fault_in, stall_in, exit_in, IsIdleBehind}
use Rattle.scx_explore_findings.specs.declared.finding.Sort.TheVariants as sort
use Rattle.scx_explore_findings.specs.Asked.{AskOnly}
use Rattle.scx_explore_findings.specs.Delayed.{later_by, delayed_task, delayed_eject, delay, delay_machine, AreClockless, IsSteady, IsWholeTicks, AnswersLater}
use Rattle.scx_explore_findings.specs.Hidden.{Hidden, since_unless, hidden_in, all_hidden, with_tasks}
use Rattle.scx_explore_findings.specs.HiddenLaws.{LeavesOut}
use Rattle.scx_explore_findings.specs.HiddenMachines as hidden
use Rattle.scx_explore_findings.specs.IdleSlices as idle
use Rattle.scx_explore_findings.specs.IdleSlices.{runs_on, is_put_nowhere, is_idle, is_idle_of, any_task, sliceless_if, without_slices, TellNoIdleSlices}
use Rattle.scx_explore_findings.proofs.IdleRecords.{twice as erased_twice}
use Rattle.scx_explore_findings.proofs.Words.{idle_written}
use Rattle.scx_explore_findings.specs.HiddenMachines.{hide_machine}
use Rattle.scx_explore_findings.specs.QueueOrder.{unnumbered, AreAsQueues}
use Rattle.scx_explore_findings.specs.Unread.{ReadsNone}
use Rattle.scx_explore_findings.specs.UnreadParts.{AreSame, AnswersAlike, parts_of, with_parts}
use Rattle.scx_explore_findings.specs.WholeForms.{IsWholeBy, HasFew, IsLed}
use Rattle.scx_explore_findings.proofs.DelayedMachines.{events_dont_tell_times, fault_shown, stall_shown, exit_shown, force_back, idle_back, idle_on, written_back, written_on, delay_none}
use Rattle.scx_explore_findings.proofs.EventWalk.{IsWeighing}
use Rattle.scx_explore_findings.proofs.Led.{AreUnweighing, led_one, led_all, led_suited}
use Rattle.scx_explore_findings.proofs.EventSizes.{policy_after}
use Rattle.scx_explore_findings.proofs.LeftOut.{omit_machine, none_less, parts_machine}
use Rattle.scx_explore_findings.proofs.Machines.{refusal_there, late_alike}
use Rattle.scx_explore_findings.proofs.OwnCalls.{left_out_if, own_calls_tell_none}
use Rattle.scx_explore_findings.proofs.Steps.{TellNothing, AskNone}
use Rattle.scx_explore_findings.proofs.Shown.{same_machines_show_the_same, idle_shown}
use Rattle.scx_explore_findings.proofs.SameMachines.{events_read_no_such_part, counted, room_for_one, room_for_rest, one_longer, states_back}
use Rattle.scx_explore_findings.proofs.SameShown.{such_parts_show_nothing}
use Rattle.scx_explore_findings.proofs.SameTold.{IsSuited, rested, resting, words_keep, clock_kept, clock_told, ticks_between, whole_told}
use Rattle.scx_explore_findings.proofs.UnusedGroups.{unused, unused_is_steady, unused_there, unused_here, same_itself}
use Rattle.scx_explore_states.specs.Rows.{entries_of}
use Rattle.scx_explore_states.specs.Telling.{KeepTheSame}
use Rattle.scx_explore_states.specs.Words.{most_queues}
use Rattle.scx_explore_states.specs.Written.{past_tick, AreKnown, IsWritten}
use Rattle.scx_explore_states.specs.declared.form.Form.{Form}
use Rattle.scx_explore_audit.specs.declared.table.Moves.{Moves}
use Rattle.scx_explore_audit.specs.declared.table.Moves.TheVariants.{Events, Milliseconds}
use Rattle.scx_explore_audit.specs.Claims.{IsTried, IsMove, IsFree, TaskSet, of_tasks, ticks, millisecond, ShowsNoneAtFirst, list_of}
use Rattle.scx_explore_audit.specs.Closed.{IsReached, IsNear, IsMatched, IsSurvived, CallsRunAlong}
use Rattle.scx_explore_audit.specs.Whole.{HasRoom}

-- ---- events that change no weight

pub tried_none : (r : SimState) (e : Event) → IsTried r e → IsWeighing e → ⊥
tried_none r (Wake t) tried is = is
tried_none r (Sleep t) tried is = is
tried_none r (Tick c) tried is = is
tried_none r Clock tried is = is
tried_none r (SetWeight g x) tried is = tried
tried_none r (SetTaskWeight t x) tried is = tried

both_none : (es fs : List Event) → AreUnweighing es → AreUnweighing fs → AreUnweighing (es ++ fs)
both_none [] fs none more = more
both_none (e ∷ es) fs none more = (none.0, both_none es fs none.1 more)

pub tried_all : (r : SimState) (es : List Event) → All (IsTried r) es → AreUnweighing es
tried_all r [] tried = tt
tried_all r (e ∷ es) tried = (tried_none r e (All-head (IsTried r) e es tried), tried_all r es (All-tail (IsTried r) e es tried))

tasks_none : (event : ℕ → Event) → ((t : ℕ) → IsWeighing (event t) → ⊥) → (set : TaskSet) (t n : ℕ) → AreUnweighing (of_tasks event set t n)
tasks_none event none set t zero = tt
tasks_none event none set t (suc n) = both_none (if set t then event t ∷ [] else []) (of_tasks event set (suc t) n) (one (set t)) (tasks_none event none set (suc t) n)
  where
    one : (b : Bool) → AreUnweighing (if b then event t ∷ [] else [])
    one true = (none t, tt)
    one false = tt

ticks_none : (c n : ℕ) → AreUnweighing (ticks c n)
ticks_none c zero = tt
ticks_none c (suc n) = (λ is. is, ticks_none (suc c) n)

millisecond_none : (n c : ℕ) (wakes sleeps : TaskSet) → AreUnweighing (millisecond n c wakes sleeps)
millisecond_none n c wakes sleeps =
    let first = of_tasks (λ t. Wake t) wakes 0 n in
    let last = of_tasks (λ t. Sleep t) sleeps 0 n in
    both_none first (ticks 0 c ++ (last ++ Clock ∷ [])) (tasks_none (λ t. Wake t) (λ t is. is) wakes 0 n)
    (both_none (ticks 0 c) (last ++ Clock ∷ []) (ticks_none 0 c)
    (both_none last (Clock ∷ []) (tasks_none (λ t. Sleep t) (λ t is. is) sleeps 0 n) (λ is. is, tt)))

move_none : (moves : Moves) (r : SimState) (es : List Event) → IsMove moves r es → AreUnweighing es
move_none Events r es move = subst AreUnweighing (sym move.2) (tried_none r move.0 move.1, tt)
move_none Milliseconds r es move = subst AreUnweighing (sym move.list) (millisecond_none (length r.state.world.tasks) (length r.state.world.cpus) move.wakes move.sleeps)

moves_none : (moves : Moves) (r : SimState) (list : List (List Event)) → All (IsMove moves r) list → AreUnweighing (list_of list)
moves_none moves r [] made = tt
moves_none moves r (es ∷ list) made = both_none es (list_of list) (move_none moves r es (All-head (IsMove moves r) es list made)) (moves_none moves r list (All-tail (IsMove moves r) es list made))

-- ---- room for events

pub has_one : (s : SimState) (e : Event) → s.events ≤ max_events → refusal s e ≡ None → s.events < max_events
has_one s e over ok =
    ⊎_elim (λ (l : s.events < max_events). l)
    (λ (l : max_events ≤ s.events).
    let is : s.events ≡ max_events = omega (arith, l, over) in
    absurd (bits (s.events == max_events) (accepted s e ok).not_over (eq-eqb s.events max_events is)))
    (cases_lt s.events max_events)
  where
    bits : (b : Bool) → b ≡ false → b ≡ true → ⊥
    bits b x y = absurd (cc)

one_fits : (n i m : ℕ) → i ≤ n + 1 → n < m → i ≤ m
one_fits n i m c l = omega (arith, c, l)

after_over : (s : SimState) (e : Event) → s.events < max_events → (after_event s e).events ≤ max_events
after_over s e l = one_fits s.events (after_event s e).events max_events (counted (refusal s e) s e) l

one_counts : (i n k j : ℕ) → i ≡ n + 1 → j ≡ i + k → j ≡ n + suc k
one_counts i n k j e f = omega (arith, e, f)

one_more_fits : (i n k m : ℕ) → i ≡ n + 1 → i + k ≤ m → n + suc k ≤ m
one_more_fits i n k m e l = omega (arith, e, l)

pub counts : (s : SimState) (events : List Event) → AreAccepted s events → (stepped_all s events).events ≡ s.events + length events
counts s [] all = omega arith
counts s (e ∷ es) all =
    let one : (after_event s e).events ≡ s.events + 1 = ap (λ o. (stepped_if o s e).events) all.0 in
    one_counts (after_event s e).events s.events (length es) (stepped_all (after_event s e) es).events one (counts (after_event s e) es all.1)

stays_over : (s : SimState) (events : List Event) → s.events ≤ max_events → AreAccepted s events → (stepped_all s events).events ≤ max_events
stays_over s [] over all = over
stays_over s (e ∷ es) over all = stays_over (after_event s e) es (after_over s e (has_one s e over all.0)) all.1

survivors_fit : (s : SimState) (es : List Event) → s.events ≤ max_events → IsSurvived s es → s.events + length es ≤ max_events
survivors_fit s [] over all = omega (arith, over)
survivors_fit s (e ∷ es) over all =
    let one : (after_event s e).events ≡ s.events + 1 = ap (λ o. (stepped_if o s e).events) all.0 in
    one_more_fits (after_event s e).events s.events (length es) max_events one (survivors_fit (after_event s e) es (after_over s e (has_one s e over all.0)) all.2)

pub bits_apart : (b : Bool) → b ≡ false → b ≡ true → ⊥
bits_apart b x y = absurd (cc)

-- ---- pairs of machines that answer alike

-- whatever the second machine doesn't show the first one doesn't show either, and words of the second
-- one are words of the first one
pub record ShowsLess (f : Form) (ids : List ℕ) (s t : SimState) : Type 0 where
  pub force : s.state.world.ejected ≡ None → t.state.world.ejected ≡ None
  pub faults : fault_in s.state.world.ejected ≡ fault_in t.state.world.ejected
  pub stalls : stall_in s.state.world.ejected ≡ stall_in t.state.world.ejected
  pub exits : exit_in s.state.world.ejected ≡ exit_in t.state.world.ejected
  pub idle : (e : Event) → IsIdleBehind t e None → IsIdleBehind s e None
  pub written : (xs : List ℕ) → IsWritten f ids xs t → IsWritten f ids xs s

pub free_so : (f : Form) (ids : List ℕ) (s t : SimState) → ShowsLess f ids s t → (e : Event) (x : Sort) → IsFree x t e → IsFree x s e
free_so f ids s t less e (sort.Fault g) k = λ is. k (sym less.faults ∙ is)
free_so f ids s t less e sort.Stall k = less.stalls ∙ k
free_so f ids s t less e sort.Idle k = λ force. less.idle e (k (less.force force))
free_so f ids s t less e sort.Overtaken k = k
free_so f ids s t less e sort.Exit k = less.exits ∙ k

-- what the events do in the first state they do in the second one
pub record IsMatchedAs (f : Form) (ids : List ℕ) (sorts : List Sort) (s t : SimState) (es : List Event) : Type 0 where
  pub free : ShowsNoneAtFirst sorts t es → ShowsNoneAtFirst sorts s es
  pub there : IsSurvived s es → IsSurvived t es
  pub written : (xs : List ℕ) → IsSurvived s es → IsWritten f ids xs (stepped_all t es) → IsWritten f ids xs (stepped_all s es)

-- a machine has the groups and rules of that one
pub record IsOf (root s : SimState) : Type 0 where
  pub groups : s.state.world.tree.groups ≡ root.state.world.tree.groups
  pub rules : s.state.world.rules ≡ root.state.world.rules

pub is_of : (shapes : List Shape) (root s : SimState) → IsLed shapes root s → IsOf root s
is_of shapes root s led = record { groups = sym led.tidy.1.0.0; rules = led.rules }

-- that is known of each event that is accepted, as long as the policy stays in force
abbrev pub Along : (SimState → Event → Type 0) → SimState → List Event → Type 0
Along K s [] = Unit {0}
Along K s (e ∷ es) = refusal s e ≡ None → K s e × ((after_event s e).state.world.ejected ≡ None → Along K (after_event s e) es)

-- pairs of machines that answer an event alike, and are pairs again after it, where that is known of the second one
pub record AreLinked (root : SimState) (f : Form) (ids : List ℕ) (K : SimState → Event → Type 0) (R : SimState → SimState → Type 0) : Type 0 where
  pub shows : (s t : SimState) → R s t → ShowsLess f ids s t
  pub refused : (s t : SimState) (e : Event) → R s t → s.events < max_events → t.events < max_events → refusal s e ≡ refusal t e
  pub after :
      (s t : SimState) (e : Event)
      → R s t
      → K t e
      → IsOf root (after_event s e)
      → IsOf root (after_event t e)
      → s.events < max_events
      → t.events < max_events
      → R (after_event s e) (after_event t e)

-- two of a pair to which events have led, with room for these events
pub record AreAt (shapes : List Shape) (root : SimState) (K : SimState → Event → Type 0) (R : SimState → SimState → Type 0) (s t : SimState) (es : List Event) : Type 0 where
  pub pair : R s t
  pub here : IsLed shapes root s
  pub there : IsLed shapes root t
  pub none : AreUnweighing es
  pub over : s.events ≤ max_events
  pub fits : t.events + length es ≤ max_events
  pub known : Along K t es

module _ (shapes : List Shape) (root : SimState) (f : Form) (ids : List ℕ) (K : SimState → Event → Type 0) (R : SimState → SimState → Type 0) (linked : AreLinked root f ids K R) where
  module _ (s t : SimState) (e : Event) (es : List Event) (at : AreAt shapes root K R s t (e ∷ es)) (fine : refusal s e ≡ None) where
    room_here : s.events < max_events
    room_here = has_one s e at.over fine

    longer : t.events + (length es + 1) ≤ max_events
    longer = one_longer e es t.events max_events at.fits

    room_there : t.events < max_events
    room_there = room_for_one t.events (length es) max_events longer

    fine_there : refusal t e ≡ None
    fine_there = sym (linked.refused s t e at.pair room_here room_there) ∙ fine

    led_here : IsLed shapes root (after_event s e)
    led_here = led_one shapes root s e fine at.none.0 at.here

    led_there : IsLed shapes root (after_event t e)
    led_there = led_one shapes root t e fine_there at.none.0 at.there

    pair : R (after_event s e) (after_event t e)
    pair = linked.after s t e at.pair (at.known fine_there).0 (is_of shapes root (after_event s e) led_here) (is_of shapes root (after_event t e) led_there) room_here room_there

    next : (after_event t e).state.world.ejected ≡ None → AreAt shapes root K R (after_event s e) (after_event t e) es
    next force = record {
      pair = pair;
      here = led_here;
      there = led_there;
      none = at.none.1;
      over = after_over s e room_here;
      fits = room_for_rest t.events (after_event t e).events (length es) max_events (counted (refusal t e) t e) longer;
      known = (at.known fine_there).1 force;
    }

    less : ShowsLess f ids (after_event s e) (after_event t e)
    less = linked.shows (after_event s e) (after_event t e) pair

  shows_so : (sorts : List Sort) (s t : SimState) (es : List Event) → AreAt shapes root K R s t es → ShowsNoneAtFirst sorts t es → ShowsNoneAtFirst sorts s es
  shows_so sorts s t [] at none = tt
  shows_so sorts s t (e ∷ es) at none =
      λ fine.
      let l = less s t e es at fine in
      let there = none (fine_there s t e es at fine) in (
        All-weaker (λ x. IsFree x (after_event t e) e) (λ x. IsFree x (after_event s e) e) (free_so f ids (after_event s e) (after_event t e) l e) sorts there.0,
        λ force. shows_so sorts (after_event s e) (after_event t e) es (next s t e es at fine (l.force force)) (there.1 (l.force force)),
      )

  survives_so : (s t : SimState) (es : List Event) → AreAt shapes root K R s t es → IsSurvived s es → IsSurvived t es
  survives_so s t [] at all = tt
  survives_so s t (e ∷ es) at all =
      let force = (less s t e es at all.0).force all.1 in (
        fine_there s t e es at all.0,
        force,
        survives_so (after_event s e) (after_event t e) es (next s t e es at all.0 force) all.2,
      )

  stays_so : (s t : SimState) (es : List Event) → AreAt shapes root K R s t es → IsSurvived s es → R (stepped_all s es) (stepped_all t es)
  stays_so s t [] at all = at.pair
  stays_so s t (e ∷ es) at all = stays_so (after_event s e) (after_event t e) es (next s t e es at all.0 ((less s t e es at all.0).force all.1)) all.2

  -- so what the events do in the first one they do in the second one
  pub matched_as : (sorts : List Sort) (s t : SimState) (es : List Event) → AreAt shapes root K R s t es → IsMatchedAs f ids sorts s t es
  matched_as sorts s t es at = record {
    free = shows_so sorts s t es at;
    there = survives_so s t es at;
    written = λ xs survived written. (linked.shows (stepped_all s es) (stepped_all t es) (stays_so s t es at survived)).written xs written;
  }

  -- and each move is matched
  matched_so : (moves : Moves) (sorts : List Sort) (r s t : SimState) (es : List Event) → AreAt shapes root K R s t es → IsMove moves r es → IsMatched f ids moves sorts r s t es
  matched_so moves sorts r s t es at is = let m = matched_as sorts s t es at in record { other = es; move = is; free = m.free; there = m.there; written = m.written }

-- nothing is known
abbrev pub AnyKnown : SimState → Event → Type 0
AnyKnown s e = Unit {0}

-- one after another
pub shown_both : (f : Form) (ids : List ℕ) (a b c : SimState) → ShowsLess f ids a b → ShowsLess f ids b c → ShowsLess f ids a c
shown_both f ids a b c x y = record {
  force = λ is. y.force (x.force is);
  faults = x.faults ∙ y.faults;
  stalls = x.stalls ∙ y.stalls;
  exits = x.exits ∙ y.exits;
  idle = λ e is. x.idle e (y.idle e is);
  written = λ xs is. x.written xs (y.written xs is);
}

-- where both are out of force for the same cause, if they are
shown_so : (f : Form) (ids : List ℕ) (s t : SimState) → s.state.world.ejected ≡ t.state.world.ejected → ((e : Event) → IsIdleBehind t e None → IsIdleBehind s e None) → ((xs : List ℕ) → IsWritten f ids xs t → IsWritten f ids xs s) → ShowsLess f ids s t
shown_so f ids s t ejected idle written = record {
  force = λ is. sym ejected ∙ is;
  faults = ap fault_in ejected;
  stalls = ap stall_in ejected;
  exits = ap exit_in ejected;
  idle = idle;
  written = written;
}

-- ---- machines of the same time

module _ (root : SimState) (f : Form) (ids : List ℕ) (none : f.pushes ≡ false) where
  -- but for unread parts
  shown_parts : (s t : SimState) → AreSame s t → ShowsLess f ids s t
  shown_parts s t same =
      let there = such_parts_show_nothing s t same in
      let back = such_parts_show_nothing t s (states_back false s.state t.state same) in
      shown_so f ids s t there.ejected (λ e is. back.idle e None is) (λ xs is. back.written f ids xs none is)

  parts_linked : AreLinked root f ids AnyKnown AreSame
  parts_linked = record {
    shows = shown_parts;
    refused = λ s t e same room there. (events_read_no_such_part s t e same room there).refusal;
    after = λ s t e same known of_s of_t room there. (events_read_no_such_part s t e same room there).after;
  }

-- ---- machines of two times

-- a time is made of whole ticks in any state under that policy, by those rules
whole_as : (k : ℕ) (s t : State) → s.policy ≡ t.policy → s.world.rules ≡ t.world.rules → IsWholeTicks k s → IsWholeTicks k t
whole_as k s t policy rules whole linux = ap (λ (p : PolicyState). past_tick p.tick_ms k) (sym policy) ∙ whole (ap are_linux rules ∙ linux)

-- the second machine is as the first one would be if all times were later, by whole ticks under Linux rules, but for unread
-- parts; no group has a quota
record AreTimed (root s t : SimState) : Type 0 where
  pub later : ℕ
  pub other : SimState
  pub events : other.events ≡ s.events
  pub before : AreSame s other
  pub steady : IsSteady other.state
  pub free : has_quota other.state.world.tree.groups ≡ false
  pub rules : other.state.world.rules ≡ root.state.world.rules
  pub policy : other.state.policy ≡ root.state.policy
  pub whole : IsWholeTicks later root.state
  pub after : AreSame (delay_machine later other) t

module _ (root : SimState) (f : Form) (ids : List ℕ) (none : f.pushes ≡ false) (no_clock : f.clock ≡ false) (clockless : AreClockless root.state.policy) (free : has_quota root.state.world.tree.groups ≡ false) where
  module _ (s t : SimState) (timed : AreTimed root s t) where
    z : SimState
    z = timed.other

    k : ℕ
    k = timed.later

    whole_there : IsWholeTicks k z.state
    unfolding z k
    whole_there = whole_as k root.state z.state (sym timed.policy) (sym timed.rules) timed.whole

    parts_back : AreSame z s
    unfolding z
    parts_back = states_back false s.state z.state timed.before

    parts_before : AreSame t (delay_machine k z)
    unfolding z k
    parts_before = states_back false (delay_machine k z).state t.state timed.after

    shown : s.state.world.ejected ≡ z.state.world.ejected
    unfolding z
    shown = (such_parts_show_nothing s z timed.before).ejected

    shown_later : delayed_eject k z.state.world.ejected ≡ t.state.world.ejected
    unfolding z k
    shown_later = (such_parts_show_nothing (delay_machine k z) t timed.after).ejected

    -- the second machine shows what the first one does
    less_on : ShowsLess f ids s t
    unfolding z k
    less_on = record {
      force = λ is. sym shown_later ∙ ap (delayed_eject k) (sym shown ∙ is);
      faults = ap fault_in shown ∙ (fault_shown k z.state.world.ejected ∙ ap fault_in shown_later);
      stalls = ap stall_in shown ∙ (stall_shown k z.state.world.ejected ∙ ap stall_in shown_later);
      exits = ap exit_in shown ∙ (exit_shown k z.state.world.ejected ∙ ap exit_in shown_later);
      idle = λ e is. (such_parts_show_nothing z s parts_back).idle e None (idle_back k z e ((such_parts_show_nothing t (delay_machine k z) parts_before).idle e None is));
      written = λ xs is. (such_parts_show_nothing z s parts_back).written f ids xs none (written_back k f ids z no_clock whole_there timed.free xs ((such_parts_show_nothing t (delay_machine k z) parts_before).written f ids xs none is));
    }

    -- and the first one what the second one does
    less_back : ShowsLess f ids t s
    unfolding z k
    less_back = record {
      force = λ is. shown ∙ force_back k z.state.world.ejected (shown_later ∙ is);
      faults = sym less_on.faults;
      stalls = sym less_on.stalls;
      exits = sym less_on.exits;
      idle = λ e is. (such_parts_show_nothing (delay_machine k z) t timed.after).idle e None (idle_on k z e ((such_parts_show_nothing s z timed.before).idle e None is));
      written = λ xs is. (such_parts_show_nothing (delay_machine k z) t timed.after).written f ids xs none (written_on k f ids z no_clock whole_there timed.free xs ((such_parts_show_nothing s z timed.before).written f ids xs none is));
    }

    module _ (e : Event) (room : s.events < max_events) (room_t : t.events < max_events) where
      room_z : z.events < max_events
      unfolding z
      room_z = subst (λ (n : ℕ). n < max_events) (sym timed.events) room

      as_parts : AnswersAlike s z e
      unfolding z
      as_parts = events_read_no_such_part s z e timed.before room room_z

      as_later : AnswersLater k z e
      unfolding z
      as_later = events_dont_tell_times k z e (subst AreClockless (sym timed.policy) clockless) whole_there timed.steady

      as_last : AnswersAlike (delay_machine k z) t e
      unfolding z k
      as_last = events_read_no_such_part (delay_machine k z) t e timed.after room_z room_t

      refused_timed : refusal s e ≡ refusal t e
      unfolding z k
      refused_timed = as_parts.refusal ∙ (as_later.refusal ∙ as_last.refusal)

      as_many : (after_event z e).events ≡ (after_event s e).events
      unfolding z
      as_many = ap (λ (o : Option Refused). (stepped_if o z e).events) (sym as_parts.refusal) ∙ go (refusal s e)
        where
          go : (o : Option Refused) → (stepped_if o z e).events ≡ (stepped_if o s e).events
          go None = ap (λ (n : ℕ). n + 1) timed.events
          go (Some r) = timed.events

      after_timed : IsOf root (after_event s e) → AreTimed root (after_event s e) (after_event t e)
      unfolding z k
      after_timed here =
          let s1 = after_event s e in
          let z1 = after_event z e in
          let free_s : has_quota s1.state.world.tree.groups ≡ false = ap has_quota here.groups ∙ free in
          let free_z : has_quota z1.state.world.tree.groups ≡ false = sym (ap (λ (x : State). has_quota x.world.tree.groups) as_parts.after.rest) ∙ free_s in
          let moved = subst (λ (x : SimState). AreSame x (after_event t e)) (sym as_later.after) as_last.after in
          record {
            later = k;
            other = unused z1;
            events = as_many;
            before = unused_there s1.state z1.state free_s as_parts.after;
            steady = unused_is_steady z1.state;
            free = free_z;
            rules = sym (ap (λ (x : State). x.world.rules) as_parts.after.rest) ∙ here.rules;
            policy = policy_after z e ∙ timed.policy;
            whole = timed.whole;
            after = unused_here (delay_machine k z1).state (after_event t e).state free_z moved;
          }

  timed_linked : AreLinked root f ids AnyKnown (AreTimed root)
  timed_linked = record {
    shows = λ s t timed. less_on s t timed;
    refused = λ s t e timed room there. refused_timed s t timed e room there;
    after = λ s t e timed known of_s of_t room there. after_timed s t timed e room there of_s;
  }

  timed_back : AreLinked root f ids AnyKnown (λ s t. AreTimed root t s)
  timed_back = record {
    shows = λ s t timed. less_back t s timed;
    refused = λ s t e timed room there. sym (refused_timed t s timed e there room);
    after = λ s t e timed known of_s of_t room there. after_timed t s timed e there room of_t;
  }

-- ---- machines that differ in what is left out

-- without these slices, or all the same
abbrev IsRested : Bool → SimState → SimState → Type 0
IsRested true s t = idle.AreSame s t
IsRested false s t = s ≡ t

-- slices that are erased are so for good
rested_so : (less : Bool) (s : SimState) → IsRested less s (resting less s)
rested_so false s = refl
rested_so true s =
    let those = is_idle_of any_task s.state.world in
    ap (λ (xs : List Task). record s { state = record s.state { world = with_tasks s.state.world xs } }) (erased_twice those those s.state.world.tasks (λ t e. e))

rested_back : (b : Bool) (s t : SimState) → IsRested b s t → IsRested b t s
rested_back true s t same = sym same
rested_back false s t same = sym same

-- what is left out is hidden once slices are erased
omit_is : (less : Bool) (h : Hidden) (s : SimState) → omit_machine (left_out_if less h) s ≡ hide_machine h (resting less s)
omit_is true h s = refl
omit_is false h s = parts_machine h s

-- no program of the policy asks for what is left out, or none of its programs that the event calls
abbrev pub Tells : Bool → Hidden → PolicyState → SimState → Event → Type 0
Tells less h p s e = TellNothing (left_out_if less h) p ⊎ AskNone (left_out_if less h) p (calls_of s e)

-- the second machine is the same as one of such a pair, but for what is left out
pub record AreOmitted (less : Bool) (h : Hidden) (p : PolicyState) (R : SimState → SimState → Type 0) (s t : SimState) : Type 0 where
  pub one : SimState
  pub near : R s one
  pub there : omit_machine (left_out_if less h) one ≡ omit_machine (left_out_if less h) t
  pub policy : t.state.policy ≡ p

module _ (f : Form) (ids : List ℕ) (less : Bool) (h : Hidden) (out : LeavesOut f h) (sliceless : less ≡ true → f.idle_slices ≡ false) where
  -- what is hidden shows nothing
  pub shown_hidden : (s t : SimState) → hidden.AreSame h s t → ShowsLess f ids s t
  shown_hidden s t same =
      let there = same_machines_show_the_same h s t same in
      let back = same_machines_show_the_same h t s (sym same) in
      shown_so f ids s t there.ejected (λ e is. back.idle e None is) (λ xs is. back.written f ids xs out is)

  -- nor do these slices
  shown_rested : (b : Bool) → (b ≡ true → f.idle_slices ≡ false) → (s t : SimState) → IsRested b s t → ShowsLess f ids s t
  shown_rested false free s t same = subst (ShowsLess f ids s) same (record { force = λ is. is; faults = refl; stalls = refl; exits = refl; idle = λ e is. is; written = λ xs is. is })
  shown_rested true free s t same =
      let ejected : s.state.world.ejected ≡ t.state.world.ejected = ap (λ (x : SimState). x.state.world.ejected) same in
      record {
        force = λ is. sym ejected ∙ is;
        faults = ap fault_in ejected;
        stalls = ap stall_in ejected;
        exits = ap exit_in ejected;
        idle = λ e is. idle_shown t s (sym same) e None is;
        written = λ xs is. idle_written f ids xs t s (free refl) (sym same) is;
      }

  pub shown_omitted : (s t : SimState) → omit_machine (left_out_if less h) s ≡ omit_machine (left_out_if less h) t → ShowsLess f ids s t
  shown_omitted s t same =
      let a = resting less s in
      let b = resting less t in
      shown_both f ids s a t (shown_rested less sliceless s a (rested_so less s))
      (shown_both f ids a b t (shown_hidden a b (sym (omit_is less h s) ∙ (same ∙ omit_is less h t))) (shown_rested less sliceless b t (rested_back less t b (rested_so less t))))

  module _ (root : SimState) (p : PolicyState) (stay : h.waits ≡ false) (R : SimState → SimState → Type 0) (linked : AreLinked root f ids AnyKnown R) where
    module _ (s t : SimState) (e : Event) (x : AreOmitted less h p R s t) where
      as_many_there : x.one.events ≡ t.events
      as_many_there = ap (λ (y : SimState). y.events) x.there

      one_fits_there : t.events < max_events → x.one.events < max_events
      one_fits_there room = subst (λ (n : ℕ). n < max_events) (sym as_many_there) room

      refused_omitted : s.events < max_events → t.events < max_events → refusal s e ≡ refusal t e
      refused_omitted room there = linked.refused s x.one e x.near room (one_fits_there there) ∙ refusal_there (left_out_if less h) x.one t x.there e

      after_omitted : Tells less h p t e → IsOf root (after_event s e) → IsOf root (after_event t e) → s.events < max_events → t.events < max_events → AreOmitted less h p R (after_event s e) (after_event t e)
      after_omitted tells of_s of_t room there =
          let own = subst (λ (q : PolicyState). Tells less h q t e) (sym x.policy) tells in
          let alike = late_alike (left_out_if less h) stay t x.one (sym x.there) e own in
          let of_one : IsOf root (after_event x.one e) = record { groups = sym (ap (λ (y : SimState). y.state.world.tree.groups) alike) ∙ of_t.groups; rules = sym (ap (λ (y : SimState). y.state.world.rules) alike) ∙ of_t.rules } in
          record {
            one = after_event x.one e;
            near = linked.after s x.one e x.near tt of_s of_one room (one_fits_there there);
            there = sym alike;
            policy = policy_after t e ∙ x.policy;
          }

    pub omitted_linked : AreLinked root f ids (Tells less h p) (AreOmitted less h p R)
    omitted_linked = record {
      shows = λ s t x. shown_both f ids s x.one t (linked.shows s x.one x.near) (shown_omitted x.one t x.there);
      refused = λ s t e x room there. refused_omitted s t e x room there;
      after = λ s t e x tells of_s of_t room there. after_omitted s t e x tells of_s of_t room there;
    }

-- programs that tell nothing of it tell nothing along any events
pub along_any : (less : Bool) (h : Hidden) (p : PolicyState) → TellNothing (left_out_if less h) p → (s : SimState) (es : List Event) → Along (Tells less h p) s es
along_any less h p tells s [] = tt
along_any less h p tells s (e ∷ es) = λ fine. (inl tells, λ force. along_any less h p tells (after_event s e) es)

-- nor do those that tell nothing in their runs, where callbacks run as they were verified
pub along_runs : (less : Bool) (h : Hidden) (p : PolicyState) → AskOnly (ReadsNone h) p → (less ≡ true → TellNoIdleSlices p) → (s : SimState) (es : List Event) → CallsRunAlong s es → Along (Tells less h p) s es
along_runs less h p unread told s [] run = tt
along_runs less h p unread told s (e ∷ es) run = λ fine. (
  inr (own_calls_tell_none less h p (calls_of s e) unread told (run fine).0),
  λ force. along_runs less h p unread told (after_event s e) es ((run fine).1 force),
)

-- ---- records of tasks

nowhere_same : (o : Option Entry) → is_put_nowhere (option_map unnumbered o) ≡ is_put_nowhere o
nowhere_same None = refl
nowhere_same (Some e) = refl

-- the same tasks sleep or are held where the same CPUs run them, and queues are the same but for order numbers
idle_alike : (v w : WorldState) → v.cpus ≡ w.cpus → AreAsQueues v.queues w.queues → (u : ℕ) → is_idle v u ≡ is_idle w u
idle_alike v w cpus queues u =
    ap (λ (cs : List (Option ℕ)). not (runs_on u cs) && is_put_nowhere (entry_of v.queues u)) cpus
    ∙ ap (λ (b : Bool). not (runs_on u w.cpus) && b) (sym (nowhere_same (entry_of v.queues u)) ∙ (ap is_put_nowhere (queues.places u) ∙ nowhere_same (entry_of w.queues u)))

-- records with or without slices of these tasks
pub rested_is : (less : Bool) (w : WorldState) → rested less w ≡ without_slices (is_idle_of (λ t. less) w) w.tasks
rested_is true w = refl
rested_is false w = sym (none_less (is_idle_of (λ t. false) w) w.tasks (λ t. refl))

heads : {a b : Task} {l m : List Task} → a ∷ l ≡ b ∷ m → a ≡ b
heads k = cc

tails : {a b : Task} {l m : List Task} → a ∷ l ≡ b ∷ m → l ≡ m
tails k = cc

-- records of the second machine, with waits of the first one
record Merges (h : Hidden) (d : ℕ) (p : ℕ → Bool) (xs ys : List Task) : Type 0 where
  pub tasks : List Task
  pub late : map (delayed_task d) tasks ≡ ys
  pub same : all_hidden h (without_slices p tasks) ≡ all_hidden h (without_slices p xs)

module _ (h : Hidden) (stay : h.waits ≡ false) (d : ℕ) where
  since_of : (a b : Bool) (x y : Task) → a ≡ false → since_unless a (delayed_task d (sliceless_if b x)).since ≡ since_unless a (sliceless_if b y).since → later_by d x.since ≡ y.since
  since_of true b x y e k = absurd (bits_apart true e refl)
  since_of false true x y e k = k
  since_of false false x y e k = k

  late_one : (b : Bool) (x y : Task) → hidden_in h (delayed_task d (sliceless_if b x)) ≡ hidden_in h (sliceless_if b y) → delayed_task d (record y { since = x.since }) ≡ y
  late_one b x y e = ap (λ (o : Option ℕ). record y { since = o }) (since_of h.waits b x y stay (ap (λ (w : Task). w.since) e))

  same_one : (b : Bool) (x y : Task) → hidden_in h (delayed_task d (sliceless_if b x)) ≡ hidden_in h (sliceless_if b y) → hidden_in h (sliceless_if b (record y { since = x.since })) ≡ hidden_in h (sliceless_if b x)
  same_one true x y e = ap (λ (w : Task). record w { since = since_unless h.waits x.since }) (sym e)
  same_one false x y e = ap (λ (w : Task). record w { since = since_unless h.waits x.since }) (sym e)

  merged : (p q : ℕ → Bool) → ((u : ℕ) → p u ≡ q u) → (xs ys : List Task) → all_hidden h (map (delayed_task d) (without_slices p xs)) ≡ all_hidden h (without_slices q ys) → Merges h d p xs ys
  merged p q e [] [] k = record { tasks = []; late = refl; same = refl }
  merged p q e [] (y ∷ ys) k = absurd (cc)
  merged p q e (x ∷ xs) [] k = absurd (cc)
  merged p q e (x ∷ xs) (y ∷ ys) k =
      let m = merged (λ u. p (suc u)) (λ u. q (suc u)) (λ u. e (suc u)) xs ys (tails k) in
      let here = heads k ∙ ap (λ (b : Bool). hidden_in h (sliceless_if b y)) (sym (e 0)) in
      let z : Task = record y { since = x.since } in
      record {
        tasks = z ∷ m.tasks;
        late = ap (λ (w : Task). w ∷ map (delayed_task d) m.tasks) (late_one (p 0) x y here) ∙ ap (λ (l : List Task). y ∷ l) m.late;
        same = ap (λ (w : Task). w ∷ all_hidden h (without_slices (λ u. p (suc u)) m.tasks)) (same_one (p 0) x y here) ∙ ap (λ (l : List Task). hidden_in h (sliceless_if (p 0) x) ∷ l) m.same;
      }

  late_slice : (b : Bool) (x : Task) → sliceless_if b (delayed_task d x) ≡ delayed_task d (sliceless_if b x)
  late_slice true x = refl
  late_slice false x = refl

  -- later records without slices of these tasks
  late_slices : (p q : ℕ → Bool) → ((u : ℕ) → p u ≡ q u) → (xs : List Task) → without_slices p (map (delayed_task d) xs) ≡ map (delayed_task d) (without_slices q xs)
  late_slices p q e [] = refl
  late_slices p q e (x ∷ xs) =
      ap (λ (b : Bool). sliceless_if b (delayed_task d x) ∷ without_slices (λ u. p (suc u)) (map (delayed_task d) xs)) (e 0)
      ∙ (ap (λ (y : Task). y ∷ without_slices (λ u. p (suc u)) (map (delayed_task d) xs)) (late_slice (q 0) x)
      ∙ ap (λ (l : List Task). delayed_task d (sliceless_if (q 0) x) ∷ l) (late_slices (λ u. p (suc u)) (λ u. q (suc u)) (λ u. e (suc u)) xs))

-- ---- the machine between

module _ (less : Bool) (h : Hidden) (stay : h.waits ≡ false) (d : ℕ) (s t : SimState) (told : AreSame (hide_machine h (delay_machine d (resting less s))) (hide_machine h (resting less t))) where
  same_cpus : s.state.world.cpus ≡ t.state.world.cpus
  same_cpus = ap (λ (x : State). x.world.cpus) told.rest

  same_idle : (u : ℕ) → is_idle_of (λ v. less) s.state.world u ≡ is_idle_of (λ v. less) t.state.world u
  same_idle u = ap (λ (b : Bool). less && b) (idle_alike s.state.world t.state.world same_cpus told.parts.queues u)

  tasks_told : all_hidden h (map (delayed_task d) (without_slices (is_idle_of (λ v. less) s.state.world) s.state.world.tasks)) ≡ all_hidden h (without_slices (is_idle_of (λ v. less) t.state.world) t.state.world.tasks)
  tasks_told =
      ap (λ (xs : List Task). all_hidden h (map (delayed_task d) xs)) (sym (rested_is less s.state.world))
      ∙ (ap (λ (x : State). x.world.tasks) told.rest ∙ ap (all_hidden h) (rested_is less t.state.world))

  -- the first one, later, with parts of the second one
  placed : SimState
  placed = record { state = with_world s.state (with_parts (delay d s.state.world) (parts_of t.state.world)); events = t.events }

  placed_near : AreSame (delay_machine d s) placed
  unfolding placed
  placed_near = record { parts = told.parts; rest = refl }

  placed_tasks : all_hidden h (without_slices (is_idle_of (λ v. less) placed.state.world) placed.state.world.tasks) ≡ all_hidden h (map (delayed_task d) (without_slices (is_idle_of (λ v. less) s.state.world) s.state.world.tasks))
  unfolding placed
  placed_tasks =
      ap (all_hidden h) (late_slices h stay d (is_idle_of (λ v. less) placed.state.world) (is_idle_of (λ v. less) s.state.world)
      (λ u. ap (λ (cs : List (Option ℕ)). less && (not (runs_on u cs) && is_put_nowhere (entry_of t.state.world.queues u))) same_cpus ∙ sym (same_idle u)) s.state.world.tasks)

  placed_there : omit_machine (left_out_if less h) placed ≡ omit_machine (left_out_if less h) t
  unfolding placed
  placed_there =
      ap (λ (xs : List Task). record { state = with_world s.state (with_tasks (with_parts (delay d s.state.world) (parts_of t.state.world)) xs); events = t.events }) (placed_tasks ∙ tasks_told)
      ∙ ap (λ (x : State). record { state = with_world x (with_tasks x.world (all_hidden h (without_slices (is_idle_of (λ v. less) t.state.world) t.state.world.tasks))); events = t.events }) told.rest

  merge : Merges h d (is_idle_of (λ v. less) s.state.world) s.state.world.tasks t.state.world.tasks
  merge = merged h stay d (is_idle_of (λ v. less) s.state.world) (is_idle_of (λ v. less) t.state.world) same_idle s.state.world.tasks t.state.world.tasks tasks_told

  -- the first one, with what is left out as in the second one
  filled : SimState
  filled = record s { state = with_world s.state (with_tasks s.state.world merge.tasks) }

  filled_is : filled ≡ record s { state = with_world s.state (with_tasks s.state.world merge.tasks) }
  unfolding filled
  filled_is = refl

  filled_here : omit_machine (left_out_if less h) filled ≡ omit_machine (left_out_if less h) s
  unfolding filled
  filled_here = ap (λ (xs : List Task). record s { state = with_world s.state (with_tasks s.state.world xs) }) merge.same

  filled_near : AreSame (delay_machine d filled) t
  unfolding filled
  filled_near = record {
    parts = told.parts;
    rest =
        ap (λ (xs : List Task). with_world s.state (with_tasks (with_parts (delay d s.state.world) (parts_of t.state.world)) xs)) merge.late
        ∙ ap (λ (x : State). with_world x (with_tasks x.world t.state.world.tasks)) told.rest;
  }

near_fits : (i n k r j m : ℕ) → i ≡ n + k → k < r → n + r + j ≤ m → i + j ≤ m
near_fits i n k r j m e l f = omega (arith, e, l, f)

-- the same time, if it isn't later
no_later : (n d : ℕ) → n ≡ d → n + 0 ≡ d
no_later n d e = omega (arith, e)

later_than : (n d : ℕ) → n ≤ d → n + (d - n) ≡ d
later_than n d l = omega (arith, l)

earlier : (n d : ℕ) → d < n → d ≤ n
earlier n d l = omega (arith, l)

-- ---- two machines that are told of each other

-- a machine with the policy, the rules and the groups of that one, in which each push has a number of its own
pub record IsFrom (root s : SimState) : Type 0 where
  pub policy : s.state.policy ≡ root.state.policy
  pub same : IsOf root s
  pub stamped : IsStamped s.state.world.queues

pub from_led : (shapes : List Shape) (root s : SimState) → IsLed shapes root s → IsFrom root s
from_led shapes root s led = record { policy = led.policy; same = is_of shapes root s led; stamped = led.fine.sound.stamped }

-- both are the same without what is left out, once one is as late as the other, by whole ticks under Linux rules
pub record AreSameLater (root : SimState) (f : Form) (less : Bool) (h : Hidden) (s t : SimState) : Type 0 where
  pub here : IsFrom root s
  pub there : IsFrom root t
  pub clock : f.clock ≡ true → s.state.world.clock ≡ t.state.world.clock
  pub quota : has_quota root.state.world.tree.groups ≡ true → s.state.world.clock ≡ t.state.world.clock
  pub on : (d : ℕ) → s.state.world.clock + d ≡ t.state.world.clock → AreSame (hide_machine h (delay_machine d (resting less s))) (hide_machine h (resting less t))
  pub back : (d : ℕ) → t.state.world.clock + d ≡ s.state.world.clock → AreSame (hide_machine h (delay_machine d (resting less t))) (hide_machine h (resting less s))
  pub ticks : (d : ℕ) → s.state.world.clock + d ≡ t.state.world.clock → IsWholeTicks d s.state
  pub ticks_back : (d : ℕ) → t.state.world.clock + d ≡ s.state.world.clock → IsWholeTicks d t.state

-- a machine that is the same as that one, but for records of tasks, and another one that is the same later
timed_so : (root : SimState) → has_quota root.state.world.tree.groups ≡ false → (x y z : SimState) → IsFrom root x → (d : ℕ) → IsWholeTicks d x.state → (ts : List Task) → z ≡ record x { state = with_world x.state (with_tasks x.state.world ts) } → AreSame (delay_machine d z) y
    → AreTimed root z y
timed_so root free x y z l d ticks ts is same =
    let groups : z.state.world.tree.groups ≡ x.state.world.tree.groups = ap (λ (u : SimState). u.state.world.tree.groups) is in
    let free_z : has_quota z.state.world.tree.groups ≡ false = ap has_quota groups ∙ (ap has_quota l.same.groups ∙ free) in
    record {
      later = d;
      other = unused z;
      events = refl;
      before = unused_there z.state z.state free_z (same_itself z.state (subst (λ (u : SimState). IsStamped u.state.world.queues) (sym is) l.stamped));
      steady = unused_is_steady z.state;
      free = free_z;
      rules = ap (λ (u : SimState). u.state.world.rules) is ∙ l.same.rules;
      policy = ap (λ (u : SimState). u.state.policy) is ∙ l.policy;
      whole = whole_as d x.state root.state l.policy l.same.rules ticks;
      after = unused_here (delay_machine d z).state y.state free_z same;
    }

module _ (root : SimState) (f : Form) (ids : List ℕ) (pushes : f.pushes ≡ false) (less : Bool) (h : Hidden) (stay : h.waits ≡ false) (s t : SimState) (told : AreSameLater root f less h s t) (C : Type 0) (so : (R : SimState → SimState → Type 0) → AreLinked root f ids AnyKnown R → AreOmitted less h root.state.policy R s t → C) where
  -- at the same time
  at_once : s.state.world.clock ≡ t.state.world.clock → C
  at_once same =
      let now = told.on 0 (no_later s.state.world.clock t.state.world.clock same) in
      so AreSame (parts_linked root f ids pushes) (record {
        one = placed less h stay 0 s t now;
        near = subst (λ (x : SimState). AreSame x (placed less h stay 0 s t now)) (delay_none s) (placed_near less h stay 0 s t now);
        there = placed_there less h stay 0 s t now;
        policy = told.there.policy;
      })

  module _ (clockless : AreClockless root.state.policy) (no_clock : f.clock ≡ false) (free : has_quota root.state.world.tree.groups ≡ false) where
    -- where the second one is earlier
    earlier_there : (d : ℕ) → IsWholeTicks d t.state → AreSame (hide_machine h (delay_machine d (resting less t))) (hide_machine h (resting less s)) → C
    earlier_there d ticks now =
        so (λ x y. AreTimed root y x) (timed_back root f ids pushes no_clock clockless free) (record {
          one = filled less h stay d t s now;
          near = timed_so root free t s (filled less h stay d t s now) told.there d ticks (merge less h stay d t s now).tasks (filled_is less h stay d t s now) (filled_near less h stay d t s now);
          there = filled_here less h stay d t s now;
          policy = told.there.policy;
        })

    -- and where it is later
    later_there : (d : ℕ) → IsWholeTicks d s.state → AreSame (hide_machine h (delay_machine d (resting less s))) (hide_machine h (resting less t)) → C
    later_there d ticks now =
        so (AreTimed root) (timed_linked root f ids pushes no_clock clockless free) (record {
          one = placed less h stay d s t now;
          near = timed_so root free s (placed less h stay d s t now) s told.here d ticks s.state.world.tasks refl (placed_near less h stay d s t now);
          there = placed_there less h stay d s t now;
          policy = told.there.policy;
        })

    at_two_times : C
    at_two_times =
        let v = s.state.world.clock in
        let w = t.state.world.clock in
        ⊎_elim (λ (l : w < v). let same = later_than w v (earlier v w l) in earlier_there (v - w) (told.ticks_back (v - w) same) (told.back (v - w) same))
        (λ (l : v ≤ w). let same = later_than v w l in later_there (w - v) (told.ticks (w - v) same) (told.on (w - v) same))
        (cases_lt w v)

  -- such two are a pair with another machine between them, whether or not the clock is told
  pub paired : (f.clock ≡ true) ⊎ AreClockless root.state.policy → C
  paired clock = go f.clock (has_quota root.state.world.tree.groups) refl refl clock
    where
      go : (b c : Bool) → f.clock ≡ b → has_quota root.state.world.tree.groups ≡ c → (f.clock ≡ true) ⊎ AreClockless root.state.policy → C
      go true c e q o = at_once (told.clock e)
      go false true e q o = at_once (told.quota q)
      go false false e q (inl is) = at_once (told.clock is)
      go false false e q (inr clockless) = at_two_times clockless e q

-- slices of tasks that sleep or are held are left out, or not
pub by_slices : (f : Form) (X C : Type 0) → (f.idle_slices ≡ true) ⊎ X → ((less : Bool) → (less ≡ false → f.idle_slices ≡ true) → (less ≡ true → X) → (less ≡ true → f.idle_slices ≡ false) → C) → C
by_slices f X C told so = go f.idle_slices refl told
  where
    go : (b : Bool) → f.idle_slices ≡ b → (f.idle_slices ≡ true) ⊎ X → C
    go true e o = so false (λ is. e) (λ is. absurd (bits_apart false refl is)) (λ is. absurd (bits_apart false refl is))
    go false e (inl is) = absurd (bits_apart f.idle_slices e is)
    go false e (inr tells) = so true (λ is. absurd (bits_apart true is refl)) (λ is. tells) (λ is. e)

-- what is kept of both is the same the other way round
keep_back : (f : Form) (ids : List ℕ) (s t : SimState) → length s.state.world.tasks ≡ length t.state.world.tasks → KeepTheSame f ids s t → KeepTheSame f ids t s
keep_back f ids s t many told = record {
  tasks = λ k few l.
      let h = told.tasks k few (subst (λ (n : ℕ). k < n) (sym many) l) in
      record {
        wait = sym h.wait;
        place = sym h.place;
        prev_cpu = sym h.prev_cpu;
        ahead = sym h.ahead;
        by_vtime = sym h.by_vtime;
        slice = sym h.slice;
        key = sym h.key;
        vtime = sym h.vtime;
        run_ns = sym h.run_ns;
      };
  clock = λ e. sym (told.clock e);
  random = λ e. sym (told.random e);
  usages = sym told.usages;
  rules = sym told.rules;
  maps = sym told.maps;
}

-- two machines by a form that keeps all that programs read, and slices
module _ (Ask : (Query → Type 0) → PolicyState → Type 0) (Tell : PolicyState → Type 0) (f : Form) (ids : List ℕ) (root : SimState) (shapes : List Shape) (whole : IsWholeBy Ask Tell root.state.policy f) (sizes : HasFew root) (s t : SimState) (led_s : IsLed shapes root s) (led_t : IsLed shapes root t) (force_s : s.state.world.ejected ≡ None) (force_t : t.state.world.ejected ≡ None) (slices : f.slices ≡ true) where
  suited_s : IsSuited shapes root s
  suited_s = led_suited shapes root s force_s led_s

  suited_t : IsSuited shapes root t
  suited_t = led_suited shapes root t force_t led_t

  -- which keep the same
  pub kept_told : AreKnown ids (entries_of s.state.world) → AreKnown ids (entries_of t.state.world) → KeepTheSame f ids s t → (less : Bool) → (less ≡ false → f.idle_slices ≡ true) → AreSameLater root f less whole.hidden s t
  kept_told known known_there told less keeps =
      let back = keep_back f ids s t (sym suited_s.size.0 ∙ suited_t.size.0) told in
      record {
        here = from_led shapes root s led_s;
        there = from_led shapes root t led_t;
        clock = clock_kept Ask Tell shapes root sizes f ids whole s t suited_s suited_t known known_there told;
        quota = λ q. clock_told Ask Tell shapes root sizes f ids whole s t suited_s suited_t known known_there told (sym (ap has_quota led_s.tidy.1.0.0) ∙ q);
        on = λ d later. whole_told Ask Tell shapes root sizes f ids whole s t suited_s suited_t known known_there told less keeps slices d later;
        back = λ d later. whole_told Ask Tell shapes root sizes f ids whole t s suited_t suited_s known_there known back less keeps slices d later;
        ticks = λ d later. ticks_between Ask Tell shapes root sizes f ids whole s t suited_s suited_t known known_there told d later;
        ticks_back = λ d later. ticks_between Ask Tell shapes root sizes f ids whole t s suited_t suited_s known_there known back d later;
      }

  -- and which are written as the same words
  pub written_told : (xs : List ℕ) → length ids ≤ most_queues → IsWritten f ids xs s → IsWritten f ids xs t → (less : Bool) → (less ≡ false → f.idle_slices ≡ true) → AreSameLater root f less whole.hidden s t
  written_told xs few here there = kept_told here.known there.known (words_keep shapes root f ids xs whole.names few s t suited_s suited_t here there)

-- ---- a move of two machines that lists lead to

module _ (moves : Moves) (root : SimState) (room : ℕ) (shapes : List Shape) (led : IsLed shapes root root) (fits : HasRoom moves root room) (s t : SimState) (es : List Event) (reached : IsReached moves root s) (near : IsNear root room t) (move : IsMove moves root es) where
  pub led_reached : IsLed shapes root s
  led_reached = subst (IsLed shapes root) (sym reached.state) (led_all shapes root root (list_of reached.list) reached.accepted (moves_none moves root reached.list reached.made) led)

  pub led_near : IsLed shapes root t
  led_near = subst (IsLed shapes root) (sym near.state) (led_all shapes root root near.events near.accepted (tried_all root near.events near.tried) led)

  pub over_reached : s.events ≤ max_events
  over_reached =
      let over : root.events ≤ max_events = omega (arith, fits es move) in
      subst (λ (x : SimState). x.events ≤ max_events) (sym reached.state) (stays_over root (list_of reached.list) over reached.accepted)

  pub fits_near : t.events + length es ≤ max_events
  fits_near =
      let count : t.events ≡ root.events + length near.events = ap (λ (x : SimState). x.events) near.state ∙ counts root near.events near.accepted in
      near_fits t.events root.events (length near.events) room (length es) max_events count near.few (fits es move)

-- where waits are kept, it is matched by the same one
module _ (Ask : (Query → Type 0) → PolicyState → Type 0) (Tell : PolicyState → Type 0) (f : Form) (ids : List ℕ) (moves : Moves) (sorts : List Sort) (root : SimState) (room : ℕ) (shapes : List Shape) (whole : IsWholeBy Ask Tell root.state.policy f) (stay : whole.hidden.waits ≡ false) (slices : f.slices ≡ true) (sizes : HasFew root) (led : IsLed shapes root root) (few : length ids ≤ most_queues) (fits : HasRoom moves root room) (xs : List ℕ) (s t : SimState) (es : List Event) (reached : IsReached moves root s) (near : IsNear root room t) (known : (less : Bool) → (less ≡ true → Tell root.state.policy) → Along (Tells less whole.hidden root.state.policy) t es) (here : IsWritten f ids xs s) (there : IsWritten f ids xs t) (move : IsMove moves root es) where
  abbrev h : Hidden
  h = whole.hidden

  abbrev p : PolicyState
  p = root.state.policy

  led_s : IsLed shapes root s
  led_s = led_reached moves root room shapes led fits s t es reached near move

  led_t : IsLed shapes root t
  led_t = led_near moves root room shapes led fits s t es reached near move

  matched_by : (less : Bool) → (less ≡ false → f.idle_slices ≡ true) → (less ≡ true → Tell p) → (less ≡ true → f.idle_slices ≡ false) → IsMatched f ids moves sorts root s t es
  matched_by less keeps tells leaves =
      paired root f ids whole.pushes less h stay s t (written_told Ask Tell f ids root shapes whole sizes s t led_s led_t reached.force near.force slices xs few here there less keeps) (IsMatched f ids moves sorts root s t es) so whole.clock
    where
      so : (R : SimState → SimState → Type 0) → AreLinked root f ids AnyKnown R → AreOmitted less h p R s t → IsMatched f ids moves sorts root s t es
      so R linked pair =
          matched_so shapes root f ids (Tells less h p) (AreOmitted less h p R) (omitted_linked f ids less h whole.left_out leaves root p stay R linked) moves sorts root s t es (record {
            pair = pair;
            here = led_s;
            there = led_t;
            none = move_none moves root es move;
            over = over_reached moves root room shapes led fits s t es reached near move;
            fits = fits_near moves root room shapes led fits s t es reached near move;
            known = known less tells;
          }) move

  pub matched : IsMatched f ids moves sorts root s t es
  matched = by_slices f (Tell p) (IsMatched f ids moves sorts root s t es) whole.idle_slices matched_by
