-- By a form that leaves out waits two states with the same words are matched event by event, as long as no task waits too long in the second one.
use Rattle.std.proofs.Common.{◌≡◌, ℕ, zero, suc, ◌+◌, ◌<◌, ◌≤◌, ◌==◌, Bool, true, false, cond, List, [], ◌∷◌, length, map, All, Option, Some, None, refl, sym, ap, ◌∙◌, subst, arith}
use Rattle.std.specs.Prelude.{◌≢◌}
use Rattle.std.proofs.lemmas.Bool.{eqb-true}
use Rattle.std.proofs.lemmas.List.Elements.{All-head, All-tail, All-cons, All-nil, All-weaker}
use Rattle.scx_isa_semantics.specs.declared.host_tables.Field.{Field}
use Rattle.scx_isa_semantics.specs.declared.host_tables.Field.TheVariants.{DsqVtime, RunNs}
use Rattle.scx_isa_semantics.specs.Effects.{Query, Call, Load, Store}
use Rattle.scx_isa_semantics.specs.Machine.{start}
use Rattle.scx_maps.specs.declared.shape.Shape.{Shape}
use Rattle.scx_vm.specs.Programs.{VerifiedProgram}
use Rattle.scx_sched_tasks.specs.declared.task.Task.{Task}
use Rattle.scx_sched_world.specs.declared.eject.Eject.{Eject}
use Rattle.scx_sched_world.specs.declared.eject.Eject.TheVariants as cause
use Rattle.scx_sched_world.specs.declared.faults.Fault as faults
use Rattle.scx_sched_world.specs.Tasks.{with_slice}
use Rattle.scx_sched_world.specs.World.{WorldState}
use Rattle.scx_sched_machine.specs.declared.events.Event.{Event}
use Rattle.scx_sched_machine.specs.declared.events.Event.TheVariants.{Clock}
use Rattle.scx_sched_machine.specs.declared.events.Refused.TheVariants.{RunOver}
use Rattle.scx_sched_machine.specs.Steps.{with_world}
use Rattle.scx_sched_policy.specs.Policy.{PolicyState, program_of}
use Rattle.scx_sched.specs.Sim.{SimState, max_events, refusal, after_event}
use Rattle.scx_explore_findings.specs.declared.finding.Sort.{Sort}
use Rattle.scx_explore_findings.specs.declared.finding.Sort.TheVariants as sort
use Rattle.scx_explore_findings.specs.Findings.{fault_in, stall_in, exit_in}
use Rattle.scx_explore_findings.specs.Asked.{IfAsksAnyhow, AskAnyhow}
use Rattle.scx_explore_findings.specs.Delayed.{delayed_task, delay, delay_machine}
use Rattle.scx_explore_findings.specs.Hidden.{Hidden, hidden_in, all_hidden, with_tasks}
use Rattle.scx_explore_findings.specs.HiddenLaws.{LeavesOut}
use Rattle.scx_explore_findings.specs.HiddenMachines as hidden
use Rattle.scx_explore_findings.specs.HiddenMachines.{hide_machine}
use Rattle.scx_explore_findings.specs.HiddenStates.{late_in}
use Rattle.scx_explore_findings.specs.IdleSlices.{is_idle_of, sliceless_if, without_slices}
use Rattle.scx_explore_findings.specs.Unread.{is_hidden, ReadsNone}
use Rattle.scx_explore_findings.specs.UnreadParts.{AreSame}
use Rattle.scx_explore_findings.specs.WholeForms.{IsWholeBy, HasFew, AreSince, IsLed}
use Rattle.scx_explore_findings.proofs.Clocks.{clock_all}
use Rattle.scx_explore_findings.proofs.EventWalk.{IsWeighing}
use Rattle.scx_explore_findings.proofs.Led.{led_one}
use Rattle.scx_explore_findings.proofs.LeftOut.{omit_machine, parts_alone, parts_same}
use Rattle.scx_explore_findings.proofs.Machines.{refusal_there, Known, after_there, events_dont_depend}
use Rattle.scx_explore_findings.proofs.Near.{none_late_in}
use Rattle.scx_explore_findings.proofs.OwnCalls.{left_out_if}
use Rattle.scx_explore_findings.proofs.Omitting.{Omitted}
use Rattle.scx_explore_findings.proofs.Runs.{asks_any}
use Rattle.scx_explore_findings.proofs.SameMachines.{room_for_one, one_longer}
use Rattle.scx_explore_findings.proofs.SameTold.{resting}
use Rattle.scx_explore_findings.proofs.Stalling.{IsStalled, stalled, unstalled, found_by_clock}
use Rattle.scx_explore_findings.proofs.Tidying.{tidy_after}
use Rattle.scx_explore_states.specs.Words.{most_queues}
use Rattle.scx_explore_states.specs.Written.{IsWritten}
use Rattle.scx_explore_states.specs.declared.form.Form.{Form}
use Rattle.scx_explore_audit.specs.declared.table.Moves.TheVariants.{Events}
use Rattle.scx_explore_audit.specs.Claims.{IsTried, IsFree, AreFree}
use Rattle.scx_explore_audit.specs.Closed.{IsReached, IsNear, IsMatched}
use Rattle.scx_explore_audit.specs.Whole.{HasRoom}
use Rattle.scx_explore_audit.proofs.Wholly.{tried_none, tried_all, has_one, bits_apart, ShowsLess, free_so, IsOf, is_of, AreLinked, AnyKnown, shown_both, shown_hidden, shown_omitted, Tells, Along, AreOmitted, rested_is, AreSameLater, paired, by_slices, written_told, led_reached, led_near, over_reached, fits_near}

-- ---- machines without waits

-- waits alone are hidden
abbrev pub waits_alone : Hidden
waits_alone = record { run_ns = false; vtime = false; waits = true }

-- the machine as if no task waited since any time
abbrev waitless : SimState → SimState
waitless s = hide_machine waits_alone s

field_shown : (f : Field) → is_hidden waits_alone f ≡ false
field_shown RunNs = refl
field_shown DsqVtime = refl
field_shown f = refl

query_shown : (q : Query) → ReadsNone waits_alone q
query_shown (Load t f) = field_shown f
query_shown (Call f a) = tt
query_shown (Store t f n) = tt

-- no program reads waits
waits_unread : (p : PolicyState) → AskAnyhow (ReadsNone waits_alone) p
waits_unread p b = go (program_of p b)
  where
    go : (o : Option VerifiedProgram) → IfAsksAnyhow (ReadsNone waits_alone) b o
    go None = tt
    go (Some q) = λ n a maps. asks_any (ReadsNone waits_alone) query_shown b q.code n 0 (start a maps)

-- waits are hidden for good
twice : (xs : List Task) → all_hidden waits_alone xs ≡ all_hidden waits_alone (all_hidden waits_alone xs)
twice [] = refl
twice (x ∷ xs) = ap (λ (ys : List Task). hidden_in waits_alone x ∷ ys) (twice xs)

waitless_same : (s : SimState) → hidden.AreSame waits_alone s (waitless s)
waitless_same s = ap (λ (xs : List Task). record s { state = with_world s.state (with_tasks s.state.world xs) }) (twice s.state.world.tasks)

-- then no task waits since a time to come
none_since : (c : ℕ) (xs : List Task) → AreSince c (all_hidden waits_alone xs)
none_since c [] u = tt
none_since c (x ∷ xs) zero = tt
none_since c (x ∷ xs) (suc u) = none_since c xs u

-- ---- records

module _ (h : Hidden) (out : h.waits ≡ true) where
  -- what is hidden, but for waits
  abbrev rest : Hidden
  rest = record h { waits = false }

  both_one : (x : Task) → hidden_in h x ≡ hidden_in waits_alone (hidden_in rest x)
  both_one x = ap (λ (b : Bool). hidden_in (record h { waits = b }) x) out

  both_all : (xs : List Task) → all_hidden h xs ≡ all_hidden waits_alone (all_hidden rest xs)
  both_all [] = refl
  both_all (x ∷ xs) = ap (λ (y : Task). y ∷ all_hidden h xs) (both_one x) ∙ ap (λ (ys : List Task). hidden_in waits_alone (hidden_in rest x) ∷ ys) (both_all xs)

  -- of a record that was without waits before
  less_one : (b : Bool) (x : Task) → hidden_in h (sliceless_if b x) ≡ hidden_in rest (sliceless_if b (hidden_in waits_alone x))
  less_one true x = ap (λ (w : Bool). hidden_in (record h { waits = w }) (with_slice x 0)) out
  less_one false x = ap (λ (w : Bool). hidden_in (record h { waits = w }) x) out

  less_all : (p : ℕ → Bool) (xs : List Task) → all_hidden h (without_slices p xs) ≡ all_hidden rest (without_slices p (all_hidden waits_alone xs))
  less_all p [] = refl
  less_all p (x ∷ xs) =
      ap (λ (y : Task). y ∷ all_hidden h (without_slices (λ t. p (suc t)) xs)) (less_one (p 0) x)
      ∙ ap (λ (ys : List Task). hidden_in rest (sliceless_if (p 0) (hidden_in waits_alone x)) ∷ ys) (less_all (λ t. p (suc t)) xs)

  -- and of one that is later
  late_one : (d : ℕ) (b : Bool) (x : Task) → hidden_in h (delayed_task d (sliceless_if b x)) ≡ hidden_in rest (delayed_task d (sliceless_if b (hidden_in waits_alone x)))
  late_one d true x = ap (λ (w : Bool). hidden_in (record h { waits = w }) (delayed_task d (with_slice x 0))) out
  late_one d false x = ap (λ (w : Bool). hidden_in (record h { waits = w }) (delayed_task d x)) out

  late_all : (d : ℕ) (p : ℕ → Bool) (xs : List Task) → all_hidden h (map (delayed_task d) (without_slices p xs)) ≡ all_hidden rest (map (delayed_task d) (without_slices p (all_hidden waits_alone xs)))
  late_all d p [] = refl
  late_all d p (x ∷ xs) =
      ap (λ (y : Task). y ∷ all_hidden h (map (delayed_task d) (without_slices (λ t. p (suc t)) xs))) (late_one d (p 0) x)
      ∙ ap (λ (ys : List Task). hidden_in rest (delayed_task d (sliceless_if (p 0) (hidden_in waits_alone x))) ∷ ys) (late_all d (λ t. p (suc t)) xs)

  -- ---- machines

  module _ (less : Bool) (s : SimState) where
    abbrev w : WorldState
    w = s.state.world

    abbrev v : WorldState
    v = (waitless s).state.world

    less_machine : hide_machine h (resting less s) ≡ hide_machine rest (resting less (waitless s))
    less_machine =
        ap (λ (xs : List Task). record s { state = with_world s.state (with_tasks w xs) })
        (ap (all_hidden h) (rested_is less w) ∙ (less_all (is_idle_of (λ t. less) w) w.tasks ∙ ap (all_hidden rest) (sym (rested_is less v))))

    late_machine : (d : ℕ) → hide_machine h (delay_machine d (resting less s)) ≡ hide_machine rest (delay_machine d (resting less (waitless s)))
    late_machine d =
        ap (λ (xs : List Task). record s { state = with_world s.state (with_tasks (delay d w) xs) })
        (ap (λ (xs : List Task). all_hidden h (map (delayed_task d) xs)) (rested_is less w)
        ∙ (late_all d (is_idle_of (λ t. less) w) w.tasks ∙ ap (λ (xs : List Task). all_hidden rest (map (delayed_task d) xs)) (sym (rested_is less v))))

    -- what is left out with waits
    omit_both : omit_machine (left_out_if less h) s ≡ hide_machine waits_alone (omit_machine (left_out_if less rest) s)
    omit_both = ap (λ (xs : List Task). record s { state = with_world s.state (with_tasks w xs) }) (both_all (without_slices (is_idle_of (λ t. less) w) w.tasks))

    omit_waitless : omit_machine (left_out_if less h) s ≡ omit_machine (left_out_if less rest) (waitless s)
    omit_waitless = ap (λ (xs : List Task). record s { state = with_world s.state (with_tasks w xs) }) (less_all (is_idle_of (λ t. less) w) w.tasks)

  -- two machines that are told of each other are so without waits
  told_waitless : (root : SimState) (f : Form) (less : Bool) (s t : SimState) → AreSameLater root f less h s t → AreSameLater root f less rest (waitless s) (waitless t)
  told_waitless root f less s t told = record {
    here = record { policy = told.here.policy; same = record { groups = told.here.same.groups; rules = told.here.same.rules }; stamped = told.here.stamped };
    there = record { policy = told.there.policy; same = record { groups = told.there.same.groups; rules = told.there.same.rules }; stamped = told.there.stamped };
    clock = told.clock;
    quota = told.quota;
    on = λ d later. subst (λ (x : SimState). AreSame (hide_machine rest (delay_machine d (resting less (waitless s)))) x) (less_machine less t) (subst (λ (x : SimState). AreSame x (hide_machine h (resting less t))) (late_machine less s d) (told.on d later));
    back = λ d later. subst (λ (x : SimState). AreSame (hide_machine rest (delay_machine d (resting less (waitless t)))) x) (less_machine less s) (subst (λ (x : SimState). AreSame x (hide_machine h (resting less s))) (late_machine less t d) (told.back d later));
    ticks = told.ticks;
    ticks_back = told.ticks_back;
  }

-- ---- an event

-- whatever the second machine doesn't show after the event the first one doesn't show, and words of the second one then are
-- words of the first one
pub record Goes (f : Form) (ids : List ℕ) (sorts : List Sort) (s t : SimState) (e : Event) : Type 0 where
  pub taken : refusal t e ≡ None
  pub free : AreFree sorts (after_event t e) e → AreFree sorts (after_event s e) e
  pub force : (after_event s e).state.world.ejected ≡ None → (after_event t e).state.world.ejected ≡ None
  pub written : (after_event s e).state.world.ejected ≡ None → (xs : List ℕ) → IsWritten f ids xs (after_event t e) → IsWritten f ids xs (after_event s e)

-- then it matches itself
matched_one : (f : Form) (ids : List ℕ) (sorts : List Sort) (root s t : SimState) (e : Event) → IsTried root e → (refusal s e ≡ None → Goes f ids sorts s t e) → IsMatched f ids Events sorts root s t (e ∷ [])
matched_one f ids sorts root s t e tried goes = record {
  other = e ∷ [];
  move = (e, tried, refl);
  free = λ none fine. let g = goes fine in (g.free (none g.taken).0, λ force. tt);
  there = λ all. let g = goes all.0 in (g.taken, g.force all.1, tt);
  written = λ xs all is. (goes all.0).written all.1 xs is;
}

-- by an event that ejects the policy for a task that waited too long nothing else is shown
free_if_stalled : (sorts : List Sort) (s t : SimState) (e : Event) (u : ℕ) → IsStalled s e u → All (λ x. x ≢ sort.Stall) sorts → AreFree sorts t e → AreFree sorts (after_event s e) e
free_if_stalled [] s t e u is others free = All-nil (λ x. IsFree x (after_event s e) e)
free_if_stalled (x ∷ sorts) s t e u is others free =
    All-cons (λ y. IsFree y (after_event s e) e) x sorts
    (one x (All-head (λ y. y ≢ sort.Stall) x sorts others) (All-head (λ y. IsFree y t e) x sorts free))
    (free_if_stalled sorts s t e u is (All-tail (λ y. y ≢ sort.Stall) x sorts others) (All-tail (λ y. IsFree y t e) x sorts free))
  where
    no_fault : (o : Option faults.Fault) → o ≡ None → (g : faults.Fault) → o ≡ Some g → ⊥
    no_fault o none g some = absurd (cc)

    out_of_force : (o : Option Eject) → o ≡ Some (cause.Stall u is.clock) → o ≡ None → ⊥
    out_of_force o some none = absurd (cc)

    one : (y : Sort) → y ≢ sort.Stall → IsFree y t e → IsFree y (after_event s e) e
    one (sort.Fault g) other k = λ shown. no_fault (fault_in (after_event s e).state.world.ejected) (ap fault_in is.ejected) g shown
    one sort.Stall other k = absurd (other refl)
    one sort.Idle other k = λ force. absurd (out_of_force (after_event s e).state.world.ejected is.ejected force)
    one sort.Overtaken other k = k
    one sort.Exit other k = ap exit_in is.ejected

-- a machine that has room takes the clock's event
clock_taken : (t : SimState) (e : Event) → e ≡ Clock → t.events < max_events → refusal t e ≡ None
clock_taken t e is room = subst (λ (v : Event). refusal t v ≡ None) (sym is) (ap (λ (b : Bool). cond b (Some RunOver) None) (go (t.events == max_events) refl))
  where
    go : (b : Bool) → (t.events == max_events) ≡ b → b ≡ false
    go true q = let same = eqb-true t.events max_events q in absurd (omega (arith, same, room))
    go false q = refl

-- ---- an event of two machines that are told of each other

module _ (Ask : (Query → Type 0) → PolicyState → Type 0) (Tell : PolicyState → Type 0) (f : Form) (ids : List ℕ) (sorts : List Sort) (root : SimState) (shapes : List Shape) (whole : IsWholeBy Ask Tell root.state.policy f) (out : whole.hidden.waits ≡ true) (others : All (λ x. x ≢ sort.Stall) sorts) (s t : SimState) (e : Event) (unweighing : IsWeighing e → ⊥) (led_s : IsLed shapes root s) (led_t : IsLed shapes root t) (over : s.events ≤ max_events) (room_t : t.events < max_events) (force_t : t.state.world.ejected ≡ None) (early : t.state.world.clock < t.state.policy.timeout_ms) (known : (less : Bool) → (less ≡ true → Tell root.state.policy) → Along (Tells less whole.hidden root.state.policy) t (e ∷ [])) (told : (less : Bool) → (less ≡ false → f.idle_slices ≡ true) → AreSameLater root f less whole.hidden s t) where
  abbrev h : Hidden
  h = whole.hidden

  abbrev p : PolicyState
  p = root.state.policy

  abbrev a : SimState
  a = waitless s

  -- no task waits too long in the second one
  late_t : late_in t.state e ≡ None
  late_t = none_late_in t.state e early

  module _ (fine : refusal s e ≡ None) where
    abbrev s1 : SimState
    s1 = after_event s e

    abbrev t1 : SimState
    t1 = after_event t e

    abbrev a1 : SimState
    a1 = after_event a e

    room_s : s.events < max_events
    room_s = has_one s e over fine

    fine_a : refusal a e ≡ None
    fine_a = sym (refusal_there (parts_alone waits_alone) s a (parts_same waits_alone s a (waitless_same s)) e) ∙ fine

    of_s : IsOf root s1
    of_s = is_of shapes root s1 (led_one shapes root s e fine unweighing led_s)

    module _ (less : Bool) (tells : less ≡ true → Tell p) (leaves : less ≡ true → f.idle_slices ≡ false) (R : SimState → SimState → Type 0) (linked : AreLinked root f ids AnyKnown R) (pair : AreOmitted less (rest h out) p R a (waitless t)) where
      -- the machine between
      abbrev x : SimState
      x = pair.one

      abbrev o : Omitted
      o = left_out_if less h

      as_t : omit_machine o x ≡ omit_machine o t
      as_t =
          omit_both h out less x
          ∙ (ap (hide_machine waits_alone) (pair.there ∙ (sym (omit_waitless h out less t) ∙ omit_both h out less t))
          ∙ (sym (waitless_same (omit_machine (left_out_if less (rest h out)) t)) ∙ sym (omit_both h out less t)))

      room_x : x.events < max_events
      room_x = subst (λ (n : ℕ). n < max_events) (sym (ap (λ (y : SimState). y.events) as_t)) room_t

      fine_t : refusal t e ≡ None
      fine_t = sym (linked.refused a x e pair.near room_s room_x ∙ refusal_there o x t as_t e) ∙ fine_a

      late_x : late_in x.state e ≡ None
      late_x = none_late_in x.state e (subst (λ (y : SimState). y.state.world.clock < y.state.policy.timeout_ms) (sym as_t) early)

      known_t : Known o t x (sym as_t) e
      known_t = subst (λ (q : PolicyState). Tells less h q t e) (sym led_t.policy) (known less tells fine_t).0

      after_x : omit_machine o (after_event x e) ≡ omit_machine o t1
      after_x = sym (after_there o t x (sym as_t) e known_t (λ k. late_t ∙ sym late_x))

      of_x : IsOf root (after_event x e)
      of_x =
          let of_t = is_of shapes root t1 (led_one shapes root t e fine_t unweighing led_t) in
          record { groups = ap (λ (y : SimState). y.state.world.tree.groups) after_x ∙ of_t.groups; rules = ap (λ (y : SimState). y.state.world.rules) after_x ∙ of_t.rules }

      -- without waits the second one shows what the first one does
      shows_on : IsOf root a1 → ShowsLess f ids a1 t1
      shows_on of_a =
          shown_both f ids a1 (after_event x e) t1 (linked.shows a1 (after_event x e) (linked.after a x e pair.near tt of_a of_x room_s room_x)) (shown_omitted f ids less h whole.left_out leaves (after_event x e) t1 after_x)

      -- so no task has waited too long in the first one without waits
      late_a : late_in a.state e ≡ None
      late_a = go (late_in a.state e) refl
        where
          found : (u : ℕ) → Some u ≡ None → ⊥
          found u is = absurd (cc)

          go : (q : Option ℕ) → late_in a.state e ≡ q → late_in a.state e ≡ None
          go None is = is
          go (Some u) is =
              let st = stalled a e u is fine_a in
              let tidy = tidy_after root.state.world.tree a e unweighing (none_since s.state.world.clock s.state.world.tasks, led_s.tidy.1) in
              let shows = shows_on (record { groups = sym tidy.1.0.0; rules = st.rules ∙ led_s.rules }) in
              let none = unstalled t e (found_by_clock a.state e u is) fine_t late_t force_t in
              absurd (found u (sym (ap stall_in st.ejected) ∙ (shows.stalls ∙ none)))

      goes : late_in s.state e ≡ None → Goes f ids sorts s t e
      goes late_s =
          let like = events_dont_depend waits_alone s a e (waits_unread s.state.policy) (waitless_same s) (λ k. late_s ∙ sym late_a) in
          let of_a : IsOf root a1 = record { groups = sym (ap (λ (y : SimState). y.state.world.tree.groups) like.after) ∙ of_s.groups; rules = sym (ap (λ (y : SimState). y.state.world.rules) like.after) ∙ of_s.rules } in
          let leaves_waits : LeavesOut f waits_alone = record { run_ns = λ k. absurd (bits_apart false refl k); vtime = λ k. absurd (bits_apart false refl k); waits = λ k. whole.left_out.waits out } in
          let less_shown = shown_both f ids s1 a1 t1 (shown_hidden f ids less waits_alone leaves_waits leaves s1 a1 like.after) (shows_on of_a) in
          record {
            taken = fine_t;
            free = All-weaker (λ y. IsFree y t1 e) (λ y. IsFree y s1 e) (free_so f ids s1 t1 less_shown e) sorts;
            force = less_shown.force;
            written = λ force ys is. less_shown.written ys is;
          }

    -- whether or not a task has waited too long in the first one
    pub goes_either : Goes f ids sorts s t e
    goes_either = go (late_in s.state e) refl
      where
        out_of_force : {X : Type 0} (q : Option Eject) (y : Eject) → q ≡ Some y → q ≡ None → X
        out_of_force q y some none = absurd (cc)

        go : (q : Option ℕ) → late_in s.state e ≡ q → Goes f ids sorts s t e
        go None late =
            by_slices f (Tell p) (Goes f ids sorts s t e) whole.idle_slices
            (λ less keeps tells leaves.
            paired root f ids whole.pushes less (rest h out) refl a (waitless t)
            (told_waitless h out root f less s t (told less keeps)) (Goes f ids sorts s t e)
            (λ R linked pair. goes less tells leaves R linked pair late) whole.clock)
        go (Some u) late =
            let st = stalled s e u late fine in
            record {
              taken = clock_taken t e (found_by_clock s.state e u late) room_t;
              free = free_if_stalled sorts s t1 e u st others;
              force = λ force. out_of_force s1.state.world.ejected (cause.Stall u st.clock) st.ejected force;
              written = λ force. out_of_force s1.state.world.ejected (cause.Stall u st.clock) st.ejected force;
            }

-- ---- and of two that are written as the same words

module _ (Ask : (Query → Type 0) → PolicyState → Type 0) (Tell : PolicyState → Type 0) (f : Form) (ids : List ℕ) (sorts : List Sort) (root : SimState) (room : ℕ) (shapes : List Shape) (whole : IsWholeBy Ask Tell root.state.policy f) (out : whole.hidden.waits ≡ true) (slices : f.slices ≡ true) (sizes : HasFew root) (led : IsLed shapes root root) (few : length ids ≤ most_queues) (fits : HasRoom Events root room) (brief : root.state.world.clock + room ≤ root.state.policy.timeout_ms) (others : All (λ x. x ≢ sort.Stall) sorts) (xs : List ℕ) (s t : SimState) (e : Event) (reached : IsReached Events root s) (near : IsNear root room t) (known : (less : Bool) → (less ≡ true → Tell root.state.policy) → Along (Tells less whole.hidden root.state.policy) t (e ∷ [])) (here : IsWritten f ids xs s) (there : IsWritten f ids xs t) (tried : IsTried root e) where
  led_s : IsLed shapes root s
  led_s = led_reached Events root room shapes led fits s t (e ∷ []) reached near (e, tried, refl)

  led_t : IsLed shapes root t
  led_t = led_near Events root room shapes led fits s t (e ∷ []) reached near (e, tried, refl)

  room_t : t.events < max_events
  room_t = room_for_one t.events 0 max_events (one_longer e [] t.events max_events (fits_near Events root room shapes led fits s t (e ∷ []) reached near (e, tried, refl)))

  early : t.state.world.clock < t.state.policy.timeout_ms
  early =
      let grown : t.state.world.clock ≤ root.state.world.clock + length near.events =
      subst (λ (x : SimState). x.state.world.clock ≤ root.state.world.clock + length near.events) (sym near.state) (clock_all shapes root root near.events near.accepted (tried_all root near.events near.tried) led) in
      let limit : t.state.policy.timeout_ms ≡ root.state.policy.timeout_ms = ap (λ (q : PolicyState). q.timeout_ms) led_t.policy in
      so t.state.world.clock root.state.world.clock (length near.events) room t.state.policy.timeout_ms root.state.policy.timeout_ms grown near.few brief limit
    where
      so : (c d n r k m : ℕ) → c ≤ d + n → n < r → d + r ≤ m → k ≡ m → c < k
      so c d n r k m x y z same = omega (arith, x, y, z, same)

  -- the event is matched by itself
  pub matched_event : IsMatched f ids Events sorts root s t (e ∷ [])
  matched_event =
      matched_one f ids sorts root s t e tried
      (goes_either Ask Tell f ids sorts root shapes whole out others s t e (tried_none root e tried) led_s led_t (over_reached Events root room shapes led fits s t (e ∷ []) reached near (e, tried, refl)) room_t near.force early known
      (written_told Ask Tell f ids root shapes whole sizes s t led_s led_t reached.force near.force slices xs few here there))
