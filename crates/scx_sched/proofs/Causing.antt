-- A policy is ejected for a cause.
use Rattle.std.proofs.Common.{◌≡◌, ℕ, ℤ, ◌+◌, ◌<◌, ◌≤◌, Bool, true, false, nat_lt, if◌then◌else◌, List, [], ◌∷◌, ◌++◌, length, Option, Some, None, is_some, refl, sym, ap, ◌∙◌, subst, arith}
use Rattle.std.proofs.lemmas.Bool.Decides.{nat_tests}
use Rattle.std.proofs.lemmas.List.Quantifiers.{position-Some}
use Rattle.scx_isa_semantics.specs.declared.callbacks.Callback.{Callback}
use Rattle.scx_isa_semantics.specs.declared.callbacks.Callback.TheVariants as callback
use Rattle.scx_isa_semantics.specs.Endings.{Ending}
use Rattle.scx_isa_semantics.proofs.EndedRuns.{run_is}
use Rattle.scx_vm.specs.Arguments.{program_arguments}
use Rattle.scx_vm.specs.Host.{answer_to, after_query}
use Rattle.scx_sched_tasks.specs.Tasks.{no_task}
use Rattle.scx_sched_tasks.specs.Waits.{is_late, is_overdue}
use Rattle.scx_sched_world.specs.declared.eject.Cause.{Cause}
use Rattle.scx_sched_world.specs.declared.eject.Cause.TheVariants as reason
use Rattle.scx_sched_world.specs.declared.eject.Eject.{Eject}
use Rattle.scx_sched_world.specs.declared.eject.Eject.TheVariants as cause
use Rattle.scx_sched_world.specs.declared.faults.Fault.{Fault}
use Rattle.scx_sched_world.specs.declared.faults.Fault.TheVariants.{NoSuchCpu}
use Rattle.scx_sched_world.specs.World.{WorldState, task_at}
use Rattle.scx_sched_world.specs.Tasks.{later}
use Rattle.scx_sched_world.specs.Waits.{first_overdue, IsFirstOverdue}
use Rattle.scx_sched_world.specs.Ejecting.{eject_of}
use Rattle.scx_sched_world.specs.Helpers.{world_functions}
use Rattle.scx_sched_tasks.specs.Waits.{time_since}
use Rattle.scx_sched_policy.specs.Policy.{PolicyState}
use Rattle.scx_sched_machine.specs.Steps.{State, CallMade, Stepped, stays, one_after_other}
use Rattle.scx_sched_machine.specs.Ejecting.{eject}
use Rattle.scx_sched_machine.specs.Callbacks.{call_ending, answer_fault, as_cause, or_cause, cause_of, IsAnswered, AreAnswered}
use Rattle.scx_sched_machine.specs.declared.events.Event.{Event}
use Rattle.scx_sched_machine.specs.declared.events.Event.TheVariants.{Wake, Sleep, Tick, Clock, SetWeight, SetTaskWeight}
use Rattle.scx_sched_machine.specs.Parking.{let_all_go}
use Rattle.scx_sched_machine.specs.Events.{overdue, eject_if_stalled, event_step}
use Rattle.scx_sched_machine.specs.Rounds.{with_rounds}
use Rattle.scx_sched.specs.Causes.{EndsIn, HasFault, Of_helper, Of_answer, HasExit, Of_call, HasReason, IsLast, IsAmong, IsCause, Waited, Went_wrong, Ended, EjectsOnce, clock_in}
use Rattle.scx_sched.specs.Sim.{SimState, refusal, calls_if, calls_of, IsValid}
use Rattle.scx_sched.proofs.Unchanged.{eject_sets}
use Rattle.scx_sched.specs.Ranges.{IsFine}
use Rattle.scx_sched.proofs.Blaming.{IsFaultless, AreFaultless, IsHonest, apart, same_eject, no_rounds, begun_ms, clocked, clock_watched, honest_clocked, honest_unwatched}
use Rattle.scx_sched.proofs.Deciding.{accepted, IsHonestEvent, wake_is_honest, sleep_is_honest, tick_is_honest, weight_is_honest, task_weight_is_honest}
use Rattle.scx_sched.proofs.Lasting.{AreAsLong, long_fire_all}
use Rattle.scx_sched.proofs.Letting.{long_let_all_go}
use Rattle.scx_sched.proofs.Events.{IsFineNow, IsTaken, Wakes, Sleeps, Ticks, Clocks, Weighs, is_taken, fine_events, fine_inside, fine_later, WeighsTask}
use Rattle.scx_sched.proofs.Timely.{not_late}

-- ---- a callback with a fault or an exit

-- of calls that come to an answer the last one does
pub last_answered : (before : List CallMade) (m : CallMade) → AreAnswered (before ++ m ∷ []) → IsAnswered m
last_answered [] m all = all.0
last_answered (c ∷ cs) m all = last_answered cs m all.1

-- what a run comes to is what is computed of the call
pub computes : (m : CallMade) (answer : ℕ) (w : WorldState) → (x : EndsIn m answer w) → record { answer = Some answer; maps = x.maps; outside = w } ≡ call_ending (Some m.program) m.callback m.arguments m.maps m.world
unfolding call_ending
computes m answer w x = run_is (answer_to world_functions) (after_query world_functions) m.callback m.program.code (program_arguments m.arguments) m.maps m.world answer x.steps x.maps w x.run x.in_bound

module _ (m : CallMade) (why : Cause) (i : IsAnswered m) where
  ends : EndsIn m i.answer i.world
  ends = record { steps = i.steps; maps = i.maps; run = i.run; in_bound = i.in_bound }

  of_helper : (why : Cause) → i.world.call.cause ≡ Some why → HasReason m why
  of_helper (reason.Fault f) e = Of_helper i.answer i.world ends e
  of_helper (reason.Exit code) e = Of_call i.answer i.world ends e

  of_answer : (b : Callback) → m.callback ≡ b → i.world.call.cause ≡ None → as_cause (answer_fault b i.world i.answer) ≡ Some why → HasReason m why
  of_answer callback.SelectCpu same none e = go (nat_lt i.answer (length i.world.cpus)) refl e
    where
      wrong : Some (reason.Fault NoSuchCpu) ≡ Some why → reason.Fault NoSuchCpu ≡ why
      wrong x = cc

      go : (b : Bool) → nat_lt i.answer (length i.world.cpus) ≡ b → as_cause (if b then None else Some NoSuchCpu) ≡ Some why → HasReason m why
      go true x e = absurd (cc)
      go false x e = let over : length i.world.cpus ≤ i.answer = grind (arith, nat_tests, x) in subst (λ (x : Cause). HasReason m x) (wrong e) (Of_answer i.answer i.world ends none same over refl)
  of_answer b same none e = absurd (cc)

  of_end : (b : Callback) → m.callback ≡ b → or_cause i.world.call.cause (as_cause (answer_fault b i.world i.answer)) ≡ Some why → HasReason m why
  of_end b same e = go i.world.call.cause refl e
    where
      go : (o : Option Cause) → i.world.call.cause ≡ o → or_cause o (as_cause (answer_fault b i.world i.answer)) ≡ Some why → HasReason m why
      go (Some x) y z = of_helper why (y ∙ z)
      go None y z = of_answer b same y z

  -- what is computed of a call is what its run comes to
  pub has_reason : cause_of m.callback (call_ending (Some m.program) m.callback m.arguments m.maps m.world) ≡ Some why → HasReason m why
  has_reason wrong = of_end m.callback refl (ap (λ (e : Ending WorldState). cause_of m.callback e) (computes m i.answer i.world ends) ∙ wrong)

-- ---- a call without a fault or an exit

right_in : (m : CallMade) (answer : ℕ) (w : WorldState) → EndsIn m answer w → IsFaultless m → or_cause w.call.cause (as_cause (answer_fault m.callback w answer)) ≡ None
right_in m answer w x right = ap (λ (e : Ending WorldState). cause_of m.callback e) (computes m answer w x) ∙ right

no_cause_first : (o r : Option Cause) (x : Cause) → o ≡ Some x → or_cause o r ≡ None → ⊥
no_cause_first (Some y) r x e h = absurd (cc)
no_cause_first None r x e h = absurd (cc)

no_fault_then : (w : WorldState) (answer : ℕ) (o : Option Cause) → o ≡ None → length w.cpus ≤ answer → or_cause o (as_cause (answer_fault callback.SelectCpu w answer)) ≡ None → ⊥
no_fault_then w answer (Some y) e over h = absurd (cc)
no_fault_then w answer None e over h = go (nat_lt answer (length w.cpus)) refl h
  where
    go : (b : Bool) → nat_lt answer (length w.cpus) ≡ b → as_cause (if b then None else Some NoSuchCpu) ≡ None → ⊥
    go true x y = let less : answer < length w.cpus = grind (arith, nat_tests, x) in omega (arith, less, over)
    go false x y = absurd (cc)

has_none : (m : CallMade) (f : Fault) → IsFaultless m → HasFault m f → ⊥
has_none m f right (Of_helper answer w ends e) = no_cause_first w.call.cause (as_cause (answer_fault m.callback w answer)) (reason.Fault f) e (right_in m answer w ends right)
has_none m f right (Of_answer answer w ends none same over is) =
    no_fault_then w answer w.call.cause none over (subst (λ (b : Callback). or_cause w.call.cause (as_cause (answer_fault b w answer)) ≡ None) same (right_in m answer w ends right))

has_no_exit : (m : CallMade) (code : ℤ) → IsFaultless m → HasExit m code → ⊥
has_no_exit m code right (Of_call answer w ends e) = no_cause_first w.call.cause (as_cause (answer_fault m.callback w answer)) (reason.Exit code) e (right_in m answer w ends right)

among_faultless : (before : List CallMade) (m : CallMade) (after : List CallMade) → AreFaultless (before ++ m ∷ after) → IsFaultless m
among_faultless [] m after h = h.0
among_faultless (c ∷ cs) m after h = among_faultless cs m after h.1

-- so none of those has one
none_heard : (calls : List CallMade) (m : CallMade) (f : Fault) → AreFaultless calls → IsAmong m calls → HasFault m f → ⊥
none_heard calls m f right among wrong = has_none m f (among_faultless among.0 m among.1 (subst AreFaultless among.2 right)) wrong

-- nor calls any `exit`
none_obeyed : (calls : List CallMade) (m : CallMade) (code : ℤ) → AreFaultless calls → IsAmong m calls → HasExit m code → ⊥
none_obeyed calls m code right among said = has_no_exit m code (among_faultless among.0 m among.1 (subst AreFaultless among.2 right)) said

-- ---- who waited for too long

late_is : (now limit : ℕ) (o : Option ℕ) → is_late now limit o ≡ true → limit < time_since now o
late_is now limit None e = absurd (cc)
late_is now limit (Some n) e = grind (arith, nat_tests, e)

first_late : (w : WorldState) (limit t : ℕ) → first_overdue w limit ≡ Some t → IsFirstOverdue w limit t
first_late w limit t e =
    let x = position-Some (is_overdue w.clock limit) w.tasks t no_task e in
    record { known = x.0; over = late_is w.clock limit (task_at w t).since x.1; least = λ u l. not_late w.clock limit (task_at w u).since (x.2 u l) }

record IsLate (s : State) (t : ℕ) : Type 0 where
  force : s.world.ejected ≡ None
  first : first_overdue s.world s.policy.timeout_ms ≡ Some t

is_late_in : (s : State) (t : ℕ) → overdue s ≡ Some t → IsLate s t
is_late_in s t e = go s.world.ejected refl e
  where
    go : (o : Option Eject) → s.world.ejected ≡ o → (if is_some o then None else first_overdue s.world s.policy.timeout_ms) ≡ Some t → IsLate s t
    go None x y = record { force = x; first = y }
    go (Some z) x y = absurd (cc)

-- ---- an accepted event

-- the state after it
abbrev after_event : State → ℕ → Event → SimState
after_event s n v = record { state = (event_step s v).state; events = n + 1 }

module _ (s : State) (n : ℕ) where
  abbrev before_event : SimState
  before_event = record { state = s; events = n }

  -- the last call of an event, with its reason, is a cause
  for_reason : (v : Event) (m : CallMade) (why : Cause) → IsLast m (calls_of before_event v) → HasReason m why → IsCause before_event v (eject_of why (clock_in before_event v))
  for_reason v m (reason.Fault f) last has = Went_wrong m f last has
  for_reason v m (reason.Exit code) last has = Ended m code last has

  honest_cause : (v : Event) → clock_in before_event v ≡ s.world.clock → refusal before_event v ≡ None → AreAnswered (event_step s v).calls → IsHonestEvent s v → EjectsOnce before_event v (after_event s n v)
  honest_cause v now ok answered h = record { stays = h.stays; cause = λ x force out. for_fault x force out; heard = λ force m f among wrong. no_fault force m f among wrong; obeyed = λ force m code among said. no_exit force m code among said }
    where
      calls : calls_of before_event v ≡ (event_step s v).calls
      calls = ap (λ o. calls_if o before_event v) ok

      no_fault : (event_step s v).state.world.ejected ≡ None → (m : CallMade) (f : Fault) → IsAmong m (calls_of before_event v) → HasFault m f → ⊥
      no_fault force m f among wrong = none_heard (calls_of before_event v) m f (subst AreFaultless (sym calls) (h.heard force)) among wrong

      no_exit : (event_step s v).state.world.ejected ≡ None → (m : CallMade) (code : ℤ) → IsAmong m (calls_of before_event v) → HasExit m code → ⊥
      no_exit force m code among said = none_obeyed (calls_of before_event v) m code (subst AreFaultless (sym calls) (h.heard force)) among said

      for_fault : (x : Eject) → s.world.ejected ≡ None → (event_step s v).state.world.ejected ≡ Some x → IsCause before_event v x
      for_fault x force out =
          let b = h.blamed x force out in
          let i = last_answered b.last.0 b.call (subst AreAnswered b.last.1 answered) in
          let last : IsLast b.call (calls_of before_event v) = (b.last.0, calls ∙ b.last.1) in
          subst (IsCause before_event v) (ap (λ k. eject_of b.why k) now ∙ sym b.named) (for_reason v b.call b.why last (has_reason b.call b.why i b.wrong))

  -- the clock: a callback as a task is let go, or the watchdog
  clock_cause : refusal before_event Clock ≡ None → IsFineNow (length s.world.tasks) n n s.world → AreAnswered (event_step s Clock).calls → EjectsOnce before_event Clock (after_event s n Clock)
  clock_cause ok fine answered = subst (λ (x : Stepped). AreAnswered (with_rounds x).calls → calls_of before_event Clock ≡ (with_rounds x).calls → EjectsOnce before_event Clock (record { state = (with_rounds x).state; events = n + 1 })) (sym (clock_watched s)) (go (overdue r) refl) answered (ap (λ o. calls_if o before_event Clock) ok)
    where
      many : ℕ
      many = length s.world.tasks

      v : State
      v = begun_ms s

      f : Stepped
      f = clocked s

      r : State
      r = f.state

      honest : IsHonest v f
      honest = honest_clocked s

      -- where the watchdog finds nobody, the rounds follow
      all : Stepped
      all = with_rounds (one_after_other f (stays r))

      honest_all : IsHonest v all
      honest_all = honest_unwatched s

      long : AreAsLong v.world r.world
      long = long_fire_all v.world (let_all_go v).state (long_let_all_go many (IsFine many (n + 1)) (fine_inside many (n + 1)) (fine_events many (n + 1)).let_go n s.world.cpus v (fine_later many n n s.world fine))

      -- who is found then would be found before
      found : (t : ℕ) → first_overdue r.world r.policy.timeout_ms ≡ Some t → IsFirstOverdue (later s.world) s.policy.timeout_ms t
      found t e =
          let limit : r.policy.timeout_ms ≡ s.policy.timeout_ms = ap (λ (p : PolicyState). p.timeout_ms) honest.policy in
          let y = first_late r.world r.policy.timeout_ms t e in
          record { known = omega (arith, y.known, long.1); over = omega (arith, y.over, limit, long.2 t); least = λ u k. omega (arith, y.least u k, limit, long.2 u) }

      go : (o : Option ℕ) → overdue r ≡ o → AreAnswered (with_rounds (one_after_other f (eject_if_stalled o r))).calls → calls_of before_event Clock ≡ (with_rounds (one_after_other f (eject_if_stalled o r))).calls → EjectsOnce before_event Clock (record { state = (with_rounds (one_after_other f (eject_if_stalled o r))).state; events = n + 1 })
      go None e answers calls = record { stays = honest_all.stays; cause = λ x force out. for_fault x force out; heard = λ force m f among wrong. no_fault force m f among wrong; obeyed = λ force m code among said. no_exit force m code among said }
        where
          no_fault : all.state.world.ejected ≡ None → (m : CallMade) (f : Fault) → IsAmong m (calls_of before_event Clock) → HasFault m f → ⊥
          no_fault force m f among wrong = none_heard (calls_of before_event Clock) m f (subst AreFaultless (sym calls) (honest_all.heard force)) among wrong

          no_exit : all.state.world.ejected ≡ None → (m : CallMade) (code : ℤ) → IsAmong m (calls_of before_event Clock) → HasExit m code → ⊥
          no_exit force m code among said = none_obeyed (calls_of before_event Clock) m code (subst AreFaultless (sym calls) (honest_all.heard force)) among said

          for_fault : (x : Eject) → s.world.ejected ≡ None → all.state.world.ejected ≡ Some x → IsCause before_event Clock x
          for_fault x force out =
              let b = honest_all.blamed x force out in
              let i = last_answered b.last.0 b.call (subst AreAnswered b.last.1 answers) in
              subst (IsCause before_event Clock) (sym b.named) (for_reason Clock b.call b.why (b.last.0, calls ∙ b.last.1) (has_reason b.call b.why i b.wrong))
      go (Some t) e answers calls =
          let y = cause.Stall t r.world.clock in
          let late = is_late_in r t e in
          subst (λ (x : Stepped). EjectsOnce before_event Clock (record { state = x.state; events = n + 1 })) (sym (no_rounds (one_after_other f (eject r y)) y (eject_sets r y).1))
          (record {
            stays = λ x out. absurd (apart r.world.ejected x late.force (honest.stays x out));
            heard = λ force. absurd (apart (eject r y).state.world.ejected y force (eject_sets r y).1);
            obeyed = λ force. absurd (apart (eject r y).state.world.ejected y force (eject_sets r y).1);
            cause = λ x force out. subst (IsCause before_event Clock) (ap (λ k. cause.Stall t k) (sym honest.clock) ∙ same_eject (eject r y).state.world.ejected y x (eject_sets r y).1 out) (Waited t refl (found t late.first));
          })

  -- the law
  pub ejects_once : (v : Event) → refusal before_event v ≡ None → IsFineNow (length s.world.tasks) n n s.world → AreAnswered (event_step s v).calls → EjectsOnce before_event v (after_event s n v)
  ejects_once v ok fine answered = go v (is_taken s v (accepted before_event v ok).taken) ok answered
    where
      go : (v : Event) → IsTaken s v → refusal before_event v ≡ None → AreAnswered (event_step s v).calls → EjectsOnce before_event v (after_event s n v)
      go _ (Wakes t within resting) ok answered = honest_cause (Wake t) refl ok answered (wake_is_honest s n fine t)
      go _ (Sleeps t within runnable) ok answered = honest_cause (Sleep t) refl ok answered (sleep_is_honest s n fine t within)
      go _ (Ticks c l) ok answered = honest_cause (Tick c) refl ok answered (tick_is_honest s n fine c l)
      go _ Clocks ok answered = clock_cause ok fine answered
      go _ (Weighs g x) ok answered = honest_cause (SetWeight g x) refl ok answered (weight_is_honest s n fine g x (accepted before_event (SetWeight g x) ok).taken)
      go _ (WeighsTask t x within) ok answered = honest_cause (SetTaskWeight t x) refl ok answered (task_weight_is_honest s n fine t x (accepted before_event (SetTaskWeight t x) ok).taken)

-- of a machine between two events
pub step_cause : (s : State) (n : ℕ) (v : Event) → refusal (record { state = s; events = n }) v ≡ None → IsValid s n → AreAnswered (event_step s v).calls → EjectsOnce (record { state = s; events = n }) v (record { state = (event_step s v).state; events = n + 1 })
step_cause s n v ok h answered = ejects_once s n v ok h.fine answered
