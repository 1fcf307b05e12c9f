-- What an event does is allowed, and nothing else is.
use Rattle.std.proofs.Common.{◌≡◌, ℕ, zero, suc, ◌<◌, cond, Bool, true, false, not, ◌==◌, ◌&&◌, ◌⊎◌, inl, inr, if◌then◌else◌, [], ◌∷◌, Option, Some, None, is_some, is_none, refl, sym, ◌∙◌, ap, subst, arith, length, nat_lt, nat_le}
use Rattle.std.proofs.lemmas.Bool.{cases_eq, eq-eqb, ne_eqb, and_from, and_right, false_from_ne_true}
use Rattle.std.proofs.lemmas.Bool.Decides.{nat_tests}
use Rattle.scx_dsq.specs.Queues.{len_of, front_of, behind_of}
use Rattle.scx_weights.specs.Hierarchy.{Hierarchy, with_weight, with_own_weight}
use Rattle.scx_weights.specs.declared.error.TreeError.{TreeError}
use Rattle.scx_weights.specs.declared.error.TreeError.TheVariants.{UnknownTask, OutOfRange}
use Rattle.scx_weights.specs.Refusals.{max_weight, is_outside, weight_fault}
use Rattle.scx_isa_semantics.specs.declared.callbacks.Callback.TheVariants as callback
use Rattle.scx_sched_world.specs.declared.eject.Eject.{Eject}
use Rattle.scx_sched_world.specs.declared.eject.Eject.TheVariants as cause
use Rattle.scx_sched_world.specs.declared.eject.Cause.{Cause}
use Rattle.scx_sched_world.specs.declared.notes.What.TheVariants as note
use Rattle.scx_sched_world.specs.Ids.{parked_queue}
use Rattle.scx_sched_world.specs.World.{WorldState, are_linux, is_throttled, with_tree, task_at, waits, running, cpu_of, is_idle, may_run, first_home, has_one_cpu, choice, default_choice, after_claim, note_now, at_callback}
use Rattle.scx_sched_world.specs.Tasks.{homed, to_local, let_go, after_reweigh, after_own_weight}
use Rattle.scx_sched_world.specs.Waits.{first_overdue}
use Rattle.scx_sched_machine.specs.declared.events.Event.TheVariants.{Wake, Sleep, Tick, Clock, SetWeight, SetTaskWeight}
use Rattle.scx_sched_world.specs.Helpers.{with_insert}
use Rattle.scx_sched_machine.specs.Steps.{State, Stepped, with_world, stays, after, one_after_other, is_by_linux, kicked_if_idle}
use Rattle.scx_sched_machine.specs.Ejecting.{ejected_for}
use Rattle.scx_sched_machine.specs.Callbacks.{call_ending, after_callback, cause_of, unless_ejected, acting, call_back, call_by_linux, answered_by, task_cpu_and_0, task_and_number}
use Rattle.scx_sched_machine.specs.Put.{enters, put}
use Rattle.scx_sched_machine.specs.Parking.{park, let_go_one, let_go_from, let_all_go}
use Rattle.scx_sched_machine.specs.Cycle.{cycle}
use Rattle.scx_sched_machine.specs.declared.events.Refused.TheVariants.{UnknownGroup, BadWeight}
use Rattle.scx_sched_machine.specs.declared.events.Event.{Event}
use Rattle.scx_sched_machine.specs.Rounds.{with_rounds}
use Rattle.scx_sched_machine.specs.Events.{refusal, cpu_or_home, answered_cpu, target, insert_or_put, wake_target, settle, inserted_by_choice, chosen, ask_target, asks_target, settle_at_home, select, comes_to, while_in_force, told_runnable, from_waker, wake, told_of_sleep, falls_asleep, looks_after_sleep, leaves_cpu, leaves_queue, sleep_from_cpu, sleep_from_queue, sleep_from, sleep, throttle, ends_slices, expire, use_up, tick_heard, count_down, tick_idle, tick_of, tick, overdue, eject_if_stalled, watch, timers_and_watchdog, clock, restore_flag, change_flags, takes_weight, changes_weight, reweigh_running, reweigh_waiting, reweigh_off_cpu, reweigh_at, reweigh_by_linux, reweigh, own_step}
use Rattle.scx_sched_machine.specs.Firing.{fire_all}
use Rattle.scx_laws.specs.Custody.{LeavesQueue}
use Rattle.scx_laws.specs.Cycles.{noting, silent, parking}
use Rattle.scx_vm.specs.Programs.{VerifiedProgram}
use Rattle.scx_sched_world.specs.declared.call.Insert.{Insert}
use Rattle.scx_laws.specs.Events.{after_waking, select_called, select_answered, IsTarget, Is_ejected, NoCallback, Named, NamedOutside, InsertsByChoice, AsByPlain, HasCallback, NoneChosen, IsChosen, Selects, Asks_by_plain, Asks_of_several, Is_only_one, TellsRunnable, TellsNobody, TellsPolicy, TellsLast, Settles, WasInserted, WasPut, is_woken, Rouses, IdleTarget, BusyTarget, ByLinux, Wakes, asleep, FallsAsleep, Sleeps, FromQueue, FromCpu, ran_on, charged, UsesUp, IsThrottled, RunsOn, RunsOut, RunsToTick, Ticks, NobodyRuns, SleepsOn, Runs, after_clock, LetsGo, Enough, NoMore, StaysParked, IsLetGo, LetsAllGo, Watches, Is_out, In_time, Too_late, Ages, SetsWeight, IsSet, HasNoHome, IsOutside, TakesWeight, ChangesWeight, Reweighs, WhileItRuns, WhileItWaits, WhileItRests, on_first_cpu, Weighs, Weighs_by_plain, Weighs_by_linux, Does}
use Rattle.scx_laws.specs.Differences.{EndsSlices}
use Rattle.scx_laws.specs.Helpers.{IsChoice, with_claim, MakesClaim}
use Rattle.scx_laws.specs.Allowing.{RulesAllowEvents, RulesAllowEventsOnly}
use Rattle.scx_laws.specs.BoundTasks.{HasOneCpu}
use Rattle.scx_laws.proofs.BindingTasks.{allowed_is, allowed_of, outside_is, outside_of, is_home, only_home_of, one_is, one_of}
use Rattle.scx_laws.proofs.PickingIdle.{is_choice, only_choice, is_default, only_default, only_claims}
use Rattle.scx_laws.proofs.Differing.{below, not_so, homes, only_homes, tells_waker, only_tells_waker, calls_if_there, only_calls_if_there, hears, only_hears, ends_is, ends_of, tells_sleep, only_tells_sleep, looks_if_idle, only_looks_if_idle}
use Rattle.scx_laws.proofs.Departing.{departs, only_departs}
use Rattle.scx_laws.proofs.Ringing.{fires_every, only_fires_every}
use Rattle.scx_laws.proofs.Refusing.{good, bad, is_weight}
use Rattle.scx_laws.proofs.Rounding.{is_followed, only_followed}
use Rattle.scx_laws.proofs.Ejecting.{ejects, only_ejects, no_cause, NamesCpu, names_cpu}
use Rattle.scx_laws.proofs.Waiting.{is_first, nobody_late, only_first, only_nobody}
use Rattle.scx_laws.proofs.Cycling.{puts, only_puts, leaves_now, only_leaves_now, stop_heard, hears_stop, only_hears_stop, run_heard, hears_run, only_hears_run, cycles, only_cycles}

-- ---- wake

settles : (s : State) (t c : ℕ) (i : Option Insert) → Settles s t c i (insert_or_put i s t c)
unfolding enters
settles s t c None = WasPut refl (puts s t c 1)
settles s t c (Some x) = WasInserted x refl refl

only_settles : (s : State) (t c : ℕ) (i : Option Insert) (r : Stepped) → Settles s t c i r → r ≡ insert_or_put i s t c
unfolding enters
only_settles s t c i r (WasPut e h) = only_puts s t c 1 r h ∙ ap (λ (o : Option Insert). insert_or_put o s t c) (sym e)
only_settles s t c i r (WasInserted x e k) = k ∙ ap (λ (o : Option Insert). insert_or_put o s t c) (sym e)

abbrev target_of : State → ℕ → Option ℕ → ℕ
target_of s t a = target (acting s callback.SelectCpu) s.world t a

-- a processor, or, where the task may not run on it, the lowest one on which it may
abbrev home_or : WorldState → ℕ → ℕ → Bool → ℕ
home_or w t n b = if b then n else first_home w t

abbrev answered_as : WorldState → ℕ → ℕ → Bool → ℕ
answered_as w t n b = if b then cpu_or_home w t n else default_choice w t

abbrev target_as : State → ℕ → Option Eject → Option VerifiedProgram → Option ℕ → ℕ
target_as s t y p a = target (unless_ejected y p) s.world t a

-- where the policy is in force after select_cpu, that answered a processor
selects : (s : State) (t : ℕ) → (select_called s t).state.world.ejected ≡ None → NamesCpu (length (select_called s t).state.world.cpus) (select_answered s t)
unfolding call_back answered_by
selects s t out =
    let d = (task_at s.world t).prev_cpu in
    let e = call_ending (acting s callback.SelectCpu) callback.SelectCpu (task_cpu_and_0 t d) s.maps (at_callback s.world callback.SelectCpu t d) in
    let none = no_cause (cause_of callback.SelectCpu e) (after_callback s.policy e) out in
    let h = names_cpu e none in
    (h.0, h.1, subst (λ (f : Option Cause). h.0 < length (ejected_for f (after_callback s.policy e)).state.world.cpus) (sym none) h.2)

is_target : (s : State) (t : ℕ) (a : Option ℕ) → (s.world.ejected ≡ None → NamesCpu (length s.world.cpus) a) → IsTarget s t a (target_of s t a)
is_target s t a names = go s.world.ejected refl s.policy.callbacks.select_cpu refl
  where
    at : (p : VerifiedProgram) → s.world.ejected ≡ None → s.policy.callbacks.select_cpu ≡ Some p → NamesCpu (length s.world.cpus) a → IsTarget s t a (answered_cpu s.world t a)
    at p d e (n, x, l) =
        subst (λ (o : Option ℕ). IsTarget s t a (answered_cpu s.world t o)) (sym x)
        (subst (λ b. IsTarget s t a (answered_as s.world t n b)) (sym (below n (length s.world.cpus) l)) (named (may_run s.world t n) refl))
      where
        named : (b : Bool) → may_run s.world t n ≡ b → IsTarget s t a (home_or s.world t n b)
        named true y = Named p d e x l (allowed_is s.world t n y)
        named false y = NamedOutside p n d e x l (outside_is s.world t n y) (is_home s.world t)

    go : (y : Option Eject) → s.world.ejected ≡ y → (p : Option VerifiedProgram) → s.policy.callbacks.select_cpu ≡ p → IsTarget s t a (target_as s t y p a)
    go (Some y) d p e = Is_ejected y d (is_default s.world t)
    go None d None e = NoCallback d e (is_default s.world t)
    go None d (Some p) e = at p d e (names d)

target_at : (s : State) (t : ℕ) (y : Option Eject) (p : Option VerifiedProgram) (o a : Option ℕ) → s.world.ejected ≡ y → s.policy.callbacks.select_cpu ≡ p → a ≡ o → target_as s t y p o ≡ target_of s t a
target_at s t y p o a d e x =
    ap (λ k. target_as s t y p k) (sym x) ∙ ap (λ k. target_as s t y k a) (sym e) ∙ ap (λ k. target_as s t k s.policy.callbacks.select_cpu a) (sym d)

only_target : (s : State) (t : ℕ) (a : Option ℕ) (c : ℕ) → IsTarget s t a c → c ≡ target_of s t a
only_target s t a c (Is_ejected y d h) = only_default s.world t c h ∙ target_at s t (Some y) s.policy.callbacks.select_cpu a a d refl refl
only_target s t a c (NoCallback d e h) = only_default s.world t c h ∙ target_at s t None None a a d e refl
only_target s t a c (Named p d e x l h) =
    ap (λ b. home_or s.world t c b) (sym (allowed_of s.world t c h)) ∙ ap (λ b. answered_as s.world t c b) (sym (below c (length s.world.cpus) l)) ∙ target_at s t None (Some p) (Some c) a d e x
only_target s t a c (NamedOutside p n d e x l o h) =
    only_home_of s.world t c h ∙ ap (λ b. home_or s.world t n b) (sym (outside_of s.world t n o)) ∙ ap (λ b. answered_as s.world t n b) (sym (below n (length s.world.cpus) l))
    ∙ target_at s t None (Some p) (Some n) a d e x

abbrev wake_note : State → ℕ → Stepped → Stepped
wake_note s t r = after (note_now s.world (note.Wake t) ∷ []) r

-- ---- the default choice

abbrev chosen_by : State → ℕ → Bool → Option ℕ → State
chosen_by s t b o = with_world s (if b then inserted_by_choice (after_claim s.world o) o else s.world)

-- a policy that is ejected goes by plain rules
out_is_plain : (s : State) (x : Eject) → s.world.ejected ≡ Some x → is_by_linux s ≡ false
out_is_plain s x e = and_right (are_linux s.world.rules) (is_none s.world.ejected) (ap (λ o. is_none o) e)

chosen_plain : (s : State) (t : ℕ) → is_by_linux s ≡ false → chosen_by s t (is_by_linux s) (choice s.world t) ≡ s
chosen_plain s t e = ap (λ b. chosen_by s t b (choice s.world t)) e

chosen_none : (s : State) (t : ℕ) (b : Bool) → choice s.world t ≡ None → chosen_by s t b (choice s.world t) ≡ s
chosen_none s t true e = ap (λ o. chosen_by s t true o) e
chosen_none s t false e = refl

chosen_some : (s : State) (t c : ℕ) → is_by_linux s ≡ true → choice s.world t ≡ Some c → with_world s (with_insert (with_claim s.world c) (to_local c)) ≡ chosen_by s t (is_by_linux s) (choice s.world t)
chosen_some s t c lin e =
    ap (λ w. with_world s (with_insert w (to_local c))) (only_claims s.world c (with_claim s.world c) (MakesClaim lin refl)) ∙ ap (λ o. chosen_by s t true o) (sym e)
    ∙ ap (λ b. chosen_by s t b (choice s.world t)) (sym lin)

abbrev chosen_at : State → ℕ → Option Eject → Option VerifiedProgram → State
chosen_at s t x p = chosen (unless_ejected x p) s t

inserts_by_choice : (s : State) (t : ℕ) → InsertsByChoice s t (chosen (acting s callback.SelectCpu) s t)
inserts_by_choice s t = go s.world.ejected refl s.policy.callbacks.select_cpu refl
  where
    linux : s.policy.callbacks.select_cpu ≡ None → is_by_linux s ≡ true → (o : Option ℕ) → choice s.world t ≡ o → IsChoice s.world t o → InsertsByChoice s t (chosen_by s t (is_by_linux s) (choice s.world t))
    linux e lin None x h = NoneChosen e h (chosen_none s t (is_by_linux s) x)
    linux e lin (Some c) x h = IsChosen c lin e h (sym (chosen_some s t c lin x))

    by : s.policy.callbacks.select_cpu ≡ None → (b : Bool) → is_by_linux s ≡ b → InsertsByChoice s t (chosen_by s t (is_by_linux s) (choice s.world t))
    by e false lin = AsByPlain lin (chosen_plain s t lin)
    by e true lin = linux e lin (choice s.world t) refl (is_choice s.world t)

    go : (x : Option Eject) → s.world.ejected ≡ x → (p : Option VerifiedProgram) → s.policy.callbacks.select_cpu ≡ p → InsertsByChoice s t (chosen_at s t x p)
    go (Some x) d p e = AsByPlain (out_is_plain s x d) (chosen_plain s t (out_is_plain s x d))
    go None d (Some p) e = HasCallback p e refl
    go None d None e = by e (is_by_linux s) refl

chosen_is : (s : State) (t : ℕ) (x : Option Eject) (p : Option VerifiedProgram) → s.world.ejected ≡ x → s.policy.callbacks.select_cpu ≡ p → chosen_at s t x p ≡ chosen (acting s callback.SelectCpu) s t
chosen_is s t x p d e = ap (λ y. chosen_at s t x y) (sym e) ∙ ap (λ y. chosen_at s t y s.policy.callbacks.select_cpu) (sym d)

only_inserts_by_choice : (s : State) (t : ℕ) (v : State) → InsertsByChoice s t v → v ≡ chosen (acting s callback.SelectCpu) s t
only_inserts_by_choice s t v h = go s.world.ejected refl h
  where
    plain : (a : Option VerifiedProgram) → is_by_linux s ≡ false → s ≡ chosen a s t
    plain None e = sym (chosen_plain s t e)
    plain (Some p) e = refl

    go : (x : Option Eject) → s.world.ejected ≡ x → InsertsByChoice s t v → v ≡ chosen (acting s callback.SelectCpu) s t
    go x d (AsByPlain e k) = k ∙ plain (acting s callback.SelectCpu) e
    go None d (HasCallback p e k) = k ∙ chosen_is s t None (Some p) d e
    go (Some x) d (HasCallback p e k) = k ∙ plain (acting s callback.SelectCpu) (out_is_plain s x d)
    go None d (NoneChosen e h k) = k ∙ sym (chosen_none s t (is_by_linux s) (sym (only_choice s.world t None h))) ∙ chosen_is s t None None d e
    go (Some x) d (NoneChosen e h k) = k ∙ plain (acting s callback.SelectCpu) (out_is_plain s x d)
    go None d (IsChosen c lin e h k) = k ∙ chosen_some s t c lin (sym (only_choice s.world t (Some c) h)) ∙ chosen_is s t None None d e
    go (Some x) d (IsChosen c lin e h k) = absurd (not_so (is_by_linux s) (out_is_plain s x d) lin)

-- ---- the target

abbrev aimed : State → ℕ → ℕ
aimed s t = target_of (select_called s t).state t (select_answered s t)

-- the task is settled, once its target was found
abbrev settling : Stepped → ℕ → ℕ → Stepped
settling r t c = one_after_other r (settle r.state t c)

abbrev asked : State → ℕ → State → Stepped
asked s t v = record (select_called s t) { state = v }

abbrev asked_so : State → ℕ → Stepped
asked_so s t = asked s t (chosen (acting (select_called s t).state callback.SelectCpu) (select_called s t).state t)

ask_is : (s : State) (t : ℕ) → settling (asked_so s t) t (aimed s t) ≡ ask_target s t
unfolding ask_target
ask_is s t = refl

abbrev only_at : State → ℕ → ℕ → Stepped
only_at s t c = silent s (at_callback s.world callback.SelectCpu t c)

abbrev selected_as : State → ℕ → Bool → Stepped
selected_as s t b = if b then ask_target s t else settling (only_at s t (first_home s.world t)) t (first_home s.world t)

selected_is : (s : State) (t : ℕ) (b : Bool) → asks_target s t ≡ b → selected_as s t b ≡ select s t
unfolding select settle_at_home
selected_is s t b e = ap (λ x. selected_as s t x) (sym e)

asks_plain : (s : State) (t : ℕ) → is_by_linux s ≡ false → asks_target s t ≡ true
asks_plain s t e = ap (λ b. not (b && has_one_cpu s.world t)) e

asks_several : (s : State) (t : ℕ) → ¬ HasOneCpu s.world t → asks_target s t ≡ true
asks_several s t d = ap (λ b. not b) (and_right (is_by_linux s) (has_one_cpu s.world t) (false_from_ne_true (has_one_cpu s.world t) (λ y. d (one_is s.world t y))))

asks_nobody : (s : State) (t : ℕ) → is_by_linux s ≡ true → HasOneCpu s.world t → asks_target s t ≡ false
asks_nobody s t lin h = ap (λ b. not b) (and_from (is_by_linux s) (has_one_cpu s.world t) lin (one_of s.world t h))

record Selected (s : State) (t : ℕ) : Type 0 where
  cpu : ℕ
  step : Stepped
  selects : Selects s t cpu step
  is : settling step t cpu ≡ select s t

selected : (s : State) (t : ℕ) → Selected s t
selected s t = go (is_by_linux s) refl (has_one_cpu s.world t) refl
  where
    aims : IsTarget (select_called s t).state t (select_answered s t) (aimed s t)
    aims = is_target (select_called s t).state t (select_answered s t) (selects s t)

    go : (b : Bool) → is_by_linux s ≡ b → (o : Bool) → has_one_cpu s.world t ≡ o → Selected s t
    go false e o any = record {
      cpu = aimed s t;
      step = asked_so s t;
      selects = Asks_by_plain _ e aims (inserts_by_choice (select_called s t).state t) refl;
      is = ask_is s t ∙ selected_is s t true (asks_plain s t e);
    }
    go true e false d = record {
      cpu = aimed s t;
      step = asked_so s t;
      selects = Asks_of_several _ (λ h. not_so (has_one_cpu s.world t) d (one_of s.world t h)) aims (inserts_by_choice (select_called s t).state t) refl;
      is = ask_is s t ∙ selected_is s t true (asks_several s t (λ h. not_so (has_one_cpu s.world t) d (one_of s.world t h)));
    }
    go true e true k = record {
      cpu = first_home s.world t;
      step = only_at s t (first_home s.world t);
      selects = Is_only_one e (one_is s.world t k) (is_home s.world t) refl;
      is = selected_is s t false (asks_nobody s t e (one_is s.world t k));
    }

asked_at : (s : State) (t c : ℕ) (v : State) (r : Stepped) → IsTarget (select_called s t).state t (select_answered s t) c → InsertsByChoice (select_called s t).state t v → r ≡ asked s t v → settling r t c ≡ ask_target s t
asked_at s t c v r tg h k =
    ap (λ x. settling x t c) (k ∙ ap (λ x. asked s t x) (only_inserts_by_choice (select_called s t).state t v h))
    ∙ ap (λ d. settling (asked_so s t) t d) (only_target (select_called s t).state t (select_answered s t) c tg) ∙ ask_is s t

only_selects : (s : State) (t c : ℕ) (r : Stepped) → Selects s t c r → settling r t c ≡ select s t
only_selects s t c r (Asks_by_plain v e tg h k) = asked_at s t c v r tg h k ∙ selected_is s t true (asks_plain s t e)
only_selects s t c r (Asks_of_several v d tg h k) = asked_at s t c v r tg h k ∙ selected_is s t true (asks_several s t d)
only_selects s t c r (Is_only_one e l z k) =
    ap (λ x. settling x t c) k ∙ ap (λ d. settling (only_at s t d) t d) (only_home_of s.world t c z) ∙ selected_is s t false (asks_nobody s t e l)

-- ---- the policy hears that the task is runnable

abbrev told_as : State → ℕ → ℕ → Bool → Stepped
told_as v t c b = if b then call_by_linux v callback.Runnable (task_and_number t 1) t c else stays v

abbrev kept_as : State → State → Bool → Option Insert
kept_as v u b = if b then while_in_force u v.world.call.insert else v.world.call.insert

abbrev kept_by : State → Option Eject → Option Insert
kept_by v x = if is_some x then None else v.world.call.insert

tells_runnable : (v : State) (t c : ℕ) → TellsRunnable v t c (told_as v t c (is_by_linux v)) (kept_as v (told_as v t c (is_by_linux v)).state (is_by_linux v))
tells_runnable v t c = go (is_by_linux v) refl
  where
    by : is_by_linux v ≡ true → (x : Option Eject) → (told_as v t c true).state.world.ejected ≡ x → TellsRunnable v t c (told_as v t c true) (kept_by v x)
    by e None d = TellsPolicy e (calls_if_there v callback.Runnable (task_and_number t 1) t c) d refl
    by e (Some x) d = TellsLast x e (calls_if_there v callback.Runnable (task_and_number t 1) t c) d refl

    go : (b : Bool) → is_by_linux v ≡ b → TellsRunnable v t c (told_as v t c b) (kept_as v (told_as v t c b).state b)
    go false e = TellsNobody e refl refl
    go true e = by e (told_as v t c true).state.world.ejected refl

abbrev Told-so : State → ℕ → ℕ → Stepped → Option Insert → Type 0
Told-so v t c told i = (told ≡ told_as v t c (is_by_linux v)) × (i ≡ kept_as v told.state (is_by_linux v))

only_tells_runnable : (v : State) (t c : ℕ) (told : Stepped) (i : Option Insert) → TellsRunnable v t c told i → Told-so v t c told i
only_tells_runnable v t c told i (TellsNobody e k m) = (k ∙ ap (λ b. told_as v t c b) (sym e), m ∙ ap (λ b. kept_as v told.state b) (sym e))
only_tells_runnable v t c told i (TellsPolicy e h d m) = (
  only_calls_if_there v callback.Runnable (task_and_number t 1) t c told h ∙ ap (λ b. told_as v t c b) (sym e),
  m ∙ ap (λ x. kept_by v x) (sym d) ∙ ap (λ b. kept_as v told.state b) (sym e),
)
only_tells_runnable v t c told i (TellsLast x e h d m) = (
  only_calls_if_there v callback.Runnable (task_and_number t 1) t c told h ∙ ap (λ b. told_as v t c b) (sym e),
  m ∙ ap (λ x. kept_by v x) (sym d) ∙ ap (λ b. kept_as v told.state b) (sym e),
)

-- ---- the target looks

abbrev roused_as : State → ℕ → Bool → Bool → Stepped
roused_as s c a b = if a then stays (kicked_if_idle (is_woken s) c) else (if b then cycle s c None false else stays s)

roused_is : (s : State) (c : ℕ) (a b : Bool) → is_by_linux s ≡ a → is_idle s.world c ≡ b → roused_as s c a b ≡ wake_target s c
unfolding wake_target
roused_is s c a b x y = ap (λ k. roused_as s c a k) (sym y) ∙ ap (λ k. roused_as s c k (is_idle s.world c)) (sym x)

rouses : (s : State) (c : ℕ) → Rouses s c (wake_target s c)
unfolding wake_target
rouses s c = go (is_by_linux s) (is_idle s.world c) refl refl
  where
    go : (a b : Bool) → is_by_linux s ≡ a → is_idle s.world c ≡ b → Rouses s c (roused_as s c a b)
    go false true x y = IdleTarget x y (cycles s c None false)
    go false false x y = BusyTarget x y refl
    go true b x y = ByLinux (kicked_if_idle (is_woken s) c) x (looks_if_idle (is_woken s) c) refl

only_rouses : (s : State) (c : ℕ) (r : Stepped) → Rouses s c r → r ≡ wake_target s c
only_rouses s c r (IdleTarget x y h) = only_cycles s c None false r h ∙ roused_is s c false true x y
only_rouses s c r (BusyTarget x y k) = k ∙ roused_is s c false false x y
only_rouses s c r (ByLinux v x h k) = k ∙ ap (λ u. stays u) (only_looks_if_idle (is_woken s) c v h) ∙ roused_is s c true (is_idle s.world c) x refl

-- ---- wake

abbrev settled_as : State → ℕ → ℕ → Bool → Stepped
settled_as v t c b = one_after_other (told_as v t c b) (comes_to (kept_as v (told_as v t c b).state b) (told_as v t c b).state t c)

abbrev at_home : State → ℕ → ℕ → State
at_home s t c = with_world s (homed s.world t c)

settle_by : (v : State) (t c : ℕ) (b : Bool) → settled_as v t c b ≡ (if b then told_runnable v.world.call.insert v t c else comes_to v.world.call.insert v t c)
unfolding told_runnable
settle_by v t c true = refl
settle_by v t c false = refl

settle_is : (s : State) (t c : ℕ) → settled_as (at_home s t c) t c (is_by_linux (at_home s t c)) ≡ settle s t c
unfolding settle
settle_is s t c = settle_by (at_home s t c) t c (is_by_linux (at_home s t c))

wake_is : (s : State) (t : ℕ) → wake_note s t (select (from_waker (after_waking s t) t) t) ≡ wake s t
unfolding wake
wake_is s t = refl

wakes : (s : State) (t : ℕ) → Wakes s t (wake s t)
unfolding comes_to
wakes s t = record {
  woken = u;
  wakes = tells_waker (after_waking s t) t;
  cpu = c;
  selected = r;
  selects = h.selects;
  home = homed r.state.world t c;
  homes = homes r.state.world t c;
  told = told;
  insert = i;
  tells = tells_runnable v t c;
  settled = insert_or_put i told.state t c;
  settles = settles told.state t c i;
  roused = wake_target (insert_or_put i told.state t c).state c;
  rouses = rouses (insert_or_put i told.state t c).state c;
  all = sym (ap (λ x. wake_note s t (one_after_other r x)) (settle_is r.state t c) ∙ ap (λ x. wake_note s t x) h.is ∙ wake_is s t);
}
  where
    u : State
    u = from_waker (after_waking s t) t

    h : Selected u t
    h = selected u t

    r : Stepped
    r = h.step

    c : ℕ
    c = h.cpu

    v : State
    v = at_home r.state t c

    told : Stepped
    told = told_as v t c (is_by_linux v)

    i : Option Insert
    i = kept_as v told.state (is_by_linux v)

abbrev settled_at : State → ℕ → ℕ → WorldState → Stepped
settled_at s t c w = settled_as (with_world s w) t c (is_by_linux (with_world s w))

only_wakes : (s : State) (t : ℕ) (r : Stepped) → Wakes s t r → r ≡ wake s t
unfolding comes_to
only_wakes s t r h =
    let v = with_world h.selected.state h.home in
    let x = only_tells_runnable v t h.cpu h.told h.insert h.tells in
    h.all
    ∙ ap (λ z. wake_note s t (one_after_other h.selected (one_after_other h.told (one_after_other h.settled z)))) (only_rouses h.settled.state h.cpu h.roused h.rouses)
    ∙ ap (λ (z : Stepped). wake_note s t (one_after_other h.selected (one_after_other h.told (one_after_other z (wake_target z.state h.cpu))))) (only_settles h.told.state t h.cpu h.insert h.settled h.settles)
    ∙ ap (λ i. wake_note s t (one_after_other h.selected (one_after_other h.told (comes_to i h.told.state t h.cpu)))) x.1
    ∙ ap (λ (z : Stepped). wake_note s t (one_after_other h.selected (one_after_other z (comes_to (kept_as v z.state (is_by_linux v)) z.state t h.cpu)))) x.0
    ∙ ap (λ w. wake_note s t (one_after_other h.selected (settled_at h.selected.state t h.cpu w))) (only_homes h.selected.state.world t h.cpu h.home h.homes)
    ∙ ap (λ z. wake_note s t (one_after_other h.selected z)) (settle_is h.selected.state t h.cpu)
    ∙ ap (λ z. wake_note s t z) (only_selects h.woken t h.cpu h.selected h.selects)
    ∙ ap (λ z. wake_note s t (select z t)) (only_tells_waker (after_waking s t) t h.woken h.wakes)
    ∙ wake_is s t

-- ---- sleep

falls : (s : State) (t c : ℕ) → FallsAsleep s t c (falls_asleep s t c)
unfolding falls_asleep
falls s t c = calls_if_there (asleep s t) callback.Quiescent (task_and_number t 1) t c

only_falls : (s : State) (t c : ℕ) (r : Stepped) → FallsAsleep s t c r → r ≡ falls_asleep s t c
unfolding falls_asleep
only_falls s t c r h = only_calls_if_there (asleep s t) callback.Quiescent (task_and_number t 1) t c r h

abbrev sleep_note : State → ℕ → Stepped → Stepped
sleep_note s t r = after (note_now s.world (note.Sleep t) ∷ []) r

abbrev slept : State → ℕ → Stepped → Stepped → Stepped → Stepped
slept s t l g x = sleep_note s t (one_after_other l (one_after_other g x))

sleeps : (s : State) (t : ℕ) → Sleeps s t (sleep s t)
unfolding sleep sleep_from_queue sleep_from_cpu looks_after_sleep
sleeps s t = go (cpu_of s.world t) refl
  where
    go : (o : Option ℕ) → cpu_of s.world t ≡ o → Sleeps s t (sleep_note s t (sleep_from o s t))
    go None e =
        let d = (task_at s.world t).prev_cpu in
        let l = leaves_queue s t d 1 in
        FromQueue l (falls_asleep l.state t d) e (departs s t d 1) (falls l.state t d) refl
    go (Some c) e =
        let l = leaves_cpu s c t 0 in
        let g = falls_asleep l.state t c in
        let v = told_of_sleep g.state t in
        FromCpu c l g (cycle v c None true) v e (leaves_now s c t 0) (falls l.state t c) (tells_sleep g.state t) (cycles v c None true) refl

only_sleeps : (s : State) (t : ℕ) (r : Stepped) → Sleeps s t r → r ≡ sleep s t
unfolding sleep sleep_from_queue sleep_from_cpu looks_after_sleep
only_sleeps s t r (FromQueue l g e h f k) =
    let d = (task_at s.world t).prev_cpu in
    rw e (k ∙ ap (λ z. sleep_note s t (one_after_other l z)) (only_falls l.state t d g f) ∙ ap (λ (z : Stepped). sleep_note s t (one_after_other z (falls_asleep z.state t d))) (only_departs s t d 1 l h))
only_sleeps s t r (FromCpu c l g found v e h f w y k) =
    rw e (k ∙ ap (λ z. slept s t l g z) (only_cycles v c None true found y) ∙ ap (λ (z : State). slept s t l g (cycle z c None true)) (only_tells_sleep g.state t v w)
    ∙ ap (λ (z : Stepped). slept s t l z (cycle (told_of_sleep z.state t) c None true)) (only_falls l.state t c g f)
    ∙ ap (λ (z : Stepped). let q = falls_asleep z.state t c in slept s t z q (cycle (told_of_sleep q.state t) c None true)) (only_leaves_now s c t 0 l h))

-- ---- tick

abbrev thrown : ℕ → ℕ → Stepped → Stepped → Stepped
thrown c t l x = one_after_other l (one_after_other (parking l.state t) x)

abbrev counted_as : State → ℕ → ℕ → Bool → Stepped
counted_as v c t b = if b then throttle v c t else expire v c t

abbrev expired_as : State → ℕ → ℕ → Bool → Bool → Stepped
expired_as v c t a b = if a && b then cycle v c (Some t) true else stays v

expired_is : (v : State) (c t : ℕ) (a b : Bool) → ((task_at v.world t).slice == 0) ≡ a → ends_slices v ≡ b → expired_as v c t a b ≡ expire v c t
unfolding expire
expired_is v c t a b x y = ap (λ k. expired_as v c t a k) (sym y) ∙ ap (λ k. expired_as v c t k (ends_slices v)) (sym x)

expires_on : (v : State) (c t : ℕ) → 0 < (task_at v.world t).slice → expire v c t ≡ stays v
expires_on v c t l = sym (expired_is v c t false (ends_slices v) (ne_eqb (task_at v.world t).slice 0 (λ e. omega (arith, e, l))) refl)

expires_out : (v : State) (c t : ℕ) → (task_at v.world t).slice ≡ 0 → EndsSlices v → expire v c t ≡ cycle v c (Some t) true
expires_out v c t z h = sym (expired_is v c t true true (eq-eqb (task_at v.world t).slice 0 z) (ends_of v h))

expires_later : (v : State) (c t : ℕ) → ¬ EndsSlices v → expire v c t ≡ stays v
expires_later v c t n = sym (expired_is v c t ((task_at v.world t).slice == 0) false refl (false_from_ne_true (ends_slices v) (λ e. n (ends_is v e)))) ∙ ap (λ b. if b then cycle v c (Some t) true else stays v) (and_right ((task_at v.world t).slice == 0) false refl)

uses_up : (s : State) (c t : ℕ) → UsesUp s c t (use_up s c t)
unfolding use_up throttle park
uses_up s c t = by (is_throttled v.world t) refl
  where
    v : State
    v = charged s t

    ended : is_throttled v.world t ≡ false → (task_at v.world t).slice ≡ 0 → (b : Bool) → ends_slices v ≡ b → UsesUp s c t (expire v c t)
    ended free z true x = let h = ends_is v x in rw (expires_out v c t z h) (RunsOut free z h (cycles v c (Some t) true))
    ended free z false x = let n : ¬ EndsSlices v = (λ h. not_so (ends_slices v) x (ends_of v h)) in rw (expires_later v c t n) (RunsToTick free n refl)

    out : is_throttled v.world t ≡ false → ((task_at v.world t).slice ≡ 0) ⊎ ((task_at v.world t).slice ≡ 0 → ⊥) → UsesUp s c t (expire v c t)
    out free (inl z) = ended free z (ends_slices v) refl
    out free (inr x) = let l : 0 < (task_at v.world t).slice = omega (arith, x) in rw (expires_on v c t l) (RunsOn free l refl)

    up : is_throttled v.world t ≡ true → UsesUp s c t (throttle v c t)
    up over = let l = leaves_cpu v c t 1 in IsThrottled l (cycle (parking l.state t).state c None true) over (leaves_now v c t 1) (cycles (parking l.state t).state c None true) refl

    by : (b : Bool) → is_throttled v.world t ≡ b → UsesUp s c t (counted_as v c t b)
    by true x = up x
    by false x = out x (cases_eq (task_at v.world t).slice 0)

only_uses_up : (s : State) (c t : ℕ) (r : Stepped) → UsesUp s c t r → r ≡ use_up s c t
unfolding use_up throttle park
only_uses_up s c t r (RunsToTick free n k) = k ∙ sym (expires_later (charged s t) c t n) ∙ ap (λ b. counted_as (charged s t) c t b) (sym free)
only_uses_up s c t r (IsThrottled l found over h y k) =
    k ∙ ap (λ z. thrown c t l z) (only_cycles (parking l.state t).state c None true found y)
    ∙ ap (λ (z : Stepped). thrown c t z (cycle (parking z.state t).state c None true)) (only_leaves_now (charged s t) c t 1 l h) ∙ ap (λ b. counted_as (charged s t) c t b) (sym over)
only_uses_up s c t r (RunsOn free l k) = k ∙ sym (expires_on (charged s t) c t l) ∙ ap (λ b. counted_as (charged s t) c t b) (sym free)
only_uses_up s c t r (RunsOut free z h y) = only_cycles (charged s t) c (Some t) true r y ∙ sym (expires_out (charged s t) c t z h) ∙ ap (λ b. counted_as (charged s t) c t b) (sym free)

abbrev idle_as : State → ℕ → Bool → Stepped
idle_as s c b = if b then stays s else cycle s c None false

idle_is : (s : State) (c : ℕ) (b : Bool) → is_by_linux s ≡ b → idle_as s c b ≡ tick_idle s c
unfolding tick_idle
idle_is s c b e = ap (λ x. idle_as s c x) (sym e)

ticks : (s : State) (c : ℕ) → Ticks s c (tick s c)
unfolding tick count_down
ticks s c = go (running s.world c) refl
  where
    nobody : running s.world c ≡ None → (b : Bool) → is_by_linux s ≡ b → Ticks s c (idle_as s c b)
    nobody e false x = NobodyRuns x e (cycles s c None false)
    nobody e true x = SleepsOn x e refl

    go : (o : Option ℕ) → running s.world c ≡ o → Ticks s c (tick_of o s c)
    go None e = subst (λ r. Ticks s c r) (idle_is s c (is_by_linux s) refl) (nobody e (is_by_linux s) refl)
    go (Some t) e = let h = tick_heard (ran_on s t) c t in Runs t h (use_up h.state c t) e (hears (ran_on s t) c t) (uses_up h.state c t) refl

only_ticks : (s : State) (c : ℕ) (r : Stepped) → Ticks s c r → r ≡ tick s c
unfolding tick count_down
only_ticks s c r (NobodyRuns x e y) = rw e (only_cycles s c None false r y ∙ idle_is s c false x)
only_ticks s c r (SleepsOn x e k) = rw e (k ∙ idle_is s c true x)
only_ticks s c r (Runs t h x e y u k) =
    rw e (k ∙ ap (λ z. one_after_other h z) (only_uses_up h.state c t x u) ∙ ap (λ (z : Stepped). one_after_other z (use_up z.state c t)) (only_hears (ran_on s t) c t h y))

-- ---- the parked

lets_go : (n : ℕ) (s : State) (at : Option ℕ) → LetsGo n s at (let_go_from n s at)
unfolding let_go_from let_go_one
lets_go zero s at = Enough s at _ refl
lets_go (suc n) s None = NoMore n s _ refl
lets_go (suc n) s (Some t) = go (is_throttled s.world t) refl (lets_go n s (behind_of s.world.queues t)) (lets_go n (let_go_one s t).state (behind_of s.world.queues t))
  where
    next : Option ℕ
    next = behind_of s.world.queues t

    r : Stepped
    r = let_go_one s t

    go : (b : Bool) → is_throttled s.world t ≡ b → LetsGo n s next (let_go_from n s next) → LetsGo n r.state next (let_go_from n r.state next) → LetsGo (suc n) s (Some t) (cond b (let_go_from n s next) (one_after_other r (let_go_from n r.state next)))
    go true e stay more = StaysParked n s t _ e stay
    go false e stay more =
        let u = put (with_world s (let_go s.world t)) t (task_at s.world t).prev_cpu 0 in
        IsLetGo n s t u _ _ _ e (puts (with_world s (let_go s.world t)) t (task_at s.world t).prev_cpu 0) (looks_if_idle u.state (task_at s.world t).prev_cpu) more refl

abbrev let_if : ℕ → State → ℕ → Bool → Stepped → Stepped
let_if n s t b r = if b then let_go_from n s (behind_of s.world.queues t) else one_after_other r (let_go_from n r.state (behind_of s.world.queues t))

only_lets_go : (n : ℕ) (s : State) (at : Option ℕ) (r : Stepped) → LetsGo n s at r → r ≡ let_go_from n s at
unfolding let_go_from let_go_one
only_lets_go zero s at r (Enough _ _ _ k) = k
only_lets_go (suc n) s None r (NoMore _ _ _ k) = k
only_lets_go (suc n) s (Some t) r (StaysParked _ _ _ _ e h) = only_lets_go n s (behind_of s.world.queues t) r h ∙ ap (λ b. let_if n s t b (let_go_one s t)) (sym e)
only_lets_go (suc n) s (Some t) r (IsLetGo _ _ _ x more _ v e h w y k) =
    k ∙ ap (λ z. one_after_other x z) (only_lets_go n v (behind_of s.world.queues t) more y)
    ∙ ap (λ (z : State). one_after_other x (let_go_from n z (behind_of s.world.queues t))) (only_looks_if_idle x.state (task_at s.world t).prev_cpu v w)
    ∙ ap (λ (z : Stepped). one_after_other z (let_go_from n (kicked_if_idle z.state (task_at s.world t).prev_cpu) (behind_of s.world.queues t))) (only_puts (with_world s (let_go s.world t)) t (task_at s.world t).prev_cpu 0 x h)
    ∙ ap (λ b. let_if n s t b (let_go_one s t)) (sym e)

lets_all_go : (s : State) → LetsAllGo s (let_all_go s)
unfolding let_all_go
lets_all_go s = lets_go (len_of s.world.queues parked_queue) s (front_of s.world.queues parked_queue)

only_lets_all_go : (s : State) (r : Stepped) → LetsAllGo s r → r ≡ let_all_go s
unfolding let_all_go
only_lets_all_go s r h = only_lets_go (len_of s.world.queues parked_queue) s (front_of s.world.queues parked_queue) r h

-- ---- the clock

abbrev watched_as : State → Option Eject → Option ℕ → Stepped
watched_as s x o = eject_if_stalled (if is_some x then None else o) s

watches : (s : State) → Watches s (eject_if_stalled (overdue s) s)
watches s = go s.world.ejected refl (first_overdue s.world s.policy.timeout_ms) refl
  where
    go : (x : Option Eject) → s.world.ejected ≡ x → (o : Option ℕ) → first_overdue s.world s.policy.timeout_ms ≡ o → Watches s (watched_as s x o)
    go (Some x) d o e = Is_out x d refl
    go None d None e = In_time d (nobody_late s.world s.policy.timeout_ms e) refl
    go None d (Some t) e = Too_late t d (is_first s.world s.policy.timeout_ms t e) (ejects s (cause.Stall t s.world.clock))

watched_at : (s : State) (x : Option Eject) (o : Option ℕ) → s.world.ejected ≡ x → first_overdue s.world s.policy.timeout_ms ≡ o → watched_as s x o ≡ eject_if_stalled (overdue s) s
watched_at s x o d e = ap (λ k. watched_as s x k) (sym e) ∙ ap (λ k. watched_as s k (first_overdue s.world s.policy.timeout_ms)) (sym d)

only_watches : (s : State) (r : Stepped) → Watches s r → r ≡ eject_if_stalled (overdue s) s
only_watches s r (Is_out x d k) = k ∙ watched_at s (Some x) (first_overdue s.world s.policy.timeout_ms) d refl
only_watches s r (In_time d nobody k) = k ∙ watched_at s None None d (only_nobody s.world s.policy.timeout_ms nobody)
only_watches s r (Too_late t d first h) = only_ejects s (cause.Stall t s.world.clock) r h ∙ watched_at s None (Some t) d (only_first s.world s.policy.timeout_ms t first)

abbrev watched : State → Stepped
watched s = eject_if_stalled (overdue s) s

ages : (s : State) → Ages s (clock s)
unfolding clock timers_and_watchdog watch
ages s = record { gone = g; lets_go = lets_all_go (after_clock s); fired = f; fires = fires_every g.state; watched = watched f.state; watches = watches f.state; all = refl }
  where
    g : Stepped
    g = let_all_go (after_clock s)

    f : Stepped
    f = fire_all g.state

abbrev fired_then : State → Stepped
fired_then s = let f = fire_all s in one_after_other f (watched f.state)

only_ages : (s : State) (r : Stepped) → Ages s r → r ≡ clock s
unfolding clock timers_and_watchdog watch
only_ages s r h =
    h.all ∙ ap (λ x. one_after_other h.gone (one_after_other h.fired x)) (only_watches h.fired.state h.watched h.watches)
    ∙ ap (λ (x : Stepped). one_after_other h.gone (one_after_other x (watched x.state))) (only_fires_every h.gone.state h.fired h.fires)
    ∙ ap (λ (x : Stepped). one_after_other x (fired_then x.state)) (only_lets_all_go (after_clock s) h.gone h.lets_go)

-- ---- a task's own weight

abbrev own_fault_as : Bool → Bool → Option TreeError
own_fault_as a b = if a then Some UnknownTask else (if b then Some OutOfRange else None)

abbrev weighed_as : WorldState → ℕ → ℕ → Bool → Bool → WorldState
weighed_as w t x a b = if is_none (own_fault_as a b) then with_tree w (with_own_weight w.tree t x) else w

sets_weight : (w : WorldState) (t x : ℕ) → SetsWeight w t x (after_own_weight w t x)
sets_weight w t x = go (nat_le (length w.tree.homes) t) (is_outside max_weight x) refl refl
  where
    go : (a b : Bool) → nat_le (length w.tree.homes) t ≡ a → is_outside max_weight x ≡ b → SetsWeight w t x (weighed_as w t x a b)
    go true b y z = HasNoHome (grind (arith, nat_tests, y)) refl
    go false true y z = IsOutside (λ h. not_so (is_outside max_weight x) (good x h) z) refl
    go false false y z = IsSet (grind (arith, nat_tests, y)) (is_weight x z) refl

weighed_is : (w : WorldState) (t x : ℕ) (a b : Bool) → nat_le (length w.tree.homes) t ≡ a → is_outside max_weight x ≡ b → weighed_as w t x a b ≡ after_own_weight w t x
weighed_is w t x a b y z = ap (λ k. weighed_as w t x a k) (sym z) ∙ ap (λ k. weighed_as w t x k (is_outside max_weight x)) (sym y)

outside_none : (w : WorldState) (t x : ℕ) (a : Bool) → w ≡ weighed_as w t x a true
outside_none w t x true = refl
outside_none w t x false = refl

only_sets_weight : (w : WorldState) (t x : ℕ) (v : WorldState) → SetsWeight w t x v → v ≡ after_own_weight w t x
only_sets_weight w t x v (IsSet l h k) = let y : nat_le (length w.tree.homes) t ≡ false = grind (arith, nat_tests, l) in k ∙ weighed_is w t x false false y (good x h)
only_sets_weight w t x v (HasNoHome l k) = let y : nat_le (length w.tree.homes) t ≡ true = grind (arith, nat_tests, l) in k ∙ weighed_is w t x true (is_outside max_weight x) y refl
only_sets_weight w t x v (IsOutside n k) =
    k ∙ outside_none w t x (nat_le (length w.tree.homes) t) ∙ weighed_is w t x (nat_le (length w.tree.homes) t) true refl (bad x n)

takes : (s : State) (t c x : ℕ) → TakesWeight s t c x (takes_weight s t c x)
unfolding takes_weight
takes s t c x = record {
  weighed = after_own_weight s.world t x;
  sets = sets_weight s.world t x;
  hears = calls_if_there (with_world s (after_own_weight s.world t x)) callback.SetWeight (task_and_number t x) t c;
}

abbrev heard_weight : State → ℕ → ℕ → ℕ → WorldState → Stepped
heard_weight s t c x w = call_by_linux (with_world s w) callback.SetWeight (task_and_number t x) t c

only_takes : (s : State) (t c x : ℕ) (r : Stepped) → TakesWeight s t c x r → r ≡ takes_weight s t c x
unfolding takes_weight
only_takes s t c x r h =
    only_calls_if_there (with_world s h.weighed) callback.SetWeight (task_and_number t x) t c r h.hears ∙ ap (λ w. heard_weight s t c x w) (only_sets_weight s.world t x h.weighed h.sets)

abbrev rested : State → ℕ → ℕ → Stepped
rested s t c = call_by_linux s callback.Quiescent (task_and_number t change_flags) t c

abbrev roused : State → ℕ → ℕ → Stepped
roused s t c = call_by_linux s callback.Runnable (task_and_number t restore_flag) t c

changes : (s : State) (t c x : ℕ) → ChangesWeight s t c x (changes_weight s t c x)
unfolding changes_weight
changes s t c x = record {
  rested = q;
  rests = calls_if_there s callback.Quiescent (task_and_number t change_flags) t c;
  weighed = w;
  weighs = takes q.state t c x;
  roused = roused w.state t c;
  rouses = calls_if_there w.state callback.Runnable (task_and_number t restore_flag) t c;
  all = refl;
}
  where
    q : Stepped
    q = rested s t c

    w : Stepped
    w = takes_weight q.state t c x

abbrev weighed_then : State → ℕ → ℕ → ℕ → Stepped
weighed_then s t c x = let w = takes_weight s t c x in one_after_other w (roused w.state t c)

only_changes : (s : State) (t c x : ℕ) (r : Stepped) → ChangesWeight s t c x r → r ≡ changes_weight s t c x
unfolding changes_weight
only_changes s t c x r h =
    h.all
    ∙ ap (λ z. one_after_other h.rested (one_after_other h.weighed z)) (only_calls_if_there h.weighed.state callback.Runnable (task_and_number t restore_flag) t c h.roused h.rouses)
    ∙ ap (λ (z : Stepped). one_after_other h.rested (one_after_other z (roused z.state t c))) (only_takes h.rested.state t c x h.weighed h.weighs)
    ∙ ap (λ (z : Stepped). one_after_other z (weighed_then z.state t c x)) (only_calls_if_there s callback.Quiescent (task_and_number t change_flags) t c h.rested h.rests)

abbrev changed_then : State → ℕ → ℕ → ℕ → Stepped
changed_then s t c x = let b = changes_weight s t c x in one_after_other b (run_heard b.state c t)

abbrev changed_and_put : State → ℕ → ℕ → ℕ → Stepped
changed_and_put s t c x = let b = changes_weight s t c x in one_after_other b (put b.state t c 0)

abbrev off_as : State → ℕ → ℕ → ℕ → Bool → Stepped
off_as s t c x b = if b then reweigh_waiting s t c x else takes_weight s t c x

off_is : (s : State) (t c x : ℕ) (b : Bool) → waits s.world t ≡ b → off_as s t c x b ≡ reweigh_off_cpu s t c x
unfolding reweigh_off_cpu
off_is s t c x b e = ap (λ k. off_as s t c x k) (sym e)

reweighs_waiting : (s : State) (t x : ℕ) → cpu_of s.world t ≡ None → waits s.world t ≡ true → Reweighs s t x (reweigh_waiting s t (task_at s.world t).prev_cpu x)
unfolding reweigh_waiting
reweighs_waiting s t x e y =
    let d = (task_at s.world t).prev_cpu in
    let a = leaves_queue s t d change_flags in
    let b = changes_weight a.state t d x in
    WhileItWaits a b (put b.state t d 0) e y (departs s t d change_flags) (changes a.state t d x) (puts b.state t d 0) refl

reweighs : (s : State) (t x : ℕ) → Reweighs s t x (reweigh_at (cpu_of s.world t) s t x)
unfolding reweigh_running
reweighs s t x = go (cpu_of s.world t) refl
  where
    d : ℕ
    d = (task_at s.world t).prev_cpu

    off : cpu_of s.world t ≡ None → (b : Bool) → waits s.world t ≡ b → Reweighs s t x (off_as s t d x b)
    off e true y = reweighs_waiting s t x e y
    off e false y = WhileItRests e y (takes s t d x)

    go : (o : Option ℕ) → cpu_of s.world t ≡ o → Reweighs s t x (reweigh_at o s t x)
    go None e = subst (λ r. Reweighs s t x r) (off_is s t d x (waits s.world t) refl) (off e (waits s.world t) refl)
    go (Some c) e =
        let a = stop_heard s c t in
        let b = changes_weight a.state t c x in
        WhileItRuns c a b (run_heard b.state c t) e (hears_stop s c t) (changes a.state t c x) (hears_run b.state c t) refl

waiting_is : (s : State) (t c x : ℕ) (a : Stepped) → LeavesQueue s t c change_flags a → one_after_other a (changed_and_put a.state t c x) ≡ reweigh_waiting s t c x
unfolding reweigh_waiting
waiting_is s t c x a h = ap (λ (z : Stepped). one_after_other z (changed_and_put z.state t c x)) (only_departs s t c change_flags a h)

only_reweighs : (s : State) (t x : ℕ) (r : Stepped) → Reweighs s t x r → r ≡ reweigh_at (cpu_of s.world t) s t x
unfolding reweigh_running
only_reweighs s t x r (WhileItRuns c a b u e h y w k) =
    rw e (k ∙ ap (λ z. one_after_other a (one_after_other b z)) (only_hears_run b.state c t u w)
    ∙ ap (λ (z : Stepped). one_after_other a (one_after_other z (run_heard z.state c t))) (only_changes a.state t c x b y)
    ∙ ap (λ (z : Stepped). one_after_other z (changed_then z.state t c x)) (only_hears_stop s c t a h))
only_reweighs s t x r (WhileItWaits a b u e y h z w k) =
    let d = (task_at s.world t).prev_cpu in
    rw e (k ∙ ap (λ i. one_after_other a (one_after_other b i)) (only_puts b.state t d 0 u w)
    ∙ ap (λ (i : Stepped). one_after_other a (one_after_other i (put i.state t d 0))) (only_changes a.state t d x b z)
    ∙ waiting_is s t d x a h ∙ off_is s t d x true y)
only_reweighs s t x r (WhileItRests e y h) = let d = (task_at s.world t).prev_cpu in rw e (only_takes s t d x r h ∙ off_is s t d x false y)

abbrev weight_note : State → ℕ → ℕ → Stepped → Stepped
weight_note s t x r = after (note_now s.world (note.TaskWeight t x) ∷ []) r

abbrev done_on_first : State → ℕ → ℕ → Stepped
done_on_first s t x = reweigh_at (cpu_of s.world t) (on_first_cpu s) t x

abbrev awake : Stepped → Stepped
awake r = record r { state = is_woken r.state }

abbrev reweighed_as : State → ℕ → ℕ → Bool → Stepped
reweighed_as s t x b = if b then awake (done_on_first s t x) else silent s (after_own_weight s.world t x)

reweighed_so : (s : State) (t x : ℕ) (b : Bool) → is_by_linux s ≡ b → reweighed_as s t x b ≡ reweigh s t x
unfolding reweigh reweigh_by_linux
reweighed_so s t x b e = ap (λ k. reweighed_as s t x k) (sym e)

weighs : (s : State) (t x : ℕ) → Weighs s t x (weight_note s t x (reweigh s t x))
weighs s t x = subst (λ r. Weighs s t x (weight_note s t x r)) (reweighed_so s t x (is_by_linux s) refl) (go (is_by_linux s) refl)
  where
    go : (b : Bool) → is_by_linux s ≡ b → Weighs s t x (weight_note s t x (reweighed_as s t x b))
    go false e = Weighs_by_plain (after_own_weight s.world t x) e (sets_weight s.world t x) refl
    go true e = Weighs_by_linux (done_on_first s t x) e (reweighs (on_first_cpu s) t x) refl

only_weighs : (s : State) (t x : ℕ) (r : Stepped) → Weighs s t x r → r ≡ weight_note s t x (reweigh s t x)
only_weighs s t x r (Weighs_by_plain w e h k) =
    k ∙ ap (λ v. noting s v (note.TaskWeight t x)) (only_sets_weight s.world t x w h) ∙ ap (λ z. weight_note s t x z) (reweighed_so s t x false e)
only_weighs s t x r (Weighs_by_linux d e h k) =
    k ∙ ap (λ z. weight_note s t x (awake z)) (only_reweighs (on_first_cpu s) t x d h) ∙ ap (λ z. weight_note s t x z) (reweighed_so s t x true e)

-- ---- weights

-- the weight of an accepted event can be set
no_weight_fault : (t : Hierarchy) (g x : ℕ) → (if nat_lt g (length t.groups) then (if is_outside max_weight x then Some BadWeight else None) else Some UnknownGroup) ≡ None → weight_fault t g x ≡ None
no_weight_fault t g x e = go (nat_lt g (length t.groups)) (is_outside max_weight x) refl refl e
  where
    go : (a b : Bool) → nat_lt g (length t.groups) ≡ a → is_outside max_weight x ≡ b → (if a then (if b then Some BadWeight else None) else Some UnknownGroup) ≡ None → weight_fault t g x ≡ None
    go true false y z f = let known : nat_le (length t.groups) g ≡ false = grind (arith, nat_tests, y) in rw (known, z) refl
    go true true y z f = absurd (cc)
    go false b y z f = absurd (cc)

reweighed_is : (s : State) (g x : ℕ) → refusal s (SetWeight g x) ≡ None → after_reweigh s.world g x ≡ with_tree s.world (with_weight s.world.tree g x)
reweighed_is s g x e = rw (no_weight_fault s.world.tree g x e) refl

-- ---- all events

does : (s : State) (v : Event) → refusal s v ≡ None → Does s v (own_step s v)
does s (Wake t) e = wakes s t
does s (Sleep t) e = sleeps s t
does s (Tick c) e = ticks s c
does s Clock e = ages s
does s (SetWeight g x) e = ap (λ w. noting s w (note.Weight g x)) (reweighed_is s g x e)
does s (SetTaskWeight t x) e = weighs s t x

only_does : (s : State) (v : Event) (r : Stepped) → refusal s v ≡ None → Does s v r → r ≡ own_step s v
only_does s (Wake t) r e h = only_wakes s t r h
only_does s (Sleep t) r e h = only_sleeps s t r h
only_does s (Tick c) r e h = only_ticks s c r h
only_does s Clock r e h = only_ages s r h
only_does s (SetWeight g x) r e h = h ∙ ap (λ w. noting s w (note.Weight g x)) (sym (reweighed_is s g x e))
only_does s (SetTaskWeight t x) r e h = only_weighs s t x r h

-- what is computed is allowed
pub happens : RulesAllowEvents
happens s v e = record { own = own_step s v; does = does s v e; followed = is_followed (own_step s v) }

-- and nothing else is
pub only_happens : RulesAllowEventsOnly
only_happens s v r e h = only_followed h.own r h.followed ∙ ap (λ x. with_rounds x) (only_does s v h.own e h.does)
