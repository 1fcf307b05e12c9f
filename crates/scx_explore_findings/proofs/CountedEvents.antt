-- Events under plain rules, as long as the policy is in force: they lead from two states that are the same but for what ticks
-- count to two such states, or eject the policy in both for one cause. A tick does if it ends the slice of the task in both
-- states, or in none.
use Rattle.std.proofs.Common.{◌≡◌, ℕ, zero, suc, Bool, true, false, cond, ◌&&◌, ◌||◌, ◌==◌, ◌+◌, not, nat_lt, is_some, List, [], ◌∷◌, length, get_or, position, Option, Some, None, refl, sym, ap, ◌∙◌, subst}
use Rattle.std.specs.List.{position_or_len}
use Rattle.scx_dsq.specs.Queues.{len_of, front_of, behind_of}
use Rattle.scx_isa_semantics.specs.declared.callbacks.Callback.{Callback}
use Rattle.scx_isa_semantics.specs.declared.callbacks.Callback.TheVariants as callback
use Rattle.scx_vm.specs.Programs.{VerifiedProgram}
use Rattle.scx_vm.specs.declared.arguments.Args.{Args}
use Rattle.scx_sched_tasks.specs.declared.task.Task.{Task}
use Rattle.scx_sched_tasks.specs.Tasks.{no_task}
use Rattle.scx_sched_tasks.specs.Waits.{is_overdue}
use Rattle.scx_sched_world.specs.declared.call.Insert.{Insert}
use Rattle.scx_sched_world.specs.declared.eject.Eject.{Eject}
use Rattle.scx_sched_world.specs.declared.eject.Eject.TheVariants as cause
use Rattle.scx_sched_world.specs.Ids.{parked_queue}
use Rattle.scx_sched_world.specs.World as world
use Rattle.scx_sched_world.specs.World.{WorldState, switch_at, with_switch, with_slept, with_waker, with_task as set_task, task_at, has_one_cpu, first_home, is_throttled, waits, cpu_of, is_idle, choice, after_claim}
use Rattle.scx_sched_world.specs.Tasks.{with_home, for_cpu, homed, after_wake, after_sleep, after_leave, after_stop, let_go, after_tick, used_ms, later, begun_periods}
use Rattle.scx_sched_world.specs.Waits.{first_overdue}
use Rattle.scx_sched_world.specs.Helpers.{alarm_at, due_now}
use Rattle.scx_sched_policy.specs.Policy.{PolicyState, program_of}
use Rattle.scx_sched_machine.specs.Steps.{State, Stepped, with_world, is_ejected, is_by_linux, kicked, kicked_if_idle, stays, one_after_other}
use Rattle.scx_sched_machine.specs.Ejecting.{eject}
use Rattle.scx_sched_machine.specs.Callbacks.{acting, call_back, call_by_linux, answered_by, one_task, task_cpu_and_0, task_and_number}
use Rattle.scx_sched_machine.specs.Custody.{is_in_custody, tells_dequeued}
use Rattle.scx_sched_machine.specs.Put.{enters, put}
use Rattle.scx_sched_machine.specs.Firing.{due, fires, fire, fire_below, fire_all}
use Rattle.scx_sched_machine.specs.Parking.{park, let_go_one, let_go_from, let_all_go}
use Rattle.scx_sched_machine.specs.Cycle.{after_stopping, cycle}
use Rattle.scx_sched_machine.specs.Rounds.{most_rounds, rounds, with_rounds}
use Rattle.scx_sched_machine.specs.Events.{answered_cpu, cpu_or_home, target, insert_or_put, woken, wake_target, comes_to, told_runnable, settle, inserted_by_choice, chosen, ask_target, asks_target, settle_at_home, select, from_waker, wake, told_of_sleep, falls_asleep, looks_after_sleep, leaves_cpu, leaves_queue, sleep_from_cpu, sleep_from_queue, sleep_from, sleep, throttle, is_tick_time, ends_slices, expire, use_up, hears_tick, tick_heard, count_down, tick_idle, overdue, eject_if_stalled, watch, timers_and_watchdog, clock}
use Rattle.scx_sched_machine.proofs.Choices.{keeps_if}
use Rattle.scx_sched_machine.proofs.Steady.{plain_out}
use Rattle.scx_sched.proofs.Unchanged.{eject_sets}
use Rattle.scx_sched.proofs.Blaming.{apart, honest_park}
use Rattle.scx_explore_findings.specs.Asked.{AskAnyhow}
use Rattle.scx_explore_findings.specs.Counted.{uncounted, all_uncounted, without_counts, uncounted_state, LoadsNoCount}
use Rattle.scx_explore_findings.proofs.CountedRecords.{length_same}
use Rattle.scx_explore_findings.proofs.CountedWorlds.{Same, plain, throttled_same, prev_same, choice_same, leaves_wake, leaves_sleep, leaves_let_go, leaves_used}
use Rattle.scx_explore_findings.proofs.CountedSteps.{otherwise, surely, StaysOut, IsEven, Ends, Meet, On, Still, even_ends, even_step, even_worlds, worlds_same, plainly, plainly_there, after_ends, chain, still_park, on_call_back, answered_same, still_enters, out_enters, on_put, out_put, still_leave_queue}
use Rattle.scx_explore_findings.proofs.CountedCycles.{as_they_are, ends_if, out_if, out_cycle, on_cycle, on_stopping, even_stop}

-- ---- what is done under Linux rules alone

not_called : (s : State) (b : Callback) (a : Args) (u c : ℕ) → is_by_linux s ≡ false → (call_by_linux s b a u c).state ≡ s
unfolding call_by_linux
not_called s b a u c e = ap (λ (d : Bool). (cond (d && is_some (program_of s.policy b)) (call_back s b a u c) (stays s)).state) e

not_homed : (w : WorldState) (u c : ℕ) → world.is_by_linux w ≡ false → homed w u c ≡ w
not_homed w u c e = ap (λ (d : Bool). cond d (set_task w u (with_home (task_at w u) c)) w) e

not_chosen : (o : Option VerifiedProgram) (s : State) (u : ℕ) → is_by_linux s ≡ false → chosen o s u ≡ s
not_chosen None s u e = ap (λ (d : Bool). with_world s (cond d (inserted_by_choice (after_claim s.world (choice s.world u)) (choice s.world u)) s.world)) e
not_chosen (Some q) s u e = refl

not_waked : (s : State) (u : ℕ) → is_by_linux s ≡ false → from_waker s u ≡ s
unfolding from_waker
not_waked s u e = ap (λ (d : Bool). cond d (with_world s (with_waker s.world (Some (task_at s.world u).prev_cpu))) s) e

not_told : (s : State) (u : ℕ) → is_by_linux s ≡ false → told_of_sleep s u ≡ s
unfolding told_of_sleep
not_told s u e = ap (λ (d : Bool). cond d (with_world s (with_slept s.world u)) s) e

not_switching : (w : WorldState) (c : ℕ) → world.is_by_linux w ≡ false → with_switch w c ≡ w
not_switching w c e = ap (λ (d : Bool). cond d (record w { passing = record w.passing { switching = switch_at w c } }) w) e

not_kicked : (s : State) (c : ℕ) → is_by_linux s ≡ false → kicked_if_idle s c ≡ s
not_kicked s c e = ap (λ (d : Bool). cond (d && is_idle s.world c) (kicked s c) s) e

pub not_heard : (s : State) (c u : ℕ) → is_by_linux s ≡ false → (tick_heard s c u).state ≡ s
unfolding tick_heard hears_tick
not_heard s c u e = ap (λ (d : Bool). (cond ((d && is_some (program_of s.policy callback.Tick)) && is_tick_time s) (call_back s callback.Tick (one_task u) u c) (stays s)).state) e

pub no_rounds : (r : Stepped) → is_by_linux r.state ≡ false → (with_rounds r).state ≡ r.state
unfolding with_rounds
no_rounds r e = ap (λ (d : Bool). (cond d (one_after_other r (rounds most_rounds r.state)) r).state) e

slices_end : (s : State) → is_by_linux s ≡ false → ends_slices s ≡ true
unfolding ends_slices
slices_end s e = ap (λ (d : Bool). not d || is_tick_time s) e

asks : (s : State) (u : ℕ) → is_by_linux s ≡ false → asks_target s u ≡ true
asks s u e = ap (λ (d : Bool). not (d && has_one_cpu s.world u)) e

-- the task comes to wait for that processor
abbrev settled : ℕ → ℕ → State → Stepped
settled u c s = comes_to s.world.call.insert s u c

settles : (s : State) (u c : ℕ) → is_by_linux s ≡ false → settle s u c ≡ settled u c s
unfolding settle
settles s u c e =
    ap (λ (w : WorldState). let v = with_world s w in cond (is_by_linux v) (told_runnable v.world.call.insert v u c) (comes_to v.world.call.insert v u c)) (not_homed s.world u c e)
    ∙ ap (λ (d : Bool). cond d (told_runnable s.world.call.insert s u c) (settled u c s)) e

none_due : (s : State) (n : ℕ) → is_by_linux s ≡ false → (fire s n).state ≡ s
unfolding fire due
none_due s n e = ap (λ (d : Bool). (fires (cond d (due_now s.world (alarm_at s.world n)) None) s n).state) e

none_below : (m : ℕ) (s : State) → is_by_linux s ≡ false → (fire_below m s).state ≡ s
none_below zero s e = refl
none_below (suc m) s e = ap (λ (x : State). (fire x m).state) (none_below m s e) ∙ none_due s m e

no_timers : (s : State) → is_by_linux s ≡ false → (fire_all s).state ≡ s
unfolding fire_all
no_timers s e = none_below (length s.world.timers) s e

-- ---- what stays out of force

abbrev looks : ℕ → State → Stepped
looks c s = cond (is_idle s.world c) (cycle s c None false) (stays s)

out_wake_target : (c : ℕ) → StaysOut (λ s. wake_target s c)
unfolding wake_target
out_wake_target c s x out =
    ap (λ (d : Bool). (cond d (stays (kicked_if_idle (woken s) c)) (looks c s)).state.world.ejected) (plain_out s.world x out)
    ∙ out_if x (is_idle s.world c) (cycle s c None false) (stays s) (out_cycle c None false s x out) out

out_comes_to : (o : Option Insert) (u c : ℕ) → StaysOut (λ s. comes_to o s u c)
unfolding comes_to
out_comes_to None u c s x out = out_wake_target c (insert_or_put None s u c).state x (out_put u c 1 s x out)
out_comes_to (Some i) u c s x out = out_wake_target c (insert_or_put (Some i) s u c).state x (out_enters u (for_cpu c i) s x out)

-- for the processor that was answered
abbrev aimed : ℕ → Option ℕ → State → ℕ
aimed u a s = target (acting s callback.SelectCpu) s.world u a

abbrev settled_by : ℕ → Option ℕ → State → Stepped
settled_by u a s = settle (chosen (acting s callback.SelectCpu) s u) u (aimed u a s)

settles_by : (u : ℕ) (a : Option ℕ) (s : State) → is_by_linux s ≡ false → settled_by u a s ≡ settled u (aimed u a s) s
settles_by u a s e = ap (λ (x : State). settle x u (aimed u a s)) (not_chosen (acting s callback.SelectCpu) s u e) ∙ settles s u (aimed u a s) e

out_settled_by : (u : ℕ) (a : Option ℕ) → StaysOut (settled_by u a)
out_settled_by u a s x out =
    ap (λ (r : Stepped). r.state.world.ejected) (settles_by u a s (plain_out s.world x out)) ∙ out_comes_to s.world.call.insert u (aimed u a s) s x out

asleep_ejected : (w : WorldState) (u : ℕ) → (after_sleep w u).ejected ≡ w.ejected
asleep_ejected w u = keeps_if (λ (v : WorldState). v.ejected ≡ w.ejected) (nat_lt u (length w.tasks)) _ w refl refl

asleep_rules : (w : WorldState) (u : ℕ) → (after_sleep w u).rules ≡ w.rules
asleep_rules w u = keeps_if (λ (v : WorldState). v.rules ≡ w.rules) (nat_lt u (length w.tasks)) _ w refl refl

out_falls_asleep : (u c : ℕ) → StaysOut (λ s. falls_asleep s u c)
unfolding falls_asleep
out_falls_asleep u c s x out =
    let v = with_world s (after_sleep s.world u) in
    let there = asleep_ejected s.world u ∙ out in
    ap (λ (y : State). y.world.ejected) (not_called v callback.Quiescent (task_and_number u 1) u c (plain_out v.world x there)) ∙ there

out_looks_after_sleep : (u c : ℕ) → StaysOut (λ s. looks_after_sleep s u c)
unfolding looks_after_sleep
out_looks_after_sleep u c s x out =
    ap (λ (y : State). (cycle y c None true).state.world.ejected) (not_told s u (plain_out s.world x out)) ∙ out_cycle c None true s x out

-- a task that left its processor sleeps, and the processor looks for another
abbrev leaves_it : ℕ → ℕ → State → Stepped
leaves_it u c s = let q = falls_asleep s u c in one_after_other q (looks_after_sleep q.state u c)

out_leaves_it : (u c : ℕ) → StaysOut (leaves_it u c)
out_leaves_it u c s x out = out_looks_after_sleep u c (falls_asleep s u c).state x (out_falls_asleep u c s x out)

-- one that is throttled is parked
abbrev parks_it : ℕ → ℕ → State → Stepped
parks_it u c s = let q = park s u in one_after_other q (cycle q.state c None true)

out_parks_it : (u c : ℕ) → StaysOut (parks_it u c)
out_parks_it u c s x out = out_cycle c None true (park s u).state x ((honest_park s u).stays x out)

out_let_go_one : (u : ℕ) → StaysOut (λ s. let_go_one s u)
unfolding let_go_one
out_let_go_one u s x out =
    let c = (task_at s.world u).prev_cpu in
    let r = put (with_world s (let_go s.world u)) u c 0 in
    let there = out_put u c 0 (with_world s (let_go s.world u)) x out in
    ap (λ (y : State). y.world.ejected) (not_kicked r.state c (plain_out r.state.world x there)) ∙ there

out_let_go_from : (n : ℕ) (at : Option ℕ) → StaysOut (λ s. let_go_from n s at)
unfolding let_go_from
out_let_go_from zero at s x out = out
out_let_go_from (suc n) None s x out = out
out_let_go_from (suc n) (Some u) s x out =
    let next = behind_of s.world.queues u in
    let r = let_go_one s u in
    out_if x (is_throttled s.world u) (let_go_from n s next) (one_after_other r (let_go_from n r.state next)) (out_let_go_from n next s x out) (out_let_go_from n next r.state x (out_let_go_one u s x out))

out_watch : StaysOut watch
unfolding watch
out_watch s x out = ap (λ (d : Bool). (eject_if_stalled (cond d None (first_overdue s.world s.policy.timeout_ms)) s).state.world.ejected) (ap is_some out) ∙ out

out_timers : StaysOut timers_and_watchdog
unfolding timers_and_watchdog
out_timers s x out = ap (λ (y : State). (watch y).state.world.ejected) (no_timers s (plain_out s.world x out)) ∙ out_watch s x out

-- ---- who waits too long

place_same : (f : Task → Bool) → ((x : Task) → f x ≡ f (uncounted x)) → (xs : List Task) → position_or_len f xs ≡ position_or_len f (all_uncounted xs)
place_same f k [] = refl
place_same f k (x ∷ xs) = ap (λ (b : Bool). cond (not b) (1 + position_or_len f xs) 0) (k x) ∙ ap (λ (n : ℕ). cond (not (f (uncounted x))) (1 + n) 0) (place_same f k xs)

first_same : (f : Task → Bool) → ((x : Task) → f x ≡ f (uncounted x)) → (xs : List Task) → position f xs ≡ position f (all_uncounted xs)
first_same f k xs =
    ap (λ (n : ℕ). cond (nat_lt n (length xs)) (Some n) None) (place_same f k xs)
    ∙ ap (λ (l : ℕ). cond (nat_lt (position_or_len f (all_uncounted xs)) l) (Some (position_or_len f (all_uncounted xs))) None) (length_same xs)

overdue_same : (s : State) → overdue s ≡ overdue (uncounted_state s)
overdue_same s = ap (λ (o : Option ℕ). cond (is_ejected s) None o) (first_same (is_overdue s.world.clock s.policy.timeout_ms) (λ x. refl) s.world.tasks)

-- ---- the processor that is meant

answered_cpu_same : (w : WorldState) (u : ℕ) (a : Option ℕ) → answered_cpu w u a ≡ answered_cpu (without_counts w) u a
answered_cpu_same w u None = choice_same w u
answered_cpu_same w u (Some n) = ap (λ (c : ℕ). cond (nat_lt n (length w.cpus)) (cpu_or_home w u n) c) (choice_same w u)

target_same : (q : Option VerifiedProgram) (w : WorldState) (u : ℕ) (a : Option ℕ) → target q w u a ≡ target q (without_counts w) u a
target_same None w u a = choice_same w u
target_same (Some q) w u a = answered_cpu_same w u a

-- ---- what groups have used

pub used_tasks : (w : WorldState) (u : ℕ) → (used_ms w u).tasks ≡ w.tasks
used_tasks w u = keeps_if (λ (v : WorldState). v.tasks ≡ w.tasks) (nat_lt u (length w.tasks)) _ w refl refl

used_ejected : (w : WorldState) (u : ℕ) → (used_ms w u).ejected ≡ w.ejected
used_ejected w u = keeps_if (λ (v : WorldState). v.ejected ≡ w.ejected) (nat_lt u (length w.tasks)) _ w refl refl

used_rules : (w : WorldState) (u : ℕ) → (used_ms w u).rules ≡ w.rules
used_rules w u = keeps_if (λ (v : WorldState). v.rules ≡ w.rules) (nat_lt u (length w.tasks)) _ w refl refl

pub used_slice : (w : WorldState) (u : ℕ) → ((task_at (used_ms w u) u).slice == 0) ≡ ((task_at w u).slice == 0)
used_slice w u = ap (λ (xs : List Task). (get_or xs u no_task).slice == 0) (used_tasks w u)

module _ (p : PolicyState) (told : AskAnyhow LoadsNoCount p) where
  abbrev Evens : State → State → Type 0
  Evens s t = IsEven p told s t

  prev_there : (u : ℕ) (s t : State) → Evens s t → (task_at s.world u).prev_cpu ≡ (task_at t.world u).prev_cpu
  prev_there u s t e = prev_same s.world u ∙ ap (λ (x : State). (task_at x.world u).prev_cpu) e.same ∙ sym (prev_same t.world u)

  throttled_there : (u : ℕ) (s t : State) → Evens s t → is_throttled s.world u ≡ is_throttled t.world u
  throttled_there u s t e = throttled_same s.world u ∙ ap (λ (x : State). is_throttled x.world u) e.same ∙ sym (throttled_same t.world u)

  -- a policy in force or out of it, the machine goes by plain rules
  pub plain_ends : (s t : State) → Ends p told s t → (is_by_linux s ≡ false) × (is_by_linux t ≡ false)
  plain_ends s t h = go s.world.ejected refl
    where
      go : (o : Option Eject) → s.world.ejected ≡ o → (is_by_linux s ≡ false) × (is_by_linux t ≡ false)
      go None is = (plainly p told s t (h.1 is), plainly_there p told s t (h.1 is))
      go (Some x) is = (plain_out s.world x is, plain_out t.world x (sym h.0 ∙ is))

  -- ---- a task wakes

  on_wake_target : (c : ℕ) → On p told (λ s. wake_target s c)
  unfolding wake_target
  on_wake_target c s t e =
      otherwise (Meet p told) (is_by_linux s) (is_by_linux t) (stays (kicked_if_idle (woken s) c)) (stays (kicked_if_idle (woken t) c)) (looks c s) (looks c t) (plainly p told s t e) (plainly_there p told s t e)
      (ends_if p told (is_idle s.world c) (is_idle t.world c) (cycle s c None false) (cycle t c None false) (stays s) (stays t) (ap (λ (x : State). is_idle x.world c) e.same) (on_cycle p told c None false s t e) (even_ends p told s t e))

  on_inserted : (o : Option Insert) (u c : ℕ) → On p told (λ s. insert_or_put o s u c)
  on_inserted None u c s t e = on_put p told u c 1 s t e
  on_inserted (Some i) u c s t e = even_ends p told (enters s u (for_cpu c i)).state (enters t u (for_cpu c i)).state (still_enters p told u (for_cpu c i) s t e)

  on_comes_to : (o : Option Insert) (u c : ℕ) → On p told (λ s. comes_to o s u c)
  unfolding comes_to
  on_comes_to o u c = chain p told (λ s. insert_or_put o s u c) (λ s. wake_target s c) (on_inserted o u c) (on_wake_target c) (out_wake_target c)

  on_settled : (u c : ℕ) → On p told (settled u c)
  on_settled u c s t e =
      subst (λ (o : Option Insert). Meet p told (settled u c s) (comes_to o t u c)) (ap (λ (x : State). x.world.call.insert) e.same) (on_comes_to s.world.call.insert u c s t e)

  aimed_there : (u : ℕ) (a : Option ℕ) (s t : State) → Evens s t → aimed u a s ≡ aimed u a t
  aimed_there u a s t e =
      target_same (acting s callback.SelectCpu) s.world u a ∙ ap (aimed u a) e.same ∙ sym (target_same (acting t callback.SelectCpu) t.world u a)

  on_settled_by : (u : ℕ) (a : Option ℕ) → On p told (settled_by u a)
  on_settled_by u a s t e =
      as_they_are p told (Ends p told) (settled u (aimed u a s) s).state (settled_by u a s).state (settled u (aimed u a t) t).state (settled_by u a t).state
      (ap (λ (r : Stepped). r.state) (settles_by u a s (plainly p told s t e))) (ap (λ (r : Stepped). r.state) (settles_by u a t (plainly_there p told s t e)))
      (subst (λ (c : ℕ). Meet p told (settled u (aimed u a s) s) (settled u c t)) (aimed_there u a s t e) (on_settled u (aimed u a s) s t e))

  -- with that processor as the one on which it ran last
  abbrev selected : ℕ → ℕ → State → Stepped
  selected u c s =
      let r = call_back s callback.SelectCpu (task_cpu_and_0 u c) u c in
      one_after_other r (settled_by u (answered_by s callback.SelectCpu (task_cpu_and_0 u c) u c) r.state)

  on_selected : (u c : ℕ) → On p told (selected u c)
  on_selected u c s t e =
      let a = task_cpu_and_0 u c in
      let r = call_back s callback.SelectCpu a u c in
      let q = call_back t callback.SelectCpu a u c in
      let n = answered_by s callback.SelectCpu a u c in
      subst (λ (o : Option ℕ). Meet p told (settled_by u n r.state) (settled_by u o q.state)) (answered_same p told callback.SelectCpu a u c s t e)
      (after_ends p told (settled_by u n) (on_settled_by u n) (out_settled_by u n) r.state q.state (on_call_back p told callback.SelectCpu a u c s t e))

  on_ask_target : (u : ℕ) → On p told (λ s. ask_target s u)
  unfolding ask_target
  on_ask_target u s t e =
      subst (λ (c : ℕ). Meet p told (selected u (task_at s.world u).prev_cpu s) (selected u c t)) (prev_there u s t e) (on_selected u (task_at s.world u).prev_cpu s t e)

  on_select : (u : ℕ) → On p told (λ s. select s u)
  unfolding select
  on_select u s t e =
      surely (Meet p told) (asks_target s u) (asks_target t u) (ask_target s u) (ask_target t u) (settle_at_home s u (first_home s.world u)) (settle_at_home t u (first_home t.world u)) (asks s u (plainly p told s t e)) (asks t u (plainly_there p told s t e)) (on_ask_target u s t e)

  pub on_wake : (u : ℕ) → On p told (λ s. wake s u)
  unfolding wake
  on_wake u s t e =
      let v = with_world s (after_wake s.world u) in
      let w = with_world t (after_wake t.world u) in
      let k = even_step p told (λ x. after_wake x u) (leaves_wake u) s t e refl refl in
      as_they_are p told (λ x y. Ends p told (select x u).state (select y u).state) v (from_waker v u) w (from_waker w u) (not_waked v u (plainly p told v w k)) (not_waked w u (plainly_there p told v w k)) (on_select u v w k)

  -- ---- a task goes to sleep

  still_falls_asleep : (u c : ℕ) → Still p told (λ s. falls_asleep s u c)
  unfolding falls_asleep
  still_falls_asleep u c s t e =
      let v = with_world s (after_sleep s.world u) in
      let w = with_world t (after_sleep t.world u) in
      let a = task_and_number u 1 in
      let k = even_step p told (λ x. after_sleep x u) (leaves_sleep u) s t e (asleep_ejected s.world u) (asleep_rules s.world u) in
      as_they_are p told Evens v (call_by_linux v callback.Quiescent a u c).state w (call_by_linux w callback.Quiescent a u c).state
      (not_called v callback.Quiescent a u c (plainly p told v w k)) (not_called w callback.Quiescent a u c (plainly_there p told v w k)) k

  on_looks_after_sleep : (u c : ℕ) → On p told (λ s. looks_after_sleep s u c)
  unfolding looks_after_sleep
  on_looks_after_sleep u c s t e =
      as_they_are p told (λ x y. Ends p told (cycle x c None true).state (cycle y c None true).state) s (told_of_sleep s u) t (told_of_sleep t u) (not_told s u (plainly p told s t e)) (not_told t u (plainly_there p told s t e)) (on_cycle p told c None true s t e)

  on_leaves_it : (u c : ℕ) → On p told (leaves_it u c)
  on_leaves_it u c s t e = on_looks_after_sleep u c (falls_asleep s u c).state (falls_asleep t u c).state (still_falls_asleep u c s t e)

  on_leaves_cpu : (c u n : ℕ) → On p told (λ s. leaves_cpu s c u n)
  unfolding leaves_cpu
  on_leaves_cpu c u n s t e =
      let off : State → WorldState → State = λ x w. with_world x (after_stop w c u) in
      as_they_are p told (λ x y. Ends p told (after_stopping x c u n).state (after_stopping y c u n).state) (off s s.world) (off s (with_switch s.world c)) (off t t.world) (off t (with_switch t.world c))
      (ap (off s) (not_switching s.world c (plainly p told s t e))) (ap (off t) (not_switching t.world c (plainly_there p told s t e))) (on_stopping p told c u n (off s s.world) (off t t.world) (even_stop p told c u s t e))

  on_sleep_from_cpu : (u c : ℕ) → On p told (λ s. sleep_from_cpu s u c)
  unfolding sleep_from_cpu
  on_sleep_from_cpu u c = chain p told (λ s. leaves_cpu s c u 0) (leaves_it u c) (on_leaves_cpu c u 0) (on_leaves_it u c) (out_leaves_it u c)

  left_queue : (s : State) (u c flags : ℕ) → is_by_linux s ≡ false → (leaves_queue s u c flags).state ≡ with_world s (after_leave s.world u)
  unfolding leaves_queue tells_dequeued
  left_queue s u c flags e =
      let v = with_world s (after_leave s.world u) in
      let a = task_and_number u flags in
      keeps_if (λ (r : Stepped). r.state ≡ v) (is_in_custody s.world u) (call_by_linux v callback.Dequeue a u c) (stays v) (not_called v callback.Dequeue a u c e) refl

  on_sleep_from_queue : (u c : ℕ) → On p told (λ s. sleep_from_queue s u c)
  unfolding sleep_from_queue
  on_sleep_from_queue u c s t e =
      let v = with_world s (after_leave s.world u) in
      let w = with_world t (after_leave t.world u) in
      let k = still_leave_queue p told u s t e in
      as_they_are p told (λ x y. Ends p told (falls_asleep x u c).state (falls_asleep y u c).state) v (leaves_queue s u c 1).state w (leaves_queue t u c 1).state
      (left_queue s u c 1 (plainly p told s t e)) (left_queue t u c 1 (plainly_there p told s t e))
      (even_ends p told (falls_asleep v u c).state (falls_asleep w u c).state (still_falls_asleep u c v w k))

  on_sleep_from : (o : Option ℕ) (u : ℕ) → On p told (λ s. sleep_from o s u)
  on_sleep_from None u s t e =
      subst (λ (c : ℕ). Meet p told (sleep_from_queue s u (task_at s.world u).prev_cpu) (sleep_from_queue t u c)) (prev_there u s t e) (on_sleep_from_queue u (task_at s.world u).prev_cpu s t e)
  on_sleep_from (Some c) u s t e = on_sleep_from_cpu u c s t e

  pub on_sleep : (u : ℕ) → On p told (λ s. sleep s u)
  unfolding sleep
  on_sleep u s t e =
      subst (λ (o : Option ℕ). Meet p told (sleep_from (cpu_of s.world u) s u) (sleep_from o t u)) (ap (λ (x : State). cpu_of x.world u) e.same) (on_sleep_from (cpu_of s.world u) u s t e)

  -- ---- the clock

  on_let_go_one : (u : ℕ) → On p told (λ s. let_go_one s u)
  unfolding let_go_one
  on_let_go_one u s t e =
      let c = (task_at s.world u).prev_cpu in
      let d = (task_at t.world u).prev_cpu in
      let v = with_world s (let_go s.world u) in
      let w = with_world t (let_go t.world u) in
      let k = even_step p told (λ x. let_go x u) (leaves_let_go u) s t e refl refl in
      let h = subst (λ (n : ℕ). Meet p told (put v u c 0) (put w u n 0)) (prev_there u s t e) (on_put p told u c 0 v w k) in
      let plains = plain_ends (put v u c 0).state (put w u d 0).state h in
      as_they_are p told (Ends p told) (put v u c 0).state (kicked_if_idle (put v u c 0).state c) (put w u d 0).state (kicked_if_idle (put w u d 0).state d) (not_kicked (put v u c 0).state c plains.0) (not_kicked (put w u d 0).state d plains.1) h

  on_let_go_from : (n : ℕ) (at : Option ℕ) → On p told (λ s. let_go_from n s at)
  unfolding let_go_from
  on_let_go_from zero at s t e = even_ends p told s t e
  on_let_go_from (suc n) None s t e = even_ends p told s t e
  on_let_go_from (suc n) (Some u) s t e =
      let next = behind_of s.world.queues u in
      let more : Option ℕ → State → Stepped = λ o x. cond (is_throttled x.world u) (let_go_from n x o) (let r = let_go_one x u in one_after_other r (let_go_from n r.state o)) in
      subst (λ (o : Option ℕ). Meet p told (more next s) (more o t)) (ap (λ (x : State). behind_of x.world.queues u) e.same)
      (ends_if p told (is_throttled s.world u) (is_throttled t.world u) (let_go_from n s next) (let_go_from n t next) (let r = let_go_one s u in one_after_other r (let_go_from n r.state next)) (let r = let_go_one t u in one_after_other r (let_go_from n r.state next))
      (throttled_there u s t e) (on_let_go_from n next s t e)
      (chain p told (λ x. let_go_one x u) (λ x. let_go_from n x next) (on_let_go_one u) (on_let_go_from n next) (out_let_go_from n next) s t e))

  on_let_all_go : On p told let_all_go
  unfolding let_all_go
  on_let_all_go s t e =
      let m : State → ℕ = λ x. len_of x.world.queues parked_queue in
      let f : State → Option ℕ = λ x. front_of x.world.queues parked_queue in
      subst (λ (o : Option ℕ). Meet p told (let_go_from (m s) s (f s)) (let_go_from (m t) t o)) (ap f e.same)
      (subst (λ (n : ℕ). Meet p told (let_go_from (m s) s (f s)) (let_go_from n t (f s))) (ap m e.same) (on_let_go_from (m s) (f s) s t e))

  stalls : (o : Option ℕ) → On p told (eject_if_stalled o)
  stalls None s t e = even_ends p told s t e
  stalls (Some u) s t e =
      let x : State → Eject = λ y. cause.Stall u y.world.clock in
      let here = (eject_sets s (x s)).1 in
      (here ∙ ap (λ (y : State). Some (x y)) e.same ∙ sym (eject_sets t (x t)).1, λ force. absurd (apart (eject s (x s)).state.world.ejected (x s) force here))

  on_watch : On p told watch
  unfolding watch
  on_watch s t e =
      subst (λ (o : Option ℕ). Meet p told (eject_if_stalled (overdue s) s) (eject_if_stalled o t)) (overdue_same s ∙ ap overdue e.same ∙ sym (overdue_same t)) (stalls (overdue s) s t e)

  on_timers : On p told timers_and_watchdog
  unfolding timers_and_watchdog
  on_timers s t e =
      as_they_are p told (λ x y. Ends p told (watch x).state (watch y).state) s (fire_all s).state t (fire_all t).state (no_timers s (plainly p told s t e)) (no_timers t (plainly_there p told s t e)) (on_watch s t e)

  pub on_clock : On p told clock
  unfolding clock
  on_clock s t e =
      let f : WorldState → WorldState = λ w. begun_periods (later w) in
      chain p told let_all_go timers_and_watchdog on_let_all_go on_timers out_timers (with_world s (f s.world)) (with_world t (f t.world)) (even_step p told f (λ w. plain (f w)) s t e refl refl)

  -- ---- a tick

  on_throttle : (c u : ℕ) → On p told (λ s. throttle s c u)
  unfolding throttle
  on_throttle c u =
      chain p told (λ s. leaves_cpu s c u 1) (parks_it u c) (on_leaves_cpu c u 1) (λ s t e. on_cycle p told c None true (park s u).state (park t u).state (still_park p told u s t e)) (out_parks_it u c)

  pub on_tick_idle : (c : ℕ) → On p told (λ s. tick_idle s c)
  unfolding tick_idle
  on_tick_idle c s t e =
      otherwise (Meet p told) (is_by_linux s) (is_by_linux t) (stays s) (stays t) (cycle s c None false) (cycle t c None false) (plainly p told s t e) (plainly_there p told s t e) (on_cycle p told c None false s t e)

  -- the slice of the task has run out in both states, or in none
  abbrev pub EndAlike : ℕ → State → State → Type 0
  EndAlike u s t = ((task_at s.world u).slice == 0) ≡ ((task_at t.world u).slice == 0)

  on_expire : (c u : ℕ) (s t : State) → Evens s t → EndAlike u s t → Meet p told (expire s c u) (expire t c u)
  unfolding expire
  on_expire c u s t e alike =
      let test : State → Bool = λ x. ((task_at x.world u).slice == 0) && ends_slices x in
      ends_if p told (test s) (test t) (cycle s c (Some u) true) (cycle t c (Some u) true) (stays s) (stays t)
      (ap (λ (b : Bool). b && ends_slices s) alike ∙ ap (λ (b : Bool). ((task_at t.world u).slice == 0) && b) (slices_end s (plainly p told s t e) ∙ sym (slices_end t (plainly_there p told s t e))))
      (on_cycle p told c (Some u) true s t e) (even_ends p told s t e)

  on_use_up : (c u : ℕ) (s t : State) → Evens s t → EndAlike u s t → Meet p told (use_up s c u) (use_up t c u)
  unfolding use_up
  on_use_up c u s t e alike =
      let v = with_world s (used_ms s.world u) in
      let w = with_world t (used_ms t.world u) in
      let k = even_step p told (λ x. used_ms x u) (leaves_used u) s t e (used_ejected s.world u) (used_rules s.world u) in
      ends_if p told (is_throttled v.world u) (is_throttled w.world u) (throttle v c u) (throttle w c u) (expire v c u) (expire w c u) (throttled_there u v w k) (on_throttle c u v w k)
      (on_expire c u v w k (used_slice s.world u ∙ alike ∙ sym (used_slice t.world u)))

  -- once the task has run for a millisecond
  pub on_count_down : (c u : ℕ) (s t : State) → Evens s t → Same (after_tick s.world u) s.world → Same (after_tick t.world u) t.world
      → EndAlike u (with_world s (after_tick s.world u)) (with_world t (after_tick t.world u)) → Meet p told (count_down s c u) (count_down t c u)
  unfolding count_down
  on_count_down c u s t e here there alike =
      let v = with_world s (after_tick s.world u) in
      let w = with_world t (after_tick t.world u) in
      let k = even_worlds p told s t e (after_tick s.world u) (after_tick t.world u) (here ∙ worlds_same p told s t e ∙ sym there) e.force e.rules in
      as_they_are p told (λ x y. Ends p told (use_up x c u).state (use_up y c u).state) v (tick_heard v c u).state w (tick_heard w c u).state (not_heard v c u (plainly p told v w k)) (not_heard w c u (plainly_there p told v w k)) (on_use_up c u v w k alike)
