-- By either rules and without quotas, a CPU that looks for a task and goes idle leaves no task that may run there in
-- queues that dispatch serves.
use Rattle.std.proofs.Common.{◌≡◌, ℕ, zero, suc, ◌+◌, ◌<◌, Bool, true, false, not, ◌==◌, ◌&&◌, if◌then◌else◌, List, ◌∷◌, length, set, get_or, Option, Some, None, is_none, is_some, option_map, refl, sym, ap, ◌∙◌, subst, arith, ◌⊎◌, inl, inr, nat_lt}
use Rattle.std.proofs.lemmas.Option.{same_Some}
use Rattle.std.proofs.lemmas.Bool.{eq-eqb, and_right}
use Rattle.std.proofs.lemmas.List.{length-set, get_or-set_same}
use Rattle.scx_dsq.specs.declared.entries.Entry.{Entry}
use Rattle.scx_dsq.specs.Queues.{entry_of, is_in, front_of}
use Rattle.scx_isa_semantics.specs.declared.callbacks.Callback.TheVariants as callback
use Rattle.scx_vm.specs.Programs.{VerifiedProgram}
use Rattle.scx_vm.specs.declared.arguments.Args.{Args}
use Rattle.scx_weights.specs.Hierarchy.{Hierarchy}
use Rattle.scx_weights.specs.Limits as limits
use Rattle.scx_weights.specs.Limits.{has_quota}
use Rattle.scx_sched_world.specs.declared.eject.Eject.{Eject}
use Rattle.scx_sched_world.specs.declared.notes.Note.{Note}
use Rattle.scx_sched_world.specs.CpuSets.{is_in_set, but_cpu}
use Rattle.scx_sched_world.specs.Ids.{global, local_on}
use Rattle.scx_sched_world.specs.World.{WorldState, task_at, running, without_kick, is_throttled}
use Rattle.scx_sched_world.specs.Tasks.{local_len, after_run, after_switch, after_cut_off, after_sleep, after_tick, used_ms}
use Rattle.scx_sched_world.proofs.Fronts.{front_in}
use Rattle.scx_sched_machine.specs.Steps.{State, Stepped, with_world, stays, one_after_other, is_ejected, is_by_linux, kicked}
use Rattle.scx_sched_policy.specs.Policy.{PolicyState}
use Rattle.scx_sched_machine.specs.Callbacks.{call_back, call_by_linux, cpu_and_task, two_numbers}
use Rattle.scx_sched_machine.specs.Custody.{tells_each, moved_as, hears_dequeue, tells_left}
use Rattle.scx_sched_machine.specs.Parking.{supply}
use Rattle.scx_sched_machine.specs.Cycle.{has_local, keeps_slice, supply_unless_kept, told_of, dispatch_called, after_dispatch, asks_again, tries, switched, leave, start as run_front, kept, rest, builtin_cycle, start_or_cycle, picked, refilled, is_local, start_picked, start_picked_or_cycle, give_up, tells_idle, tells_busy, makes_way, pick, pick_or_rest, keep_or_pick, conclude, ask, seek, look, cycling, cycle, hears_idle, falls_idle, becomes_idle, concluded}
use Rattle.scx_sched_machine.specs.Rounds.{cut_off_if, look_past, look_from, round}
use Rattle.scx_sched_machine.proofs.Choices.{keeps_if}
use Rattle.scx_sched_machine.proofs.Free.{supply_free}
use Rattle.scx_sched.specs.Ranges.{IsFine}
use Rattle.scx_sched.proofs.Blaming.{IsHonest, honest_joined, honest_call_back, honest_supply, honest_tries, honest_builtin_cycle, honest_look, honest_makes_way, honest_leaves_cpu, plain_on}
use Rattle.scx_sched.proofs.Clear.{IsClear, MayStart, IsPicked}
use Rattle.scx_sched.proofs.Ready.{picked_makes_way, linux_in_force}
use Rattle.scx_sched.proofs.Supplying.{supply_clears}
use Rattle.scx_sched.proofs.Marks.{kept_cycling}
use Rattle.scx_sched.proofs.Unchanged.{ruled_cycling, same_linux}
use Rattle.scx_sched.proofs.Skeleton.{IsKnown, once_for, keeps_running_on, keeps_switched, keeps_call_back, keeps_kicked}
use Rattle.scx_sched.proofs.Cycles.{MayStartUnlessKept, some_local, no_local, keeps_dispatched, keeps_tries, tries_clear, clear_now, keeps_leave, keeps_refilled, Left}
use Rattle.scx_sched.proofs.Fine.{fine_steps}
use Rattle.scx_sched.proofs.Events.{fine_inside, known_running, IsKeptByUse, cpus_used, fine_events, fine_ticked, keeps_leaves_cpu}
use Rattle.scx_sched.proofs.Idle.{start_busy}
use Rattle.scx_sched.proofs.Firsts.{no_front_is_empty}
use Rattle.scx_laws.specs.Serving.{ServesQueues}
use Rattle.scx_laws.specs.Looking.{HearsNothing, IdlesIfNobodyMayRun, LookingFindsATask, WokenFindsATask}
use Rattle.scx_laws.proofs.Emptying.{Empties, EmptiesIfIdle, look_either, seek_either, busy, out_stays, fill_empties, called_empties, out_empties, pick_empties, rest_empties}
use Rattle.scx_laws.proofs.Plain.{asleep_plain, busy_plain, concluded_plain, heard_plain, slept_plain, told_plain}
use Rattle.scx_sched_machine.specs.Events.{count_down, ends_slices, expire, leaves_cpu, looks_after_sleep, sleep_from_cpu, throttle, tick, tick_idle, tick_of, told_of_sleep, use_up}
use Rattle.scx_weights.proofs.KnownLimits.{none_throttled}

-- by plain rules, or by any where the policy has no such callback, it hears nothing as a CPU looks
abbrev pub IsQuiet : State → Type 0
IsQuiet s = (is_by_linux s ≡ false) ⊎ HearsNothing s.policy

-- a machine of such a policy
pub record IsServing (qs : List ℕ) (s : State) : Type 0 where
  pub serves : ServesQueues qs s.policy
  pub quiet : IsQuiet s
  pub free : has_quota s.world.tree.groups ≡ false

quiet_on : (s : State) (r : Stepped) → IsHonest s r → IsQuiet s → IsQuiet r.state
quiet_on s r honest (inl plain) = inl (plain_on s r honest plain)
quiet_on s r honest (inr unheard) = inr (subst HearsNothing (sym honest.policy) unheard)

-- so it is after a step
serving_on : (qs : List ℕ) (s : State) (r : Stepped) → IsHonest s r → IsServing qs s → IsServing qs r.state
serving_on qs s r honest h = record {
  serves = subst (λ (p : PolicyState). ServesQueues qs p) (sym honest.policy) h.serves;
  quiet = quiet_on s r honest h.quiet;
  free = ap (λ (t : Hierarchy). has_quota t.groups) honest.tree ∙ h.free;
}

-- a callback that isn't there isn't called
no_program : (b : Bool) (o : Option VerifiedProgram) → o ≡ None → (b && is_some o) ≡ false
no_program true None e = refl
no_program true (Some p) e = absurd (cc)
no_program false o e = refl

-- the policy hears of no task that left its custody
told_none : (s : State) (c : ℕ) (ns : List Note) → IsQuiet s → tells_left s c ns ≡ stays s
unfolding tells_left hears_dequeue
told_none s c ns (inl plain) = told_plain s plain c ns
told_none s c ns (inr unheard) =
    let r = tells_each ns s c in
    ap (λ b. if b then record r { state = moved_as s.world.call.has_moved r.state } else stays s) (no_program (is_by_linux s) _ unheard.dequeue)

-- nor of a CPU that goes idle
concluded_none : (s : State) (c : ℕ) (ran : Bool) → IsQuiet s → concluded s c ran ≡ stays (cycling s None)
unfolding concluded falls_idle hears_idle
concluded_none s c ran (inl plain) = concluded_plain s plain c ran
concluded_none s c false (inr unheard) = refl
concluded_none s c true (inr unheard) = ap (λ d. if d && is_none (running s.world c) then becomes_idle s c else stays (cycling s None)) (no_program (is_by_linux s) _ unheard.update_idle)

-- nor of one that is idle no more
busy_none : (s : State) (c : ℕ) (p : Option ℕ) (ran : Bool) → IsQuiet s → tells_busy s c p ran ≡ stays s
unfolding tells_busy tells_idle call_by_linux
busy_none s c p ran (inl plain) = busy_plain s plain c p ran
busy_none s c None false (inr unheard) = ap (λ b. if b then call_back s callback.UpdateIdle (two_numbers c 0) 0 c else stays s) (no_program (is_by_linux s) _ unheard.update_idle)
busy_none s c None true (inr unheard) = refl
busy_none s c (Some t) ran (inr unheard) = refl

way_none : (s : State) (c : ℕ) (p : Option ℕ) (ran : Bool) → IsQuiet s → (makes_way s c p ran).state ≡ (leave s c p).state
unfolding makes_way
way_none s c p ran quiet = ap (λ (r : Stepped). (leave r.state c p).state) (busy_none s c p ran quiet)

module _ (qs : List ℕ) (n e : ℕ) (c : ℕ) where
  -- the queues are empty, unless the task before keeps the CPU
  abbrev EmptiesUnlessKept : Option ℕ → State → Type 0
  EmptiesUnlessKept p s = keeps_slice s p ≡ false → Empties (global ∷ qs) c s.world

  -- ---- dispatch

  -- the state after dispatch
  dispatched_state : (s : State) (p : Option ℕ) → IsServing qs s → (after_dispatch s c p).state ≡ (supply_unless_kept (call_back s callback.Dispatch (cpu_and_task c (told_of s p)) 0 c).state c p).state
  unfolding after_dispatch dispatch_called
  dispatched_state s p such =
      let r = call_back s callback.Dispatch (cpu_and_task c (told_of s p)) 0 c in
      let still = serving_on qs s r (honest_call_back s callback.Dispatch (cpu_and_task c (told_of s p)) 0 c (λ x. absurd (cc))) such in
      ap (λ (v : Stepped). (supply_unless_kept v.state c p).state) (told_none r.state c _ still.quiet)

  module _ (m : ℕ) (on : List (Option ℕ)) (l : c < length on) where
    dispatched_serving : (s : State) (p : Option ℕ) → IsServing qs s → IsServing qs (after_dispatch s c p).state
    unfolding supply_unless_kept
    dispatched_serving s p such = subst (λ (v : State). IsServing qs v) (sym (dispatched_state s p such)) (keeps_if (λ (v : Stepped). IsServing qs v.state) (keeps_slice r.state p) (stays r.state) (supply r.state c) by_call (serving_on qs r.state (supply r.state c) (honest_supply r.state c) by_call))
      where
        r : Stepped
        r = call_back s callback.Dispatch (cpu_and_task c (told_of s p)) 0 c

        by_call : IsServing qs r.state
        by_call = serving_on qs s r (honest_call_back s callback.Dispatch (cpu_and_task c (told_of s p)) 0 c (λ x. absurd (cc))) such

    dispatched_empties : (s : State) (p : Option ℕ) → IsServing qs s → IsFine n e m None on s.world → EmptiesUnlessKept p (after_dispatch s c p).state
    unfolding supply_unless_kept
    dispatched_empties s p such h = subst (λ (v : State). EmptiesUnlessKept p v) (sym (dispatched_state s p such)) (go (keeps_slice r.state p) refl)
      where
        a : Args
        a = cpu_and_task c (told_of s p)

        r : Stepped
        r = call_back s callback.Dispatch a 0 c

        honest : IsHonest s r
        honest = honest_call_back s callback.Dispatch a 0 c (λ x. absurd (cc))

        by_call : IsServing qs r.state
        by_call = serving_on qs s r honest such

        supplied : (o : Option Eject) → s.world.ejected ≡ o → Empties (global ∷ qs) c (supply r.state c).state.world
        supplied None force =
            subst (λ (v : Stepped). Empties (global ∷ qs) c v.state.world) (sym (supply_free r.state c by_call.free))
            (fill_empties qs n e c m on r.state l (keeps_call_back n (IsFine n e) (fine_steps n e) m None on s callback.Dispatch a 0 c l h) (called_empties qs n e c m on s (told_of s p) l such.serves force h))
        supplied (Some x) out = λ force empty. absurd (out_stays s (one_after_other r (supply r.state c)) (honest_joined s r (supply r.state c) honest (honest_supply r.state c)) (ap (λ (o : Option Eject). is_some o) out) force)

        go : (b : Bool) → keeps_slice r.state p ≡ b → EmptiesUnlessKept p (if b then stays r.state else supply r.state c).state
        go true keeps = λ off. let bad : true ≡ false = sym keeps ∙ off in absurd (cc)
        go false off = λ x. supplied s.world.ejected refl

    tries_go : (j : ℕ) (p : Option ℕ) (d : Stepped) (b : Bool) → EmptiesUnlessKept p d.state → (EmptiesUnlessKept p d.state → EmptiesUnlessKept p (tries j d.state c p).state) → EmptiesUnlessKept p (if b then one_after_other d (tries j d.state c p) else d).state
    tries_go j p d true y more = more y
    tries_go j p d false y more = y

    tries_empty : (j : ℕ) (s : State) (p : Option ℕ) → IsServing qs s → IsFine n e m None on s.world → EmptiesUnlessKept p s → EmptiesUnlessKept p (tries j s c p).state
    unfolding tries
    tries_empty zero s p such h y = y
    tries_empty (suc j) s p such h y =
        let d = after_dispatch s c p in
        tries_go j p d (asks_again d.state c p) (dispatched_empties s p such h) (tries_empty j d.state p (dispatched_serving s p such) (keeps_dispatched n (IsFine n e) (fine_inside n e) m on s c p l h))

    tries_at_once : (k : ℕ) (s : State) (p : Option ℕ) → 0 < k → IsServing qs s → IsFine n e m None on s.world → EmptiesUnlessKept p (tries k s c p).state
    unfolding tries
    tries_at_once zero s p some such h = absurd (omega (arith, some))
    tries_at_once (suc k) s p some such h =
        let d = after_dispatch s c p in
        tries_go k p d (asks_again d.state c p) (dispatched_empties s p such h) (tries_empty k d.state p (dispatched_serving s p such) (keeps_dispatched n (IsFine n e) (fine_inside n e) m on s c p l h))

  -- ---- who comes to run

  -- a task that keeps the CPU runs
  kept_busy : (m : ℕ) (on : List (Option ℕ)) (s : State) (p : Option ℕ) → get_or on c None ≡ p → IsFine n e m None on s.world → keeps_slice s p ≡ true → EmptiesIfIdle qs c (kept s p).world
  unfolding switched
  kept_busy m on s None runs h keeps = absurd (cc)
  kept_busy m on s (Some t) runs h keeps =
      let here : is_none (running s.world c) ≡ false = rw (h.sound.cpus, runs) refl in
      keeps_if (λ (v : State). EmptiesIfIdle qs c v.world) (is_by_linux s && not (s.policy.tick_ms == 0)) (with_world s (after_switch s.world t)) s (busy qs c (after_switch s.world t) here) (busy qs c s.world here)

  -- so does one that was picked, from wherever it waits in the local queue
  picked_busy : (m : ℕ) (on : List (Option ℕ)) (s : State) (t : ℕ) → c < length on → get_or on c None ≡ None → is_local s c t ≡ true → limits.is_throttled s.world.tree t ≡ false → IsFine n e m None on s.world → is_none (running (start_picked s c t).state.world c) ≡ false
  unfolding start_picked
  picked_busy m on s t l free here may h =
      let l' : c < length (set on c (Some t)) = rw (length-set on c (Some t)) l in
      let v = with_world s (after_run s.world c t) in
      let x = keeps_running_on n (IsFine n e) (fine_steps n e) m None (set on c (Some t)) (switched v t) c t l' (keeps_switched n (IsFine n e) (fine_steps n e) m None (set on c (Some t)) v t ((fine_steps n e).ran m on s.world c t l free here may h)) in
      rw (x.sound.cpus, get_or-set_same on c (Some t) None l) refl

  -- where an ejection took it away the policy is out of force
  start_picked_empties : (m : ℕ) (on : List (Option ℕ)) (s : State) (t : ℕ) (ran : Bool) → c < length on → get_or on c None ≡ None → IsPicked c t s.world → limits.is_throttled s.world.tree t ≡ false → IsFine n e m None on s.world → EmptiesIfIdle qs c (start_picked_or_cycle (Some t) s c ran).state.world
  unfolding start_or_cycle
  start_picked_empties m on s t ran l free x may h = go (is_local s c t) refl
    where
      out : is_local s c t ≡ false → (o : Option Eject) → s.world.ejected ≡ o → is_some s.world.ejected ≡ true
      out gone None force = let bad : true ≡ false = sym (x.there force) ∙ gone in absurd (cc)
      out gone (Some y) is = ap (λ (o : Option Eject). is_some o) is

      anew : is_some s.world.ejected ≡ true → (b : Bool) → has_local s c ≡ b → EmptiesIfIdle qs c (if b then run_front s c else builtin_cycle s c None ran).state.world
      anew away true some = busy qs c (run_front s c).state.world (start_busy n e c m on s l free (x.none away) h (some_local (local_len s.world c) (local_len s.world c == 0) refl some))
      anew away false none = out_empties qs n e c s (builtin_cycle s c None ran) (honest_builtin_cycle s c None ran) away

      go : (b : Bool) → is_local s c t ≡ b → EmptiesIfIdle qs c (if b then start_picked s c t else start_or_cycle s c ran).state.world
      go true here = busy qs c (start_picked s c t).state.world (picked_busy m on s t l free here may h)
      go false gone = anew (out gone s.world.ejected refl) (has_local s c) refl

  -- the front of a queue is in it
  front_there : (s : State) (t : ℕ) → front_of s.world.queues (local_on c) ≡ Some t → is_in (local_on c) (entry_of s.world.queues t) ≡ true
  front_there s t e = go (entry_of s.world.queues t) (front_in s.world.queues (local_on c) t e)
    where
      go : (o : Option Entry) → option_map (λ (q : Entry). q.queue) o ≡ Some (local_on c) → is_in (local_on c) o ≡ true
      go None x = absurd (cc)
      go (Some q) x = eq-eqb q.queue (local_on c) (same_Some q.queue (local_on c) x)

  -- by Linux rules the front is picked before the task before leaves
  pick_linux : (m : ℕ) (on : List (Option ℕ)) (s : State) (p : Option ℕ) (ran : Bool) → is_by_linux s ≡ true → IsQuiet s → c < length on → IsKnown n p → get_or on c None ≡ p → has_local s c ≡ true → IsClear c s.world → IsFine n e m None on s.world → EmptiesIfIdle qs c (pick s c p ran).state.world
  unfolding pick picked
  pick_linux m on s p ran linux quiet l known runs some clear-now h =
      subst (λ b. EmptiesIfIdle qs c (after_pick (if b then front_of s.world.queues (local_on c) else None)).state.world) (sym linux) (by_front (front_of s.world.queues (local_on c)) refl)
    where
      after_pick : Option ℕ → Stepped
      after_pick o = start_picked_or_cycle o (makes_way (refilled s o) c p ran).state c ran

      by_front : (o : Option ℕ) → front_of s.world.queues (local_on c) ≡ o → EmptiesIfIdle qs c (after_pick o).state.world
      by_front None f = absurd (omega (arith, no_front_is_empty s.world.queues (local_on c) f, some_local (local_len s.world c) (local_len s.world c == 0) refl some))
      by_front (Some t) f =
          let v = refilled s (Some t) in
          let y = keeps_refilled n (IsFine n e) (fine_inside n e) m on s (Some t) h in
          let left = subst (λ (r : State). Left n (IsFine n e) (fine_inside n e) (once_for p m) c r.world) (sym (way_none v c p ran quiet)) (keeps_leave n (IsFine n e) (fine_inside n e) m on v c p l known runs y) in
          let none : is_some v.world.ejected ≡ true → IsClear c v.world = λ out. let bad : true ≡ false = sym out ∙ ap (λ (o : Option Eject). is_some o) (linux_in_force s linux) in absurd (cc) in
          let z = picked_makes_way n (IsFine n e) (fine_steps n e) (fine_inside n e).sound c t m on v c p ran l known runs y (record { there = λ force. front_there s t f; none = none }) in
          start_picked_empties (once_for p m) left.0 (makes_way v c p ran).state t ran left.2 left.3 z (ap (λ (tree : Hierarchy). limits.is_throttled tree t) (honest_makes_way v c p ran).tree ∙ clear-now t f) left.1

  pick_any : (m : ℕ) (on : List (Option ℕ)) (s : State) (p : Option ℕ) (ran : Bool) → IsQuiet s → c < length on → IsKnown n p → get_or on c None ≡ p → has_local s c ≡ true → IsClear c s.world → IsFine n e m None on s.world → EmptiesIfIdle qs c (pick s c p ran).state.world
  pick_any m on s p ran quiet l known runs some clear-now h = go (is_by_linux s) refl
    where
      go : (b : Bool) → is_by_linux s ≡ b → EmptiesIfIdle qs c (pick s c p ran).state.world
      go true linux = pick_linux m on s p ran linux quiet l known runs some clear-now h
      go false plain = pick_empties qs n e c m on s p ran plain l known runs some clear-now h

  pick_or_rest_any : (m : ℕ) (on : List (Option ℕ)) (s : State) (p : Option ℕ) (ran : Bool) → IsQuiet s → c < length on → IsKnown n p → get_or on c None ≡ p → IsClear c s.world → IsFine n e m None on s.world → Empties (global ∷ qs) c s.world → EmptiesIfIdle qs c (pick_or_rest s c p ran).state.world
  unfolding pick_or_rest
  pick_or_rest_any m on s p ran quiet l known runs clear-now h y = go (has_local s c) refl
    where
      go : (b : Bool) → has_local s c ≡ b → EmptiesIfIdle qs c (if b then pick s c p ran else rest s c p ran).state.world
      go true z = pick_any m on s p ran quiet l known runs z clear-now h
      go false z = rest_empties qs n e c s p ran (λ force idle. let empty = no_local (local_len s.world c) (local_len s.world c == 0) refl z in (empty, y force empty))

  -- ---- a whole cycle

  conclude_any : (m : ℕ) (on : List (Option ℕ)) (s : State) (p : Option ℕ) (ran : Bool) → IsQuiet s → c < length on → IsKnown n p → get_or on c None ≡ p → MayStartUnlessKept n (IsFine n e) (fine_inside n e) m on c p s → IsFine n e m None on s.world → EmptiesUnlessKept p s → EmptiesIfIdle qs c (conclude s c p ran).state.world
  unfolding conclude keep_or_pick
  conclude_any m on s p ran quiet l known runs may h y = go (is_ejected s) refl (keeps_slice s p) refl
    where
      go : (b : Bool) → is_ejected s ≡ b → (d : Bool) → keeps_slice s p ≡ d → EmptiesIfIdle qs c (if b then builtin_cycle s c p ran else (if d then stays (kept s p) else pick_or_rest s c p ran)).state.world
      go true out d off = out_empties qs n e c s (builtin_cycle s c p ran) (honest_builtin_cycle s c p ran) out
      go false force true keeps = kept_busy m on s p runs h keeps
      go false force false off = pick_or_rest_any m on s p ran quiet l known runs (clear_now n (IsFine n e) (fine_inside n e) m on s c h (may off)) h (y off)

  -- by Linux rules a CPU that gives up is kicked
  gave_up : (m : ℕ) (on : List (Option ℕ)) (d : State) (p : Option ℕ) (ran : Bool) → IsQuiet d → c < length on → IsKnown n p → get_or on c None ≡ p → MayStartUnlessKept n (IsFine n e) (fine_inside n e) m on c p d → IsFine n e m None on d.world → EmptiesUnlessKept p d → EmptiesIfIdle qs c (conclude (give_up d c p) c p ran).state.world
  unfolding give_up
  gave_up m on d p ran quiet l known runs may h y =
      keeps_if (λ (r : State). EmptiesIfIdle qs c (conclude r c p ran).state.world) (is_by_linux d && asks_again d c p) (kicked d c) d
      (conclude_any m on (kicked d c) p ran quiet l known runs (kicked_may p may) (keeps_kicked n (IsFine n e) (fine_steps n e) m None on d c h) (kicked_empties p y))
      (conclude_any m on d p ran quiet l known runs may h y)
    where
      kicked_may : (q : Option ℕ) → MayStartUnlessKept n (IsFine n e) (fine_inside n e) m on c q d → MayStartUnlessKept n (IsFine n e) (fine_inside n e) m on c q (kicked d c)
      kicked_may None x = x
      kicked_may (Some t) x = x

      kicked_empties : (q : Option ℕ) → EmptiesUnlessKept q d → EmptiesUnlessKept q (kicked d c)
      kicked_empties None x = x
      kicked_empties (Some t) x = x

  ask_any : (m : ℕ) (on : List (Option ℕ)) (s : State) (p : Option ℕ) (ran : Bool) → IsServing qs s → c < length on → IsKnown n p → get_or on c None ≡ p → MayStart c s.world → IsFine n e m None on s.world → EmptiesIfIdle qs c (ask s c p ran).state.world
  unfolding ask
  ask_any m on s p ran such l known runs may h =
      let d = tries 32 s c p in
      let still = serving_on qs s d (honest_tries 32 s c p) such in
      gave_up m on d.state p ran still.quiet l known runs (tries_clear n (IsFine n e) (fine_inside n e) m on 32 s c p may) (keeps_tries n (IsFine n e) (fine_inside n e) m on 32 s c p l h) (tries_at_once m on l 32 s p (omega arith) such h)

  seek_any : (m : ℕ) (on : List (Option ℕ)) (s : State) (p : Option ℕ) (ran : Bool) → IsServing qs s → c < length on → IsKnown n p → get_or on c None ≡ p → IsFine n e m None on s.world → EmptiesIfIdle qs c (seek s c p ran).state.world
  seek_any m on s p ran such l known runs h =
      let f = (supply s c).state in
      let still = serving_on qs s (supply s c) (honest_supply s c) such in
      seek_either n e c (EmptiesIfIdle qs c) m on s p ran l h (λ z clear x. pick_any m on f p ran still.quiet l known runs z clear x) (λ x. ask_any m on f p ran still l known runs (supply_clears s c) x)

  look_any : (m : ℕ) (on : List (Option ℕ)) (s : State) (p : Option ℕ) (ran : Bool) → IsServing qs s → c < length on → IsKnown n p → get_or on c None ≡ p → IsFine n e m None on s.world → EmptiesIfIdle qs c (look s c p ran).state.world
  look_any m on s p ran such l known runs h =
      look_either (EmptiesIfIdle qs c) s c p ran (out_empties qs n e c s (builtin_cycle s c p ran) (honest_builtin_cycle s c p ran)) (seek_any m on s p ran such l known runs h)

  cycle_any : (m : ℕ) (on : List (Option ℕ)) (s : State) (p : Option ℕ) (ran : Bool) → IsServing qs s → c < length on → IsKnown n p → get_or on c None ≡ p → IsFine n e m None on s.world → EmptiesIfIdle qs c (cycle s c p ran).state.world
  unfolding cycle
  cycle_any m on s p ran such l known runs h =
      let v = cycling s (Some c) in
      let begun = ruled_cycling s.world (Some c) in
      let still : IsServing qs v = record { serves = such.serves; quiet = begins such.quiet; free = ap (λ (t : Hierarchy). has_quota t.groups) begun.2 ∙ such.free } in
      let x = look_any m on v p ran still l known runs ((fine_steps n e).cycling m None on s.world (Some c) h) in
      let r = look v c p ran in
      let after = serving_on qs v r (honest_look v c p ran) still in
      subst (λ (y : Stepped). EmptiesIfIdle qs c y.state.world) (sym (concluded_none r.state c ran after.quiet)) (kept_cycling (EmptiesIfIdle qs c) (λ w o a y waker g. λ force idle. g force idle) r.state.world None x)
    where
      begins : IsQuiet s → IsQuiet (cycling s (Some c))
      begins (inl plain) = let begun = ruled_cycling s.world (Some c) in inl (same_linux s.world (cycling s (Some c)).world begun.3 begun.1 ∙ plain)
      begins (inr unheard) = inr unheard

  -- ---- a round

  look_past_any : (m : ℕ) (on : List (Option ℕ)) (s : State) (t : ℕ) → IsServing qs s → c < length on → t < n → get_or on c None ≡ Some t → IsFine n e m None on s.world → EmptiesIfIdle qs c (look_past s c t).state.world
  unfolding look_past
  look_past_any m on s t such l known runs h =
      keeps_if (λ (r : Stepped). EmptiesIfIdle qs c r.state.world) ((task_at s.world t).slice == 0) (cycle s c (Some t) true) (stays s) (cycle_any m on s (Some t) true such l known runs h)
      (busy qs c s.world (rw (h.sound.cpus, runs) refl))

-- what was shown, in the words of the law
none_may_run : (qs : List ℕ) (w : WorldState) (c : ℕ) → EmptiesIfIdle qs c w → IdlesIfNobodyMayRun qs w c
none_may_run qs w c h force idle = let x = h force (ap (λ o. is_none o) idle) in record { served = x.1.1; local = x.0; global = x.1.0 }

-- what runs on a CPU is a task
known_on : (n e m : ℕ) (w : WorldState) (c : ℕ) (p : Option ℕ) → c < length w.cpus → running w c ≡ p → IsFine n e m None w.cpus w → IsKnown n p
known_on n e m w c None l at h = tt
known_on n e m w c (Some t) l at h = known_running n e m w c t l at h

-- the law of a CPU that looks
pub looking_finds : LookingFindsATask
looking_finds qs n e m s c p ran serves unheard free h l at =
    none_may_run qs (cycle s c p ran).state.world c (cycle_any qs n e c m s.world.cpus s p ran (record { serves = serves; quiet = inr unheard; free = free }) l (known_on n e m s.world c p l at h) at h)

-- and of one that was woken or kicked
pub woken_finds : WokenFindsATask
unfolding round
woken_finds qs n e m s c serves unheard free h l = none_may_run qs (look_from (running s.world c) (is_in_set s.world.preempted c) v c).state.world c (go (running s.world c) refl)
  where
    v : State
    v = with_world s (without_kick s.world c)

    such : IsServing qs v
    such = record { serves = serves; quiet = inr unheard; free = free }

    x : IsFine n e m None s.world.cpus v.world
    x = (fine_steps n e).sets m None s.world.cpus s.world s.world.claimed (but_cpu s.world.kicked c) (but_cpu s.world.preempted c) s.world.call.claims s.world.passing (λ d y. y) h

    cut : (b : Bool) (t : ℕ) → running s.world c ≡ Some t → EmptiesIfIdle qs c (look_past (cut_off_if b v t) c t).state.world
    cut false t at = look_past_any qs n e c m s.world.cpus v t such l (known_running n e m s.world c t l at h) at x
    cut true t at = look_past_any qs n e c m s.world.cpus (with_world v (after_cut_off v.world t)) t (record { serves = serves; quiet = inr unheard; free = free }) l (known_running n e m s.world c t l at h) at ((fine_steps n e).sliced m None s.world.cpus v.world t 0 x)

    go : (o : Option ℕ) → running s.world c ≡ o → EmptiesIfIdle qs c (look_from o (is_in_set s.world.preempted c) v c).state.world
    go None at = cycle_any qs n e c m s.world.cpus v None false such l tt at x
    go (Some t) at = cut (is_in_set s.world.preempted c) t at

-- ---- a tick, by plain rules

pub tick_empties : (qs : List ℕ) (n e : ℕ) (s : State) (c : ℕ) → is_by_linux s ≡ false → IsServing qs s → c < length s.world.cpus → IsFine n e e None s.world.cpus s.world → EmptiesIfIdle qs c (tick s c).state.world
unfolding tick tick_idle count_down use_up expire
tick_empties qs n e s c plain such l h = go (running s.world c) refl
  where
    go : (o : Option ℕ) → running s.world c ≡ o → EmptiesIfIdle qs c (tick_of o s c).state.world
    go None at = subst (λ b. EmptiesIfIdle qs c (if b then stays s else cycle s c None false).state.world) (sym plain) (cycle_any qs n e c e s.world.cpus s None false such l tt at h)
    go (Some t) at = subst (λ (r : Stepped). EmptiesIfIdle qs c (use_up r.state c t).state.world) (sym (heard_plain (with_world s (after_tick s.world t)) plain c t)) (by (is_throttled v.world t) refl unthrottled)
      where
        v : State
        v = with_world s (used_ms (after_tick s.world t) t)

        same : v.world.cpus ≡ s.world.cpus
        same = cpus_used (after_tick s.world t) t

        x : IsKeptByUse n (IsFine n (e + 1)) (fine_events n (e + 1)) e (after_tick s.world t) c t
        x = let ticks = fine_ticked n e e s.world c t l at h in ticks.uses (after_tick s.world t) refl refl ticks.ran

        known : t < n
        known = known_running n e e s.world c t l at h

        used : IsServing qs v
        used = keeps_if (λ (w : WorldState). IsServing qs (with_world s w)) (nat_lt t (length (after_tick s.world t).tasks)) _ (after_tick s.world t) (record { serves = such.serves; quiet = inl plain; free = such.free }) (record { serves = such.serves; quiet = inl plain; free = such.free })

        unthrottled : is_throttled v.world t ≡ false
        unthrottled = and_right (nat_lt t (length v.world.tasks)) (limits.is_throttled v.world.tree t) (none_throttled v.world.tree t used.free)

        by : (b : Bool) → is_throttled v.world t ≡ b → b ≡ false → EmptiesIfIdle qs c (if b then throttle v c t else expire v c t).state.world
        by true up off = absurd (cc)
        by false free off =
            keeps_if (λ (r : Stepped). EmptiesIfIdle qs c r.state.world) (((task_at v.world t).slice == 0) && ends_slices v) (cycle v c (Some t) true) (stays v)
            (cycle_any qs n (e + 1) c e s.world.cpus v (Some t) true used l known at (x.goes_on free))
            (busy qs c v.world (ap (λ (xs : List (Option ℕ)). is_none (get_or xs c None)) same ∙ ap (λ o. is_none o) at))

-- ---- a sleep

-- by plain rules a cycle leaves plain rules
cycle_plain : (s : State) (c : ℕ) (p : Option ℕ) (ran : Bool) → is_by_linux s ≡ false → is_by_linux (cycle s c p ran).state ≡ false
unfolding cycle
cycle_plain s c p ran plain =
    let v = cycling s (Some c) in
    let r = look v c p ran in
    let begun = ruled_cycling s.world (Some c) in
    let over = ruled_cycling r.state.world None in
    let still = plain_on v r (honest_look v c p ran) (same_linux s.world v.world begun.3 begun.1 ∙ plain) in
    subst (λ (y : Stepped). is_by_linux y.state ≡ false) (sym (concluded_plain r.state still c ran)) (same_linux r.state.world (cycling r.state None).world over.3 over.1 ∙ still)

-- the sleep of a task that runs is a cycle of its processor, once it is asleep
sleep_state : (s : State) (t c : ℕ) → (let r = (leaves_cpu s c t 0).state in is_by_linux (with_world r (after_sleep r.world t)) ≡ false → (sleep_from_cpu s t c).state ≡ (cycle (with_world r (after_sleep r.world t)) c None true).state)
unfolding sleep_from_cpu looks_after_sleep
sleep_state s t c plain =
    let r = (leaves_cpu s c t 0).state in
    ap (λ (y : Stepped). (cycle (told_of_sleep y.state t) c None true).state) (asleep_plain r t plain c)
    ∙ ap (λ (y : State). (cycle y c None true).state) (slept_plain (with_world r (after_sleep r.world t)) plain t)

-- after it
pub record IsSlept (qs : List ℕ) (s : State) (c : ℕ) : Type 0 where
  pub empties : EmptiesIfIdle qs c s.world
  pub plain : is_by_linux s ≡ false

pub sleep_empties : (qs : List ℕ) (n e : ℕ) (s : State) (t c : ℕ) → is_by_linux s ≡ false → IsServing qs s → t < n → c < length s.world.cpus → get_or s.world.cpus c None ≡ Some t → IsFine n e e None s.world.cpus s.world → IsSlept qs (sleep_from_cpu s t c).state c
sleep_empties qs n e s t c plain such within l runs h =
    let on = set s.world.cpus c None in
    let l' : c < length on = rw (length-set s.world.cpus c None) l in
    let x = leaves_cpu s c t 0 in
    let r = x.state in
    let v = with_world r (after_sleep r.world t) in
    let off : IsFine n e (e + 1) (Some t) on r.world = keeps_leaves_cpu n (IsFine n e) (fine_events n e) e on s c t 0 l' ((fine_steps n e).stopped e s.world.cpus s.world c t l within runs h) in
    let left = serving_on qs s x (honest_leaves_cpu s c t 0) such in
    let y = plain_on s x (honest_leaves_cpu s c t 0) plain in
    let still : is_by_linux v ≡ false = keeps_if (λ (w : WorldState). is_by_linux (with_world r w) ≡ false) (nat_lt t (length r.world.tasks)) _ r.world y y in
    let down : IsServing qs v = record { serves = left.serves; quiet = inl still; free = keeps_if (λ (w : WorldState). has_quota w.tree.groups ≡ false) (nat_lt t (length r.world.tasks)) _ r.world left.free left.free } in
    subst (λ (y : State). IsSlept qs y c) (sym (sleep_state s t c still))
    (record {
      empties = cycle_any qs n e c (e + 1) on v None true down l' tt (get_or-set_same s.world.cpus c None None l) ((fine_steps n e).asleep (e + 1) on r.world t within off);
      plain = cycle_plain v c None true still;
    })
