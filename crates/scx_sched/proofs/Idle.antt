-- After a tick that leaves a processor idle, no task is left behind for it.
use Rattle.std.proofs.Common.{◌≡◌, ℕ, zero, suc, ◌+◌, ◌<◌, ◌≤◌, Bool, true, false, not, ◌==◌, nat_lt, if◌then◌else◌, List, length, set, get_or, Option, Some, None, is_none, is_some, refl, sym, ap, ◌∙◌, subst, arith, ◌&&◌}
use Rattle.std.proofs.lemmas.Bool.{eq-eqb, ne_eqb}
use Rattle.std.proofs.lemmas.Bool.Decides.{nat_tests}
use Rattle.std.proofs.lemmas.List.{length-set, get_or-set_same}
use Rattle.scx_dsq.specs.declared.entries.Rank.{Rank}
use Rattle.scx_dsq.specs.declared.entries.Rank.TheVariants.{Fifo}
use Rattle.scx_dsq.specs.Queues.{QueueState, task_count, entry_of, is_in, len_of, front_of}
use Rattle.scx_dsq.specs.Calls.{push_refusal, next_entry, after_push, after_remove}
use Rattle.scx_dsq.specs.Laws.{one_if}
use Rattle.scx_dsq.proofs.Facts.{free_from, tasks_removed}
use Rattle.scx_isa_semantics.specs.declared.callbacks.Callback.TheVariants as callback
use Rattle.scx_weights.specs.Limits as limits
use Rattle.scx_sched_world.specs.declared.eject.Eject.{Eject}
use Rattle.scx_sched_world.specs.Ids.{global, builtin_queue, parked_queue, local_on}
use Rattle.scx_sched_world.specs.World as world
use Rattle.scx_sched_world.specs.World.{WorldState, task_at, is_throttled, running}
use Rattle.scx_sched_world.specs.Tasks.{after_local, local_len, brought, after_stop, started_at, after_switch, after_keep, after_tick, used_ms, after_leave, next_for}
use Rattle.scx_sched_machine.specs.Steps.{State, Stepped, with_world, stays, one_after_other, is_ejected, is_by_linux, kicked}
use Rattle.scx_sched_policy.specs.Policy.{program_of}
use Rattle.scx_sched_machine.specs.Callbacks.{call_back, one_task}
use Rattle.scx_sched_machine.specs.Filling.{fill}
use Rattle.scx_sched_machine.specs.Parking.{park, throttled_front, park_next, clear, in_reach, supply}
use Rattle.scx_sched_machine.specs.Cycle.{has_local, keeps_slice, supply_unless_kept, after_dispatch, asks_again, tries, switched, leave, started_if, start as run_front, kept, rest, swap, swap_or_rest, builtin_dispatch, builtin_fill, builtin_ask, builtin_cycle, start_or_cycle, picked, refilled, start_picked_or_cycle, give_up, pick, pick_or_rest, keep_or_pick, conclude, ask, seek, look, cycling, cycle, dispatch_called, makes_way, hears_idle, falls_idle, becomes_idle, concluded}
use Rattle.scx_sched_machine.specs.declared.events.Event.{Event}
use Rattle.scx_sched_machine.specs.declared.events.Event.TheVariants.{Wake, Sleep, Tick, Clock, SetWeight, SetTaskWeight}
use Rattle.scx_sched_machine.specs.declared.events.Refused.TheVariants.{UnknownCpu}
use Rattle.scx_sched_machine.specs.Events.{is_tick_time, leaves_cpu, throttle, ends_slices, expire, use_up, hears_tick, tick_heard, count_down, tick_idle, tick_of, tick, event_step}
use Rattle.scx_sched_machine.specs.Rounds.{most_rounds, rounds, with_rounds}
use Rattle.scx_sched_machine.proofs.Choices.{keeps_if}
use Rattle.scx_sched.specs.Ranges.{IsFine}
use Rattle.scx_sched.specs.Left.{LeavesNothing, LeavesNothingIdle}
use Rattle.scx_sched.specs.Sim.{refusal, IsValid}
use Rattle.scx_sched.proofs.Sound.{place_known}
use Rattle.scx_sched.proofs.Pushes.{takes_queued}
use Rattle.scx_sched.proofs.Seen.{next_seen, next_same}
use Rattle.scx_sched.proofs.Blaming.{plain_on, honest_supply, honest_builtin_fill, honest_tries, honest_leaves_cpu, honest_park, way_plain, honest_look}
use Rattle.scx_sched.proofs.Clear.{IsClear, MayStart, tree_used_up}
use Rattle.scx_sched.proofs.Supplying.{park_left, clear_from, empty_no_next, throttled_is, IsLeft, left_park_next, reach_fill, reach_park_left, supply_clears, builtin_clears}
use Rattle.scx_sched.proofs.Marks.{KeepsMarks, Anywhere, kept_cycling, kept_local}
use Rattle.scx_sched.proofs.Unchanged.{ruled_cycling, same_linux}
use Rattle.scx_sched.proofs.Skeleton.{IsKnown, once_for, keeps_running_on, keeps_switched}
use Rattle.scx_sched.proofs.Cycles.{not_kept, MayStartUnlessKept, some_local, no_local, keeps_park, keeps_park_left, keeps_park_next, keeps_fill, keeps_supply, keeps_dispatched, keeps_tries, tries_clear, clear_now, keeps_leave, ready_left, keeps_builtin_fill, keeps_dispatch_called}
use Rattle.scx_sched.proofs.Fine.{fine_steps}
use Rattle.scx_sched.proofs.Events.{cpus_used, IsKeptByUse, IsKeptByTick, fine_inside, fine_events, known_running, fine_ticked, keeps_leaves_cpu}
use Rattle.scx_sched.proofs.Firsts.{no_front_is_empty}
use Rattle.scx_sched.proofs.Lengths.{len_set}
use Rattle.scx_sched.proofs.Leaving.{LeavesPlainly, out_is_plain, IsOut, local_leave}
use Rattle.scx_sched.proofs.Deciding.{accepted, tick_plain}

-- an accepted push makes its queue longer
len_entered : (s : QueueState) (q t : ℕ) (r : Rank) → t < task_count s → push_refusal s q t r ≡ None → len_of (after_push s q t r) q ≡ len_of s q + 1
len_entered s q t r l ok =
    let here : one_if (q == q) ≡ 1 = rw (eq-eqb q q refl) refl in
    let free : one_if (is_in q (entry_of s t)) ≡ 0 = rw (free_from s q t r ok) refl in
    rw ok (omega (arith, len_set s q t (Some (next_entry s q r)) l, free, here))

-- who is ejected lets anybody leave
out_any : (s : State) (p : Option ℕ) → is_ejected s ≡ true → IsOut p s
out_any s None out = tt
out_any s (Some t) out = out

-- what stays out of force lets the same leave
out_stays : (s r : State) (p : Option ℕ) → ((x : Eject) → s.world.ejected ≡ Some x → r.world.ejected ≡ Some x) → IsOut p s → IsOut p r
out_stays s r None f out = tt
out_stays s r (Some t) f out = go s.world.ejected refl out
  where
    go : (o : Option Eject) → s.world.ejected ≡ o → is_some o ≡ true → is_some r.world.ejected ≡ true
    go None e x = absurd (cc)
    go (Some y) e x = ap (λ k. is_some k) (f y e)

-- a fill that brings nobody: no task that may run on the processor waits in that queue
abbrev pub IsVain : ℕ → ℕ → WorldState → WorldState → Type 0
IsVain q c w v = (next_for w q c ≡ None) × (local_len w c ≡ 0) × (v ≡ w)

-- no task that may run on the processor waits for all processors while the local queue is empty
abbrev LeavesGlobal : ℕ → WorldState → Type 0
LeavesGlobal c w = local_len w c ≡ 0 → next_for w global c ≡ None

-- where the processor is idle nothing is left for it
abbrev LeavesIfIdle : ℕ → WorldState → Type 0
LeavesIfIdle c w = is_none (running w c) ≡ true → LeavesNothing w c

busy : (c : ℕ) (w : WorldState) → is_none (running w c) ≡ false → LeavesIfIdle c w
busy c w e idle = let bad : false ≡ true = sym e ∙ idle in absurd (cc)

-- who leaves an ejected scheduler leaves by plain rules
out_leaves : (s : State) (p : Option ℕ) → IsOut p s → LeavesPlainly p s
out_leaves s None out = tt
out_leaves s (Some t) out = out_is_plain s out

-- by plain rules anybody does
pub plain_leaves : (s : State) (p : Option ℕ) → is_by_linux s ≡ false → LeavesPlainly p s
plain_leaves s None plain = tt
plain_leaves s (Some t) plain = plain

-- by plain rules the front runs that there is once the task before has left
pub pick_plain : (s : State) (c : ℕ) (p : Option ℕ) (ran : Bool) → is_by_linux s ≡ false → (pick s c p ran).state ≡ (start_or_cycle (leave s c p).state c ran).state
unfolding pick picked
pick_plain s c p ran plain = ap (λ b. (after_pick (if b then front_of s.world.queues (local_on c) else None)).state) plain ∙ ap (λ (v : State). (start_or_cycle v c ran).state) (way_plain s c p ran plain)
  where
    after_pick : Option ℕ → Stepped
    after_pick o = let l = makes_way (refilled s o) c p ran in one_after_other l (start_picked_or_cycle o l.state c ran)

-- and a processor gives up for good
pub give_up_plain : (s : State) (c : ℕ) (p : Option ℕ) → is_by_linux s ≡ false → give_up s c p ≡ s
unfolding give_up
give_up_plain s c p plain = ap (λ b. if b && asks_again s c p then kicked s c else s) plain

-- by plain rules a cycle ends once it is over
pub concluded_plain : (s : State) (c : ℕ) (ran : Bool) → is_by_linux s ≡ false → concluded s c ran ≡ stays (cycling s None)
unfolding concluded falls_idle hears_idle
concluded_plain s c ran plain = go ran
  where
    go : (b : Bool) → (if b && ((is_by_linux s && is_some (program_of s.policy callback.UpdateIdle)) && is_none (running s.world c)) then becomes_idle s c else stays (cycling s None)) ≡ stays (cycling s None)
    go false = refl
    go true = ap (λ d. if (d && is_some (program_of s.policy callback.UpdateIdle)) && is_none (running s.world c) then becomes_idle s c else stays (cycling s None)) plain

module _ (n e : ℕ) (c : ℕ) where
  -- ---- who comes to run

  pub start_busy : (m : ℕ) (on : List (Option ℕ)) (s : State) → c < length on → get_or on c None ≡ None → IsClear c s.world → IsFine n e m None on s.world → 0 < local_len s.world c → is_none (running (run_front s c).state.world c) ≡ false
  unfolding run_front
  start_busy m on s l free clear-now h some = go (front_of s.world.queues (local_on c)) refl
    where
      go : (o : Option ℕ) → front_of s.world.queues (local_on c) ≡ o → is_none (running (started_if o s c).state.world c) ≡ false
      go None f = absurd (omega (arith, some, no_front_is_empty s.world.queues (local_on c) f))
      go (Some t) f =
          let l' : c < length (set on c (Some t)) = rw (length-set on c (Some t)) l in
          let v = with_world s (started_at (Some t) s.world c) in
          let y = keeps_switched n (IsFine n e) (fine_steps n e) m None (set on c (Some t)) v t ((fine_steps n e).started m on s.world c t l free f (clear-now t f) h) in
          let x = keeps_running_on n (IsFine n e) (fine_steps n e) m None (set on c (Some t)) (switched v t) c t l' y in
          rw (x.sound.cpus, get_or-set_same on c (Some t) None l) refl

  swap_busy : (m : ℕ) (on : List (Option ℕ)) (s : State) (p : Option ℕ) → c < length on → IsKnown n p → get_or on c None ≡ p → IsOut p s → IsClear c s.world → IsFine n e m None on s.world → has_local s c ≡ true → is_none (running (swap s c p).state.world c) ≡ false
  unfolding swap
  swap_busy m on s p l known runs out clear-now h some =
      let x = keeps_leave n (IsFine n e) (fine_inside n e) m on s c p l known runs h in
      start_busy (once_for p m) x.0 (leave s c p).state x.2 x.3 (ready_left n (IsFine n e) (fine_inside n e) m on s c p (out_leaves s p out) l known runs some clear-now h) x.1 (local_leave c s c p out (some_local (local_len s.world c) (local_len s.world c == 0) refl some))

  -- ---- who is brought

  local_marks : KeepsMarks Anywhere (λ v. 0 < local_len v c)
  local_marks = record { there = λ w d h l. tt; homed = λ w t d l h. h; sliced = λ w t k h. h; sets = λ w a b d f h. h }

  -- a task that leaves a queue for the local one is there
  pub longer : (m : ℕ) (on : List (Option ℕ)) (w : WorldState) (q t : ℕ) → c < length on → next_for w q c ≡ Some t → IsFine n e m None on w → 0 < local_len (after_local (after_leave w t) c t) c
  longer m on w q t l f h =
      let s' = after_remove w.queues t in
      let here = (next_seen w q c t f).there in
      let known : t < task_count s' = rw (tasks_removed w.queues t) (place_known w.queues q t here).0 in
      let ok = takes_queued None on n w q c t l here h.sound in
      kept_local Anywhere (λ v. 0 < local_len v c) local_marks (after_leave w t) c t tt (omega (arith, len_entered s' (local_on c) t Fifo known ok))

  pub fill_leaves : (m : ℕ) (on : List (Option ℕ)) (s : State) (q : ℕ) → c < length on → IsFine n e m None on s.world → local_len (fill s q c).state.world c ≡ 0 → IsVain q c s.world (fill s q c).state.world
  unfolding fill
  fill_leaves m on s q l h = go (nat_lt 0 (local_len s.world c)) refl (next_for s.world q c) refl
    where
      w : WorldState
      w = s.world

      go : (b : Bool) → nat_lt 0 (local_len w c) ≡ b → (o : Option ℕ) → next_for w q c ≡ o → local_len (brought (if b then None else o) w c) c ≡ 0 → IsVain q c w (brought (if b then None else o) w c)
      go true x o f empty = let some : 0 < local_len w c = grind (arith, nat_tests, x) in absurd (omega (arith, some, empty))
      go false x None f empty = (f, empty, refl)
      go false x (Some t) f empty = absurd (omega (arith, empty, longer m on w q t l f h))

  fill_global : (m : ℕ) (on : List (Option ℕ)) (s : State) → c < length on → IsFine n e m None on s.world → LeavesGlobal c (fill s global c).state.world
  fill_global m on s l h empty = let x = fill_leaves m on s global l h empty in ap (λ (v : WorldState). next_for v global c) x.2 ∙ x.0

  clear_leaves : (j m : ℕ) (on : List (Option ℕ)) (s : State) → c < length on → in_reach s c ≤ j → IsFine n e m None on s.world → LeavesGlobal c (clear j s c).state.world
  unfolding clear
  clear_leaves zero m on s l few h = λ empty. empty_no_next s.world global c (omega (arith, few))
  clear_leaves (suc j) m on s l few h = go (throttled_front f (local_on c)) refl (λ t less x. clear_leaves j m on (park_left (fill s global c).state t).state l less x)
    where
      f : State
      f = (fill s global c).state

      filled : IsFine n e m None on f.world
      filled = keeps_fill n (IsFine n e) (fine_inside n e) m on s global c refl l h

      go : (o : Option ℕ) → throttled_front f (local_on c) ≡ o → ((t : ℕ) → in_reach (park_left f t).state c ≤ j → IsFine n e m None on (park_left f t).state.world → LeavesGlobal c (clear j (park_left f t).state c).state.world)
          → LeavesGlobal c (clear_from j f c o).state.world
      go None y more = fill_global m on s l h
      go (Some t) y more =
          more t (omega (arith, few, reach_fill s c, reach_park_left f c t (throttled_is f (local_on c) t y).there))
          (keeps_park_left n (IsFine n e) (fine_inside n e) m on f (local_on c) t (ne_eqb (local_on c) parked_queue (λ z. omega (arith, z))) (throttled_is f (local_on c) t y) filled)

  supply_leaves : (m : ℕ) (on : List (Option ℕ)) (s : State) → c < length on → IsFine n e m None on s.world → LeavesGlobal c (supply s c).state.world
  unfolding supply
  supply_leaves m on s l h = clear_leaves (in_reach s c) m on s l (omega arith) h

  -- ---- the built-in scheduler

  -- a slice that grows leaves whoever waits
  switched_leaves : (s : State) (t : ℕ) → LeavesNothing s.world c → LeavesNothing (switched s t).world c
  unfolding switched
  switched_leaves s t h = keeps_if (λ (r : State). LeavesNothing r.world c) (is_by_linux s && not (s.policy.tick_ms == 0)) (with_world s (after_switch s.world t)) s (record { local = h.local; global = h.global; builtin = h.builtin }) h

  rest_leaves : (s : State) (p : Option ℕ) (ran : Bool) → LeavesNothing s.world c → LeavesIfIdle c (rest s c p ran).state.world
  unfolding rest
  rest_leaves s None ran h idle = h
  rest_leaves s (Some t) ran h idle = switched_leaves (with_world s (after_keep s.world (Some t))) t (record { local = h.local; global = h.global; builtin = h.builtin })

  -- where its dispatch leaves the local queue empty, its own is empty too
  builtin_fill_leaves : (m : ℕ) (on : List (Option ℕ)) (s : State) → c < length on → IsFine n e m None on s.world → LeavesGlobal c s.world → local_len (builtin_fill s c).state.world c ≡ 0 → LeavesNothing (builtin_fill s c).state.world c
  unfolding builtin_fill builtin_dispatch
  builtin_fill_leaves m on s l h g = go (has_local s c) refl
    where
      p : State
      p = (park_next (len_of s.world.queues builtin_queue) s builtin_queue c).state

      r : Stepped
      r = one_after_other (park_next (len_of s.world.queues builtin_queue) s builtin_queue c) (fill p builtin_queue c)

      x : IsFine n e m None on p.world
      x = keeps_park_next n (IsFine n e) (fine_inside n e) m on (len_of s.world.queues builtin_queue) s builtin_queue c refl l h

      global_stays : IsLeft global s.world p.world
      global_stays = left_park_next (len_of s.world.queues builtin_queue) global s builtin_queue c refl refl

      go : (b : Bool) → has_local s c ≡ b → local_len (if b then stays s else r).state.world c ≡ 0 → LeavesNothing (if b then stays s else r).state.world c
      go true z empty = absurd (omega (arith, some_local (local_len s.world c) (local_len s.world c == 0) refl z, empty))
      go false z empty =
          let v = fill_leaves m on p builtin_queue l x empty in
          record {
            local = empty;
            global = ap (λ (u : WorldState). next_for u global c) v.2 ∙ (next_same s.world p.world global c global_stays.queue global_stays.tree global_stays.rules ∙ g (no_local (local_len s.world c) (local_len s.world c == 0) refl z));
            builtin = λ gone. ap (λ (u : WorldState). next_for u builtin_queue c) v.2 ∙ v.0;
          }

  builtin_cycle_leaves : (m : ℕ) (on : List (Option ℕ)) (s : State) (p : Option ℕ) (ran : Bool) → c < length on → IsKnown n p → get_or on c None ≡ p → IsOut p s → IsFine n e m None on s.world → LeavesIfIdle c (builtin_cycle s c p ran).state.world
  unfolding builtin_cycle builtin_ask swap_or_rest
  builtin_cycle_leaves m on s p ran l known runs out h = go (has_local g c) refl
    where
      f : State
      f = (supply s c).state

      g : State
      g = (builtin_fill f c).state

      x : IsFine n e m None on f.world
      x = keeps_supply n (IsFine n e) (fine_inside n e) m on s c l h

      y : IsFine n e m None on g.world
      y = keeps_builtin_fill n (IsFine n e) (fine_inside n e) m on f c l x

      out-now : IsOut p g
      out-now = out_stays f g p (honest_builtin_fill f c).stays (out_stays s f p (honest_supply s c).stays out)

      go : (b : Bool) → has_local g c ≡ b → LeavesIfIdle c (if b then swap g c p else rest g c p ran).state.world
      go true z = busy c (swap g c p).state.world (swap_busy m on g p l known runs out-now (clear_now n (IsFine n e) (fine_inside n e) m on g c y (builtin_clears f c (supply_clears s c))) y z)
      go false z = rest_leaves g p ran (builtin_fill_leaves m on f l x (supply_leaves m on s l h) (no_local (local_len g.world c) (local_len g.world c == 0) refl z))

  -- ---- the policy

  start_or_cycle_leaves : (m : ℕ) (on : List (Option ℕ)) (s : State) (ran : Bool) → c < length on → get_or on c None ≡ None → IsClear c s.world → IsFine n e m None on s.world → LeavesIfIdle c (start_or_cycle s c ran).state.world
  unfolding start_or_cycle
  start_or_cycle_leaves m on s ran l free clear-now h = go (has_local s c) refl
    where
      go : (b : Bool) → has_local s c ≡ b → LeavesIfIdle c (if b then run_front s c else builtin_cycle s c None ran).state.world
      go true z = busy c (run_front s c).state.world (start_busy m on s l free clear-now h (some_local (local_len s.world c) (local_len s.world c == 0) refl z))
      go false z = builtin_cycle_leaves m on s None ran l tt free tt h

  pick_leaves : (m : ℕ) (on : List (Option ℕ)) (s : State) (p : Option ℕ) (ran : Bool) → is_by_linux s ≡ false → c < length on → IsKnown n p → get_or on c None ≡ p → has_local s c ≡ true → IsClear c s.world → IsFine n e m None on s.world → LeavesIfIdle c (pick s c p ran).state.world
  pick_leaves m on s p ran plain l known runs some clear-now h =
      let x = keeps_leave n (IsFine n e) (fine_inside n e) m on s c p l known runs h in
      subst (λ (v : State). LeavesIfIdle c v.world) (sym (pick_plain s c p ran plain))
      (start_or_cycle_leaves (once_for p m) x.0 (leave s c p).state ran x.2 x.3 (ready_left n (IsFine n e) (fine_inside n e) m on s c p (plain_leaves s p plain) l known runs some clear-now h) x.1)

  pick_or_rest_leaves : (m : ℕ) (on : List (Option ℕ)) (s : State) (p : Option ℕ) (ran : Bool) → is_by_linux s ≡ false → c < length on → IsKnown n p → get_or on c None ≡ p → is_ejected s ≡ false → IsClear c s.world → IsFine n e m None on s.world → LeavesGlobal c s.world
      → LeavesIfIdle c (pick_or_rest s c p ran).state.world
  unfolding pick_or_rest
  pick_or_rest_leaves m on s p ran plain l known runs force clear-now h g = go (has_local s c) refl
    where
      in_force : is_some s.world.ejected ≡ true → next_for s.world builtin_queue c ≡ None
      in_force gone = let bad : false ≡ true = sym force ∙ gone in absurd (cc)

      go : (b : Bool) → has_local s c ≡ b → LeavesIfIdle c (if b then pick s c p ran else rest s c p ran).state.world
      go true z = pick_leaves m on s p ran plain l known runs z clear-now h
      go false z =
          let empty = no_local (local_len s.world c) (local_len s.world c == 0) refl z in
          rest_leaves s p ran (record { local = empty; global = g empty; builtin = in_force })

  -- unless the task before keeps the processor
  abbrev LeavesGlobalUnlessKept : Option ℕ → State → Type 0
  LeavesGlobalUnlessKept p s = keeps_slice s p ≡ false → LeavesGlobal c s.world

  -- who keeps the processor runs there
  kept_is_busy : (m : ℕ) (on : List (Option ℕ)) (s : State) (p : Option ℕ) → get_or on c None ≡ p → keeps_slice s p ≡ true → IsFine n e m None on s.world → is_none (running (kept s p).world c) ≡ false
  unfolding switched
  kept_is_busy m on s None runs keeps h = absurd (cc)
  kept_is_busy m on s (Some t) runs keeps h =
      let there : is_none (running s.world c) ≡ false = ap (λ (xs : List (Option ℕ)). is_none (get_or xs c None)) h.sound.cpus ∙ ap (λ o. is_none o) runs in
      keeps_if (λ (r : State). is_none (running r.world c) ≡ false) (is_by_linux s && not (s.policy.tick_ms == 0)) (with_world s (after_switch s.world t)) s there there

  keep_or_pick_leaves : (m : ℕ) (on : List (Option ℕ)) (s : State) (p : Option ℕ) (ran : Bool) → is_by_linux s ≡ false → c < length on → IsKnown n p → get_or on c None ≡ p → is_ejected s ≡ false → MayStartUnlessKept n (IsFine n e) (fine_inside n e) m on c p s → IsFine n e m None on s.world → LeavesGlobalUnlessKept p s
      → LeavesIfIdle c (keep_or_pick s c p ran).state.world
  unfolding keep_or_pick
  keep_or_pick_leaves m on s p ran plain l known runs force may h g = go (keeps_slice s p) refl
    where
      go : (b : Bool) → keeps_slice s p ≡ b → LeavesIfIdle c (if b then stays (kept s p) else pick_or_rest s c p ran).state.world
      go true keeps = busy c (kept s p).world (kept_is_busy m on s p runs keeps h)
      go false off = pick_or_rest_leaves m on s p ran plain l known runs force (clear_now n (IsFine n e) (fine_inside n e) m on s c h (may off)) h (g off)

  conclude_leaves : (m : ℕ) (on : List (Option ℕ)) (s : State) (p : Option ℕ) (ran : Bool) → is_by_linux s ≡ false → c < length on → IsKnown n p → get_or on c None ≡ p → MayStartUnlessKept n (IsFine n e) (fine_inside n e) m on c p s → IsFine n e m None on s.world → LeavesGlobalUnlessKept p s → LeavesIfIdle c (conclude s c p ran).state.world
  unfolding conclude
  conclude_leaves m on s p ran plain l known runs may h g = go (is_ejected s) refl
    where
      go : (b : Bool) → is_ejected s ≡ b → LeavesIfIdle c (if b then builtin_cycle s c p ran else keep_or_pick s c p ran).state.world
      go true out = builtin_cycle_leaves m on s p ran l known runs (out_any s p out) h
      go false force = keep_or_pick_leaves m on s p ran plain l known runs force may h g

  dispatched_leaves : (m : ℕ) (on : List (Option ℕ)) (s : State) (p : Option ℕ) → c < length on → IsFine n e m None on s.world → LeavesGlobalUnlessKept p (after_dispatch s c p).state
  unfolding after_dispatch supply_unless_kept
  dispatched_leaves m on s p l h = go (keeps_slice r p) refl
    where
      r : State
      r = (dispatch_called s c p).state

      go : (b : Bool) → keeps_slice r p ≡ b → LeavesGlobalUnlessKept p (if b then stays r else supply r c).state
      go true kept off = let bad : true ≡ false = sym kept ∙ off in absurd (cc)
      go false z off = supply_leaves m on r l (keeps_dispatch_called n (IsFine n e) (fine_inside n e) m on s c p l h)

  tries_go : (j : ℕ) (p : Option ℕ) (d : Stepped) (b : Bool) → asks_again d.state c p ≡ b → LeavesGlobalUnlessKept p d.state → (LeavesGlobal c d.state.world → LeavesGlobalUnlessKept p (tries j d.state c p).state) → LeavesGlobalUnlessKept p (if b then one_after_other d (tries j d.state c p) else d).state
  tries_go j p d true z y more = more (y (not_kept (keeps_slice d.state p) _ z))
  tries_go j p d false z y more = y

  tries_leave : (j m : ℕ) (on : List (Option ℕ)) (s : State) (p : Option ℕ) → c < length on → IsFine n e m None on s.world → LeavesGlobal c s.world → LeavesGlobalUnlessKept p (tries j s c p).state
  unfolding tries
  tries_leave zero m on s p l h g = λ off. g
  tries_leave (suc j) m on s p l h g =
      let d = after_dispatch s c p in
      let x = keeps_dispatched n (IsFine n e) (fine_inside n e) m on s c p l h in
      let y = dispatched_leaves m on s p l h in
      tries_go j p d (asks_again d.state c p) refl y (tries_leave j m on d.state p l x)

  ask_leaves : (m : ℕ) (on : List (Option ℕ)) (s : State) (p : Option ℕ) (ran : Bool) → is_by_linux s ≡ false → c < length on → IsKnown n p → get_or on c None ≡ p → MayStart c s.world → IsFine n e m None on s.world → LeavesGlobal c s.world → LeavesIfIdle c (ask s c p ran).state.world
  unfolding ask
  ask_leaves m on s p ran plain l known runs may h g =
      let d = tries 32 s c p in
      let x = keeps_tries n (IsFine n e) (fine_inside n e) m on 32 s c p l h in
      let still = plain_on s d (honest_tries 32 s c p) plain in
      subst (λ (v : State). LeavesIfIdle c (conclude v c p ran).state.world) (sym (give_up_plain d.state c p still))
      (conclude_leaves m on d.state p ran still l known runs (tries_clear n (IsFine n e) (fine_inside n e) m on 32 s c p may) x (tries_leave 32 m on s p l h g))

  seek_leaves : (m : ℕ) (on : List (Option ℕ)) (s : State) (p : Option ℕ) (ran : Bool) → is_by_linux s ≡ false → c < length on → IsKnown n p → get_or on c None ≡ p → IsFine n e m None on s.world → LeavesIfIdle c (seek s c p ran).state.world
  unfolding seek
  seek_leaves m on s p ran plain l known runs h = go (has_local f c) refl
    where
      f : State
      f = (supply s c).state

      x : IsFine n e m None on f.world
      x = keeps_supply n (IsFine n e) (fine_inside n e) m on s c l h

      still : is_by_linux f ≡ false
      still = plain_on s (supply s c) (honest_supply s c) plain

      go : (b : Bool) → has_local f c ≡ b → LeavesIfIdle c (if b then pick f c p ran else ask f c p ran).state.world
      go true z = pick_leaves m on f p ran still l known runs z (clear_now n (IsFine n e) (fine_inside n e) m on f c x (supply_clears s c)) x
      go false z = ask_leaves m on f p ran still l known runs (supply_clears s c) x (supply_leaves m on s l h)

  -- ---- whichever is in force

  look_leaves : (m : ℕ) (on : List (Option ℕ)) (s : State) (p : Option ℕ) (ran : Bool) → is_by_linux s ≡ false → c < length on → IsKnown n p → get_or on c None ≡ p → IsFine n e m None on s.world → LeavesIfIdle c (look s c p ran).state.world
  unfolding look
  look_leaves m on s p ran plain l known runs h = go (is_ejected s) refl
    where
      go : (b : Bool) → is_ejected s ≡ b → LeavesIfIdle c (if b then builtin_cycle s c p ran else seek s c p ran).state.world
      go true out = builtin_cycle_leaves m on s p ran l known runs (out_any s p out) h
      go false force = seek_leaves m on s p ran plain l known runs h

  cycle_leaves : (m : ℕ) (on : List (Option ℕ)) (s : State) (p : Option ℕ) (ran : Bool) → is_by_linux s ≡ false → c < length on → IsKnown n p → get_or on c None ≡ p → IsFine n e m None on s.world → LeavesIfIdle c (cycle s c p ran).state.world
  unfolding cycle
  cycle_leaves m on s p ran plain l known runs h idle =
      let v = cycling s (Some c) in
      let still = same_linux s.world v.world (ruled_cycling s.world (Some c)).3 (ruled_cycling s.world (Some c)).1 ∙ plain in
      let x = look_leaves m on v p ran still l known runs ((fine_steps n e).cycling m None on s.world (Some c) h) in
      let r = look v c p ran in
      let ends = concluded_plain r.state c ran (plain_on v r (honest_look v c p ran) still) in
      subst (λ (y : Stepped). LeavesIfIdle c y.state.world) (sym ends) (kept_cycling (LeavesIfIdle c) (λ w o a y waker g free. let z = g free in record { local = z.local; global = z.global; builtin = z.builtin }) r.state.world None x) idle

-- by plain rules the policy hears of no tick
heard_plain : (s : State) (c t : ℕ) → is_by_linux s ≡ false → tick_heard s c t ≡ stays s
unfolding tick_heard hears_tick
heard_plain s c t plain = ap (λ b. if (b && is_some (program_of s.policy callback.Tick)) && is_tick_time s then call_back s callback.Tick (one_task t) t c else stays s) plain

-- the law, of plain rules
pub tick_leaves : (n e : ℕ) (s : State) (c : ℕ) → is_by_linux s ≡ false → c < length s.world.cpus → IsFine n e e None s.world.cpus s.world → running (tick s c).state.world c ≡ None → LeavesNothing (tick s c).state.world c
unfolding tick tick_idle count_down use_up throttle expire
tick_leaves n e s c plain l h idle = go (running s.world c) refl (ap (λ o. is_none o) idle)
  where
    throttled_leaves : (v : State) (t : ℕ) → is_by_linux v ≡ false → t < n → c < length v.world.cpus → limits.is_throttled v.world.tree t ≡ true → IsFine n (e + 1) e (Some t) (set v.world.cpus c None) (after_stop v.world c t) → LeavesIfIdle c (throttle v c t).state.world
    throttled_leaves v t still within m up x =
        let on = set v.world.cpus c None in
        let l' : c < length on = rw (length-set v.world.cpus c None) m in
        let r = (leaves_cpu v c t 1).state in
        let left = honest_leaves_cpu v c t 1 in
        let put_by = plain_on r (park r t) (honest_park r t) (plain_on v (leaves_cpu v c t 1) left still) in
        cycle_leaves n (e + 1) c (e + 1) on (park r t).state None true put_by l' tt (get_or-set_same v.world.cpus c None None m)
        (keeps_park n (IsFine n (e + 1)) (fine_inside n (e + 1)) (e + 1) on r t within (ap (λ k. limits.is_throttled k t) left.tree ∙ up) (keeps_leaves_cpu n (IsFine n (e + 1)) (fine_events n (e + 1)) e on v c t 1 l' x))

    go : (o : Option ℕ) → running s.world c ≡ o → LeavesIfIdle c (tick_of o s c).state.world
    go None at = subst (λ b. LeavesIfIdle c (if b then stays s else cycle s c None false).state.world) (sym plain) (cycle_leaves n e c e s.world.cpus s None false plain l tt at h)
    go (Some t) at = subst (λ (r : Stepped). LeavesIfIdle c (use_up r.state c t).state.world) (sym (heard_plain (with_world s (after_tick s.world t)) c t plain)) (by (is_throttled v.world t) refl)
      where
        v : State
        v = with_world s (used_ms (after_tick s.world t) t)

        same : v.world.cpus ≡ s.world.cpus
        same = cpus_used (after_tick s.world t) t

        ticks : IsKeptByTick n (IsFine n (e + 1)) (fine_events n (e + 1)) e s.world c t
        ticks = fine_ticked n e e s.world c t l at h

        x : IsKeptByUse n (IsFine n (e + 1)) (fine_events n (e + 1)) e (after_tick s.world t) c t
        x = ticks.uses (after_tick s.world t) refl refl ticks.ran

        known : t < n
        known = known_running n e e s.world c t l at h

        still : is_by_linux v ≡ false
        still = keeps_if (λ (w : WorldState). world.is_by_linux w ≡ false) (nat_lt t (length (after_tick s.world t).tasks)) _ (after_tick s.world t) plain plain

        by : (b : Bool) → is_throttled v.world t ≡ b → LeavesIfIdle c (if b then throttle v c t else expire v c t).state.world
        by true up = throttled_leaves v t still known (subst (λ (xs : List (Option ℕ)). c < length xs) (sym same) l) (tree_used_up v.world t up) (subst (λ xs. IsFine n (e + 1) e (Some t) (set xs c None) (after_stop v.world c t)) (sym same) (x.leaves up))
        by false free =
            keeps_if (λ (r : Stepped). LeavesIfIdle c r.state.world) (((task_at v.world t).slice == 0) && ends_slices v) (cycle v c (Some t) true) (stays v)
            (cycle_leaves n (e + 1) c e s.world.cpus v (Some t) true still l known at (x.goes_on free))
            (busy c v.world (ap (λ (xs : List (Option ℕ)). is_none (get_or xs c None)) same ∙ ap (λ o. is_none o) at))

-- by plain rules no round follows
no_round : (r : Stepped) → is_by_linux r.state ≡ false → with_rounds r ≡ r
unfolding with_rounds
no_round r plain = ap (λ b. if b then one_after_other r (rounds most_rounds r.state) else r) plain

-- after an accepted event
pub step_leaves : (s : State) (n : ℕ) (v : Event) → refusal (record { state = s; events = n }) v ≡ None → IsValid s n → is_by_linux s ≡ false → LeavesNothingIdle v (event_step s v).state.world
step_leaves s n (Tick c) e h plain = subst (λ (r : Stepped). running r.state.world c ≡ None → LeavesNothing r.state.world c) (sym (no_round (tick s c) (tick_plain s n h.fine c there plain))) (tick_leaves (length s.world.tasks) n s c plain there h.fine)
  where
    known : (b : Bool) → nat_lt c (length s.world.cpus) ≡ b → (if b then None else Some UnknownCpu) ≡ None → c < length s.world.cpus
    known true x y = grind (arith, nat_tests, x)
    known false x y = absurd (cc)

    there : c < length s.world.cpus
    there = known (nat_lt c (length s.world.cpus)) refl (accepted (record { state = s; events = n }) (Tick c) e).taken
step_leaves s n (Wake t) e h plain = tt
step_leaves s n (Sleep t) e h plain = tt
step_leaves s n Clock e h plain = tt
step_leaves s n (SetWeight g x) e h plain = tt
step_leaves s n (SetTaskWeight t x) e h plain = tt
