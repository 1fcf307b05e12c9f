-- One walk over the helpers, for what holds of each world that an allowed call may leave. And what a helper answers and
-- makes of a world doesn't depend on what is left out, nor does what is loaded of a field that isn't, or stored to any.
use Rattle.std.proofs.Common.{◌≡◌, ℕ, zero, suc, ◌-◌, ◌&&◌, ◌||◌, not, is_none, Bool, false, cond, if◌then◌else◌, nat_lt, nat_le, List, length, map, Option, Some, None, refl, sym, ap, ◌∙◌, ◌==◌, true, ◌<◌, inl, inr, ◌⊎◌, ⊎_elim, arith}
use Rattle.scx_dsq.specs.Laws.{one_if}
use Rattle.scx_dsq.specs.Calls.{after_create, after_push, after_remove}
use Rattle.scx_isa_semantics.specs.declared.callbacks.Callback.{Callback}
use Rattle.scx_isa_semantics.specs.declared.callbacks.Callback.TheVariants as callback
use Rattle.scx_isa_semantics.specs.declared.host_tables.Field.{Field}
use Rattle.scx_isa_semantics.specs.declared.host_tables.Field.TheVariants.{Pid, Weight, Slice, DsqVtime, PrevCpu, Group, RunNs, Cpus}
use Rattle.scx_isa_semantics.specs.declared.host_tables.Helper.{Helper}
use Rattle.scx_isa_semantics.specs.declared.host_tables.Helper.TheVariants.{CreateDsq, DsqInsert, DsqInsertVtime, DsqMoveToLocal, SelectCpuDfl, CpuIdle, TaskByPid, DsqNrQueued, KickCpu, Exit, CpuCurr, DsqPeek, TaskRunning, TaskCpu, PickIdle, ClaimIdle, TimerStart, TimerCancel, PrandomU32, MayRun}
use Rattle.scx_isa_semantics.specs.declared.host_tables.TaskId.{TaskId}
use Rattle.scx_isa_semantics.specs.declared.values.Value.TheVariants.{Number}
use Rattle.scx_isa_semantics.specs.Effects.{Query, Call, Load, Store}
use Rattle.scx_vm.specs.declared.arguments.Arg.{Arg}
use Rattle.scx_vm.specs.declared.arguments.Answer.TheVariants as answer
use Rattle.scx_vm.specs.Arguments.{argument_of, answer_value}
use Rattle.scx_vm.specs.Host.{answer_to, after_query}
use Rattle.scx_sched_world.specs.declared.call.Insert.{Insert}
use Rattle.scx_sched_world.specs.declared.faults.Fault.{Fault}
use Rattle.scx_sched_world.specs.declared.faults.Fault.TheVariants.{NoSuchQueue, NoSuchCpu, CannotCreate, CannotInsert, NotAllowed}
use Rattle.scx_sched_world.specs.declared.kicks.Kick.{Kick}
use Rattle.scx_sched_world.specs.declared.kicks.Kick.TheVariants.{Any, IfIdle, Preempt}
use Rattle.scx_dsq.specs.declared.entries.Rank.TheVariants.{Fifo, Front}
use Rattle.scx_sched_world.specs.declared.notes.What.TheVariants as notes
use Rattle.scx_sched_world.specs.World.{WorldState, with_queues, with_kick, with_preemption, is_by_linux, running, is_this, current_in, current, this_if, is_free, choice, after_claim, with_note}
use Rattle.scx_sched_world.specs.declared.passing.Switch.{Switch}
use Rattle.scx_sched_world.specs.declared.timers.Alarm.{Alarm}
use Rattle.scx_weights.specs.Counting.{any_below}
use Rattle.scx_weights.specs.Hierarchy.{own_weight}
use Rattle.scx_sched_world.specs.Tasks.{after_leave, for_cpu, next_for, homed, after_enter}
use Rattle.scx_sched_world.specs.Helpers.{with_fault, invalid_if, is_there, can_create, is_dispatch, may_insert_in, may_insert, queue_fault, rank_fault, or_fault, has_preempt, has_head, arrival_rank, flags_fault, cpu_meant, may_go, placing_fault, insert_fault, is_late, after_late, with_insert, with_move, after_release, insert_or_fault, after_insert, insert_answer, insert_of, insert_of_vtime, can_move, moved_to_local, unless_fault, untracked_fault, cpu_fault, ask_fault, fault_or, choice_answer, after_choice, kick_of, kick_fault, kicked_or_fault, after_kick, after_exit, task_or_null, is_current_one, cpu_of_task, may_run_there, after_random, first_free_in, pick_fault, after_pick_by, after_pick, timer_fault, with_timer, alarm_in, given_number, given_task, helper_answer, helper_after, field_of, stored_in, world_functions}
use Rattle.scx_sched_machine.proofs.Choices.{keeps_if}
use Rattle.scx_explore_states.specs.Asking.{IsGivenSlice, GivesOne}
use Rattle.scx_explore_findings.specs.Unread.{is_hidden, ReadsNone}
use Rattle.scx_explore_findings.specs.FifoOnly.{IsFifo}
use Rattle.scx_sched.proofs.Seen.{next_seen}
use Rattle.std.proofs.lemmas.Bool.{eqb-true, ltb-true}
use Rattle.scx_dsq.specs.Queues.{exists, entry_of}
use Rattle.scx_sched_world.specs.CpuSets.{and_cpu}
use Rattle.scx_sched_world.specs.Ids.{policy_end, held_queue, local_on}
use Rattle.scx_explore_findings.specs.IdleSlices.{runs_on, is_put_nowhere, is_idle, is_idle_of}
use Rattle.scx_explore_findings.proofs.Records.{alike_if, keeps_store}
use Rattle.scx_explore_findings.proofs.IdleRecords.{keeps_store as sliceless_store}
use Rattle.scx_explore_findings.proofs.Leaving.{Less, leave, Alike, Leaves, IsLeaving, both, chosen_same, choice_same}
use Rattle.scx_explore_findings.proofs.Omitting.{Omitted, omit, less, length_same, IfAny, if_any, AreAmong}
use Rattle.scx_explore_findings.proofs.IdleTasks.{queued_busy, out_busy, may_enter}
use Rattle.scx_explore_findings.proofs.Worlds.{Hides, plain, read, read_busy, weight_same, group_same, set_task, hides_leave, hides_create, hides_enter, hides_claim, moved_on}
use Rattle.scx_explore_findings.proofs.Entering.{KeepsHomes, kept_entered, kept_homed}

-- ---- what a call may leave

-- of what a helper leaves that may be called, the property holds: the world as it is, one with a fault or an exit, with a
-- queue created, with an insert kept, done at once or passed over, with a task moved, a processor claimed or kicked, a
-- timer started or cancelled, or a random number drawn
pub record HoldsAfter (may : Helper → Type 0) (P : WorldState → Type 0) (w : WorldState) : Type 0 where
  pub same : P w
  pub faulty : (f : Fault) → P (with_fault w f)
  pub ended : (n : ℕ) → P (after_exit w n)
  pub created : may CreateDsq → (q : ℕ) → P (with_queues w (after_create w.queues q))
  pub inserted : may DsqInsert → (t : Option ℕ) (i : Insert) → IsFifo i.rank → P (insert_or_fault w None t i)
  pub by_vtime : may DsqInsertVtime → (t : Option ℕ) (i : Insert) → P (insert_or_fault w None t i)
  pub late : P (with_move w)
  pub moved : (o : Option ℕ) → P (moved_to_local w o)
  pub claimed : (o : Option ℕ) → P (after_claim w o)
  pub kicked : (c : ℕ) → P (with_kick w c)
  pub preempted : (c : ℕ) → P (with_preemption w c)
  pub timed : (n : ℕ) (o : Option Alarm) → P (with_timer w n o)
  pub drawn : may PrandomU32 → P (after_random w)

module _ (may : Helper → Type 0) (P : WorldState → Type 0) (w : WorldState) (h : HoldsAfter may P w) where
  tried : (o : Option Fault) (t : Option ℕ) (i : Insert) → P (insert_or_fault w None t i) → P (insert_or_fault w o t i)
  tried None t i done = done
  tried (Some f) t i done = h.faulty f

  passed_over : (o : Option Fault) → P (after_late w o)
  passed_over None = h.late
  passed_over (Some f) = h.faulty f

  inserts : (t : Option ℕ) (i : Insert) (flags : ℕ) → P (insert_or_fault w None t i) → P (after_insert w t i flags)
  inserts t i flags done =
      keeps_if P (is_late w t) (after_late w (flags_fault w flags)) (insert_or_fault w (insert_fault w t i flags) t i) (passed_over (flags_fault w flags)) (tried (insert_fault w t i flags) t i done)

  arrives : (n : ℕ) → IsFifo (arrival_rank n)
  arrives n = keeps_if IsFifo (has_preempt n || has_head n) Front Fifo tt tt

  -- a fault, or what is done without one
  or_done : (o : Option Fault) (v : WorldState) → P v → P (fault_or w o v)
  or_done None v done = done
  or_done (Some f) v done = h.faulty f

  chooses : (t : Option ℕ) → P (after_choice w t)
  chooses None = h.same
  chooses (Some t) = or_done (untracked_fault w) (after_claim w (choice w t)) (h.claimed (choice w t))

  kicks : (o : Option Fault) (c : ℕ) (k : Option Kick) → P (kicked_or_fault w o c k)
  kicks (Some f) c k = h.faulty f
  kicks None c None = h.same
  kicks None c (Some Any) = h.kicked c
  kicks None c (Some IfIdle) = keeps_if P (is_none (running w c) || is_this c w.cycling) (with_kick w c) w (h.kicked c) h.same
  kicks None c (Some Preempt) = h.preempted c

  picks : (o : Option Fault) (c : Option ℕ) → P (after_pick_by o w c)
  picks None c = h.claimed c
  picks (Some f) c = h.faulty f

  -- whichever helper is called that may be, and whatever it is given
  pub by_helper : (f : Helper) → may f → (a : List Arg) → P (helper_after w f a)
  by_helper CreateDsq m a = keeps_if P (can_create w (given_number a 0)) (with_queues w (after_create w.queues (given_number a 0))) (with_fault w CannotCreate) (h.created m (given_number a 0)) (h.faulty CannotCreate)
  by_helper DsqInsert m a = inserts (given_task a 0) (insert_of w a) (given_number a 3) (h.inserted m (given_task a 0) (insert_of w a) (arrives (given_number a 3)))
  by_helper DsqInsertVtime m a = inserts (given_task a 0) (insert_of_vtime w a) (given_number a 4) (h.by_vtime m (given_task a 0) (insert_of_vtime w a))
  by_helper DsqMoveToLocal m a = keeps_if P (can_move w (given_number a 0)) (moved_to_local w (next_for w (given_number a 0) w.call.cpu)) (with_fault w NoSuchQueue) (h.moved (next_for w (given_number a 0) w.call.cpu)) (h.faulty NoSuchQueue)
  by_helper CpuIdle m a = or_done (ask_fault w (given_number a 0)) w h.same
  by_helper DsqNrQueued m a = keeps_if P (is_there w (given_number a 0)) w (with_fault w NoSuchQueue) h.same (h.faulty NoSuchQueue)
  by_helper SelectCpuDfl m a = chooses (given_task a 0)
  by_helper KickCpu m a = let k = kick_of (given_number a 1) in kicks (kick_fault w (given_number a 0) k) (given_number a 0) k
  by_helper Exit m a = h.ended (given_number a 0)
  by_helper CpuCurr m a = keeps_if P (nat_lt (given_number a 0) (length w.cpus)) w (with_fault w NoSuchCpu) h.same (h.faulty NoSuchCpu)
  by_helper DsqPeek m a = keeps_if P (is_there w (given_number a 0)) w (with_fault w NoSuchQueue) h.same (h.faulty NoSuchQueue)
  by_helper PickIdle m a = picks (pick_fault w (given_number a 1)) (first_free_in (given_number a 0) w)
  by_helper ClaimIdle m a = let c = given_number a 0 in or_done (ask_fault w c) (after_claim w (this_if (is_free w c) c)) (h.claimed (this_if (is_free w c) c))
  by_helper TimerStart m a =
      let n = given_number a 0 in
      let o : Option Alarm = Some (alarm_in w (given_number a 1)) in
      or_done (timer_fault w n) (with_timer w n o) (h.timed n o)
  by_helper TimerCancel m a =
      let n = given_number a 0 in
      or_done (timer_fault w n) (if is_this n w.passing.timer then w else with_timer w n None) (keeps_if P (is_this n w.passing.timer) w (with_timer w n None) h.same (h.timed n None))
  by_helper PrandomU32 m a = h.drawn m
  by_helper MayRun m a = keeps_if P (nat_lt (given_number a 1) (length w.cpus)) w (with_fault w NoSuchCpu) h.same (h.faulty NoSuchCpu)
  by_helper f m a = h.same

-- ---- what is left out

-- a query loads the slice of none of those tasks that sleeps or is held
abbrev pub LoadsBusyOf : (ℕ → Bool) → WorldState → Query → Type 0
LoadsBusyOf d w (Load t Slice) = is_idle_of d w t.0 ≡ false
LoadsBusyOf d w q = Unit {0}

-- a query loads nothing that is left out, and gives a slice if it inserts a task, where slices are left out
abbrev pub IsTold : Omitted → WorldState → Query → Type 0
IsTold h w q = ReadsNone h.parts q × IfAny h.idle (LoadsBusyOf h.idle w q × GivesOne q)

less_so : (a b c : Bool) → (a ≡ true → b ≡ true) → (b && c) ≡ false → (a && c) ≡ false
less_so true b c is e = ap (λ (x : Bool). x && c) (sym (is refl)) ∙ e
less_so false b c is e = refl

none_so : (a b : Bool) → (a ≡ true → b ≡ true) → b ≡ false → a ≡ false
none_so true b is e = sym (is refl) ∙ e
none_so false b is e = refl

busy_among : (d e : ℕ → Bool) → AreAmong d e → (w : WorldState) (q : Query) → LoadsBusyOf e w q → LoadsBusyOf d w q
busy_among d e among w (Load t Slice) k = less_so (d t.0) (e t.0) (is_idle w t.0) (among t.0) k
busy_among d e among w (Load t f) k = tt
busy_among d e among w (Call f a) k = tt
busy_among d e among w (Store t f n) k = tt

pub any_among : {X : Type 0} (d e : ℕ → Bool) → AreAmong d e → IfAny e X → IfAny d X
any_among d e among (inl none) = inl (λ t. none_so (d t) (e t) (among t) (none t))
any_among d e among (inr x) = inr x

-- so it does where slices of fewer tasks are left out
pub told_among : (h : Omitted) (d : ℕ → Bool) → AreAmong d h.idle → (w : WorldState) (q : Query) → IsTold h w q → IsTold (record { parts = h.parts; idle = d }) w q
told_among h d among w q k = (k.0, if_any d (λ x. (busy_among d h.idle among w q x.0, x.1)) (any_among d h.idle among k.1))

less_than : (q n : ℕ) → q < n → (q == n) ≡ false
less_than q n l = go (q == n) refl
  where
    go : (b : Bool) → (q == n) ≡ b → b ≡ false
    go true e = let is = eqb-true q n e in absurd (omega (arith, is, l))
    go false e = refl

below_held : (q : ℕ) → nat_lt q policy_end ≡ true → (q == held_queue) ≡ false
below_held q e = let l = ltb-true q policy_end e in less_than q held_queue (omega (arith, l))

-- ---- a helper, whatever is left out

-- a helper that inserts a task is given such a slice
abbrev pub GivenBy : (ℕ → Type 0) → Helper → List Arg → Type 0
GivenBy given DsqInsert a = given (given_number a 2)
GivenBy given DsqInsertVtime a = given (given_number a 2)
GivenBy given f a = Unit {0}

module _ (l : Less) (given : ℕ → Type 0) (is : IsLeaving l given) where
  -- ---- inserts

  may_same : (b : Callback) (w : WorldState) (t : Option ℕ) → may_insert_in b w t ≡ may_insert_in b (leave l w) t
  may_same callback.SelectCpu w None = refl
  may_same callback.SelectCpu w (Some t) = refl
  may_same callback.Enqueue w None = refl
  may_same callback.Enqueue w (Some t) = refl
  may_same callback.Dispatch w None = refl
  may_same callback.Dispatch w (Some t) = refl
  may_same b w t = refl

  go_same : (w : WorldState) (t c : Option ℕ) → may_go w t c ≡ may_go (leave l w) t c
  go_same w None None = refl
  go_same w None (Some c) = refl
  go_same w (Some t) None = refl
  go_same w (Some t) (Some c) = refl

  fault_same : (w : WorldState) (t : Option ℕ) (i : Insert) (flags : ℕ) → insert_fault w t i flags ≡ insert_fault (leave l w) t i flags
  fault_same w t i flags =
      let found : Option Fault → Bool → Option Fault = λ o b. cond b (or_fault (flags_fault w flags) (or_fault (queue_fault w i.queue) (or_fault (rank_fault w i.queue i.rank) o))) (Some CannotInsert) in
      ap (found (placing_fault w t i.queue)) (may_same w.call.callback w t)
      ∙ ap (λ (b : Bool). found (cond b None (Some NotAllowed)) (may_insert (leave l w) t)) (go_same w t (cpu_meant w i.queue))

  hides_release : (t : Option ℕ) (i : Insert) → given i.slice → Leaves l (λ w. after_release w t i)
  hides_release None i e w = is.plain w
  hides_release (Some t) i e w = ap (λ (v : WorldState). with_note (with_move v) (notes.Insert t i.queue)) (both l (λ v. after_leave v t) (λ v. after_enter v t i) (is.left t) (is.entered t i e) w)

  hides_inserted : (o : Option Fault) (t : Option ℕ) (i : Insert) → given i.slice → Leaves l (λ w. insert_or_fault w o t i)
  hides_inserted None t i e w = alike_if (leave l) (is_dispatch w.call.callback) (is_dispatch w.call.callback) _ _ _ _ refl (hides_release t (for_cpu w.call.cpu i) e w) (is.plain (with_insert w i))
  hides_inserted (Some f) t i e w = is.plain (with_fault w f)

  late_same : (w : WorldState) (t : Option ℕ) → is_late w t ≡ is_late (leave l w) t
  late_same w None = refl
  late_same w (Some t) = refl

  hides_late : (o : Option Fault) → Leaves l (λ w. after_late w o)
  hides_late None w = is.plain (with_move w)
  hides_late (Some f) w = is.plain (with_fault w f)

  hides_insert : (t : Option ℕ) (i : Insert) (flags : ℕ) → given i.slice → Leaves l (λ w. after_insert w t i flags)
  hides_insert t i flags e w =
      alike_if (leave l) (is_late w t) (is_late (leave l w) t) _ _ _ _ (late_same w t) (hides_late (flags_fault w flags) w)
      (hides_inserted (insert_fault w t i flags) t i e w
      ∙ ap (λ (o : Option Fault). leave l (insert_or_fault (leave l w) o t i)) (fault_same w t i flags))

  answers_insert : (w : WorldState) (t : Option ℕ) (i : Insert) (flags : ℕ) → insert_answer w t i flags ≡ insert_answer (leave l w) t i flags
  answers_insert w t i flags =
      ap (λ (b : Bool). cond b (invalid_if (flags_fault w flags)) (invalid_if (insert_fault w t i flags))) (late_same w t)
      ∙ ap (λ (o : Option Fault). cond (is_late (leave l w) t) (invalid_if (flags_fault w flags)) (invalid_if o)) (fault_same w t i flags)

  -- ---- other helpers

  hides_moved : (q : ℕ) → (q == held_queue) ≡ false → (o : Option ℕ) (w : WorldState) → next_for w q w.call.cpu ≡ o → Alike l (moved_to_local w o) (moved_to_local (leave l w) o)
  hides_moved q apart None w from = is.plain w
  hides_moved q apart (Some t) w from = ap (λ (v : WorldState). with_note (with_move v) (notes.Move t w.call.cpu)) (is.brought q w.call.cpu t w apart from)

  -- a queue of the policy isn't that of held tasks
  hides_moving : (q : ℕ) (w : WorldState) → Alike l (if can_move w q then moved_to_local w (next_for w q w.call.cpu) else with_fault w NoSuchQueue) (if can_move w q then moved_to_local (leave l w) (next_for w q w.call.cpu) else with_fault (leave l w) NoSuchQueue)
  hides_moving q w = go (is_dispatch w.call.callback) (nat_lt q policy_end) (exists w.queues q) refl
    where
      go : (a b c : Bool) → nat_lt q policy_end ≡ b → Alike l (if a && (b && c) then moved_to_local w (next_for w q w.call.cpu) else with_fault w NoSuchQueue) (if a && (b && c) then moved_to_local (leave l w) (next_for w q w.call.cpu) else with_fault (leave l w) NoSuchQueue)
      go true true true e = hides_moved q (below_held q e) (next_for w q w.call.cpu) w refl
      go true true false e = is.plain (with_fault w NoSuchQueue)
      go true false c e = is.plain (with_fault w NoSuchQueue)
      go false b c e = is.plain (with_fault w NoSuchQueue)

  chosen : (o : Option ℕ) (w : WorldState) → choice_answer w o ≡ choice_answer (leave l w) o
  chosen None w = refl
  chosen (Some t) w = ap (λ (c : ℕ). unless_fault (untracked_fault w) c) (choice_same l given is w t)

  -- a fault, or what is done without one
  hides_fault_or : (o : Option Fault) (f : WorldState → WorldState) → Leaves l f → Leaves l (λ w. fault_or w o (f w))
  hides_fault_or None f k w = k w
  hides_fault_or (Some x) f k w = is.plain (with_fault w x)

  hides_choice : (t : Option ℕ) → Leaves l (λ w. after_choice w t)
  hides_choice None w = is.plain w
  hides_choice (Some t) w = hides_fault_or (untracked_fault w) (λ v. after_claim v (choice v t)) chooses w
    where
      chooses : Leaves l (λ v. after_claim v (choice v t))
      chooses v = is.claimed (choice v t) v ∙ ap (λ (o : Option ℕ). leave l (after_claim (leave l v) o)) (chosen_same l given is v t)

  kick_same : (w : WorldState) (c : ℕ) (k : Option Kick) → kick_fault w c k ≡ kick_fault (leave l w) c k
  kick_same w c None = refl
  kick_same w c (Some k) = refl

  hides_kicked : (o : Option Fault) (c : ℕ) (k : Option Kick) → Leaves l (λ w. kicked_or_fault w o c k)
  hides_kicked (Some f) c k w = is.plain (with_fault w f)
  hides_kicked None c None w = is.plain w
  hides_kicked None c (Some Any) w = is.plain (with_kick w c)
  hides_kicked None c (Some IfIdle) w =
      let b = is_none (running w c) || is_this c w.cycling in
      alike_if (leave l) b b (with_kick w c) (with_kick (leave l w) c) w (leave l w) refl (is.plain (with_kick w c)) (is.plain w)
  hides_kicked None c (Some Preempt) w = is.plain (with_preemption w c)

  hides_kick : (c flags : ℕ) → Leaves l (λ w. after_kick w c flags)
  hides_kick c flags w =
      let k = kick_of flags in
      hides_kicked (kick_fault w c k) c k w ∙ ap (λ (o : Option Fault). leave l (kicked_or_fault (leave l w) o c k)) (kick_same w c k)

  hides_picked : (o : Option Fault) (c : Option ℕ) → Leaves l (λ w. after_pick_by o w c)
  hides_picked None c w = is.claimed c w
  hides_picked (Some f) c w = is.plain (with_fault w f)

  hides_pick : (mask flags : ℕ) → Leaves l (λ w. after_pick w mask flags)
  hides_pick mask flags w = hides_picked (pick_fault w flags) (first_free_in mask w) w

  -- the current task of each processor, and the processor of a task
  current_in_same : (o : Option Switch) (w : WorldState) (c : ℕ) → current_in o w c ≡ current_in o (leave l w) c
  current_in_same None w c = refl
  current_in_same (Some s) w c = refl

  current_at : (w : WorldState) (c : ℕ) → current w c ≡ current (leave l w) c
  current_at w c = current_in_same w.passing.switching w c

  any_current_same : (n t : ℕ) (w : WorldState) → any_below n (λ c. is_this t (current w c)) ≡ any_below n (λ c. is_this t (current (leave l w) c))
  any_current_same zero t w = refl
  any_current_same (suc n) t w =
      ap (λ (b : Bool). b || is_this t (current w n)) (any_current_same n t w)
      ∙ ap (λ (o : Option ℕ). any_below n (λ c. is_this t (current (leave l w) c)) || is_this t o) (current_at w n)

  current_same : (o : Option ℕ) (w : WorldState) → is_current_one w o ≡ is_current_one (leave l w) o
  current_same None w = refl
  current_same (Some t) w = any_current_same (length w.cpus) t w

  cpu_same : (o : Option ℕ) (w : WorldState) → cpu_of_task w o ≡ cpu_of_task (leave l w) o
  cpu_same None w = refl
  cpu_same (Some t) w = is.home w t

  there_same : (o : Option ℕ) (w : WorldState) (c : ℕ) → may_run_there w o c ≡ may_run_there (leave l w) o c
  there_same None w c = refl
  there_same (Some t) w c = refl

  -- what it answers
  pub helper_same : (f : Helper) (a : List Arg) (w : WorldState) → helper_answer w f a ≡ helper_answer (leave l w) f a
  helper_same DsqInsert a w = ap answer.Num (answers_insert w (given_task a 0) (insert_of w a) (given_number a 3))
  helper_same DsqInsertVtime a w = ap answer.Num (answers_insert w (given_task a 0) (insert_of_vtime w a) (given_number a 4))
  helper_same KickCpu a w = ap (λ (o : Option Fault). answer.Num (invalid_if o)) (kick_same w (given_number a 0) (kick_of (given_number a 1)))
  helper_same SelectCpuDfl a w = ap answer.Num (chosen (given_task a 0) w)
  helper_same TaskByPid a w =
      ap (λ (n : ℕ). cond (nat_lt 0 (given_number a 0) && nat_le (given_number a 0) n) (answer.Task (record { 0 = given_number a 0 - 1 })) (answer.Num 0)) (is.lengths w)
  helper_same CpuCurr a w =
      let c = given_number a 0 in
      ap (λ (o : Option ℕ). cond (nat_lt c (length w.cpus)) (task_or_null o) (answer.Num 0)) (current_at w c)
  helper_same TaskRunning a w = ap (λ (b : Bool). answer.Num (one_if b)) (current_same (given_task a 0) w)
  helper_same TaskCpu a w = ap answer.Num (cpu_same (given_task a 0) w)
  helper_same MayRun a w =
      let c = given_number a 1 in
      ap (λ (b : Bool). answer.Num (unless_fault (cpu_fault w c) (one_if b))) (there_same (given_task a 0) w c)
  helper_same f a w = refl

  -- what it makes of the world
  pub hides_helper : (f : Helper) (a : List Arg) → GivenBy given f a → Leaves l (λ w. helper_after w f a)
  hides_helper CreateDsq a e w = alike_if (leave l) (can_create w (given_number a 0)) (can_create w (given_number a 0)) _ _ _ _ refl (is.created (given_number a 0) w) (is.plain (with_fault w CannotCreate))
  hides_helper DsqInsert a e w = hides_insert (given_task a 0) (insert_of w a) (given_number a 3) e w
  hides_helper DsqInsertVtime a e w = hides_insert (given_task a 0) (insert_of_vtime w a) (given_number a 4) e w
  hides_helper DsqMoveToLocal a e w = hides_moving (given_number a 0) w
  hides_helper CpuIdle a e w = hides_fault_or (ask_fault w (given_number a 0)) (λ v. v) (λ v. is.plain v) w
  hides_helper DsqNrQueued a e w = alike_if (leave l) (is_there w (given_number a 0)) (is_there w (given_number a 0)) w (leave l w) _ _ refl (is.plain w) (is.plain (with_fault w NoSuchQueue))
  hides_helper SelectCpuDfl a e w = hides_choice (given_task a 0) w
  hides_helper KickCpu a e w = hides_kick (given_number a 0) (given_number a 1) w
  hides_helper Exit a e w = is.plain (after_exit w (given_number a 0))
  hides_helper CpuCurr a e w = alike_if (leave l) (nat_lt (given_number a 0) (length w.cpus)) (nat_lt (given_number a 0) (length w.cpus)) w (leave l w) _ _ refl (is.plain w) (is.plain (with_fault w NoSuchCpu))
  hides_helper DsqPeek a e w = alike_if (leave l) (is_there w (given_number a 0)) (is_there w (given_number a 0)) w (leave l w) _ _ refl (is.plain w) (is.plain (with_fault w NoSuchQueue))
  hides_helper PickIdle a e w = hides_pick (given_number a 0) (given_number a 1) w
  hides_helper ClaimIdle a e w =
      let c = given_number a 0 in
      hides_fault_or (ask_fault w c) (λ v. after_claim v (this_if (is_free v c) c)) (λ v. is.claimed (this_if (is_free v c) c) v) w
  hides_helper TimerStart a e w =
      let n = given_number a 0 in
      hides_fault_or (timer_fault w n) (λ v. with_timer v n (Some (alarm_in v (given_number a 1)))) (λ v. is.plain (with_timer v n (Some (alarm_in v (given_number a 1))))) w
  hides_helper TimerCancel a e w =
      let n = given_number a 0 in
      hides_fault_or (timer_fault w n) (λ v. if is_this n v.passing.timer then v else with_timer v n None)
      (λ v. alike_if (leave l) (is_this n v.passing.timer) (is_this n v.passing.timer) v (leave l v) (with_timer v n None) (with_timer (leave l v) n None) refl (is.plain v) (is.plain (with_timer v n None))) w
  hides_helper PrandomU32 a e w = is.plain (after_random w)
  hides_helper MayRun a e w = alike_if (leave l) (nat_lt (given_number a 1) (length w.cpus)) (nat_lt (given_number a 1) (length w.cpus)) w (leave l w) _ _ refl (is.plain w) (is.plain (with_fault w NoSuchCpu))
  hides_helper f a e w = is.plain w

-- ---- parts of records, and slices of tasks that sleep or are held

module _ (h : Omitted) where
  -- where these tasks run and queues are so
  abbrev Left : Less
  Left cpus queues xs = less h.parts (λ t. h.idle t && (not (runs_on t cpus) && is_put_nowhere (entry_of queues t))) xs

  abbrev Gives : ℕ → Type 0
  Gives n = IfAny h.idle ((n == 0) ≡ false)

  leaving : IsLeaving Left Gives
  leaving = record {
    plain = plain h;
    lengths = λ w. length_same h.parts (is_idle_of h.idle w) w.tasks;
    home = λ w t. read h (λ x. x.prev_cpu) (λ x. refl) (λ x. refl) w t;
    left = hides_leave h;
    created = hides_create h;
    entered = λ t i e. hides_enter h t i (may_enter h.idle t i e);
    claimed = hides_claim h;
    brought = λ q c t w apart from. moved_on h c t w (queued_busy h.idle w t q apart (next_seen w q c t from).there);
  }

  gives_so : (f : Helper) (a : List Arg) → IfAny h.idle (IsGivenSlice f a) → GivenBy Gives f a
  gives_so DsqInsert a e = e
  gives_so DsqInsertVtime a e = e
  gives_so f a e = tt

  -- ---- queries

  shown : (b : Bool) (n : ℕ) → b ≡ false → n ≡ cond b 0 n
  shown b n e = ap (λ (c : Bool). cond c 0 n) (sym e)

  field_same : (f : Field) (t : TaskId) (w : WorldState) → is_hidden h.parts f ≡ false → IfAny h.idle (LoadsBusyOf h.idle w (Load t f)) → field_of w t.0 f ≡ field_of (omit h w) t.0 f
  field_same Pid t w e any = refl
  field_same Weight t w e any = ap (λ (n : ℕ). cond (is_by_linux w) (own_weight w.tree t.0) n) (weight_same h w t.0)
  field_same Slice t w e (inl none) = read_busy h (λ x. x.slice) (λ x. refl) w t.0 (out_busy h.idle w t.0 (none t.0))
  field_same Slice t w e (inr k) = read_busy h (λ x. x.slice) (λ x. refl) w t.0 k
  field_same DsqVtime t w e any = read h (λ x. x.vtime) (λ x. shown h.parts.vtime x.vtime e) (λ x. refl) w t.0
  field_same PrevCpu t w e any = read h (λ x. x.prev_cpu) (λ x. refl) (λ x. refl) w t.0
  field_same Group t w e any = group_same h w t.0
  field_same Cpus t w e any = refl
  field_same RunNs t w e any = read h (λ x. x.run_ns) (λ x. shown h.parts.run_ns x.run_ns e) (λ x. refl) w t.0

  -- what a query is answered that loads nothing left out
  pub answer_same : (q : Query) (w : WorldState) → IsTold h w q → answer_to world_functions w q ≡ answer_to world_functions (omit h w) q
  answer_same (Call f a) w e = ap answer_value (helper_same Left Gives leaving f (map argument_of a) w)
  answer_same (Load t f) w e = ap Number (field_same f t w e.0 (if_any h.idle (λ k. k.0) e.1))
  answer_same (Store t f n) w e = refl

  -- and what one makes of the world that gives each task a slice which it inserts
  pub hides_query : (q : Query) → IfAny h.idle (GivesOne q) → Hides h (λ w. after_query world_functions w q)
  hides_query (Call f a) e w = hides_helper Left Gives leaving f (map argument_of a) (gives_so f (map argument_of a) e) w
  hides_query (Load t f) e w = plain h w
  hides_query (Store t f n) e w = set_task h (λ x. stored_in x f n) (keeps_store h.parts f n) (sliceless_store f n) w t.0

-- ---- what is inserted has a slice

-- what a callback wants has a slice, if it wants an insert
abbrev pub Wants : Option Insert → Type 0
Wants None = Unit {0}
Wants (Some i) = (i.slice == 0) ≡ false

abbrev WantsIn : WorldState → Type 0
WantsIn w = Wants w.call.insert

-- the helper inserts nothing
abbrev InsertsNone : Helper → Type 0
InsertsNone DsqInsert = ⊥
InsertsNone DsqInsertVtime = ⊥
InsertsNone f = Unit {0}

-- a task's processor is another
wants_homes : KeepsHomes WantsIn
wants_homes = record { home = λ w t c h. h; preempted = λ w t c h. h }

pub wants_homed : (w : WorldState) (t c : ℕ) → WantsIn w → WantsIn (homed w t c)
wants_homed = kept_homed WantsIn wants_homes

wants_entered : (w : WorldState) (t : ℕ) (i : Insert) → WantsIn w → WantsIn (after_enter w t i)
wants_entered w t i h = kept_entered WantsIn wants_homes w t i h h

wants_released : (w : WorldState) (t : Option ℕ) (i : Insert) → WantsIn w → WantsIn (after_release w t i)
wants_released w None i h = h
wants_released w (Some t) i h = wants_entered (after_leave w t) t i h

wants_inserted : (w : WorldState) (o : Option Fault) (t : Option ℕ) (i : Insert) → (i.slice == 0) ≡ false → WantsIn w → WantsIn (insert_or_fault w o t i)
wants_inserted w None t i e h = keeps_if WantsIn (is_dispatch w.call.callback) (after_release w t (for_cpu w.call.cpu i)) (with_insert w i) (wants_released w t (for_cpu w.call.cpu i) h) e
wants_inserted w (Some f) t i e h = h

wants_late : (w : WorldState) (o : Option Fault) → WantsIn w → WantsIn (after_late w o)
wants_late w None h = h
wants_late w (Some f) h = h

wants_insert : (w : WorldState) (t : Option ℕ) (i : Insert) (flags : ℕ) → (i.slice == 0) ≡ false → WantsIn w → WantsIn (after_insert w t i flags)
wants_insert w t i flags e h =
    keeps_if WantsIn (is_late w t) (after_late w (flags_fault w flags)) (insert_or_fault w (insert_fault w t i flags) t i) (wants_late w (flags_fault w flags) h) (wants_inserted w (insert_fault w t i flags) t i e h)

wants_moved : (w : WorldState) (o : Option ℕ) → WantsIn w → WantsIn (moved_to_local w o)
wants_moved w None h = h
wants_moved w (Some t) h = wants_homed (with_queues w (after_push (after_remove w.queues t) (local_on w.call.cpu) t Fifo)) t w.call.cpu h

-- a processor is claimed
pub wants_claimed : (w : WorldState) (o : Option ℕ) → WantsIn w → WantsIn (after_claim w o)
wants_claimed w None h = h
wants_claimed w (Some c) h = keeps_if WantsIn (is_by_linux w) (record w { claimed = and_cpu w.claimed c; call = record w.call { claims = and_cpu w.call.claims c } }) w h h

wants_other : (w : WorldState) (f : Helper) (a : List Arg) → InsertsNone f → WantsIn w → WantsIn (helper_after w f a)
wants_other w f a none h = by_helper InsertsNone WantsIn w (record {
  same = h;
  faulty = λ x. h;
  ended = λ n. h;
  created = λ may q. h;
  late = h;
  kicked = λ c. h;
  preempted = λ c. h;
  timed = λ n o. h;
  drawn = λ may. h;
  inserted = λ may t i fifo. absurd may;
  by_vtime = λ may t i. absurd may;
  moved = λ o. wants_moved w o h;
  claimed = λ o. wants_claimed w o h;
}) f none a

inserts_or_not : (f : Helper) → ((a : List Arg) (w : WorldState) → IsGivenSlice f a → WantsIn w → WantsIn (helper_after w f a)) ⊎ InsertsNone f
inserts_or_not DsqInsert = inl (λ a w e h. wants_insert w (given_task a 0) (insert_of w a) (given_number a 3) e h)
inserts_or_not DsqInsertVtime = inl (λ a w e h. wants_insert w (given_task a 0) (insert_of_vtime w a) (given_number a 4) e h)
inserts_or_not f = inr tt

-- so it is after a query that gives each task a slice which it inserts
pub wants_query : (w : WorldState) (q : Query) → GivesOne q → Wants w.call.insert → Wants (after_query world_functions w q).call.insert
wants_query w (Call f a) e h = ⊎_elim (λ by. by (map argument_of a) w e h) (λ none. wants_other w f (map argument_of a) none h) (inserts_or_not f)
wants_query w (Load t f) e h = h
wants_query w (Store t f n) e h = h
