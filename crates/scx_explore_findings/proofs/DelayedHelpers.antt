-- In a world that is later each helper but that of the clock answers alike, and makes of it a world that is later.
use Rattle.std.proofs.Common.{◌≡◌, ℕ, zero, suc, ◌+◌, ◌-◌, ◌==◌, ◌&&◌, ◌||◌, not, is_none, Bool, true, false, cond, if◌then◌else◌, nat_lt, nat_le, List, length, map, Option, Some, None, refl, ap, ◌∙◌, arith}
use Rattle.std.specs.Int.{bit_at}
use Rattle.scx_dsq.specs.Laws.{one_if}
use Rattle.scx_isa_semantics.specs.declared.callbacks.Callback.{Callback}
use Rattle.scx_isa_semantics.specs.declared.callbacks.Callback.TheVariants as callback
use Rattle.scx_isa_semantics.specs.declared.host_tables.Field.{Field}
use Rattle.scx_isa_semantics.specs.declared.host_tables.Field.TheVariants.{Pid, Weight, Slice, DsqVtime, PrevCpu, Group, RunNs, Cpus}
use Rattle.scx_isa_semantics.specs.declared.host_tables.Helper.{Helper}
use Rattle.scx_isa_semantics.specs.declared.host_tables.Helper.TheVariants.{KtimeGetNs, CreateDsq, DsqInsert, DsqInsertVtime, DsqMoveToLocal, SelectCpuDfl, CpuIdle, TaskByPid, DsqNrQueued, KickCpu, Exit, CpuCurr, DsqPeek, TaskRunning, TaskCpu, PickIdle, ClaimIdle, TimerStart, TimerCancel, PrandomU32, MayRun}
use Rattle.scx_isa_semantics.specs.declared.values.Value.TheVariants.{Number}
use Rattle.scx_isa_semantics.specs.Effects.{Query, Call, Load, Store}
use Rattle.scx_vm.specs.declared.arguments.Arg.{Arg}
use Rattle.scx_vm.specs.declared.arguments.Answer.TheVariants as answer
use Rattle.scx_vm.specs.Arguments.{argument_of, answer_value}
use Rattle.scx_vm.specs.Host.{answer_to, after_query}
use Rattle.scx_sched_world.specs.declared.call.Insert.{Insert}
use Rattle.scx_sched_world.specs.declared.faults.Fault.{Fault}
use Rattle.scx_sched_world.specs.declared.faults.Fault.TheVariants.{CannotInsert, NotAllowed, UnknownFlag}
use Rattle.scx_sched_world.specs.declared.kicks.Kick.{Kick}
use Rattle.scx_sched_world.specs.declared.kicks.Kick.TheVariants.{Any, IfIdle, Preempt}
use Rattle.scx_sched_world.specs.declared.notes.What.TheVariants as notes
use Rattle.scx_sched_world.specs.declared.passing.Switch.{Switch}
use Rattle.scx_sched_world.specs.declared.timers.Alarm.{Alarm}
use Rattle.scx_weights.specs.Counting.{any_below}
use Rattle.scx_weights.specs.Hierarchy.{own_weight}
use Rattle.scx_sched_world.specs.CpuSets.{is_in_set}
use Rattle.scx_sched_world.specs.World.{WorldState, with_kick, is_by_linux, running, is_this, is_idle, current_in, current, this_if, is_free, choice, after_claim, with_note}
use Rattle.scx_sched_world.specs.Tasks.{after_leave, after_enter, after_local, for_cpu, next_for}
use Rattle.scx_sched_world.specs.Helpers.{invalid_if, is_there, can_create, is_dispatch, is_held, may_insert_in, may_insert, queue_fault, rank_fault, or_fault, are_linux_flags, flags_fault, cpu_meant, may_go, placing_fault, insert_fault, is_late, after_late, with_move, after_release, insert_or_fault, after_insert, insert_answer, insert_of, insert_of_vtime, arrival_rank, has_preempt, can_move, moved_to_local, unless_fault, untracked_fault, cpu_fault, ask_fault, fault_or, choice_answer, after_choice, seems_idle, kick_of, kick_fault, kicked_or_fault, after_kick, task_or_null, is_current_one, cpu_of_task, may_run_there, weight_at, is_free_in, first_free_in, pick_fault, pick_answer_by, after_pick_by, after_pick, timer_fault, with_timer, delay_ms, alarm_in, alarm_at, cancelled_answer, given_number, given_task, helper_answer, helper_after, field_of, stored_in, world_functions}
use Rattle.scx_explore_findings.specs.Delayed.{delayed_task, delayed_alarm, delay, is_clock}
use Rattle.scx_explore_findings.proofs.DelayedTasks.{through_if, as_long, changed_at, found_at, changes_store}
use Rattle.scx_explore_findings.proofs.DelayedWorlds.{Delays, lowest_as, read, linux_as, weight_as, group_as, claimed_as, free_as, chosen_as, choice_as, set_task, delays_note, delays_local, delays_enter, delays_claim}

-- a helper that is called isn't the one of the clock
abbrev pub IsTimeless : Query → Type 0
IsTimeless (Call f a) = is_clock (Some f) ≡ false
IsTimeless q = Unit {0}

module _ (k : ℕ) where
  -- ---- inserts

  may_as : (b : Callback) (w : WorldState) (t : Option ℕ) → may_insert_in b w t ≡ may_insert_in b (delay k w) t
  may_as callback.SelectCpu w None = refl
  may_as callback.SelectCpu w (Some t) = refl
  may_as callback.Enqueue w None = refl
  may_as callback.Enqueue w (Some t) = refl
  may_as callback.Dispatch w None = refl
  may_as callback.Dispatch w (Some t) = refl
  may_as b w t = refl

  go_as : (w : WorldState) (t c : Option ℕ) → may_go w t c ≡ may_go (delay k w) t c
  go_as w None None = refl
  go_as w None (Some c) = refl
  go_as w (Some t) None = refl
  go_as w (Some t) (Some c) = refl

  flags_as : (w : WorldState) (flags : ℕ) → flags_fault w flags ≡ flags_fault (delay k w) flags
  flags_as w flags = ap (λ (b : Bool). cond (cond b (are_linux_flags flags) (nat_le flags 1)) None (Some UnknownFlag)) (linux_as k w)

  fault_as : (w : WorldState) (t : Option ℕ) (i : Insert) (flags : ℕ) → insert_fault w t i flags ≡ insert_fault (delay k w) t i flags
  fault_as w t i flags =
      let found : Option Fault → Option Fault → Bool → Option Fault = λ x o b. cond b (or_fault x (or_fault (queue_fault w i.queue) (or_fault (rank_fault w i.queue i.rank) o))) (Some CannotInsert) in
      ap (found (flags_fault w flags) (placing_fault w t i.queue)) (may_as w.call.callback w t)
      ∙ ap (λ (b : Bool). found (flags_fault w flags) (cond b None (Some NotAllowed)) (may_insert (delay k w) t)) (go_as w t (cpu_meant w i.queue))
      ∙ ap (λ (x : Option Fault). found x (placing_fault (delay k w) t i.queue) (may_insert (delay k w) t)) (flags_as w flags)

  delays_release : (t : Option ℕ) (i : Insert) → Delays k (λ w. after_release w t i)
  delays_release None i w = refl
  delays_release (Some t) i w =
      delays_note k (notes.Insert t i.queue) (with_move (after_enter (after_leave w t) t i))
      ∙ ap (λ (v : WorldState). with_note (with_move v) (notes.Insert t i.queue)) (delays_enter k t i (after_leave w t))

  delays_inserted : (o : Option Fault) (t : Option ℕ) (i : Insert) → Delays k (λ w. insert_or_fault w o t i)
  delays_inserted None t i w = through_if (delay k) (is_dispatch w.call.callback) (is_dispatch w.call.callback) _ _ _ _ refl (delays_release t (for_cpu w.call.cpu i) w) refl
  delays_inserted (Some f) t i w = refl

  held_as : (w : WorldState) (t : Option ℕ) → is_held w t ≡ is_held (delay k w) t
  held_as w None = refl
  held_as w (Some t) = refl

  late_as : (w : WorldState) (t : Option ℕ) → is_late w t ≡ is_late (delay k w) t
  late_as w t =
      ap (λ (b : Bool). b && (is_dispatch w.call.callback && not (is_held w t))) (linux_as k w)
      ∙ ap (λ (b : Bool). is_by_linux (delay k w) && (is_dispatch w.call.callback && not b)) (held_as w t)

  delays_late : (o : Option Fault) → Delays k (λ w. after_late w o)
  delays_late None w = refl
  delays_late (Some f) w = refl

  delays_insert : (t : Option ℕ) (i : Insert) (flags : ℕ) → Delays k (λ w. after_insert w t i flags)
  delays_insert t i flags w =
      through_if (delay k) (is_late w t) (is_late (delay k w) t) _ _ _ _ (late_as w t)
      (delays_late (flags_fault w flags) w ∙ ap (after_late (delay k w)) (flags_as w flags))
      (delays_inserted (insert_fault w t i flags) t i w ∙ ap (λ (o : Option Fault). insert_or_fault (delay k w) o t i) (fault_as w t i flags))

  answers_insert : (w : WorldState) (t : Option ℕ) (i : Insert) (flags : ℕ) → insert_answer w t i flags ≡ insert_answer (delay k w) t i flags
  answers_insert w t i flags =
      ap (λ (b : Bool). cond b (invalid_if (flags_fault w flags)) (invalid_if (insert_fault w t i flags))) (late_as w t)
      ∙ ap (λ (o : Option Fault). cond (is_late (delay k w) t) (invalid_if o) (invalid_if (insert_fault w t i flags))) (flags_as w flags)
      ∙ ap (λ (o : Option Fault). cond (is_late (delay k w) t) (invalid_if (flags_fault (delay k w) flags)) (invalid_if o)) (fault_as w t i flags)

  wanted : (w : WorldState) (a : List Arg) → insert_of w a ≡ insert_of (delay k w) a
  wanted w a = ap (λ (b : Bool). record { queue = given_number a 1; slice = given_number a 2; rank = arrival_rank (given_number a 3); preempts = has_preempt (given_number a 3); refills = b }) (linux_as k w)

  wanted_by : (w : WorldState) (a : List Arg) → insert_of_vtime w a ≡ insert_of_vtime (delay k w) a
  wanted_by w a = ap (λ (b : Bool). record (insert_of_vtime w a) { refills = b }) (linux_as k w)

  -- ---- other helpers

  delays_moved : (o : Option ℕ) → Delays k (λ w. moved_to_local w o)
  delays_moved None w = refl
  delays_moved (Some t) w =
      delays_note k (notes.Move t w.call.cpu) (with_move (after_local (after_leave w t) w.call.cpu t))
      ∙ ap (λ (v : WorldState). with_note (with_move v) (notes.Move t w.call.cpu)) (delays_local k w.call.cpu t (after_leave w t))

  chosen : (o : Option ℕ) (w : WorldState) → choice_answer w o ≡ choice_answer (delay k w) o
  chosen None w = refl
  chosen (Some t) w = ap (λ (c : ℕ). unless_fault (untracked_fault w) c) (choice_as k w t)

  -- a fault, or what is done without one
  delays_fault_or : (o : Option Fault) (v v' w : WorldState) → delay k v ≡ v' → delay k (fault_or w o v) ≡ fault_or (delay k w) o v'
  delays_fault_or None v v' w e = e
  delays_fault_or (Some x) v v' w e = refl

  delays_choice : (t : Option ℕ) → Delays k (λ w. after_choice w t)
  delays_choice None w = refl
  delays_choice (Some t) w =
      delays_fault_or (untracked_fault w) (after_claim w (choice w t)) (after_claim (delay k w) (choice (delay k w) t)) w
      (delays_claim k (choice w t) w ∙ ap (after_claim (delay k w)) (chosen_as k w t))

  kick_as : (w : WorldState) (c : ℕ) (o : Option Kick) → kick_fault w c o ≡ kick_fault (delay k w) c o
  kick_as w c None = refl
  kick_as w c (Some x) = refl

  delays_kicked : (o : Option Fault) (c : ℕ) (x : Option Kick) → Delays k (λ w. kicked_or_fault w o c x)
  delays_kicked (Some f) c x w = refl
  delays_kicked None c None w = refl
  delays_kicked None c (Some Any) w = refl
  delays_kicked None c (Some IfIdle) w =
      let b = is_none (running w c) || is_this c w.cycling in
      through_if (delay k) b b (with_kick w c) w (with_kick (delay k w) c) (delay k w) refl refl refl
  delays_kicked None c (Some Preempt) w = refl

  delays_kick : (c flags : ℕ) → Delays k (λ w. after_kick w c flags)
  delays_kick c flags w =
      let x = kick_of flags in
      delays_kicked (kick_fault w c x) c x w ∙ ap (λ (o : Option Fault). kicked_or_fault (delay k w) o c x) (kick_as w c x)

  -- the first free processor of a mask
  first_free_as : (mask : ℕ) (w : WorldState) → first_free_in mask w ≡ first_free_in mask (delay k w)
  first_free_as mask w =
      lowest_as (length w.cpus) (is_free_in mask w) (is_free_in mask (delay k w)) (λ c. ap (λ (b : Bool). (bit_at mask c == 1) && b) (free_as k w c))

  delays_picked : (o : Option Fault) (c : Option ℕ) → Delays k (λ w. after_pick_by o w c)
  delays_picked None c w = delays_claim k c w
  delays_picked (Some f) c w = refl

  delays_pick : (mask flags : ℕ) → Delays k (λ w. after_pick w mask flags)
  delays_pick mask flags w =
      delays_picked (pick_fault w flags) (first_free_in mask w) w
      ∙ ap (λ (o : Option ℕ). after_pick_by (pick_fault w flags) (delay k w) o) (first_free_as mask w)

  -- whether a processor seems idle
  seems_as : (w : WorldState) (c : ℕ) → seems_idle w c ≡ seems_idle (delay k w) c
  seems_as w c = ap (λ (b : Bool). is_idle w c && (not b || is_in_set w.call.claims c)) (claimed_as k w c)

  -- whether there is such a timer
  timer_as : (w : WorldState) (n : ℕ) → timer_fault w n ≡ timer_fault (delay k w) n
  timer_as w n = ap (λ (l : ℕ). cond (nat_lt n l) None (Some UnknownFlag)) (as_long (delayed_alarm k) w.timers)

  timed : (n : ℕ) (o p : Option Alarm) → delayed_alarm k o ≡ p → (w : WorldState) → delay k (with_timer w n o) ≡ with_timer (delay k w) n p
  timed n o p e w =
      ap (λ (xs : List (Option Alarm)). record (delay k w) { timers = xs }) (changed_at (delayed_alarm k) w.timers n o)
      ∙ ap (λ (x : Option Alarm). with_timer (delay k w) n x) e

  due_later : (n d : ℕ) → n + d + k ≡ n + k + d
  due_later n d = omega arith

  alarm_as : (w : WorldState) (ns : ℕ) → delayed_alarm k (Some (alarm_in w ns)) ≡ Some (alarm_in (delay k w) ns)
  alarm_as w ns = ap (λ (n : ℕ). Some (record (alarm_in w ns) { due = n })) (due_later w.clock (delay_ms ns))

  cancelled_as : (b : Bool) (o : Option Alarm) → cancelled_answer b o ≡ cancelled_answer b (delayed_alarm k o)
  cancelled_as true o = refl
  cancelled_as false None = refl
  cancelled_as false (Some a) = refl

  -- the current task of each processor, and the processor of a task
  current_in_as : (o : Option Switch) (w : WorldState) (c : ℕ) → current_in o w c ≡ current_in o (delay k w) c
  current_in_as None w c = refl
  current_in_as (Some s) w c = refl

  current_at : (w : WorldState) (c : ℕ) → current w c ≡ current (delay k w) c
  current_at w c = current_in_as w.passing.switching w c

  any_current_as : (n t : ℕ) (w : WorldState) → any_below n (λ c. is_this t (current w c)) ≡ any_below n (λ c. is_this t (current (delay k w) c))
  any_current_as zero t w = refl
  any_current_as (suc n) t w =
      ap (λ (b : Bool). b || is_this t (current w n)) (any_current_as n t w)
      ∙ ap (λ (o : Option ℕ). any_below n (λ c. is_this t (current (delay k w) c)) || is_this t o) (current_at w n)

  current_as : (o : Option ℕ) (w : WorldState) → is_current_one w o ≡ is_current_one (delay k w) o
  current_as None w = refl
  current_as (Some t) w = any_current_as (length w.cpus) t w

  cpu_as : (o : Option ℕ) (w : WorldState) → cpu_of_task w o ≡ cpu_of_task (delay k w) o
  cpu_as None w = refl
  cpu_as (Some t) w = read k (λ x. x.prev_cpu) (λ x. refl) w t

  there_as : (o : Option ℕ) (w : WorldState) (c : ℕ) → may_run_there w o c ≡ may_run_there (delay k w) o c
  there_as None w c = refl
  there_as (Some t) w c = refl

  not_so : (b : Bool) → b ≡ true → b ≡ false → ⊥
  not_so b x y = absurd (cc)

  -- what it answers, if it isn't the one of the clock
  helper_as : (f : Helper) (a : List Arg) (w : WorldState) → is_clock (Some f) ≡ false → helper_answer w f a ≡ helper_answer (delay k w) f a
  helper_as KtimeGetNs a w e = absurd (not_so true refl e)
  helper_as DsqInsert a w e =
      ap answer.Num (answers_insert w (given_task a 0) (insert_of w a) (given_number a 3))
      ∙ ap (λ (i : Insert). answer.Num (insert_answer (delay k w) (given_task a 0) i (given_number a 3))) (wanted w a)
  helper_as DsqInsertVtime a w e =
      ap answer.Num (answers_insert w (given_task a 0) (insert_of_vtime w a) (given_number a 4))
      ∙ ap (λ (i : Insert). answer.Num (insert_answer (delay k w) (given_task a 0) i (given_number a 4))) (wanted_by w a)
  helper_as KickCpu a w e = ap (λ (o : Option Fault). answer.Num (invalid_if o)) (kick_as w (given_number a 0) (kick_of (given_number a 1)))
  helper_as SelectCpuDfl a w e = ap answer.Num (chosen (given_task a 0) w)
  helper_as CpuIdle a w e = ap (λ (b : Bool). answer.Num (unless_fault (ask_fault w (given_number a 0)) (one_if b))) (seems_as w (given_number a 0))
  helper_as TaskByPid a w e =
      ap (λ (n : ℕ). cond (nat_lt 0 (given_number a 0) && nat_le (given_number a 0) n) (answer.Task (record { 0 = given_number a 0 - 1 })) (answer.Num 0)) (as_long (delayed_task k) w.tasks)
  helper_as CpuCurr a w e =
      let c = given_number a 0 in
      ap (λ (o : Option ℕ). cond (nat_lt c (length w.cpus)) (task_or_null o) (answer.Num 0)) (current_at w c)
  helper_as TaskRunning a w e = ap (λ (b : Bool). answer.Num (one_if b)) (current_as (given_task a 0) w)
  helper_as TaskCpu a w e = ap answer.Num (cpu_as (given_task a 0) w)
  helper_as PickIdle a w e = ap (λ (o : Option ℕ). answer.Num (pick_answer_by (pick_fault w (given_number a 1)) o)) (first_free_as (given_number a 0) w)
  helper_as ClaimIdle a w e = ap (λ (b : Bool). answer.Num (unless_fault (ask_fault w (given_number a 0)) (one_if b))) (free_as k w (given_number a 0))
  helper_as TimerStart a w e = ap (λ (o : Option Fault). answer.Num (invalid_if o)) (timer_as w (given_number a 0))
  helper_as TimerCancel a w e =
      let n = given_number a 0 in
      let b = is_this n w.passing.timer in
      ap (λ (o : Option Fault). answer.Num (unless_fault o (cancelled_answer b (alarm_at w n)))) (timer_as w n)
      ∙ ap (λ (m : ℕ). answer.Num (unless_fault (timer_fault (delay k w) n) m)) (cancelled_as b (alarm_at w n))
      ∙ ap (λ (o : Option Alarm). answer.Num (unless_fault (timer_fault (delay k w) n) (cancelled_answer b o))) (found_at (delayed_alarm k) w.timers n None)
  helper_as MayRun a w e =
      let c = given_number a 1 in
      ap (λ (b : Bool). answer.Num (unless_fault (cpu_fault w c) (one_if b))) (there_as (given_task a 0) w c)
  helper_as f a w e = refl

  -- what it makes of the world
  delays_helper : (f : Helper) (a : List Arg) → Delays k (λ w. helper_after w f a)
  delays_helper CreateDsq a w = through_if (delay k) (can_create w (given_number a 0)) (can_create w (given_number a 0)) _ _ _ _ refl refl refl
  delays_helper DsqInsert a w =
      delays_insert (given_task a 0) (insert_of w a) (given_number a 3) w
      ∙ ap (λ (i : Insert). after_insert (delay k w) (given_task a 0) i (given_number a 3)) (wanted w a)
  delays_helper DsqInsertVtime a w =
      delays_insert (given_task a 0) (insert_of_vtime w a) (given_number a 4) w
      ∙ ap (λ (i : Insert). after_insert (delay k w) (given_task a 0) i (given_number a 4)) (wanted_by w a)
  delays_helper DsqMoveToLocal a w =
      let q = given_number a 0 in
      through_if (delay k) (can_move w q) (can_move w q) _ _ _ _ refl (delays_moved (next_for w q w.call.cpu) w) refl
  delays_helper CpuIdle a w = delays_fault_or (ask_fault w (given_number a 0)) w (delay k w) w refl
  delays_helper DsqNrQueued a w = through_if (delay k) (is_there w (given_number a 0)) (is_there w (given_number a 0)) w _ (delay k w) _ refl refl refl
  delays_helper SelectCpuDfl a w = delays_choice (given_task a 0) w
  delays_helper KickCpu a w = delays_kick (given_number a 0) (given_number a 1) w
  delays_helper Exit a w = refl
  delays_helper CpuCurr a w = through_if (delay k) (nat_lt (given_number a 0) (length w.cpus)) (nat_lt (given_number a 0) (length w.cpus)) w _ (delay k w) _ refl refl refl
  delays_helper DsqPeek a w = through_if (delay k) (is_there w (given_number a 0)) (is_there w (given_number a 0)) w _ (delay k w) _ refl refl refl
  delays_helper PickIdle a w = delays_pick (given_number a 0) (given_number a 1) w
  delays_helper ClaimIdle a w =
      let c = given_number a 0 in
      delays_fault_or (ask_fault w c) (after_claim w (this_if (is_free w c) c)) (after_claim (delay k w) (this_if (is_free (delay k w) c) c)) w
      (delays_claim k (this_if (is_free w c) c) w ∙ ap (λ (b : Bool). after_claim (delay k w) (this_if b c)) (free_as k w c))
  delays_helper TimerStart a w =
      let n = given_number a 0 in
      let v = with_timer w n (Some (alarm_in w (given_number a 1))) in
      let later = with_timer (delay k w) n (Some (alarm_in (delay k w) (given_number a 1))) in
      delays_fault_or (timer_fault w n) v later w (timed n (Some (alarm_in w (given_number a 1))) (Some (alarm_in (delay k w) (given_number a 1))) (alarm_as w (given_number a 1)) w)
      ∙ ap (λ (o : Option Fault). fault_or (delay k w) o later) (timer_as w n)
  delays_helper TimerCancel a w =
      let n = given_number a 0 in
      let b = is_this n w.passing.timer in
      let later = if b then delay k w else with_timer (delay k w) n None in
      delays_fault_or (timer_fault w n) (if b then w else with_timer w n None) later w
      (through_if (delay k) b b w (with_timer w n None) (delay k w) (with_timer (delay k w) n None) refl refl (timed n None None refl w))
      ∙ ap (λ (o : Option Fault). fault_or (delay k w) o later) (timer_as w n)
  delays_helper PrandomU32 a w = refl
  delays_helper MayRun a w = through_if (delay k) (nat_lt (given_number a 1) (length w.cpus)) (nat_lt (given_number a 1) (length w.cpus)) w _ (delay k w) _ refl refl refl
  delays_helper f a w = refl

  -- ---- queries

  field_as : (f : Field) (t : ℕ) (w : WorldState) → field_of w t f ≡ field_of (delay k w) t f
  field_as Pid t w = refl
  field_as Weight t w =
      ap (λ (n : ℕ). cond (is_by_linux w) (own_weight w.tree t) n) (weight_as k w t)
      ∙ ap (λ (b : Bool). cond b (own_weight w.tree t) (weight_at (delay k w) t)) (linux_as k w)
  field_as Slice t w = read k (λ x. x.slice) (λ x. refl) w t
  field_as DsqVtime t w = read k (λ x. x.vtime) (λ x. refl) w t
  field_as PrevCpu t w = read k (λ x. x.prev_cpu) (λ x. refl) w t
  field_as Group t w = group_as k w t
  field_as Cpus t w = refl
  field_as RunNs t w = read k (λ x. x.run_ns) (λ x. refl) w t

  -- what a query is answered
  pub answer_as : (q : Query) (w : WorldState) → IsTimeless q → answer_to world_functions w q ≡ answer_to world_functions (delay k w) q
  answer_as (Call f a) w e = ap answer_value (helper_as f (map argument_of a) w e)
  answer_as (Load t f) w e = ap Number (field_as f t.0 w)
  answer_as (Store t f n) w e = refl

  -- and what it makes of the world
  pub delays_query : (q : Query) → Delays k (λ w. after_query world_functions w q)
  delays_query (Call f a) w = delays_helper f (map argument_of a) w
  delays_query (Load t f) w = refl
  delays_query (Store t f n) w = set_task k (λ x. stored_in x f n) (λ x. stored_in x f n) (changes_store k f n) w t.0
