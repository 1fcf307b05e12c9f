-- Runs of programs make the same queries, get the same answers and end alike in two worlds that are the same but for
-- unread parts.
use Rattle.std.proofs.Common.{◌≡◌, ℕ, zero, suc, ◌&&◌, ◌||◌, not, is_none, Bool, true, cond, if◌then◌else◌, nat_lt, nat_le, ◌==◌, List, length, map, Option, Some, None, refl, sym, ap, ◌∙◌, subst}
use Rattle.std.specs.Int.{w64, cast_signed}
use Rattle.scx_dsq.specs.declared.entries.Rank.{Rank}
use Rattle.scx_dsq.specs.declared.errors.QueueError.{QueueError}
use Rattle.scx_dsq.specs.Queues.{len_of, front_of}
use Rattle.scx_dsq.specs.Calls.{after_create}
use Rattle.scx_isa_semantics.specs.declared.callbacks.Callback.{Callback}
use Rattle.scx_isa_semantics.specs.declared.callbacks.Callback.TheVariants as callback
use Rattle.scx_isa_semantics.specs.declared.host_tables.Field.{Field}
use Rattle.scx_isa_semantics.specs.declared.host_tables.Field.TheVariants.{Pid, Weight, Slice, DsqVtime, PrevCpu, Group, RunNs, Cpus}
use Rattle.scx_isa_semantics.specs.declared.host_tables.Helper.{Helper}
use Rattle.scx_isa_semantics.specs.declared.host_tables.Helper.TheVariants.{CreateDsq, DsqInsert, DsqInsertVtime, DsqMoveToLocal, SelectCpuDfl, CpuIdle, DsqNrQueued, KickCpu, Exit, CpuCurr, DsqPeek, TaskRunning, TaskCpu, PickIdle, ClaimIdle, TimerStart, TimerCancel, PrandomU32, MayRun}
use Rattle.scx_isa_semantics.specs.declared.values.Value.{Value}
use Rattle.scx_isa_semantics.specs.declared.values.Value.TheVariants.{Number}
use Rattle.scx_isa_semantics.specs.Code.{Code, instruction_count}
use Rattle.scx_isa_semantics.specs.Effects.{Query, Call, Load, Store}
use Rattle.scx_isa_semantics.specs.Elements.{Maps}
use Rattle.scx_isa_semantics.specs.Endings.{Ending, ending_of, run_within, run_of}
use Rattle.scx_isa_semantics.specs.Machine.{Machine, Arguments, start}
use Rattle.scx_isa_semantics.specs.Steps.{Outcome, Stuck, Goes, Asks, Ends, step}
use Rattle.scx_vm.specs.declared.arguments.Arg.{Arg}
use Rattle.scx_vm.specs.declared.arguments.Answer.TheVariants as answer
use Rattle.scx_vm.specs.Arguments.{argument_of, answer_value}
use Rattle.scx_vm.specs.Host.{answer_to, after_query}
use Rattle.scx_sched_world.specs.declared.call.Call.{Call as AtHand}
use Rattle.scx_sched_world.specs.declared.call.Insert.{Insert}
use Rattle.scx_sched_world.specs.declared.eject.Cause.{Cause}
use Rattle.scx_sched_world.specs.declared.eject.Cause.TheVariants as reason
use Rattle.scx_sched_world.specs.CpuSets.{and_cpu}
use Rattle.scx_sched_world.specs.declared.faults.Fault.{Fault}
use Rattle.scx_sched_world.specs.declared.faults.Fault.TheVariants.{NoSuchQueue, NoSuchCpu, CannotCreate, CannotInsert, BuiltinVtime, Mixed, NotAllowed}
use Rattle.scx_sched_world.specs.declared.kicks.Kick.{Kick}
use Rattle.scx_sched_world.specs.declared.kicks.Kick.TheVariants.{Any, IfIdle, Preempt}
use Rattle.scx_sched_world.specs.declared.notes.What.TheVariants as notes
use Rattle.scx_sched_world.specs.Ids.{policy_end, global, local, held_queue, local_on}
use Rattle.scx_sched_world.specs.World.{WorldState, with_kick, is_by_linux, running, is_this, current_in, current, this_if, is_free, choice, after_claim, with_note}
use Rattle.scx_sched_world.specs.Tasks.{after_leave, after_enter, after_local, for_cpu, next_for}
use Rattle.scx_sched_world.specs.Helpers.{given_number, given_task, first_cause, with_cause, with_fault, is_there, can_create, is_dispatch, is_held, may_insert_in, may_insert, queue_fault, is_vtime, rank_fault, or_fault, flags_fault, cpu_meant, may_go, insert_fault, is_late, invalid, invalid_if, with_insert, with_move, after_release, insert_or_fault, after_late, after_insert, insert_answer, insert_of, insert_of_vtime, one_if_some, can_move, moved_to_local, ask_fault, fault_or, choice_answer, after_choice, untracked_fault, kick_of, kick_fault, kicked_or_fault, after_kick, task_or_null, is_current_one, cpu_of_task, may_run_there, unless_fault, cpu_fault, after_random, first_free_in, pick_fault, after_pick_by, timer_fault, with_timer, alarm_in, helper_answer, helper_after, field_of, world_stored, world_functions}
use Rattle.scx_sched_world.specs.declared.passing.Switch.{Switch}
use Rattle.scx_weights.specs.Counting.{any_below}
use Rattle.scx_explore_findings.specs.UnreadParts.{Parts, AreAsWorlds, Fits, parts_of, with_parts}
use Rattle.scx_explore_findings.proofs.SameQueues.{in_same, exists_same, any_clash_same, len_same, front_same, create_refusal_same, create_same}
use Rattle.scx_explore_findings.proofs.SameWorlds.{Skips, plain, requeued, recalled, rekicked, across, both, choose_worlds, if_so, next_same, skips_leave, skips_enter, skips_local, skips_claim}
use Rattle.scx_dsq.specs.Laws.{one_if}

-- ---- the callback at hand is the same

-- these parts, with the callback that is at hand
abbrev at : WorldState → Parts → Parts
at w z = record z { call = w.call }

-- a step leads from two such worlds with the same callback at hand to two such worlds
abbrev Hears : (WorldState → WorldState) → Type 0
Hears f = (w : WorldState) (z : Parts) → Fits true w (at w z) → AreAsWorlds true (f w) (f (with_parts w (at w z)))

heard : (f : WorldState → WorldState) → Hears f → Skips true f
heard f k w z m =
    let e : z ≡ at w z = ap (λ (j : AtHand). record z { call = j }) (sym (m.call refl)) in
    subst (λ (y : Parts). AreAsWorlds true (f w) (f (with_parts w y))) (sym e) (k w z (subst (λ (y : Parts). Fits true w y) e m))

-- a value that is the same in both worlds
read_heard : {A : Type 0} (f : WorldState → A) → ((w : WorldState) (z : Parts) → Fits true w (at w z) → f w ≡ f (with_parts w (at w z))) → (w : WorldState) (z : Parts) → Fits true w z → f w ≡ f (with_parts w z)
read_heard f k w z m =
    let e : z ≡ at w z = ap (λ (j : AtHand). record z { call = j }) (sym (m.call refl)) in
    subst (λ (y : Parts). f w ≡ f (with_parts w y)) (sym e) (k w z (subst (λ (y : Parts). Fits true w y) e m))

-- the callback has a cause to end the policy
caused : (x : Cause) → Skips true (λ w. with_cause w x)
caused x w z m = recalled (λ j. record j { cause = first_cause j.cause x }) w z m

faulted : (f : Fault) → Skips true (λ w. with_fault w f)
faulted f w z m = caused (reason.Fault f) w z m

-- the callback has asked for an insert
inserted_next : (i : Insert) → Skips true (λ w. with_insert w i)
inserted_next i w z m = recalled (λ j. record j { insert = Some i }) w z m

-- the callback has moved a task
moved_on : Skips true (λ w. with_move w)
moved_on w z m = recalled (λ j. record j { has_moved = true }) w z m

-- ---- inserts

held_same : (w : WorldState) (z : Parts) → Fits true w z → (t : Option ℕ) → is_held w t ≡ is_held (with_parts w z) t
held_same w z m None = refl
held_same w z m (Some t) = in_same w.queues z.queues m.queues held_queue t

may_same : (b : Callback) (w : WorldState) (z : Parts) → Fits true w (at w z) → (t : Option ℕ) → may_insert_in b w t ≡ may_insert_in b (with_parts w (at w z)) t
may_same callback.SelectCpu w z m None = refl
may_same callback.SelectCpu w z m (Some t) = refl
may_same callback.Enqueue w z m None = refl
may_same callback.Enqueue w z m (Some t) = refl
may_same callback.Dispatch w z m t = held_same w (at w z) m t
may_same b w z m t = refl

go_same : (w : WorldState) (z : Parts) (t c : Option ℕ) → may_go w t c ≡ may_go (with_parts w z) t c
go_same w z None None = refl
go_same w z None (Some c) = refl
go_same w z (Some t) None = refl
go_same w z (Some t) (Some c) = refl

-- the fault of an insert, by whether its queue exists
abbrev queue_fault_by : WorldState → ℕ → Bool → Option Fault
queue_fault_by w q b =
    if nat_lt q policy_end then (if b then None else Some NoSuchQueue)
    else if q == global then None
    else if q == local then None
    else if nat_lt q (local_on 0) then Some NoSuchQueue
    else if nat_lt q (local_on (length w.cpus)) then None
    else if nat_lt q (local_on 0x1_0000_0000) then Some NoSuchCpu
    else Some NoSuchQueue

queue_fault_same : (w : WorldState) (z : Parts) → Fits true w z → (q : ℕ) → queue_fault w q ≡ queue_fault (with_parts w z) q
queue_fault_same w z m q = ap (queue_fault_by w q) (exists_same w.queues z.queues m.queues q)

rank_fault_same : (w : WorldState) (z : Parts) → Fits true w z → (q : ℕ) (r : Rank) → rank_fault w q r ≡ rank_fault (with_parts w z) q r
rank_fault_same w z m q r = ap (λ (b : Bool). cond (is_vtime r && nat_le policy_end q) (Some BuiltinVtime) (cond b (Some Mixed) None)) (any_clash_same w.queues z.queues m.queues q r)

fault_same : (w : WorldState) (z : Parts) → Fits true w (at w z) → (t : Option ℕ) (i : Insert) (flags : ℕ) → insert_fault w t i flags ≡ insert_fault (with_parts w (at w z)) t i flags
fault_same w z m t i flags =
    let v = with_parts w (at w z) in
    let found : Bool → Option Fault → Option Fault → Bool → Option Fault = λ b o p c. cond b (or_fault (flags_fault w flags) (or_fault o (or_fault p (cond c None (Some NotAllowed))))) (Some CannotInsert) in
    ap (λ b. found b (queue_fault w i.queue) (rank_fault w i.queue i.rank) (may_go w t (cpu_meant w i.queue))) (may_same w.call.callback w z m t)
    ∙ (ap (λ o. found (may_insert v t) o (rank_fault w i.queue i.rank) (may_go w t (cpu_meant w i.queue))) (queue_fault_same w (at w z) m i.queue)
    ∙ (ap (λ o. found (may_insert v t) (queue_fault v i.queue) o (may_go w t (cpu_meant w i.queue))) (rank_fault_same w (at w z) m i.queue i.rank)
    ∙ ap (λ c. found (may_insert v t) (queue_fault v i.queue) (rank_fault v i.queue i.rank) c) (go_same w (at w z) t (cpu_meant w i.queue))))

skips_release : (t : Option ℕ) (i : Insert) → Skips true (λ w. after_release w t i)
skips_release None i w z m = plain w z m
skips_release (Some t) i w z m =
    across (λ v. with_note (with_move v) (notes.Insert t i.queue)) (λ v y l. moved_on (with_note v (notes.Insert t i.queue)) y l) _ _
    (both (λ v. after_leave v t) (λ v. after_enter v t i) (skips_leave t) (skips_enter t i) w z m)

skips_inserted : (o : Option Fault) (t : Option ℕ) (i : Insert) → Hears (λ w. insert_or_fault w o t i)
skips_inserted None t i w z m = choose_worlds (is_dispatch w.call.callback) (is_dispatch w.call.callback) _ _ (with_insert w i) (with_insert (with_parts w (at w z)) i) refl (skips_release t (for_cpu w.call.cpu i) w (at w z) m) (inserted_next i w (at w z) m)
skips_inserted (Some f) t i w z m = faulted f w (at w z) m

late_same : (w : WorldState) (z : Parts) → Fits true w (at w z) → (t : Option ℕ) → is_late w t ≡ is_late (with_parts w (at w z)) t
late_same w z m t = ap (λ (b : Bool). is_by_linux w && (is_dispatch w.call.callback && not b)) (held_same w (at w z) m t)

skips_late : (o : Option Fault) → Skips true (λ w. after_late w o)
skips_late None w z m = moved_on w z m
skips_late (Some f) w z m = faulted f w z m

skips_insert : (t : Option ℕ) (i : Insert) (flags : ℕ) → Hears (λ w. after_insert w t i flags)
skips_insert t i flags w z m =
    choose_worlds (is_late w t) (is_late (with_parts w (at w z)) t) _ _ _ _ (late_same w z m t) (skips_late (flags_fault w flags) w (at w z) m)
    (subst (λ o. AreAsWorlds true (insert_or_fault w (insert_fault w t i flags) t i) (insert_or_fault (with_parts w (at w z)) o t i)) (fault_same w z m t i flags) (skips_inserted (insert_fault w t i flags) t i w z m))

answers_insert : (w : WorldState) (z : Parts) → Fits true w (at w z) → (t : Option ℕ) (i : Insert) (flags : ℕ) → insert_answer w t i flags ≡ insert_answer (with_parts w (at w z)) t i flags
answers_insert w z m t i flags =
    ap (λ (b : Bool). cond b (invalid_if (flags_fault w flags)) (invalid_if (insert_fault w t i flags))) (late_same w z m t)
    ∙ ap (λ (o : Option Fault). cond (is_late (with_parts w (at w z)) t) (invalid_if (flags_fault w flags)) (invalid_if o)) (fault_same w z m t i flags)

-- ---- other helpers

there_same : (w : WorldState) (z : Parts) → Fits true w z → (q : ℕ) → is_there w q ≡ is_there (with_parts w z) q
there_same w z m q = ap (λ (b : Bool). nat_lt q policy_end && b) (exists_same w.queues z.queues m.queues q)

create_same_test : (w : WorldState) (z : Parts) → Fits true w z → (q : ℕ) → can_create w q ≡ can_create (with_parts w z) q
create_same_test w z m q = ap (λ (o : Option QueueError). nat_lt q policy_end && is_none o) (create_refusal_same w.queues z.queues m.queues q)

move_same_test : (w : WorldState) (z : Parts) → Fits true w (at w z) → (q : ℕ) → can_move w q ≡ can_move (with_parts w (at w z)) q
move_same_test w z m q = ap (λ (b : Bool). is_dispatch w.call.callback && b) (there_same w (at w z) m q)

skips_moved : (o : Option ℕ) → Hears (λ w. moved_to_local w o)
skips_moved None w z m = plain w (at w z) m
skips_moved (Some t) w z m =
    across (λ v. with_note (with_move v) (notes.Move t w.call.cpu)) (λ v y l. moved_on (with_note v (notes.Move t w.call.cpu)) y l) _ _
    (both (λ v. after_leave v t) (λ v. after_local v w.call.cpu t) (skips_leave t) (skips_local w.call.cpu t) w (at w z) m)

skips_move : (q : ℕ) → Hears (λ w. moved_to_local w (next_for w q w.call.cpu))
skips_move q w z m = subst (λ o. AreAsWorlds true (moved_to_local w (next_for w q w.call.cpu)) (moved_to_local (with_parts w (at w z)) o)) (next_same w (at w z) m q w.call.cpu) (skips_moved (next_for w q w.call.cpu) w z m)

-- a fault, or the step without one
skips_fault_or : (o : Option Fault) (f : WorldState → WorldState) → Skips true f → Skips true (λ w. fault_or w o (f w))
skips_fault_or None f k w z m = k w z m
skips_fault_or (Some x) f k w z m = faulted x w z m

skips_choice : (t : Option ℕ) → Skips true (λ w. after_choice w t)
skips_choice None w z m = plain w z m
skips_choice (Some t) w z m = skips_fault_or (untracked_fault w) (λ v. after_claim v (choice v t)) (λ v y l. skips_claim (choice v t) v y l) w z m

kick_same : (w : WorldState) (z : Parts) (c : ℕ) (k : Option Kick) → kick_fault w c k ≡ kick_fault (with_parts w z) c k
kick_same w z c None = refl
kick_same w z c (Some k) = refl

skips_kicked : (o : Option Fault) (c : ℕ) (k : Option Kick) → Skips true (λ w. kicked_or_fault w o c k)
skips_kicked (Some f) c k w z m = faulted f w z m
skips_kicked None c None w z m = plain w z m
skips_kicked None c (Some Any) w z m = rekicked (λ k. and_cpu k c) (λ k. k) w z m
skips_kicked None c (Some IfIdle) w z m = if_so (is_none (running w c) || is_this c w.cycling) (λ v. with_kick v c) w z m (rekicked (λ k. and_cpu k c) (λ k. k) w z m)
skips_kicked None c (Some Preempt) w z m = rekicked (λ k. and_cpu k c) (λ k. and_cpu k c) w z m

skips_kick : (c flags : ℕ) → Skips true (λ w. after_kick w c flags)
skips_kick c flags w z m =
    let k = kick_of flags in
    subst (λ o. AreAsWorlds true (kicked_or_fault w (kick_fault w c k) c k) (kicked_or_fault (with_parts w z) o c k)) (kick_same w z c k) (skips_kicked (kick_fault w c k) c k w z m)

skips_picked : (o : Option Fault) (c : Option ℕ) → Skips true (λ w. after_pick_by o w c)
skips_picked None c w z m = skips_claim c w z m
skips_picked (Some f) c w z m = faulted f w z m

chosen : (o : Option ℕ) (w : WorldState) (z : Parts) → choice_answer w o ≡ choice_answer (with_parts w z) o
chosen None w z = refl
chosen (Some t) w z = refl

-- the current task of each processor
current_in_same : (o : Option Switch) (w : WorldState) (z : Parts) (c : ℕ) → current_in o w c ≡ current_in o (with_parts w z) c
current_in_same None w z c = refl
current_in_same (Some s) w z c = refl

current_at : (w : WorldState) (z : Parts) (c : ℕ) → current w c ≡ current (with_parts w z) c
current_at w z c = current_in_same w.passing.switching w z c

any_current_same : (n t : ℕ) (w : WorldState) (z : Parts) → any_below n (λ c. is_this t (current w c)) ≡ any_below n (λ c. is_this t (current (with_parts w z) c))
any_current_same zero t w z = refl
any_current_same (suc n) t w z =
    ap (λ (b : Bool). b || is_this t (current w n)) (any_current_same n t w z)
    ∙ ap (λ (o : Option ℕ). any_below n (λ c. is_this t (current (with_parts w z) c)) || is_this t o) (current_at w z n)

current_same : (o : Option ℕ) (w : WorldState) (z : Parts) → is_current_one w o ≡ is_current_one (with_parts w z) o
current_same None w z = refl
current_same (Some t) w z = any_current_same (length w.cpus) t w z

cpu_same : (o : Option ℕ) (w : WorldState) (z : Parts) → cpu_of_task w o ≡ cpu_of_task (with_parts w z) o
cpu_same None w z = refl
cpu_same (Some t) w z = refl

may_run_same : (o : Option ℕ) (w : WorldState) (z : Parts) (c : ℕ) → may_run_there w o c ≡ may_run_there (with_parts w z) o c
may_run_same None w z c = refl
may_run_same (Some t) w z c = refl

-- the answer of a helper
helper_same : (f : Helper) (a : List Arg) (w : WorldState) (z : Parts) → Fits true w (at w z) → helper_answer w f a ≡ helper_answer (with_parts w (at w z)) f a
helper_same CreateDsq a w z m = ap (λ (b : Bool). answer.Num (cond b 0 invalid)) (create_same_test w (at w z) m (given_number a 0))
helper_same DsqInsert a w z m = ap answer.Num (answers_insert w z m (given_task a 0) (insert_of w a) (given_number a 3))
helper_same DsqInsertVtime a w z m = ap answer.Num (answers_insert w z m (given_task a 0) (insert_of_vtime w a) (given_number a 4))
helper_same DsqMoveToLocal a w z m =
    let q = given_number a 0 in
    ap (λ (b : Bool). answer.Num (cond b (one_if_some (next_for w q w.call.cpu)) invalid)) (move_same_test w z m q)
    ∙ ap (λ (o : Option ℕ). answer.Num (cond (can_move (with_parts w (at w z)) q) (one_if_some o) invalid)) (next_same w (at w z) m q w.call.cpu)
helper_same DsqNrQueued a w z m =
    let q = given_number a 0 in
    ap (λ (b : Bool). answer.Num (cond b (len_of w.queues q) invalid)) (there_same w (at w z) m q)
    ∙ ap (λ (n : ℕ). answer.Num (cond (is_there (with_parts w (at w z)) q) n invalid)) (len_same w.queues z.queues m.queues q)
helper_same KickCpu a w z m = ap (λ (o : Option Fault). answer.Num (invalid_if o)) (kick_same w (at w z) (given_number a 0) (kick_of (given_number a 1)))
helper_same SelectCpuDfl a w z m = ap answer.Num (chosen (given_task a 0) w (at w z))
helper_same DsqPeek a w z m =
    let q = given_number a 0 in
    ap (λ (b : Bool). cond b (task_or_null (front_of w.queues q)) (answer.Num 0)) (there_same w (at w z) m q)
    ∙ ap (λ (o : Option ℕ). cond (is_there (with_parts w (at w z)) q) (task_or_null o) (answer.Num 0)) (front_same w.queues z.queues m.queues q)
helper_same CpuCurr a w z m =
    let c = given_number a 0 in
    ap (λ (o : Option ℕ). cond (nat_lt c (length w.cpus)) (task_or_null o) (answer.Num 0)) (current_at w (at w z) c)
helper_same TaskRunning a w z m = ap (λ (b : Bool). answer.Num (one_if b)) (current_same (given_task a 0) w (at w z))
helper_same TaskCpu a w z m = ap answer.Num (cpu_same (given_task a 0) w (at w z))
helper_same MayRun a w z m =
    let c = given_number a 1 in
    ap (λ (b : Bool). answer.Num (unless_fault (cpu_fault w c) (one_if b))) (may_run_same (given_task a 0) w (at w z) c)
helper_same f a w z m = refl

-- the world after a helper
skips_helper : (f : Helper) (a : List Arg) → Hears (λ w. helper_after w f a)
skips_helper CreateDsq a w z m =
    let q = given_number a 0 in
    choose_worlds (can_create w q) (can_create (with_parts w (at w z)) q) _ _ (with_fault w CannotCreate) (with_fault (with_parts w (at w z)) CannotCreate) (create_same_test w (at w z) m q) (requeued w (after_create w.queues q) (after_create z.queues q) (at w z) m (create_same w.queues z.queues m.queues q)) (faulted CannotCreate w (at w z) m)
skips_helper DsqInsert a w z m = skips_insert (given_task a 0) (insert_of w a) (given_number a 3) w z m
skips_helper DsqInsertVtime a w z m = skips_insert (given_task a 0) (insert_of_vtime w a) (given_number a 4) w z m
skips_helper DsqMoveToLocal a w z m =
    let q = given_number a 0 in
    choose_worlds (can_move w q) (can_move (with_parts w (at w z)) q) _ _ (with_fault w NoSuchQueue) (with_fault (with_parts w (at w z)) NoSuchQueue) (move_same_test w z m q) (skips_move q w z m) (faulted NoSuchQueue w (at w z) m)
skips_helper CpuIdle a w z m = skips_fault_or (ask_fault w (given_number a 0)) (λ v. v) (λ v y l. plain v y l) w (at w z) m
skips_helper DsqNrQueued a w z m =
    let q = given_number a 0 in
    choose_worlds (is_there w q) (is_there (with_parts w (at w z)) q) w (with_parts w (at w z)) (with_fault w NoSuchQueue) (with_fault (with_parts w (at w z)) NoSuchQueue) (there_same w (at w z) m q) (plain w (at w z) m) (faulted NoSuchQueue w (at w z) m)
skips_helper SelectCpuDfl a w z m = skips_choice (given_task a 0) w (at w z) m
skips_helper KickCpu a w z m = skips_kick (given_number a 0) (given_number a 1) w (at w z) m
skips_helper Exit a w z m = caused (reason.Exit (cast_signed w64 (given_number a 0))) w (at w z) m
skips_helper CpuCurr a w z m = let b = nat_lt (given_number a 0) (length w.cpus) in choose_worlds b b w (with_parts w (at w z)) (with_fault w NoSuchCpu) (with_fault (with_parts w (at w z)) NoSuchCpu) refl (plain w (at w z) m) (faulted NoSuchCpu w (at w z) m)
skips_helper DsqPeek a w z m =
    let q = given_number a 0 in
    choose_worlds (is_there w q) (is_there (with_parts w (at w z)) q) w (with_parts w (at w z)) (with_fault w NoSuchQueue) (with_fault (with_parts w (at w z)) NoSuchQueue) (there_same w (at w z) m q) (plain w (at w z) m) (faulted NoSuchQueue w (at w z) m)
skips_helper PickIdle a w z m = skips_picked (pick_fault w (given_number a 1)) (first_free_in (given_number a 0) w) w (at w z) m
skips_helper ClaimIdle a w z m =
    let c = given_number a 0 in
    skips_fault_or (ask_fault w c) (λ v. after_claim v (this_if (is_free v c) c)) (λ v y l. skips_claim (this_if (is_free v c) c) v y l) w (at w z) m
skips_helper TimerStart a w z m =
    let n = given_number a 0 in
    let x = alarm_in w (given_number a 1) in
    let f : WorldState → WorldState = λ v. with_timer v n (Some x) in
    skips_fault_or (timer_fault w n) f (λ v y l. plain (f v) y l) w (at w z) m
skips_helper TimerCancel a w z m =
    let n = given_number a 0 in
    skips_fault_or (timer_fault w n) (λ v. if is_this n v.passing.timer then v else with_timer v n None)
    (λ v y l. choose_worlds (is_this n v.passing.timer) (is_this n v.passing.timer) v (with_parts v y) (with_timer v n None) (with_timer (with_parts v y) n None) refl (plain v y l) (plain (with_timer v n None) y l)) w (at w z) m
skips_helper PrandomU32 a w z m = plain (after_random w) (at w z) m
skips_helper MayRun a w z m = let b = nat_lt (given_number a 1) (length w.cpus) in choose_worlds b b w (with_parts w (at w z)) (with_fault w NoSuchCpu) (with_fault (with_parts w (at w z)) NoSuchCpu) refl (plain w (at w z) m) (faulted NoSuchCpu w (at w z) m)
skips_helper f a w z m = plain w (at w z) m

-- ---- queries

field_same : (f : Field) (t : ℕ) (w : WorldState) (z : Parts) → field_of w t f ≡ field_of (with_parts w z) t f
field_same Pid t w z = refl
field_same Weight t w z = refl
field_same Slice t w z = refl
field_same DsqVtime t w z = refl
field_same PrevCpu t w z = refl
field_same Group t w z = refl
field_same Cpus t w z = refl
field_same RunNs t w z = refl

-- the answer to a query
answer_same : (q : Query) (w : WorldState) (z : Parts) → Fits true w z → answer_to world_functions w q ≡ answer_to world_functions (with_parts w z) q
answer_same (Call f a) w z m = ap answer_value (read_heard (λ v. helper_answer v f (map argument_of a)) (helper_same f (map argument_of a)) w z m)
answer_same (Load t f) w z m = ap Number (field_same f t.0 w z)
answer_same (Store t f n) w z m = refl

-- the world after a query
skips_query : (q : Query) → Skips true (λ w. after_query world_functions w q)
skips_query (Call f a) w z m = heard (λ v. helper_after v f (map argument_of a)) (skips_helper f (map argument_of a)) w z m
skips_query (Load t f) w z m = plain w z m
skips_query (Store t f n) w z m = plain (world_stored w t f n) z m

-- ---- runs

-- two ends of a run are the same but for such parts
pub record EndsAlike (e f : Ending WorldState) : Type 0 where
  pub answer : e.answer ≡ f.answer
  pub maps : e.maps ≡ f.maps
  pub outside : AreAsWorlds true e.outside f.outside

-- the rest of a run is the same in two such worlds
abbrev Follows : (ℕ → Machine → WorldState → Ending WorldState) → Type 0
Follows on = (t : ℕ) (k : Machine) (v w : WorldState) → AreAsWorlds true v w → EndsAlike (on t k v) (on t k w)

abbrev answers : WorldState → Query → Value
answers w q = answer_to world_functions w q

abbrev asked : WorldState → Query → WorldState
asked w q = after_query world_functions w q

answers_across : (q : Query) (v w : WorldState) → AreAsWorlds true v w → answers v q ≡ answers w q
answers_across q v w e = answer_same q v (parts_of w) e.parts ∙ ap (λ u. answers u q) e.rest

ending_same : (on : ℕ → Machine → WorldState → Ending WorldState) → Follows on → (o : Outcome) (k : Machine) (v w : WorldState) → AreAsWorlds true v w → EndsAlike (ending_of answers asked on o k v) (ending_of answers asked on o k w)
ending_same on more Stuck k v w e = record { answer = refl; maps = refl; outside = e }
ending_same on more (Goes t j) k v w e = more t j v w e
ending_same on more (Asks q t go) k v w e =
    subst (λ x. EndsAlike (on t (go (answers v q)) (asked v q)) (on t (go x) (asked w q))) (answers_across q v w e)
    (more t (go (answers v q)) (asked v q) (asked w q) (across (λ u. asked u q) (skips_query q) v w e))
ending_same on more (Ends n) k v w e = record { answer = refl; maps = refl; outside = e }

run_same : (c : Callback) (code : Code) (n : ℕ) → Follows (λ t k w. run_within answers asked c code n t k w)
run_same c code zero t k v w e = record { answer = refl; maps = refl; outside = e }
run_same c code (suc n) t k v w e = ending_same (λ s j u. run_within answers asked c code n s j u) (run_same c code n) (step c code t k) k v w e

-- a run of a program is the same in two such worlds
pub program_same : (c : Callback) (code : Code) (a : Arguments) (maps : Maps) (v w : WorldState) → AreAsWorlds true v w → EndsAlike (run_of answers asked c code a maps v) (run_of answers asked c code a maps w)
unfolding run_of
program_same c code a maps v w e = run_same c code (suc (instruction_count code)) 0 (start a maps) v w e
