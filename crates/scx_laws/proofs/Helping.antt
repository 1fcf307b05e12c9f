-- What a helper answers and leaves is allowed, and nothing else is.
use Rattle.std.proofs.Common.{unwrap_or, ◌≡◌, ℕ, suc, ◌+◌, ◌-◌, ◌*◌, ◌/◌, ◌%◌, ◌^◌, ◌<◌, ◌≤◌, Bool, true, false, ◌==◌, ◌&&◌, ◌||◌, not, nat_lt, nat_le, ◌⊎◌, inl, inr, if◌then◌else◌, List, [], ◌∷◌, length, get_or, Option, Some, None, is_none, option_map, refl, sym, ◌∙◌, ap, subst, arith}
use Rattle.scx_sched.proofs.Events.{is_task}
use Rattle.std.specs.List.{list_any}
use Rattle.std.proofs.lemmas.List.{get_or_past}
use Rattle.std.proofs.lemmas.Nat.{div-add-mod'}
use Rattle.std.proofs.lemmas.List.Folds.{list_any_at}
use Rattle.std.proofs.lemmas.Bool.Decides.{nat_tests}
use Rattle.std.proofs.lemmas.Bool.{cases_eq, cases_lt, eq-eqb, ne_eqb, and_from, and_left, or_cases, and_parts, false_from_ne_true, not-true, or_right}
use Rattle.scx_dsq.specs.Queues.{Entries, exists, entry_of, is_in, len_of}
use Rattle.scx_dsq.specs.Calls.{create_refusal, after_create, clashes, with_queue, after_push, after_remove}
use Rattle.scx_dsq.specs.Laws.{one_if}
use Rattle.scx_dsq.specs.Entries.{same_sort}
use Rattle.scx_dsq.specs.declared.entries.Entry.{Entry}
use Rattle.scx_dsq.specs.declared.entries.Rank.{Rank}
use Rattle.scx_dsq.specs.declared.entries.Rank.TheVariants.{Fifo, Vtime}
use Rattle.scx_dsq.specs.declared.entries.Rank.TheVariants as rank
use Rattle.scx_dsq.specs.declared.errors.QueueError.TheVariants as queue_error
use Rattle.scx_isa_semantics.specs.declared.callbacks.Callback.{Callback}
use Rattle.scx_isa_semantics.specs.declared.callbacks.Callback.TheVariants as callback
use Rattle.scx_isa_semantics.specs.declared.host_tables.Helper.{Helper}
use Rattle.scx_isa_semantics.specs.declared.host_tables.Helper.TheVariants.{MapLookupElem, KtimeGetNs, CreateDsq, DsqInsert, DsqInsertVtime, DsqMoveToLocal, SelectCpuDfl, CpuIdle, TaskByPid, DsqNrQueued, KickCpu, SmpProcessorId, Exit, CpuCurr, DsqPeek, TaskRunning, TaskCpu, PickIdle, ClaimIdle, TimerStart, TimerCancel, PrandomU32, MayRun, OnMap}
use Rattle.scx_vm.specs.declared.arguments.Arg.{Arg}
use Rattle.scx_vm.specs.declared.arguments.Answer.{Answer}
use Rattle.scx_vm.specs.declared.arguments.Answer.TheVariants.{Num, Task}
use Rattle.scx_sched_world.specs.declared.call.Insert.{Insert}
use Rattle.scx_sched_world.specs.declared.eject.Cause.TheVariants as reason
use Rattle.scx_sched_world.specs.declared.faults.Fault.{Fault}
use Rattle.scx_sched_world.specs.declared.faults.Fault.TheVariants.{Stuck, NoSuchQueue, CannotInsert, NoSuchCpu, UnknownFlag, CannotCreate, BuiltinVtime, Mixed, IdleUntracked, NotAllowed}
use Rattle.scx_sched_world.specs.Ids.{policy_end, global, local, held_queue, local_on}
use Rattle.scx_sched_world.specs.declared.kicks.Kick.{Kick}
use Rattle.scx_sched_world.specs.declared.kicks.Kick.TheVariants.{Any, IfIdle, Preempt}
use Rattle.scx_sched_world.specs.CpuSets.{is_in_set}
use Rattle.scx_sched_world.specs.World.{WorldState, with_queues, with_kick, is_by_linux, task_at, running, is_this, is_idle, is_claimed, choice, default_choice, after_claim, with_note}
use Rattle.scx_sched_world.specs.Tasks.{homed, local_cpu, for_cpu, next_for}
use Rattle.scx_sched_world.specs.declared.notes.What.TheVariants as notes
use Rattle.scx_sched_world.specs.Helpers.{invalid, with_fault, with_move, are_linux_flags, are_known, flags_fault, is_late, after_late, after_insert, insert_answer, after_choice, seems_idle, kick_of, kicked_so, kick_fault, kicked_or_fault, given_number, given_task, task_or_null, is_there, can_create, is_at_hand, is_held, is_dispatch, may_insert_in, may_insert, queue_fault, is_vtime, rank_fault, or_fault, unless_fault, fault_or, ask_fault, insert_fault, insert_or_fault, invalid_if, insert_of, insert_of_vtime, choice_answer, pid_answer, cpu_meant, may_go, placing_fault, can_move, moved_to_local, one_if_some, after_release, helper_answer, helper_after}
use Rattle.scx_laws.specs.Helpers.{Judges, Does, Names, wrong_answer, IsDestination, Own, Global, Local, LocalOn, NamesNoCpu, CanCreate, MayInsert, InSelectCpu, InEnqueue, InDispatch, IsBuiltinVtime, IsMixed, IsMeant, IsNamed, IsAtHand, IsForbidden, MayMove, JudgesAsk, JudgesChoice, AreFlags, OfWake, OfLinux, IsLate, JudgesInsert, JudgesFlags, JudgesAnInsert, InTime, TooLate, Inserts, Keeps, Releases, PassesOver, Moves, First, HasNone, IsChoice, Chooses, OfTask, OfNone, OfNobody, SeemsIdle, IsUnclaimed, ClaimedHere, Tells, TellsIdle, TellsBusy, Kicks, KicksAny, KicksIdle, KicksCycling, LeavesBusy, KicksToPreempt, Finds, Found, Nobody, IsEffect, Done, NamesTask, Wrong, Blames}
use Rattle.scx_laws.specs.Allowing.{RulesAllowHelpers, RulesAllowHelpersOnly}
use Rattle.scx_laws.proofs.PickingIdle.{is_choice, only_choice, claims, only_claims}
use Rattle.scx_laws.proofs.Differing.{homes, only_homes, not_so}
use Rattle.scx_laws.proofs.BindingTasks.{outside_is, outside_of, next_is, only_next}
use Rattle.scx_laws.proofs.Ejecting.{blames, only_blames}
use Rattle.scx_laws.proofs.Readers.{this_of, there_is, is_there_of, some_fault, here_allowed, only_here_so, exit_allowed, only_exit, current_allowed, only_current_so, peek_allowed, only_peek, running_allowed, only_running, home_allowed, only_home, may_allowed, only_may, random_allowed, only_random, pick_allowed, only_pick, ask_judged, ask_from, claim_allowed, only_claim}
use Rattle.scx_laws.proofs.Alarms.{start_allowed, only_start, cancel_allowed, only_cancel}

-- ---- tests of Booleans as facts

dispatch_is : (b : Callback) → is_dispatch b ≡ true → b ≡ callback.Dispatch
dispatch_is callback.Dispatch e = refl
dispatch_is b e = absurd (cc)

-- ---- queues that a call names

-- what the fault of a queue says
abbrev FaultOf : WorldState → ℕ → Option Fault → Type 0
FaultOf w q None = IsDestination w q
FaultOf w q (Some NoSuchQueue) = (¬ IsDestination w q) × (¬ NamesNoCpu w q)
FaultOf w q (Some NoSuchCpu) = NamesNoCpu w q
FaultOf w q (Some f) = ⊥

no_destination : (w : WorldState) (q : ℕ) → (q < policy_end → exists w.queues q ≡ true → ⊥) → (q ≡ global → ⊥) → (q ≡ local → ⊥) → ((c : ℕ) → c < length w.cpus → q ≡ local_on c → ⊥) → ¬ IsDestination w q
no_destination w q own g l on (Own h) = own h.0 h.1
no_destination w q own g l on (Global e) = g e
no_destination w q own g l on (Local e) = l e
no_destination w q own g l on (LocalOn c k e) = on c k e

-- below the end, only what is there
low_queue : (w : WorldState) (q : ℕ) → q < policy_end → (b : Bool) → exists w.queues q ≡ b → FaultOf w q (if b then None else Some NoSuchQueue)
low_queue w q low true e = Own (low, e)
low_queue w q low false e = (no_destination w q (λ l x. not_so (exists w.queues q) e x) (λ x. omega (arith, low, x)) (λ x. omega (arith, low, x)) (λ c l x. omega (arith, low, x)), λ h. omega (arith, low, h.named))

-- from the local queues on
high_queue : (w : WorldState) (q : ℕ) → local_on 0 ≤ q → (a b : Bool) → nat_lt q (local_on (length w.cpus)) ≡ a → nat_lt q (local_on 0x1_0000_0000) ≡ b → FaultOf w q (if a then None else (if b then Some NoSuchCpu else Some NoSuchQueue))
high_queue w q low true b x y = let l : q < local_on (length w.cpus) = grind (arith, nat_tests, x) in LocalOn (q - local_on 0) (omega (arith, l, low)) (omega (arith, low))
high_queue w q low false true x y =
    let past : local_on (length w.cpus) ≤ q = grind (arith, nat_tests, x) in
    let l : q < local_on 0x1_0000_0000 = grind (arith, nat_tests, y) in
    record { cpu = q - local_on 0; past = omega (arith, past, low); small = omega (arith, l, low); named = omega (arith, low) }
high_queue w q low false false x y =
    let past : local_on (length w.cpus) ≤ q = grind (arith, nat_tests, x) in
    let far : local_on 0x1_0000_0000 ≤ q = grind (arith, nat_tests, y) in
    (no_destination w q (λ l e. omega (arith, l, low)) (λ e. omega (arith, e, low)) (λ e. omega (arith, e, low)) (λ c l e. omega (arith, l, e, past)), λ h. omega (arith, h.small, h.named, far))

queue_fault_is : (w : WorldState) (q : ℕ) → FaultOf w q (queue_fault w q)
queue_fault_is w q = first (nat_lt q policy_end) refl
  where
    last : (q ≡ global → ⊥) → (q ≡ local → ⊥) → policy_end ≤ q → (b : Bool) → nat_lt q (local_on 0) ≡ b
        → FaultOf w q (if b then Some NoSuchQueue else (if nat_lt q (local_on (length w.cpus)) then None else (if nat_lt q (local_on 0x1_0000_0000) then Some NoSuchCpu else Some NoSuchQueue)))
    last g l past true e = let low : q < local_on 0 = grind (arith, nat_tests, e) in (no_destination w q (λ x y. omega (arith, x, past)) g l (λ c x y. omega (arith, low, y)), λ h. omega (arith, low, h.named))
    last g l past false e = high_queue w q (grind (arith, nat_tests, e)) (nat_lt q (local_on (length w.cpus))) (nat_lt q (local_on 0x1_0000_0000)) refl refl

    third : (q ≡ global → ⊥) → policy_end ≤ q → (q ≡ local) ⊎ (q ≡ local → ⊥)
        → FaultOf w q (if (q == local) then None else (if nat_lt q (local_on 0) then Some NoSuchQueue else (if nat_lt q (local_on (length w.cpus)) then None else (if nat_lt q (local_on 0x1_0000_0000) then Some NoSuchCpu else Some NoSuchQueue))))
    third g past (inl e) = rw (eq-eqb q local e) (Local e)
    third g past (inr d) = rw (ne_eqb q local d) (last g d past (nat_lt q (local_on 0)) refl)

    second : policy_end ≤ q → (q ≡ global) ⊎ (q ≡ global → ⊥)
        → FaultOf w q (if (q == global) then None else (if (q == local) then None else (if nat_lt q (local_on 0) then Some NoSuchQueue else (if nat_lt q (local_on (length w.cpus)) then None else (if nat_lt q (local_on 0x1_0000_0000) then Some NoSuchCpu else Some NoSuchQueue)))))
    second past (inl e) = rw (eq-eqb q global e) (Global e)
    second past (inr d) = rw (ne_eqb q global d) (third d past (cases_eq q local))

    first : (b : Bool) → nat_lt q policy_end ≡ b
        → FaultOf w q (if b then (if exists w.queues q then None else Some NoSuchQueue) else (if (q == global) then None else (if (q == local) then None else (if nat_lt q (local_on 0) then Some NoSuchQueue else (if nat_lt q (local_on (length w.cpus)) then None else (if nat_lt q (local_on 0x1_0000_0000) then Some NoSuchCpu else Some NoSuchQueue))))))
    first true e = low_queue w q (grind (arith, nat_tests, e)) (exists w.queues q) refl
    first false e = second (grind (arith, nat_tests, e)) (cases_eq q global)

-- ---- ranks

-- what the fault of a rank says
abbrev RankOf : WorldState → ℕ → Rank → Option Fault → Type 0
RankOf w q r None = (¬ IsBuiltinVtime q r) × (¬ IsMixed w q r)
RankOf w q r (Some BuiltinVtime) = IsBuiltinVtime q r
RankOf w q r (Some Mixed) = (¬ IsBuiltinVtime q r) × IsMixed w q r
RankOf w q r (Some f) = ⊥

by_vtime_is : (q : ℕ) (r : Rank) → (is_vtime r && nat_le policy_end q) ≡ true → IsBuiltinVtime q r
by_vtime_is q Fifo e = absurd (cc)
by_vtime_is q rank.Front e = absurd (cc)
by_vtime_is q (Vtime k) e = record { key = k; by_vtime = refl; own = grind (arith, nat_tests, e) }

by_vtime_of : (q : ℕ) (r : Rank) → IsBuiltinVtime q r → (is_vtime r && nat_le policy_end q) ≡ true
by_vtime_of q r h = let l : nat_le policy_end q ≡ true = grind (arith, nat_tests, h.own) in rw (h.by_vtime, l) refl

record IsAny (f : Option Entry → Bool) (xs : Entries) : Type 0 where
  at : ℕ
  passes : f (get_or xs at None) ≡ true

any_at : (f : Option Entry → Bool) (xs : Entries) → list_any f xs ≡ true → IsAny f xs
any_at f [] e = absurd (cc)
any_at f (x ∷ xs) e = go (f x) refl e (λ y. any_at f xs y)
  where
    go : (b : Bool) → f x ≡ b → (b || list_any f xs) ≡ true → (list_any f xs ≡ true → IsAny f xs) → IsAny f (x ∷ xs)
    go true y z g = record { at = 0; passes = y }
    go false y z g = let h = g z in record { at = suc h.at; passes = h.passes }

mixed_is : (w : WorldState) (q : ℕ) (r : Rank) → list_any (clashes q r) w.queues.entries ≡ true → IsMixed w q r
mixed_is w q r e = go (any_at (clashes q r) w.queues.entries e)
  where
    at : (t : ℕ) (o : Option Entry) → entry_of w.queues t ≡ o → clashes q r o ≡ true → IsMixed w q r
    at t None x y = absurd (cc)
    at t (Some p) x y = let z = and_parts (p.queue == q) (not (same_sort p.rank r)) y in record { task = t; entry = p; waits = (x, grind (arith, nat_tests, z.0)); other = not-true (same_sort p.rank r) z.1 }

    go : IsAny (clashes q r) w.queues.entries → IsMixed w q r
    go h = at h.at (entry_of w.queues h.at) refl h.passes

mixed_of : (w : WorldState) (q : ℕ) (r : Rank) → IsMixed w q r → list_any (clashes q r) w.queues.entries ≡ true
mixed_of w q r h = list_any_at (clashes q r) w.queues.entries h.task None (known (cases_lt h.task (length w.queues.entries))) clash
  where
    known : (h.task < length w.queues.entries) ⊎ (length w.queues.entries ≤ h.task) → h.task < length w.queues.entries
    known (inl l) = l
    known (inr past) = let none : entry_of w.queues h.task ≡ None = get_or_past {X = Option Entry} w.queues.entries h.task None past in absurd (cc (sym h.waits.0 ∙ none))

    clash : clashes q r (entry_of w.queues h.task) ≡ true
    clash = rw (h.waits.0, eq-eqb h.entry.queue q h.waits.1, h.other) refl

rank_fault_is : (w : WorldState) (q : ℕ) (r : Rank) → RankOf w q r (rank_fault w q r)
rank_fault_is w q r = go (is_vtime r && nat_le policy_end q) (list_any (clashes q r) w.queues.entries) refl refl
  where
    go : (a b : Bool) → (is_vtime r && nat_le policy_end q) ≡ a → list_any (clashes q r) w.queues.entries ≡ b → RankOf w q r (if a then Some BuiltinVtime else (if b then Some Mixed else None))
    go true b x y = by_vtime_is q r x
    go false true x y = (λ h. not_so (is_vtime r && nat_le policy_end q) x (by_vtime_of q r h), mixed_is w q r y)
    go false false x y = (λ h. not_so (is_vtime r && nat_le policy_end q) x (by_vtime_of q r h), λ h. not_so (list_any (clashes q r) w.queues.entries) y (mixed_of w q r h))

no_vtime : (q : ℕ) (r : Rank) → ¬ IsBuiltinVtime q r → (is_vtime r && nat_le policy_end q) ≡ false
no_vtime q r n = false_from_ne_true (is_vtime r && nat_le policy_end q) (λ e. n (by_vtime_is q r e))

rank_fault_from : (w : WorldState) (q : ℕ) (r : Rank) (o : Option Fault) → RankOf w q r o → rank_fault w q r ≡ o
rank_fault_from w q r None h = rw (no_vtime q r h.0, false_from_ne_true (list_any (clashes q r) w.queues.entries) (λ e. h.1 (mixed_is w q r e))) refl
rank_fault_from w q r (Some BuiltinVtime) h = rw (by_vtime_of q r h) refl
rank_fault_from w q r (Some Mixed) h = rw (no_vtime q r h.0, mixed_of w q r h.1) refl
rank_fault_from w q r (Some NoSuchQueue) h = absurd h
rank_fault_from w q r (Some NoSuchCpu) h = absurd h
rank_fault_from w q r (Some CannotInsert) h = absurd h
rank_fault_from w q r (Some UnknownFlag) h = absurd h
rank_fault_from w q r (Some CannotCreate) h = absurd h
rank_fault_from w q r (Some Stuck) h = absurd h
rank_fault_from w q r (Some NotAllowed) h = absurd h
rank_fault_from w q r (Some IdleUntracked) h = absurd h

-- ---- flags of an insert

linux_flags_is : (w : WorldState) (n : ℕ) → is_by_linux w ≡ true → are_linux_flags n ≡ true → AreFlags w n
linux_flags_is w n lin e = go (and_parts (nat_le (n % 2 ^ 32) 1) ((n / 2 ^ 32 == 0) || ((n / 2 ^ 32 == 1) || ((n / 2 ^ 32 == 2 ^ 16) || (n / 2 ^ 32 == 2 ^ 16 + 1)))) e)
  where
    of : (p h : ℕ) → n % 2 ^ 32 ≤ 1 → p ≤ 1 → h ≤ 1 → n / 2 ^ 32 ≡ p + h * 2 ^ 16 → AreFlags w n
    of p h low x y k = OfLinux (n % 2 ^ 32) p h lin low x y (omega (arith, k, div-add-mod' n (2 ^ 32)))

    is : (a b : ℕ) → (a == b) ≡ true → a ≡ b
    is a b x = grind (arith, nat_tests, x)

    third : n % 2 ^ 32 ≤ 1 → ((n / 2 ^ 32 == 2 ^ 16) ≡ true) ⊎ ((n / 2 ^ 32 == 2 ^ 16 + 1) ≡ true) → AreFlags w n
    third low (inl x) = of 0 1 low (omega arith) (omega arith) (omega (arith, is (n / 2 ^ 32) (2 ^ 16) x))
    third low (inr x) = of 1 1 low (omega arith) (omega arith) (omega (arith, is (n / 2 ^ 32) (2 ^ 16 + 1) x))

    second : n % 2 ^ 32 ≤ 1 → ((n / 2 ^ 32 == 1) ≡ true) ⊎ (((n / 2 ^ 32 == 2 ^ 16) || (n / 2 ^ 32 == 2 ^ 16 + 1)) ≡ true) → AreFlags w n
    second low (inl x) = of 1 0 low (omega arith) (omega arith) (omega (arith, is (n / 2 ^ 32) 1 x))
    second low (inr x) = third low (or_cases (n / 2 ^ 32 == 2 ^ 16) (n / 2 ^ 32 == 2 ^ 16 + 1) x)

    first : n % 2 ^ 32 ≤ 1 → ((n / 2 ^ 32 == 0) ≡ true) ⊎ (((n / 2 ^ 32 == 1) || ((n / 2 ^ 32 == 2 ^ 16) || (n / 2 ^ 32 == 2 ^ 16 + 1))) ≡ true) → AreFlags w n
    first low (inl x) = of 0 0 low (omega arith) (omega arith) (omega (arith, is (n / 2 ^ 32) 0 x))
    first low (inr x) = second low (or_cases (n / 2 ^ 32 == 1) ((n / 2 ^ 32 == 2 ^ 16) || (n / 2 ^ 32 == 2 ^ 16 + 1)) x)

    go : (nat_le (n % 2 ^ 32) 1 ≡ true) × (((n / 2 ^ 32 == 0) || ((n / 2 ^ 32 == 1) || ((n / 2 ^ 32 == 2 ^ 16) || (n / 2 ^ 32 == 2 ^ 16 + 1)))) ≡ true) → AreFlags w n
    go h = first (grind (arith, nat_tests, h.0)) (or_cases (n / 2 ^ 32 == 0) ((n / 2 ^ 32 == 1) || ((n / 2 ^ 32 == 2 ^ 16) || (n / 2 ^ 32 == 2 ^ 16 + 1))) h.1)

linux_flags_of : (n wake p h : ℕ) → wake ≤ 1 → p ≤ 1 → h ≤ 1 → n ≡ wake + p * 2 ^ 32 + h * 2 ^ 48 → are_linux_flags n ≡ true
linux_flags_of n wake p h a b c k = and_from (nat_le (n % 2 ^ 32) 1) _ low (go (cases_eq p 0) (cases_eq h 0))
  where
    low : nat_le (n % 2 ^ 32) 1 ≡ true
    low = let l : n % 2 ^ 32 ≤ 1 = omega (arith, a, b, c, k) in grind (arith, nat_tests, l)

    first : (x : Bool) (y : Bool) → x ≡ true → (x || y) ≡ true
    first x y e = rw e refl

    high : (m : ℕ) → n / 2 ^ 32 ≡ m → (n / 2 ^ 32 == m) ≡ true
    high m e = eq-eqb (n / 2 ^ 32) m e

    go : (p ≡ 0) ⊎ (p ≡ 0 → ⊥) → (h ≡ 0) ⊎ (h ≡ 0 → ⊥) → ((n / 2 ^ 32 == 0) || ((n / 2 ^ 32 == 1) || ((n / 2 ^ 32 == 2 ^ 16) || (n / 2 ^ 32 == 2 ^ 16 + 1)))) ≡ true
    go (inl x) (inl y) = first (n / 2 ^ 32 == 0) _ (high 0 (omega (arith, a, k, x, y)))
    go (inr x) (inl y) = or_right (n / 2 ^ 32 == 0) _ (first (n / 2 ^ 32 == 1) _ (high 1 (omega (arith, a, b, k, x, y))))
    go (inl x) (inr y) = or_right (n / 2 ^ 32 == 0) _ (or_right (n / 2 ^ 32 == 1) _ (first (n / 2 ^ 32 == 2 ^ 16) _ (high (2 ^ 16) (omega (arith, a, c, k, x, y)))))
    go (inr x) (inr y) = or_right (n / 2 ^ 32 == 0) _ (or_right (n / 2 ^ 32 == 1) _ (or_right (n / 2 ^ 32 == 2 ^ 16) _ (high (2 ^ 16 + 1) (omega (arith, a, b, c, k, x, y)))))

abbrev known_as : ℕ → Bool → Bool
known_as n b = if b then are_linux_flags n else nat_le n 1

flags_is : (w : WorldState) (n : ℕ) → are_known w n ≡ true → AreFlags w n
flags_is w n e = go (is_by_linux w) refl e
  where
    go : (b : Bool) → is_by_linux w ≡ b → known_as n b ≡ true → AreFlags w n
    go true x y = linux_flags_is w n x y
    go false x y = OfWake (grind (arith, nat_tests, y))

flags_of : (w : WorldState) (n : ℕ) → AreFlags w n → are_known w n ≡ true
flags_of w n (OfLinux a b c lin x y z k) = ap (λ o. known_as n o) lin ∙ linux_flags_of n a b c x y z k
flags_of w n (OfWake l) = go (is_by_linux w)
  where
    go : (b : Bool) → known_as n b ≡ true
    go true = linux_flags_of n n 0 0 l (omega arith) (omega arith) (omega arith)
    go false = grind (arith, nat_tests, l)

no_flags : (w : WorldState) (n : ℕ) → ¬ AreFlags w n → are_known w n ≡ false
no_flags w n f = false_from_ne_true (are_known w n) (λ e. f (flags_is w n e))

-- ---- where an insert brings its task

local_is : (w : WorldState) (q c : ℕ) → local_cpu w q ≡ Some c → IsMeant w q c
local_is w q c e = go (nat_le (local_on 0) q && nat_lt q (local_on (length w.cpus))) refl e
  where
    go : (b : Bool) → (nat_le (local_on 0) q && nat_lt q (local_on (length w.cpus))) ≡ b → (if b then Some (q - local_on 0) else None) ≡ Some c → IsMeant w q c
    go false x y = absurd (cc)
    go true x y =
        let z = and_parts (nat_le (local_on 0) q) (nat_lt q (local_on (length w.cpus))) x in
        let low : local_on 0 ≤ q = grind (arith, nat_tests, z.0) in
        let high : q < local_on (length w.cpus) = grind (arith, nat_tests, z.1) in
        let is : q - local_on 0 ≡ c = ap (λ o. unwrap_or o 0) y in
        IsNamed (omega (arith, is, low, high)) (omega (arith, is, low))

abbrev meant_as : WorldState → ℕ → Bool → Option ℕ
meant_as w q b = if b then Some w.call.cpu else local_cpu w q

meant_is : (w : WorldState) (q c : ℕ) → cpu_meant w q ≡ Some c → IsMeant w q c
meant_is w q c e = go ((q == local) && is_dispatch w.call.callback) refl e
  where
    go : (b : Bool) → ((q == local) && is_dispatch w.call.callback) ≡ b → meant_as w q b ≡ Some c → IsMeant w q c
    go false x y = local_is w q c y
    go true x y =
        let z = and_parts (q == local) (is_dispatch w.call.callback) x in
        let is : w.call.cpu ≡ c = ap (λ o. unwrap_or o 0) y in
        IsAtHand (dispatch_is w.call.callback z.1) (grind (arith, nat_tests, z.0)) (sym is)

meant_of : (w : WorldState) (q c : ℕ) → IsMeant w q c → cpu_meant w q ≡ Some c
meant_of w q c (IsAtHand x e k) = ap (λ b. meant_as w q b) (and_from (q == local) (is_dispatch w.call.callback) (eq-eqb q local e) (ap (λ b. is_dispatch b) x)) ∙ ap (λ n. Some n) (sym k)
meant_of w q c (IsNamed l e) =
    let low : nat_le (local_on 0) q ≡ true = grind (arith, nat_tests, e) in
    let high : nat_lt q (local_on (length w.cpus)) ≡ true = grind (arith, nat_tests, e, l) in
    let is : q - local_on 0 ≡ c = omega (arith, e) in
    ap (λ b. meant_as w q b) (and_left (q == local) (is_dispatch w.call.callback) (ne_eqb q local (λ x. omega (arith, x, e))))
    ∙ ap (λ b. if b then Some (q - local_on 0) else None) (and_from (nat_le (local_on 0) q) (nat_lt q (local_on (length w.cpus))) low high) ∙ ap (λ n. Some n) is

forbidden_is : (w : WorldState) (t : Option ℕ) (q : ℕ) → may_go w t (cpu_meant w q) ≡ false → IsForbidden w t q
forbidden_is w t q = go t refl (cpu_meant w q) refl
  where
    go : (o : Option ℕ) → t ≡ o → (p : Option ℕ) → cpu_meant w q ≡ p → may_go w o p ≡ false → IsForbidden w t q
    go None x None y e = absurd (cc)
    go None x (Some c) y e = absurd (cc)
    go (Some u) x None y e = absurd (cc)
    go (Some u) x (Some c) y e = record { task = u; given = x; cpu = c; meant = meant_is w q c y; outside = outside_is w u c e }

forbidden_of : (w : WorldState) (t : Option ℕ) (q : ℕ) → IsForbidden w t q → may_go w t (cpu_meant w q) ≡ false
forbidden_of w t q h =
    ap (λ o. may_go w o (cpu_meant w q)) h.given ∙ ap (λ p. may_go w (Some h.task) p) (meant_of w q h.cpu h.meant) ∙ outside_of w h.task h.cpu h.outside

may_from : (w : WorldState) (t : Option ℕ) (q : ℕ) → ¬ IsForbidden w t q → may_go w t (cpu_meant w q) ≡ true
may_from w t q n = go (may_go w t (cpu_meant w q)) refl
  where
    go : (b : Bool) → may_go w t (cpu_meant w q) ≡ b → may_go w t (cpu_meant w q) ≡ true
    go true e = e
    go false e = absurd (n (forbidden_is w t q e))

-- ---- the fault of an insert

held_is : (o : Option Entry) → is_in held_queue o ≡ true → option_map (λ p. p.queue) o ≡ Some held_queue
held_is None e = absurd (cc)
held_is (Some p) e = ap Some (grind (arith, nat_tests, e))

held_of : (o : Option Entry) → option_map (λ p. p.queue) o ≡ Some held_queue → is_in held_queue o ≡ true
held_of None e = absurd (cc)
held_of (Some p) e = let is : p.queue ≡ held_queue = ap (λ x. unwrap_or x 0) e in eq-eqb p.queue held_queue is

insert_is : (w : WorldState) (t : Option ℕ) → may_insert w t ≡ true → MayInsert w t
insert_is w t e = go w.call.callback refl e
  where
    empty : (o : Option Insert) → is_none o ≡ true → o ≡ None
    empty None e = refl
    empty (Some i) e = absurd (cc)

    hand : (o : Option ℕ) → is_at_hand w o ≡ true → o ≡ Some w.call.task
    hand None e = absurd (cc)
    hand (Some u) e = ap Some (grind (arith, nat_tests, e))

    held-here : w.call.callback ≡ callback.Dispatch → (o : Option ℕ) → t ≡ o → is_held w o ≡ true → MayInsert w t
    held-here x None y e = absurd (cc)
    held-here x (Some u) y e = InDispatch u x y (held_is (entry_of w.queues u) e)

    go : (b : Callback) → w.call.callback ≡ b → may_insert_in b w t ≡ true → MayInsert w t
    go callback.SelectCpu x e = let y = and_parts (is_none w.call.insert) (is_at_hand w t) e in InSelectCpu x (empty w.call.insert y.0) (hand t y.1)
    go callback.Enqueue x e = let y = and_parts (is_none w.call.insert) (is_at_hand w t) e in InEnqueue x (empty w.call.insert y.0) (hand t y.1)
    go callback.Dispatch x e = held-here x t refl e
    go b x e = absurd (cc)

may_insert_of : (w : WorldState) (t : Option ℕ) → MayInsert w t → may_insert w t ≡ true
may_insert_of w t (InSelectCpu x y z) = rw (x, y, z, eq-eqb w.call.task w.call.task refl) refl
may_insert_of w t (InEnqueue x y z) = rw (x, y, z, eq-eqb w.call.task w.call.task refl) refl
may_insert_of w t (InDispatch u x y z) = rw (x, y) (held_of (entry_of w.queues u) z)

insert_fault_is : (w : WorldState) (t : Option ℕ) (i : Insert) (flags : ℕ) → JudgesInsert w t i flags (insert_fault w t i flags)
insert_fault_is w t i flags = go (may_insert w t) refl
  where
    at_place : MayInsert w t → AreFlags w flags → IsDestination w i.queue → ¬ IsBuiltinVtime i.queue i.rank → ¬ IsMixed w i.queue i.rank → (b : Bool) → may_go w t (cpu_meant w i.queue) ≡ b
        → JudgesInsert w t i flags (if b then None else Some NotAllowed)
    at_place m l d v x true e = (m, l, d, v, x, λ h. not_so (may_go w t (cpu_meant w i.queue)) (forbidden_of w t i.queue h) e)
    at_place m l d v x false e = (m, l, d, v, x, forbidden_is w t i.queue e)

    at_rank : MayInsert w t → AreFlags w flags → IsDestination w i.queue → (o : Option Fault) → RankOf w i.queue i.rank o → JudgesInsert w t i flags (or_fault o (placing_fault w t i.queue))
    at_rank m l d None h = at_place m l d h.0 h.1 (may_go w t (cpu_meant w i.queue)) refl
    at_rank m l d (Some BuiltinVtime) h = (m, l, d, h)
    at_rank m l d (Some Mixed) h = (m, l, d, h.0, h.1)
    at_rank m l d (Some NoSuchQueue) h = absurd h
    at_rank m l d (Some NoSuchCpu) h = absurd h
    at_rank m l d (Some CannotInsert) h = absurd h
    at_rank m l d (Some UnknownFlag) h = absurd h
    at_rank m l d (Some CannotCreate) h = absurd h
    at_rank m l d (Some Stuck) h = absurd h
    at_rank m l d (Some NotAllowed) h = absurd h
    at_rank m l d (Some IdleUntracked) h = absurd h

    at_queue : MayInsert w t → AreFlags w flags → (o : Option Fault) → FaultOf w i.queue o → JudgesInsert w t i flags (or_fault o (or_fault (rank_fault w i.queue i.rank) (placing_fault w t i.queue)))
    at_queue m l None h = at_rank m l h (rank_fault w i.queue i.rank) (rank_fault_is w i.queue i.rank)
    at_queue m l (Some NoSuchQueue) h = (m, l, h.0, h.1)
    at_queue m l (Some NoSuchCpu) h = (m, l, h)
    at_queue m l (Some CannotInsert) h = absurd h
    at_queue m l (Some UnknownFlag) h = absurd h
    at_queue m l (Some CannotCreate) h = absurd h
    at_queue m l (Some Stuck) h = absurd h
    at_queue m l (Some NotAllowed) h = absurd h
    at_queue m l (Some IdleUntracked) h = absurd h
    at_queue m l (Some BuiltinVtime) h = absurd h
    at_queue m l (Some Mixed) h = absurd h

    at_flag : MayInsert w t → (b : Bool) → are_known w flags ≡ b → JudgesInsert w t i flags (or_fault (if b then None else Some UnknownFlag) (or_fault (queue_fault w i.queue) (or_fault (rank_fault w i.queue i.rank) (placing_fault w t i.queue))))
    at_flag m false e = (m, λ h. not_so (are_known w flags) e (flags_of w flags h))
    at_flag m true e = at_queue m (flags_is w flags e) (queue_fault w i.queue) (queue_fault_is w i.queue)

    go : (b : Bool) → may_insert w t ≡ b → JudgesInsert w t i flags (if b then or_fault (flags_fault w flags) (or_fault (queue_fault w i.queue) (or_fault (rank_fault w i.queue i.rank) (placing_fault w t i.queue))) else Some CannotInsert)
    go true e = at_flag (insert_is w t e) (are_known w flags) refl
    go false e = λ m. not_so (may_insert w t) e (may_insert_of w t m)

apart : (w : WorldState) (q : ℕ) → IsDestination w q → NamesNoCpu w q → ⊥
apart w q (Own h) n = omega (arith, h.0, n.named)
apart w q (Global e) n = omega (arith, e, n.named)
apart w q (Local e) n = omega (arith, e, n.named)
apart w q (LocalOn c l e) n = omega (arith, e, l, n.named, n.past)

no_fault_at : (w : WorldState) (q : ℕ) → IsDestination w q → (o : Option Fault) → FaultOf w q o → o ≡ None
no_fault_at w q d None h = refl
no_fault_at w q d (Some NoSuchQueue) h = absurd (h.0 d)
no_fault_at w q d (Some NoSuchCpu) h = absurd (apart w q d h)
no_fault_at w q d (Some CannotInsert) h = absurd h
no_fault_at w q d (Some UnknownFlag) h = absurd h
no_fault_at w q d (Some CannotCreate) h = absurd h
no_fault_at w q d (Some Stuck) h = absurd h
no_fault_at w q d (Some NotAllowed) h = absurd h
no_fault_at w q d (Some IdleUntracked) h = absurd h
no_fault_at w q d (Some BuiltinVtime) h = absurd h
no_fault_at w q d (Some Mixed) h = absurd h

no_cpu_at : (w : WorldState) (q : ℕ) → NamesNoCpu w q → (o : Option Fault) → FaultOf w q o → o ≡ Some NoSuchCpu
no_cpu_at w q n None h = absurd (apart w q h n)
no_cpu_at w q n (Some NoSuchQueue) h = absurd (h.1 n)
no_cpu_at w q n (Some NoSuchCpu) h = refl
no_cpu_at w q n (Some CannotInsert) h = absurd h
no_cpu_at w q n (Some UnknownFlag) h = absurd h
no_cpu_at w q n (Some CannotCreate) h = absurd h
no_cpu_at w q n (Some Stuck) h = absurd h
no_cpu_at w q n (Some NotAllowed) h = absurd h
no_cpu_at w q n (Some IdleUntracked) h = absurd h
no_cpu_at w q n (Some BuiltinVtime) h = absurd h
no_cpu_at w q n (Some Mixed) h = absurd h

no_queue_at : (w : WorldState) (q : ℕ) → ¬ IsDestination w q → ¬ NamesNoCpu w q → (o : Option Fault) → FaultOf w q o → o ≡ Some NoSuchQueue
no_queue_at w q d n None h = absurd (d h)
no_queue_at w q d n (Some NoSuchQueue) h = refl
no_queue_at w q d n (Some NoSuchCpu) h = absurd (n h)
no_queue_at w q d n (Some CannotInsert) h = absurd h
no_queue_at w q d n (Some UnknownFlag) h = absurd h
no_queue_at w q d n (Some CannotCreate) h = absurd h
no_queue_at w q d n (Some Stuck) h = absurd h
no_queue_at w q d n (Some NotAllowed) h = absurd h
no_queue_at w q d n (Some IdleUntracked) h = absurd h
no_queue_at w q d n (Some BuiltinVtime) h = absurd h
no_queue_at w q d n (Some Mixed) h = absurd h

known_fault : (w : WorldState) (flags : ℕ) → AreFlags w flags → flags_fault w flags ≡ None
known_fault w flags h = ap (λ b. if b then None else Some UnknownFlag) (flags_of w flags h)

unknown_fault : (w : WorldState) (flags : ℕ) → ¬ AreFlags w flags → flags_fault w flags ≡ Some UnknownFlag
unknown_fault w flags n = ap (λ b. if b then None else Some UnknownFlag) (no_flags w flags n)

abbrev fault_as : WorldState → Option ℕ → Insert → Option Fault → Bool → Option Fault
fault_as w t i f b = if b then or_fault f (or_fault (queue_fault w i.queue) (or_fault (rank_fault w i.queue i.rank) (placing_fault w t i.queue))) else Some CannotInsert

-- of a task that may be inserted, with flags that are known
insert_fault_at : (w : WorldState) (t : Option ℕ) (i : Insert) (flags : ℕ) → MayInsert w t → AreFlags w flags → insert_fault w t i flags ≡ or_fault (queue_fault w i.queue) (or_fault (rank_fault w i.queue i.rank) (placing_fault w t i.queue))
insert_fault_at w t i flags m l = ap (λ b. fault_as w t i (flags_fault w flags) b) (may_insert_of w t m) ∙ ap (λ f. fault_as w t i f true) (known_fault w flags l)

insert_fault_from : (w : WorldState) (t : Option ℕ) (i : Insert) (flags : ℕ) (o : Option Fault) → JudgesInsert w t i flags o → insert_fault w t i flags ≡ o
insert_fault_from w t i flags o j = go o j
  where
    -- once the queue is right
    at_rank : MayInsert w t → AreFlags w flags → IsDestination w i.queue → (o : Option Fault) → RankOf w i.queue i.rank o → insert_fault w t i flags ≡ or_fault o (placing_fault w t i.queue)
    at_rank m l d o h =
        insert_fault_at w t i flags m l ∙ ap (λ x. or_fault x (or_fault (rank_fault w i.queue i.rank) (placing_fault w t i.queue))) (no_fault_at w i.queue d (queue_fault w i.queue) (queue_fault_is w i.queue))
        ∙ ap (λ x. or_fault x (placing_fault w t i.queue)) (rank_fault_from w i.queue i.rank o h)

    -- once its rank is right
    at_place : MayInsert w t → AreFlags w flags → IsDestination w i.queue → RankOf w i.queue i.rank None → (b : Bool) → may_go w t (cpu_meant w i.queue) ≡ b → insert_fault w t i flags ≡ (if b then None else Some NotAllowed)
    at_place m l d h b e = at_rank m l d None h ∙ ap (λ x. if x then None else Some NotAllowed) e

    at_queue : MayInsert w t → AreFlags w flags → (f : Fault) → queue_fault w i.queue ≡ Some f → insert_fault w t i flags ≡ Some f
    at_queue m l f e = insert_fault_at w t i flags m l ∙ ap (λ x. or_fault x (or_fault (rank_fault w i.queue i.rank) (placing_fault w t i.queue))) e

    go : (o : Option Fault) → JudgesInsert w t i flags o → insert_fault w t i flags ≡ o
    go None j = at_place j.0 j.1 j.2 (j.3, j.4) true (may_from w t i.queue j.5)
    go (Some NotAllowed) j = at_place j.0 j.1 j.2 (j.3, j.4) false (forbidden_of w t i.queue j.5)
    go (Some BuiltinVtime) j = at_rank j.0 j.1 j.2 (Some BuiltinVtime) j.3
    go (Some Mixed) j = at_rank j.0 j.1 j.2 (Some Mixed) (j.3, j.4)
    go (Some CannotInsert) j = rw (false_from_ne_true (may_insert w t) (λ e. j (insert_is w t e))) refl
    go (Some UnknownFlag) j = ap (λ b. fault_as w t i (flags_fault w flags) b) (may_insert_of w t j.0) ∙ ap (λ f. fault_as w t i f true) (unknown_fault w flags j.1)
    go (Some NoSuchQueue) j = at_queue j.0 j.1 NoSuchQueue (no_queue_at w i.queue j.2 j.3 (queue_fault w i.queue) (queue_fault_is w i.queue))
    go (Some NoSuchCpu) j = at_queue j.0 j.1 NoSuchCpu (no_cpu_at w i.queue j.2 (queue_fault w i.queue) (queue_fault_is w i.queue))
    go (Some f) j = absurd j

-- what is inserted
is_dispatch_of : (b : Callback) → b ≡ callback.Dispatch → is_dispatch b ≡ true
is_dispatch_of b e = rw e refl

inserts : (w : WorldState) (t : Option ℕ) (i : Insert) → ¬ IsLate w t → MayInsert w t → Inserts w t i (insert_or_fault w None t i)
inserts w t i on m = go m
  where
    kept : (b : Callback) → w.call.callback ≡ b → is_dispatch b ≡ false → Inserts w t i (insert_or_fault w None t i)
    kept b x other =
        let d : is_dispatch w.call.callback ≡ false = rw x other in
        rw d (Keeps (λ e. not_so (is_dispatch w.call.callback) d (is_dispatch_of w.call.callback e)) refl)

    release : (u : ℕ) → w.call.callback ≡ callback.Dispatch → (o : Option ℕ) → o ≡ Some u → ¬ IsLate w o → Inserts w o i (insert_or_fault w None o i)
    release u x o y on = rw (is_dispatch_of w.call.callback x) (at o y on)
      where
        at : (o : Option ℕ) → o ≡ Some u → ¬ IsLate w o → Inserts w o i (after_release w o (for_cpu w.call.cpu i))
        at None y on = absurd (cc)
        at (Some v) y on = Releases v x refl on refl

    go : MayInsert w t → Inserts w t i (insert_or_fault w None t i)
    go (InSelectCpu x y z) = kept callback.SelectCpu x refl
    go (InEnqueue x y z) = kept callback.Enqueue x refl
    go (InDispatch u x y z) = release u x t y on

only_inserts : (w : WorldState) (t : Option ℕ) (i : Insert) (v : WorldState) → ¬ IsLate w t → Inserts w t i v → v ≡ insert_or_fault w None t i
only_inserts w t i v on (Keeps n k) = rw (false_from_ne_true (is_dispatch w.call.callback) (λ e. n (dispatch_is w.call.callback e))) k
only_inserts w t i v on (Releases u x y _ k) = rw (is_dispatch_of w.call.callback x, y) k
only_inserts w t i v on (PassesOver l k) = absurd (on l)

-- ---- late inserts

late_is : (w : WorldState) (t : Option ℕ) → is_late w t ≡ true → IsLate w t
late_is w t e =
    let x = and_parts (is_by_linux w) (is_dispatch w.call.callback && not (is_held w t)) e in
    let y = and_parts (is_dispatch w.call.callback) (not (is_held w t)) x.1 in
    let here = dispatch_is w.call.callback y.0 in
    record { by_linux = x.0; here = here; gone = λ m. not_so (is_held w t) (not-true (is_held w t) y.1) (sym (ap (λ b. may_insert_in b w t) here) ∙ may_insert_of w t m) }

late_of : (w : WorldState) (t : Option ℕ) → IsLate w t → is_late w t ≡ true
late_of w t h =
    let gone = false_from_ne_true (is_held w t) (λ e. h.gone (insert_is w t (ap (λ b. may_insert_in b w t) h.here ∙ e))) in
    and_from (is_by_linux w) (is_dispatch w.call.callback && not (is_held w t)) h.by_linux (and_from (is_dispatch w.call.callback) (not (is_held w t)) (is_dispatch_of w.call.callback h.here) (ap (λ b. not b) gone))

flags_judged : (w : WorldState) (flags : ℕ) → JudgesFlags w flags (flags_fault w flags)
flags_judged w flags = go (are_known w flags) refl
  where
    go : (b : Bool) → are_known w flags ≡ b → JudgesFlags w flags (if b then None else Some UnknownFlag)
    go true e = flags_is w flags e
    go false e = λ h. not_so (are_known w flags) e (flags_of w flags h)

flags_from : (w : WorldState) (flags : ℕ) (o : Option Fault) → JudgesFlags w flags o → flags_fault w flags ≡ o
flags_from w flags None j = known_fault w flags j
flags_from w flags (Some UnknownFlag) j = unknown_fault w flags j
flags_from w flags (Some f) j = absurd j

-- an insert, in time or late: its fault, and what it does
abbrev answered_as : WorldState → Option ℕ → Insert → ℕ → Bool → ℕ
answered_as w t i flags b = if b then invalid_if (flags_fault w flags) else invalid_if (insert_fault w t i flags)

abbrev inserted_as : WorldState → Option ℕ → Insert → ℕ → Bool → WorldState
inserted_as w t i flags b = if b then after_late w (flags_fault w flags) else insert_or_fault w (insert_fault w t i flags) t i

pub data DoesInsert (w : WorldState) (t : Option ℕ) (i : Insert) (flags n : ℕ) (v : WorldState) : Type 0 where
  DoneInsert : JudgesAnInsert w t i flags None → n ≡ 0 → Inserts w t i v → DoesInsert w t i flags n v
  WrongInsert : (f : Fault) → JudgesAnInsert w t i flags (Some f) → n ≡ invalid → v ≡ with_fault w f → DoesInsert w t i flags n v

does_insert : (w : WorldState) (t : Option ℕ) (i : Insert) (flags : ℕ) → DoesInsert w t i flags (insert_answer w t i flags) (after_insert w t i flags)
does_insert w t i flags = go (is_late w t) refl
  where
    late : IsLate w t → (o : Option Fault) → JudgesFlags w flags o → DoesInsert w t i flags (invalid_if o) (after_late w o)
    late l None j = DoneInsert (TooLate l j) refl (PassesOver l refl)
    late l (Some f) j = WrongInsert f (TooLate l j) refl refl

    may : JudgesInsert w t i flags None → MayInsert w t
    may j = j.0

    on_time : ¬ IsLate w t → (o : Option Fault) → JudgesInsert w t i flags o → DoesInsert w t i flags (invalid_if o) (insert_or_fault w o t i)
    on_time n None j = DoneInsert (InTime n j) refl (inserts w t i n (may j))
    on_time n (Some f) j = WrongInsert f (InTime n j) refl refl

    go : (b : Bool) → is_late w t ≡ b → DoesInsert w t i flags (answered_as w t i flags b) (inserted_as w t i flags b)
    go true e = late (late_is w t e) (flags_fault w flags) (flags_judged w flags)
    go false e = on_time (λ h. not_so (is_late w t) e (late_of w t h)) (insert_fault w t i flags) (insert_fault_is w t i flags)

abbrev Inserted-so : WorldState → Option ℕ → Insert → ℕ → ℕ → WorldState → Type 0
Inserted-so w t i flags n v = (n ≡ insert_answer w t i flags) × (v ≡ after_insert w t i flags)

only_in_time : (w : WorldState) (t : Option ℕ) (i : Insert) (flags : ℕ) (o : Option Fault) (n : ℕ) (v : WorldState) → ¬ IsLate w t → JudgesInsert w t i flags o → n ≡ invalid_if o → v ≡ insert_or_fault w o t i → Inserted-so w t i flags n v
only_in_time w t i flags o n v on j x y =
    let e = false_from_ne_true (is_late w t) (λ l. on (late_is w t l)) in
    let f = insert_fault_from w t i flags o j in (
      x ∙ ap (λ k. invalid_if k) (sym f) ∙ ap (λ b. answered_as w t i flags b) (sym e),
      y ∙ ap (λ k. insert_or_fault w k t i) (sym f) ∙ ap (λ b. inserted_as w t i flags b) (sym e),
    )

only_late : (w : WorldState) (t : Option ℕ) (i : Insert) (flags : ℕ) (o : Option Fault) (n : ℕ) (v : WorldState) → IsLate w t → JudgesFlags w flags o → n ≡ invalid_if o → v ≡ after_late w o → Inserted-so w t i flags n v
only_late w t i flags o n v l j x y =
    let e = late_of w t l in
    let f = flags_from w flags o j in (
      x ∙ ap (λ k. invalid_if k) (sym f) ∙ ap (λ b. answered_as w t i flags b) (sym e),
      y ∙ ap (λ k. after_late w k) (sym f) ∙ ap (λ b. inserted_as w t i flags b) (sym e),
    )

only_passes_over : (w : WorldState) (t : Option ℕ) (i : Insert) (v : WorldState) → IsLate w t → Inserts w t i v → v ≡ with_move w
only_passes_over w t i v l (PassesOver _ k) = k
only_passes_over w t i v l (Keeps n k) = absurd (n l.here)
only_passes_over w t i v l (Releases u x y n k) = absurd (n l)

only_does_insert : (w : WorldState) (t : Option ℕ) (i : Insert) (flags n : ℕ) (v : WorldState) → DoesInsert w t i flags n v → Inserted-so w t i flags n v
only_does_insert w t i flags n v (DoneInsert (InTime on j) x h) = only_in_time w t i flags None n v on j x (only_inserts w t i v on h)
only_does_insert w t i flags n v (DoneInsert (TooLate l j) x h) = only_late w t i flags None n v l j x (only_passes_over w t i v l h)
only_does_insert w t i flags n v (WrongInsert f (InTime on j) x k) = only_in_time w t i flags (Some f) n v on j x k
only_does_insert w t i flags n v (WrongInsert f (TooLate l j) x k) = only_late w t i flags (Some f) n v l j x k

-- ---- creating a queue

create_is : (w : WorldState) (q : ℕ) → can_create w q ≡ true → CanCreate w q
create_is w q e =
    let x = and_parts (nat_lt q policy_end) (is_none (create_refusal w.queues q)) e in
    let y = go (exists w.queues q) (nat_le w.queues.room (length w.queues.ids)) x.1 in
    record { below = grind (arith, nat_tests, x.0); free = y.0; room = grind (arith, nat_tests, y.1) }
  where
    go : (a b : Bool) → is_none (if a then Some queue_error.AlreadyThere else (if b then Some queue_error.TooManyQueues else None)) ≡ true → (a ≡ false) × (b ≡ false)
    go false false z = (refl, refl)
    go false true z = absurd (cc)
    go true b z = absurd (cc)

can_create_of : (w : WorldState) (q : ℕ) → CanCreate w q → can_create w q ≡ true
can_create_of w q h =
    let l : nat_lt q policy_end ≡ true = grind (arith, nat_tests, h.below) in
    let free : nat_le w.queues.room (length w.queues.ids) ≡ false = grind (arith, nat_tests, h.room) in
    rw (l, h.free, free) refl

created_is : (w : WorldState) (q : ℕ) → CanCreate w q → after_create w.queues q ≡ with_queue w.queues q
created_is w q h = let free : nat_le w.queues.room (length w.queues.ids) ≡ false = grind (arith, nat_tests, h.room) in rw (h.free, free) refl

-- ---- moving

move_is : (w : WorldState) (q : ℕ) → can_move w q ≡ true → MayMove w q
move_is w q e = let x = and_parts (is_dispatch w.call.callback) (is_there w q) e in record { here = dispatch_is w.call.callback x.0; there = there_is w q x.1 }

can_move_of : (w : WorldState) (q : ℕ) → MayMove w q → can_move w q ≡ true
can_move_of w q h = rw (h.here, is_there_of w q h.there) refl

moves_is : (w : WorldState) (q : ℕ) (o : Option ℕ) → next_for w q w.call.cpu ≡ o → Moves w q (one_if_some o) (moved_to_local w o)
moves_is w q None e = HasNone (next_is w q w.call.cpu None e) refl refl
moves_is w q (Some t) e =
    let v = with_queues w (after_push (after_remove w.queues t) (local_on w.call.cpu) t Fifo) in
    First t (homed v t w.call.cpu) (next_is w q w.call.cpu (Some t) e) refl (homes v t w.call.cpu) refl

-- ---- all helpers

abbrev Is-effect : WorldState → Helper → List Arg → Type 0
Is-effect w h a = IsEffect w h a (helper_answer w h a) (helper_after w h a)

create_allowed : (w : WorldState) (a : List Arg) → Is-effect w CreateDsq a
create_allowed w a = go (can_create w q) refl
  where
    q : ℕ
    q = given_number a 0

    go : (b : Bool) → can_create w q ≡ b → IsEffect w CreateDsq a (Num (if b then 0 else invalid)) (if b then with_queues w (after_create w.queues q) else with_fault w CannotCreate)
    go true e = let h = create_is w q e in Done 0 h (refl, ap (λ s. with_queues w s) (created_is w q h)) refl
    go false e = Wrong CannotCreate (λ h. not_so (can_create w q) e (can_create_of w q h)) refl (blames w (reason.Fault CannotCreate))

-- a helper that inserts that task so
record Inserting (w : WorldState) (h : Helper) (a : List Arg) (t : Option ℕ) (i : Insert) (flags : ℕ) : Type 0 where
  wrong : wrong_answer h ≡ invalid
  judges : (o : Option Fault) → JudgesAnInsert w t i flags o → Judges w h a o
  judged : (o : Option Fault) → Judges w h a o → JudgesAnInsert w t i flags o
  does : (n : ℕ) (v : WorldState) → n ≡ 0 → Inserts w t i v → Does w h a n v
  done : (n : ℕ) (v : WorldState) → Does w h a n v → (n ≡ 0) × Inserts w t i v
  unnamed : (o : Option ℕ) → Names w h a o → ⊥

in_order : (w : WorldState) (a : List Arg) → Inserting w DsqInsert a (given_task a 0) (insert_of w a) (given_number a 3)
in_order w a = record { wrong = refl; judges = λ o j. j; judged = λ o j. j; does = λ n v x h. (x, h); done = λ n v d. d; unnamed = λ o m. m }

by_vtime : (w : WorldState) (a : List Arg) → Inserting w DsqInsertVtime a (given_task a 0) (insert_of_vtime w a) (given_number a 4)
by_vtime w a = record { wrong = refl; judges = λ o j. j; judged = λ o j. j; does = λ n v x h. (x, h); done = λ n v d. d; unnamed = λ o m. m }

insert_allowed : (w : WorldState) (h : Helper) (a : List Arg) (t : Option ℕ) (i : Insert) (flags : ℕ) → Inserting w h a t i flags → (n : ℕ) (v : WorldState) → DoesInsert w t i flags n v → IsEffect w h a (Num n) v
insert_allowed w h a t i flags k n v (DoneInsert j x y) = Done n (k.judges None j) (k.does n v x y) refl
insert_allowed w h a t i flags k n v (WrongInsert f j x y) = Wrong f (k.judges (Some f) j) (ap Num (x ∙ sym k.wrong)) (subst (λ u. Blames w (reason.Fault f) u) (sym y) (blames w (reason.Fault f)))

move_allowed : (w : WorldState) (a : List Arg) → Is-effect w DsqMoveToLocal a
move_allowed w a = go (can_move w q) refl
  where
    q : ℕ
    q = given_number a 0

    go : (b : Bool) → can_move w q ≡ b → IsEffect w DsqMoveToLocal a (Num (if b then one_if_some (next_for w q w.call.cpu) else invalid)) (if b then moved_to_local w (next_for w q w.call.cpu) else with_fault w NoSuchQueue)
    go true e = Done (one_if_some (next_for w q w.call.cpu)) (move_is w q e) (moves_is w q (next_for w q w.call.cpu) refl) refl
    go false e = Wrong NoSuchQueue (λ h. not_so (can_move w q) e (can_move_of w q h)) refl (blames w (reason.Fault NoSuchQueue))

queued_allowed : (w : WorldState) (a : List Arg) → Is-effect w DsqNrQueued a
queued_allowed w a = go (is_there w q) refl
  where
    q : ℕ
    q = given_number a 0

    go : (b : Bool) → is_there w q ≡ b → IsEffect w DsqNrQueued a (Num (if b then len_of w.queues q else invalid)) (if b then w else with_fault w NoSuchQueue)
    go true e = Done (len_of w.queues q) (there_is w q e) (refl, refl) refl
    go false e = Wrong NoSuchQueue (λ h. not_so (is_there w q) e (is_there_of w q h)) refl (blames w (reason.Fault NoSuchQueue))

abbrev untracked_as : Bool → Option Fault
untracked_as b = if b then None else Some IdleUntracked

abbrev choice_so : WorldState → ℕ → Bool → ℕ
choice_so w t b = unless_fault (untracked_as b) (default_choice w t)

abbrev chosen_so : WorldState → ℕ → Bool → WorldState
chosen_so w t b = fault_or w (untracked_as b) (after_claim w (choice w t))

chooses : (w : WorldState) (o : Option ℕ) (t : ℕ) → o ≡ Some t → Chooses w (default_choice w t) o (after_claim w (choice w t))
chooses w o t e = go (choice w t) (is_choice w t)
  where
    go : (c : Option ℕ) → IsChoice w t c → Chooses w (unwrap_or c (task_at w t).prev_cpu) o (after_claim w c)
    go (Some c) h = OfTask t e h (claims w c)
    go None h = OfNone t e h refl refl

choice_allowed : (w : WorldState) (a : List Arg) → Is-effect w SelectCpuDfl a
choice_allowed w a = go (given_task a 0) refl
  where
    by : (t : ℕ) → given_task a 0 ≡ Some t → (b : Bool) → w.tracks_idle ≡ b → IsEffect w SelectCpuDfl a (Num (choice_so w t b)) (chosen_so w t b)
    by t e true k = Done (default_choice w t) (subst (λ o. JudgesChoice w o None) (sym e) k) (chooses w (given_task a 0) t e) refl
    by t e false k = Wrong IdleUntracked (subst (λ o. JudgesChoice w o (Some IdleUntracked)) (sym e) k) refl (blames w (reason.Fault IdleUntracked))

    go : (o : Option ℕ) → given_task a 0 ≡ o → IsEffect w SelectCpuDfl a (Num (choice_answer w o)) (after_choice w o)
    go None e = Done 0 (subst (λ o. JudgesChoice w o None) (sym e) refl) (OfNobody e refl refl) refl
    go (Some t) e = by t e w.tracks_idle refl

seems_is : (w : WorldState) (c : ℕ) → seems_idle w c ≡ true → SeemsIdle w c
seems_is w c e = let x = and_parts (is_idle w c) (not (is_claimed w c) || is_in_set w.call.claims c) e in go (is_claimed w c) refl (is_in_set w.call.claims c) refl x.0 x.1
  where
    go : (a : Bool) → is_claimed w c ≡ a → (b : Bool) → is_in_set w.call.claims c ≡ b → is_idle w c ≡ true → (not a || b) ≡ true → SeemsIdle w c
    go false x b y i z = IsUnclaimed (record { idle = i; unclaimed = x })
    go true x true y i z = ClaimedHere i y
    go true x false y i z = absurd (cc)

seems_of : (w : WorldState) (c : ℕ) → SeemsIdle w c → seems_idle w c ≡ true
seems_of w c (IsUnclaimed h) = and_from (is_idle w c) (not (is_claimed w c) || is_in_set w.call.claims c) h.idle (rw h.unclaimed refl)
seems_of w c (ClaimedHere i h) = and_from (is_idle w c) (not (is_claimed w c) || is_in_set w.call.claims c) i (or_right (not (is_claimed w c)) (is_in_set w.call.claims c) h)

tells : (w : WorldState) (c : ℕ) → Tells w c (one_if (seems_idle w c))
tells w c = go (seems_idle w c) refl
  where
    go : (b : Bool) → seems_idle w c ≡ b → Tells w c (one_if b)
    go true e = TellsIdle (seems_is w c e) refl
    go false e = TellsBusy (λ h. not_so (seems_idle w c) e (seems_of w c h)) refl

abbrev idle_so : WorldState → ℕ → Option Fault → Answer
idle_so w c o = Num (unless_fault o (one_if (seems_idle w c)))

abbrev kept_so : WorldState → Option Fault → WorldState
kept_so w o = fault_or w o w

idle_allowed : (w : WorldState) (a : List Arg) → Is-effect w CpuIdle a
idle_allowed w a = go (ask_fault w c) (ask_judged w c)
  where
    c : ℕ
    c = given_number a 0

    go : (o : Option Fault) → JudgesAsk w c o → IsEffect w CpuIdle a (idle_so w c o) (kept_so w o)
    go None j = Done (one_if (seems_idle w c)) j (tells w c, refl) refl
    go (Some f) j = Wrong f j refl (blames w (reason.Fault f))

-- ---- kicks

kick_any : (n : ℕ) → n ≡ 0 → kick_of n ≡ Some Any
kick_any n z = rw z refl

kick_idle : (n : ℕ) → n ≡ 1 → kick_of n ≡ Some IfIdle
kick_idle n z = rw z refl

kick_preempt : (n : ℕ) → n ≡ 2 → kick_of n ≡ Some Preempt
kick_preempt n z = rw z refl

kick_none : (n : ℕ) → 2 < n → kick_of n ≡ None
kick_none n l = rw (ne_eqb n 0 (λ z. omega (arith, z, l)), ne_eqb n 1 (λ z. omega (arith, z, l)), ne_eqb n 2 (λ z. omega (arith, z, l))) refl

-- which kick flags ask for
record IsKick (w : WorldState) (c n : ℕ) : Type 0 where
  kick : Kick
  asked : kick_of n ≡ Some kick
  kicks : Kicks w c n (kicked_so w c kick)

kicks_so : (w : WorldState) (c n : ℕ) → n ≤ 2 → IsKick w c n
kicks_so w c n l = first (cases_eq n 0) (cases_eq n 1)
  where
    idle : n ≡ 1 → (o : Option ℕ) → running w c ≡ o → (b : Bool) → is_this c w.cycling ≡ b → Kicks w c n (if is_none o || b then with_kick w c else w)
    idle e None x b y = KicksIdle e x refl
    idle e (Some t) x true y = KicksCycling e (is_task c w.cycling y) refl
    idle e (Some t) x false y = LeavesBusy t e x (λ z. not_so (is_this c w.cycling) y (this_of c w.cycling z)) refl

    first : (n ≡ 0) ⊎ (n ≡ 0 → ⊥) → (n ≡ 1) ⊎ (n ≡ 1 → ⊥) → IsKick w c n
    first (inl z) any = record { kick = Any; asked = kick_any n z; kicks = KicksAny z refl }
    first (inr d) (inl e) = record { kick = IfIdle; asked = kick_idle n e; kicks = idle e (running w c) refl (is_this c w.cycling) refl }
    first (inr d) (inr f) = let e : n ≡ 2 = omega (arith, l, d, f) in record { kick = Preempt; asked = kick_preempt n e; kicks = KicksToPreempt e refl }

abbrev Kick-effect : WorldState → List Arg → Option Kick → Type 0
Kick-effect w a o = IsEffect w KickCpu a (Num (invalid_if (kick_fault w (given_number a 0) o))) (kicked_or_fault w (kick_fault w (given_number a 0) o) (given_number a 0) o)

kick_allowed : (w : WorldState) (a : List Arg) → Is-effect w KickCpu a
kick_allowed w a = go (cases_lt 2 n)
  where
    c : ℕ
    c = given_number a 0

    n : ℕ
    n = given_number a 1

    at : (k : Kick) → n ≤ 2 → Kicks w c n (kicked_so w c k) → (b : Bool) → nat_lt c (length w.cpus) ≡ b
        → IsEffect w KickCpu a (Num (invalid_if (if b then None else Some NoSuchCpu))) (kicked_or_fault w (if b then None else Some NoSuchCpu) c (Some k))
    at k l h true e = Done 0 (l, grind (arith, nat_tests, e)) (refl, h) refl
    at k l h false e = Wrong NoSuchCpu (l, grind (arith, nat_tests, e)) refl (blames w (reason.Fault NoSuchCpu))

    go : (2 < n) ⊎ (n ≤ 2) → Is-effect w KickCpu a
    go (inl l) = subst (λ o. Kick-effect w a o) (sym (kick_none n l)) (Wrong UnknownFlag l refl (blames w (reason.Fault UnknownFlag)))
    go (inr l) = let h = kicks_so w c n l in subst (λ o. Kick-effect w a o) (sym h.asked) (at h.kick l h.kicks (nat_lt c (length w.cpus)) refl)

finds_allowed : (w : WorldState) (a : List Arg) → Is-effect w TaskByPid a
finds_allowed w a = go (nat_lt 0 n) (nat_le n (length w.tasks)) refl refl
  where
    n : ℕ
    n = given_number a 0

    go : (x y : Bool) → nat_lt 0 n ≡ x → nat_le n (length w.tasks) ≡ y → IsEffect w TaskByPid a (if (x && y) then Task (record { 0 = n - 1 }) else Num 0) w
    go true true x y =
        let low : 0 < n = grind (arith, nat_tests, x) in
        let high : n ≤ length w.tasks = grind (arith, nat_tests, y) in
        NamesTask (Some (n - 1)) refl (Found (n - 1) (omega (arith, low, high)) (omega (arith, low)) refl) refl refl
    go true false x y = let high : length w.tasks < n = grind (arith, nat_tests, y) in NamesTask None refl (Nobody (λ t l e. omega (arith, l, e, high)) refl) refl refl
    go false b x y = let low : n ≤ 0 = grind (arith, nat_tests, x) in NamesTask None refl (Nobody (λ t l e. omega (arith, e, low)) refl) refl refl

-- what is computed is allowed
pub helper_allowed : RulesAllowHelpers
helper_allowed w KtimeGetNs a own = Done (w.clock * 1000000) refl (refl, refl) refl
helper_allowed w CreateDsq a own = create_allowed w a
helper_allowed w DsqInsert a own = insert_allowed w DsqInsert a _ _ _ (in_order w a) _ _ (does_insert w (given_task a 0) (insert_of w a) (given_number a 3))
helper_allowed w DsqInsertVtime a own = insert_allowed w DsqInsertVtime a _ _ _ (by_vtime w a) _ _ (does_insert w (given_task a 0) (insert_of_vtime w a) (given_number a 4))
helper_allowed w DsqMoveToLocal a own = move_allowed w a
helper_allowed w SelectCpuDfl a own = choice_allowed w a
helper_allowed w CpuIdle a own = idle_allowed w a
helper_allowed w TaskByPid a own = finds_allowed w a
helper_allowed w DsqNrQueued a own = queued_allowed w a
helper_allowed w KickCpu a own = kick_allowed w a
helper_allowed w SmpProcessorId a own = here_allowed w a
helper_allowed w Exit a own = exit_allowed w a
helper_allowed w CpuCurr a own = current_allowed w a
helper_allowed w DsqPeek a own = peek_allowed w a
helper_allowed w TaskRunning a own = running_allowed w a
helper_allowed w TaskCpu a own = home_allowed w a
helper_allowed w PickIdle a own = pick_allowed w a
helper_allowed w ClaimIdle a own = claim_allowed w a
helper_allowed w TimerStart a own = start_allowed w a
helper_allowed w TimerCancel a own = cancel_allowed w a
helper_allowed w PrandomU32 a own = random_allowed w a
helper_allowed w MayRun a own = may_allowed w a
helper_allowed w MapLookupElem a own = absurd (cc)
helper_allowed w (OnMap h) a own = absurd (cc)

-- ---- and nothing else

abbrev Is-this : WorldState → Helper → List Arg → Answer → WorldState → Type 0
Is-this w h a x v = (x ≡ helper_answer w h a) × (v ≡ helper_after w h a)

only_create : (w : WorldState) (a : List Arg) (x : Answer) (v : WorldState) → IsEffect w CreateDsq a x v → Is-this w CreateDsq a x v
only_create w a x v (Done n j d e) = let b = can_create_of w (given_number a 0) j in rw b (e ∙ ap Num d.0, d.1 ∙ ap (λ s. with_queues w s) (sym (created_is w (given_number a 0) j)))
only_create w a x v (NamesTask o j m e k) = absurd m
only_create w a x v (Wrong CannotCreate j e k) = let b = false_from_ne_true (can_create w (given_number a 0)) (λ y. j (create_is w (given_number a 0) y)) in rw b (e, only_blames w (reason.Fault CannotCreate) v k)
only_create w a x v (Wrong f j e k) = absurd j

only_insert : (w : WorldState) (h : Helper) (a : List Arg) (t : Option ℕ) (i : Insert) (flags : ℕ) → Inserting w h a t i flags → (x : Answer) (v : WorldState) → IsEffect w h a x v → (x ≡ Num (insert_answer w t i flags)) × (v ≡ after_insert w t i flags)
only_insert w h a t i flags k x v (Done n j d e) = let y = k.done n v d in let z = only_does_insert w t i flags n v (DoneInsert (k.judged None j) y.0 y.1) in (e ∙ ap Num z.0, z.1)
only_insert w h a t i flags k x v (NamesTask o j m e b) = absurd (k.unnamed o m)
only_insert w h a t i flags k x v (Wrong f j e b) = let z = only_does_insert w t i flags (wrong_answer h) v (WrongInsert f (k.judged (Some f) j) k.wrong (only_blames w (reason.Fault f) v b)) in (e ∙ ap Num z.0, z.1)

abbrev Chosen-so : WorldState → ℕ → Option ℕ → WorldState → Type 0
Chosen-so w n o v = (n ≡ choice_answer w o) × (v ≡ after_choice w o)

only_chooses : (w : WorldState) (n : ℕ) (o : Option ℕ) (v : WorldState) → JudgesChoice w o None → Chooses w n o v → Chosen-so w n o v
only_chooses w n o v j (OfTask t e h c) =
    let x = only_choice w t (Some n) h in
    let b : w.tracks_idle ≡ true = subst (λ y. JudgesChoice w y None) e j in (
      ap (λ y. unwrap_or y (task_at w t).prev_cpu) x ∙ ap (λ y. choice_so w t y) (sym b) ∙ ap (λ y. choice_answer w y) (sym e),
      only_claims w n v c ∙ ap (λ y. after_claim w y) x ∙ ap (λ y. chosen_so w t y) (sym b) ∙ ap (λ y. after_choice w y) (sym e),
    )
only_chooses w n o v j (OfNone t e h k z) =
    let x = only_choice w t None h in
    let b : w.tracks_idle ≡ true = subst (λ y. JudgesChoice w y None) e j in (
      k ∙ ap (λ y. unwrap_or y (task_at w t).prev_cpu) x ∙ ap (λ y. choice_so w t y) (sym b) ∙ ap (λ y. choice_answer w y) (sym e),
      z ∙ ap (λ y. after_claim w y) x ∙ ap (λ y. chosen_so w t y) (sym b) ∙ ap (λ y. after_choice w y) (sym e),
    )
only_chooses w n o v j (OfNobody e k z) = (k ∙ ap (λ y. choice_answer w y) (sym e), z ∙ ap (λ y. after_choice w y) (sym e))

-- the only fault of a choice
choice_from : (w : WorldState) (t : ℕ) (f : Fault) → JudgesChoice w (Some t) (Some f) → untracked_as w.tracks_idle ≡ Some f
choice_from w t IdleUntracked j = ap (λ b. untracked_as b) j
choice_from w t f j = absurd j

only_choice_so : (w : WorldState) (a : List Arg) (x : Answer) (v : WorldState) → IsEffect w SelectCpuDfl a x v → Is-this w SelectCpuDfl a x v
only_choice_so w a x v (Done n j d e) = let h = only_chooses w n (given_task a 0) v j d in (e ∙ ap Num h.0, h.1)
only_choice_so w a x v (NamesTask o j m e k) = absurd m
only_choice_so w a x v (Wrong f j e k) = go (given_task a 0) refl j
  where
    go : (o : Option ℕ) → given_task a 0 ≡ o → JudgesChoice w o (Some f) → (x ≡ Num (choice_answer w o)) × (v ≡ after_choice w o)
    go None y z = absurd (some_fault f z)
    go (Some t) y z =
        let u = choice_from w t f z in
        (e ∙ ap (λ q. Num (unless_fault q (default_choice w t))) (sym u), only_blames w (reason.Fault f) v k ∙ ap (λ q. fault_or w q (after_claim w (choice w t))) (sym u))

only_tells : (w : WorldState) (c n : ℕ) → Tells w c n → n ≡ one_if (seems_idle w c)
only_tells w c n (TellsIdle h k) = rw (seems_of w c h) k
only_tells w c n (TellsBusy f k) = rw (false_from_ne_true (seems_idle w c) (λ e. f (seems_is w c e))) k

only_idle : (w : WorldState) (a : List Arg) (x : Answer) (v : WorldState) → IsEffect w CpuIdle a x v → Is-this w CpuIdle a x v
only_idle w a x v (Done n j d e) =
    let y = ask_from w (given_number a 0) None j in
    (e ∙ ap Num (only_tells w (given_number a 0) n d.0) ∙ ap (λ o. idle_so w (given_number a 0) o) (sym y), d.1 ∙ ap (λ o. kept_so w o) (sym y))
only_idle w a x v (NamesTask o j m e k) = absurd m
only_idle w a x v (Wrong f j e k) =
    let y = ask_from w (given_number a 0) (Some f) j in
    (e ∙ ap (λ o. idle_so w (given_number a 0) o) (sym y), only_blames w (reason.Fault f) v k ∙ ap (λ o. kept_so w o) (sym y))

only_finds : (w : WorldState) (n : ℕ) (o : Option ℕ) → Finds w n o → task_or_null o ≡ pid_answer w n
only_finds w n o (Found t l e k) =
    let low : nat_lt 0 n ≡ true = grind (arith, nat_tests, e) in
    let high : nat_le n (length w.tasks) ≡ true = grind (arith, nat_tests, l, e) in
    let is : t ≡ n - 1 = omega (arith, e) in
    rw (low, high) (ap (λ y. task_or_null y) k ∙ ap (λ (m : ℕ). Task (record { 0 = m })) is)
only_finds w n o (Nobody none k) = go (nat_lt 0 n) (nat_le n (length w.tasks)) refl refl
  where
    go : (a b : Bool) → nat_lt 0 n ≡ a → nat_le n (length w.tasks) ≡ b → task_or_null o ≡ (if (a && b) then Task (record { 0 = n - 1 }) else Num 0)
    go true true y z =
        let low : 0 < n = grind (arith, nat_tests, y) in
        let high : n ≤ length w.tasks = grind (arith, nat_tests, z) in
        absurd (none (n - 1) (omega (arith, low, high)) (omega (arith, low)))
    go true false y z = ap (λ u. task_or_null u) k
    go false b y z = ap (λ u. task_or_null u) k

only_moves : (w : WorldState) (q n : ℕ) (v : WorldState) → Moves w q n v → (n ≡ one_if_some (next_for w q w.call.cpu)) × (v ≡ moved_to_local w (next_for w q w.call.cpu))
only_moves w q n v (First t moved f e h k) =
    let u = with_queues w (after_push (after_remove w.queues t) (local_on w.call.cpu) t Fifo) in
    let x = only_next w q w.call.cpu (Some t) f in
    (e ∙ ap (λ o. one_if_some o) x, k ∙ ap (λ x. with_note (with_move x) (notes.Move t w.call.cpu)) (only_homes u t w.call.cpu moved h) ∙ ap (λ o. moved_to_local w o) x)
only_moves w q n v (HasNone f e k) = let x = only_next w q w.call.cpu None f in (e ∙ ap (λ o. one_if_some o) x, k ∙ ap (λ o. moved_to_local w o) x)

only_move : (w : WorldState) (a : List Arg) (x : Answer) (v : WorldState) → IsEffect w DsqMoveToLocal a x v → Is-this w DsqMoveToLocal a x v
only_move w a x v (Done n j d e) =
    let b = can_move_of w (given_number a 0) j in
    let m = only_moves w (given_number a 0) n v d in
    rw b (e ∙ ap Num m.0, m.1)
only_move w a x v (NamesTask o j m e k) = absurd m
only_move w a x v (Wrong NoSuchQueue j e k) = let b = false_from_ne_true (can_move w (given_number a 0)) (λ y. j (move_is w (given_number a 0) y)) in rw b (e, only_blames w (reason.Fault NoSuchQueue) v k)
only_move w a x v (Wrong f j e k) = absurd j

only_queued : (w : WorldState) (a : List Arg) (x : Answer) (v : WorldState) → IsEffect w DsqNrQueued a x v → Is-this w DsqNrQueued a x v
only_queued w a x v (Done n j d e) = let b = is_there_of w (given_number a 0) j in rw b (e ∙ ap Num d.0, d.1)
only_queued w a x v (NamesTask o j m e k) = absurd m
only_queued w a x v (Wrong NoSuchQueue j e k) = let b = false_from_ne_true (is_there w (given_number a 0)) (λ y. j (there_is w (given_number a 0) y)) in rw b (e, only_blames w (reason.Fault NoSuchQueue) v k)
only_queued w a x v (Wrong f j e k) = absurd j

-- flags ask for one kick, which does that
only_kicks : (w : WorldState) (c n : ℕ) (v : WorldState) → Kicks w c n v → (k : Kick) × (kick_of n ≡ Some k) × (v ≡ kicked_so w c k)
only_kicks w c n v (KicksAny z k) = (Any, kick_any n z, k)
only_kicks w c n v (KicksIdle z r k) = (IfIdle, kick_idle n z, k ∙ ap (λ o. if is_none o || is_this c w.cycling then with_kick w c else w) (sym r))
only_kicks w c n v (KicksCycling z r k) = (IfIdle, kick_idle n z, k ∙ ap (λ b. if b then with_kick w c else w) (sym (or_right (is_none (running w c)) (is_this c w.cycling) (this_of c w.cycling r))))
only_kicks w c n v (LeavesBusy t z r f k) = (
  IfIdle,
  kick_idle n z,
  k ∙ ap (λ b. if is_none (Some t) || b then with_kick w c else w) (sym (false_from_ne_true (is_this c w.cycling) (λ e. f (is_task c w.cycling e))))
      ∙ ap (λ o. if is_none o || is_this c w.cycling then with_kick w c else w) (sym r),
)
only_kicks w c n v (KicksToPreempt z k) = (Preempt, kick_preempt n z, k)

only_kick : (w : WorldState) (a : List Arg) (x : Answer) (v : WorldState) → IsEffect w KickCpu a x v → Is-this w KickCpu a x v
only_kick w a x v (Done n j d e) =
    let h = only_kicks w (given_number a 0) (given_number a 1) v d.1 in
    let l : nat_lt (given_number a 0) (length w.cpus) ≡ true = grind (arith, nat_tests, j.1) in
    rw (h.1, l) (e ∙ ap Num d.0, h.2)
only_kick w a x v (NamesTask o j m e k) = absurd m
only_kick w a x v (Wrong UnknownFlag j e k) = rw (kick_none (given_number a 1) j) (e, only_blames w (reason.Fault UnknownFlag) v k)
only_kick w a x v (Wrong NoSuchCpu j e k) =
    let h = kicks_so w (given_number a 0) (given_number a 1) j.0 in
    let l : nat_lt (given_number a 0) (length w.cpus) ≡ false = grind (arith, nat_tests, j.1) in
    rw (h.asked, l) (e, only_blames w (reason.Fault NoSuchCpu) v k)
only_kick w a x v (Wrong f j e k) = absurd j

-- and nothing else is
pub only_helper : RulesAllowHelpersOnly
only_helper w KtimeGetNs a x v (Done n j d e) = (e ∙ ap Num d.0, d.1)
only_helper w KtimeGetNs a x v (NamesTask o j m e k) = absurd m
only_helper w KtimeGetNs a x v (Wrong f j e k) = absurd (some_fault f j)
only_helper w CreateDsq a x v e = only_create w a x v e
only_helper w DsqInsert a x v e = only_insert w DsqInsert a _ _ _ (in_order w a) x v e
only_helper w DsqInsertVtime a x v e = only_insert w DsqInsertVtime a _ _ _ (by_vtime w a) x v e
only_helper w DsqMoveToLocal a x v e = only_move w a x v e
only_helper w SelectCpuDfl a x v e = only_choice_so w a x v e
only_helper w CpuIdle a x v e = only_idle w a x v e
only_helper w TaskByPid a x v (Done n j d e) = absurd d
only_helper w TaskByPid a x v (NamesTask o j m e k) = (e ∙ only_finds w (given_number a 0) o m, k)
only_helper w TaskByPid a x v (Wrong f j e k) = absurd (some_fault f j)
only_helper w DsqNrQueued a x v e = only_queued w a x v e
only_helper w KickCpu a x v e = only_kick w a x v e
only_helper w SmpProcessorId a x v e = only_here_so w a x v e
only_helper w Exit a x v e = only_exit w a x v e
only_helper w CpuCurr a x v e = only_current_so w a x v e
only_helper w DsqPeek a x v e = only_peek w a x v e
only_helper w TaskRunning a x v e = only_running w a x v e
only_helper w TaskCpu a x v e = only_home w a x v e
only_helper w PickIdle a x v e = only_pick w a x v e
only_helper w ClaimIdle a x v e = only_claim w a x v e
only_helper w TimerStart a x v e = only_start w a x v e
only_helper w TimerCancel a x v e = only_cancel w a x v e
only_helper w PrandomU32 a x v e = only_random w a x v e
only_helper w MayRun a x v e = only_may w a x v e
only_helper w MapLookupElem a x v (Done n j d e) = absurd j
only_helper w MapLookupElem a x v (NamesTask o j m e k) = absurd m
only_helper w MapLookupElem a x v (Wrong f j e k) = absurd j
only_helper w (OnMap h) a x v (Done n j d e) = absurd j
only_helper w (OnMap h) a x v (NamesTask o j m e k) = absurd m
only_helper w (OnMap h) a x v (Wrong f j e k) = absurd j
