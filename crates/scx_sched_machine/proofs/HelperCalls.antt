-- One walk over the helpers of the host: what has to be shown of a property of worlds at a world, so that it
-- holds of the world that a helper call leaves, whichever helper is called and whatever it is given.
use Rattle.std.proofs.Common.{◌≡◌, ℕ, zero, suc, ◌≤◌, ◌<◌, Bool, true, false, ◌&&◌, ◌==◌, nat_lt, nat_le, if◌then◌else◌, List, length, Option, Some, None, refl, subst, arith}
use Rattle.std.proofs.lemmas.Bool.{and_parts}
use Rattle.std.proofs.lemmas.Bool.Decides.{nat_tests}
use Rattle.std.specs.List.{list_any}
use Rattle.scx_dsq.specs.Queues.{exists}
use Rattle.scx_dsq.specs.Calls.{after_create, clashes}
use Rattle.scx_dsq.specs.declared.entries.Rank.{Rank}
use Rattle.scx_dsq.specs.declared.entries.Rank.TheVariants.{Front}
use Rattle.scx_isa_semantics.specs.declared.host_tables.Helper.{Helper}
use Rattle.scx_isa_semantics.specs.declared.host_tables.Helper.TheVariants.{CreateDsq, DsqInsert, DsqInsertVtime, DsqMoveToLocal, SelectCpuDfl, CpuIdle, DsqNrQueued, KickCpu, Exit, CpuCurr, DsqPeek, PickIdle, ClaimIdle, TimerStart, TimerCancel, PrandomU32, MayRun}
use Rattle.scx_vm.specs.declared.arguments.Arg.{Arg}
use Rattle.scx_sched_world.specs.declared.call.Insert.{Insert}
use Rattle.scx_sched_world.specs.declared.faults.Fault.{Fault}
use Rattle.scx_sched_world.specs.declared.kicks.Kick.{Kick}
use Rattle.scx_sched_world.specs.declared.faults.Fault.TheVariants.{Stuck, NoSuchQueue, CannotInsert, NoSuchCpu, UnknownFlag, CannotCreate}
use Rattle.scx_sched_world.specs.Ids.{policy_end, global, local, local_on}
use Rattle.scx_sched_world.specs.World.{WorldState, with_queues, is_by_linux, is_this, this_if, is_free, choice, after_claim}
use Rattle.scx_sched_world.specs.Tasks.{next_for}
use Rattle.scx_sched_world.specs.Helpers.{is_there, can_create, with_fault, is_dispatch, may_insert, is_vtime, queue_fault, rank_fault, or_fault, are_linux_flags, are_known, arrival_rank, flags_fault, cpu_meant, may_go, placing_fault, insert_fault, is_late, insert_or_fault, with_move, after_late, after_insert, after_move, insert_of, insert_of_vtime, moved_to_local, after_choice, kick_of, kick_fault, kicked_so, kicked_or_fault, after_kick, after_exit, untracked_fault, cpu_fault, ask_fault, fault_or, first_free_in, pick_flags_fault, pick_fault, after_pick_by, after_pick, timer_fault, with_timer, alarm_in, after_random, given_number, given_task, helper_after}
use Rattle.scx_sched_machine.proofs.Choices.{keeps_if}

-- ---- the fault of a helper call

-- some fault, or none, but not that one
abbrev pub IsOther : Option Fault → Type 0
IsOther o = o ≡ Some Stuck → ⊥

other_or : (o r : Option Fault) → IsOther o → IsOther r → IsOther (or_fault o r)
other_or None r h k = k
other_or (Some f) r h k = h

-- no fault is another one
pub no_fault : IsOther None
no_fault e = absurd (cc)

other_if : (b : Bool) (o r : Option Fault) → IsOther o → IsOther r → IsOther (if b then o else r)
other_if b o r h k = keeps_if IsOther b o r h k

other_queue : (w : WorldState) (q : ℕ) → IsOther (queue_fault w q)
other_queue w q =
    other_if (nat_lt q policy_end) _ _ (other_if (exists w.queues q) _ _ no_fault (λ e. absurd (cc)))
    (other_if (q == global) _ _ no_fault
    (other_if (q == local) _ _ no_fault
    (other_if (nat_lt q (local_on 0)) _ _ (λ e. absurd (cc)) (other_if (nat_lt q (local_on (length w.cpus))) _ _ no_fault (other_if (nat_lt q (local_on 0x1_0000_0000)) _ _ (λ e. absurd (cc)) (λ e. absurd (cc)))))))

other_rank : (w : WorldState) (q : ℕ) (r : Rank) → IsOther (rank_fault w q r)
other_rank w q r = other_if (is_vtime r && nat_le policy_end q) _ _ (λ e. absurd (cc)) (other_if (list_any (clashes q r) w.queues.entries) _ _ (λ e. absurd (cc)) no_fault)

other_flags : (w : WorldState) (flags : ℕ) → IsOther (flags_fault w flags)
other_flags w flags = other_if (are_known w flags) _ _ no_fault (λ e. absurd (cc))

other_place : (w : WorldState) (t : Option ℕ) (q : ℕ) → IsOther (placing_fault w t q)
other_place w t q = other_if (may_go w t (cpu_meant w q)) _ _ no_fault (λ e. absurd (cc))

other_insert : (w : WorldState) (t : Option ℕ) (i : Insert) (flags : ℕ) → IsOther (insert_fault w t i flags)
other_insert w t i flags =
    other_if (may_insert w t) _ _
    (other_or (flags_fault w flags) _ (other_flags w flags) (other_or (queue_fault w i.queue) _ (other_queue w i.queue)
    (other_or (rank_fault w i.queue i.rank) (placing_fault w t i.queue) (other_rank w i.queue i.rank) (other_place w t i.queue))))
    (λ e. absurd (cc))

other_untracked : (w : WorldState) → IsOther (untracked_fault w)
other_untracked w = other_if w.tracks_idle _ _ no_fault (λ e. absurd (cc))

other_ask : (w : WorldState) (c : ℕ) → IsOther (ask_fault w c)
other_ask w c = other_or (untracked_fault w) (cpu_fault w c) (other_untracked w) (other_if (nat_lt c (length w.cpus)) _ _ no_fault (λ e. absurd (cc)))

other_pick : (w : WorldState) (flags : ℕ) → IsOther (pick_fault w flags)
other_pick w flags = other_or (untracked_fault w) (pick_flags_fault flags) (other_untracked w) (other_if (nat_le flags 1) _ _ no_fault (λ e. absurd (cc)))

other_timer : (w : WorldState) (n : ℕ) → IsOther (timer_fault w n)
other_timer w n = other_if (nat_lt n (length w.timers)) _ _ no_fault (λ e. absurd (cc))

-- ---- inserts to the front of a queue

-- a rank by which a task doesn't go to the front
abbrev pub IsBehind : Rank → Type 0
IsBehind r = r ≡ Front → ⊥

-- flags of plain rules ask for no front
plain_flags : (n : ℕ) → n ≤ 1 → IsBehind (arrival_rank n)
plain_flags zero few e = absurd (cc)
plain_flags (suc zero) few e = absurd (cc)
plain_flags (suc (suc n)) few e = absurd (omega (arith, few))

-- an insert without a fault has flags without one
flags_fine : (w : WorldState) (t : Option ℕ) (i : Insert) (flags : ℕ) → insert_fault w t i flags ≡ None → flags_fault w flags ≡ None
flags_fine w t i flags e = go (may_insert w t) (flags_fault w flags) refl e
  where
    go : (b : Bool) (o : Option Fault) → flags_fault w flags ≡ o → (if b then or_fault o (or_fault (queue_fault w i.queue) (or_fault (rank_fault w i.queue i.rank) (placing_fault w t i.queue))) else Some CannotInsert) ≡ None → flags_fault w flags ≡ None
    go true None x y = x
    go true (Some f) x y = absurd (cc)
    go false o x y = absurd (cc)

-- by plain rules flags without a fault ask for no front
arrives : (w : WorldState) (flags : ℕ) → flags_fault w flags ≡ None → is_by_linux w ≡ false → IsBehind (arrival_rank flags)
arrives w flags fine plain = go (nat_le flags 1) refl (subst (λ b. (if (if b then are_linux_flags flags else nat_le flags 1) then None else Some UnknownFlag) ≡ None) plain fine)
  where
    go : (b : Bool) → nat_le flags 1 ≡ b → (if b then None else Some UnknownFlag) ≡ None → IsBehind (arrival_rank flags)
    go true x y = plain_flags flags (grind (arith, nat_tests, x))
    go false x y = absurd (cc)

-- ---- the walk

-- what a helper call may leave has the property: the world as it is, one with a fault that helpers have or with an
-- end of the policy's own, with a queue created, with an insert kept or done at once, or too late, with a task moved
-- in dispatch, with a processor claimed or kicked, with a timer started or cancelled, with a random number drawn
pub record HoldsAfterCalls (P : WorldState → Type 0) (w : WorldState) : Type 0 where
  pub same : P w
  pub faulty : (f : Fault) → IsOther (Some f) → P (with_fault w f)
  pub ended : (n : ℕ) → P (after_exit w n)
  pub created : (q : ℕ) → P (with_queues w (after_create w.queues q))
  pub inserted : (t : Option ℕ) (i : Insert) (flags : ℕ) → (is_by_linux w ≡ false → IsBehind i.rank) → insert_fault w t i flags ≡ None → P (insert_or_fault w None t i)
  pub late : is_by_linux w ≡ true → is_dispatch w.call.callback ≡ true → P (with_move w)
  pub claimed : (o : Option ℕ) → P (after_claim w o)
  pub kicked : (c : ℕ) (k : Kick) → P (kicked_so w c k)
  pub started : (n ns : ℕ) → P (with_timer w n (Some (alarm_in w ns)))
  pub cancelled : (n : ℕ) → P (with_timer w n None)
  pub drawn : P (after_random w)
  pub moved : (q : ℕ) → is_dispatch w.call.callback ≡ true → q < policy_end → P (moved_to_local w (next_for w q w.call.cpu))

module _ (P : WorldState → Type 0) (w : WorldState) (h : HoldsAfterCalls P w) where
  inserts : (t : Option ℕ) (i : Insert) (flags : ℕ) → (flags_fault w flags ≡ None → is_by_linux w ≡ false → IsBehind i.rank) → P (after_insert w t i flags)
  inserts t i flags behind = by (is_late w t) refl
    where
      in_time : (o : Option Fault) → insert_fault w t i flags ≡ o → IsOther o → P (insert_or_fault w o t i)
      in_time None none other = h.inserted t i flags (behind (flags_fine w t i flags none)) none
      in_time (Some f) is other = h.faulty f other

      too_late : (o : Option Fault) → is_late w t ≡ true → IsOther o → P (after_late w o)
      too_late None e other =
          let linux = and_parts (is_by_linux w) _ e in
          h.late linux.0 (and_parts (is_dispatch w.call.callback) _ linux.1).0
      too_late (Some f) e other = h.faulty f other

      by : (b : Bool) → is_late w t ≡ b → P (if b then after_late w (flags_fault w flags) else insert_or_fault w (insert_fault w t i flags) t i)
      by true e = too_late (flags_fault w flags) e (other_flags w flags)
      by false e = in_time (insert_fault w t i flags) refl (other_insert w t i flags)

  moves : (q : ℕ) → P (after_move w q)
  moves q = go (is_dispatch w.call.callback) (nat_lt q policy_end) (exists w.queues q) refl refl
    where
      go : (b c d : Bool) → is_dispatch w.call.callback ≡ b → nat_lt q policy_end ≡ c → P (if b && (c && d) then moved_to_local w (next_for w q w.call.cpu) else with_fault w NoSuchQueue)
      go true true true here low = h.moved q here (grind (arith, nat_tests, low))
      go true true false here low = h.faulty NoSuchQueue (λ e. absurd (cc))
      go true false d here low = h.faulty NoSuchQueue (λ e. absurd (cc))
      go false c d here low = h.faulty NoSuchQueue (λ e. absurd (cc))

  -- a fault, or what is done without one
  or_done : (o : Option Fault) (v : WorldState) → IsOther o → P v → P (fault_or w o v)
  or_done None v other done = done
  or_done (Some f) v other done = h.faulty f other

  chooses : (t : Option ℕ) → P (after_choice w t)
  chooses None = h.same
  chooses (Some t) = or_done (untracked_fault w) (after_claim w (choice w t)) (other_untracked w) (h.claimed (choice w t))

  kicks : (c flags : ℕ) → P (after_kick w c flags)
  kicks c flags = go (kick_of flags)
    where
      go : (k : Option Kick) → P (kicked_or_fault w (kick_fault w c k) c k)
      go None = h.faulty UnknownFlag (λ e. absurd (cc))
      go (Some k) = at (nat_lt c (length w.cpus))
        where
          at : (b : Bool) → P (kicked_or_fault w (if b then None else Some NoSuchCpu) c (Some k))
          at true = h.kicked c k
          at false = h.faulty NoSuchCpu (λ e. absurd (cc))

  picks : (mask flags : ℕ) → P (after_pick w mask flags)
  picks mask flags = go (pick_fault w flags) (other_pick w flags)
    where
      go : (o : Option Fault) → IsOther o → P (after_pick_by o w (first_free_in mask w))
      go None other = h.claimed (first_free_in mask w)
      go (Some f) other = h.faulty f other

  -- whichever helper is called, and whatever it is given
  pub by_helper : (f : Helper) (a : List Arg) → P (helper_after w f a)
  by_helper CreateDsq a = keeps_if P (can_create w (given_number a 0)) (with_queues w (after_create w.queues (given_number a 0))) (with_fault w CannotCreate) (h.created (given_number a 0)) (h.faulty CannotCreate (λ e. absurd (cc)))
  by_helper DsqInsert a = inserts (given_task a 0) (insert_of w a) (given_number a 3) (arrives w (given_number a 3))
  by_helper DsqInsertVtime a = inserts (given_task a 0) (insert_of_vtime w a) (given_number a 4) (λ fine plain e. absurd (cc))
  by_helper DsqMoveToLocal a = moves (given_number a 0)
  by_helper SelectCpuDfl a = chooses (given_task a 0)
  by_helper KickCpu a = kicks (given_number a 0) (given_number a 1)
  by_helper CpuIdle a = or_done (ask_fault w (given_number a 0)) w (other_ask w (given_number a 0)) h.same
  by_helper DsqNrQueued a = keeps_if P (is_there w (given_number a 0)) w (with_fault w NoSuchQueue) h.same (h.faulty NoSuchQueue (λ e. absurd (cc)))
  by_helper Exit a = h.ended (given_number a 0)
  by_helper CpuCurr a = keeps_if P (nat_lt (given_number a 0) (length w.cpus)) w (with_fault w NoSuchCpu) h.same (h.faulty NoSuchCpu (λ e. absurd (cc)))
  by_helper DsqPeek a = keeps_if P (is_there w (given_number a 0)) w (with_fault w NoSuchQueue) h.same (h.faulty NoSuchQueue (λ e. absurd (cc)))
  by_helper PickIdle a = picks (given_number a 0) (given_number a 1)
  by_helper ClaimIdle a =
      let c = given_number a 0 in
      or_done (ask_fault w c) (after_claim w (this_if (is_free w c) c)) (other_ask w c) (h.claimed (this_if (is_free w c) c))
  by_helper TimerStart a =
      let n = given_number a 0 in
      let ns = given_number a 1 in
      or_done (timer_fault w n) (with_timer w n (Some (alarm_in w ns))) (other_timer w n) (h.started n ns)
  by_helper TimerCancel a =
      let n = given_number a 0 in
      or_done (timer_fault w n) (if is_this n w.passing.timer then w else with_timer w n None) (other_timer w n) (keeps_if P (is_this n w.passing.timer) w (with_timer w n None) h.same (h.cancelled n))
  by_helper PrandomU32 a = h.drawn
  by_helper MayRun a = keeps_if P (nat_lt (given_number a 1) (length w.cpus)) w (with_fault w NoSuchCpu) h.same (h.faulty NoSuchCpu (λ e. absurd (cc)))
  by_helper f a = h.same
