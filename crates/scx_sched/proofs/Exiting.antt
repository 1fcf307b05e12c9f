-- A callback whose cause is an exit has called `exit`, and had no cause before; and that call is its cause at its end.
use Rattle.std.proofs.Common.{◌≡◌, ℕ, zero, suc, ℤ, nat_lt, List, map, length, Option, Some, None, refl, sym, ap, ◌∙◌, subst, if◌then◌else◌}
use Rattle.std.specs.Int.{w64, cast_signed}
use Rattle.scx_dsq.specs.Calls.{after_create}
use Rattle.scx_isa_semantics.specs.declared.callbacks.Callback.{Callback}
use Rattle.scx_isa_semantics.specs.declared.host_tables.Helper.{Helper}
use Rattle.scx_isa_semantics.specs.declared.host_tables.Helper.TheVariants.{CreateDsq, DsqInsert, DsqInsertVtime, DsqMoveToLocal, SelectCpuDfl, CpuIdle, DsqNrQueued, KickCpu, Exit, CpuCurr, DsqPeek, PickIdle, ClaimIdle, TimerStart, TimerCancel, MayRun}
use Rattle.scx_isa_semantics.specs.declared.values.Value.{Value}
use Rattle.scx_isa_semantics.specs.Code.{Code}
use Rattle.scx_isa_semantics.specs.Effects.{Query, Call, Load, Store}
use Rattle.scx_isa_semantics.specs.Machine.{Machine}
use Rattle.scx_isa_semantics.specs.Machine as machine
use Rattle.scx_isa_semantics.specs.Runs.{LeadsTo, Leads}
use Rattle.scx_isa_semantics.specs.Steps.{Outcome, Stuck, Goes, Asks, Ends, step}
use Rattle.scx_vm.specs.Arguments.{argument_of, program_arguments}
use Rattle.scx_vm.specs.Host.{host, after_query}
use Rattle.scx_vm.specs.declared.arguments.Arg.{Arg}
use Rattle.scx_sched_world.specs.declared.call.Insert.{Insert}
use Rattle.scx_sched_world.specs.declared.eject.Cause.{Cause}
use Rattle.scx_sched_world.specs.declared.eject.Cause.TheVariants as reason
use Rattle.scx_sched_world.specs.declared.faults.Fault.{Fault}
use Rattle.scx_sched_world.specs.declared.faults.Fault.TheVariants.{NoSuchQueue, NoSuchCpu, CannotCreate}
use Rattle.scx_sched_world.specs.declared.kicks.Kick.{Kick}
use Rattle.scx_sched_world.specs.World.{WorldState, with_queues, is_free, this_if, choice, after_claim, is_this}
use Rattle.scx_sched_world.specs.Tasks.{after_leave, for_cpu, next_for}
use Rattle.scx_sched_world.specs.Helpers.{first_cause, with_cause, with_fault, is_there, can_create, is_dispatch, can_move, flags_fault, insert_fault, is_late, with_insert, after_release, insert_or_fault, after_late, after_insert, insert_of, insert_of_vtime, moved_to_local, after_choice, kick_of, kick_fault, kicked_or_fault, first_free_in, after_pick_by, given_number, given_task, helper_after, world_functions, untracked_fault, ask_fault, fault_or, pick_fault, timer_fault, with_timer, alarm_in}
use Rattle.scx_sched_machine.proofs.Choices.{keeps_if}
use Rattle.scx_sched.specs.Causes.{Of_call}
use Rattle.scx_sched.specs.Exits.{ExitsAreCalls, CallsAreExits}
use Rattle.scx_sched.proofs.Marks.{KeepsMarks, Anywhere, kept_kicked_so, kept_claim, kept_local, kept_entered}
use Rattle.scx_sched.proofs.Queries.{KeepsQueries, off_queues, kept_query}

-- ---- the first cause stays

module _ (x : Cause) where
  abbrev HasCause : WorldState → Type 0
  HasCause w = w.call.cause ≡ Some x

  cause_stays : (w : WorldState) (y : Cause) → HasCause w → HasCause (with_cause w y)
  cause_stays w y h = go w.call.cause h
    where
      go : (o : Option Cause) → o ≡ Some x → first_cause o y ≡ Some x
      go None e = absurd (cc)
      go (Some z) e = e

  -- nor does another cause take its place, whatever a query does
  pub cause_kept : KeepsQueries HasCause
  cause_kept = off_queues HasCause (λ w y other h. cause_stays w y h) (λ w n o later h. h) (λ w t s v c h. h) (λ w q i m a b c d n ns h. h)

-- ---- no other helper is an exit

module _ (code : ℤ) where
  abbrev NoExit : WorldState → Type 0
  NoExit w = w.call.cause ≡ Some (reason.Exit code) → ⊥

  no_marks : KeepsMarks Anywhere NoExit
  no_marks = record { there = λ w c h l. tt; homed = λ w t c l h. h; sliced = λ w t n h. h; sets = λ w a b c d h. h }

  no_faulted : (w : WorldState) (f : Fault) → NoExit w → NoExit (with_fault w f)
  no_faulted w f h = go w.call.cause h
    where
      go : (o : Option Cause) → (o ≡ Some (reason.Exit code) → ⊥) → first_cause o (reason.Fault f) ≡ Some (reason.Exit code) → ⊥
      go None g e = absurd (cc)
      go (Some y) g e = g e

  no_released : (w : WorldState) (t : Option ℕ) (i : Insert) → NoExit w → NoExit (after_release w t i)
  no_released w None i h = h
  no_released w (Some t) i h = kept_entered Anywhere NoExit no_marks (after_leave w t) t i h h

  no_insert : (w : WorldState) (o : Option Fault) (t : Option ℕ) (i : Insert) → NoExit w → NoExit (insert_or_fault w o t i)
  no_insert w None t i h = keeps_if NoExit (is_dispatch w.call.callback) (after_release w t (for_cpu w.call.cpu i)) (with_insert w i) (no_released w t (for_cpu w.call.cpu i) h) h
  no_insert w (Some f) t i h = no_faulted w f h

  no_late : (w : WorldState) (o : Option Fault) → NoExit w → NoExit (after_late w o)
  no_late w None h = h
  no_late w (Some f) h = no_faulted w f h

  no_inserted : (w : WorldState) (t : Option ℕ) (i : Insert) (flags : ℕ) → NoExit w → NoExit (after_insert w t i flags)
  no_inserted w t i flags h = keeps_if NoExit (is_late w t) (after_late w (flags_fault w flags)) (insert_or_fault w (insert_fault w t i flags) t i) (no_late w (flags_fault w flags) h) (no_insert w (insert_fault w t i flags) t i h)

  no_front : (w : WorldState) (o : Option ℕ) → NoExit w → NoExit (moved_to_local w o)
  no_front w None h = h
  no_front w (Some t) h = kept_local Anywhere NoExit no_marks (after_leave w t) w.call.cpu t tt h

  -- with a fault, or what is done without one
  no_or_done : (w v : WorldState) (o : Option Fault) → NoExit w → NoExit v → NoExit (fault_or w o v)
  no_or_done w v None h done = done
  no_or_done w v (Some f) h done = no_faulted w f h

  no_chosen : (w : WorldState) (t : Option ℕ) → NoExit w → NoExit (after_choice w t)
  no_chosen w None h = h
  no_chosen w (Some t) h = no_or_done w (after_claim w (choice w t)) (untracked_fault w) h (kept_claim Anywhere NoExit no_marks w (choice w t) h)

  no_picked : (w : WorldState) (o : Option Fault) (c : Option ℕ) → NoExit w → NoExit (after_pick_by o w c)
  no_picked w None c h = kept_claim Anywhere NoExit no_marks w c h
  no_picked w (Some f) c h = no_faulted w f h

  no_kicked : (w : WorldState) (o : Option Fault) (c : ℕ) (k : Option Kick) → NoExit w → NoExit (kicked_or_fault w o c k)
  no_kicked w (Some f) c k h = no_faulted w f h
  no_kicked w None c None h = h
  no_kicked w None c (Some k) h = kept_kicked_so Anywhere NoExit no_marks w c k h

  no_other : (w : WorldState) (f : Helper) (a : List Arg) → NoExit w → (f ≡ Exit → ⊥) → NoExit (helper_after w f a)
  no_other w CreateDsq a h other = keeps_if NoExit (can_create w (given_number a 0)) (with_queues w (after_create w.queues (given_number a 0))) (with_fault w CannotCreate) h (no_faulted w CannotCreate h)
  no_other w DsqInsert a h other = no_inserted w (given_task a 0) (insert_of w a) (given_number a 3) h
  no_other w DsqInsertVtime a h other = no_inserted w (given_task a 0) (insert_of_vtime w a) (given_number a 4) h
  no_other w DsqMoveToLocal a h other = let q = given_number a 0 in keeps_if NoExit (can_move w q) (moved_to_local w (next_for w q w.call.cpu)) (with_fault w NoSuchQueue) (no_front w (next_for w q w.call.cpu) h) (no_faulted w NoSuchQueue h)
  no_other w SelectCpuDfl a h other = no_chosen w (given_task a 0) h
  no_other w KickCpu a h other = let k = kick_of (given_number a 1) in no_kicked w (kick_fault w (given_number a 0) k) (given_number a 0) k h
  no_other w CpuIdle a h other = no_or_done w w (ask_fault w (given_number a 0)) h h
  no_other w DsqNrQueued a h other = keeps_if NoExit (is_there w (given_number a 0)) w (with_fault w NoSuchQueue) h (no_faulted w NoSuchQueue h)
  no_other w DsqPeek a h other = keeps_if NoExit (is_there w (given_number a 0)) w (with_fault w NoSuchQueue) h (no_faulted w NoSuchQueue h)
  no_other w CpuCurr a h other = keeps_if NoExit (nat_lt (given_number a 0) (length w.cpus)) w (with_fault w NoSuchCpu) h (no_faulted w NoSuchCpu h)
  no_other w MayRun a h other = keeps_if NoExit (nat_lt (given_number a 1) (length w.cpus)) w (with_fault w NoSuchCpu) h (no_faulted w NoSuchCpu h)
  no_other w PickIdle a h other = no_picked w (pick_fault w (given_number a 1)) (first_free_in (given_number a 0) w) h
  no_other w ClaimIdle a h other =
      let c = given_number a 0 in
      no_or_done w (after_claim w (this_if (is_free w c) c)) (ask_fault w c) h (kept_claim Anywhere NoExit no_marks w (this_if (is_free w c) c) h)
  no_other w TimerStart a h other = no_or_done w (with_timer w (given_number a 0) (Some (alarm_in w (given_number a 1)))) (timer_fault w (given_number a 0)) h h
  no_other w TimerCancel a h other =
      let n = given_number a 0 in
      no_or_done w (if is_this n w.passing.timer then w else with_timer w n None) (timer_fault w n) h (keeps_if NoExit (is_this n w.passing.timer) w (with_timer w n None) h h)
  no_other w Exit a h other = absurd (other refl)
  no_other w f a h other = h

  -- the query that makes an exit the cause is a call of exit with that code
  record IsCall (q : Query) : Type 0 where
    values : List Value
    is : q ≡ Call Exit values
    says : cast_signed w64 (given_number (map argument_of values) 0) ≡ code

  none_yet : (w : WorldState) → w.call.cause ≡ None → NoExit w
  none_yet w none e = let bad : None ≡ Some (reason.Exit code) = sym none ∙ e in absurd (cc)

  is_call : (w : WorldState) (q : Query) → w.call.cause ≡ None → (after_query world_functions w q).call.cause ≡ Some (reason.Exit code) → IsCall q
  is_call w (Load t f) none e = absurd (none_yet w none e)
  is_call w (Store t f k) none e = absurd (none_yet w none e)
  is_call w (Call Exit a) none e = record { values = a; is = refl; says = same (ap (λ o. first_cause o (reason.Exit (cast_signed w64 (given_number (map argument_of a) 0)))) (sym none) ∙ e) }
    where
      same : Some (reason.Exit (cast_signed w64 (given_number (map argument_of a) 0))) ≡ Some (reason.Exit code) → cast_signed w64 (given_number (map argument_of a) 0) ≡ code
      same x = cc
  is_call w (Call f a) none e = absurd (no_other w f (map argument_of a) (none_yet w none) (λ x. absurd (cc)) e)

-- ---- a run

module _ (b : Callback) (p : Code) where
  abbrev O : WorldState → Query → Value → WorldState → Type 0
  O = host world_functions

  -- a cause stays to its end
  stays_on : (x : Cause) (n s : ℕ) (m : Machine) (w : WorldState) (s' : ℕ) (m' : Machine) (w' : WorldState) → Leads O b p n s m w s' m' w' → w.call.cause ≡ Some x → w'.call.cause ≡ Some x
  stays_on x zero s m w s' m' w' (es, em, ew) h = ap (λ (v : WorldState). v.call.cause) ew ∙ h
  stays_on x (suc n) s m w s' m' w' (t, k, v, first, more) h = stays_on x n t k v s' m' w' more (go (step b p s m) first)
    where
      go : (o : Outcome) → LeadsTo O o w t k v → v.call.cause ≡ Some x
      go Stuck l = absurd l
      go (Goes u y) (l₀, l₁, l₂) = ap (λ (v : WorldState). v.call.cause) l₂ ∙ h
      go (Asks q u on) (y, (a₀, a₁, a₂), l₁, l₂) = ap (λ (v : WorldState). v.call.cause) a₁ ∙ kept_query (HasCause x) (cause_kept x) w q h
      go (Ends y) l = absurd l

  -- where the call is found
  record IsFound (code : ℤ) (s : ℕ) (m : Machine) (w : WorldState) : Type 0 where
    steps : ℕ
    slot : ℕ
    state : Machine
    world : WorldState
    leads : Leads O b p steps s m w slot state world
    values : List Value
    next : ℕ
    on : Value → Machine
    asks : step b p slot state ≡ Asks (Call Exit values) next on
    first : world.call.cause ≡ None
    says : cast_signed w64 (given_number (map argument_of values) 0) ≡ code

  found : (code : ℤ) (n s : ℕ) (m : Machine) (w : WorldState) (s' : ℕ) (m' : Machine) (w' : WorldState) → Leads O b p n s m w s' m' w' → w.call.cause ≡ None → w'.call.cause ≡ Some (reason.Exit code) → IsFound code s m w
  found code zero s m w s' m' w' (es, em, ew) none e = absurd (none_yet code w none (ap (λ (v : WorldState). v.call.cause) (sym ew) ∙ e))
  found code (suc n) s m w s' m' w' (t, k, v, first, more) none e = go (step b p s m) refl first (λ quiet. found code n t k v s' m' w' more quiet e)
    where
      later : IsFound code t k v → IsFound code s m w
      later f =
          record { steps = suc f.steps; slot = f.slot; state = f.state; world = f.world; leads = (t, k, v, first, f.leads); values = f.values; next = f.next; on = f.on; asks = f.asks; first = f.first; says = f.says }

      here : (q : Query) (u : ℕ) (on : Value → Machine) → step b p s m ≡ Asks q u on → (o : Option Cause) → v.call.cause ≡ o → (after_query world_functions w q).call.cause ≡ v.call.cause → (v.call.cause ≡ None → IsFound code t k v) → IsFound code s m w
      here q u on is None y z deep = later (deep y)
      here q u on is (Some x) y z deep =
          let c = is_call code w q none (z ∙ (y ∙ (sym (stays_on x n t k v s' m' w' more y) ∙ e))) in
          record { steps = 0; slot = s; state = m; world = w; leads = (refl, refl, refl); values = c.values; next = u; on = on; asks = is ∙ ap (λ x. Asks x u on) c.is; first = none; says = c.says }

      go : (o : Outcome) → step b p s m ≡ o → LeadsTo O o w t k v → (v.call.cause ≡ None → IsFound code t k v) → IsFound code s m w
      go Stuck is l deep = absurd l
      go (Goes u y) is (l₀, l₁, l₂) deep = later (deep (ap (λ (x : WorldState). x.call.cause) l₂ ∙ none))
      go (Asks q u on) is (y, (a₀, a₁, a₂), l₁, l₂) deep = here q u on is v.call.cause refl (ap (λ (x : WorldState). x.call.cause) (sym a₁)) deep
      go (Ends y) is l deep = absurd l

  -- ---- a run goes one way

  record IsOne (t : ℕ) (k : Machine) (v : WorldState) (t' : ℕ) (k' : Machine) (v' : WorldState) : Type 0 where
    slot : t' ≡ t
    state : k' ≡ k
    world : v' ≡ v

  one_way : (o : Outcome) (w : WorldState) (t : ℕ) (k : Machine) (v : WorldState) (t' : ℕ) (k' : Machine) (v' : WorldState) → LeadsTo O o w t k v → LeadsTo O o w t' k' v' → IsOne t k v t' k' v'
  one_way Stuck w t k v t' k' v' l l' = absurd l
  one_way (Goes u y) w t k v t' k' v' (a, c, d) (a', c', d') = record { slot = a' ∙ sym a; state = c' ∙ sym c; world = d' ∙ sym d }
  one_way (Asks q u on) w t k v t' k' v' (x, (a₀, a₁, a₂), l₁, l₂) (x', (b₀, b₁, b₂), k₁, k₂) = record { slot = k₁ ∙ sym l₁; state = k₂ ∙ (ap on (b₀ ∙ sym a₀) ∙ sym l₂); world = b₁ ∙ sym a₁ }
  one_way (Ends y) w t k v t' k' v' l l' = absurd l

  same_step : (a c : ℕ) (x y : Machine) → a ≡ c → x ≡ y → step b p a x ≡ step b p c y
  same_step a c x y e f = ap (λ z. step b p z x) e ∙ ap (λ z. step b p c z) f

  -- a call of exit before any cause is the cause at the end
  told_to_end : (code : ℤ) (j n s : ℕ) (m : Machine) (w : WorldState) (t : ℕ) (k : Machine) (v : WorldState) (s' : ℕ) (m' : Machine) (w' : WorldState) (values : List Value) (next : ℕ) (on : Value → Machine) (answer : ℕ)
      → Leads O b p j s m w t k v → step b p t k ≡ Asks (Call Exit values) next on → v.call.cause ≡ None → cast_signed w64 (given_number (map argument_of values) 0) ≡ code
      → Leads O b p n s m w s' m' w' → step b p s' m' ≡ Ends answer → w'.call.cause ≡ Some (reason.Exit code)
  told_to_end code zero zero s m w t k v s' m' w' values next on answer (et, ek, ev) asks none is (es, em, ew) ends = let bad : Asks (Call Exit values) next on ≡ Ends answer = sym asks ∙ (same_step t s k m et ek ∙ (sym (same_step s' s m' m es em) ∙ ends)) in absurd (cc)
  told_to_end code zero (suc n) s m w t k v s' m' w' values next on answer (et, ek, ev) asks none is (t', k', v', first, more) ends = stays_on (reason.Exit code) n t' k' v' s' m' w' more (go (step b p s m) (sym (same_step t s k m et ek) ∙ asks) first)
    where
      go : (o : Outcome) → o ≡ Asks (Call Exit values) next on → LeadsTo O o w t' k' v' → v'.call.cause ≡ Some (reason.Exit code)
      go o e l = told (subst (λ (x : Outcome). LeadsTo O x w t' k' v') e l)
        where
          told : LeadsTo O (Asks (Call Exit values) next on) w t' k' v' → v'.call.cause ≡ Some (reason.Exit code)
          told (y, (a₀, a₁, a₂), l₁, l₂) =
              ap (λ (x : WorldState). x.call.cause) a₁ ∙ (ap (λ o. first_cause o (reason.Exit (cast_signed w64 (given_number (map argument_of values) 0)))) (ap (λ (x : WorldState). x.call.cause) (sym ev) ∙ none) ∙ ap (λ c. Some (reason.Exit c)) is)
  told_to_end code (suc j) zero s m w t k v s' m' w' values next on answer (t', k', v', first, more) asks none is (es, em, ew) ends = absurd (subst (λ (o : Outcome). LeadsTo O o w t' k' v') (sym (same_step s' s m' m es em) ∙ ends) first)
  told_to_end code (suc j) (suc n) s m w t k v s' m' w' values next on answer (t₁, k₁, v₁, first, more) asks none is (t₂, k₂, v₂, first', more') ends =
      let one = one_way (step b p s m) w t₁ k₁ v₁ t₂ k₂ v₂ first first' in
      told_to_end code j n t₁ k₁ v₁ t k v s' m' w' values next on answer more asks none is (subst (λ x. Leads O b p n x k₁ v₁ s' m' w') one.slot (subst (λ x. Leads O b p n t₂ x v₁ s' m' w') one.state (subst (λ x. Leads O b p n t₂ k₂ x s' m' w') one.world more'))) ends

-- ---- the laws

pub exits_are_calls : ExitsAreCalls
exits_are_calls m code fresh (Of_call answer w ends e) =
    let f = found m.callback m.program.code code ends.run.before 0 (machine.start (program_arguments m.arguments) m.maps) m.world ends.run.slot ends.run.state w ends.run.leads fresh e in
    record {
      values = f.values;
      world = f.world;
      call = record { steps = f.steps; slot = f.slot; state = f.state; leads = f.leads; next = f.next; go = f.on; asks = f.asks };
      first = f.first;
      says = f.says;
    }

pub calls_are_exits : CallsAreExits
calls_are_exits m code answer w ends c =
    Of_call answer w ends (told_to_end m.callback m.program.code code c.call.steps ends.run.before 0 (machine.start (program_arguments m.arguments) m.maps) m.world c.call.slot c.call.state c.world ends.run.slot ends.run.state w c.values c.call.next c.call.go answer c.call.leads c.call.asks c.first c.says ends.run.leads ends.run.ends)
