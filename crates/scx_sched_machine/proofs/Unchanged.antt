-- What a callback that isn't dispatch leaves as it was: it moves nobody, and so no more is pushed than an
-- ejection pushes.
use Rattle.std.proofs.Common.{◌≡◌, ℕ, suc, ◌+◌, ◌≤◌, Bool, true, false, ◌||◌, cond, List, map, Option, Some, None, is_some, is_none, refl, sym, ap, ◌∙◌, subst, arith}
use Rattle.scx_dsq.specs.Queues.{QueueState}
use Rattle.scx_dsq.specs.Calls.{create_refusal, with_queue, after_create}
use Rattle.scx_isa_semantics.specs.declared.callbacks.Callback.{Callback}
use Rattle.scx_isa_semantics.specs.declared.callbacks.Callback.TheVariants as callback
use Rattle.scx_isa_semantics.specs.declared.host_tables.Helper.{Helper}
use Rattle.scx_isa_semantics.specs.Code.{instruction_count}
use Rattle.scx_isa_semantics.specs.Effects.{Query, Call, Load, Store}
use Rattle.scx_isa_semantics.specs.Elements.{Maps}
use Rattle.scx_isa_semantics.specs.Endings.{Ending, run_of}
use Rattle.scx_isa_semantics.proofs.EndedRuns.{run_keeps}
use Rattle.scx_isa_semantics.specs.Machine as start
use Rattle.scx_vm.specs.Programs.{VerifiedProgram}
use Rattle.scx_vm.specs.Arguments.{program_arguments, argument_of}
use Rattle.scx_vm.specs.declared.arguments.Arg.{Arg}
use Rattle.scx_vm.specs.declared.arguments.Args.{Args}
use Rattle.scx_vm.specs.Host.{answer_to, after_query}
use Rattle.scx_sched_world.specs.declared.call.Insert.{Insert}
use Rattle.scx_sched_world.specs.declared.eject.Cause.{Cause}
use Rattle.scx_sched_world.specs.declared.eject.Eject.{Eject}
use Rattle.scx_sched_world.specs.declared.faults.Fault.{Fault}
use Rattle.scx_sched_world.specs.declared.kicks.Kick.{Kick}
use Rattle.scx_sched_world.specs.declared.kicks.Kick.TheVariants.{Any, IfIdle, Preempt}
use Rattle.scx_sched_world.specs.World.{WorldState, with_queues, with_task, is_by_linux, task_at, running, is_this, with_kick, after_claim, at_callback}
use Rattle.scx_sched_world.specs.Ejecting.{eject_of}
use Rattle.scx_sched_world.specs.Helpers.{with_fault, is_dispatch, with_insert, insert_or_fault, with_move, kicked_so, after_exit, after_random, with_timer, alarm_in, helper_after, stored_in, world_functions}
use Rattle.scx_sched_machine.specs.Steps.{State, Stepped, is_ejected}
use Rattle.scx_sched_machine.specs.Ejecting.{ejected_for}
use Rattle.scx_sched_machine.specs.Budgets.{eject_pushes, enter_pushes, eject_left, pushes_due}
use Rattle.scx_sched_machine.specs.Callbacks.{call_ending, call_back, acting, unless_ejected, cause_of, after_callback, is_calm}
use Rattle.scx_sched_machine.specs.Put.{enters, enters_builtin, comes_in, enqueue_choice}
use Rattle.scx_sched_machine.proofs.Choices.{keeps_if}
use Rattle.scx_sched_machine.proofs.HelperCalls.{by_helper}
use Rattle.scx_sched_machine.proofs.Steady.{steady, steady_entered, steady_builtin, steady_ejected}

-- ---- why the policy was put out of force, if it was

-- a task that comes to wait leaves it as it is
force_comes_in : (s : State) (t c : ℕ) → (comes_in s t c).state.world.ejected ≡ s.world.ejected
unfolding comes_in enters enters_builtin
force_comes_in s t c =
    let i = enqueue_choice s.policy.callbacks.enqueue c s.world.call.insert in
    keeps_if (λ (r : Stepped). r.state.world.ejected ≡ s.world.ejected) (is_ejected s) (enters_builtin s t) (enters s t i) (steady_builtin s.world s.world t (steady s.world)).ejected (steady_entered s.world s.world t i (steady s.world)).ejected

-- ---- a callback that isn't dispatch

-- it changes no entry and pushes nothing, it stays the callback at hand, and the policy stays in force
pub record IsCalm (v w : WorldState) : Type 0 where
  pub entries : w.queues.entries ≡ v.queues.entries
  pub pushes : w.queues.pushes ≡ v.queues.pushes
  pub ejected : w.ejected ≡ v.ejected
  pub callback : is_dispatch w.call.callback ≡ false

module _ (v : WorldState) where
  -- what leaves those parts as they are
  calm_as : (w u : WorldState) → u.queues.entries ≡ w.queues.entries → u.queues.pushes ≡ w.queues.pushes → u.ejected ≡ w.ejected → is_dispatch u.call.callback ≡ is_dispatch w.call.callback → IsCalm v w → IsCalm v u
  calm_as w u a b c d h = record {
    entries = a ∙ h.entries;
    pushes = b ∙ h.pushes;
    ejected = c ∙ h.ejected;
    callback = d ∙ h.callback;
  }

  calm_created : (w : WorldState) (q : ℕ) → IsCalm v w → IsCalm v (with_queues w (after_create w.queues q))
  calm_created w q h =
      keeps_if (λ (s : QueueState). IsCalm v (with_queues w s)) (is_none (create_refusal w.queues q)) (with_queue w.queues q) w.queues (calm_as w (with_queues w (with_queue w.queues q)) refl refl refl refl h) h

  calm_inserted : (w : WorldState) (o : Option Fault) (t : Option ℕ) (i : Insert) → IsCalm v w → IsCalm v (insert_or_fault w o t i)
  calm_inserted w None t i h = rw h.callback (calm_as w (with_insert w i) refl refl refl refl h)
  calm_inserted w (Some f) t i h = calm_as w (with_fault w f) refl refl refl refl h

  calm_faulted : (w : WorldState) (f : Fault) → IsCalm v w → IsCalm v (with_fault w f)
  calm_faulted w f h = calm_as w (with_fault w f) refl refl refl refl h

  calm_claimed : (w : WorldState) (o : Option ℕ) → IsCalm v w → IsCalm v (after_claim w o)
  calm_claimed w None h = h
  calm_claimed w (Some c) h = keeps_if (IsCalm v) (is_by_linux w) _ w (calm_as w _ refl refl refl refl h) h

  calm_kicked : (w : WorldState) (c : ℕ) (k : Kick) → IsCalm v w → IsCalm v (kicked_so w c k)
  calm_kicked w c Any h = calm_as w (kicked_so w c Any) refl refl refl refl h
  calm_kicked w c IfIdle h = keeps_if (IsCalm v) (is_none (running w c) || is_this c w.cycling) (with_kick w c) w (calm_as w (with_kick w c) refl refl refl refl h) h
  calm_kicked w c Preempt h = calm_as w (kicked_so w c Preempt) refl refl refl refl h

  calm_helper : (w : WorldState) (f : Helper) (a : List Arg) → IsCalm v w → IsCalm v (helper_after w f a)
  calm_helper w f a h = by_helper (IsCalm v) w (record {
    same = h;
    faulty = λ f other. calm_faulted w f h;
    ended = λ n. calm_as w (after_exit w n) refl refl refl refl h;
    created = λ q. calm_created w q h;
    inserted = λ t i flags behind none. calm_inserted w None t i h;
    late = λ linux here. calm_as w (with_move w) refl refl refl refl h;
    claimed = λ o. calm_claimed w o h;
    kicked = λ c k. calm_kicked w c k h;
    started = λ n ns. calm_as w (with_timer w n (Some (alarm_in w ns))) refl refl refl refl h;
    cancelled = λ n. calm_as w (with_timer w n None) refl refl refl refl h;
    drawn = calm_as w (after_random w) refl refl refl refl h;
    moved = λ q here low. absurd (is_not here);
  }) f a
    where
      is_not : is_dispatch w.call.callback ≡ true → ⊥
      is_not here = let x : true ≡ false = sym here ∙ h.callback in cc

  calm_query : (w : WorldState) (q : Query) → IsCalm v w → IsCalm v (after_query world_functions w q)
  calm_query w (Call f a) h = calm_helper w f (map argument_of a) h
  calm_query w (Load t f) h = h
  calm_query w (Store t f k) h = calm_as w (with_task w t.0 (stored_in (task_at w t.0) f k)) refl refl refl refl h

  calm_run : (p : Option VerifiedProgram) (b : Callback) (a : Args) (maps : Maps) (w : WorldState) → IsCalm v w → IsCalm v (call_ending p b a maps w).outside
  unfolding call_ending run_of
  calm_run None b a maps w h = h
  calm_run (Some p) b a maps w h =
      run_keeps (answer_to world_functions) (after_query world_functions) (IsCalm v) calm_query b p.code (suc (instruction_count p.code)) 0 (start.start (program_arguments a) maps) w h

-- a callback that isn't dispatch changes no entry and pushes nothing
pub calm_called : (p : Option VerifiedProgram) (b : Callback) (a : Args) (maps : Maps) (w : WorldState) (t c : ℕ) → is_dispatch b ≡ false → IsCalm w (call_ending p b a maps (at_callback w b t c)).outside
calm_called p b a maps w t c e =
    calm_run w p b a maps (at_callback w b t c) (record { entries = refl; pushes = refl; ejected = refl; callback = e })

-- ---- pushes that are left for an ejection

left_as : (s u : State) → u.world.ejected ≡ s.world.ejected → eject_left u ≡ eject_left s
unfolding eject_left
left_as s u e = ap (λ (o : Option Eject). cond (is_some o) 0 eject_pushes) e

-- the pushes that an ejection may still make are no more than one for each task there can be
pub left_few : (s : State) → eject_left s ≤ eject_pushes
unfolding eject_left
left_few s = go (is_ejected s)
  where
    go : (b : Bool) → cond b 0 eject_pushes ≤ eject_pushes
    go true = omega arith
    go false = omega arith

-- where it is out of force, none are
pub left_out : (s : State) (x : Eject) → s.world.ejected ≡ Some x → eject_left s ≡ 0
unfolding eject_left
left_out s x e = ap (λ (o : Option Eject). cond (is_some o) 0 eject_pushes) e

left_in_force : (s : State) → s.world.ejected ≡ None → eject_left s ≡ eject_pushes
unfolding eject_left
left_in_force s e = ap (λ (o : Option Eject). cond (is_some o) 0 eject_pushes) e

in_force : (o : Option Eject) (q : Option VerifiedProgram) (p : VerifiedProgram) → unless_ejected o q ≡ Some p → o ≡ None
in_force None q p e = refl
in_force (Some x) q p e = absurd (cc)

calm_plain : (b : Callback) → is_calm b ≡ true → is_dispatch b ≡ false
calm_plain callback.Dispatch e = absurd (cc)
calm_plain b e = refl

-- one that isn't called has no cause
causeless : (b : Callback) (a : Args) (maps : Maps) (v : WorldState) (t c : ℕ) (y : Cause) → is_calm b ≡ true → cause_of b (call_ending None b a maps (at_callback v b t c)) ≡ Some y → ⊥
unfolding call_ending
causeless callback.SelectCpu a maps v t c y e x = absurd (cc)
causeless b a maps v t c y e x = absurd (cc)

-- a callback that isn't dispatch pushes no more than an ejection does; of select_cpu this is so while the policy
-- is in force
pub calm_call : (s new : State) (b : Callback) (a : Args) (t c : ℕ) → is_calm b ≡ true → new ≡ (call_back s b a t c).state → new.world.queues.pushes ≤ s.world.queues.pushes + eject_pushes → pushes_due new ≤ pushes_due s
unfolding call_back
calm_call s new b a t c calm is few = go (cause_of b e) refl
  where
    w : WorldState
    w = at_callback s.world b t c

    e : Ending WorldState
    e = call_ending (acting s b) b a s.maps w

    same : IsCalm s.world e.outside
    same = calm_called (acting s b) b a s.maps s.world t c (calm_plain b calm)

    go : (o : Option Cause) → cause_of b e ≡ o → pushes_due new ≤ pushes_due s
    go None x =
        let at : new ≡ after_callback s.policy e = is ∙ ap (λ (o : Option Cause). (ejected_for o (after_callback s.policy e)).state) x in
        let pushes : new.world.queues.pushes ≡ s.world.queues.pushes = ap (λ (u : State). u.world.queues.pushes) at ∙ same.pushes in
        let left : eject_left new ≡ eject_left s = left_as s new (ap (λ (u : State). u.world.ejected) at ∙ same.ejected) in
        omega (arith, pushes, left)
    go (Some why) x = by (acting s b) refl
      where
        by : (p : Option VerifiedProgram) → acting s b ≡ p → pushes_due new ≤ pushes_due s
        by None y = absurd (causeless b a s.maps s.world t c why calm (subst (λ (p : Option VerifiedProgram). cause_of b (call_ending p b a s.maps w) ≡ Some why) y x))
        by (Some p) y =
            let at : new ≡ (ejected_for (Some why) (after_callback s.policy e)).state = is ∙ ap (λ (o : Option Cause). (ejected_for o (after_callback s.policy e)).state) x in
            let u : State = after_callback s.policy e in
            let out : Eject = eject_of why u.world.clock in
            let none : eject_left new ≡ 0 = left_out new out (ap (λ (v : State). v.world.ejected) at ∙ (steady_ejected u out).ejected) in
            let all : eject_left s ≡ eject_pushes = left_in_force s (in_force s.world.ejected _ p y) in
            omega (arith, few, none, all)

-- what was run pushes nothing, where it is such a callback
pub calm_end : (p : Option VerifiedProgram) (b : Callback) (a : Args) (maps left : Maps) (w v u : WorldState) (t c n : ℕ) → is_calm b ≡ true → v ≡ at_callback w b t c → record { answer = Some n; maps = left; outside = u } ≡ call_ending p b a maps v → u.queues.pushes ≡ w.queues.pushes
calm_end p b a maps left w v u t c n calm begins is =
    ap (λ (e : Ending WorldState). e.outside.queues.pushes) (is ∙ ap (λ (x : WorldState). call_ending p b a maps x) begins) ∙ (calm_called p b a maps w t c (calm_plain b calm)).pushes

-- a task that comes to wait is one push more
pub comes_in_committed : (s new : State) (t c : ℕ) → new ≡ (comes_in s t c).state → new.world.queues.pushes ≤ s.world.queues.pushes + enter_pushes → pushes_due new ≤ pushes_due s + enter_pushes
comes_in_committed s new t c is few =
    let left : eject_left new ≡ eject_left s = left_as s new (ap (λ (u : State). u.world.ejected) is ∙ force_comes_in s t c) in
    omega (arith, few, left)

-- where the policy stays in force or out of it
pub committed_as : (s u : State) → u.world.queues.pushes ≡ s.world.queues.pushes → u.world.ejected ≡ s.world.ejected → pushes_due u ≡ pushes_due s
committed_as s u p e = let left = left_as s u e in omega (arith, p, left)
