-- What no callback changes as it runs: the tree of groups, the rules, and why the policy was put out of force, if it
-- was.
use Rattle.std.proofs.Common.{◌≡◌, ℕ, zero, suc, Bool, true, false, ◌||◌, ◌&&◌, nat_lt, List, length, map, Option, Some, None, is_none, refl, ap, ◌∙◌}
use Rattle.scx_dsq.specs.Calls.{after_create, after_push}
use Rattle.scx_dsq.specs.declared.entries.Rank.TheVariants.{Fifo}
use Rattle.scx_isa_semantics.specs.declared.callbacks.Callback.{Callback}
use Rattle.scx_isa_semantics.specs.declared.host_tables.Helper.{Helper}
use Rattle.scx_isa_semantics.specs.Code.{instruction_count}
use Rattle.scx_isa_semantics.specs.Effects.{Query, Call, Load, Store}
use Rattle.scx_isa_semantics.specs.Elements.{Maps}
use Rattle.scx_isa_semantics.specs.Endings.{Ending, run_of}
use Rattle.scx_isa_semantics.proofs.EndedRuns.{run_keeps}
use Rattle.scx_isa_semantics.specs.Machine as start
use Rattle.scx_vm.specs.Programs.{VerifiedProgram}
use Rattle.scx_vm.specs.Arguments.{program_arguments, argument_of}
use Rattle.scx_vm.specs.declared.arguments.Arg.{Arg}
use Rattle.scx_vm.specs.declared.arguments.Args.{Args}
use Rattle.scx_vm.specs.Host.{answer_to, after_query}
use Rattle.scx_sched_world.specs.declared.call.Insert.{Insert}
use Rattle.scx_sched_world.specs.declared.eject.Cause.{Cause}
use Rattle.scx_sched_world.specs.declared.eject.Eject.{Eject}
use Rattle.scx_sched_world.specs.declared.kicks.Kick.{Kick}
use Rattle.scx_sched_world.specs.declared.kicks.Kick.TheVariants.{Any, IfIdle, Preempt}
use Rattle.scx_sched_world.specs.Ids.{global, local_on}
use Rattle.scx_sched_world.specs.World.{WorldState, with_queues, with_task, are_linux, is_by_linux, task_at, waits, running, is_this, with_kick, after_claim, at_callback}
use Rattle.scx_sched_world.specs.Tasks.{after_leave, homed, homed_at, local_cpu, task_after_insert, rank_by, after_preempt_of, after_preempt_at, after_preempt, after_enter, for_cpu, after_local, brought, fill_front, put_parked}
use Rattle.scx_sched_world.specs.Ejecting.{eject_of, put_out, put_builtin, after_evictions, after_cut, cut_task}
use Rattle.scx_sched_world.specs.Helpers.{with_fault, is_dispatch, with_insert, after_release, with_move, moved_to_local, kicked_so, after_exit, after_random, with_timer, alarm_in, helper_after, stored_in, world_functions}
use Rattle.scx_sched_machine.specs.Steps.{State, with_world}
use Rattle.scx_sched_machine.specs.Ejecting.{moves_over, eject, ejected_for}
use Rattle.scx_sched_machine.specs.Filling.{fill}
use Rattle.scx_sched_machine.specs.Parking.{park, throttled_front, park_then, clear, in_reach, supply}
use Rattle.scx_sched_machine.specs.Callbacks.{call_ending, call_back, acting, cause_of, after_callback}
use Rattle.scx_sched_machine.proofs.Choices.{keeps_if}
use Rattle.scx_sched_machine.proofs.HelperCalls.{by_helper}

-- ---- parts that stay

-- the tree, the rules and why the policy was put out of force are the same
pub record IsSteady (v w : WorldState) : Type 0 where
  pub tree : w.tree ≡ v.tree
  pub rules : w.rules ≡ v.rules
  pub ejected : w.ejected ≡ v.ejected

-- a world is as it is
pub steady : (w : WorldState) → IsSteady w w
steady w = record { tree = refl; rules = refl; ejected = refl }

module _ (v : WorldState) where
  -- what leaves those parts as they are
  steady_as : (w u : WorldState) → u.tree ≡ w.tree → u.rules ≡ w.rules → u.ejected ≡ w.ejected → IsSteady v w → IsSteady v u
  steady_as w u a b c h = record { tree = a ∙ h.tree; rules = b ∙ h.rules; ejected = c ∙ h.ejected }

  steady_homed : (w : WorldState) (t c : ℕ) → IsSteady v w → IsSteady v (homed w t c)
  steady_homed w t c h = keeps_if (IsSteady v) (is_by_linux w) _ w (steady_as w _ refl refl refl h) h

  steady_homed_at : (w : WorldState) (t : ℕ) (o : Option ℕ) → IsSteady v w → IsSteady v (homed_at w t o)
  steady_homed_at w t None h = h
  steady_homed_at w t (Some c) h = steady_homed w t c h

  steady_preempted : (w : WorldState) (o : Option ℕ) → IsSteady v w → IsSteady v (after_preempt_at w o)
  steady_preempted w None h = h
  steady_preempted w (Some c) h = go (running w c)
    where
      go : (o : Option ℕ) → IsSteady v (after_preempt_of w c o)
      go None = h
      go (Some t) = keeps_if (IsSteady v) (is_this c w.cycling) w _ h (steady_as w _ refl refl refl h)

  -- a task comes to wait
  pub steady_entered : (w : WorldState) (t : ℕ) (i : Insert) → IsSteady v w → IsSteady v (after_enter w t i)
  steady_entered w t i h = keeps_if (IsSteady v) (nat_lt t (length w.tasks)) _ w put h
    where
      given : WorldState
      given = with_queues (with_task w t (task_after_insert (task_at w t) i)) (after_push w.queues i.queue t (rank_by w i.rank))

      home : WorldState
      home = homed_at given t (local_cpu w i.queue)

      kept : IsSteady v home
      kept = steady_homed_at given t (local_cpu w i.queue) (steady_as w given refl refl refl h)

      put : IsSteady v (after_preempt home i)
      put = keeps_if (IsSteady v) i.preempts _ home (steady_preempted home (local_cpu home i.queue) kept) kept

  -- a task comes to wait for the built-in scheduler
  pub steady_builtin : (w : WorldState) (t : ℕ) → IsSteady v w → IsSteady v (put_builtin w t)
  steady_builtin w t h = keeps_if (IsSteady v) (nat_lt t (length w.tasks)) _ w (steady_as w _ refl refl refl h) h

  -- ---- queues

  steady_filled : (w : WorldState) (o : Option ℕ) (c : ℕ) → IsSteady v w → IsSteady v (brought o w c)
  steady_filled w None c h = h
  steady_filled w (Some t) c h =
      let left = after_leave w t in
      let pushed = with_queues left (after_push left.queues (local_on c) t Fifo) in
      steady_homed pushed t c (steady_as w pushed refl refl refl h)

  steady_parked : (w : WorldState) (t : ℕ) → IsSteady v w → IsSteady v (put_parked w t)
  steady_parked w t h = keeps_if (IsSteady v) (nat_lt t (length w.tasks)) _ w (steady_as w _ refl refl refl h) h

  steady_cleared : (n : ℕ) (s : State) (c : ℕ) → IsSteady v s.world → IsSteady v (clear n s c).state.world
  unfolding clear fill park
  steady_cleared zero s c h = h
  steady_cleared (suc n) s c h = go (throttled_front filled (local_on c)) (λ r k. steady_cleared n r c k)
    where
      filled : State
      filled = (fill s global c).state

      kept : IsSteady v filled.world
      kept = steady_filled s.world (fill_front s.world global c) c h

      go : (o : Option ℕ) → ((r : State) → IsSteady v r.world → IsSteady v (clear n r c).state.world) → IsSteady v (park_then (λ r. clear n r c) filled o).state.world
      go None next = kept
      go (Some t) next =
          let left = after_leave filled.world t in
          next (park (with_world filled left) t).state (steady_parked left t (steady_as filled.world left refl refl refl kept))

  -- ---- helper calls

  steady_released : (w : WorldState) (t : Option ℕ) (i : Insert) → IsSteady v w → IsSteady v (after_release w t i)
  steady_released w None i h = h
  steady_released w (Some t) i h =
      let left = after_leave w t in
      steady_as (after_enter left t i) _ refl refl refl (steady_entered left t i (steady_as w left refl refl refl h))

  steady_claimed : (w : WorldState) (o : Option ℕ) → IsSteady v w → IsSteady v (after_claim w o)
  steady_claimed w None h = h
  steady_claimed w (Some c) h = keeps_if (IsSteady v) (is_by_linux w) _ w (steady_as w _ refl refl refl h) h

  steady_kicked : (w : WorldState) (c : ℕ) (k : Kick) → IsSteady v w → IsSteady v (kicked_so w c k)
  steady_kicked w c Any h = steady_as w (kicked_so w c Any) refl refl refl h
  steady_kicked w c IfIdle h = keeps_if (IsSteady v) (is_none (running w c) || is_this c w.cycling) (with_kick w c) w (steady_as w (with_kick w c) refl refl refl h) h
  steady_kicked w c Preempt h = steady_as w (kicked_so w c Preempt) refl refl refl h

  steady_moved : (w : WorldState) (o : Option ℕ) → IsSteady v w → IsSteady v (moved_to_local w o)
  steady_moved w None h = h
  steady_moved w (Some t) h =
      let left = after_leave w t in
      let pushed = with_queues left (after_push left.queues (local_on w.call.cpu) t Fifo) in
      steady_as (after_local left w.call.cpu t) _ refl refl refl (steady_homed pushed t w.call.cpu (steady_as w pushed refl refl refl h))

  steady_helper : (w : WorldState) (f : Helper) (a : List Arg) → IsSteady v w → IsSteady v (helper_after w f a)
  steady_helper w f a h = by_helper (IsSteady v) w (record {
    same = h;
    faulty = λ f other. steady_as w (with_fault w f) refl refl refl h;
    ended = λ n. steady_as w (after_exit w n) refl refl refl h;
    created = λ q. steady_as w (with_queues w (after_create w.queues q)) refl refl refl h;
    inserted = λ t i flags behind none. keeps_if (IsSteady v) (is_dispatch w.call.callback) _ (with_insert w i) (steady_released w t (for_cpu w.call.cpu i) h) (steady_as w (with_insert w i) refl refl refl h);
    late = λ linux here. steady_as w (with_move w) refl refl refl h;
    claimed = λ o. steady_claimed w o h;
    kicked = λ c k. steady_kicked w c k h;
    started = λ n ns. steady_as w (with_timer w n (Some (alarm_in w ns))) refl refl refl h;
    cancelled = λ n. steady_as w (with_timer w n None) refl refl refl h;
    drawn = steady_as w (after_random w) refl refl refl h;
    moved = λ q here low. steady_moved w _ h;
  }) f a

  steady_query : (w : WorldState) (q : Query) → IsSteady v w → IsSteady v (after_query world_functions w q)
  steady_query w (Call f a) h = steady_helper w f (map argument_of a) h
  steady_query w (Load t f) h = h
  steady_query w (Store t f k) h = steady_as w (with_task w t.0 (stored_in (task_at w t.0) f k)) refl refl refl h

  steady_run : (p : Option VerifiedProgram) (b : Callback) (a : Args) (maps : Maps) (w : WorldState) → IsSteady v w → IsSteady v (call_ending p b a maps w).outside
  unfolding call_ending run_of
  steady_run None b a maps w h = h
  steady_run (Some p) b a maps w h =
      run_keeps (answer_to world_functions) (after_query world_functions) (IsSteady v) steady_query b p.code (suc (instruction_count p.code)) 0 (start.start (program_arguments a) maps) w h

  -- ---- an ejection

  steady_evicted : (j : ℕ) (w : WorldState) → IsSteady v w → IsSteady v (after_evictions j w)
  steady_evicted zero w h = h
  steady_evicted (suc j) w h =
      let u = after_evictions j w in
      let kept : IsSteady v u = steady_evicted j w h in
      keeps_if (IsSteady v) (waits u j) (put_builtin (after_leave u j) j) u (steady_builtin (after_leave u j) j (steady_as u (after_leave u j) refl refl refl kept)) kept

  steady_cut_task : (o : Option ℕ) (w : WorldState) → IsSteady v w → IsSteady v (cut_task o w)
  steady_cut_task None w h = h
  steady_cut_task (Some t) w h = steady_as w (cut_task (Some t) w) refl refl refl h

  steady_cut : (j : ℕ) (w : WorldState) → IsSteady v w → IsSteady v (after_cut j w)
  steady_cut zero w h = h
  steady_cut (suc j) w h = let u = after_cut j w in steady_cut_task (running u j) u (steady_cut j w h)

-- a callback of the policy, as it runs
pub steady_called : (p : Option VerifiedProgram) (b : Callback) (a : Args) (maps : Maps) (w : WorldState) (t c : ℕ) → IsSteady w (call_ending p b a maps (at_callback w b t c)).outside
steady_called p b a maps w t c = steady_run w p b a maps (at_callback w b t c) (record { tree = refl; rules = refl; ejected = refl })

-- an ejection puts the policy out of force, and leaves the rest
pub steady_ejected : (s : State) (x : Eject) → IsSteady (put_out s.world x) (eject s x).state.world
unfolding eject moves_over
steady_ejected s x =
    let w = put_out s.world x in
    let v = after_evictions (length w.tasks) w in
    steady_cut w (length v.cpus) v (steady_evicted w (length w.tasks) w (steady w))

-- ---- what a callback leaves

-- the tree is as it was
pub tree_called : (s : State) (b : Callback) (a : Args) (t c : ℕ) → (call_back s b a t c).state.world.tree ≡ s.world.tree
unfolding call_back
tree_called s b a t c = go (cause_of b e)
  where
    e : Ending WorldState
    e = call_ending (acting s b) b a s.maps (at_callback s.world b t c)

    same : IsSteady s.world e.outside
    same = steady_called (acting s b) b a s.maps s.world t c

    go : (o : Option Cause) → (ejected_for o (after_callback s.policy e)).state.world.tree ≡ s.world.tree
    go None = same.tree
    go (Some x) = (steady_ejected (after_callback s.policy e) (eject_of x e.outside.clock)).tree ∙ same.tree

-- ---- plain rules

and_false : (b : Bool) → (b && false) ≡ false
and_false true = refl
and_false false = refl

-- a world with the same rules and ejection goes by plain rules too
pub plain_as : (w u : WorldState) → IsSteady w u → is_by_linux w ≡ false → is_by_linux u ≡ false
plain_as w u h plain =
    ap (λ r. are_linux r && is_none u.ejected) h.rules ∙ ap (λ (o : Option Eject). are_linux w.rules && is_none o) h.ejected ∙ plain

-- once the policy is out of force the machine goes by plain rules
pub plain_out : (w : WorldState) (x : Eject) → w.ejected ≡ Some x → is_by_linux w ≡ false
plain_out w x e = ap (λ (o : Option Eject). are_linux w.rules && is_none o) e ∙ and_false (are_linux w.rules)

-- where the machine goes by plain rules it still does after a callback
pub plain_called : (s : State) (b : Callback) (a : Args) (t c : ℕ) → is_by_linux s.world ≡ false → is_by_linux (call_back s b a t c).state.world ≡ false
unfolding call_back
plain_called s b a t c plain = go (cause_of b e)
  where
    e : Ending WorldState
    e = call_ending (acting s b) b a s.maps (at_callback s.world b t c)

    same : IsSteady s.world e.outside
    same = steady_called (acting s b) b a s.maps s.world t c

    go : (o : Option Cause) → is_by_linux (ejected_for o (after_callback s.policy e)).state.world ≡ false
    go None = plain_as s.world e.outside same plain
    go (Some x) =
        let u = after_callback s.policy e in
        let why = eject_of x u.world.clock in
        plain_out (eject u why).state.world why (steady_ejected u why).ejected

-- nor does it change as a local queue is supplied
pub plain_supplied : (s : State) (c : ℕ) → is_by_linux s.world ≡ false → is_by_linux (supply s c).state.world ≡ false
unfolding supply
plain_supplied s c plain = plain_as s.world (supply s c).state.world (steady_cleared s.world (in_reach s c) s c (steady s.world)) plain
