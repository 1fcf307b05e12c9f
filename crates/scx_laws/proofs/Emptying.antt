-- Without quotas, what a dispatch that serves queues leaves in them, and who comes to run then.
use Rattle.std.proofs.Common.{◌≡◌, ℕ, ◌<◌, Bool, true, false, not, ◌==◌, ◌&&◌, if◌then◌else◌, List, [], ◌∷◌, length, get_or, Option, Some, None, is_none, is_some, refl, sym, ap, ◌∙◌, subst, arith}
use Rattle.std.specs.List.{AllByRecursion}
use Rattle.scx_isa_semantics.specs.declared.callbacks.Callback.TheVariants as callback
use Rattle.scx_isa_semantics.specs.Endings.{Ending}
use Rattle.scx_vm.specs.Programs.{VerifiedProgram}
use Rattle.scx_sched_world.specs.declared.eject.Cause.{Cause}
use Rattle.scx_sched_world.specs.declared.eject.Eject.{Eject}
use Rattle.scx_sched_world.specs.declared.faults.Fault.TheVariants.{NoSuchQueue}
use Rattle.scx_sched_world.specs.Ids.{global}
use Rattle.scx_sched_world.specs.World.{WorldState, running, at_callback}
use Rattle.scx_sched_world.specs.Tasks.{local_len, after_switch, after_keep, next_for}
use Rattle.scx_sched_world.specs.Helpers.{can_move, moved_to_local, with_fault}
use Rattle.scx_sched_machine.specs.Steps.{State, Stepped, with_world, is_ejected, is_by_linux}
use Rattle.scx_sched_policy.specs.Policy.{program_of}
use Rattle.scx_sched_machine.specs.Ejecting.{ejected_for}
use Rattle.scx_sched_machine.specs.Callbacks.{after_callback, or_cause, cause_of, unless_ejected, acting, call_back, cpu_and_task}
use Rattle.scx_sched_machine.specs.Filling.{fill}
use Rattle.scx_sched_machine.specs.Parking.{supply}
use Rattle.scx_sched_machine.specs.Cycle.{has_local, switched, leave, start as run_front, rest, builtin_cycle, start_or_cycle, pick, ask, seek, look}
use Rattle.scx_sched_machine.proofs.Choices.{keeps_if}
use Rattle.scx_sched.specs.Ranges.{IsFine}
use Rattle.scx_sched.proofs.Blaming.{IsHonest, apart, honest_builtin_cycle}
use Rattle.scx_sched.proofs.Clear.{IsClear, IsReady}
use Rattle.scx_sched.proofs.Idle.{plain_leaves, pick_plain, start_busy, longer, fill_leaves}
use Rattle.scx_sched.proofs.Ready.{ready_leave}
use Rattle.scx_sched.proofs.Supplying.{supply_clears}
use Rattle.scx_sched.proofs.Unchanged.{eject_sets}
use Rattle.scx_sched.proofs.Skeleton.{IsKnown, once_for}
use Rattle.scx_sched.proofs.Cycles.{some_local, no_local, keeps_supply, clear_now, keeps_leave}
use Rattle.scx_sched.proofs.Fine.{fine_steps}
use Rattle.scx_sched.proofs.Events.{fine_inside}
use Rattle.scx_sched.proofs.Leaving.{run_back}
use Rattle.scx_laws.specs.Serving.{after_serving, ServesQueues}

-- ---- what is shown

-- no task that may run on the processor waits in these queues
abbrev pub NoneNext : ℕ → List ℕ → WorldState → Type 0
NoneNext c qs w = AllByRecursion (λ q. next_for w q c ≡ None) qs

-- nor if its own queue is empty and the policy is in force
abbrev pub Empties : List ℕ → ℕ → WorldState → Type 0
Empties qs c w = w.ejected ≡ None → local_len w c ≡ 0 → NoneNext c qs w

-- nor if the processor is idle, and its own queue and that of all processors are empty
abbrev pub EmptiesIfIdle : List ℕ → ℕ → WorldState → Type 0
EmptiesIfIdle qs c w = w.ejected ≡ None → is_none (running w c) ≡ true → (local_len w c ≡ 0) × NoneNext c (global ∷ qs) w

-- a dispatch that serves these queues changes nothing of a world if no task waits in them; else a task comes to
-- the processor's own queue, or the callback has a fault
data IsServed (qs : List ℕ) (c : ℕ) (w v : WorldState) : Type 0 where
  Vain : v ≡ w → NoneNext c qs w → IsServed qs c w v
  Brought : 0 < local_len v c → IsServed qs c w v
  Failed : (x : Cause) → v.call.cause ≡ Some x → IsServed qs c w v

-- who is out of force stays so
pub out_stays : (s : State) (r : Stepped) → IsHonest s r → is_some s.world.ejected ≡ true → r.state.world.ejected ≡ None → ⊥
out_stays s r honest out force = go s.world.ejected refl out
  where
    go : (o : Option Eject) → s.world.ejected ≡ o → is_some o ≡ true → ⊥
    go None e x = absurd (cc)
    go (Some x) e y = apart r.state.world.ejected x force (honest.stays x e)

pub busy : (qs : List ℕ) (c : ℕ) (w : WorldState) → is_none (running w c) ≡ false → EmptiesIfIdle qs c w
busy qs c w e force idle = let bad : false ≡ true = sym e ∙ idle in absurd (cc)

-- ---- ways of a cycle

-- a scheduler out of force has its own cycle; another one seeks a task
pub look_either : (P : WorldState → Type 0) (s : State) (c : ℕ) (p : Option ℕ) (ran : Bool) → (is_ejected s ≡ true → P (builtin_cycle s c p ran).state.world) → P (seek s c p ran).state.world → P (look s c p ran).state.world
unfolding look
look_either P s c p ran out force = go (is_ejected s) refl
  where
    go : (b : Bool) → is_ejected s ≡ b → P (if b then builtin_cycle s c p ran else seek s c p ran).state.world
    go true e = out e
    go false e = force

-- a processor that seeks a task picks the front of its local queue, or asks for one
pub seek_either : (n e c : ℕ) (P : WorldState → Type 0) (m : ℕ) (on : List (Option ℕ)) (s : State) (p : Option ℕ) (ran : Bool) → c < length on → IsFine n e m None on s.world
    → (has_local (supply s c).state c ≡ true → IsClear c (supply s c).state.world → IsFine n e m None on (supply s c).state.world → P (pick (supply s c).state c p ran).state.world)
    → (IsFine n e m None on (supply s c).state.world → P (ask (supply s c).state c p ran).state.world)
    → P (seek s c p ran).state.world
unfolding seek
seek_either n e c P m on s p ran l h picks asks = go (has_local f c) refl
  where
    f : State
    f = (supply s c).state

    x : IsFine n e m None on f.world
    x = keeps_supply n (IsFine n e) (fine_inside n e) m on s c l h

    go : (b : Bool) → has_local f c ≡ b → P (if b then pick f c p ran else ask f c p ran).state.world
    go true z = picks z (clear_now n (IsFine n e) (fine_inside n e) m on f c x (supply_clears s c)) x
    go false z = asks x

module _ (qs : List ℕ) (n e : ℕ) (c : ℕ) where
  -- ---- who is brought

  -- the global queue is empty too, once the local one was filled from there
  pub fill_empties : (m : ℕ) (on : List (Option ℕ)) (s : State) → c < length on → IsFine n e m None on s.world → Empties qs c s.world → Empties (global ∷ qs) c (fill s global c).state.world
  fill_empties m on s l h y force empty =
      let v = fill_leaves n e c m on s global l h empty in
      subst (λ (u : WorldState). NoneNext c (global ∷ qs) u) (sym v.2) (v.0, y (ap (λ (u : WorldState). u.ejected) (sym v.2) ∙ force) v.1)

  -- ---- dispatch

  -- once a callback has ended that answered 0 and left that world
  abbrev ended_in : State → WorldState → WorldState
  ended_in s v = (ejected_for (or_cause v.call.cause None) (after_callback s.policy (record { answer = Some 0; maps = s.maps; outside = v }))).state.world

  -- one with a cause puts the policy out of force
  out_for : (s : State) (x : Cause) → (ejected_for (Some x) s).state.world.ejected ≡ None → ⊥
  out_for s x force = let y : is_some (ejected_for (Some x) s).state.world.ejected ≡ true = ap (λ (o : Option Eject). is_some o) (eject_sets s _).1 in go (ejected_for (Some x) s).state.world.ejected force y
    where
      go : (o : Option Eject) → o ≡ None → is_some o ≡ true → ⊥
      go o none some = absurd (cc)

  ended_empties : (s : State) (v : WorldState) → Empties qs c (record v { notes = [] }) → Empties qs c (ended_in s v)
  ended_empties s v h = go v.call.cause
    where
      go : (k : Option Cause) → Empties qs c (ejected_for (or_cause k None) (after_callback s.policy (record { answer = Some 0; maps = s.maps; outside = v }))).state.world
      go None = h
      go (Some x) = λ force empty. absurd (out_for (after_callback s.policy (record { answer = Some 0; maps = s.maps; outside = v })) x force)

  -- what serving comes to, with dispatch at hand
  outcome : (m : ℕ) (on : List (Option ℕ)) (s : State) → c < length on → IsFine n e m None on (at_callback s.world callback.Dispatch 0 c) → (ks : List ℕ) → IsServed ks c (at_callback s.world callback.Dispatch 0 c) (after_serving ks (at_callback s.world callback.Dispatch 0 c))
  outcome m on s l h [] = Vain refl tt
  outcome m on s l h (k ∷ ks) = go (can_move w k) (next_for w k c) refl (outcome m on s l h ks)
    where
      w : WorldState
      w = at_callback s.world callback.Dispatch 0 c

      go : (b : Bool) (o : Option ℕ) → next_for w k c ≡ o → IsServed ks c w (after_serving ks w) → IsServed (k ∷ ks) c w (if b && is_none o then after_serving ks w else (if b then moved_to_local w o else with_fault w NoSuchQueue))
      go true None f (Vain same none) = Vain same (f, none)
      go true None f (Brought some) = Brought some
      go true None f (Failed x e) = Failed x e
      go true (Some t) f y = Brought (longer n e c m on w k t l f h)
      go false o f y = Failed _ refl

  served_empties : (s : State) (v : WorldState) → IsServed qs c (at_callback s.world callback.Dispatch 0 c) v → Empties qs c (ended_in s v)
  served_empties s v (Vain same none) = subst (λ (u : WorldState). Empties qs c (ended_in s u)) (sym same) (λ force empty. none)
  served_empties s v (Brought some) = ended_empties s v (λ force empty. absurd (omega (arith, empty, some)))
  served_empties s v (Failed x e) = subst (λ (k : Option Cause). Empties qs c (ejected_for (or_cause k None) (after_callback s.policy (record { answer = Some 0; maps = s.maps; outside = v }))).state.world) (sym e) (λ force empty. absurd (out_for (after_callback s.policy (record { answer = Some 0; maps = s.maps; outside = v })) x force))

  pub called_empties : (m : ℕ) (on : List (Option ℕ)) (s : State) (o : Option ℕ) → c < length on → ServesQueues qs s.policy → s.world.ejected ≡ None → IsFine n e m None on s.world → Empties qs c (call_back s callback.Dispatch (cpu_and_task c o) 0 c).state.world
  unfolding call_back
  called_empties m on s o l serves force h =
      let a = cpu_and_task c o in
      let w = at_callback s.world callback.Dispatch 0 c in
      let here : acting s callback.Dispatch ≡ Some serves.dispatch = ap (λ (x : Option Eject). unless_ejected x (program_of s.policy callback.Dispatch)) force ∙ serves.is_there in
      subst (λ (p : Option VerifiedProgram). Empties qs c (run_back p s callback.Dispatch a 0 c).state.world) (sym here)
      (subst (λ (x : Ending WorldState). Empties qs c (ejected_for (cause_of callback.Dispatch x) (after_callback s.policy x)).state.world) (sym (serves.serves a s.maps w))
      (served_empties s (after_serving qs w) (outcome m on s l ((fine_steps n e).begun m None on s.world callback.Dispatch 0 c l h) qs)))

  -- ---- who comes to run

  pub out_empties : (s : State) (r : Stepped) → IsHonest s r → is_some s.world.ejected ≡ true → EmptiesIfIdle qs c r.state.world
  out_empties s r honest out force idle = absurd (out_stays s r honest out force)

  -- the local queue is empty once the task before has left only where the policy is out of force
  start_or_cycle_empties : (m : ℕ) (on : List (Option ℕ)) (s : State) (ran : Bool) → c < length on → get_or on c None ≡ None → IsReady c s.world → IsFine n e m None on s.world → EmptiesIfIdle qs c (start_or_cycle s c ran).state.world
  unfolding start_or_cycle
  start_or_cycle_empties m on s ran l free ready h = go (has_local s c) refl
    where
      out : local_len s.world c ≡ 0 → (o : Option Eject) → s.world.ejected ≡ o → is_some o ≡ true
      out empty None force = absurd (omega (arith, empty, ready.some force))
      out empty (Some x) e = refl

      go : (b : Bool) → has_local s c ≡ b → EmptiesIfIdle qs c (if b then run_front s c else builtin_cycle s c None ran).state.world
      go true z = busy qs c (run_front s c).state.world (start_busy n e c m on s l free ready.clear h (some_local (local_len s.world c) (local_len s.world c == 0) refl z))
      go false z = out_empties s (builtin_cycle s c None ran) (honest_builtin_cycle s c None ran) (out (no_local (local_len s.world c) (local_len s.world c == 0) refl z) s.world.ejected refl)

  pub pick_empties : (m : ℕ) (on : List (Option ℕ)) (s : State) (p : Option ℕ) (ran : Bool) → is_by_linux s ≡ false → c < length on → IsKnown n p → get_or on c None ≡ p → has_local s c ≡ true → IsClear c s.world → IsFine n e m None on s.world → EmptiesIfIdle qs c (pick s c p ran).state.world
  pick_empties m on s p ran plain l known runs some clear-now h =
      let x = keeps_leave n (IsFine n e) (fine_inside n e) m on s c p l known runs h in
      let ready = ready_leave n (IsFine n e) (fine_steps n e) (fine_inside n e).sound c m on s c p (plain_leaves s p plain) l known runs h (record { clear = clear-now; some = λ force. some_local (local_len s.world c) (local_len s.world c == 0) refl some }) in
      subst (λ (v : State). EmptiesIfIdle qs c v.world) (sym (pick_plain s c p ran plain))
      (start_or_cycle_empties (once_for p m) x.0 (leave s c p).state ran x.2 x.3 ready x.1)

  pub rest_empties : (s : State) (p : Option ℕ) (ran : Bool) → EmptiesIfIdle qs c s.world → EmptiesIfIdle qs c (rest s c p ran).state.world
  unfolding rest switched
  rest_empties s None ran h = h
  rest_empties s (Some t) ran h =
      let v = with_world s (after_keep s.world (Some t)) in
      keeps_if (λ (r : State). EmptiesIfIdle qs c r.world) (is_by_linux v && not (v.policy.tick_ms == 0)) (with_world v (after_switch v.world t)) v (λ force idle. h force idle) (λ force idle. h force idle)
