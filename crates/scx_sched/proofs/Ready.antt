-- A task that leaves its processor leaves the front of the local queue where it is, or the policy is put out of force
-- and nobody is there. Under Linux rules it may come before that front, which was picked before and stays in the queue.
use Rattle.std.proofs.Common.{◌≡◌, ℕ, ◌+◌, ◌<◌, Bool, true, false, ◌==◌, ◌&&◌, not, List, length, set, get_or, Option, Some, None, is_some, is_none, refl, sym, subst, ◌∙◌, ap, if◌then◌else◌}
use Rattle.std.proofs.lemmas.List.{length-set}
use Rattle.scx_isa_semantics.specs.declared.callbacks.Callback.{Callback}
use Rattle.scx_isa_semantics.specs.declared.callbacks.Callback.TheVariants as callback
use Rattle.scx_isa_semantics.specs.Elements.{Maps}
use Rattle.scx_vm.specs.Programs.{VerifiedProgram}
use Rattle.scx_vm.specs.declared.arguments.Args.{Args}
use Rattle.scx_sched_world.specs.declared.eject.Cause.{Cause}
use Rattle.scx_sched_world.specs.declared.eject.Eject.{Eject}
use Rattle.scx_sched_world.specs.World.{WorldState, are_linux, task_at, at_callback, quiet}
use Rattle.scx_sched_world.specs.Tasks.{to_front}
use Rattle.scx_sched_world.specs.Ejecting.{after_charge}
use Rattle.scx_sched_world.specs.Helpers.{is_dispatch}
use Rattle.scx_sched_policy.specs.Policy.{program_of}
use Rattle.scx_sched_machine.specs.Steps.{State, Stepped, stays, is_ejected, is_by_linux}
use Rattle.scx_sched_machine.specs.Ejecting.{eject, ejected_for}
use Rattle.scx_sched_machine.specs.Callbacks.{call_ending, acting, after_callback, cause_of, call_back, task_and_number, call_by_linux, two_numbers}
use Rattle.scx_sched_machine.specs.Put.{enters, enqueue_choice, enters_builtin, comes_in, put}
use Rattle.scx_sched_machine.specs.Cycle.{put_back, leave, tells_idle, tells_busy, makes_way}
use Rattle.scx_sched_machine.proofs.Choices.{keeps_if}
use Rattle.scx_sched.specs.Kept.{IsKeptBySteps}
use Rattle.scx_sched.specs.Once.{IsSound}
use Rattle.scx_sched.proofs.Unchanged.{eject_sets}
use Rattle.scx_sched.proofs.Fronts.{same_here}
use Rattle.scx_sched.proofs.Calm.{IsCalm, calm_query}
use Rattle.scx_sched.proofs.Clear.{IsReady, ready_same, ready_calm, ready_over, ready_put_builtin, ready_entered, IsPicked, picked_same, picked_calm, picked_over, picked_put_builtin, picked_entered}
use Rattle.scx_dsq.specs.Queues.{QueueState}
use Rattle.scx_sched_world.specs.Ids.{local_on}
use Rattle.scx_sched.specs.Over.{GoesOver}
use Rattle.scx_sched.proofs.Stepwise.{IsOfSwitch, Leaving, Coming, IsSwitch, Silent, Called, off_cpu, goes_off, by_stop}
use Rattle.scx_sched.proofs.Leaving.{LeavesPlainly, put_back_plain}
use Rattle.scx_sched.proofs.Blaming.{plain_on, honest_call_back, honest_goes_off}
use Rattle.scx_sched.proofs.Going.{goes_over}
use Rattle.scx_sched.proofs.Skeleton.{IsKnown, is_wanted, keeps_called, keeps_call_back, keeps_goes_off}
use Rattle.scx_sched.proofs.Queries.{KeepsQueries, KeepsCallbacks, off_queues, kept_called, kept_query, kept_ejecting, kept_call_back}

-- a callback that isn't dispatch moves nobody
pub calm_called : (p : Option VerifiedProgram) (b : Callback) (a : Args) (maps : Maps) (w : WorldState) (t c : ℕ) → is_dispatch b ≡ false → IsCalm w (call_ending p b a maps (at_callback w b t c)).outside
calm_called p b a maps w t c e = kept_called (IsCalm w) (calm_query w) p b a maps (at_callback w b t c) (record { entries = refl; pushes = refl; tree = refl; ejected = refl; callback = e })

calm_quiet : (v w : WorldState) → IsCalm v w → IsCalm v (quiet w)
calm_quiet v w h = record { entries = h.entries; pushes = h.pushes; tree = h.tree; ejected = h.ejected; callback = h.callback }

-- by Linux rules the policy is in force
pub linux_in_force : (s : State) → is_by_linux s ≡ true → s.world.ejected ≡ None
linux_in_force s e = go (are_linux s.world.rules) s.world.ejected refl e
  where
    go : (b : Bool) (o : Option Eject) → s.world.ejected ≡ o → (b && is_none o) ≡ true → s.world.ejected ≡ None
    go b None x y = x
    go true (Some z) x y = absurd (cc)
    go false (Some z) x y = absurd (cc)

-- a policy that isn't ejected is in force
pub not_out : (s : State) → is_ejected s ≡ false → s.world.ejected ≡ None
not_out s e = go s.world.ejected e
  where
    go : (o : Option Eject) → is_some o ≡ false → o ≡ None
    go None x = refl
    go (Some y) x = absurd (cc)

-- ---- the callback at hand

-- stays as small changes of a query are made, and as a policy is ejected
at_hand : (b : Callback) → KeepsQueries (λ (w : WorldState). w.call.callback ≡ b)
at_hand b = off_queues (λ (w : WorldState). w.call.callback ≡ b) (λ w x other h. h) (λ w n o later h. h) (λ w t s v c h. h) (λ w q i m a b c d n ns h. h)

at_hand_still : (b : Callback) → KeepsCallbacks (λ (w : WorldState). w.call.callback ≡ b)
at_hand_still b = record { query = kept_query (λ w. w.call.callback ≡ b) (at_hand b); quiet = λ w h. h; out = λ w x h. h; ejecting = kept_ejecting (λ w. w.call.callback ≡ b) (at_hand b) (λ w t h. h) }

-- where it isn't dispatch, it isn't once it has ended
pub calm_call_back : (s : State) (b : Callback) (a : Args) (t c : ℕ) → is_dispatch b ≡ false → is_dispatch (call_back s b a t c).state.world.call.callback ≡ false
calm_call_back s b a t c calm = ap is_dispatch (kept_call_back (λ w. w.call.callback ≡ b) (at_hand_still b) s b a t c refl) ∙ calm

-- ---- a task leaves its processor

-- what stays where queues, tree and ejection stay, as a callback runs that isn't dispatch, and as the policy is ejected
record IsCalmed (Q : WorldState → Type 0) : Type 0 where
  same : (w v : WorldState) → v.queues ≡ w.queues → v.tree ≡ w.tree → v.ejected ≡ w.ejected → Q w → Q v
  calm : (w v : WorldState) → IsCalm w v → Q w → Q v
  over : (w v : WorldState) → GoesOver w v → is_some v.ejected ≡ true → Q w → Q v

calmed_ready : (c : ℕ) → IsCalmed (IsReady c)
calmed_ready c = record { same = λ w v queues. ready_same c w v (same_here (local_on c) w.queues v.queues (ap (λ (s : QueueState). s.entries) queues)); calm = ready_calm c; over = λ w v gone out h. ready_over c w v gone out }

calmed_picked : (c t : ℕ) → IsCalmed (IsPicked c t)
calmed_picked c t = record { same = picked_same c t; calm = picked_calm c t; over = λ w v gone out h. picked_over c t w v gone out }

-- none of its callbacks is dispatch
not_dispatch : (b : Callback) → IsOfSwitch b → is_dispatch b ≡ false
not_dispatch _ Leaving = refl
not_dispatch _ Coming = refl

module _ (n : ℕ) (I : ℕ → Option ℕ → List (Option ℕ) → WorldState → Type 0) (k : IsKeptBySteps n I) (sound : (m : ℕ) (hand : Option ℕ) (on : List (Option ℕ)) (w : WorldState) → I m hand on w → IsSound hand on n w) where
  module _ (Q : WorldState → Type 0) (q : IsCalmed Q) (m : ℕ) (hand : Option ℕ) (on : List (Option ℕ)) where
    calmed_ejected_for : (o : Option Cause) (s : State) → I m hand on s.world → Q s.world → Q (ejected_for o s).state.world
    calmed_ejected_for None s h r = r
    calmed_ejected_for (Some x) s h r = q.over s.world (eject s _).state.world (goes_over n hand on s _ (sound m hand on s.world h)) (ap (λ o. is_some o) (eject_sets s _).1) r

    calmed_call_back : (s : State) (b : Callback) (a : Args) (t d : ℕ) → is_dispatch b ≡ false → d < length on → I m hand on s.world → Q s.world → Q (call_back s b a t d).state.world
    unfolding call_back
    calmed_call_back s b a t d calm l h r =
        let e = call_ending (acting s b) b a s.maps (at_callback s.world b t d) in
        calmed_ejected_for (cause_of b e) (after_callback s.policy e) (k.quiet m hand on e.outside (keeps_called n I k m hand on (acting s b) b a s.maps (at_callback s.world b t d) (k.begun m hand on s.world b t d l h)))
        (q.calm s.world (quiet e.outside) (calm_quiet s.world e.outside (calm_called (acting s b) b a s.maps s.world t d calm)) r)

    calmed_goes_off : (s : State) (d t x : ℕ) → d < length on → I m hand on (off_cpu s d t).world → Q s.world → Q (goes_off s d t x).state.world
    calmed_goes_off s d t x l h r = by_stop (λ (y : Stepped). Q y.state.world) off d t x each
      where
        off : State
        off = off_cpu s d t

        each : (y : Stepped) → IsSwitch off t d (after_charge off.world t) y → Q y.state.world
        each _ (Silent out) = q.same s.world (after_charge off.world t) refl refl refl r
        each _ (Called b a force is) = calmed_call_back off b a t d (not_dispatch b is) l h (q.same s.world off.world refl refl refl r)

  module _ (c : ℕ) where
    -- ---- by plain rules

    ready_comes_in : (m : ℕ) (on : List (Option ℕ)) (s : State) (t d : ℕ) → is_by_linux s ≡ false → d < length on → I m (Some t) on s.world → IsReady c s.world → IsReady c (comes_in s t d).state.world
    unfolding comes_in enters enters_builtin
    ready_comes_in m on s t d plain l h r = go (is_ejected s) refl
      where
        go : (b : Bool) → is_ejected s ≡ b → IsReady c (if b then enters_builtin s t else enters s t (enqueue_choice s.policy.callbacks.enqueue d s.world.call.insert)).state.world
        go true out = ready_put_builtin c s.world t r
        go false force =
            ready_entered c (Some t) on n s.world t (enqueue_choice s.policy.callbacks.enqueue d s.world.call.insert) (is_wanted (length on) s.world s.policy.callbacks.enqueue d s.world.call.insert l refl) plain (sound m (Some t) on s.world h) (not_out s force) r

    ready_put : (m : ℕ) (on : List (Option ℕ)) (s : State) (t d flags : ℕ) → is_by_linux s ≡ false → d < length on → I m (Some t) on s.world → IsReady c s.world → IsReady c (put s t d flags).state.world
    unfolding put
    ready_put m on s t d flags plain l h r =
        let x = call_back s callback.Enqueue (task_and_number t flags) t d in
        ready_comes_in m on x.state t d (plain_on s x (honest_call_back s callback.Enqueue (task_and_number t flags) t d (λ e. absurd (cc))) plain) l (keeps_call_back n I k m (Some t) on s callback.Enqueue (task_and_number t flags) t d l h) (calmed_call_back (IsReady c) (calmed_ready c) m (Some t) on s callback.Enqueue (task_and_number t flags) t d refl l h r)

    -- the task before leaves
    pub ready_leave : (m : ℕ) (on : List (Option ℕ)) (s : State) (d : ℕ) (p : Option ℕ) → LeavesPlainly p s → d < length on → IsKnown n p → get_or on d None ≡ p → I m None on s.world → IsReady c s.world → IsReady c (leave s d p).state.world
    unfolding leave
    ready_leave m on s d None plain l known runs h r = r
    ready_leave m on s d (Some t) plain l known runs h r =
        let l' : d < length (set on d None) = rw (length-set on d None) l in
        let away : I m (Some t) (set on d None) (off_cpu s d t).world = k.stopped m on s.world d t l known runs h in
        let x = goes_off s d t 1 in
        let still = plain_on s x (honest_goes_off s d t 1) plain in
        subst (λ (y : Stepped). IsReady c y.state.world) (sym (put_back_plain x.state d t still))
        (ready_put (m + 1) (set on d None) x.state t d 0 still l' (keeps_goes_off n I k m (Some t) (set on d None) s d t 1 l' away) (calmed_goes_off (IsReady c) (calmed_ready c) m (Some t) (set on d None) s d t 1 l' away r))

    -- ---- a task that was picked

    module _ (t : ℕ) where
      picked_comes_in : (m : ℕ) (on : List (Option ℕ)) (s : State) (u d : ℕ) → u < n → I m (Some u) on s.world → IsPicked c t s.world → IsPicked c t (comes_in s u d).state.world
      unfolding comes_in enters enters_builtin
      picked_comes_in m on s u d within h r = go (is_ejected s) refl
        where
          go : (b : Bool) → is_ejected s ≡ b → IsPicked c t (if b then enters_builtin s u else enters s u (enqueue_choice s.policy.callbacks.enqueue d s.world.call.insert)).state.world
          go true out = picked_put_builtin c t s.world u out r
          go false force = picked_entered c t on n s.world u (enqueue_choice s.policy.callbacks.enqueue d s.world.call.insert) within (sound m (Some u) on s.world h) (not_out s force) r

      picked_put : (m : ℕ) (on : List (Option ℕ)) (s : State) (u d flags : ℕ) → u < n → d < length on → I m (Some u) on s.world → IsPicked c t s.world → IsPicked c t (put s u d flags).state.world
      unfolding put
      picked_put m on s u d flags within l h r =
          let x = call_back s callback.Enqueue (task_and_number u flags) u d in
          picked_comes_in m on x.state u d within (keeps_call_back n I k m (Some u) on s callback.Enqueue (task_and_number u flags) u d l h) (calmed_call_back (IsPicked c t) (calmed_picked c t) m (Some u) on s callback.Enqueue (task_and_number u flags) u d refl l h r)

      -- a task that was stopped is put, or goes to the front
      picked_put_back : (m : ℕ) (on : List (Option ℕ)) (s : State) (d u : ℕ) → u < n → d < length on → I m (Some u) on s.world → IsPicked c t s.world → IsPicked c t (put_back s d u).state.world
      unfolding put_back enters
      picked_put_back m on s d u within l h r = go (is_by_linux s) refl
        where
          in_front : (b x : Bool) → is_by_linux s ≡ b → IsPicked c t (if b && x then enters s u (to_front d) else put s u d 0).state.world
          in_front true true e = picked_entered c t on n s.world u (to_front d) within (sound m (Some u) on s.world h) (linux_in_force s e) r
          in_front true false e = picked_put m on s u d 0 within l h r
          in_front false x e = picked_put m on s u d 0 within l h r

          go : (b : Bool) → is_by_linux s ≡ b → IsPicked c t (if b && not ((task_at s.world u).slice == 0) then enters s u (to_front d) else put s u d 0).state.world
          go b e = in_front b (not ((task_at s.world u).slice == 0)) e

      -- the task before leaves
      picked_leave : (m : ℕ) (on : List (Option ℕ)) (s : State) (d : ℕ) (p : Option ℕ) → d < length on → IsKnown n p → get_or on d None ≡ p → I m None on s.world → IsPicked c t s.world → IsPicked c t (leave s d p).state.world
      unfolding leave
      picked_leave m on s d None l known runs h r = r
      picked_leave m on s d (Some u) l known runs h r =
          let l' : d < length (set on d None) = rw (length-set on d None) l in
          let away : I m (Some u) (set on d None) (off_cpu s d u).world = k.stopped m on s.world d u l known runs h in
          picked_put_back (m + 1) (set on d None) (goes_off s d u 1).state d u known l' (keeps_goes_off n I k m (Some u) (set on d None) s d u 1 l' away) (calmed_goes_off (IsPicked c t) (calmed_picked c t) m (Some u) (set on d None) s d u 1 l' away r)

      -- and the policy has heard before that the processor isn't idle any more
      picked_tells_busy : (m : ℕ) (on : List (Option ℕ)) (s : State) (d : ℕ) (p : Option ℕ) (ran : Bool) → d < length on → I m None on s.world → IsPicked c t s.world → (I m None on (tells_busy s d p ran).state.world) × IsPicked c t (tells_busy s d p ran).state.world
      unfolding tells_busy tells_idle call_by_linux
      picked_tells_busy m on s d None false l h r =
          let a = two_numbers d 0 in
          keeps_if (λ (v : Stepped). I m None on v.state.world × IsPicked c t v.state.world) (is_by_linux s && is_some (program_of s.policy callback.UpdateIdle)) (call_back s callback.UpdateIdle a 0 d) (stays s)
          (keeps_call_back n I k m None on s callback.UpdateIdle a 0 d l h, calmed_call_back (IsPicked c t) (calmed_picked c t) m None on s callback.UpdateIdle a 0 d refl l h r) (h, r)
      picked_tells_busy m on s d None true l h r = (h, r)
      picked_tells_busy m on s d (Some u) ran l h r = (h, r)

      -- so that it may start
      pub picked_makes_way : (m : ℕ) (on : List (Option ℕ)) (s : State) (d : ℕ) (p : Option ℕ) (ran : Bool) → d < length on → IsKnown n p → get_or on d None ≡ p → I m None on s.world → IsPicked c t s.world → IsPicked c t (makes_way s d p ran).state.world
      unfolding makes_way
      picked_makes_way m on s d p ran l known runs h r = let x = picked_tells_busy m on s d p ran l h r in picked_leave m on (tells_busy s d p ran).state d p l known runs x.0 x.1
