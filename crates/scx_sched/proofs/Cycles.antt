-- What each small step of a world keeps, whole cycles keep. Before a front is started its queue is cleared, so that
-- nobody comes to run who may not.
use Rattle.std.proofs.Common.{◌≡◌, ℕ, zero, suc, ◌+◌, ◌==◌, ◌<◌, Bool, true, false, ◌&&◌, not, if◌then◌else◌, List, [], ◌∷◌, length, set, get_or, Option, Some, None, is_some, is_none, option_map, refl, sym, ap, ◌∙◌, subst, arith}
use Rattle.std.proofs.lemmas.Bool.{eq-eqb, and_parts}
use Rattle.std.proofs.lemmas.Bool.Decides.{nat_tests}
use Rattle.std.proofs.lemmas.List.{length-set, get_or-set_same}
use Rattle.scx_dsq.specs.Queues.{entry_of, is_in, front_of}
use Rattle.scx_dsq.specs.declared.entries.Entry.{Entry}
use Rattle.scx_isa_semantics.specs.declared.callbacks.Callback.TheVariants as callback
use Rattle.scx_weights.specs.Limits.{is_throttled}
use Rattle.scx_sched_world.specs.Ids.{parked_queue, local_on}
use Rattle.scx_sched_world.specs.World.{WorldState, task_at, out_of_cycle, running, note_now, may_run}
use Rattle.scx_sched_world.specs.declared.eject.Eject.{Eject}
use Rattle.scx_sched_world.specs.declared.notes.What.TheVariants.{Idle}
use Rattle.scx_sched_world.specs.Tasks.{local_len, to_front, started_at, after_run, after_keep, after_leave}
use Rattle.scx_sched_world.proofs.Fronts.{front_in}
use Rattle.scx_sched_machine.specs.Steps.{State, Stepped, one_after_other, stays, with_world, is_ejected, is_by_linux, kicked}
use Rattle.scx_sched_machine.specs.Callbacks.{call_back, call_by_linux, task_and_number, two_numbers}
use Rattle.scx_sched_machine.specs.Put.{enters, put}
use Rattle.scx_sched_machine.specs.Filling.{fill}
use Rattle.scx_sched_machine.specs.Parking.{park, park_next, clear, supply}
use Rattle.scx_sched_machine.specs.Cycle.{has_local, keeps_slice, supply_unless_kept, after_dispatch, asks_again, tries, switched, put_back, leave, started_if, start as run_front, kept, rest, swap, swap_or_rest, builtin_fill, builtin_ask, builtin_cycle, start_or_cycle, picked, refilled, is_local, start_picked, start_picked_or_cycle, give_up, pick, pick_or_rest, keep_or_pick, conclude, ask, seek, look, cycling, cycle, dispatch_called, hears_idle, tells_idle, tells_busy, makes_way, ends, falls_idle, notes_idle, idle_or_anew, becomes_idle, concluded}
use Rattle.scx_sched_machine.proofs.Choices.{keeps_if}
use Rattle.scx_sched.specs.Kept.{IsKeptBySteps, InFront}
use Rattle.scx_sched.specs.Once.{IsSound}
use Rattle.scx_sched.proofs.Clear.{IsClear, MayStart, IsPicked, tree_used_up, clear_of}
use Rattle.scx_sched.proofs.Firsts.{no_front_is_empty}
use Rattle.scx_sched.proofs.Stepwise.{Stays, KeepsSupply, goes_off, walk_tells_busy, walk_park_next, walk_supply, walk_dispatch_called, walk_dispatched, walk_tries, walk_builtin_fill}
use Rattle.scx_sched.proofs.Leaving.{LeavesPlainly, out_is_plain}
use Rattle.scx_sched.proofs.Blaming.{plain_on, honest_goes_off, honest_supply, honest_builtin_fill, way_plain, honest_makes_way}
use Rattle.scx_sched.proofs.Ready.{ready_leave, picked_makes_way, linux_in_force}
use Rattle.scx_sched.proofs.Supplying.{park_left, IsThrottledIn, supply_clears, builtin_clears}
use Rattle.scx_sched.proofs.Skeleton.{IsKnown, once_for, keeps_call_back, keeps_calls, keeps_goes_off, keeps_running_on, keeps_put, keeps_kicked, keeps_switched, keeps_call_by_linux}
use Rattle.scx_sched.proofs.Sound.{place_known}
use Rattle.scx_sched.specs.Allowed.{IsAllowedIn}
use Rattle.scx_sched.proofs.Placing.{may_as, may_put}

-- whoever keeps each small step knows where each task is
pub record IsKeptInside (n : ℕ) (I : ℕ → Option ℕ → List (Option ℕ) → WorldState → Type 0) : Type 0 where
  pub steps : IsKeptBySteps n I
  pub sound : (m : ℕ) (hand : Option ℕ) (on : List (Option ℕ)) (w : WorldState) → I m hand on w → IsSound hand on n w
  pub allowed : (m : ℕ) (hand : Option ℕ) (on : List (Option ℕ)) (w : WorldState) → I m hand on w → IsAllowedIn on n w

pub not_kept : (b d : Bool) → (not b && d) ≡ true → b ≡ false
not_kept true d e = absurd (cc)
not_kept false d e = refl

-- where the test says that a number isn't 0, it is greater
pub some_local : (k : ℕ) (b : Bool) → (k == 0) ≡ b → not b ≡ true → 0 < k
some_local k true x y = absurd (cc)
some_local k false x y = grind (arith, nat_tests, x)

-- where the test says that a number is 0, it is
pub no_local : (k : ℕ) (b : Bool) → (k == 0) ≡ b → not b ≡ false → k ≡ 0
no_local k true x y = grind (arith, nat_tests, x)
no_local k false x y = absurd (cc)

module _ (n : ℕ) (I : ℕ → Option ℕ → List (Option ℕ) → WorldState → Type 0) (k : IsKeptInside n I) where
  module _ (m : ℕ) (on : List (Option ℕ)) where
    -- the task at hand is parked
    pub keeps_park : (s : State) (t : ℕ) → t < n → is_throttled s.world.tree t ≡ true → I m (Some t) on s.world → I m None on (park s t).state.world
    unfolding park
    keeps_park s t within throttled h = k.steps.put_parked m on s.world t within throttled h

    -- a throttled task of another queue is parked
    pub keeps_park_left : (s : State) (q t : ℕ) → (q == parked_queue) ≡ false → IsThrottledIn s q t → I m None on s.world → I m None on (park_left s t).state.world
    keeps_park_left s q t apart x h =
        keeps_park (with_world s (after_leave s.world t)) t (omega (arith, (place_known s.world.queues q t x.there).0, (k.sound m None on s.world h).even)) (tree_used_up s.world t x.throttled) (k.steps.left m on s.world q t apart x.there h)

    -- a local queue that is filled
    pub keeps_fill : (s : State) (q c : ℕ) → (q == parked_queue) ≡ false → c < length on → I m None on s.world → I m None on (fill s q c).state.world
    unfolding fill
    keeps_fill s q c apart l h = k.steps.filled m on s.world q c apart l h

    -- so the supply of a local queue can be walked over
    supplied : (c : ℕ) → c < length on → KeepsSupply (Stays (I m None on)) c
    supplied c l = record {
      calls = keeps_calls n I k.steps m None on c l;
      filled = λ s q apart h. keeps_fill s q c apart l h;
      parked = keeps_park_left;
      moved = λ s b h. k.steps.moved m None on s.world b h;
    }

    -- throttled tasks of another queue are parked
    pub keeps_park_next : (j : ℕ) (s : State) (q c : ℕ) → (q == parked_queue) ≡ false → c < length on → I m None on s.world → I m None on (park_next j s q c).state.world
    keeps_park_next j s q c apart l h = walk_park_next (Stays (I m None on)) c (supplied c l) j s q apart h

    -- a local queue is supplied
    pub keeps_supply : (s : State) (c : ℕ) → c < length on → I m None on s.world → I m None on (supply s c).state.world
    keeps_supply s c l h = walk_supply (Stays (I m None on)) c (supplied c l) s h

    -- a call of dispatch
    pub keeps_dispatch_called : (s : State) (c : ℕ) (p : Option ℕ) → c < length on → I m None on s.world → I m None on (dispatch_called s c p).state.world
    keeps_dispatch_called s c p l h = walk_dispatch_called (Stays (I m None on)) c (supplied c l) s p h

    -- and the local queue supplied
    pub keeps_dispatched : (s : State) (c : ℕ) (p : Option ℕ) → c < length on → I m None on s.world → I m None on (after_dispatch s c p).state.world
    keeps_dispatched s c p l h = walk_dispatched (Stays (I m None on)) c (supplied c l) s p h

    -- after which the local queue is clear, unless the task before keeps the processor
    abbrev pub MayStartUnlessKept : ℕ → Option ℕ → State → Type 0
    MayStartUnlessKept c p s = keeps_slice s p ≡ false → MayStart c s.world

    dispatched_clears : (s : State) (c : ℕ) (p : Option ℕ) → MayStartUnlessKept c p (after_dispatch s c p).state
    unfolding after_dispatch supply_unless_kept
    dispatched_clears s c p = go (keeps_slice r p) refl
      where
        r : State
        r = (dispatch_called s c p).state

        go : (b : Bool) → keeps_slice r p ≡ b → MayStartUnlessKept c p (if b then stays r else supply r c).state
        go true stays-on left = let bad : true ≡ false = sym stays-on ∙ left in absurd (cc)
        go false off left = supply_clears r c

    -- several of them
    pub keeps_tries : (j : ℕ) (s : State) (c : ℕ) (p : Option ℕ) → c < length on → I m None on s.world → I m None on (tries j s c p).state.world
    keeps_tries j s c p l h = walk_tries (Stays (I m None on)) c (supplied c l) j s p h

    -- the dispatch of the built-in scheduler
    pub keeps_builtin_fill : (s : State) (c : ℕ) → c < length on → I m None on s.world → I m None on (builtin_fill s c).state.world
    keeps_builtin_fill s c l h = walk_builtin_fill (Stays (I m None on)) c (supplied c l) s h

    -- another try comes only where the task before doesn't keep the processor
    tries_go : (j c : ℕ) (p : Option ℕ) (d : Stepped) (b : Bool) → asks_again d.state c p ≡ b → MayStartUnlessKept c p d.state → (MayStart c d.state.world → MayStartUnlessKept c p (tries j d.state c p).state) → MayStartUnlessKept c p (if b then one_after_other d (tries j d.state c p) else d).state
    tries_go j c p d true e x more = more (x (not_kept (keeps_slice d.state p) _ e))
    tries_go j c p d false e x more = x

    pub tries_clear : (j : ℕ) (s : State) (c : ℕ) (p : Option ℕ) → MayStart c s.world → MayStartUnlessKept c p (tries j s c p).state
    unfolding tries
    tries_clear zero s c p clear-now = λ left. clear-now
    tries_clear (suc j) s c p clear-now =
        let d = after_dispatch s c p in
        let x = dispatched_clears s c p in
        tries_go j c p d (asks_again d.state c p) refl x (tries_clear j d.state c p)

  -- a front that may start, where each task is where it should be
  pub clear_now : (m : ℕ) (on : List (Option ℕ)) (s : State) (c : ℕ) → I m None on s.world → MayStart c s.world → IsClear c s.world
  clear_now m on s c h may = clear_of None on n c s.world (k.sound m None on s.world h) may

  -- a task runs on that processor, which is there
  abbrev pub Some-on : ℕ → ℕ → WorldState → Type 0
  Some-on c m w = (on : List (Option ℕ)) × (c < length on) × I m None on w

  keeps_start : (m : ℕ) (on : List (Option ℕ)) (s : State) (c : ℕ) → c < length on → get_or on c None ≡ None → IsClear c s.world → I m None on s.world → Some-on c m (run_front s c).state.world
  unfolding run_front
  keeps_start m on s c l free clear-now h = go (front_of s.world.queues (local_on c)) refl
    where
      go : (o : Option ℕ) → front_of s.world.queues (local_on c) ≡ o → Some-on c m (started_if o s c).state.world
      go None e = (on, l, h)
      go (Some t) e =
          let l' : c < length (set on c (Some t)) = rw (length-set on c (Some t)) l in
          let v = with_world s (started_at (Some t) s.world c) in
          (set on c (Some t), l', keeps_running_on n I k.steps m None (set on c (Some t)) (switched v t) c t l' (keeps_switched n I k.steps m None (set on c (Some t)) v t (k.steps.started m on s.world c t l free e (clear-now t e) h)))

  keeps_rest : (m : ℕ) (on : List (Option ℕ)) (s : State) (c : ℕ) (p : Option ℕ) (ran : Bool) → c < length on → I m None on s.world → Some-on c (once_for p m) (rest s c p ran).state.world
  unfolding rest
  keeps_rest m on s c None ran l h = (on, l, h)
  keeps_rest m on s c (Some t) ran l h = (on, l, k.steps.more m None on _ (keeps_switched n I k.steps m None on (with_world s (after_keep s.world (Some t))) t (k.steps.kept m on s.world t h)))

  -- a task is put for a processor on which it may run
  pub keeps_put_at : (m : ℕ) (on : List (Option ℕ)) (s : State) (t c flags : ℕ) → t < n → c < length on → may_run s.world t c ≡ true → I m (Some t) on s.world → I m None on (put s t c flags).state.world
  keeps_put_at m on s t c flags within l may h =
      let r = (call_back s callback.Enqueue (task_and_number t flags) t c).state in
      keeps_put n I k.steps m on s t c flags within l (may_put on n s t c flags may (k.allowed m (Some t) on r.world (keeps_call_back n I k.steps m (Some t) on s callback.Enqueue (task_and_number t flags) t c l h))) h

  -- a task that was stopped is put, or goes to the front
  keeps_put_back : (m : ℕ) (on : List (Option ℕ)) (s : State) (c t : ℕ) → t < n → c < length on → may_run s.world t c ≡ true → I m (Some t) on s.world → I m None on (put_back s c t).state.world
  unfolding put_back enters
  keeps_put_back m on s c t within l may h = go (is_by_linux s) (not ((task_at s.world t).slice == 0)) refl
    where
      go : (b x : Bool) → is_by_linux s ≡ b → I m None on (if b && x then enters s t (to_front c) else put s t c 0).state.world
      go true true e = k.steps.entered m on s.world t (to_front c) within (InFront c l e refl) (λ d v e. let same : c ≡ d = omega (arith, e) in subst (λ x. may_run s.world t x ≡ true) same may) h
      go true false e = keeps_put_at m on s t c 0 within l may h
      go false x e = keeps_put_at m on s t c 0 within l may h

  abbrev pub Left : ℕ → ℕ → WorldState → Type 0
  Left m c w = (on : List (Option ℕ)) × I m None on w × (c < length on) × (get_or on c None ≡ None)

  -- a task that leaves its processor
  pub keeps_leave : (m : ℕ) (on : List (Option ℕ)) (s : State) (c : ℕ) (p : Option ℕ) → c < length on → IsKnown n p → get_or on c None ≡ p → I m None on s.world → Left (once_for p m) c (leave s c p).state.world
  unfolding leave
  keeps_leave m on s c None l known runs h = (on, h, l, runs)
  keeps_leave m on s c (Some t) l known runs h =
      let l' : c < length (set on c None) = rw (length-set on c None) l in
      let r = goes_off s c t 1 in
      let still = honest_goes_off s c t 1 in
      let may = may_as s.world r.state.world still.rules (ap (λ y. y.masks) still.tree) t c ((k.allowed m None on s.world h).runs c t runs) in
      let x : I (m + 1) (Some t) (set on c None) r.state.world = keeps_goes_off n I k.steps m (Some t) (set on c None) s c t 1 l' (k.steps.stopped m on s.world c t l known runs h) in
      (set on c None, keeps_put_back (m + 1) (set on c None) r.state c t known l' may x, l', get_or-set_same on c None None l)

  -- and leaves the front of the local queue, or nobody in it
  pub ready_left : (m : ℕ) (on : List (Option ℕ)) (s : State) (c : ℕ) (p : Option ℕ) → LeavesPlainly p s → c < length on → IsKnown n p → get_or on c None ≡ p → has_local s c ≡ true → IsClear c s.world → I m None on s.world → IsClear c (leave s c p).state.world
  ready_left m on s c p plain l known runs some clear-now h =
      (ready_leave n I k.steps k.sound c m on s c p plain l known runs h (record { clear = clear-now; some = λ force. some_local (local_len s.world c) (local_len s.world c == 0) refl some })).clear

  -- ---- the built-in scheduler

  keeps_swap : (m : ℕ) (on : List (Option ℕ)) (s : State) (c : ℕ) (p : Option ℕ) → LeavesPlainly p s → c < length on → IsKnown n p → get_or on c None ≡ p → has_local s c ≡ true → IsClear c s.world → I m None on s.world → Some-on c (once_for p m) (swap s c p).state.world
  unfolding swap
  keeps_swap m on s c p plain l known runs some clear-now h = let x = keeps_leave m on s c p l known runs h in keeps_start (once_for p m) x.0 (leave s c p).state c x.2 x.3 (ready_left m on s c p plain l known runs some clear-now h) x.1

  keeps_swap_or_rest : (m : ℕ) (on : List (Option ℕ)) (s : State) (c : ℕ) (p : Option ℕ) (ran : Bool) → LeavesPlainly p s → c < length on → IsKnown n p → get_or on c None ≡ p → IsClear c s.world → I m None on s.world → Some-on c (once_for p m) (swap_or_rest s c p ran).state.world
  unfolding swap_or_rest
  keeps_swap_or_rest m on s c p ran plain l known runs clear-now h = go (has_local s c) refl
    where
      go : (b : Bool) → has_local s c ≡ b → Some-on c (once_for p m) (if b then swap s c p else rest s c p ran).state.world
      go true some = keeps_swap m on s c p plain l known runs some clear-now h
      go false none = keeps_rest m on s c p ran l h

  pub keeps_builtin_cycle : (m : ℕ) (on : List (Option ℕ)) (s : State) (c : ℕ) (p : Option ℕ) (ran : Bool) → LeavesPlainly p s → c < length on → IsKnown n p → get_or on c None ≡ p → I m None on s.world → Some-on c (once_for p m) (builtin_cycle s c p ran).state.world
  unfolding builtin_cycle builtin_ask
  keeps_builtin_cycle m on s c p ran plain l known runs h =
      let f = supply s c in
      let x = keeps_builtin_fill m on f.state c l (keeps_supply m on s c l h) in
      let b = (builtin_fill f.state c).state in
      keeps_swap_or_rest m on b c p ran (still p plain) l known runs (clear_now m on b c x (builtin_clears f.state c (supply_clears s c))) x
    where
      still : (q : Option ℕ) → LeavesPlainly q s → LeavesPlainly q (builtin_fill (supply s c).state c).state
      still None e = tt
      still (Some t) e = plain_on (supply s c).state (builtin_fill (supply s c).state c) (honest_builtin_fill (supply s c).state c) (plain_on s (supply s c) (honest_supply s c) e)

  -- where the policy is out of force
  pub keeps_out : (m : ℕ) (on : List (Option ℕ)) (s : State) (c : ℕ) (p : Option ℕ) (ran : Bool) → is_ejected s ≡ true → c < length on → IsKnown n p → get_or on c None ≡ p → I m None on s.world → Some-on c (once_for p m) (builtin_cycle s c p ran).state.world
  keeps_out m on s c p ran out l known runs h = keeps_builtin_cycle m on s c p ran (plainly p) l known runs h
    where
      plainly : (q : Option ℕ) → LeavesPlainly q s
      plainly None = tt
      plainly (Some t) = out_is_plain s out

  -- ---- the policy

  keeps_start_or_cycle : (m : ℕ) (on : List (Option ℕ)) (s : State) (c : ℕ) (ran : Bool) → c < length on → get_or on c None ≡ None → IsClear c s.world → I m None on s.world → Some-on c m (start_or_cycle s c ran).state.world
  unfolding start_or_cycle
  keeps_start_or_cycle m on s c ran l free clear-now h =
      keeps_if (λ (r : Stepped). Some-on c m r.state.world) (has_local s c) (run_front s c) (builtin_cycle s c None ran) (keeps_start m on s c l free clear-now h) (keeps_builtin_cycle m on s c None ran tt l tt free h)

  -- a task that is picked gets a slice
  pub keeps_refilled : (m : ℕ) (on : List (Option ℕ)) (s : State) (o : Option ℕ) → I m None on s.world → I m None on (refilled s o).world
  keeps_refilled m on s None h = h
  keeps_refilled m on s (Some t) h = k.steps.kept m on s.world t h

  -- it runs, from wherever it waits in the local queue
  keeps_start_picked : (m : ℕ) (on : List (Option ℕ)) (s : State) (c t : ℕ) → c < length on → get_or on c None ≡ None → is_local s c t ≡ true → is_throttled s.world.tree t ≡ false → I m None on s.world → Some-on c m (start_picked s c t).state.world
  unfolding start_picked
  keeps_start_picked m on s c t l free here may h =
      let l' : c < length (set on c (Some t)) = rw (length-set on c (Some t)) l in
      let v = with_world s (after_run s.world c t) in
      (set on c (Some t), l', keeps_running_on n I k.steps m None (set on c (Some t)) (switched v t) c t l' (keeps_switched n I k.steps m None (set on c (Some t)) v t (k.steps.ran m on s.world c t l free here may h)))

  keeps_start_picked_or_cycle : (m : ℕ) (on : List (Option ℕ)) (s : State) (c t : ℕ) (ran : Bool) → c < length on → get_or on c None ≡ None → IsPicked c t s.world → is_throttled s.world.tree t ≡ false → I m None on s.world → Some-on c m (start_picked_or_cycle (Some t) s c ran).state.world
  keeps_start_picked_or_cycle m on s c t ran l free x may h = go (is_local s c t) refl
    where
      clear-left : is_local s c t ≡ false → (o : Option Eject) → s.world.ejected ≡ o → IsClear c s.world
      clear-left gone None force = let bad : true ≡ false = sym (x.there force) ∙ gone in absurd (cc)
      clear-left gone (Some y) out = x.none (ap (λ (o : Option Eject). is_some o) out)

      go : (b : Bool) → is_local s c t ≡ b → Some-on c m (if b then start_picked s c t else start_or_cycle s c ran).state.world
      go true here = keeps_start_picked m on s c t l free here may h
      go false gone = keeps_start_or_cycle m on s c ran l free (clear-left gone s.world.ejected refl) h

  -- who is at the front of a queue is in it
  front_there : (s : State) (c t : ℕ) → front_of s.world.queues (local_on c) ≡ Some t → is_in (local_on c) (entry_of s.world.queues t) ≡ true
  front_there s c t e = go (entry_of s.world.queues t) (front_in s.world.queues (local_on c) t e)
    where
      same : (a b : ℕ) → Some a ≡ Some b → a ≡ b
      same a b x = cc

      go : (o : Option Entry) → option_map (λ (q : Entry). q.queue) o ≡ Some (local_on c) → is_in (local_on c) o ≡ true
      go None x = absurd (cc)
      go (Some q) x = eq-eqb q.queue (local_on c) (same q.queue (local_on c) x)

  -- the task before leaves, once the policy has heard that the processor isn't idle any more
  keeps_makes_way : (m : ℕ) (on : List (Option ℕ)) (s : State) (c : ℕ) (p : Option ℕ) (ran : Bool) → c < length on → IsKnown n p → get_or on c None ≡ p → I m None on s.world → Left (once_for p m) c (makes_way s c p ran).state.world
  unfolding makes_way
  keeps_makes_way m on s c p ran l known runs h = keeps_leave m on (tells_busy s c p ran).state c p l known runs (walk_tells_busy (Stays (I m None on)) c (keeps_calls n I k.steps m None on c l) s p ran h)

  keeps_pick : (m : ℕ) (on : List (Option ℕ)) (s : State) (c : ℕ) (p : Option ℕ) (ran : Bool) → c < length on → IsKnown n p → get_or on c None ≡ p → has_local s c ≡ true → IsClear c s.world → I m None on s.world → Some-on c (once_for p m) (pick s c p ran).state.world
  unfolding pick picked
  keeps_pick m on s c p ran l known runs some clear-now h = go (is_by_linux s) refl
    where
      after_leaving : Option ℕ → Stepped
      after_leaving o = makes_way (refilled s o) c p ran

      plainly : is_by_linux s ≡ false → (q : Option ℕ) → LeavesPlainly q (refilled s None)
      plainly e None = tt
      plainly e (Some t) = e

      by_front : (o : Option ℕ) → front_of s.world.queues (local_on c) ≡ o → is_by_linux s ≡ true → Some-on c (once_for p m) (start_picked_or_cycle o (after_leaving o).state c ran).state.world
      by_front None e linux = absurd (omega (arith, no_front_is_empty s.world.queues (local_on c) e, some_local (local_len s.world c) (local_len s.world c == 0) refl some))
      by_front (Some t) e linux =
          let v = refilled s (Some t) in
          let y = keeps_refilled m on s (Some t) h in
          let x = keeps_makes_way m on v c p ran l known runs y in
          let none : is_some v.world.ejected ≡ true → IsClear c v.world = λ out. let bad : true ≡ false = sym out ∙ ap (λ (o : Option Eject). is_some o) (linux_in_force s linux) in absurd (cc) in
          let z = picked_makes_way n I k.steps k.sound c t m on v c p ran l known runs y (record { there = λ force. front_there s c t e; none = none }) in
          keeps_start_picked_or_cycle (once_for p m) x.0 (makes_way v c p ran).state c t ran x.2 x.3 z (ap (λ tree. is_throttled tree t) (honest_makes_way v c p ran).tree ∙ clear-now t e) x.1

      go : (b : Bool) → is_by_linux s ≡ b → Some-on c (once_for p m) (start_picked_or_cycle (if b then front_of s.world.queues (local_on c) else None) (after_leaving (if b then front_of s.world.queues (local_on c) else None)).state c ran).state.world
      go true linux = by_front (front_of s.world.queues (local_on c)) refl linux
      go false plain =
          let v = refilled s None in
          let x = keeps_leave m on v c p l known runs h in
          subst (λ (r : State). Some-on c (once_for p m) (start_or_cycle r c ran).state.world) (sym (way_plain v c p ran plain)) (keeps_start_or_cycle (once_for p m) x.0 (leave v c p).state c ran x.2 x.3 (ready_left m on v c p (plainly plain p) l known runs some clear-now h) x.1)

  keeps_pick_or_rest : (m : ℕ) (on : List (Option ℕ)) (s : State) (c : ℕ) (p : Option ℕ) (ran : Bool) → c < length on → IsKnown n p → get_or on c None ≡ p → IsClear c s.world → I m None on s.world → Some-on c (once_for p m) (pick_or_rest s c p ran).state.world
  unfolding pick_or_rest
  keeps_pick_or_rest m on s c p ran l known runs clear-now h = go (has_local s c) refl
    where
      go : (b : Bool) → has_local s c ≡ b → Some-on c (once_for p m) (if b then pick s c p ran else rest s c p ran).state.world
      go true some = keeps_pick m on s c p ran l known runs some clear-now h
      go false none = keeps_rest m on s c p ran l h

  -- who keeps the processor stays
  keeps_keep_or_pick : (m : ℕ) (on : List (Option ℕ)) (s : State) (c : ℕ) (p : Option ℕ) (ran : Bool) → c < length on → IsKnown n p → get_or on c None ≡ p → MayStartUnlessKept m on c p s → I m None on s.world → Some-on c (once_for p m) (keep_or_pick s c p ran).state.world
  unfolding keep_or_pick
  keeps_keep_or_pick m on s c p ran l known runs may h = go (keeps_slice s p) refl
    where
      go : (b : Bool) → keeps_slice s p ≡ b → Some-on c (once_for p m) (if b then stays (kept s p) else pick_or_rest s c p ran).state.world
      go true keeps = (on, l, stays_on p)
        where
          stays_on : (p : Option ℕ) → I (once_for p m) None on (kept s p).world
          stays_on None = h
          stays_on (Some t) = k.steps.more m None on _ (keeps_switched n I k.steps m None on s t h)
      go false off = keeps_pick_or_rest m on s c p ran l known runs (clear_now m on s c h (may off)) h

  keeps_conclude : (m : ℕ) (on : List (Option ℕ)) (s : State) (c : ℕ) (p : Option ℕ) (ran : Bool) → c < length on → IsKnown n p → get_or on c None ≡ p → MayStartUnlessKept m on c p s → I m None on s.world → Some-on c (once_for p m) (conclude s c p ran).state.world
  unfolding conclude
  keeps_conclude m on s c p ran l known runs may h = go (is_ejected s) refl
    where
      go : (b : Bool) → is_ejected s ≡ b → Some-on c (once_for p m) (if b then builtin_cycle s c p ran else keep_or_pick s c p ran).state.world
      go true out = keeps_out m on s c p ran out l known runs h
      go false force = keeps_keep_or_pick m on s c p ran l known runs may h

  keeps_ask : (m : ℕ) (on : List (Option ℕ)) (s : State) (c : ℕ) (p : Option ℕ) (ran : Bool) → c < length on → IsKnown n p → get_or on c None ≡ p → MayStart c s.world → I m None on s.world → Some-on c (once_for p m) (ask s c p ran).state.world
  unfolding ask give_up
  keeps_ask m on s c p ran l known runs may h =
      let x = keeps_tries m on 32 s c p l h in
      let d = (tries 32 s c p).state in
      let v = given_up d (tries_clear m on 32 s c p may) x in
      keeps_conclude m on (give_up d c p) c p ran l known runs v.1 v.0
    where
      given_up : (d : State) → MayStartUnlessKept m on c p d → I m None on d.world → I m None on (give_up d c p).world × MayStartUnlessKept m on c p (give_up d c p)
      given_up d clear x = keeps_if (λ (r : State). I m None on r.world × MayStartUnlessKept m on c p r) (is_by_linux d && asks_again d c p) (kicked d c) d (keeps_kicked n I k.steps m None on d c x, kicked_clear p clear) (x, clear)
        where
          kicked_clear : (q : Option ℕ) → MayStartUnlessKept m on c q d → MayStartUnlessKept m on c q (kicked d c)
          kicked_clear None y = y
          kicked_clear (Some t) y = y

  keeps_seek : (m : ℕ) (on : List (Option ℕ)) (s : State) (c : ℕ) (p : Option ℕ) (ran : Bool) → c < length on → IsKnown n p → get_or on c None ≡ p → I m None on s.world → Some-on c (once_for p m) (seek s c p ran).state.world
  unfolding seek
  keeps_seek m on s c p ran l known runs h = go (has_local f c) refl
    where
      f : State
      f = (supply s c).state

      x : I m None on f.world
      x = keeps_supply m on s c l h

      go : (b : Bool) → has_local f c ≡ b → Some-on c (once_for p m) (if b then pick f c p ran else ask f c p ran).state.world
      go true some = keeps_pick m on f c p ran l known runs some (clear_now m on f c x (supply_clears s c)) x
      go false none = keeps_ask m on f c p ran l known runs (supply_clears s c) x

  -- ---- whichever is in force

  keeps_look : (m : ℕ) (on : List (Option ℕ)) (s : State) (c : ℕ) (p : Option ℕ) (ran : Bool) → c < length on → IsKnown n p → get_or on c None ≡ p → I m None on s.world → Some-on c (once_for p m) (look s c p ran).state.world
  unfolding look
  keeps_look m on s c p ran l known runs h = go (is_ejected s) refl
    where
      go : (b : Bool) → is_ejected s ≡ b → Some-on c (once_for p m) (if b then builtin_cycle s c p ran else seek s c p ran).state.world
      go true out = keeps_out m on s c p ran out l known runs h
      go false force = keeps_seek m on s c p ran l known runs h

  -- ---- a processor that falls idle

  -- once the policy has heard of it
  keeps_idle_or_anew : (m : ℕ) (on : List (Option ℕ)) (s : State) (c : ℕ) → c < length on → get_or on c None ≡ None → I m None on s.world → (on : List (Option ℕ)) × I m None on (idle_or_anew s c).state.world
  unfolding idle_or_anew notes_idle
  keeps_idle_or_anew m on s c l free h =
      let v = cycling s (Some c) in
      let x = keeps_builtin_cycle m on v c None true tt l tt free (k.steps.cycling m None on s.world (Some c) h) in
      keeps_if (λ (r : Stepped). (on : List (Option ℕ)) × I m None on r.state.world) (is_ejected s) (ends (builtin_cycle v c None true)) (record { state = cycling s None; notes = note_now s.world (Idle c) ∷ []; calls = [] })
      (x.0, k.steps.cycling m None x.0 (builtin_cycle v c None true).state.world None x.2) (on, k.steps.cycling m None on s.world None h)

  keeps_becomes_idle : (m : ℕ) (on : List (Option ℕ)) (s : State) (c : ℕ) → c < length on → get_or on c None ≡ None → I m None on s.world → (on : List (Option ℕ)) × I m None on (becomes_idle s c).state.world
  unfolding becomes_idle tells_idle
  keeps_becomes_idle m on s c l free h =
      let v = with_world s (out_of_cycle s.world) in
      let r = call_by_linux v callback.UpdateIdle (two_numbers c 1) 0 c in
      keeps_idle_or_anew m on r.state c l free (keeps_call_by_linux n I k.steps m None on v callback.UpdateIdle (two_numbers c 1) 0 c l (k.steps.ended m None on s.world h))

  -- no task runs on a processor that falls idle
  nobody_runs : (s : State) (c : ℕ) (ran : Bool) → falls_idle s c ran ≡ true → running s.world c ≡ None
  unfolding falls_idle
  nobody_runs s c ran e = go (running s.world c) (and_parts (hears_idle s) _ (and_parts ran _ e).1).1
    where
      go : (o : Option ℕ) → is_none o ≡ true → o ≡ None
      go None x = refl
      go (Some t) x = absurd (cc)

  keeps_concluded : (m : ℕ) (on : List (Option ℕ)) (s : State) (c : ℕ) (ran : Bool) → c < length on → I m None on s.world → (on : List (Option ℕ)) × I m None on (concluded s c ran).state.world
  unfolding concluded
  keeps_concluded m on s c ran l h = go (falls_idle s c ran) refl
    where
      go : (b : Bool) → falls_idle s c ran ≡ b → (on : List (Option ℕ)) × I m None on (if b then becomes_idle s c else stays (cycling s None)).state.world
      go true e = keeps_becomes_idle m on s c l (subst (λ (xs : List (Option ℕ)). get_or xs c None ≡ None) (k.sound m None on s.world h).cpus (nobody_runs s c ran e)) h
      go false e = (on, k.steps.cycling m None on s.world None h)

  -- a whole cycle
  pub keeps_cycle : (m : ℕ) (on : List (Option ℕ)) (s : State) (c : ℕ) (p : Option ℕ) (ran : Bool) → c < length on → IsKnown n p → get_or on c None ≡ p → I m None on s.world → (on : List (Option ℕ)) × I (once_for p m) None on (cycle s c p ran).state.world
  unfolding cycle
  keeps_cycle m on s c p ran l known runs h =
      let x = keeps_look m on (cycling s (Some c)) c p ran l known runs (k.steps.cycling m None on s.world (Some c) h) in
      keeps_concluded (once_for p m) x.0 (look (cycling s (Some c)) c p ran).state c ran x.1 x.2
