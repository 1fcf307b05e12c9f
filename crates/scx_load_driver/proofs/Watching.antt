-- A driver that watches whoever may have run enough gives all events of a workload: a task that has run enough was
-- watched as it ran so far.
use Rattle.std.proofs.Common.{◌≡◌, ℕ, zero, suc, ◌+◌, ◌-◌, ◌*◌, ◌<◌, ◌≤◌, ◌⊎◌, inl, inr, Bool, true, false, not, ◌&&◌, nat_lt, nat_le, ◌==◌, is_none, if◌then◌else◌, List, [], ◌∷◌, ◌++◌, length, set, get_or, map, replicate, Option, Some, None, refl, sym, ap, ◌∙◌, subst, arith}
use Rattle.std.proofs.lemmas.Bool.{cases_eq, cases_lt, eq-eqb, ne_eqb}
use Rattle.std.proofs.lemmas.Bool.Decides.{nat_tests}
use Rattle.std.proofs.lemmas.List.{length-map, length-set, length-replicate, get_or-replicate, get_or-set_same, get_or-set_other, set_past}
use Rattle.scx_weights.specs.Hierarchy.{Hierarchy, is_active_task, with_weight}
use Rattle.scx_weights.specs.Hierarchy as tree
use Rattle.scx_weights.specs.Refusals.{weight_fault}
use Rattle.scx_sched_world.specs.World.{WorldState, with_tree, task_at, is_runnable, running, is_this}
use Rattle.scx_sched_world.specs.Tasks.{tick_ns}
use Rattle.scx_sched_machine.specs.declared.events.Event.{Event}
use Rattle.scx_sched_machine.specs.declared.events.Event.TheVariants.{Wake, Sleep, Tick, Clock, SetWeight, SetTaskWeight}
use Rattle.scx_sched_machine.specs.declared.events.Event.TheVariants as event
use Rattle.scx_sched_machine.specs.declared.events.Refused.{Refused}
use Rattle.scx_sched_machine.specs.Steps.{State}
use Rattle.scx_sched_machine.specs.Events as machine
use Rattle.scx_sched_machine.proofs.Choices.{keeps_if}
use Rattle.scx_sched.specs.Sim.{SimState, refusal, after_event, stepped_if}
use Rattle.scx_sched.proofs.Deciding.{accepted}
use Rattle.scx_sched.proofs.Events.{IsTaken, Wakes, Sleeps, Ticks, Clocks, Weighs, WeighsTask, is_taken}
use Rattle.scx_load_workloads.specs.declared.workload.Weighed.{Weighed}
use Rattle.scx_load_workloads.specs.declared.workload.Weighed.TheVariants as which
use Rattle.scx_load_workloads.specs.declared.workload.Timing.{Timing}
use Rattle.scx_load_workloads.specs.declared.workload.Change.{Change}
use Rattle.scx_load_workloads.specs.Workload.{WorkloadState, timing_at, change_at}
use Rattle.scx_load_driver.specs.Runs.{stepped_all}
use Rattle.scx_load_driver.specs.Blocks as block
use Rattle.scx_load_driver.specs.Blocks.{Plan, Memory, Block, weighing, change_event, is_due, has_run_enough, may_sleep, goes_to_sleep, block_events, memory_after, events_below, is_at, ran_after}
use Rattle.scx_load_driver.specs.Watch.{is_watched, last_ticks_of, watched_if, watched_at_tick, watched_after, watched_after_all, is_seen, is_seen_off, block_seen, memory_seen, watched_in, events_seen}
use Rattle.scx_load_driver.specs.Events.{blocks_from, events_from, plan_of, first_memory, workload_events}
use Rattle.scx_load_driver.specs.Driver.{remaining}
use Rattle.scx_load_driver.proofs.Below.{events_alike, sets_alike, kept_out, set_here, length_set_below}
use Rattle.scx_load_driver.proofs.LastTicks.{last_at, lacking}
use Rattle.scx_load_driver.proofs.Accepting.{stepped_behind}
use Rattle.scx_load_driver.proofs.Alike.{IsLike, times_of, like_rounds}
use Rattle.scx_load_driver.proofs.Happening.{like_clock, like_tick, like_wake, like_sleep, own_weighed_active, like_weighed_task, others_stay}

-- ---- lists

-- nobody is watched less
pub watched_more : (last : List ℕ) (w : WorldState) (t u : ℕ) (xs : List Bool) → is_watched xs u ≡ true → is_watched (watched_if last w t xs) u ≡ true
watched_more last w t u xs h = go (nat_le (get_or last t 0) (task_at w t).run_ns) (cases_eq u t) (cases_lt t (length xs))
  where
    go : (b : Bool) → (u ≡ t) ⊎ (u ≡ t → ⊥) → (t < length xs) ⊎ (length xs ≤ t) → get_or (if b then set xs t true else xs) u false ≡ true
    go false e l = h
    go true (inl e) (inl within) = rw (e, get_or-set_same xs t true false within) refl
    go true (inl e) (inr past) = rw (set_past xs t true past) h
    go true (inr d) l = rw (get_or-set_other xs t u true false d) h

-- whoever has run for so long is watched
pub watched_here : (last : List ℕ) (w : WorldState) (t : ℕ) (xs : List Bool) → t < length xs → nat_le (get_or last t 0) (task_at w t).run_ns ≡ true → is_watched (watched_if last w t xs) t ≡ true
watched_here last w t xs l e = rw (e, get_or-set_same xs t true false l) refl

length_if : (last : List ℕ) (w : WorldState) (t : ℕ) (xs : List Bool) → length (watched_if last w t xs) ≡ length xs
length_if last w t xs = keeps_if (λ (ys : List Bool). length ys ≡ length xs) (nat_le (get_or last t 0) (task_at w t).run_ns) (set xs t true) xs (length-set xs t true) refl

-- ---- who has run enough

-- the task is runnable, and has run for so long
record Enough (timings : List Timing) (ran : List ℕ) (w : WorldState) (t : ℕ) : Type 0 where
  pub runs : is_runnable w t ≡ true
  pub some : 0 < (timing_at timings t).run
  pub long : tick_ns * (timing_at timings t).run ≤ (task_at w t).run_ns - get_or ran t 0

enough : (timings : List Timing) (ran : List ℕ) (w : WorldState) (t : ℕ) → has_run_enough timings ran w t ≡ true → Enough timings ran w t
enough timings ran w t e = go (is_runnable w t) (nat_lt 0 (timing_at timings t).run) (nat_le (tick_ns * (timing_at timings t).run) ((task_at w t).run_ns - get_or ran t 0)) refl refl refl e
  where
    go : (a b c : Bool) → is_runnable w t ≡ a → nat_lt 0 (timing_at timings t).run ≡ b → nat_le (tick_ns * (timing_at timings t).run) ((task_at w t).run_ns - get_or ran t 0) ≡ c → (a && (b && c)) ≡ true → Enough timings ran w t
    go true true true x y z e = record { runs = x; some = grind (arith, nat_tests, y); long = grind (arith, nat_tests, z) }
    go true true false x y z e = absurd (cc)
    go true false c x y z e = absurd (cc)
    go false b c x y z e = absurd (cc)

has_enough : (timings : List Timing) (ran : List ℕ) (w : WorldState) (t : ℕ) → Enough timings ran w t → has_run_enough timings ran w t ≡ true
has_enough timings ran w t h =
    let some : nat_lt 0 (timing_at timings t).run ≡ true = grind (arith, nat_tests, h.some) in
    let long : nat_le (tick_ns * (timing_at timings t).run) ((task_at w t).run_ns - get_or ran t 0) ≡ true = grind (arith, nat_tests, h.long) in
    rw (h.runs, some, long) refl

-- ---- who wakes

-- a task that wakes hasn't run since it was remembered how long
abbrev pub IsFresh : List ℕ → WorldState → Event → Type 0
IsFresh ran w (Wake t) = (task_at w t).run_ns ≤ get_or ran t 0
IsFresh ran w e = Unit {0}

weighing_is_fresh : (ran : List ℕ) (w : WorldState) (k : Weighed) (x : ℕ) → IsFresh ran w (weighing k x)
weighing_is_fresh ran w (which.Group g) x = tt
weighing_is_fresh ran w (which.Task t) x = tt

-- so of all events, each as its turn comes
abbrev pub AreFresh : List ℕ → SimState → List Event → Type 0
AreFresh ran s [] = Unit {0}
AreFresh ran s (e ∷ es) = IsFresh ran s.state.world e × AreFresh ran (after_event s e) es

module _ (ran : List ℕ) where
  fresh_behind : (xs ys : List Event) (s : SimState) → AreFresh ran s xs → AreFresh ran (stepped_all s xs) ys → AreFresh ran s (xs ++ ys)
  fresh_behind [] ys s a b = b
  fresh_behind (x ∷ xs) ys s a b = (a.0, fresh_behind xs ys (after_event s x) a.1 b)

  -- events by which nobody wakes
  fresh_others : (n : ℕ) (test : ℕ → Bool) (event : ℕ → Event) (s : SimState) → ((k : ℕ) (w : WorldState) → IsFresh ran w (event k)) → AreFresh ran s (events_below n test event)
  fresh_others zero test event s h = tt
  fresh_others (suc n) test event s h = go (test n) (fresh_others n test event s h)
    where
      xs : List Event
      xs = events_below n test event

      go : (b : Bool) → AreFresh ran s xs → AreFresh ran s (xs ++ (if b then event n ∷ [] else []))
      go true before = fresh_behind xs (event n ∷ []) s before (h n (stepped_all s xs).state.world, tt)
      go false before = fresh_behind xs [] s before tt

  -- nobody runs as another task wakes
  woken_since : (s : SimState) (t u : ℕ) → (task_at (after_event s (Wake t)).state.world u).run_ns ≤ (task_at s.state.world u).run_ns
  woken_since s t u = go (refusal s (Wake t))
    where
      n : ℕ
      n = length s.state.world.tasks

      c : ℕ
      c = length s.state.world.cpus

      go : (o : Option Refused) → (task_at (stepped_if o s (Wake t)).state.world u).run_ns ≤ (task_at s.state.world u).run_ns
      go None = (like_wake s.state.world.tree (times_of n s.state.world) c s.state t ((refl, refl, refl, refl, refl), (refl, λ u. omega arith), refl)).1.1 u
      go (Some r) = omega arith

  -- tasks of which it was just remembered
  fresh_wakes : (n : ℕ) (test : ℕ → Bool) (s : SimState) → ((k : ℕ) → k < n → test k ≡ true → (task_at s.state.world k).run_ns ≤ get_or ran k 0)
      → AreFresh ran s (events_below n test Wake) × ((u : ℕ) → (task_at (stepped_all s (events_below n test Wake)).state.world u).run_ns ≤ (task_at s.state.world u).run_ns)
  fresh_wakes zero test s h = (tt, λ u. omega arith)
  fresh_wakes (suc n) test s h = go (test n) refl (fresh_wakes n test s (λ k l. h k (omega (arith, l))))
    where
      xs : List Event
      xs = events_below n test Wake

      v : SimState
      v = stepped_all s xs

      go : (b : Bool) → test n ≡ b → AreFresh ran s xs × ((u : ℕ) → (task_at v.state.world u).run_ns ≤ (task_at s.state.world u).run_ns)
          → AreFresh ran s (xs ++ (if b then Wake n ∷ [] else [])) × ((u : ℕ) → (task_at (stepped_all s (xs ++ (if b then Wake n ∷ [] else []))).state.world u).run_ns ≤ (task_at s.state.world u).run_ns)
      go true e before =
          let here : (task_at v.state.world n).run_ns ≤ get_or ran n 0 = omega (arith, before.1 n, h n (omega arith) e) in
          (fresh_behind xs (Wake n ∷ []) s before.0 (here, tt), λ u. rw (stepped_behind xs (Wake n ∷ []) s) (omega (arith, before.1 u, woken_since v n u)))
      go false e before = (fresh_behind xs [] s before.0 tt, λ u. rw (stepped_behind xs [] s) (before.1 u))

module _ (timings : List Timing) (ran : List ℕ) where
  abbrev last : List ℕ
  last = last_ticks_of timings ran

  -- whoever has run enough is watched
  pub record AreAllWatched (xs : List Bool) (w : WorldState) : Type 0 where
    pub many : length xs ≡ length timings
    pub all : (t : ℕ) → t < length timings → has_run_enough timings ran w t ≡ true → is_watched xs t ≡ true

  -- whoever is runnable and has run for so long was, and had
  earlier : (w v : WorldState) (t : ℕ) → (is_runnable v t ≡ true → is_runnable w t ≡ true) → (task_at v t).run_ns ≤ (task_at w t).run_ns → Enough timings ran v t → Enough timings ran w t
  earlier w v t runs grown h = record { runs = runs h.runs; some = h.some; long = omega (arith, h.long, grown) }

  -- nobody is more likely to have run enough
  quietly : (xs : List Bool) (w v : WorldState) → ((t : ℕ) → is_runnable v t ≡ true → is_runnable w t ≡ true) → ((t : ℕ) → (task_at v t).run_ns ≤ (task_at w t).run_ns) → AreAllWatched xs w → AreAllWatched xs v
  quietly xs w v runs grown h = record {
    many = h.many;
    all = λ t l e. h.all t l (has_enough timings ran w t (earlier w v t (runs t) (grown t) (enough timings ran v t e)));
  }

  -- ---- an event

  -- a task that wakes
  woken : (xs : List Bool) (w v : WorldState) (t : ℕ) → ((u : ℕ) → (u ≡ t → ⊥) → is_runnable v u ≡ is_runnable w u) → ((u : ℕ) → (task_at v u).run_ns ≤ (task_at w u).run_ns) → (task_at w t).run_ns ≤ get_or ran t 0 → AreAllWatched xs w → AreAllWatched xs v
  woken xs w v t runs grown fresh h = record { many = h.many; all = λ u l e. go u l (enough timings ran v u e) (cases_eq u t) }
    where
      go : (u : ℕ) → u < length timings → Enough timings ran v u → (u ≡ t) ⊎ (u ≡ t → ⊥) → is_watched xs u ≡ true
      go u l x (inl e) =
          let here : (task_at w u).run_ns ≤ get_or ran u 0 = subst (λ k. (task_at w k).run_ns ≤ get_or ran k 0) (sym e) fresh in
          absurd (omega (arith, x.some, x.long, grown u, here))
      go u l x (inr d) = h.all u l (has_enough timings ran w u (earlier w v u (λ y. sym (runs u d) ∙ y) (grown u) x))

  -- a processor that ticks
  ticked : (xs : List Bool) (w v : WorldState) (o : Option ℕ) → ((u : ℕ) → is_runnable v u ≡ is_runnable w u) → ((u : ℕ) → (task_at v u).run_ns ≤ (task_at w u).run_ns + (if is_this u o then tick_ns else 0)) → AreAllWatched xs w → AreAllWatched (watched_at_tick last w o xs) v
  ticked xs w v None runs grown h = quietly xs w v (λ t y. sym (runs t) ∙ y) (λ t. omega (arith, grown t)) h
  ticked xs w v (Some t) runs grown h = record { many = length_if last w t xs ∙ h.many; all = λ u l e. go u l (enough timings ran v u e) (cases_eq u t) (grown u) }
    where
      go : (u : ℕ) → u < length timings → Enough timings ran v u → (u ≡ t) ⊎ (u ≡ t → ⊥) → (task_at v u).run_ns ≤ (task_at w u).run_ns + (if u == t then tick_ns else 0) → is_watched (watched_if last w t xs) u ≡ true
      go u l x (inl e) more =
          let one : (task_at v u).run_ns ≤ (task_at w u).run_ns + tick_ns = subst (λ b. (task_at v u).run_ns ≤ (task_at w u).run_ns + (if b then tick_ns else 0)) (eq-eqb u t e) more in
          let lacks : nat_le (get_or last u 0) (task_at w u).run_ns ≡ true = ap (λ k. nat_le k (task_at w u).run_ns) (last_at timings ran u l) ∙ lacking (timing_at timings u).run (get_or ran u 0) (task_at w u).run_ns (task_at v u).run_ns x.some x.long one in
          subst (λ k. is_watched (watched_if last w t xs) k ≡ true) (sym e)
          (watched_here last w t xs (omega (arith, l, e, h.many)) (subst (λ k. nat_le (get_or last k 0) (task_at w k).run_ns ≡ true) e lacks))
      go u l x (inr d) more =
          let none : (task_at v u).run_ns ≤ (task_at w u).run_ns + 0 = subst (λ b. (task_at v u).run_ns ≤ (task_at w u).run_ns + (if b then tick_ns else 0)) (ne_eqb u t d) more in
          watched_more last w t u xs (h.all u l (has_enough timings ran w u (earlier w v u (λ y. sym (runs u) ∙ y) (omega (arith, none)) x)))

  -- an event that is refused changes nothing
  unmoved : (xs : List Bool) (w : WorldState) (v : Event) → AreAllWatched xs w → AreAllWatched (watched_after last w v xs) w
  unmoved xs w (Wake t) h = h
  unmoved xs w (Tick c) h = go (running w c)
    where
      go : (o : Option ℕ) → AreAllWatched (watched_at_tick last w o xs) w
      go None = h
      go (Some t) = record { many = length_if last w t xs ∙ h.many; all = λ u l e. watched_more last w t u xs (h.all u l e) }
  unmoved xs w (Sleep t) h = h
  unmoved xs w Clock h = h
  unmoved xs w (SetWeight g x) h = h
  unmoved xs w (SetTaskWeight t x) h = h

  -- a task that is runnable though another went to sleep was so before
  slept : (h : Hierarchy) (t u : ℕ) → is_active_task (tree.with_task h t false) u ≡ true → is_active_task h u ≡ true
  slept h t u e = go (cases_eq u t) (cases_lt t (length h.active))
    where
      go : (u ≡ t) ⊎ (u ≡ t → ⊥) → (t < length h.active) ⊎ (length h.active ≤ t) → is_active_task h u ≡ true
      go (inl same) (inl within) =
          let off : get_or (set h.active t false) u false ≡ false = rw (same, get_or-set_same h.active t false false within) refl in
          absurd (cc)
      go (inl same) (inr past) = ap (λ xs. get_or xs u false) (sym (set_past h.active t false past)) ∙ e
      go (inr d) l = sym (others_stay h t u false d) ∙ e

  -- one that is accepted
  moved : (xs : List Bool) (s : State) (v : Event) → IsTaken s v → IsFresh ran s.world v → AreAllWatched xs s.world → AreAllWatched (watched_after last s.world v xs) (machine.event_step s v).state.world
  moved xs s v taken fresh h = go v taken fresh
    where
      n : ℕ
      n = length s.world.tasks

      c : ℕ
      c = length s.world.cpus

      like : IsLike s.world.tree (times_of n s.world) c s.world
      like = ((refl, refl, refl, refl, refl), (refl, λ u. omega arith), refl)

      runs : (h : Hierarchy) (w : WorldState) → w.tree.active ≡ h.active → (u : ℕ) → is_runnable w u ≡ is_active_task h u
      runs h w e u = ap (λ ys. get_or ys u false) e

      go : (v : Event) → IsTaken s v → IsFresh ran s.world v → AreAllWatched (watched_after last s.world v xs) (machine.event_step s v).state.world
      go _ (Wakes t within resting) still =
          let after = (machine.event_step s (Wake t)).state.world in
          let x = like_wake s.world.tree (times_of n s.world) c s t like in
          woken xs s.world after t (λ u d. runs (tree.with_task s.world.tree t true) after x.0.2 u ∙ others_stay s.world.tree t u true d) (λ u. x.1.1 u) still h
      go _ (Sleeps t within runnable) still =
          let after = (machine.event_step s (Sleep t)).state.world in
          let x = like_sleep s.world.tree (times_of n s.world) c s t within like in
          quietly xs s.world after (λ u y. slept s.world.tree t u (sym (runs (tree.with_task s.world.tree t false) after x.0.2 u) ∙ y)) (λ u. x.1.1 u) h
      go _ (Ticks d l) still =
          let after = (machine.event_step s (Tick d)).state.world in
          let x = like_tick s.world.tree (times_of n s.world) c s d like in
          ticked xs s.world after (running s.world d) (λ u. runs s.world.tree after x.0.2 u) (λ u. x.1.1 u) h
      go _ Clocks still =
          let after = (machine.event_step s Clock).state.world in
          let x = like_clock s.world.tree (times_of n s.world) c s like in
          quietly xs s.world after (λ u y. sym (runs s.world.tree after x.0.2 u) ∙ y) (λ u. x.1.1 u) h
      go _ (Weighs g k) still =
          let own = machine.own_step s (SetWeight g k) in
          let after = (machine.event_step s (SetWeight g k)).state.world in
          let b = is_none (weight_fault s.world.tree g k) in
          let v = with_tree s.world (with_weight s.world.tree g k) in
          let alike : IsLike own.state.world.tree (times_of n s.world) c own.state.world = keeps_if (λ (w : WorldState). IsLike w.tree (times_of n s.world) c w) b v s.world ((refl, refl, refl, refl, refl), (refl, λ u. omega arith), refl) ((refl, refl, refl, refl, refl), (refl, λ u. omega arith), refl) in
          let as_active : own.state.world.tree.active ≡ s.world.tree.active = keeps_if (λ (w : WorldState). w.tree.active ≡ s.world.tree.active) b v s.world refl refl in
          let x = like_rounds own.state.world.tree (times_of n s.world) c own alike in
          quietly xs s.world after (λ u y. sym (runs s.world.tree after (x.0.2 ∙ as_active) u) ∙ y) (λ u. x.1.1 u) h
      go _ (WeighsTask t k within) still =
          let after = (machine.event_step s (SetTaskWeight t k)).state.world in
          let x = like_weighed_task s.world.tree (times_of n s.world) c s t k like in
          quietly xs s.world after (λ u y. sym (runs s.world.tree after (x.0.2 ∙ own_weighed_active s.world.tree t k) u) ∙ y) (λ u. x.1.1 u) h

  -- each event keeps it
  watching : (xs : List Bool) (s : SimState) (v : Event) → IsFresh ran s.state.world v → AreAllWatched xs s.state.world → AreAllWatched (watched_after last s.state.world v xs) (after_event s v).state.world
  watching xs s v fresh h = go (refusal s v) refl
    where
      go : (o : Option Refused) → refusal s v ≡ o → AreAllWatched (watched_after last s.state.world v xs) (stepped_if o s v).state.world
      go None e = moved xs s.state v (is_taken s.state v (accepted s v e).taken) fresh h
      go (Some r) e = unmoved xs s.state.world v h

  -- and so does a list of events
  watching_all : (es : List Event) (xs : List Bool) (s : SimState) → AreFresh ran s es → AreAllWatched xs s.state.world → AreAllWatched (watched_after_all last s es xs) (stepped_all s es).state.world
  watching_all [] xs s fresh h = h
  watching_all (e ∷ es) xs s fresh h = watching_all es (watched_after last s.state.world e xs) (after_event s e) fresh.1 (watching xs s e fresh.0 h)

-- ---- a block

-- whoever has run enough is seen
all_seen : (timings : List Timing) (ran : List ℕ) (xs : List Bool) (w : WorldState) (t : ℕ) → (has_run_enough timings ran w t ≡ true → is_watched xs t ≡ true) → is_seen timings ran xs w t ≡ has_run_enough timings ran w t
all_seen timings ran xs w t h = go (has_run_enough timings ran w t) (is_watched xs t) h
  where
    go : (a b : Bool) → (a ≡ true → b ≡ true) → (b && a) ≡ a
    go true true h = refl
    go true false h = absurd (let x = h refl in cc)
    go false true h = refl
    go false false h = refl

module _ (p : Plan) (k : Memory) (xs : List Bool) (w : WorldState) (h : AreAllWatched p.timings k.ran xs w) where
  seen : (t : ℕ) → t < length p.timings → is_seen p.timings k.ran xs w t ≡ has_run_enough p.timings k.ran w t
  seen t l = all_seen p.timings k.ran xs w t (h.all t l)

  seen_off : (t : ℕ) → t < length p.timings → is_seen_off p.timings k.ran xs w t ≡ goes_to_sleep p.timings k.ran w t
  seen_off t l = ap (λ b. b && may_sleep w t) (seen t l)

  same_events : (b : Block) → block_seen p b k xs w ≡ block_events p b k w
  same_events (block.Changes m) = refl
  same_events (block.Wakes m) = refl
  same_events block.Ticks = refl
  same_events (block.Sleeps m) = events_alike (length p.timings) (is_seen_off p.timings k.ran xs w) (goes_to_sleep p.timings k.ran w) event.Sleep seen_off
  same_events block.Clock = refl

  same_memory : (b : Block) → memory_seen p b k xs w ≡ memory_after p b k w
  same_memory (block.Changes m) = refl
  same_memory (block.Wakes m) = refl
  same_memory block.Ticks = refl
  same_memory (block.Sleeps m) = ap (λ due. record { due = due; ran = k.ran }) (sets_alike (length p.timings) (is_seen_off p.timings k.ran xs w) (goes_to_sleep p.timings k.ran w) (λ t. m + 1 + (timing_at p.timings t).sleep) k.due seen_off)
  same_memory block.Clock = refl

  -- a task that wakes isn't runnable yet
  wakes_begun : (m : ℕ) → AreAllWatched p.timings (memory_seen p (block.Wakes m) k xs w).ran xs w
  wakes_begun m = record { many = h.many; all = λ t l e. go t l (enough p.timings later w t e) (is_due k.due m w t) refl }
    where
      later : List ℕ
      later = (memory_seen p (block.Wakes m) k xs w).ran

      go : (t : ℕ) → t < length p.timings → Enough p.timings later w t → (b : Bool) → is_due k.due m w t ≡ b → is_watched xs t ≡ true
      go t l x true e = let off : is_due k.due m w t ≡ false = rw (x.runs) refl in absurd (cc)
      go t l x false e =
          let same : get_or later t 0 ≡ get_or k.ran t 0 = kept_out (length k.due) t (is_due k.due m w) (λ u. (task_at w u).run_ns) k.ran 0 e in
          h.all t l (has_enough p.timings k.ran w t (record { runs = x.runs; some = x.some; long = omega (arith, x.long, same) }))

  -- whoever has run enough is watched still
  sleeps_begun : AreAllWatched p.timings k.ran (watched_in p (block.Sleeps 0) k xs w) w
  sleeps_begun = record {
    many = length_set_below (length p.timings) (λ t. not (is_seen p.timings k.ran xs w t)) (λ t. false) xs ∙ h.many;
    all = λ t l e.
        let sees : is_seen p.timings k.ran xs w t ≡ true = seen t l ∙ e in
        kept_out (length p.timings) t (λ u. not (is_seen p.timings k.ran xs w u)) (λ u. false) xs false (ap not sees) ∙ h.all t l e;
  }

  begun : (b : Block) → AreAllWatched p.timings (memory_seen p b k xs w).ran (watched_in p b k xs w) w
  begun (block.Changes m) = h
  begun (block.Wakes m) = wakes_begun m
  begun block.Ticks = h
  begun (block.Sleeps m) = sleeps_begun
  begun block.Clock = h

-- ---- all blocks

-- as a block begins it was remembered how long each has run that wakes in it
fresh_block : (p : Plan) (k : Memory) (xs : List Bool) (s : SimState) (b : Block) → length k.due ≤ length k.ran → AreFresh (memory_seen p b k xs s.state.world).ran s (block_seen p b k xs s.state.world)
fresh_block p k xs s (block.Changes m) l = fresh_others k.ran (length p.changes) (is_at p.changes m) (λ i. change_event (change_at p.changes i)) s (λ i w. weighing_is_fresh k.ran w (change_at p.changes i).weighed (change_at p.changes i).weight)
fresh_block p k xs s (block.Wakes m) l = (fresh_wakes later (length k.due) (is_due k.due m w) s (λ t within e. known t within e)).0
  where
    w : WorldState
    w = s.state.world

    later : List ℕ
    later = ran_after k.due k.ran m w

    known : (t : ℕ) → t < length k.due → is_due k.due m w t ≡ true → (task_at w t).run_ns ≤ get_or later t 0
    known t within e =
        let here : get_or later t 0 ≡ (task_at w t).run_ns = set_here (length k.due) t (is_due k.due m w) (λ u. (task_at w u).run_ns) k.ran 0 within (omega (arith, within, l)) e in
        omega (arith, here)
fresh_block p k xs s block.Ticks l = fresh_others k.ran p.cpus (λ c. true) Tick s (λ i w. tt)
fresh_block p k xs s (block.Sleeps m) l = fresh_others k.ran (length p.timings) (is_seen_off p.timings k.ran xs s.state.world) Sleep s (λ i w. tt)
fresh_block p k xs s block.Clock l = (tt, tt)

-- as many tasks are remembered
kept_lengths : (p : Plan) (k : Memory) (xs : List Bool) (w : WorldState) (b : Block) → length k.due ≤ length k.ran → length (memory_seen p b k xs w).due ≤ length (memory_seen p b k xs w).ran
kept_lengths p k xs w (block.Changes m) l = l
kept_lengths p k xs w (block.Wakes m) l = omega (arith, l, length_set_below (length k.due) (is_due k.due m w) (λ t. (task_at w t).run_ns) k.ran)
kept_lengths p k xs w block.Ticks l = l
kept_lengths p k xs w (block.Sleeps m) l = omega (arith, l, length_set_below (length p.timings) (is_seen_off p.timings k.ran xs w) (λ t. m + 1 + (timing_at p.timings t).sleep) k.due)
kept_lengths p k xs w block.Clock l = l

-- the driver sees all events of these blocks
sees_all : (p : Plan) (bs : List Block) (k : Memory) (xs : List Bool) (s : SimState) → length k.due ≤ length k.ran → AreAllWatched p.timings k.ran xs s.state.world → events_seen p bs k xs s ≡ events_from p bs k s
sees_all p [] k xs s l h = refl
sees_all p (b ∷ bs) k xs s l h =
    let w = s.state.world in
    let es = block_seen p b k xs w in
    let after = memory_seen p b k xs w in
    let still = watched_in p b k xs w in
    let seen = watched_after_all (last_ticks_of p.timings after.ran) s es still in
    let later = sees_all p bs after seen (stepped_all s es) (kept_lengths p k xs w b l) (watching_all p.timings after.ran es still s (fresh_block p k xs s b l) (begun p k xs w h b)) in
    ap (λ fs. es ++ fs) later
    ∙ ap (λ m. es ++ events_from p bs m (stepped_all s es)) (same_memory p k xs w h b)
    ∙ ap (λ fs. fs ++ events_from p bs (memory_after p b k w) (stepped_all s fs)) (same_events p k xs w h b)

-- at first all are watched
pub first_remain : (w : WorkloadState) (s : SimState) (cpus : ℕ) (timings : List Timing) (changes : List Change) (pending : List Event) (left : ℕ) (due ran : List ℕ) (watched : List Bool)
    → cpus ≡ w.cpus → timings ≡ w.timings → changes ≡ w.changes → left ≡ w.ms → due ≡ map (λ (t : Timing). t.start) w.timings → ran ≡ replicate (length w.timings) 0 → watched ≡ replicate (length w.timings) true → pending ≡ []
    → remaining (record { plan = record { cpus = cpus; timings = timings; changes = changes }; pending = pending; blocks = blocks_from left 0; memory = record { due = due; ran = ran }; watched = watched }) s ≡ workload_events w s
first_remain w s cpus timings changes pending left due ran watched e f g h i j k l =
    rw (e, f, g, h, i, j, k, l)
    (sees_all (plan_of w) (blocks_from w.ms 0) (first_memory w.timings) (replicate (length w.timings) true) s
    (omega (arith, length-map w.timings (λ (t : Timing). t.start), length-replicate {A = ℕ} (length w.timings) 0))
    (record { many = length-replicate (length w.timings) true; all = λ t l e. get_or-replicate (length w.timings) t true false l }))
