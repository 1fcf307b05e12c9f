-- No event of a block is refused.
use Rattle.std.proofs.Common.{◌≡◌, ℕ, zero, suc, ◌+◌, ◌<◌, ◌≤◌, Bool, true, false, nat_lt, if◌then◌else◌, List, [], ◌∷◌, ◌++◌, length, get_or, None, is_none, refl, ◌∙◌, ap, subst, arith}
use Rattle.std.proofs.lemmas.Bool.{lt-ltb, ne_eqb}
use Rattle.std.proofs.lemmas.Bool.Decides.{nat_tests}
use Rattle.std.proofs.lemmas.List.{length-set}
use Rattle.scx_weights.specs.Hierarchy.{Hierarchy, with_weight}
use Rattle.scx_weights.specs.Hierarchy as tree
use Rattle.scx_weights.specs.Refusals.{max_weight, is_outside, weight_fault}
use Rattle.scx_sched_world.specs.World.{is_runnable, running}
use Rattle.scx_sched_machine.specs.declared.events.Event.{Event}
use Rattle.scx_sched_machine.specs.declared.events.Event.TheVariants.{Wake, Sleep, Tick, Clock, SetWeight, SetTaskWeight}
use Rattle.scx_sched_machine.specs.Events as machine
use Rattle.scx_sched.specs.Sim.{SimState, max_events, refusal, after_event, stepped_if}
use Rattle.scx_load_driver.specs.Runs.{stepped_all, AreAccepted}
use Rattle.scx_load_workloads.specs.declared.workload.Weighed.{Weighed}
use Rattle.scx_load_workloads.specs.declared.workload.Weighed.TheVariants as which
use Rattle.scx_load_workloads.specs.Workload.{IsWeighed}
use Rattle.scx_load_driver.specs.Blocks.{events_below, weighing}
use Rattle.scx_load_driver.proofs.Alike.{Times, IsLike, times_of, like_groups, like_active, like_rounds}
use Rattle.scx_load_driver.proofs.Happening.{like_clock, times_after_tick, like_tick, like_wake, like_sleep, own_weighed, own_weighed_groups, like_weighed_task, others_stay}

-- ---- lists, one behind another

-- two lists of events, one behind the other
pub stepped_behind : (xs ys : List Event) (s : SimState) → stepped_all s (xs ++ ys) ≡ stepped_all (stepped_all s xs) ys
stepped_behind [] ys s = refl
stepped_behind (x ∷ xs) ys s = stepped_behind xs ys (after_event s x)

-- are accepted where each is
pub accepted_behind : (xs ys : List Event) (s : SimState) → AreAccepted s xs → AreAccepted (stepped_all s xs) ys → AreAccepted s (xs ++ ys)
accepted_behind [] ys s a b = b
accepted_behind (x ∷ xs) ys s a b = (a.0, accepted_behind xs ys (after_event s x) a.1 b)

-- ---- what holds between two events

-- a machine of so many tasks, processors and groups, which accepted at most so many events
pub record IsOf (n c g e : ℕ) (s : SimState) : Type 0 where
  pub tasks : length s.state.world.tasks ≡ n
  pub cpus : length s.state.world.cpus ≡ c
  pub groups : length s.state.world.tree.groups ≡ g
  pub events : s.events ≤ e

-- an event that is accepted leads on
pub record Goes (v : Event) (s : SimState) : Type 0 where
  pub accepted : refusal s v ≡ None
  pub state : (after_event s v).state ≡ (machine.event_step s.state v).state
  pub events : (after_event s v).events ≡ s.events + 1

goes : (v : Event) (s : SimState) → s.events < max_events → machine.refusal s.state v ≡ None → Goes v s
goes v s l e = rec ok
  where
    ok : refusal s v ≡ None
    ok = rw (ne_eqb s.events max_events (λ x. absurd (omega (arith, l, x)))) e

    rec : refusal s v ≡ None → Goes v s
    rec x = record {
      accepted = x;
      state = ap (λ o. (stepped_if o s v).state) x;
      events = ap (λ o. (stepped_if o s v).events) x;
    }

module _ (n c g e : ℕ) where
  -- a tree with as many groups
  is_of : (h : Hierarchy) (m : Times) (v : Event) (s : SimState) → m.many ≡ n → length h.groups ≡ g → Goes v s → IsLike h m c (machine.event_step s.state v).state.world → s.events ≤ e → IsOf n c g (e + 1) (after_event s v)
  is_of h m v s many groups go i l = record {
    tasks = ap (λ x. length x.world.tasks) go.state ∙ i.1.0 ∙ many;
    cpus = ap (λ x. length x.world.cpus) go.state ∙ i.2;
    groups = ap (λ x. length x.world.tree.groups) go.state ∙ ap (λ gs. length gs) (like_groups h m c (machine.event_step s.state v).state.world i) ∙ groups;
    events = omega (arith, go.events, l);
  }

  -- the machine is of as many, and these tasks are runnable as before
  abbrev pub Leads : Event → SimState → (ℕ → Type 0) → Type 0
  Leads v s P =
      (refusal s v ≡ None) × IsOf n c g (e + 1) (after_event s v) × ((u : ℕ) → P u → is_runnable (after_event s v).state.world u ≡ is_runnable s.state.world u)

  abbrev times : SimState → Times
  times s = times_of n s.state.world

  like_now : (s : SimState) → IsOf n c g e s → IsLike s.state.world.tree (times s) c s.state.world
  like_now s h = ((refl, refl, refl, refl, refl), (h.tasks, λ u. omega arith), h.cpus)

  -- a task that sleeps may wake
  pub wake_leads : (s : SimState) (t : ℕ) → e < max_events → t < n → is_runnable s.state.world t ≡ false → IsOf n c g e s → Leads (Wake t) s (λ u. u ≡ t → ⊥)
  wake_leads s t few l sleeps h = (x.accepted, is_of (tree.with_task s.state.world.tree t true) (times s) (Wake t) s refl h.groups x i h.events, same)
    where
      x : Goes (Wake t) s
      x = goes (Wake t) s (omega (arith, few, h.events)) (rw (lt-ltb t (length s.state.world.tasks) (omega (arith, l, h.tasks)), sleeps) refl)

      i : IsLike (tree.with_task s.state.world.tree t true) (times s) c (machine.event_step s.state (Wake t)).state.world
      i = like_wake s.state.world.tree (times s) c s.state t (like_now s h)

      same : (u : ℕ) → (u ≡ t → ⊥) → is_runnable (after_event s (Wake t)).state.world u ≡ is_runnable s.state.world u
      same u d = ap (λ y. is_runnable y.world u) x.state ∙ ap (λ xs. get_or xs u false) (like_active (tree.with_task s.state.world.tree t true) (times s) c (machine.event_step s.state (Wake t)).state.world i) ∙ others_stay s.state.world.tree t u true d

  -- a task that is runnable may sleep
  pub sleep_leads : (s : SimState) (t : ℕ) → e < max_events → t < n → is_runnable s.state.world t ≡ true → IsOf n c g e s → Leads (Sleep t) s (λ u. u ≡ t → ⊥)
  sleep_leads s t few l runs h = (x.accepted, is_of (tree.with_task s.state.world.tree t false) (times s) (Sleep t) s refl h.groups x i h.events, same)
    where
      x : Goes (Sleep t) s
      x = goes (Sleep t) s (omega (arith, few, h.events)) (rw (lt-ltb t (length s.state.world.tasks) (omega (arith, l, h.tasks)), runs) refl)

      i : IsLike (tree.with_task s.state.world.tree t false) (times s) c (machine.event_step s.state (Sleep t)).state.world
      i = like_sleep s.state.world.tree (times s) c s.state t l (like_now s h)

      same : (u : ℕ) → (u ≡ t → ⊥) → is_runnable (after_event s (Sleep t)).state.world u ≡ is_runnable s.state.world u
      same u d = ap (λ y. is_runnable y.world u) x.state ∙ ap (λ xs. get_or xs u false) (like_active (tree.with_task s.state.world.tree t false) (times s) c (machine.event_step s.state (Sleep t)).state.world i) ∙ others_stay s.state.world.tree t u false d

  -- a processor may tick
  pub tick_leads : (s : SimState) (d : ℕ) → e < max_events → d < c → IsOf n c g e s → (refusal s (Tick d) ≡ None) × IsOf n c g (e + 1) (after_event s (Tick d))
  tick_leads s d few l h = (x.accepted, is_of s.state.world.tree (times_after_tick (running s.state.world d) (times s)) (Tick d) s refl h.groups x (like_tick s.state.world.tree (times s) c s.state d (like_now s h)) h.events)
    where
      x : Goes (Tick d) s
      x = goes (Tick d) s (omega (arith, few, h.events)) (rw (lt-ltb d (length s.state.world.cpus) (omega (arith, l, h.cpus))) refl)

  -- the clock may go on
  pub clock_leads : (s : SimState) → e < max_events → IsOf n c g e s → (refusal s Clock ≡ None) × IsOf n c g (e + 1) (after_event s Clock)
  clock_leads s few h =
      let x : Goes Clock s = goes Clock s (omega (arith, few, h.events)) refl in
      (x.accepted, is_of s.state.world.tree (times s) Clock s refl h.groups x (like_clock s.state.world.tree (times s) c s.state (like_now s h)) h.events)

  -- a group may get a weight
  pub weight_leads : (s : SimState) (k y : ℕ) → e < max_events → k < g → 1 ≤ y → y ≤ 10000 → IsOf n c g e s → (refusal s (SetWeight k y) ≡ None) × IsOf n c g (e + 1) (after_event s (SetWeight k y))
  weight_leads s k y few l least greatest h = (x.accepted, go (is_none (weight_fault s.state.world.tree k y)) refl)
    where
      right : is_outside max_weight y ≡ false
      right = rw (not_lt y 1 least, not_lt 10000 y greatest) refl
        where
          not_lt : (a b : ℕ) → b ≤ a → nat_lt a b ≡ false
          not_lt a b l = grind (arith, nat_tests, l)

      x : Goes (SetWeight k y) s
      x = goes (SetWeight k y) s (omega (arith, few, h.events)) (rw (lt-ltb k (length s.state.world.tree.groups) (omega (arith, l, h.groups)), right) refl)

      go : (b : Bool) → is_none (weight_fault s.state.world.tree k y) ≡ b → IsOf n c g (e + 1) (after_event s (SetWeight k y))
      go true w =
          let tree = with_weight s.state.world.tree k y in
          let own : IsLike tree (times s) c (machine.own_step s.state (SetWeight k y)).state.world = rw w ((refl, refl, refl, refl, refl), (h.tasks, λ u. omega arith), h.cpus) in
          is_of tree (times s) (SetWeight k y) s refl (length-set s.state.world.tree.groups k _ ∙ h.groups) x (like_rounds tree (times s) c (machine.own_step s.state (SetWeight k y)) own) h.events
      go false w =
          let tree = s.state.world.tree in
          let own : IsLike tree (times s) c (machine.own_step s.state (SetWeight k y)).state.world = rw w ((refl, refl, refl, refl, refl), (h.tasks, λ u. omega arith), h.cpus) in
          is_of tree (times s) (SetWeight k y) s refl h.groups x (like_rounds tree (times s) c (machine.own_step s.state (SetWeight k y)) own) h.events

  -- a task may get a weight of its own
  pub own_weight_leads : (s : SimState) (t y : ℕ) → e < max_events → t < n → 1 ≤ y → y ≤ 10000 → IsOf n c g e s → (refusal s (SetTaskWeight t y) ≡ None) × IsOf n c g (e + 1) (after_event s (SetTaskWeight t y))
  own_weight_leads s t y few l least greatest h =
      (x.accepted, is_of (own_weighed s.state.world.tree t y) (times s) (SetTaskWeight t y) s refl (ap (λ gs. length gs) (own_weighed_groups s.state.world.tree t y) ∙ h.groups) x (like_weighed_task s.state.world.tree (times s) c s.state t y (like_now s h)) h.events)
    where
      not_lt : (a b : ℕ) → b ≤ a → nat_lt a b ≡ false
      not_lt a b l = grind (arith, nat_tests, l)

      right : is_outside max_weight y ≡ false
      right = rw (not_lt y 1 least, not_lt 10000 y greatest) refl

      x : Goes (SetTaskWeight t y) s
      x = goes (SetTaskWeight t y) s (omega (arith, few, h.events)) (rw (lt-ltb t (length s.state.world.tasks) (omega (arith, l, h.tasks)), right) refl)

  -- a group or a task may get a weight
  pub weighing_leads : (s : SimState) (k : Weighed) (y : ℕ) → e < max_events → IsWeighed g n k → 1 ≤ y → y ≤ 10000 → IsOf n c g e s → (refusal s (weighing k y) ≡ None) × IsOf n c g (e + 1) (after_event s (weighing k y))
  weighing_leads s (which.Group k) y few l least greatest h = weight_leads s k y few l least greatest h
  weighing_leads s (which.Task t) y few l least greatest h = own_weight_leads s t y few l least greatest h

-- ---- the events of numbers that pass a test

-- what holds before each number is looked at
pub record IsLed (n : ℕ) (test : ℕ → Bool) (event : ℕ → Event) (I : ℕ → SimState → Type 0) : Type 0 where
  pub passed : (k : ℕ) (v : SimState) → k < n → test k ≡ true → I k v → (refusal v (event k) ≡ None) × I (k + 1) (after_event v (event k))
  pub left_out : (k : ℕ) (v : SimState) → k < n → test k ≡ false → I k v → I (k + 1) v

abbrev pub Led : (ℕ → SimState → Type 0) → ℕ → SimState → List Event → Type 0
Led I n s xs = AreAccepted s xs × I n (stepped_all s xs)

-- events by a test, one number after another
pub led : (n : ℕ) (test : ℕ → Bool) (event : ℕ → Event) (I : ℕ → SimState → Type 0) (s : SimState) → IsLed n test event I → I 0 s → Led I n s (events_below n test event)
led zero test event I s h i = (tt, i)
led (suc n) test event I s h i = go (test n) refl (led n test event I s record { passed = λ k v l. h.passed k v (omega (arith, l)); left_out = λ k v l. h.left_out k v (omega (arith, l)) } i)
  where
    up : (v : SimState) → I (n + 1) v → I (suc n) v
    up v x = subst (λ k. I k v) (omega arith) x

    go : (b : Bool) → test n ≡ b → Led I n s (events_below n test event) → Led I (suc n) s (events_below n test event ++ (if b then event n ∷ [] else []))
    go true e before =
        let xs = events_below n test event in
        let x = h.passed n (stepped_all s xs) (omega arith) e before.1 in
        (accepted_behind xs (event n ∷ []) s before.0 (x.0, tt), rw (stepped_behind xs (event n ∷ []) s) (up _ x.1))
    go false e before =
        let xs = events_below n test event in
        let x = h.left_out n (stepped_all s xs) (omega arith) e before.1 in
        (accepted_behind xs [] s before.0 tt, rw (stepped_behind xs [] s) (up _ x))
