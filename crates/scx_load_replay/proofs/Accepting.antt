-- No event of a file is refused: who is awake follows from the lines alone, and is who is active in
-- the machine.
use Rattle.std.proofs.Common.{◌≡◌, ℕ, zero, suc, ◌+◌, ◌*◌, ◌<◌, ◌≤◌, Bool, true, false, cond, List, [], ◌∷◌, length, get_or, set, None, is_none, refl, ap, ◌∙◌, arith}
use Rattle.scx_weights.specs.Hierarchy.{Hierarchy}
use Rattle.scx_weights.specs.Hierarchy as tree
use Rattle.scx_weights.specs.Refusals.{weight_fault}
use Rattle.scx_sched_world.specs.World.{running}
use Rattle.scx_sched_machine.specs.declared.events.Event.{Event}
use Rattle.scx_sched_machine.specs.declared.events.Event.TheVariants as event
use Rattle.scx_sched_policy.specs.Policy.{PolicyState}
use Rattle.scx_sched_machine.specs.Events as machine
use Rattle.scx_sched.specs.Sim.{SimState, max_events, refusal, after_event, stepped_if, IsFirstState}
use Rattle.scx_load_workloads.specs.Workload.{WorkloadState, first_tree}
use Rattle.scx_load_driver.specs.Runs.{stepped_all, AreAccepted}
use Rattle.scx_load_driver.proofs.Alike.{Times, AreTimed, IsLike, times_of, like_groups, like_active, like_rounds, like_first}
use Rattle.scx_load_driver.proofs.Happening.{like_clock, times_after_tick, like_tick, like_wake, like_sleep, own_weighed, own_weighed_active, like_weighed_task}
use Rattle.scx_load_driver.proofs.Accepting.{accepted_behind, IsOf, wake_leads, sleep_leads, tick_leads, clock_leads, weight_leads, own_weight_leads}
use Rattle.scx_load_replay.specs.declared.lines.Line.{Line}
use Rattle.scx_load_replay.specs.Replay.{ReplayState, block_of, is_awake, awake_after, Fits, Follow, all_asleep, IsReplay}
use Rattle.scx_load_replay.specs.Events.{is_before_ticks, is_behind_ticks, first_events, lines_behind, ticks_from, events_from, replay_events}

state_is : (v : Event) (s : SimState) → refusal s v ≡ None → (after_event s v).state ≡ (machine.event_step s.state v).state
state_is v s accepted = ap (λ o. (stepped_if o s v).state) accepted

module _ (n c g : ℕ) where
  -- the machine is of as many, accepted so many events at most, and these tasks are active
  pub record IsAt (e : ℕ) (awake : List Bool) (s : SimState) : Type 0 where
    pub of : IsOf n c g e s
    pub active : s.state.world.tree.active ≡ awake

  abbrev times : SimState → Times
  times s = times_of n s.state.world

  like_now : (e : ℕ) (awake : List Bool) (s : SimState) → IsAt e awake s → IsLike s.state.world.tree (times s) c s.state.world
  like_now e awake s h = ((refl, refl, refl, refl, refl), (h.of.tasks, λ u. omega arith), h.of.cpus)

  active_is : (h : Hierarchy) (m : Times) (v : Event) (s : SimState) → refusal s v ≡ None → IsLike h m c (machine.event_step s.state v).state.world → (after_event s v).state.world.tree.active ≡ h.active
  active_is h m v s accepted i = ap (λ x. x.world.tree.active) (state_is v s accepted) ∙ like_active h m c (machine.event_step s.state v).state.world i

  abbrev Goes : ℕ → List Bool → Event → SimState → Type 0
  Goes e awake v s = (refusal s v ≡ None) × IsAt (e + 1) awake (after_event s v)

  -- ---- one event

  wake_goes : (e : ℕ) (awake : List Bool) (s : SimState) (t : ℕ) → e < max_events → t < n → is_awake awake t ≡ false → IsAt e awake s → Goes e (set awake t true) (event.Wake t) s
  wake_goes e awake s t few within asleep h =
      let h' = tree.with_task s.state.world.tree t true in
      let x = wake_leads n c g e s t few within (ap (λ xs. get_or xs t false) h.active ∙ asleep) h.of in
      (x.0, record { of = x.1; active = active_is h' (times s) (event.Wake t) s x.0 (like_wake s.state.world.tree (times s) c s.state t (like_now e awake s h)) ∙ ap (λ xs. set xs t true) h.active })

  sleep_goes : (e : ℕ) (awake : List Bool) (s : SimState) (t : ℕ) → e < max_events → t < n → is_awake awake t ≡ true → IsAt e awake s → Goes e (set awake t false) (event.Sleep t) s
  sleep_goes e awake s t few within up h =
      let h' = tree.with_task s.state.world.tree t false in
      let x = sleep_leads n c g e s t few within (ap (λ xs. get_or xs t false) h.active ∙ up) h.of in
      (x.0, record { of = x.1; active = active_is h' (times s) (event.Sleep t) s x.0 (like_sleep s.state.world.tree (times s) c s.state t within (like_now e awake s h)) ∙ ap (λ xs. set xs t false) h.active })

  tick_goes : (e : ℕ) (awake : List Bool) (s : SimState) (d : ℕ) → e < max_events → d < c → IsAt e awake s → Goes e awake (event.Tick d) s
  tick_goes e awake s d few within h =
      let x = tick_leads n c g e s d few within h.of in
      (x.0, record { of = x.1; active = active_is s.state.world.tree (times_after_tick (running s.state.world d) (times s)) (event.Tick d) s x.0 (like_tick s.state.world.tree (times s) c s.state d (like_now e awake s h)) ∙ h.active })

  clock_goes : (e : ℕ) (awake : List Bool) (s : SimState) → e < max_events → IsAt e awake s → Goes e awake event.Clock s
  clock_goes e awake s few h =
      let x = clock_leads n c g e s few h.of in
      (x.0, record { of = x.1; active = active_is s.state.world.tree (times s) event.Clock s x.0 (like_clock s.state.world.tree (times s) c s.state (like_now e awake s h)) ∙ h.active })

  -- a weight leaves all but groups
  weighed : (s : SimState) (k y : ℕ) → AreTimed (times s) s.state.world.tasks → length s.state.world.cpus ≡ c → (b : Bool) → is_none (weight_fault s.state.world.tree k y) ≡ b
      → (let own = machine.own_step s.state (event.SetWeight k y) in IsLike own.state.world.tree (times s) c own.state.world × (own.state.world.tree.active ≡ s.state.world.tree.active))
  weighed s k y timed cpus true w = rw w (((refl, refl, refl, refl, refl), timed, cpus), refl)
  weighed s k y timed cpus false w = rw w (((refl, refl, refl, refl, refl), timed, cpus), refl)

  weight_goes : (e : ℕ) (awake : List Bool) (s : SimState) (k y : ℕ) → e < max_events → k < g → 1 ≤ y → y ≤ 10000 → IsAt e awake s → Goes e awake (event.SetWeight k y) s
  weight_goes e awake s k y few within least greatest h =
      let x = weight_leads n c g e s k y few within least greatest h.of in
      let own = machine.own_step s.state (event.SetWeight k y) in
      let as_own = weighed s k y (h.of.tasks, λ u. omega arith) h.of.cpus (is_none (weight_fault s.state.world.tree k y)) refl in
      (x.0, record { of = x.1; active = active_is own.state.world.tree (times s) (event.SetWeight k y) s x.0 (like_rounds own.state.world.tree (times s) c own as_own.0) ∙ as_own.1 ∙ h.active })

  own_weight_goes : (e : ℕ) (awake : List Bool) (s : SimState) (t y : ℕ) → e < max_events → t < n → 1 ≤ y → y ≤ 10000 → IsAt e awake s → Goes e awake (event.SetTaskWeight t y) s
  own_weight_goes e awake s t y few within least greatest h =
      let x = own_weight_leads n c g e s t y few within least greatest h.of in
      let h' = own_weighed s.state.world.tree t y in
      (x.0, record { of = x.1; active = active_is h' (times s) (event.SetTaskWeight t y) s x.0 (like_weighed_task s.state.world.tree (times s) c s.state t y (like_now e awake s h)) ∙ own_weighed_active s.state.world.tree t y ∙ h.active })

  -- an event that fits
  fitting_goes : (w : WorkloadState) (e : ℕ) (awake : List Bool) (s : SimState) (v : Event) → length w.homes ≡ n → length w.groups ≡ g → e < max_events → Fits w awake v → IsAt e awake s → Goes e (awake_after awake v) v s
  fitting_goes w e awake s (event.Wake t) tasks groups few fits h = wake_goes e awake s t few (omega (arith, fits.0, tasks)) fits.1 h
  fitting_goes w e awake s (event.Sleep t) tasks groups few fits h = sleep_goes e awake s t few (omega (arith, fits.0, tasks)) fits.1 h
  fitting_goes w e awake s (event.SetWeight k y) tasks groups few fits h = weight_goes e awake s k y few (omega (arith, fits.0, groups)) fits.1 fits.2 h
  fitting_goes w e awake s (event.SetTaskWeight t y) tasks groups few fits h = own_weight_goes e awake s t y few (omega (arith, fits.0, tasks)) fits.1 fits.2 h
  fitting_goes w e awake s (event.Tick d) tasks groups few fits h = absurd fits
  fitting_goes w e awake s event.Clock tasks groups few fits h = absurd fits

  -- ---- lists

  ticks_go : (k d e : ℕ) (awake : List Bool) (s : SimState) → d + k ≤ c → e + k ≤ max_events → IsAt e awake s
      → AreAccepted s (ticks_from k d) × IsAt (e + k) awake (stepped_all s (ticks_from k d))
  ticks_go zero d e awake s room few h = (tt, record { of = record { tasks = h.of.tasks; cpus = h.of.cpus; groups = h.of.groups; events = omega (arith, h.of.events) }; active = h.active })
  ticks_go (suc k) d e awake s room few h =
      let one = tick_goes e awake s d (omega (arith, few)) (omega (arith, room)) h in
      let rest = ticks_go k (d + 1) (e + 1) awake (after_event s (event.Tick d)) (omega (arith, room)) (omega (arith, few)) one.1 in
      let i = rest.1 in
      ((one.0, rest.0), record { of = record { tasks = i.of.tasks; cpus = i.of.cpus; groups = i.of.groups; events = omega (arith, i.of.events) }; active = i.active })

  -- what the lines that pass lead to, with those behind them
  pub record Lead (w : WorkloadState) (e : ℕ) (ls rest : List Line) (s : SimState) (es : List Event) : Type 0 where
    pub at : ℕ
    pub block : ℕ
    pub awake : List Bool
    pub count : ℕ
    pub follow : Follow w at block awake rest
    pub accepted : AreAccepted s es
    pub paid : count + length rest ≤ e + length ls
    pub now : IsAt count awake (stepped_all s es)

  lines_go : (w : WorkloadState) (test : Line → Bool) (ls : List Line) (at block e : ℕ) (awake : List Bool) (s : SimState) → length w.homes ≡ n → length w.groups ≡ g → Follow w at block awake ls → e + length ls ≤ max_events → IsAt e awake s
      → Lead w e ls (lines_behind test ls) s (first_events test ls)
  lines_go w test [] at block e awake s tasks groups follow few h = record { at = at; block = block; awake = awake; count = e; follow = follow; accepted = tt; paid = omega arith; now = h }
  lines_go w test (l ∷ ls) at block e awake s tasks groups follow few h =
      let one = fitting_goes w e awake s l.event tasks groups (omega (arith, few)) follow.2 h in
      go (test l) (lines_go w test ls l.at (block_of l.event) (e + 1) (awake_after awake l.event) (after_event s l.event) tasks groups follow.3 (omega (arith, few)) one.1) one.0
    where
      go : (b : Bool) → Lead w (e + 1) ls (lines_behind test ls) (after_event s l.event) (first_events test ls) → refusal s l.event ≡ None
          → Lead w e (l ∷ ls) (cond b (lines_behind test ls) (l ∷ ls)) s (cond b (l.event ∷ first_events test ls) [])
      go true later accepted = record {
        at = later.at;
        block = later.block;
        awake = later.awake;
        count = later.count;
        follow = later.follow;
        accepted = (accepted, later.accepted);
        paid = omega (arith, later.paid);
        now = later.now;
      }
      go false later accepted = record { at = at; block = block; awake = awake; count = e; follow = follow; accepted = tt; paid = omega arith; now = h }

  -- ---- all milliseconds

  all_go : (w : WorkloadState) (k m at block e : ℕ) (awake : List Bool) (ls : List Line) (s : SimState) → length w.homes ≡ n → length w.groups ≡ g → Follow w at block awake ls → c ≤ 64 → e + length ls + k * 65 ≤ max_events → IsAt e awake s
      → AreAccepted s (events_from c k m ls)
  all_go w zero m at block e awake ls s tasks groups follow cpus few h = tt
  all_go w (suc k) m at block e awake ls s tasks groups follow cpus few h =
      let before = lines_go w (is_before_ticks m) ls at block e awake s tasks groups follow (omega (arith, few)) h in
      let s1 = stepped_all s (first_events (is_before_ticks m) ls) in
      let ls1 = lines_behind (is_before_ticks m) ls in
      let ticks = ticks_go c 0 before.count before.awake s1 (omega arith) (omega (arith, cpus, few, before.paid)) before.now in
      let s2 = stepped_all s1 (ticks_from c 0) in
      let behind = lines_go w (is_behind_ticks m) ls1 before.at before.block (before.count + c) before.awake s2 tasks groups before.follow (omega (arith, cpus, few, before.paid)) ticks.1 in
      let s3 = stepped_all s2 (first_events (is_behind_ticks m) ls1) in
      let clock = clock_goes behind.count behind.awake s3 (omega (arith, cpus, few, before.paid, behind.paid)) behind.now in
      let later = all_go w k (m + 1) behind.at behind.block (behind.count + 1) behind.awake (lines_behind (is_behind_ticks m) ls1) (after_event s3 event.Clock) tasks groups behind.follow cpus (omega (arith, cpus, few, before.paid, behind.paid)) clock.1 in
      accepted_behind (first_events (is_before_ticks m) ls) _ s before.accepted
      (accepted_behind (ticks_from c 0) _ s1 ticks.0
      (accepted_behind (first_events (is_behind_ticks m) ls1) _ s2 behind.accepted (clock.0, later)))

-- the law
pub none_is_refused : (r : ReplayState) (p : PolicyState) (s : SimState) → IsReplay r → IsFirstState p (first_tree r.workload) r.workload.cpus s → AreAccepted s (replay_events r)
none_is_refused r p s whole first =
    let w = r.workload in
    let like = like_first p (first_tree w) w.cpus s.state first.0 in
    let groups = ap (λ gs. length gs) (like_groups (first_tree w) _ w.cpus s.state.world like) in
    let active = like_active (first_tree w) _ w.cpus s.state.world like in
    all_go (length w.homes) w.cpus (length w.groups) w w.ms 0 0 0 s.events (all_asleep w) r.lines s refl refl whole.follow
    whole.workload.few_cpus (omega (arith, first.1, whole.workload.few_ms, whole.few_lines))
    (record { of = record { tasks = like.1.0; cpus = like.2; groups = groups; events = omega arith }; active = active })
