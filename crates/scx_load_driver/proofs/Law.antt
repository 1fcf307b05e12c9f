-- No event of a workload is refused: each block is accepted, and leaves a machine of as many tasks,
-- processors and groups.
use Rattle.std.proofs.Common.{◌≡◌, ℕ, zero, suc, ◌+◌, ◌*◌, ◌<◌, ◌≤◌, Bool, true, false, not, ◌&&◌, List, [], ◌∷◌, length, refl, ◌∙◌, ap, arith}
use Rattle.std.proofs.lemmas.List.{length-map}
use Rattle.scx_sched_world.specs.World.{WorldState, is_runnable}
use Rattle.scx_sched_machine.specs.declared.events.Event.TheVariants as event
use Rattle.scx_sched_policy.specs.Policy.{PolicyState}
use Rattle.scx_sched_machine.specs.Start.{blank}
use Rattle.scx_sched.specs.Sim.{SimState, max_events, IsFirstState}
use Rattle.scx_load_workloads.specs.declared.workload.Timing.{Timing}
use Rattle.scx_load_workloads.specs.Workload.{WorkloadState, IsWorkload, first_tree, IsChange, change_at}
use Rattle.scx_load_driver.specs.Runs.{stepped_all, AreAccepted}
use Rattle.scx_load_driver.specs.Blocks.{Plan, Memory, Block, Changes, Wakes, Ticks, Sleeps, Clock, change_event, events_below, is_at, is_due, has_run_enough, may_sleep, goes_to_sleep, block_events, memory_after}
use Rattle.scx_load_driver.specs.Events.{blocks_from, events_from, plan_of, first_memory, workload_events}
use Rattle.scx_load_driver.proofs.Below.{length_set_below}
use Rattle.scx_load_driver.proofs.Alike.{Times, IsLike, times_of, like_groups, like_first}
use Rattle.scx_load_driver.proofs.Accepting.{accepted_behind, IsOf, wake_leads, sleep_leads, tick_leads, clock_leads, weighing_leads, Led, led}

-- ---- how many events a block has at most

abbrev most : Block → ℕ
most (Changes m) = 1024
most (Wakes m) = 1024
most Ticks = 64
most (Sleeps m) = 1024
most Clock = 1

abbrev most_of : List Block → ℕ
most_of [] = 0
most_of (b ∷ bs) = most b + most_of bs

most_from : (n m : ℕ) → most_of (blocks_from n m) ≡ 3137 * n
most_from zero m = refl
most_from (suc n) m = omega (arith, most_from n (m + 1))

-- so many events were accepted at most, and from the k-th on whether tasks are runnable is as it was
record IsUntouched (n c g e k : ℕ) (s v : SimState) : Type 0 where
  pub counted : IsOf n c g e v
  pub same : (u : ℕ) → k ≤ u → is_runnable v.state.world u ≡ is_runnable s.state.world u

-- ---- what is planned, and what is remembered

record IsPlan (n c g : ℕ) (p : Plan) : Type 0 where
  pub cpus : p.cpus ≡ c
  pub timed : length p.timings ≡ n
  pub few_tasks : n ≤ 1024
  pub few_cpus : c ≤ 64
  pub few_changes : length p.changes ≤ 1024
  pub changes : (i : ℕ) → i < length p.changes → IsChange g n (change_at p.changes i)

and_left : (a b : Bool) → (a && b) ≡ true → a ≡ true
and_left true b e = refl
and_left false b e = absurd (cc)

not_true : (a : Bool) → not a ≡ true → a ≡ false
not_true false e = refl
not_true true e = absurd (cc)

module _ (n c g : ℕ) (p : Plan) (plan : IsPlan n c g p) where
  still_due : (k : Memory) (b : Block) (w : WorldState) → length k.due ≡ n → length (memory_after p b k w).due ≡ n
  still_due k (Changes m) w l = l
  still_due k (Wakes m) w l = l
  still_due k Ticks w l = l
  still_due k (Sleeps m) w l = length_set_below (length p.timings) (goes_to_sleep p.timings k.ran w) _ k.due ∙ l
  still_due k Clock w l = l

  -- ---- each block

  module _ (s : SimState) (h : IsOf n c g s.events s) where
    -- before a number is looked at, so many events were accepted at most
    abbrev Counted : ℕ → SimState → Type 0
    Counted k v = IsOf n c g (s.events + k) v

    -- and whether the others are runnable is as it was
    abbrev Untouched : ℕ → SimState → Type 0
    Untouched k v = IsUntouched n c g (s.events + k) k s v

    one_more : (k : ℕ) (v : SimState) → Counted k v → Counted (k + 1) v
    one_more k v i = record { tasks = i.tasks; cpus = i.cpus; groups = i.groups; events = omega (arith, i.events) }

    next_is : (k : ℕ) (v : SimState) → IsOf n c g (s.events + k + 1) v → Counted (k + 1) v
    next_is k v i = record { tasks = i.tasks; cpus = i.cpus; groups = i.groups; events = omega (arith, i.events) }

    at_first : Counted 0 s
    at_first = record { tasks = h.tasks; cpus = h.cpus; groups = h.groups; events = omega arith }

    tick_block : s.events + 64 ≤ max_events → Led Counted p.cpus s (events_below p.cpus (λ d. true) event.Tick)
    tick_block room = led p.cpus (λ d. true) event.Tick Counted s record {
      passed = λ k v l e i. let x = tick_leads n c g (s.events + k) v k (omega (arith, l, room, plan.cpus, plan.few_cpus)) (omega (arith, l, plan.cpus)) i in (x.0, next_is k _ x.1);
      left_out = λ k v l e i. absurd (cc);
    } at_first

    change_block : (m : ℕ) → s.events + 1024 ≤ max_events → Led Counted (length p.changes) s (block_events p (Changes m) (record { due = []; ran = [] }) s.state.world)
    change_block m room = led (length p.changes) (is_at p.changes m) (λ i. change_event (change_at p.changes i)) Counted s record {
      passed = λ k v l e i.
          let y = plan.changes k l in
          let x = weighing_leads n c g (s.events + k) v (change_at p.changes k).weighed (change_at p.changes k).weight (omega (arith, l, room, plan.few_changes)) y.weighed y.least y.greatest i in
          (x.0, next_is k _ x.1);
      left_out = λ k v l e i. one_more k v i;
    } at_first

    wake_block : (due : List ℕ) (m : ℕ) → length due ≡ n → s.events + 1024 ≤ max_events → Led Untouched (length due) s (events_below (length due) (is_due due m s.state.world) event.Wake)
    wake_block due m even room = led (length due) (is_due due m s.state.world) event.Wake Untouched s record {
      passed = λ k v l e i.
          let sleeps : is_runnable v.state.world k ≡ false = i.same k (omega arith) ∙ not_true _ (and_left _ _ e) in
          let x = wake_leads n c g (s.events + k) v k (omega (arith, l, even, room, plan.few_tasks)) (omega (arith, l, even)) sleeps i.counted in
          (x.0, record { counted = next_is k _ x.1; same = λ u l'. x.2 u (λ d. absurd (omega (arith, d, l'))) ∙ i.same u (omega (arith, l')) });
      left_out = λ k v l e i. record { counted = one_more k v i.counted; same = λ u l'. i.same u (omega (arith, l')) };
    } record { counted = at_first; same = λ u l. refl }

    sleep_block : (ran : List ℕ) → s.events + 1024 ≤ max_events → Led Untouched (length p.timings) s (events_below (length p.timings) (goes_to_sleep p.timings ran s.state.world) event.Sleep)
    sleep_block ran room = led (length p.timings) (goes_to_sleep p.timings ran s.state.world) event.Sleep Untouched s record {
      passed = λ k v l e i.
          let runs : is_runnable v.state.world k ≡ true = i.same k (omega arith) ∙ and_left _ _ (and_left (has_run_enough p.timings ran s.state.world k) (may_sleep s.state.world k) e) in
          let x = sleep_leads n c g (s.events + k) v k (omega (arith, l, room, plan.timed, plan.few_tasks)) (omega (arith, l, plan.timed)) runs i.counted in
          (x.0, record { counted = next_is k _ x.1; same = λ u l'. x.2 u (λ d. absurd (omega (arith, d, l'))) ∙ i.same u (omega (arith, l')) });
      left_out = λ k v l e i. record { counted = one_more k v i.counted; same = λ u l'. i.same u (omega (arith, l')) };
    } record { counted = at_first; same = λ u l. refl }

    at_most : (k e : ℕ) (v : SimState) → Counted k v → s.events + k ≤ e → IsOf n c g e v
    at_most k e v i l = record { tasks = i.tasks; cpus = i.cpus; groups = i.groups; events = omega (arith, i.events, l) }

    block : (b : Block) (k : Memory) → length k.due ≡ n → s.events + most b ≤ max_events
        → AreAccepted s (block_events p b k s.state.world) × IsOf n c g (s.events + most b) (stepped_all s (block_events p b k s.state.world))
    block (Changes m) k even room = let x = change_block m room in (x.0, at_most (length p.changes) (s.events + 1024) _ x.1 (omega (arith, plan.few_changes)))
    block (Wakes m) k even room = let x = wake_block k.due m even room in (x.0, at_most (length k.due) (s.events + 1024) _ x.1.counted (omega (arith, even, plan.few_tasks)))
    block Ticks k even room = let x = tick_block room in (x.0, at_most p.cpus (s.events + 64) _ x.1 (omega (arith, plan.cpus, plan.few_cpus)))
    block (Sleeps m) k even room = let x = sleep_block k.ran room in (x.0, at_most (length p.timings) (s.events + 1024) _ x.1.counted (omega (arith, plan.timed, plan.few_tasks)))
    block Clock k even room = let x = clock_leads n c g s.events s (omega (arith, room)) h in ((x.0, tt), x.1)

  -- ---- all blocks

  counted_now : (e : ℕ) (s : SimState) → IsOf n c g e s → IsOf n c g s.events s
  counted_now e s i = record { tasks = i.tasks; cpus = i.cpus; groups = i.groups; events = omega arith }

  all_blocks : (bs : List Block) (k : Memory) (s : SimState) → length k.due ≡ n → IsOf n c g s.events s → s.events + most_of bs ≤ max_events → AreAccepted s (events_from p bs k s)
  all_blocks [] k s even h room = tt
  all_blocks (b ∷ bs) k s even h room =
      let x = block s h b k even (omega (arith, room)) in
      let after = stepped_all s (block_events p b k s.state.world) in
      accepted_behind (block_events p b k s.state.world) (events_from p bs (memory_after p b k s.state.world) after) s x.0
      (all_blocks bs (memory_after p b k s.state.world) after (still_due k b s.state.world even) (counted_now _ after x.1) (omega (arith, room, x.1.events)))

-- ---- a workload's

-- the law
pub none_is_refused : (w : WorkloadState) (p : PolicyState) (s : SimState) → IsWorkload w → IsFirstState p (first_tree w) w.cpus s → AreAccepted s (workload_events w s)
none_is_refused w p s whole first =
    all_blocks (length w.homes) w.cpus (length w.groups) (plan_of w) plan (blocks_from w.ms 0) (first_memory w.timings) s (length-map w.timings (λ (t : Timing). t.start) ∙ whole.timed) now (omega (arith, first.1, most_from w.ms 0, whole.few_ms))
  where
    plan : IsPlan (length w.homes) w.cpus (length w.groups) (plan_of w)
    plan = record { cpus = refl; timed = whole.timed; few_tasks = whole.few_tasks; few_cpus = whole.few_cpus; few_changes = whole.few_changes; changes = whole.changes }

    times : Times
    times = times_of (length w.homes) (blank p (first_tree w) w.cpus).world

    like : IsLike (first_tree w) times w.cpus s.state.world
    like = like_first p (first_tree w) w.cpus s.state first.0

    now : IsOf (length w.homes) w.cpus (length w.groups) s.events s
    now = record { tasks = like.1.0; cpus = like.2; groups = ap (λ gs. length gs) (like_groups (first_tree w) times w.cpus s.state.world like); events = omega arith }
