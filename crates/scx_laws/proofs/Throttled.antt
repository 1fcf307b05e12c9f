-- In each run who is parked is throttled, and a CPU takes no throttled task.
use Rattle.std.proofs.Common.{◌≡◌, ℕ, zero, suc, ◌+◌, ◌<◌, ◌≤◌, ◌⊎◌, inl, inr, Bool, true, false, ◌==◌, ◌&&◌, ◌||◌, nat_lt, if◌then◌else◌, List, [], ◌∷◌, length, set, get_or, Option, Some, None, is_some, is_none, option_map, Ok, refl, sym, ap, ◌∙◌, subst, arith}
use Rattle.std.proofs.lemmas.Option.{same_Some}
use Rattle.std.specs.List.{list_any}
use Rattle.std.proofs.lemmas.Bool.{cases_eq, cases_lt, and_parts, and_from, lt-ltb, both_ways}
use Rattle.std.proofs.lemmas.List.{length-set, get_or-set_same, get_or-set_other, get_or_past, set_past}
use Rattle.scx_dsq.specs.declared.entries.Entry.{Entry}
use Rattle.scx_dsq.specs.Queues.{QueueState, entry_of}
use Rattle.scx_dsq.specs.Laws.{one_if}
use Rattle.scx_weights.specs.declared.group.Group.{Group}
use Rattle.scx_weights.specs.Counting.{any_below}
use Rattle.scx_weights.specs.Hierarchy.{Hierarchy, parent_of, quota_at, period_at, max_depth, upward, path, home_of, is_active_task, with_weight_of, with_weight}
use Rattle.scx_weights.specs.Limits.{usage_of, is_used_up, with_use, with_turn}
use Rattle.scx_weights.specs.Limits as limits
use Rattle.scx_weights.specs.Refusals.{weight_fault}
use Rattle.scx_weights.proofs.Counting.{none_below_at}
use Rattle.scx_weights.proofs.Reweighed.{parent_reweighed}
use Rattle.scx_weights.proofs.Throttled.{uses_keep_throttled}
use Rattle.scx_sched_world.specs.Ids.{parked_queue}
use Rattle.scx_sched_world.specs.First.{first_world}
use Rattle.scx_sched_world.specs.World.{WorldState, with_tree, running, task_at, is_runnable, is_throttled, at_callback}
use Rattle.scx_sched_world.specs.Tasks.{after_stop, after_tick, used_ms, later, begun_periods, after_reweigh}
use Rattle.scx_sched_machine.specs.declared.events.Event.{Event}
use Rattle.scx_sched_machine.specs.declared.events.Event.TheVariants.{Tick}
use Rattle.scx_sched_machine.specs.declared.events.Refused.{Refused}
use Rattle.scx_sched_policy.specs.Policy.{PolicyState}
use Rattle.scx_sched_machine.specs.Steps.{State, Stepped, with_world, stays}
use Rattle.scx_sched_machine.specs.Callbacks.{acting}
use Rattle.scx_sched_machine.specs.Cycle.{cycle}
use Rattle.scx_sched_machine.specs.Parking.{park, let_all_go}
use Rattle.scx_sched_machine.specs.Firing.{fire_all}
use Rattle.scx_sched_machine.specs.Start.{is_nowhere, by_policy, first_state}
use Rattle.scx_sched_machine.specs.Events as machine
use Rattle.scx_sched_machine.specs.Events.{leaves_cpu, throttle, ends_slices, expire, use_up, tick_heard, count_down, tick_of, tick, overdue, eject_if_stalled, watch, timers_and_watchdog, clock, own_step, event_step}
use Rattle.scx_sched_machine.proofs.Choices.{keeps_if}
use Rattle.scx_sched.specs.Ranges.{IsFine}
use Rattle.scx_sched.specs.Sim.{SimState, refusal, stepped_if, after_event}
use Rattle.scx_sched.proofs.Written.{each_written}
use Rattle.scx_sched.proofs.Homes.{keeps_homes}
use Rattle.scx_sched.proofs.Unchanged.{same_called}
use Rattle.scx_sched.proofs.Begins.{keeps_started}
use Rattle.scx_sched.proofs.Skeleton.{keeps_eject}
use Rattle.scx_sched.proofs.Clear.{tree_free, tree_used_up}
use Rattle.scx_sched.proofs.Blaming.{honest_leaves_cpu, honest_heard}
use Rattle.scx_sched.proofs.Cycles.{keeps_park, keeps_cycle}
use Rattle.scx_sched.proofs.Letting.{keeps_let_all_go}
use Rattle.scx_sched.proofs.Sound.{waits_known}
use Rattle.scx_sched.proofs.Deciding.{accepted}
use Rattle.scx_sched.proofs.Events.{IsKeptByEvents, inside_of, cpus_used, keeps_now, keeps_wake, keeps_leaves_cpu, keeps_sleep, keeps_cycle_now, keeps_heard, keeps_tick_idle, keeps_tick, keeps_fire_all, keeps_clock, keeps_reweigh, keeps_with_rounds, IsKeptByUse, IsKeptByTick, IsTaken, Wakes, Sleeps, Ticks, Clocks, Weighs, WeighsTask, is_taken, IsFineNow, one_more, fine_events, fine_ticked, fine_later, fine_reweighed, known_running}
use Rattle.scx_laws.specs.Runs.{IsBegun, after_events}
use Rattle.scx_laws.specs.Throttling.{ParkedAreThrottled, ThrottledOnlyRunOn}
use Rattle.scx_laws.proofs.Sound.{IsFirm, firm_first, firm_step, firm_after}
use Rattle.scx_laws.proofs.Parked.{AreSameThrottled, IsOfParked, With, events_with}
use Rattle.scx_laws.proofs.Releasing.{AreInLine, of_before, line_stays, line_comes, line_goes, pushed_either, removed_before, Covers}
use Rattle.scx_laws.proofs.LettingGo.{InLineAs, line_of, all_released}

-- ---- a group's weight throttles no task

upward_same : (groups others : List Group) → ((k : ℕ) → parent_of others k ≡ parent_of groups k) → (n : ℕ) (o : Option ℕ) → upward others n o ≡ upward groups n o
upward_same groups others same zero o = refl
upward_same groups others same (suc n) None = refl
upward_same groups others same (suc n) (Some g) = ap (λ xs. g ∷ xs) (ap (λ o. upward others n o) (same g) ∙ upward_same groups others same n (parent_of groups g))

quota_reweighed : (groups : List Group) (g w k : ℕ) → g < length groups → quota_at (with_weight_of groups g w) k ≡ quota_at groups k
quota_reweighed groups g w k lt = go (cases_eq k g)
  where
    new : Group
    new = record { parent = parent_of groups g; weight = w; quota_ms = quota_at groups g; period_ms = period_at groups g }

    none : Group
    none = record { parent = None; weight = 0; quota_ms = None; period_ms = 0 }

    go : (k ≡ g) ⊎ (k ≡ g → ⊥) → quota_at (with_weight_of groups g w) k ≡ quota_at groups k
    go (inl e) = subst (λ (x : ℕ). quota_at (with_weight_of groups g w) x ≡ quota_at groups x) (sym e) (ap (λ (x : Group). x.quota_ms) (get_or-set_same groups g new none lt))
    go (inr d) = ap (λ (x : Group). x.quota_ms) (get_or-set_other groups g k new none d)

any_same : (f h : ℕ → Bool) → ((k : ℕ) → f k ≡ h k) → (xs : List ℕ) → list_any f xs ≡ list_any h xs
any_same f h same [] = refl
any_same f h same (x ∷ xs) = ap (λ b. b || list_any f xs) (same x) ∙ ap (λ b. h x || b) (any_same f h same xs)

same_reweighed : (x : Hierarchy) (g w : ℕ) → AreSameThrottled x (with_weight x g w)
same_reweighed x g w u = go (cases_lt g (length x.groups))
  where
    go : (g < length x.groups) ⊎ (length x.groups ≤ g) → limits.is_throttled (with_weight x g w) u ≡ limits.is_throttled x u
    go (inl lt) =
        ap (λ xs. list_any (λ k. limits.is_throttled_group (with_weight x g w) k) xs) (upward_same x.groups (with_weight_of x.groups g w) (λ k. parent_reweighed x.groups g w k lt) max_depth (Some (home_of x u)))
        ∙ any_same (λ k. limits.is_throttled_group (with_weight x g w) k) (λ k. limits.is_throttled_group x k) (λ k. ap (λ o. is_used_up o (usage_of x k)) (quota_reweighed x.groups g w k lt)) (path x.groups (home_of x u))
    go (inr past) = ap (λ (gs : List Group). limits.is_throttled (record x { groups = gs }) u) (set_past x.groups g _ past)

-- ---- who is parked

-- the parked are in line, and throttled
abbrev pub AreParkedRightly : List (Option ℕ) → QueueState → Hierarchy → Type 0
AreParkedRightly on s x = AreInLine s × Covers s x None

pub rightly : IsOfParked AreParkedRightly
rightly = record {
  stays = λ on s s' x y same like h. (line_stays s s' same h.0, λ u q e at. like u ∙ h.1 u q (of_before s s' same u q e at) at);
  comes = λ on s x t stamped now h. (line_comes s t stamped h.0, λ u q e at. new s x t now h.1 u q at (pushed_either s t u q e));
  goes = λ on s x t h. (line_goes s t h.0, λ u q e at. h.1 u q (removed_before s t u q e at) at);
  stops = λ on s x c h. h;
  starts = λ on s x c t free h. h;
}
  where
    new : (s : QueueState) (x : Hierarchy) (t : ℕ) → limits.is_throttled x t ≡ true → Covers s x None → (u : ℕ) (q : Entry) → q.queue ≡ parked_queue → (u ≡ t) ⊎ (entry_of s u ≡ Some q) → limits.is_throttled x u ≡ true
    new s x t now h u q at (inl e) = ap (λ k. limits.is_throttled x k) e ∙ now
    new s x t now h u q at (inr e) = h u q e at

module _ (n e : ℕ) (s : State) where
  abbrev I : ℕ → Option ℕ → List (Option ℕ) → WorldState → Type 0
  I = With n AreParkedRightly rightly (e + 1)

  k : IsKeptByEvents n I
  k = events_with n AreParkedRightly rightly (e + 1)

  -- with what the world says of who runs
  abbrev Now : ℕ → WorldState → Type 0
  Now m w = I m None w.cpus w

  used : (v : WorldState) (t : ℕ) (on : List (Option ℕ)) → AreParkedRightly on v.queues v.tree → AreParkedRightly on (used_ms v t).queues (used_ms v t).tree
  used v t on h = keeps_if (λ (w : WorldState). AreParkedRightly on w.queues w.tree) (nat_lt t (length v.tasks)) (with_tree v (with_use v.tree t)) v (h.0, λ u q f at. uses_keep_throttled v.tree u t (h.1 u q f at)) h

  ticked : (c t : ℕ) → c < length s.world.cpus → get_or s.world.cpus c None ≡ Some t → IsFineNow n e e s.world → AreParkedRightly s.world.cpus s.world.queues s.world.tree → IsKeptByTick n I k e s.world c t
  ticked c t l at fine h =
      let f = fine_ticked n e e s.world c t l at fine in
      record {
        ran = (f.ran, h);
        uses = λ v same tree x.
            let y = f.uses v same tree x.0 in
            record {
              goes_on = λ free. (y.goes_on free, used v t v.cpus x.1);
              leaves = λ up. (y.leaves up, used v t v.cpus x.1);
            };
      }

  -- as the clock grows all who may run again are let go
  clocked : IsFineNow n e e s.world → AreInLine s.world.queues → Now e (clock s).state.world
  unfolding clock timers_and_watchdog watch
  clocked fine line = go (overdue v)
    where
      on : List (Option ℕ)
      on = s.world.cpus

      u0 : State
      u0 = with_world s (begun_periods (later s.world))

      g : Hierarchy
      g = u0.world.tree

      u : State
      u = (let_all_go u0).state

      v : State
      v = (fire_all u).state

      first : With n (InLineAs g) (line_of g) (e + 1) e None on u0.world
      first = (fine_later n e e s.world fine, (line, λ a. refl))

      kg : IsKeptByEvents n (With n (InLineAs g) (line_of g) (e + 1))
      kg = events_with n (InLineAs g) (line_of g) (e + 1)

      let_go : With n (InLineAs g) (line_of g) (e + 1) e None on u.world
      let_go = keeps_let_all_go n (With n (InLineAs g) (line_of g) (e + 1)) (inside_of n (With n (InLineAs g) (line_of g) (e + 1)) kg) kg.let_go e on u0 first

      released : I e None on u.world
      released = (let_go.0, (let_go.1.0, λ a q f at. let_go.1.1 a ∙ all_released n (e + 1) e on g u0 first a q f at))

      gone-on : I e None on v.world
      gone-on = keeps_fire_all n I k e on u released

      go : (o : Option ℕ) → Now e (eject_if_stalled o v).state.world
      go None = keeps_now n I k e v.world (on, gone-on)
      go (Some t) = keeps_now n I k e _ (on, keeps_eject n I k.steps e None on v _ gone-on)

  reweighed : (g x : ℕ) → AreParkedRightly s.world.cpus s.world.queues s.world.tree → AreParkedRightly (after_reweigh s.world g x).cpus (after_reweigh s.world g x).queues (after_reweigh s.world g x).tree
  reweighed g x h = keeps_if (λ (w : WorldState). AreParkedRightly w.cpus w.queues w.tree) (is_none (weight_fault s.world.tree g x)) (with_tree s.world (with_weight s.world.tree g x)) s.world (h.0, λ u q f at. same_reweighed s.world.tree g x u ∙ h.1 u q f at) h

  -- an accepted event, by itself
  parked_own : (v : Event) → length s.world.tasks ≡ n → machine.refusal s v ≡ None → IsFineNow n e e s.world → AreParkedRightly s.world.cpus s.world.queues s.world.tree → Now (e + 1) (own_step s v).state.world
  parked_own v tasks ok fine h = go v (is_taken s v ok)
    where
      h' : Now e s.world
      h' = (one_more n e e s.world fine, h)

      go : (v : Event) → IsTaken s v → Now (e + 1) (own_step s v).state.world
      go _ (Wakes t within resting) = k.steps.more e None _ _ (keeps_wake n I k e s t (omega (arith, within, tasks)) resting h')
      go _ (Sleeps t within runnable) = keeps_sleep n I k e s t (omega (arith, within, tasks)) runnable h'
      go _ (Ticks c l) = keeps_tick n I k e s c l h' (λ t at. ticked c t l at fine h)
      go _ Clocks = k.steps.more e None _ _ (clocked fine h.0)
      go _ (Weighs g x) = k.steps.more e None _ _ (fine_reweighed n (e + 1) e s.world g x h'.0, reweighed g x h)
      go _ (WeighsTask t x within) = k.steps.more e None _ _ (keeps_now n I k e _ (s.world.cpus, keeps_reweigh n I k e s t x (omega (arith, within, tasks)) h'))

  -- and with its rounds
  parked_step : (v : Event) → length s.world.tasks ≡ n → machine.refusal s v ≡ None → IsFineNow n e e s.world → AreParkedRightly s.world.cpus s.world.queues s.world.tree → Now (e + 1) (event_step s v).state.world
  parked_step v tasks ok fine h = keeps_with_rounds n I k e (own_step s v) (parked_own v tasks ok fine h)

-- ---- runs

-- between two events
abbrev Rightly : SimState → Type 0
Rightly s = AreParkedRightly s.state.world.cpus s.state.world.queues s.state.world.tree

rightly_after : (s : SimState) (v : Event) → IsFirm s → Rightly s → Rightly (after_event s v)
rightly_after s v firm h = go (refusal s v) refl
  where
    go : (o : Option Refused) → refusal s v ≡ o → Rightly (stepped_if o s v)
    go None ok = (parked_step (length s.state.world.tasks) s.events s.state v refl (accepted s v ok).taken firm.fine h).1
    go (Some r) ok = h

rightly_on : (s : SimState) (events : List Event) → IsFirm s → Rightly s → Rightly (after_events s events)
rightly_on s [] firm h = h
rightly_on s (e ∷ es) firm h = rightly_on (after_event s e) es (firm_step s e firm) (rightly_after s e firm h)

-- no task is runnable as a machine begins
pub active_started : (p : PolicyState) (tree : Hierarchy) (cpus : ℕ) (t : State) → first_state p tree cpus ≡ Ok t → t.world.tree.active ≡ tree.active
active_started p tree cpus t e =
    keeps_started cpus (λ s. s.world.tree.active ≡ tree.active) (λ s b a u c any h. ap (λ (x : Hierarchy). x.active) (same_called (acting s b) b a s.maps (at_callback s.world b u c)).3 ∙ h) (λ s h. h) p tree t e
    (keeps_homes (λ v. v.tree.active ≡ tree.active) (λ v u c l same. same) (begun_periods (by_policy p (first_world tree cpus))) refl)

-- nor is one in the tree from which it is made
pub none_active : (p : PolicyState) (tree : Hierarchy) (cpus : ℕ) (s : SimState) (u : ℕ) → IsBegun p tree cpus s → is_active_task tree u ≡ false
none_active p tree cpus s u b = go (cases_lt u (length tree.homes))
  where
    test : ℕ → Bool
    test t = is_active_task tree t || is_nowhere tree cpus t

    left : (a c : Bool) → (a || c) ≡ false → a ≡ false
    left true c e = absurd (cc)
    left false c e = refl

    right : (a c : Bool) → (a || c) ≡ false → c ≡ false
    right true c e = absurd (cc)
    right false c e = e

    none : any_below (length tree.homes) test ≡ false
    none = right (nat_lt 64 cpus) (any_below (length tree.homes) test) (right (nat_lt cpus 1) (nat_lt 64 cpus || any_below (length tree.homes) test) b.shape)

    go : (u < length tree.homes) ⊎ (length tree.homes ≤ u) → is_active_task tree u ≡ false
    go (inl l) = left (is_active_task tree u) (is_nowhere tree cpus u) (none_below_at (length tree.homes) u test none l)
    go (inr past) = get_or_past tree.active u false (omega (arith, past, b.flags))

-- so none is in a queue
none_first : (p : PolicyState) (tree : Hierarchy) (cpus : ℕ) (s : SimState) (u : ℕ) (q : Entry) → IsBegun p tree cpus s → entry_of s.state.world.queues u ≡ Some q → ⊥
none_first p tree cpus s u q b e =
    let once = (firm_first p tree cpus s b).fine.sound.once u in
    let sleeps : is_runnable s.state.world u ≡ false = ap (λ (xs : List Bool). get_or xs u false) (active_started p tree cpus s.state b.first.0) ∙ none_active p tree cpus s u b in
    omega (arith, once, ap one_if sleeps, ap (λ (o : Option Entry). one_if (is_some o)) e)

rightly_first : (p : PolicyState) (tree : Hierarchy) (cpus : ℕ) (s : SimState) → IsBegun p tree cpus s → Rightly s
rightly_first p tree cpus s b = (record { last = λ t q e at. absurd (none_first p tree cpus s t q b e); own = λ t u q r e f at here same. absurd (none_first p tree cpus s t q b e) }, λ u q e at. absurd (none_first p tree cpus s u q b e))

-- the law
pub parked_are_throttled : ParkedAreThrottled
parked_are_throttled p tree cpus s events t b at = go (entry_of w.queues t) refl at
  where
    firm : IsFirm s
    firm = firm_first p tree cpus s b

    w : WorldState
    w = (after_events s events).state.world

    go : (o : Option Entry) → entry_of w.queues t ≡ o → option_map (λ q. q.queue) o ≡ Some parked_queue → is_throttled w t ≡ true
    go None e here = absurd (cc)
    go (Some q) e here =
        let sound = (firm_after s events firm).fine.sound in
        let there : t < length w.tasks = omega (arith, waits_known w.queues t (ap (λ (o : Option Entry). is_some o) e), sound.even) in
        and_from (nat_lt t (length w.tasks)) (limits.is_throttled w.tree t) (lt-ltb t (length w.tasks) there) ((rightly_on s events firm (rightly_first p tree cpus s b)).1 t q e (same_Some q.queue parked_queue here))

-- ---- who runs

-- if a throttled task runs on that CPU it is that one
abbrev pub RunsOn : Option ℕ → ℕ → List (Option ℕ) → QueueState → Hierarchy → Type 0
RunsOn o c on s x = (u : ℕ) → get_or on c None ≡ Some u → limits.is_throttled x u ≡ true → o ≡ Some u

-- a property of the CPU stays where a value that has it is written for some CPU
written : (c d : ℕ) (on : List (Option ℕ)) (new : Option ℕ) (Q : Option ℕ → Type 0) → Q new → Q (get_or on c None) → Q (get_or (set on d new) c None)
written c d on new Q one old = each_written (λ i (o : Option ℕ). i ≡ c → Q o) on d new None (λ e. one) (λ i e. subst (λ j. Q (get_or on j None)) (sym e) old) c refl

pub runs_on : (o : Option ℕ) (c : ℕ) → IsOfParked (RunsOn o c)
runs_on o c = record {
  stays = λ on s s' x y same like h. λ u at now. h u at (sym (like u) ∙ now);
  comes = λ on s x t stamped now h. h;
  goes = λ on s x t h. h;
  stops = λ on s x d h. written c d on None (λ v. (u : ℕ) → v ≡ Some u → limits.is_throttled x u ≡ true → o ≡ Some u) (λ u at now. absurd (none u at)) h;
  starts = λ on s x d t free h. written c d on (Some t) (λ v. (u : ℕ) → v ≡ Some u → limits.is_throttled x u ≡ true → o ≡ Some u) (λ u at now. absurd (both x t u free at now)) h;
}
  where
    none : (u : ℕ) → None ≡ Some u → ⊥
    none u e = cc

    both : (x : Hierarchy) (t u : ℕ) → limits.is_throttled x t ≡ false → Some t ≡ Some u → limits.is_throttled x u ≡ true → ⊥
    both x t u free at now = both_ways (limits.is_throttled x t) free (ap (λ k. limits.is_throttled x k) (same_Some t u at) ∙ now)

module _ (n e : ℕ) (s : State) (c : ℕ) (fine : IsFineNow n e e s.world) where
  -- that one ran there before
  abbrev B : ℕ → Option ℕ → List (Option ℕ) → WorldState → Type 0
  B = With n (RunsOn (running s.world c) c) (runs_on (running s.world c) c) (e + 1)

  kb : IsKeptByEvents n B
  kb = events_with n (RunsOn (running s.world c) c) (runs_on (running s.world c) c) (e + 1)

  abbrev Before : ℕ → WorldState → Type 0
  Before m w = B m None w.cpus w

  here : (x : Hierarchy) → RunsOn (running s.world c) c s.world.cpus s.world.queues x
  here x = λ u at now. at

  ticks_before : (d t : ℕ) → d < length s.world.cpus → get_or s.world.cpus d None ≡ Some t → IsKeptByTick n B kb e s.world d t
  ticks_before d t l at =
      let f = fine_ticked n e e s.world d t l at fine in
      record {
        ran = (f.ran, here s.world.tree);
        uses = λ v same tree x.
            let y = f.uses v same tree x.0 in
            let on : RunsOn (running s.world c) c v.cpus (used_ms v t).queues (used_ms v t).tree = subst (λ xs. RunsOn (running s.world c) c xs (used_ms v t).queues (used_ms v t).tree) (sym same) (λ u at now. at) in
            record {
              goes_on = λ free. (y.goes_on free, on);
              leaves = λ up. (y.leaves up, (runs_on (running s.world c) c).stops v.cpus (used_ms v t).queues (used_ms v t).tree d on);
            };
      }

  before_own : (v : Event) → length s.world.tasks ≡ n → machine.refusal s v ≡ None → Before (e + 1) (own_step s v).state.world
  before_own v tasks ok = go v (is_taken s v ok)
    where
      h' : Before e s.world
      h' = (one_more n e e s.world fine, here s.world.tree)

      go : (v : Event) → IsTaken s v → Before (e + 1) (own_step s v).state.world
      go _ (Wakes t within resting) = kb.steps.more e None _ _ (keeps_wake n B kb e s t (omega (arith, within, tasks)) resting h')
      go _ (Sleeps t within runnable) = keeps_sleep n B kb e s t (omega (arith, within, tasks)) runnable h'
      go _ (Ticks d l) = keeps_tick n B kb e s d l h' (λ t at. ticks_before d t l at)
      go _ Clocks = kb.steps.more e None _ _ (keeps_clock n B kb e s (fine_later n e e s.world fine, here (begun_periods (later s.world)).tree))
      go _ (Weighs g x) = kb.steps.more e None _ _ (fine_reweighed n (e + 1) e s.world g x h'.0, keeps_if (λ (w : WorldState). RunsOn (running s.world c) c w.cpus w.queues w.tree) (is_none (weight_fault s.world.tree g x)) (with_tree s.world (with_weight s.world.tree g x)) s.world (here (with_weight s.world.tree g x)) (here s.world.tree))
      go _ (WeighsTask t x within) = kb.steps.more e None _ _ (keeps_now n B kb e _ (s.world.cpus, keeps_reweigh n B kb e s t x (omega (arith, within, tasks)) h'))

  pub before_step : (v : Event) → length s.world.tasks ≡ n → machine.refusal s v ≡ None → Before (e + 1) (event_step s v).state.world
  before_step v tasks ok = keeps_with_rounds n B kb e (own_step s v) (before_own v tasks ok)

  -- ---- its own tick

  -- no throttled task runs there
  abbrev F : ℕ → Option ℕ → List (Option ℕ) → WorldState → Type 0
  F = With n (RunsOn None c) (runs_on None c) (e + 1)

  kf : IsKeptByEvents n F
  kf = events_with n (RunsOn None c) (runs_on None c) (e + 1)

  abbrev Free : ℕ → WorldState → Type 0
  Free m w = F m None w.cpus w

  abbrev Fine : ℕ → Option ℕ → List (Option ℕ) → WorldState → Type 0
  Fine = IsFine n (e + 1)

  off : (on : List (Option ℕ)) (q : QueueState) (x : Hierarchy) → get_or on c None ≡ None → RunsOn None c on q x
  off on q x none = λ u at now. sym none ∙ at

  free_throttled : (v : State) (t : ℕ) → t < n → c < length v.world.cpus → is_throttled v.world t ≡ true → Fine e (Some t) (set v.world.cpus c None) (after_stop v.world c t) → Free (e + 1) (throttle v c t).state.world
  unfolding throttle
  free_throttled v t within l up h =
      let on = set v.world.cpus c None in
      let l' : c < length on = subst (λ k. c < k) (sym (length-set v.world.cpus c None)) l in
      let none : get_or on c None ≡ None = get_or-set_same v.world.cpus c None None l in
      let r = (leaves_cpu v c t 1).state in
      let left = keeps_leaves_cpu n F kf e on v c t 1 l' (h, off on v.world.queues v.world.tree none) in
      let parked = keeps_park n F (inside_of n F kf) (e + 1) on r t within (ap (λ x. limits.is_throttled x t) (honest_leaves_cpu v c t 1).tree ∙ tree_used_up v.world t up) left in
      keeps_now n F kf (e + 1) _ (keeps_cycle n F (inside_of n F kf) (e + 1) on (park r t).state c None true l' tt none parked)

  free_expired : (v : State) (t : ℕ) → c < length v.world.cpus → get_or v.world.cpus c None ≡ Some t → Free e v.world → Free (e + 1) (expire v c t).state.world
  unfolding expire
  free_expired v t l at h = keeps_if (λ (r : Stepped). Free (e + 1) r.state.world) (((task_at v.world t).slice == 0) && ends_slices v) (cycle v c (Some t) true) (stays v) (keeps_cycle_now n F kf e v c (Some t) true l at h) (kf.steps.more e None v.world.cpus v.world h)

  free_used : (r : State) (t : ℕ) → t < n → c < length r.world.cpus → get_or r.world.cpus c None ≡ Some t → length r.world.tasks ≡ n → IsKeptByUse n Fine (fine_events n (e + 1)) e r.world c t → Free (e + 1) (use_up r c t).state.world
  unfolding use_up
  free_used r t within l at tasks y = go (is_throttled v.world t) refl
    where
      v : State
      v = with_world r (used_ms r.world t)

      same : v.world.cpus ≡ r.world.cpus
      same = cpus_used r.world t

      at' : get_or v.world.cpus c None ≡ Some t
      at' = ap (λ (xs : List (Option ℕ)). get_or xs c None) same ∙ at

      l' : c < length v.world.cpus
      l' = subst (λ (xs : List (Option ℕ)). c < length xs) (sym same) l

      many : length v.world.tasks ≡ n
      many = keeps_if (λ (w : WorldState). length w.tasks ≡ n) (nat_lt t (length r.world.tasks)) (with_tree r.world (with_use r.world.tree t)) r.world tasks tasks

      is_it : (u : ℕ) → get_or v.world.cpus c None ≡ Some u → t ≡ u
      is_it u x = same_task (sym at' ∙ x)
        where
          same_task : Some t ≡ Some u → t ≡ u
          same_task e = cc

      go : (b : Bool) → is_throttled v.world t ≡ b → Free (e + 1) (if b then throttle v c t else expire v c t).state.world
      go true up = free_throttled v t within l' up (subst (λ xs. Fine e (Some t) (set xs c None) (after_stop v.world c t)) (sym same) (y.leaves up))
      go false free = free_expired v t l' at' (subst (λ xs. Fine e None xs v.world) (sym same) (y.goes_on free), λ u x now. absurd (both_ways (limits.is_throttled v.world.tree t) (tree_free v.world t (omega (arith, within, many)) free) (ap (λ i. limits.is_throttled v.world.tree i) (is_it u x) ∙ now)))

  free_counted : (t : ℕ) → c < length s.world.cpus → get_or s.world.cpus c None ≡ Some t → Free (e + 1) (count_down s c t).state.world
  unfolding count_down
  free_counted t l at =
      let f = fine_ticked n e e s.world c t l at fine in
      let v = with_world s (after_tick s.world t) in
      let r = (tick_heard v c t).state in
      let x = keeps_heard n Fine (fine_events n (e + 1)) e s.world.cpus v c t l f.ran in
      let same = x.sound.cpus in
      free_used r t (known_running n e e s.world c t l at fine) (subst (λ (xs : List (Option ℕ)). c < length xs) (sym same) l) (ap (λ (xs : List (Option ℕ)). get_or xs c None) same ∙ at) x.sound.tasks (f.uses r.world same (honest_heard v c t).tree x)

  free_tick : c < length s.world.cpus → Free (e + 1) (tick s c).state.world
  unfolding tick
  free_tick l = go (running s.world c) refl
    where
      go : (o : Option ℕ) → running s.world c ≡ o → Free (e + 1) (tick_of o s c).state.world
      go None at = keeps_tick_idle n F kf e s c l at (one_more n e e s.world fine, off s.world.cpus s.world.queues s.world.tree at)
      go (Some t) at = free_counted t l at

  pub free_step : machine.refusal s (Tick c) ≡ None → Free (e + 1) (event_step s (Tick c)).state.world
  free_step ok = keeps_with_rounds n F kf e (own_step s (Tick c)) (go (is_taken s (Tick c) ok))
    where
      go : IsTaken s (Tick c) → Free (e + 1) (own_step s (Tick c)).state.world
      go (Ticks _ l) = free_tick l

-- after an accepted event
runs_step : (s : SimState) (v : Event) (c t : ℕ) → IsFirm s → refusal s v ≡ None → running (stepped_if None s v).state.world c ≡ Some t → is_throttled (stepped_if None s v).state.world t ≡ true → (running s.state.world c ≡ Some t) × (v ≡ Tick c → ⊥)
runs_step s v c t firm ok at now = ((before_step n s.events s.state c firm.fine v refl taken).1 t at (in_tree s' now), λ same. none (subst (λ x. machine.refusal s.state x ≡ None → RunsOn None c (event_step s.state x).state.world.cpus (event_step s.state x).state.world.queues (event_step s.state x).state.world.tree) (sym same) (λ y. (free_step n s.events s.state c firm.fine y).1) taken t at (in_tree s' now)))
  where
    n : ℕ
    n = length s.state.world.tasks

    s' : WorldState
    s' = (event_step s.state v).state.world

    taken : machine.refusal s.state v ≡ None
    taken = (accepted s v ok).taken

    in_tree : (w : WorldState) → is_throttled w t ≡ true → limits.is_throttled w.tree t ≡ true
    in_tree w e = (and_parts (nat_lt t (length w.tasks)) (limits.is_throttled w.tree t) e).1

    none : None ≡ Some t → ⊥
    none e = cc

-- the law
pub throttled_only_run_on : ThrottledOnlyRunOn
throttled_only_run_on p tree cpus s events v c t b ok at now =
    let r = after_events s events in
    let is : after_event r v ≡ stepped_if None r v = ap (λ o. stepped_if o r v) ok in
    runs_step r v c t (firm_after s events (firm_first p tree cpus s b)) ok (subst (λ (x : SimState). running x.state.world c ≡ Some t) is at) (subst (λ (x : SimState). is_throttled x.state.world t ≡ true) is now)
