-- The machine of a run is that of the two texts, as it begins and after each event.
use Rattle.std.proofs.Common.{◌≡◌, ℕ, ◌<◌, ◌≤◌, ◌⊎◌, inl, inr, Bool, true, false, eqb, cond, List, [], ◌∷◌, length, set, Option, None, Some, is_none, Ok, refl, sym, ap, subst, ◌∙◌, arith}
use Rattle.std.proofs.lemmas.Bool.{cases_eq, cases_lt, le-ltb}
use Rattle.std.proofs.lemmas.List.{length-set, get_or-set_same, get_or-set_other, set_past}
use Rattle.scx_weights.specs.declared.group.Group.{Group}
use Rattle.scx_weights.specs.Hierarchy.{Hierarchy, group_at, parent_of, quota_at, period_at, with_weight_of, with_weight}
use Rattle.scx_weights.specs.Refusals.{weight_fault}
use Rattle.scx_sched_world.specs.World.{WorldState, with_tree, running}
use Rattle.scx_sched_machine.specs.declared.events.Event.{Event}
use Rattle.scx_sched_machine.specs.declared.events.Event.TheVariants as event
use Rattle.scx_sched_machine.specs.declared.events.Refused.{Refused}
use Rattle.scx_sched_machine.specs.declared.events.Refused.TheVariants.{UnknownTask, RunOver}
use Rattle.scx_sched_machine.specs.Events as machine
use Rattle.scx_sched_policy.specs.Policy.{PolicyState}
use Rattle.scx_sched_machine.specs.Start.{first_state, start_calls}
use Rattle.scx_sched_machine.specs.Steps.{State}
use Rattle.scx_sched_machine.proofs.Choices.{keeps_if}
use Rattle.scx_sched.specs.Sim.{SimState, IsFirstState, max_events, refusal, after_event, stepped_if}
use Rattle.scx_sched.specs.Decided.{used_at_tick, tree_after, Follows}
use Rattle.scx_sched.proofs.First.{policy_started}
use Rattle.scx_load_policies.specs.Policies.{PolicyFile}
use Rattle.scx_load_policies.specs.Building.{IsBuilt}
use Rattle.scx_load_workloads.specs.Workload.{WorkloadState, first_tree}
use Rattle.scx_load_driver.proofs.Alike.{IsLike, Times, times_of, like_first, like_rounds}
use Rattle.scx_load_driver.proofs.Happening.{like_clock, like_tick, like_wake, like_sleep, like_weighed_task}
use Rattle.scx_load_driver.specs.Headline.{Run, states_from, run_from, run_if, machine_run}
use Rattle.scxsim_trace.specs.Runs.{StaysInOrder}
use Rattle.scxsim_simulation.specs.Machines.{HasGroups, IsMachineOf, weights_given, weights_after, AreMachinesOf}

-- ---- how many tasks and processors there are

-- the second has as many tasks and processors as the first
abbrev HasSize : State → State → Type 0
HasSize s t = (length t.world.tasks ≡ length s.world.tasks) × (length t.world.cpus ≡ length s.world.cpus)

-- as many tasks as now, which have run as long
abbrev times : State → Times
times s = times_of (length s.world.tasks) s.world

like_now : (s : State) → IsLike s.world.tree (times s) (length s.world.cpus) s.world
like_now s = ((refl, refl, refl, refl, refl), (refl, λ u. omega arith), refl)

-- a task that isn't there can't sleep
not_there : (s : State) (t : ℕ) → length s.world.tasks ≤ t → machine.refusal s (event.Sleep t) ≡ Some UnknownTask
not_there s t past = rw (le-ltb t (length s.world.tasks) past) refl

stays_as_large : (v : Event) (s : State) → machine.refusal s v ≡ None → HasSize s (machine.event_step s v).state
stays_as_large (event.Wake t) s accepted =
    let x = like_wake s.world.tree (times s) (length s.world.cpus) s t (like_now s) in
    (x.1.0, x.2)
stays_as_large (event.Sleep t) s accepted = go (cases_lt t (length s.world.tasks))
  where
    go : (t < length s.world.tasks) ⊎ (length s.world.tasks ≤ t) → HasSize s (machine.event_step s (event.Sleep t)).state
    go (inl there) =
        let x = like_sleep s.world.tree (times s) (length s.world.cpus) s t there (like_now s) in
        (x.1.0, x.2)
    go (inr past) =
        let wrong : Some UnknownTask ≡ None = sym (not_there s t past) ∙ accepted in
        absurd (cc)
stays_as_large (event.Tick c) s accepted =
    let x = like_tick s.world.tree (times s) (length s.world.cpus) s c (like_now s) in
    (x.1.0, x.2)
stays_as_large event.Clock s accepted =
    let x = like_clock s.world.tree (times s) (length s.world.cpus) s (like_now s) in
    (x.1.0, x.2)
stays_as_large (event.SetWeight g x) s accepted =
    let own = machine.own_step s (event.SetWeight g x) in
    let b = is_none (weight_fault s.world.tree g x) in
    let v = with_tree s.world (with_weight s.world.tree g x) in
    let alike : IsLike own.state.world.tree (times s) (length s.world.cpus) own.state.world = keeps_if (λ (w : WorldState). IsLike w.tree (times s) (length s.world.cpus) w) b v s.world ((refl, refl, refl, refl, refl), (refl, λ u. omega arith), refl) ((refl, refl, refl, refl, refl), (refl, λ u. omega arith), refl) in
    let y = like_rounds own.state.world.tree (times s) (length s.world.cpus) own alike in
    (y.1.0, y.2)
stays_as_large (event.SetTaskWeight t x) s accepted =
    let y = like_weighed_task s.world.tree (times s) (length s.world.cpus) s t x (like_now s) in
    (y.1.0, y.2)

by_machine : (b : Bool) (o : Option Refused) → cond b (Some RunOver) o ≡ None → o ≡ None
by_machine true o e = absurd (cc)
by_machine false o e = e

stays_as_large_counted : (v : Event) (s : SimState) → refusal s v ≡ None → HasSize s.state (after_event s v).state
stays_as_large_counted v s accepted =
    subst (λ o. HasSize s.state (stepped_if o s v).state) (sym accepted)
    (stays_as_large v s.state (by_machine (eqb s.events max_events) (machine.refusal s.state v) accepted))

-- ---- groups and tasks

abbrev no_group : Group
no_group = record { parent = None; weight = 0; quota_ms = None; period_ms = 0 }

-- what a weight doesn't change of groups
reweighed : {A : Type 0} (f : Group → A) (groups : List Group) (g x k : ℕ) → f (record { parent = parent_of groups g; weight = x; quota_ms = quota_at groups g; period_ms = period_at groups g }) ≡ f (group_at groups g) → f (group_at (with_weight_of groups g x) k) ≡ f (group_at groups k)
reweighed f groups g x k same = go (cases_eq k g) (cases_lt g (length groups))
  where
    new : Group
    new = record { parent = parent_of groups g; weight = x; quota_ms = quota_at groups g; period_ms = period_at groups g }

    go : (k ≡ g) ⊎ (k ≡ g → ⊥) → (g < length groups) ⊎ (length groups ≤ g) → f (group_at (set groups g new) k) ≡ f (group_at groups k)
    go (inl e) (inl l) = rw (e) (ap f (get_or-set_same groups g new no_group l) ∙ same)
    go (inl e) (inr past) = ap (λ gs. f (group_at gs k)) (set_past groups g new past)
    go (inr d) l = ap f (get_or-set_other groups g k new no_group d)

module _ (groups : List Group) (homes : List ℕ) where
  -- another weight of a group
  has_groups_reweighed : (t u : Hierarchy) (g x : ℕ) → u.groups ≡ with_weight_of t.groups g x → u.homes ≡ t.homes → HasGroups groups homes t → HasGroups groups homes u
  has_groups_reweighed t u g x same still h = record {
    count = ap (λ gs. length gs) same ∙ length-set t.groups g _ ∙ h.count;
    parents = λ k. ap (λ gs. parent_of gs k) same ∙ reweighed (λ (y : Group). y.parent) t.groups g x k refl ∙ h.parents k;
    quotas = λ k. ap (λ gs. quota_at gs k) same ∙ reweighed (λ (y : Group). y.quota_ms) t.groups g x k refl ∙ h.quotas k;
    periods = λ k. ap (λ gs. period_at gs k) same ∙ reweighed (λ (y : Group). y.period_ms) t.groups g x k refl ∙ h.periods k;
    tasks = still ∙ h.tasks;
  }

  -- the same groups and tasks
  has_groups_still : (t u : Hierarchy) → u.groups ≡ t.groups → u.homes ≡ t.homes → HasGroups groups homes t → HasGroups groups homes u
  has_groups_still t u same still h = record {
    count = ap (λ gs. length gs) same ∙ h.count;
    parents = λ k. ap (λ gs. parent_of gs k) same ∙ h.parents k;
    quotas = λ k. ap (λ gs. quota_at gs k) same ∙ h.quotas k;
    periods = λ k. ap (λ gs. period_at gs k) same ∙ h.periods k;
    tasks = still ∙ h.tasks;
  }

  has_groups_used : (o : Option ℕ) (t : Hierarchy) → HasGroups groups homes t → HasGroups groups homes (used_at_tick o t)
  has_groups_used None t h = h
  has_groups_used (Some k) t h = has_groups_still t _ refl refl h

  has_groups_after : (e : Event) (w : WorldState) → HasGroups groups homes w.tree → HasGroups groups homes (tree_after e w)
  has_groups_after (event.Wake t) w h = has_groups_still w.tree _ refl refl h
  has_groups_after (event.Sleep t) w h = has_groups_still w.tree _ refl refl h
  has_groups_after (event.Tick c) w h = has_groups_used (running w c) w.tree h
  has_groups_after event.Clock w h = has_groups_still w.tree _ refl refl h
  has_groups_after (event.SetWeight g x) w h = has_groups_reweighed w.tree _ g x refl refl h
  has_groups_after (event.SetTaskWeight t x) w h = has_groups_still w.tree _ refl refl h

-- a tick leaves tasks their own weights
used_weights : (o : Option ℕ) (t : Hierarchy) → (used_at_tick o t).own_weights ≡ t.own_weights
used_weights None t = refl
used_weights (Some k) t = refl

-- and their masks
used_masks : (o : Option ℕ) (t : Hierarchy) → (used_at_tick o t).masks ≡ t.masks
used_masks None t = refl
used_masks (Some k) t = refl

-- no event changes masks
masks_told : (e : Event) (w : WorldState) → (tree_after e w).masks ≡ w.tree.masks
masks_told (event.Wake t) w = refl
masks_told (event.Sleep t) w = refl
masks_told (event.Tick c) w = used_masks (running w c) w.tree
masks_told event.Clock w = refl
masks_told (event.SetWeight g x) w = refl
masks_told (event.SetTaskWeight t x) w = refl

-- an event leaves tasks their own weights, but for the task to which it gives another
weights_told : (e : Event) (w : WorldState) (own : List ℕ) → w.tree.own_weights ≡ own → (tree_after e w).own_weights ≡ weights_given own e
weights_told (event.Wake t) w own is = is
weights_told (event.Sleep t) w own is = is
weights_told (event.Tick c) w own is = used_weights (running w c) w.tree ∙ is
weights_told event.Clock w own is = is
weights_told (event.SetWeight g x) w own is = is
weights_told (event.SetTaskWeight t x) w own is = ap (λ xs. set xs t x) is

-- ---- a run

module _ (p : PolicyFile) (w : WorkloadState) where
  -- as it begins
  begins_as : (q : PolicyState) (s : SimState) → IsBuilt p q → q.seed ≡ w.seed → first_state q (first_tree w) w.cpus ≡ Ok s.state → IsMachineOf p w w.own_weights s
  begins_as q s built seeded first =
      let tree = first_tree w in
      let x = like_first q tree w.cpus s.state first in
      record {
        policy = subst (IsBuilt p) (sym (policy_started q tree w.cpus s.state first)) built;
        seed = ap (λ (r : PolicyState). r.seed) (policy_started q tree w.cpus s.state first) ∙ seeded;
        cpus = x.2;
        tasks = x.1.0;
        tree = has_groups_still w.groups w.homes tree s.state.world.tree x.0.0 x.0.1 (record { count = refl; parents = λ g. refl; quotas = λ g. refl; periods = λ g. refl; tasks = refl });
        weights = x.0.3;
        masks = x.0.4;
      }

  -- after an event
  goes_on_as : (o : Option Refused) (own : List ℕ) (s : SimState) (e : Event) (t : SimState) → (o ≡ None → HasSize s.state t.state) → Follows o s e t → IsMachineOf p w own s → IsMachineOf p w (weights_after o own e) t
  goes_on_as None own s e t large h m =
      let size = large refl in
      record {
        policy = subst (IsBuilt p) (sym h.0.policy) m.policy;
        seed = ap (λ (r : PolicyState). r.seed) h.0.policy ∙ m.seed;
        cpus = size.1 ∙ m.cpus;
        tasks = size.0 ∙ m.tasks;
        tree = subst (HasGroups w.groups w.homes) (sym h.0.tree) (has_groups_after w.groups w.homes e s.state.world m.tree);
        weights = ap (λ (t : Hierarchy). t.own_weights) h.0.tree ∙ weights_told e s.state.world own m.weights;
        masks = ap (λ (t : Hierarchy). t.masks) h.0.tree ∙ masks_told e s.state.world ∙ m.masks;
      }
  goes_on_as (Some r) own s e t large h m = subst (IsMachineOf p w own) (sym h) m

  -- as it begins and after each of these events
  stays_as : (own : List ℕ) (s : SimState) (events : List Event) → IsMachineOf p w own s → StaysInOrder s events → AreMachinesOf p w own events (states_from s events)
  stays_as own s [] m h = m
  stays_as own s (e ∷ es) m (now, well, more) =
      let next = goes_on_as (refusal s e) own s e (after_event s e) (stays_as_large_counted e s) well.1 m in
      (m, stays_as (weights_after (refusal s e) own e) (after_event s e) es next more)

  -- in its whole run
  pub is_that_machine : (q : PolicyState) (s : SimState) (events : List Event) → IsBuilt p q → q.seed ≡ w.seed → IsFirstState q (first_tree w) w.cpus s → StaysInOrder s events → AreMachinesOf p w w.own_weights events (machine_run q (first_tree w) w.cpus events).states
  is_that_machine q s events built seeded first h =
      let tree = first_tree w in
      let from_state : ℕ → Run = λ n. run_from (start_calls q tree w.cpus) (record { state = s.state; events = n }) events in
      let same : machine_run q tree w.cpus events ≡ run_from (start_calls q tree w.cpus) s events = ap (λ r. run_if r (start_calls q tree w.cpus) events) first.0 ∙ ap from_state (sym first.1) in
      subst (λ (r : Run). AreMachinesOf p w w.own_weights events r.states) (sym same) (stays_as w.own_weights s events (begins_as q s built seeded first.0) h)
