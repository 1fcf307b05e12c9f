-- A machine of such a policy stays one, through all events.
use Rattle.std.proofs.Common.{◌≡◌, ℕ, zero, suc, Bool, true, false, ◌&&◌, ◌<◌, inl, if◌then◌else◌, List, [], ◌∷◌, length, set, get_or, Option, Some, None, is_none, is_some, Ok, refl, sym, ap, ◌∙◌, subst, arith}
use Rattle.std.proofs.lemmas.Bool.{or_parts}
use Rattle.std.proofs.lemmas.Option.{same_Some}
use Rattle.std.specs.List.{AllByRecursion, list_any}
use Rattle.std.proofs.lemmas.List.{set_past}
use Rattle.std.proofs.lemmas.List.Quantifiers.{position-Some}
use Rattle.scx_dsq.specs.Queues.{len_of, front_of, only}
use Rattle.scx_isa_semantics.specs.declared.rules.Rules.{Rules}
use Rattle.scx_isa_semantics.specs.declared.rules.Rules.TheVariants.{Plain}
use Rattle.scx_weights.specs.declared.group.Group.{Group}
use Rattle.scx_weights.specs.Hierarchy.{Hierarchy, parent_of, quota_at, period_at, is_in_mask}
use Rattle.scx_weights.specs.Hierarchy as groups-of
use Rattle.scx_weights.specs.Limits.{has_quota}
use Rattle.scx_weights.proofs.KnownLimits.{free_of}
use Rattle.scx_sched_world.specs.declared.eject.Eject.{Eject}
use Rattle.scx_sched_world.specs.Ids.{global}
use Rattle.scx_sched_world.specs.First.{first_world}
use Rattle.scx_sched_world.specs.World.{WorldState, are_linux, is_this, cpu_of, running, binds, at_callback}
use Rattle.scx_sched_world.specs.Tasks.{next_for, begun_periods}
use Rattle.scx_sched_machine.specs.declared.events.Event.{Event}
use Rattle.scx_sched_machine.specs.declared.events.Event.TheVariants.{Wake, Sleep, Tick, Clock, SetWeight, SetTaskWeight}
use Rattle.scx_sched_machine.specs.declared.events.Refused.{Refused}
use Rattle.scx_sched_policy.specs.Policy.{PolicyState}
use Rattle.scx_sched_machine.specs.Steps.{State, Stepped, is_by_linux}
use Rattle.scx_sched_machine.specs.Callbacks.{acting}
use Rattle.scx_sched_machine.specs.Events as machine
use Rattle.scx_sched_machine.specs.Events.{sleep_from, sleep, tick}
use Rattle.scx_sched_machine.specs.Start.{by_policy, first_state}
use Rattle.scx_sched.specs.Decided.{used_at_tick, tree_after}
use Rattle.scx_sched.specs.Sim.{SimState, refusal, stepped_if, after_event}
use Rattle.scx_sched.proofs.Begins.{keeps_started}
use Rattle.scx_sched.proofs.Deciding.{accepted, decides, tick_plain}
use Rattle.scx_sched.proofs.Events.{is_task, IsTaken, Wakes, Sleeps, Ticks, Clocks, Weighs, WeighsTask, is_taken}
use Rattle.scx_sched.proofs.First.{policy_started, rules_started}
use Rattle.scx_sched.proofs.Firsts.{no_front_is_empty}
use Rattle.scx_sched.proofs.Homes.{keeps_homes}
use Rattle.scx_sched.proofs.Unchanged.{same_called}
use Rattle.scx_laws.specs.Runs.{IsBegun, after_events}
use Rattle.scx_laws.specs.Serving.{ServesQueues, IdlesForNobody, looks, StepLeavesNobody, NobodyIsLeft}
use Rattle.scx_laws.proofs.Sound.{as_many, IsFirm, firm_first, firm_step}
use Rattle.scx_laws.proofs.Plain.{rounds_plain}
use Rattle.scx_laws.proofs.Emptying.{NoneNext, EmptiesIfIdle}
use Rattle.scx_laws.proofs.Finding.{IsServing, tick_empties, IsSlept, sleep_empties}

-- ---- one tick

-- by the rules of a policy that is in force
rules_plain : (b : Bool) (o : Option Eject) → (b && is_none o) ≡ false → o ≡ None → b ≡ false
rules_plain false o e force = refl
rules_plain true None e force = absurd (cc)
rules_plain true (Some x) e force = absurd (cc)

-- where tasks aren't bound, a queue of which no processor sees a task is empty
none_in : (w : WorldState) (q c : ℕ) → binds w ≡ false → next_for w q c ≡ None → len_of w.queues q ≡ 0
none_in w q c free none = no_front_is_empty w.queues q (sym (ap (λ b. front_of (if b then only (λ t. is_in_mask w.tree t c) w.queues else w.queues) q) free) ∙ none)

-- nor are those in which none sees a task
none_in_any : (w : WorldState) (c : ℕ) (qs : List ℕ) → binds w ≡ false → NoneNext c qs w → AllByRecursion (λ q. len_of w.queues q ≡ 0) qs
none_in_any w c [] free none = tt
none_in_any w c (q ∷ qs) free none = (none_in w q c free none.0, none_in_any w c qs free none.1)

-- what was shown, in the words of the law
none_waits : (qs : List ℕ) (s : State) (c : ℕ) → is_by_linux s ≡ false → EmptiesIfIdle qs c s.world → IdlesForNobody qs s.world c
none_waits qs s c plain h force idle =
    let w = s.world in
    let x = h force (ap (λ o. is_none o) idle) in
    let unbound : binds w ≡ false = ap (λ b. b && groups-of.binds w.tree) (rules_plain (are_linux w.rules) w.ejected plain force) in
    record { served = none_in_any w c qs unbound x.1.1; local = x.0; global = none_in w global c unbound x.1.0 }

-- the law of a step
pub step_leaves_none : StepLeavesNobody
unfolding sleep
step_leaves_none qs n e s v c serves plain free h ok at = go v (is_taken s v ok) at
  where
    such : IsServing qs s
    such = record { serves = serves; quiet = inl plain; free = free }

    ticked : (d : ℕ) → d < length s.world.cpus → IdlesForNobody qs (machine.event_step s (Tick d)).state.world d
    ticked d l =
        let still = tick_plain s e (as_many n e s.world h) d l plain in
        subst (λ (r : Stepped). IdlesForNobody qs r.state.world d) (sym (rounds_plain (tick s d) still)) (none_waits qs (tick s d).state d still (tick_empties qs n e s d plain such l h))

    slept : (t : ℕ) → t < length s.world.tasks → cpu_of s.world t ≡ Some c → IdlesForNobody qs (machine.event_step s (Sleep t)).state.world c
    slept t within runs =
        let x = position-Some (is_this t) s.world.cpus c None runs in
        let y = sleep_empties qs n e s t c plain such (omega (arith, within, h.sound.tasks)) x.0 (is_task t (get_or s.world.cpus c None) x.1) h in
        let own : IsSlept qs (sleep s t).state c = subst (λ o. IsSlept qs (sleep_from o s t).state c) (sym runs) y in
        subst (λ (r : Stepped). IdlesForNobody qs r.state.world c) (sym (rounds_plain (sleep s t) own.plain)) (none_waits qs (sleep s t).state c own.plain own.empties)

    go : (v : Event) → IsTaken s v → looks s.world v ≡ Some c → IdlesForNobody qs (machine.event_step s v).state.world c
    go _ (Ticks d l) at = subst (λ k. IdlesForNobody qs (machine.event_step s (Tick d)).state.world k) (same_Some d c at) (ticked d l)
    go _ (Sleeps t within runnable) at = slept t within at
    go _ (Wakes t within resting) at = absurd (cc)
    go _ Clocks at = absurd (cc)
    go _ (Weighs g x) at = absurd (cc)
    go _ (WeighsTask t x within) at = absurd (cc)

-- ---- no quotas come

none_set : {X : Type 0} (test : X → Bool) (xs : List X) (k : ℕ) (y : X) → list_any test xs ≡ false → test y ≡ false → list_any test (set xs k y) ≡ false
none_set test [] k y none e = ap (λ zs. list_any test zs) (set_past [] k y (omega arith))
none_set test (x ∷ xs) zero y none e = rw e (or_parts (test x) (list_any test xs) none).1
none_set test (x ∷ xs) (suc k) y none e = let parts = or_parts (test x) (list_any test xs) none in rw parts.0 (none_set test xs k y parts.1 e)

free_used : (o : Option ℕ) (t : Hierarchy) → has_quota t.groups ≡ false → has_quota (used_at_tick o t).groups ≡ false
free_used None t free = free
free_used (Some k) t free = free

-- an event gives no group a quota
pub free_after : (e : Event) (w : WorldState) → has_quota w.tree.groups ≡ false → has_quota (tree_after e w).groups ≡ false
free_after (Wake t) w free = free
free_after (Sleep t) w free = free
free_after (Tick c) w free = free_used (running w c) w.tree free
free_after Clock w free = free
free_after (SetWeight g x) w free = none_set (λ (k : Group). is_some k.quota_ms) w.tree.groups g (record { parent = parent_of w.tree.groups g; weight = x; quota_ms = quota_at w.tree.groups g; period_ms = period_at w.tree.groups g }) free (ap (λ (o : Option ℕ). is_some o) (free_of w.tree.groups free g))
free_after (SetTaskWeight t x) w free = free

-- ---- all events

-- a machine of such a policy between two events
record IsSteady (qs : List ℕ) (s : SimState) : Type 0 where
  serves : ServesQueues qs s.state.policy
  rules : s.state.world.rules ≡ Plain
  free : has_quota s.state.world.tree.groups ≡ false
  firm : IsFirm s

-- no machine begins with a quota that its tree hasn't
pub free_first : (p : PolicyState) (tree : Hierarchy) (cpus : ℕ) (s : State) → has_quota tree.groups ≡ false → first_state p tree cpus ≡ Ok s → has_quota s.world.tree.groups ≡ false
free_first p tree cpus s free e =
    keeps_started cpus (λ v. has_quota v.world.tree.groups ≡ false) (λ v b a u c any h. ap (λ (t : Hierarchy). has_quota t.groups) (same_called (acting v b) b a v.maps (at_callback v.world b u c)).3 ∙ h) (λ v h. h) p tree s e
    (keeps_homes (λ v. has_quota v.tree.groups ≡ false) (λ v u c l same. same) (begun_periods (by_policy p (first_world tree cpus))) free)

steady_first : (qs : List ℕ) (p : PolicyState) (tree : Hierarchy) (cpus : ℕ) (s : SimState) → ServesQueues qs p → p.rules ≡ Plain → has_quota tree.groups ≡ false → IsBegun p tree cpus s → IsSteady qs s
steady_first qs p tree cpus s serves plain free b = record {
  serves = subst (λ (q : PolicyState). ServesQueues qs q) (sym (policy_started p tree cpus s.state b.first.0)) serves;
  rules = rules_started p tree cpus s.state b.first.0 ∙ plain;
  free = free_first p tree cpus s.state free b.first.0;
  firm = firm_first p tree cpus s b;
}

steady_step : (qs : List ℕ) (s : SimState) (e : Event) → IsSteady qs s → IsSteady qs (after_event s e)
steady_step qs s e h = go (refusal s e) refl (firm_step s e h.firm)
  where
    go : (o : Option Refused) → refusal s e ≡ o → IsFirm (stepped_if o s e) → IsSteady qs (stepped_if o s e)
    go (Some r) ok firm = h
    go None ok firm =
        let d = decides s.state s.events e (accepted s e ok).taken h.firm.fine in
        record {
          serves = subst (λ (q : PolicyState). ServesQueues qs q) (sym d.policy) h.serves;
          rules = d.rules ∙ h.rules;
          free = ap (λ (t : Hierarchy). has_quota t.groups) d.tree ∙ free_after e s.state.world h.free;
          firm = firm;
        }

steady_after : (qs : List ℕ) (s : SimState) (events : List Event) → IsSteady qs s → IsSteady qs (after_events s events)
steady_after qs s [] h = h
steady_after qs s (e ∷ es) h = steady_after qs (after_event s e) es (steady_step qs s e h)

-- an accepted event of such a machine
steady_event : (qs : List ℕ) (s : SimState) (v : Event) (c : ℕ) → refusal s v ≡ None → looks s.state.world v ≡ Some c → IsSteady qs s → IdlesForNobody qs (machine.event_step s.state v).state.world c
steady_event qs s v c ok at h =
    let plain : is_by_linux s.state ≡ false = ap (λ (r : Rules). are_linux r && is_none s.state.world.ejected) h.rules in
    step_leaves_none qs (length s.state.world.tasks) s.events s.state v c h.serves plain h.free h.firm.fine (accepted s v ok).taken at

-- the law of all events
pub none_is_left : NobodyIsLeft
none_is_left qs p tree cpus s events v c serves plain free b ok at =
    let t = after_events s events in
    subst (λ (o : Option Refused). IdlesForNobody qs (stepped_if o t v).state.world c) (sym ok)
    (steady_event qs t v c ok at (steady_after qs s events (steady_first qs p tree cpus s serves plain free b)))
