-- Two machines that are the same but for what ticks count answer events alike, and a tick after which a task goes on only counts.
use Rattle.std.proofs.Common.{◌≡◌, ℕ, Bool, true, false, cond, ◌==◌, ◌&&◌, nat_lt, is_none, List, get_or, length, Option, Some, None, refl, sym, ap, ◌∙◌, subst}
use Rattle.std.specs.Prelude.{IfSome}
use Rattle.scx_weights.specs.Hierarchy as tree
use Rattle.scx_weights.specs.Refusals.{max_weight, is_outside, weight_fault, own_weight_fault}
use Rattle.scx_sched_tasks.specs.declared.task.Task.{Task}
use Rattle.scx_sched_tasks.specs.Tasks.{no_task}
use Rattle.scx_sched_world.specs.World.{WorldState, with_tree, task_at, is_runnable, is_throttled, running}
use Rattle.scx_sched_world.specs.Tasks.{counted_down, ran_a_tick, after_tick, used_ms, after_reweigh, after_own_weight}
use Rattle.scx_sched_policy.specs.Policy.{PolicyState}
use Rattle.scx_sched_machine.specs.declared.events.Event.{Event}
use Rattle.scx_sched_machine.specs.declared.events.Event.TheVariants.{Wake, Sleep, Tick, Clock, SetWeight, SetTaskWeight}
use Rattle.scx_sched_machine.specs.declared.events.Refused.{Refused}
use Rattle.scx_sched_machine.specs.declared.events.Refused.TheVariants.{AlreadyRunnable, NotRunnable, UnknownTask, BadWeight, RunOver}
use Rattle.scx_sched_machine.specs.Steps.{State, with_world, is_by_linux, stays}
use Rattle.scx_sched_machine.specs.Cycle.{cycle}
use Rattle.scx_sched_machine.specs.Events as machine
use Rattle.scx_sched_machine.specs.Events.{throttle, ends_slices, expire, use_up, count_down, tick_of, tick, reweigh_by_linux, reweigh, own_step, event_step}
use Rattle.scx_sched_machine.proofs.Choices.{keeps_if}
use Rattle.scx_sched.specs.Sim.{SimState, max_events, refusal, stepped_if, after_event}
use Rattle.scx_explore_findings.specs.Asked.{AskAnyhow}
use Rattle.scx_explore_findings.specs.Counted.{without_counts, uncounted_state, AreSame, LoadsNoCount, is_last, EndAlike, IsInForcePlainly, IsMet, AnswersAlike, CountsChangeNothing, TicksOnlyCount}
use Rattle.scx_explore_findings.proofs.CountedWorlds.{Same, Leaves, plain, across, either, known, throttled_same, leaves_used}
use Rattle.scx_explore_findings.proofs.CountedSteps.{IsEven, Ends, Meet, even_step, worlds_same, not_linux, plainly, plainly_there}
use Rattle.scx_explore_findings.proofs.CountedCycles.{as_they_are}
use Rattle.scx_explore_findings.proofs.CountedEvents.{no_rounds, not_heard, used_tasks, used_slice, plain_ends, on_wake, on_sleep, on_clock, on_tick_idle, on_count_down}
use Rattle.scx_explore_findings.proofs.CountedTicks.{over_there, changed, goes_on, only_counted}

reweighed_ejected : (w : WorldState) (g x : ℕ) → (after_reweigh w g x).ejected ≡ w.ejected
reweighed_ejected w g x = keeps_if (λ (v : WorldState). v.ejected ≡ w.ejected) (is_none (weight_fault w.tree g x)) _ w refl refl

reweighed_rules : (w : WorldState) (g x : ℕ) → (after_reweigh w g x).rules ≡ w.rules
reweighed_rules w g x = keeps_if (λ (v : WorldState). v.rules ≡ w.rules) (is_none (weight_fault w.tree g x)) _ w refl refl

weighed_ejected : (w : WorldState) (t x : ℕ) → (after_own_weight w t x).ejected ≡ w.ejected
weighed_ejected w t x = keeps_if (λ (v : WorldState). v.ejected ≡ w.ejected) (is_none (own_weight_fault w.tree t x)) _ w refl refl

weighed_rules : (w : WorldState) (t x : ℕ) → (after_own_weight w t x).rules ≡ w.rules
weighed_rules w t x = keeps_if (λ (v : WorldState). v.rules ≡ w.rules) (is_none (own_weight_fault w.tree t x)) _ w refl refl

leaves_reweigh : (g x : ℕ) → Leaves (λ w. after_reweigh w g x)
leaves_reweigh g x w = either (is_none (weight_fault w.tree g x)) (is_none (weight_fault w.tree g x)) _ _ w (without_counts w) refl (plain (with_tree w (tree.with_weight w.tree g x))) (plain w)

leaves_own_weight : (t x : ℕ) → Leaves (λ w. after_own_weight w t x)
leaves_own_weight t x w = either (is_none (own_weight_fault w.tree t x)) (is_none (own_weight_fault w.tree t x)) _ _ w (without_counts w) refl (plain (with_tree w (tree.with_own_weight w.tree t x))) (plain w)

reweighs : (s : State) (t x : ℕ) → is_by_linux s ≡ false → (reweigh s t x).state ≡ with_world s (after_own_weight s.world t x)
unfolding reweigh
reweighs s t x e = ap (λ (b : Bool). (cond b (reweigh_by_linux s t x) (stays (with_world s (after_own_weight s.world t x)))).state) e

-- an event is refused for the same cause
refusal_same : (s : State) (e : Event) → machine.refusal s e ≡ machine.refusal (uncounted_state s) e
refusal_same s (Wake t) = ap (λ (b : Bool). cond b (cond (is_runnable s.world t) (Some AlreadyRunnable) None) (Some UnknownTask)) (known s.world t)
refusal_same s (Sleep t) = ap (λ (b : Bool). cond b (cond (is_runnable s.world t) None (Some NotRunnable)) (Some UnknownTask)) (known s.world t)
refusal_same s (Tick c) = refl
refusal_same s Clock = refl
refusal_same s (SetWeight g x) = refl
refusal_same s (SetTaskWeight t x) = ap (λ (b : Bool). cond b (cond (is_outside max_weight x) (Some BadWeight) None) (Some UnknownTask)) (known s.world t)

module _ (p : PolicyState) (told : AskAnyhow LoadsNoCount p) where
  -- ---- an event

  on_tick_of : (o : Option ℕ) (c : ℕ) (s t : State) → IsEven p told s t → IfSome o (EndAlike s.world t.world) → Meet p told (tick_of o s c) (tick_of o t c)
  on_tick_of None c s t e alike = on_tick_idle p told c s t e
  on_tick_of (Some u) c s t e alike =
      let same = worlds_same p told s t e in
      on_count_down p told c u s t e (only_counted s.world u) (only_counted t.world u) (over_there s.world t.world u same alike)

  on_tick : (c : ℕ) (s t : State) → IsEven p told s t → IfSome (running s.world c) (EndAlike s.world t.world) → Meet p told (tick s c) (tick t c)
  unfolding tick
  on_tick c s t e alike =
      subst (λ (o : Option ℕ). Meet p told (tick_of (running s.world c) s c) (tick_of o t c)) (ap (λ (x : State). running x.world c) e.same) (on_tick_of (running s.world c) c s t e alike)

  -- any event but a tick of a CPU whose task goes on in one of both
  abbrev Answers : Event → State → State → Type 0
  Answers (Tick c) s t = IfSome (running s.world c) (EndAlike s.world t.world)
  Answers e s t = Unit {0}

  on_own : (v : Event) (s t : State) → IsEven p told s t → Answers v s t → Meet p told (own_step s v) (own_step t v)
  on_own (Wake u) s t e alike = on_wake p told u s t e
  on_own (Sleep u) s t e alike = on_sleep p told u s t e
  on_own (Tick c) s t e alike = on_tick c s t e alike
  on_own Clock s t e alike = on_clock p told s t e
  on_own (SetWeight g x) s t e alike =
      let k = even_step p told (λ w. after_reweigh w g x) (leaves_reweigh g x) s t e (reweighed_ejected s.world g x) (reweighed_rules s.world g x) in
      (ap (λ (y : State). y.world.ejected) k.same, λ force. k)
  on_own (SetTaskWeight u x) s t e alike =
      let k = even_step p told (λ w. after_own_weight w u x) (leaves_own_weight u x) s t e (weighed_ejected s.world u x) (weighed_rules s.world u x) in
      as_they_are p told (Ends p told) (with_world s (after_own_weight s.world u x)) (reweigh s u x).state (with_world t (after_own_weight t.world u x)) (reweigh t u x).state
      (reweighs s u x (plainly p told s t e)) (reweighs t u x (plainly_there p told s t e)) (ap (λ (y : State). y.world.ejected) k.same, λ force. k)

  on_event : (v : Event) (s t : State) → IsEven p told s t → Answers v s t → Meet p told (event_step s v) (event_step t v)
  on_event v s t e alike =
      let r = own_step s v in
      let q = own_step t v in
      let h = on_own v s t e alike in
      let plains = plain_ends p told r.state q.state h in
      as_they_are p told (Ends p told) r.state (event_step s v).state q.state (event_step t v).state (no_rounds r plains.0) (no_rounds q plains.1) h

-- ---- machines

in_room : (s : SimState) (e : Event) → (s.events == max_events) ≡ false → refusal s e ≡ machine.refusal s.state e
in_room s e room = ap (λ (b : Bool). cond b (Some RunOver) (machine.refusal s.state e)) room

module _ (s t : SimState) (e : Event) (h : IsInForcePlainly s) (room : (t.events == max_events) ≡ false) (same : AreSame s t) where
  refusal_there : refusal s e ≡ refusal t e
  refusal_there =
      in_room s e h.room ∙ refusal_same s.state e ∙ ap (λ (x : State). machine.refusal x e) same ∙ sym (refusal_same t.state e) ∙ sym (in_room t e room)

  even : IsEven s.state.policy h.told s.state t.state
  even = record { same = same; force = h.force; rules = h.rules; policy = refl }

  module _ (alike : Answers s.state.policy h.told e s.state t.state) where
    ends : Ends s.state.policy h.told (after_event s e).state (after_event t e).state
    ends = subst (λ (o : Option Refused). Ends s.state.policy h.told (after_event s e).state (stepped_if o t e).state) refusal_there (go (refusal s e))
      where
        go : (o : Option Refused) → Ends s.state.policy h.told (stepped_if o s e).state (stepped_if o t e).state
        go None = on_event s.state.policy h.told e s.state t.state even alike
        go (Some r) = (ap (λ (y : State). y.world.ejected) same, λ force. even)

    answers : AnswersAlike s t e
    answers = record { refusal = refusal_there; ejected = ends.0; after = λ force. (ends.1 force).same }

-- so two such machines answer an event alike
pub counts_change_nothing : CountsChangeNothing
counts_change_nothing s t e h room same alike = answers s t e h room same (go e alike)
  where
    go : (v : Event) → IsMet s t v → Answers s.state.policy h.told v s.state t.state
    go (Tick c) k = k
    go (Wake u) k = tt
    go (Sleep u) k = tt
    go Clock k = tt
    go (SetWeight g x) k = tt
    go (SetTaskWeight u x) k = tt

-- ---- a tick after which the task goes on

module _ (s : State) (c u : ℕ) (plains : is_by_linux s ≡ false) where
  abbrev counted : State
  counted = with_world s (after_tick s.world u)

  abbrev used : State
  used = with_world s (used_ms (after_tick s.world u) u)

  expires_not : ((task_at used.world u).slice == 0) ≡ false → (expire used c u).state ≡ used
  unfolding expire
  expires_not e = ap (λ (b : Bool). (cond (b && ends_slices used) (cycle used c (Some u) true) (stays used)).state) e

  uses : is_throttled used.world u ≡ false → ((task_at used.world u).slice == 0) ≡ false → (use_up counted c u).state ≡ used
  unfolding use_up
  uses free e = ap (λ (b : Bool). (cond b (throttle used c u) (expire used c u)).state) free ∙ expires_not e

  counts : is_throttled used.world u ≡ false → ((task_at used.world u).slice == 0) ≡ false → (count_down s c u).state ≡ used
  unfolding count_down
  counts free e = ap (λ (x : State). (use_up x c u).state) (not_heard counted c u plains) ∙ uses free e

  ticks : running s.world c ≡ Some u → is_throttled used.world u ≡ false → ((task_at used.world u).slice == 0) ≡ false → (tick s c).state ≡ used
  unfolding tick
  ticks there free e = ap (λ (o : Option ℕ). (tick_of o s c).state) there ∙ counts free e

  used_plain : is_by_linux used ≡ false
  used_plain = keeps_if (λ (w : WorldState). is_by_linux (with_world s w) ≡ false) (nat_lt u (length (after_tick s.world u).tasks)) _ (after_tick s.world u) plains plains

-- nothing but that has changed
pub ticked_state : (s : SimState) (c u : ℕ) → IsInForcePlainly s → refusal s (Tick c) ≡ None → running s.state.world c ≡ Some u → is_last (task_at s.state.world u).slice ≡ false → is_throttled (used_ms s.state.world u) u ≡ false
    → (after_event s (Tick c)).state ≡ with_world s.state (used_ms (after_tick s.state.world u) u)
ticked_state s c u h fine there last free =
    let w = s.state.world in
    let v = after_tick w u in
    let more : Same (used_ms v u) (used_ms w u) = across (λ x. used_ms x u) (leaves_used u) v w (only_counted w u) in
    let plains = not_linux w h.rules in
    let runs : is_throttled (used_ms v u) u ≡ false = throttled_same (used_ms v u) u ∙ ap (λ (x : WorldState). is_throttled x u) more ∙ sym (throttled_same (used_ms w u) u) ∙ free in
    let done = ticks s.state c u plains there runs (used_slice v u ∙ goes_on w u last) in
    ap (λ (o : Option Refused). (stepped_if o s (Tick c)).state) fine
    ∙ no_rounds (tick s.state c) (ap is_by_linux done ∙ used_plain s.state c u plains)
    ∙ done

-- after it the slice is the one that it was counted down to
pub ticked_slice : (w : WorldState) (u : ℕ) → is_last (task_at w u).slice ≡ false → (task_at (used_ms (after_tick w u) u) u).slice ≡ counted_down (task_at w u).slice
ticked_slice w u last = ap (λ (xs : List Task). (get_or xs u no_task).slice) (used_tasks (after_tick w u) u) ∙ ap (λ (x : Task). x.slice) (changed w.tasks u (ran_a_tick (task_at w u)) last)

-- and nothing that is left in
pub ticks_only_count : TicksOnlyCount
ticks_only_count s c u h fine there last free =
    let w = s.state.world in
    let v = after_tick w u in
    let more : Same (used_ms v u) (used_ms w u) = across (λ x. used_ms x u) (leaves_used u) v w (only_counted w u) in
    ap uncounted_state (ticked_state s c u h fine there last free) ∙ ap (λ (x : WorldState). with_world s.state x) more
