-- One walk over the events of the machine: what has to be shown of a property of worlds at each small step, so that each
-- event keeps it, under a policy that stays.
use Rattle.std.proofs.Common.{◌≡◌, ℕ, Bool, true, false, List, [], ◌∷◌, Option, Some, None, is_none, refl, ◌∙◌, if◌then◌else◌}
use Rattle.std.proofs.lemmas.Bool.{and_parts}
use Rattle.scx_isa_semantics.specs.declared.callbacks.Callback.{Callback}
use Rattle.scx_isa_semantics.specs.declared.callbacks.Callback.TheVariants as callback
use Rattle.scx_isa_semantics.specs.declared.host_tables.Helper.TheVariants.{CreateDsq}
use Rattle.scx_isa_semantics.specs.HostTables.{is_allowed}
use Rattle.scx_isa_semantics.specs.Elements.{Maps}
use Rattle.scx_vm.specs.declared.arguments.Args.{Args}
use Rattle.scx_sched_world.specs.declared.call.Insert.{Insert}
use Rattle.scx_sched_world.specs.declared.cpu_set.CpuSet.{CpuSet}
use Rattle.scx_sched_world.specs.declared.passing.Passing.{Passing}
use Rattle.scx_sched_world.specs.declared.eject.Cause.{Cause}
use Rattle.scx_sched_world.specs.declared.eject.Eject.{Eject}
use Rattle.scx_sched_world.specs.Helpers.{with_timer}
use Rattle.scx_sched_world.specs.World as world
use Rattle.scx_sched_world.specs.World.{WorldState, are_linux, switch_at, with_switch, with_cycling, with_waker, with_kick, without_kick, running, cpu_of, at_callback, task_at}
use Rattle.scx_sched_world.specs.Tasks.{after_wake, after_sleep, after_leave, homed, after_enter, to_front, brought, fill_front, after_stop, started_at, after_run, after_keep, after_switch, after_cut_off, put_parked, let_go, after_tick, used_ms, later, begun_periods, after_reweigh, after_own_weight}
use Rattle.scx_sched_world.specs.Ejecting.{after_charge, after_catch_up}
use Rattle.scx_sched_machine.specs.declared.events.Event.{Event}
use Rattle.scx_sched_machine.specs.declared.events.Event.TheVariants.{Wake, Sleep, Tick, Clock, SetWeight, SetTaskWeight}
use Rattle.scx_sched_machine.specs.declared.events.Refused.{Refused}
use Rattle.scx_sched_policy.specs.Policy.{PolicyState}
use Rattle.scx_sched_machine.specs.Steps.{State, Stepped, with_world, stays, is_ejected, is_by_linux}
use Rattle.scx_sched_machine.specs.Ejecting.{moves_over, eject, ejected_for}
use Rattle.scx_sched_machine.specs.Callbacks.{call_ending, after_callback, cause_of, acting, call_back, call_by_linux, task_cpu_and_0, task_and_number}
use Rattle.scx_sched_machine.specs.Firing.{fire_all}
use Rattle.scx_sched_machine.specs.Put.{enters, enqueue_choice, enters_builtin, comes_in, put}
use Rattle.scx_sched_machine.specs.Filling.{fill}
use Rattle.scx_sched_machine.specs.Parking.{park, let_all_go}
use Rattle.scx_sched_machine.specs.Events.{insert_or_put, woken, chosen_by_default, use_up, tick_heard, count_down, tick_of, tick, overdue, eject_if_stalled, watch, timers_and_watchdog, clock, reweigh_at, reweigh_by_linux, reweigh, own_step, leaves_queue, leaves_cpu}
use Rattle.scx_sched_machine.proofs.Choices.{keeps_if}
use Rattle.scx_sched.proofs.Marks.{kept_cycling}
use Rattle.scx_sched.proofs.Stepwise.{IsWalked, IsTold, KeepsCalls, walk_call_by_linux, walk_heard, KeepsSupply, told_and_arrives, Owns, owns_all, walk_reweigh_at, KeepsEvents, walk_rounds_of, walk_lets_go, walk_timers, walk_used_up, walk_tick_idle, asleep, walk_wake, walk_sleep}
use Rattle.scx_sched.specs.Sim.{SimState, stepped_if, refusal, after_event}
use Rattle.scx_load_driver.specs.Runs.{stepped_all}

-- ---- the policy stays

-- as it is ejected
pub eject_policy : (s : State) (x : Eject) → (eject s x).state.policy ≡ s.policy
unfolding eject moves_over
eject_policy s x = refl

ejected_policy : (o : Option Cause) (s : State) → (ejected_for o s).state.policy ≡ s.policy
ejected_policy None s = refl
ejected_policy (Some x) s = eject_policy s _

-- as a callback is called
pub call_back_policy : (s : State) (b : Callback) (a : Args) (t c : ℕ) → (call_back s b a t c).state.policy ≡ s.policy
unfolding call_back
call_back_policy s b a t c =
    let e = call_ending (acting s b) b a s.maps (at_callback s.world b t c) in
    ejected_policy (cause_of b e) (after_callback s.policy e)

comes_in_policy : (s : State) (t c : ℕ) → (comes_in s t c).state.policy ≡ s.policy
unfolding comes_in enters enters_builtin
comes_in_policy s t c = keeps_if (λ (r : Stepped). r.state.policy ≡ s.policy) (is_ejected s) (enters_builtin s t) (enters s t (enqueue_choice s.policy.callbacks.enqueue c s.world.call.insert)) refl refl

-- as a task is put
pub put_policy : (s : State) (t c flags : ℕ) → (put s t c flags).state.policy ≡ s.policy
unfolding put
put_policy s t c flags =
    let r = call_back s callback.Enqueue (task_and_number t flags) t c in
    comes_in_policy r.state t c ∙ call_back_policy s callback.Enqueue (task_and_number t flags) t c

-- and as one is inserted or put
pub settled_policy : (o : Option Insert) (s : State) (t c : ℕ) → (insert_or_put o s t c).state.policy ≡ s.policy
unfolding enters
settled_policy None s t c = put_policy s t c 1
settled_policy (Some i) s t c = refl

-- where the machine goes by Linux rules its policy is in force
linux_in_force : (w : WorldState) → world.is_by_linux w ≡ true → w.ejected ≡ None
linux_in_force w e = go w.ejected (and_parts (are_linux w.rules) (is_none w.ejected) e).1
  where
    go : (o : Option Eject) → is_none o ≡ true → o ≡ None
    go None e = refl
    go (Some x) e = absurd (cc)

-- ---- the walk

-- policy and maps of the state have one property, and its world another
abbrev pub HoldsIn : (PolicyState → Maps → Type 0) → (WorldState → Type 0) → State → Type 0
HoldsIn K I s = K s.policy s.maps × I s.world

-- the policy is that one
abbrev pub IsPolicy : PolicyState → PolicyState → Maps → Type 0
IsPolicy p q maps = q ≡ p

-- the state is under that policy, and its world has the property
abbrev pub IsKeptIn : PolicyState → (WorldState → Type 0) → State → Type 0
IsKeptIn p I s = HoldsIn (IsPolicy p) I s

-- the event changes a weight
abbrev pub IsWeighing : Event → Type 0
IsWeighing (SetWeight g x) = Unit {0}
IsWeighing (SetTaskWeight t x) = Unit {0}
IsWeighing e = ⊥

-- whichever cycle is under way, whichever processors are claimed, and whatever passes with the event, the property stays
abbrev pub KeepsAnyCycle : (WorldState → Type 0) → Type 0
KeepsAnyCycle I = (w : WorldState) (o : Option ℕ) (claimed : CpuSet) (x : Passing) → I w → I (record w { cycling = o; claimed = claimed; passing = x })

-- so a cycle may begin or end
pub cycled_anyhow : (I : WorldState → Type 0) → KeepsAnyCycle I → (w : WorldState) (o : Option ℕ) → I w → I (with_cycling w o)
cycled_anyhow I k w o h = kept_cycling I (λ v p claimed x wakes i. k v p claimed x i) w o h

-- Each small step keeps that: a callback that may create no queue, an ejection, a task that is put, or inserted as was
-- wanted in an earlier world, while the policy was in force; and of worlds what the machine does to its queues, tasks,
-- groups and processors, by both rules. Changes of weights do where these may change.
pub record IsKeptByAll (W : Type 0) (K : PolicyState → Maps → Type 0) (I : WorldState → Type 0) : Type 0 where
  pub called_back : (s : State) (b : Callback) (a : Args) (t c : ℕ) → is_allowed CreateDsq b ≡ false → HoldsIn K I s → HoldsIn K I (call_back s b a t c).state
  pub ejected : (s : State) (x : Eject) → HoldsIn K I s → HoldsIn K I (eject s x).state
  pub puts : (s : State) (t c flags : ℕ) → HoldsIn K I s → HoldsIn K I (put s t c flags).state
  pub settled : (v : WorldState) (s : State) (t c : ℕ) → (s.world.ejected ≡ None → v.ejected ≡ None) → I v → HoldsIn K I s → HoldsIn K I (insert_or_put v.call.insert s t c).state
  pub left : (w : WorldState) (t : ℕ) → I w → I (after_leave w t)
  pub brings : (o : Option ℕ) (w : WorldState) (c : ℕ) → I w → I (brought o w c)
  pub parked : (w : WorldState) (t : ℕ) → I w → I (put_parked w t)
  pub started : (w : WorldState) (t c : ℕ) → I w → I (started_at (Some t) w c)
  pub kept : (w : WorldState) (o : Option ℕ) → I w → I (after_keep w o)
  pub stopped : (w : WorldState) (c t : ℕ) → I w → I (after_stop w c t)
  pub charged : (w : WorldState) (t : ℕ) → I w → I (after_charge w t)
  pub caught_up : (w : WorldState) (t : ℕ) → I w → I (after_catch_up w t)
  pub cycled : (w : WorldState) (o : Option ℕ) → I w → I (with_cycling w o)
  pub passes : (w : WorldState) (o : Option ℕ) (x : Passing) → I w → I (record w { cycling = o; passing = x })
  pub woken : (w : WorldState) (t : ℕ) → I w → I (after_wake w t)
  pub asleep : (w : WorldState) (t : ℕ) → I w → I (after_sleep w t)
  pub ticked : (w : WorldState) (t : ℕ) → I w → I (after_tick w t)
  pub used : (w : WorldState) (t : ℕ) → I w → I (used_ms w t)
  pub let_off : (w : WorldState) (t : ℕ) → I w → I (let_go w t)
  pub begun : (w : WorldState) → I w → I (begun_periods (later w))
  pub reweighed : W → (w : WorldState) (g x : ℕ) → I w → I (after_reweigh w g x)
  pub fronted : (w : WorldState) (t c : ℕ) → I w → I (after_enter w t (to_front c))
  pub runs : (w : WorldState) (c t : ℕ) → I w → I (after_run w c t)
  pub lengthened : (w : WorldState) (t : ℕ) → I w → I (after_switch w t)
  pub cut_off : (w : WorldState) (t : ℕ) → I w → I (after_cut_off w t)
  pub homed : (w : WorldState) (t c : ℕ) → I w → I (homed w t c)
  pub chosen : (w : WorldState) (t : ℕ) → I w → I (chosen_by_default w t)
  pub at_hand : (w : WorldState) (t c : ℕ) → I w → I (at_callback w callback.SelectCpu t c)
  pub kicks : (w : WorldState) (c : ℕ) → I w → I (with_kick w c)
  pub unkicked : (w : WorldState) (c : ℕ) → I w → I (without_kick w c)
  pub counted : (w : WorldState) (b : Bool) → I w → I (record w { call = record w.call { has_moved = b } })
  pub unstarted : (w : WorldState) (n : ℕ) → I w → I (with_timer w n None)
  pub weighed : W → (w : WorldState) (t x : ℕ) → I w → I (after_own_weight w t x)

-- so it is under that policy, whatever its maps are
abbrev pub IsKeptBySmallSteps : PolicyState → (WorldState → Type 0) → Type 0
IsKeptBySmallSteps p I = IsKeptByAll (Unit {0}) (IsPolicy p) I

-- what a policy is told in an event creates no queue
creates_none : (b : Callback) → IsTold b → is_allowed CreateDsq b ≡ false
creates_none callback.Init e = absurd (cc)
creates_none b e = refl

module _ (W : Type 0) (K : PolicyState → Maps → Type 0) (I : WorldState → Type 0) (k : IsKeptByAll W K I) where
  abbrev Kept : State → Type 0
  Kept s = HoldsIn K I s

  -- a step keeps that
  abbrev Keeps : State → Stepped → Type 0
  Keeps s r = Kept s → Kept r.state

  keeps_steps : IsWalked Keeps
  keeps_steps = record { none = λ s h. h; joined = λ s a r f g h. g (f h); noted = λ s ns r f. f }

  keeps_calls : (c : ℕ) → KeepsCalls Keeps c
  keeps_calls c = record { steps = keeps_steps; called = λ s b a t told h. k.called_back s b a t c (creates_none b told) h }

  keeps_supply : (c : ℕ) → KeepsSupply Keeps c
  unfolding fill park
  keeps_supply c = record {
    calls = keeps_calls c;
    filled = λ s q apart h. (h.0, k.brings (fill_front s.world q c) s.world c h.1);
    parked = λ s q t apart there h. (h.0, k.parked (after_leave s.world t) t (k.left s.world t h.1));
    moved = λ s b h. (h.0, k.counted s.world b h.1);
  }

  -- what passes with an event
  passes : (s : State) (x : Passing) → Keeps s (stays (with_world s (record s.world { passing = x })))
  passes s x h = (h.0, k.passes s.world s.world.cycling x h.1)

  keeps_switch : (s : State) (c : ℕ) → Keeps s (stays (with_world s (with_switch s.world c)))
  keeps_switch s c h =
      let x = record s.world.passing { switching = switch_at s.world c } in
      keeps_if (λ (w : WorldState). Kept (with_world s w)) (world.is_by_linux s.world) (record s.world { passing = x }) s.world (passes s x h) h

  -- an insert that was wanted before the policy heard that the task woke, if it is in force still
  keeps_told : (s : State) (t c : ℕ) → is_by_linux s ≡ true → Keeps s (told_and_arrives s t c)
  keeps_told s t c linux h = go (is_ejected r.state)
    where
      i : Option Insert
      i = s.world.call.insert

      r : Stepped
      r = call_by_linux s callback.Runnable (task_and_number t 1) t c

      there : Kept r.state
      there = walk_call_by_linux Keeps c (keeps_calls c) s callback.Runnable (task_and_number t 1) t refl h

      go : (b : Bool) → Kept (insert_or_put (if b then None else i) r.state t c).state
      go true = k.puts r.state t c 1 there
      go false = k.settled s.world r.state t c (λ x. linux_in_force s.world linux) h.1 there

  keeps_events : KeepsEvents Keeps (λ s. Unit {0})
  unfolding enters park
  keeps_events = record {
    cycle = record {
      supply = keeps_supply;
      puts = k.puts;
      fronts = λ s t c h. (h.0, k.fronted s.world t c h.1);
      stopped = λ s c t h. (h.0, k.stopped s.world c t h.1);
      charged = λ s t h. (h.0, k.charged s.world t h.1);
      started = λ s c t h. (h.0, k.started s.world t c h.1);
      ran = λ s c t h. (h.0, k.runs s.world c t h.1);
      caught_up = λ s t h. (h.0, k.caught_up s.world t h.1);
      switched = λ s t h. (h.0, k.lengthened s.world t h.1);
      kept = λ s t h. (h.0, k.kept s.world (Some t) h.1);
      kicked = λ s c h. (h.0, k.kicks s.world c h.1);
      cycling = λ s o h. (h.0, k.cycled s.world o h.1);
      ended = λ s h. (h.0, k.passes s.world None s.world.passing h.1);
    };
    asks = λ s t c any h. k.called_back s callback.SelectCpu (task_cpu_and_0 t c) t c refl h;
    arrives = λ s t c h. k.settled s.world s t c (λ x. x) h.1 h;
    arrives_told = keeps_told;
    looks = λ s c h. (h.0, k.unkicked s.world c h.1);
    cut_off = λ s t h. (h.0, k.cut_off s.world t h.1);
    switching = keeps_switch;
    left = λ s t h. (h.0, k.left s.world t h.1);
    parked = λ s t h. (h.0, k.parked s.world t h.1);
    free = λ s t h. (h.0, k.let_off s.world t h.1);
    homed = λ s t c h. (h.0, k.homed s.world t c h.1);
    chosen = λ s t h. (h.0, k.chosen s.world t h.1);
    asked = λ s t c h. (h.0, k.at_hand s.world t c h.1);
    woken = λ s. passes s (record s.world.passing { waker = None });
    fired = λ s. passes s (record s.world.passing { timer = None });
    waker = λ s c linux. passes s (record s.world.passing { waker = Some c });
    slept = λ s t linux. passes s (record s.world.passing { slept = Some t });
    due = λ s n linux h. let v = with_world s (with_timer s.world n None) in passes v (record v.world.passing { timer = Some n }) (h.0, k.unstarted s.world n h.1);
  }

  keeps_own : Owns Keeps Keeps
  keeps_own = owns_all Keeps keeps_steps

  keeps_tick : (o : Option ℕ) (s : State) (c : ℕ) → Keeps s (tick_of o s c)
  unfolding count_down use_up
  keeps_tick None s c h = walk_tick_idle Keeps (λ s. Unit {0}) keeps_events s c h
  keeps_tick (Some t) s c h =
      let v = with_world s (after_tick s.world t) in
      let x = walk_heard Keeps c (keeps_calls c) v t (h.0, k.ticked s.world t h.1) in
      let r = (tick_heard v c t).state in
      walk_used_up Keeps (λ s. Unit {0}) keeps_events (with_world r (used_ms r.world t)) c t (x.0, k.used r.world t x.1)

  keeps_stalled : (o : Option ℕ) (s : State) → Keeps s (eject_if_stalled o s)
  keeps_stalled None s h = h
  keeps_stalled (Some t) s h = k.ejected s _ h

  keeps_clock : (s : State) → Keeps s (clock s)
  unfolding clock timers_and_watchdog watch
  keeps_clock s h =
      let v = with_world s (begun_periods (later s.world)) in
      let r = (let_all_go v).state in
      let f = (fire_all r).state in
      keeps_stalled (overdue f) f (walk_timers Keeps (λ s. Unit {0}) keeps_events r (walk_lets_go Keeps (λ s. Unit {0}) keeps_events v (h.0, k.begun s.world h.1)))

  keeps_reweigh : W → (s : State) (t x : ℕ) → Keeps s (reweigh s t x)
  unfolding reweigh reweigh_by_linux
  keeps_reweigh may s t x h =
      let v = with_world s (with_waker s.world (Some 0)) in
      let r = reweigh_at (cpu_of s.world t) v t x in
      let at = walk_reweigh_at Keeps Keeps keeps_own t x (λ u y. (y.0, k.weighed may u.world t x y.1)) keeps_calls (λ u c. k.puts u t c 0) (λ u. keeps_events.left u t) (cpu_of s.world t) v in
      keeps_if (λ (y : Stepped). Kept y.state) (is_by_linux s) (record r { state = woken r.state }) (stays (with_world s (after_own_weight s.world t x)))
      (keeps_events.woken r.state (at (passes s (record s.world.passing { waker = Some 0 }) h))) (h.0, k.weighed may s.world t x h.1)

  keeps_asleep : (t : ℕ) (s : State) → Keeps s (asleep s t)
  keeps_asleep t s h = (h.0, k.asleep s.world t h.1)

  keeps_own_step : (s : State) (e : Event) → (IsWeighing e → W) → Keeps s (own_step s e)
  unfolding tick
  keeps_own_step s (Wake t) may = walk_wake Keeps Keeps (λ s. Unit {0}) keeps_events keeps_own s t tt (λ h. (h.0, k.woken s.world t h.1))
  keeps_own_step s (Sleep t) may = walk_sleep Keeps Keeps (λ s. Unit {0}) keeps_events keeps_own s t (keeps_asleep t (leaves_queue s t (task_at s.world t).prev_cpu 1).state) (λ c e. keeps_asleep t (leaves_cpu s c t 0).state)
  keeps_own_step s (Tick c) may = keeps_tick (running s.world c) s c
  keeps_own_step s Clock may = keeps_clock s
  keeps_own_step s (SetWeight g x) may = λ h. (h.0, k.reweighed (may tt) s.world g x h.1)
  keeps_own_step s (SetTaskWeight t x) may = keeps_reweigh (may tt) s t x

  -- an event keeps it, whether it is accepted or not
  pub walk_one : (s : SimState) (e : Event) → (IsWeighing e → W) → Kept s.state → Kept (after_event s e).state
  walk_one s e may h = go (refusal s e)
    where
      go : (o : Option Refused) → Kept (stepped_if o s e).state
      go None = walk_rounds_of Keeps (λ s. Unit {0}) keeps_events Keeps keeps_steps.joined s.state (own_step s.state e) (keeps_own_step s.state e may) h
      go (Some r) = h

module _ (old : PolicyState) (I : WorldState → Type 0) (k : IsKeptBySmallSteps old I) where
  -- an event keeps the property under one policy, whether it is accepted or not
  pub walk_after : (s : SimState) (e : Event) → IsKeptIn old I s.state → IsKeptIn old I (after_event s e).state
  walk_after s e h = walk_one (Unit {0}) (IsPolicy old) I k s e (λ x. tt) h

  -- and so do several
  pub walk_all : (s : SimState) (events : List Event) → IsKeptIn old I s.state → IsKeptIn old I (stepped_all s events).state
  walk_all s [] h = h
  walk_all s (e ∷ es) h = walk_all (after_event s e) es (walk_after s e h)
