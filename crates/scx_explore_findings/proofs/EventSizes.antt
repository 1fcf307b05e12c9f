-- Events keep how many tasks, processors and groups there are, and which queues.
use Rattle.std.proofs.Common.{◌≡◌, ℕ, suc, false, length, Option, Some, None, refl, sym, ◌∙◌}
use Rattle.std.proofs.lemmas.List.{length-set}
use Rattle.scx_isa_semantics.specs.declared.callbacks.Callback.{Callback}
use Rattle.scx_isa_semantics.specs.declared.callbacks.Callback.TheVariants as callback
use Rattle.scx_isa_semantics.specs.declared.host_tables.Helper.TheVariants.{CreateDsq}
use Rattle.scx_isa_semantics.specs.HostTables.{is_allowed}
use Rattle.scx_isa_semantics.specs.Code.{at, instruction_count}
use Rattle.scx_isa_semantics.specs.Elements.{Maps}
use Rattle.scx_isa_semantics.specs.Endings.{run_of}
use Rattle.scx_isa_semantics.specs.Machine as start
use Rattle.scx_vm.specs.Programs.{VerifiedProgram}
use Rattle.scx_vm.specs.Arguments.{program_arguments}
use Rattle.scx_vm.specs.declared.arguments.Args.{Args}
use Rattle.scx_vm.specs.Host.{answer_to, after_query}
use Rattle.scx_sched_world.specs.declared.call.Insert.{Insert}
use Rattle.scx_sched_world.specs.declared.eject.Cause.{Cause}
use Rattle.scx_sched_world.specs.declared.eject.Eject.{Eject}
use Rattle.scx_sched_world.specs.World.{WorldState, task_at, with_task, at_callback}
use Rattle.scx_sched_world.specs.Tasks.{with_since, for_cpu, to_front}
use Rattle.scx_sched_world.specs.Ejecting.{put_out, after_evictions}
use Rattle.scx_sched_world.specs.Helpers.{world_functions}
use Rattle.scx_sched_machine.specs.declared.events.Event.{Event}
use Rattle.scx_sched_policy.specs.Policy.{PolicyState}
use Rattle.scx_sched_machine.specs.Steps.{State, Stepped, is_ejected}
use Rattle.scx_sched_machine.specs.Ejecting.{moves_over, eject, ejected_for}
use Rattle.scx_sched_machine.specs.Callbacks.{call_ending, after_callback, cause_of, acting, call_back, task_and_number}
use Rattle.scx_sched_machine.specs.Put.{enters, enqueue_choice, enters_builtin, comes_in, put}
use Rattle.scx_sched_machine.specs.Events.{insert_or_put}
use Rattle.scx_sched_machine.proofs.Choices.{keeps_if}
use Rattle.scx_sched.specs.Sim.{SimState, after_event}
use Rattle.scx_explore_states.proofs.Queries.{IsAllowed, stores_allowed, asks_allowed, run_keeps}
use Rattle.scx_explore_findings.proofs.EventWalk.{cycled_anyhow, IsKeptBySmallSteps, eject_policy, call_back_policy, put_policy, settled_policy, walk_after}
use Rattle.scx_explore_findings.proofs.WorldSizes.{HasSize, sized_query, sized_evicted, sized_cut, sized_task, sized_homed, sized_entered, sized_put_builtin, sized_brought, sized_put_parked, sized_started, sized_run, sized_kept, sized_stopped, sized_asleep, sized_left, sized_used, sized_reweighed, sized_weighed, sized_chosen}

module _ (v : WorldState) where
  -- ---- a callback but init

  sized_called : (p : Option VerifiedProgram) (b : Callback) → is_allowed CreateDsq b ≡ false → (a : Args) (maps : Maps) (w : WorldState) → HasSize v w → HasSize v (call_ending p b a maps w).outside
  unfolding call_ending run_of
  sized_called None b barred a maps w h = h
  sized_called (Some p) b barred a maps w h =
      run_keeps (IsAllowed b) (stores_allowed b) (answer_to world_functions) (after_query world_functions) (HasSize v) (sized_query v b barred) b p.code (λ slot. asks_allowed b (at p.code slot)) (suc (instruction_count p.code)) 0 (start.start (program_arguments a) maps) w h

  -- ---- an ejection

  sized_eject : (s : State) (x : Eject) → HasSize v s.world → HasSize v (eject s x).state.world
  unfolding eject moves_over
  sized_eject s x h =
      let w = put_out s.world x in
      let u = after_evictions (length w.tasks) w in
      sized_cut v (length u.cpus) u (sized_evicted v (length w.tasks) w h)

  sized_ejected_for : (o : Option Cause) (s : State) → HasSize v s.world → HasSize v (ejected_for o s).state.world
  sized_ejected_for None s h = h
  sized_ejected_for (Some x) s h = sized_eject s _ h

  -- ---- what steps are made of

  -- a step keeps it that ends with it
  abbrev Ends : Stepped → Type 0
  Ends r = HasSize v r.state.world

  sized_call_back : (s : State) (b : Callback) (a : Args) (t c : ℕ) → is_allowed CreateDsq b ≡ false → HasSize v s.world → Ends (call_back s b a t c)
  unfolding call_back
  sized_call_back s b a t c barred h =
      let e = call_ending (acting s b) b a s.maps (at_callback s.world b t c) in
      sized_ejected_for (cause_of b e) (after_callback s.policy e) (sized_called (acting s b) b barred a s.maps (at_callback s.world b t c) h)

  sized_enters : (s : State) (t : ℕ) (i : Insert) → HasSize v s.world → Ends (enters s t i)
  unfolding enters
  sized_enters s t i h = sized_entered v s.world t i h

  sized_comes_in : (s : State) (t c : ℕ) → HasSize v s.world → Ends (comes_in s t c)
  unfolding comes_in enters_builtin
  sized_comes_in s t c h =
      let i = enqueue_choice s.policy.callbacks.enqueue c s.world.call.insert in
      keeps_if Ends (is_ejected s) (enters_builtin s t) (enters s t i) (sized_put_builtin v s.world t h) (sized_enters s t i h)

  sized_puts : (s : State) (t c flags : ℕ) → HasSize v s.world → Ends (put s t c flags)
  unfolding put
  sized_puts s t c flags h =
      let r = call_back s callback.Enqueue (task_and_number t flags) t c in
      sized_comes_in r.state t c (sized_call_back s callback.Enqueue (task_and_number t flags) t c refl h)

  sized_settled : (o : Option Insert) (s : State) (t c : ℕ) → HasSize v s.world → Ends (insert_or_put o s t c)
  sized_settled None s t c h = sized_puts s t c 1 h
  sized_settled (Some i) s t c h = sized_enters s t (for_cpu c i) h

  -- ---- events

  pub sized_steps : (p : PolicyState) → IsKeptBySmallSteps p (HasSize v)
  sized_steps p = record {
    called_back = λ s b a t c barred h. (call_back_policy s b a t c ∙ h.0, sized_call_back s b a t c barred h.1);
    ejected = λ s x h. (eject_policy s x ∙ h.0, sized_eject s x h.1);
    puts = λ s t c flags h. (put_policy s t c flags ∙ h.0, sized_puts s t c flags h.1);
    settled = λ u s t c force wanted h. (settled_policy u.call.insert s t c ∙ h.0, sized_settled u.call.insert s t c h.1);
    left = sized_left v;
    brings = sized_brought v;
    parked = sized_put_parked v;
    started = sized_started v;
    kept = sized_kept v;
    stopped = sized_stopped v;
    charged = λ w t h. sized_task v w t _ h;
    caught_up = λ w t h. h;
    cycled = cycled_anyhow (HasSize v) (λ w o claimed x h. h);
    passes = λ w o x h. h;
    woken = λ w t h. sized_task v w t _ h;
    asleep = sized_asleep v;
    ticked = λ w t h. sized_task v w t _ h;
    used = sized_used v;
    let_off = λ w t h. sized_left v (with_task w t (with_since (task_at w t) (Some w.clock))) t (sized_task v w t (with_since (task_at w t) (Some w.clock)) h);
    begun = λ w h. h;
    reweighed = λ may. sized_reweighed v;
    fronted = λ w t c h. sized_entered v w t (to_front c) h;
    runs = sized_run v;
    lengthened = λ w t h. sized_task v w t _ h;
    cut_off = λ w t h. sized_task v w t _ h;
    homed = sized_homed v;
    chosen = sized_chosen v;
    at_hand = λ w t c h. h;
    kicks = λ w c h. h;
    unkicked = λ w c h. h;
    counted = λ w b h. h;
    unstarted = λ w n h. (h.0, h.1, h.2, h.3, h.4, h.5 ∙ sym (length-set w.timers n None));
    weighed = λ may. sized_weighed v;
  }

  -- an event keeps all of it, whether it is accepted or not
  pub sized_after : (s : SimState) (e : Event) → HasSize v s.state.world → HasSize v (after_event s e).state.world
  sized_after s e h = (walk_after s.state.policy (HasSize v) (sized_steps s.state.policy) s e (refl, h)).1

-- an event keeps the policy, whether it is accepted or not
pub policy_after : (s : SimState) (e : Event) → (after_event s e).state.policy ≡ s.state.policy
policy_after s e = (walk_after s.state.policy (HasSize s.state.world) (sized_steps s.state.world s.state.policy) s e (refl, (refl, refl, refl, refl, refl, refl))).0
