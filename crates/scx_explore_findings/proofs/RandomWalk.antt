-- Under a policy whose programs draw no random number, the number from which the next one is made stays.
use Rattle.std.proofs.Common.{◌≡◌, ℕ, suc, Bool, true, List, length, map, Option, Some, None, refl, ◌∙◌, subst, false, sym}
use Rattle.scx_isa_semantics.specs.declared.callbacks.Callback.{Callback}
use Rattle.scx_isa_semantics.specs.declared.host_tables.Helper.{Helper}
use Rattle.scx_isa_semantics.specs.Code.{at, instruction_count}
use Rattle.scx_isa_semantics.specs.Effects.{Query, Call, Load, Store}
use Rattle.scx_isa_semantics.specs.Elements.{Maps}
use Rattle.scx_isa_semantics.specs.Endings.{run_of}
use Rattle.scx_vm.specs.Programs.{VerifiedProgram}
use Rattle.scx_vm.specs.Arguments.{argument_of, program_arguments}
use Rattle.scx_vm.specs.declared.arguments.Arg.{Arg}
use Rattle.scx_vm.specs.declared.arguments.Args.{Args}
use Rattle.scx_vm.specs.Host.{answer_to, after_query}
use Rattle.scx_sched_world.specs.declared.call.Insert.{Insert}
use Rattle.scx_sched_world.specs.declared.eject.Cause.{Cause}
use Rattle.scx_sched_world.specs.declared.eject.Eject.{Eject}
use Rattle.scx_sched_world.specs.declared.faults.Fault.{Fault}
use Rattle.scx_sched_world.specs.declared.notes.Note.{Note}
use Rattle.scx_sched_world.specs.World.{WorldState, at_callback}
use Rattle.scx_sched_world.specs.Tasks.{after_leave, for_cpu, to_front}
use Rattle.scx_sched_world.specs.Ejecting.{put_out, after_evictions}
use Rattle.scx_sched_world.specs.Helpers.{is_dispatch, with_insert, after_release, insert_or_fault, moved_to_local, helper_after, world_functions}
use Rattle.scx_sched_machine.specs.declared.events.Event.{Event}
use Rattle.scx_sched_policy.specs.Policy.{PolicyState, program_of}
use Rattle.scx_sched_machine.specs.Steps.{State, Stepped, is_ejected}
use Rattle.scx_sched_machine.specs.Ejecting.{moves_over, eject, ejected_for}
use Rattle.scx_sched_machine.specs.Callbacks.{call_ending, after_callback, cause_of, acting, call_back, task_and_number, unless_ejected}
use Rattle.scx_sched_machine.specs.Put.{enters, enqueue_choice, enters_builtin, comes_in, put}
use Rattle.scx_sched_machine.specs.Events.{insert_or_put}
use Rattle.scx_sched_machine.proofs.Choices.{keeps_if}
use Rattle.scx_explore_findings.proofs.Helpers.{by_helper}
use Rattle.scx_explore_states.proofs.Queries.{run_keeps, MayAskAt}
use Rattle.scx_explore_findings.proofs.EventWalk.{cycled_anyhow, IsKeptBySmallSteps, eject_policy, call_back_policy, put_policy, settled_policy, walk_after}
use Rattle.scx_isa_semantics.specs.declared.host_tables.Field.{Field}
use Rattle.scx_isa_semantics.specs.declared.host_tables.TaskId.{TaskId}
use Rattle.scx_isa_semantics.specs.declared.instructions.Insn.{Insn}
use Rattle.scx_isa_semantics.specs.Machine.{start}
use Rattle.scx_explore_findings.specs.WholeForms.{is_random, draws, DrawsNone, DrawNone}
use Rattle.scx_explore_findings.proofs.Between.{of_homed, of_entered, of_local, of_brought, of_kept, of_put_parked, of_put_builtin, of_asleep, of_used, of_reweighed, of_weighed, of_claimed, of_chosen, of_evicted, of_cut}
use Rattle.scx_sched.specs.Sim.{SimState, after_event}
use Rattle.scx_isa_semantics.specs.declared.callbacks.Callback.TheVariants as callback
use Rattle.scx_isa_semantics.specs.declared.instructions.Insn.TheVariants as insn

module _ (r : ℕ) where
  -- the number from which the next random one is made is that one
  abbrev Drawn : List Note → Bool → Option Eject → ℕ → Type 0
  Drawn ns x o n = n ≡ r

  abbrev IsDrawn : WorldState → Type 0
  IsDrawn w = w.random ≡ r

  drawn_released : (w : WorldState) (t : Option ℕ) (i : Insert) → IsDrawn w → IsDrawn (after_release w t i)
  drawn_released w None i h = h
  drawn_released w (Some t) i h = of_entered Drawn (after_leave w t) t i h

  drawn_inserted : (w : WorldState) (o : Option Fault) (t : Option ℕ) (i : Insert) → IsDrawn w → IsDrawn (insert_or_fault w o t i)
  drawn_inserted w None t i h = keeps_if IsDrawn (is_dispatch w.call.callback) (after_release w t (for_cpu w.call.cpu i)) (with_insert w i) (drawn_released w t (for_cpu w.call.cpu i) h) h
  drawn_inserted w (Some f) t i h = h

  drawn_moved : (w : WorldState) (o : Option ℕ) → IsDrawn w → IsDrawn (moved_to_local w o)
  drawn_moved w None h = h
  drawn_moved w (Some t) h = of_local Drawn (after_leave w t) w.call.cpu t h

  apart : true ≡ false → ⊥
  apart e = absurd (cc)

  drawn_helper : (w : WorldState) (f : Helper) (a : List Arg) → is_random (Some f) ≡ false → IsDrawn w → IsDrawn (helper_after w f a)
  drawn_helper w f a fine h = by_helper (λ (g : Helper). is_random (Some g) ≡ false) IsDrawn w (record {
    same = h;
    faulty = λ x. h;
    ended = λ n. h;
    created = λ may q. h;
    inserted = λ may t i fifo. drawn_inserted w None t i h;
    by_vtime = λ may t i. drawn_inserted w None t i h;
    late = h;
    moved = λ o. drawn_moved w o h;
    claimed = λ o. of_claimed Drawn w o h;
    kicked = λ c. h;
    preempted = λ c. h;
    timed = λ n o. h;
    drawn = λ may. absurd (apart may);
  }) f fine a

  -- a query that draws no random number
  abbrev IsFine : Query → Type 0
  IsFine (Call f a) = is_random (Some f) ≡ false
  IsFine q = Unit {0}

  stores_fine : (t : TaskId) (f : Field) (n : ℕ) → IsFine (Store t f n)
  stores_fine t f n = tt

  drawn_query : (w : WorldState) (q : Query) → IsFine q → IsDrawn w → IsDrawn (after_query world_functions w q)
  drawn_query w (Call f a) fine h = drawn_helper w f (map argument_of a) fine h
  drawn_query w (Load t f) fine h = h
  drawn_query w (Store t f n) fine h = h

  fine_insn : (c : Callback) (o : Option Insn) → draws o ≡ false → MayAskAt IsFine stores_fine c o
  fine_insn c None e = tt
  fine_insn c (Some (insn.Load a d b offset)) e = λ t f is. tt
  fine_insn c (Some (insn.Call k)) e = (λ f v is free. subst (λ o. is_random o ≡ false) is e, λ f is free. refl)
  fine_insn c (Some i) e = tt

  drawn_called : (q : Option VerifiedProgram) → DrawsNone q → (b : Callback) (a : Args) (maps : Maps) (w : WorldState) → IsDrawn w → IsDrawn (call_ending q b a maps w).outside
  unfolding call_ending run_of
  drawn_called None fine b a maps w h = h
  drawn_called (Some q) fine b a maps w h =
      run_keeps IsFine stores_fine (answer_to world_functions) (after_query world_functions) IsDrawn drawn_query b q.code (λ slot. fine_insn b (at q.code slot) (fine slot)) (suc (instruction_count q.code)) 0 (start (program_arguments a) maps) w h

  drawn_eject : (s : State) (x : Eject) → IsDrawn s.world → IsDrawn (eject s x).state.world
  unfolding eject moves_over
  drawn_eject s x h =
      let w = put_out s.world x in
      let u = after_evictions (length w.tasks) w in
      of_cut Drawn (length u.cpus) u (of_evicted Drawn (length w.tasks) w h)

  drawn_ejected_for : (o : Option Cause) (s : State) → IsDrawn s.world → IsDrawn (ejected_for o s).state.world
  drawn_ejected_for None s h = h
  drawn_ejected_for (Some x) s h = drawn_eject s _ h

  module _ (p : PolicyState) (may : DrawNone p) where
    none_acting : (s : State) (b : Callback) → s.policy ≡ p → DrawsNone (acting s b)
    none_acting s b is = go s.world.ejected
      where
        go : (o : Option Eject) → DrawsNone (unless_ejected o (program_of s.policy b))
        go None = subst (λ (q : PolicyState). DrawsNone (program_of q b)) (sym is) (may b)
        go (Some x) = tt

    drawn_call_back : (s : State) (e : Callback) (a : Args) (t c : ℕ) → s.policy ≡ p → IsDrawn s.world → IsDrawn (call_back s e a t c).state.world
    unfolding call_back
    drawn_call_back s e a t c is h =
        let x = call_ending (acting s e) e a s.maps (at_callback s.world e t c) in
        drawn_ejected_for (cause_of e x) (after_callback s.policy x) (drawn_called (acting s e) (none_acting s e is) e a s.maps (at_callback s.world e t c) h)

    abbrev Ends : Stepped → Type 0
    Ends x = IsDrawn x.state.world

    drawn_comes_in : (s : State) (t c : ℕ) → IsDrawn s.world → Ends (comes_in s t c)
    unfolding comes_in enters enters_builtin
    drawn_comes_in s t c h =
        let i = enqueue_choice s.policy.callbacks.enqueue c s.world.call.insert in
        keeps_if Ends (is_ejected s) (enters_builtin s t) (enters s t i) (of_put_builtin Drawn s.world t h) (of_entered Drawn s.world t i h)

    drawn_puts : (s : State) (t c flags : ℕ) → s.policy ≡ p → IsDrawn s.world → Ends (put s t c flags)
    unfolding put
    drawn_puts s t c flags is h =
        let x = call_back s callback.Enqueue (task_and_number t flags) t c in
        drawn_comes_in x.state t c (drawn_call_back s callback.Enqueue (task_and_number t flags) t c is h)

    drawn_settled : (o : Option Insert) (s : State) (t c : ℕ) → s.policy ≡ p → IsDrawn s.world → Ends (insert_or_put o s t c)
    unfolding enters
    drawn_settled None s t c is h = drawn_puts s t c 1 is h
    drawn_settled (Some i) s t c is h = of_entered Drawn s.world t (for_cpu c i) h

    drawn_steps : IsKeptBySmallSteps p IsDrawn
    drawn_steps = record {
      called_back = λ s e a t c barred h. (call_back_policy s e a t c ∙ h.0, drawn_call_back s e a t c h.0 h.1);
      ejected = λ s x h. (eject_policy s x ∙ h.0, drawn_eject s x h.1);
      puts = λ s t c flags h. (put_policy s t c flags ∙ h.0, drawn_puts s t c flags h.0 h.1);
      settled = λ u s t c force wanted h. (settled_policy u.call.insert s t c ∙ h.0, drawn_settled u.call.insert s t c h.0 h.1);
      left = λ w t h. h;
      brings = of_brought Drawn;
      parked = of_put_parked Drawn;
      started = λ w t c h. h;
      kept = of_kept Drawn;
      stopped = λ w c t h. h;
      charged = λ w t h. h;
      caught_up = λ w t h. h;
      cycled = cycled_anyhow IsDrawn (λ w o claimed x h. h);
      passes = λ w o x h. h;
      woken = λ w t h. h;
      asleep = of_asleep Drawn;
      ticked = λ w t h. h;
      used = of_used Drawn;
      let_off = λ w t h. h;
      begun = λ w h. h;
      reweighed = λ may. of_reweighed Drawn;
      fronted = λ w t c h. of_entered Drawn w t (to_front c) h;
      runs = λ w c t h. h;
      lengthened = λ w t h. h;
      cut_off = λ w t h. h;
      homed = of_homed Drawn;
      chosen = of_chosen Drawn;
      at_hand = λ w t c h. h;
      kicks = λ w c h. h;
      unkicked = λ w c h. h;
      counted = λ w d h. h;
      unstarted = λ w n h. h;
      weighed = λ may. of_weighed Drawn;
    }

    -- under such a policy an event draws no random number
    pub drawn_after : (s : SimState) (e : Event) → s.state.policy ≡ p → IsDrawn s.state.world → IsDrawn (after_event s e).state.world
    drawn_after s e is h = (walk_after p IsDrawn drawn_steps s e (is, h)).1
