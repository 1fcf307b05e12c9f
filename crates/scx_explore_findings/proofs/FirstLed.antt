-- A first state is one to which no event has led: no note is left, maps have their shapes, queues are sound.
use Rattle.std.proofs.Common.{◌≡◌, ℕ, zero, suc, ◌+◌, ◌<◌, ◌≤◌, nat_le, Bool, true, false, List, [], length, map, replicate, get_or, Option, Some, None, is_none, Ok, ◌⊎◌, inl, inr, if◌then◌else◌, refl, sym, ◌∙◌, subst, arith}
use Rattle.std.specs.Prelude.{cond}
use Rattle.std.proofs.lemmas.Bool.{cases_lt, le-leb}
use Rattle.scx_dsq.specs.Laws as queues
use Rattle.scx_dsq.specs.Queues.{QueueState, exists}
use Rattle.scx_dsq.specs.declared.entries.Entry.{Entry}
use Rattle.scx_dsq.specs.declared.errors.QueueError.{QueueError}
use Rattle.scx_dsq.specs.declared.errors.QueueError.TheVariants.{AlreadyThere, TooManyQueues}
use Rattle.scx_dsq.specs.Calls.{with_queue, after_create, empty}
use Rattle.scx_dsq.proofs.Sound.{sound_with_queue}
use Rattle.scx_isa_semantics.specs.declared.callbacks.Callback.{Callback}
use Rattle.scx_isa_semantics.specs.declared.host_tables.Helper.{Helper}
use Rattle.scx_isa_semantics.specs.Code.{at, instruction_count}
use Rattle.scx_isa_semantics.specs.Effects.{Query, Call, Load, Store}
use Rattle.scx_isa_semantics.specs.Elements.{Maps}
use Rattle.scx_isa_semantics.specs.Endings.{run_of}
use Rattle.scx_isa_semantics.specs.HostTables.{is_allowed}
use Rattle.scx_isa_semantics.specs.Machine as start
use Rattle.scx_maps.specs.declared.shape.Shape.{Shape}
use Rattle.scx_maps.specs.Contents.{zeros, HasShapes}
use Rattle.scx_maps.proofs.Shapes.{HasShapes-zeros}
use Rattle.scx_maps.proofs.NewMaps.{new_kinds}
use Rattle.scx_maps.proofs.NewLaws.{new_are_sound}
use Rattle.scx_vm.specs.Arguments.{argument_of, program_arguments}
use Rattle.scx_vm.specs.declared.arguments.Arg.{Arg}
use Rattle.scx_vm.specs.declared.arguments.Args.{Args}
use Rattle.scx_vm.specs.Host.{answer_to, after_query}
use Rattle.scx_vm.specs.Programs.{VerifiedProgram}
use Rattle.scx_weights.specs.Hierarchy.{Hierarchy}
use Rattle.scx_sched_tasks.specs.Tasks.{new_task}
use Rattle.scx_sched_world.specs.First.{with_locals, own_queues, first_world, with_homes_below}
use Rattle.scx_sched_world.specs.Helpers.{helper_after, world_functions}
use Rattle.scx_sched_world.specs.Ids.{global, held_queue, builtin_queue, parked_queue, local_on}
use Rattle.scx_sched_world.specs.Tasks.{with_home, begun_periods}
use Rattle.scx_sched_world.specs.World.{WorldState, task_at, first_home, at_callback, binds}
use Rattle.scx_sched_machine.specs.Callbacks.{call_ending, acting}
use Rattle.scx_sched_policy.specs.Policy.{PolicyState, IsTimeout}
use Rattle.scx_sched_machine.specs.Start.{is_bad_shape, by_policy, blank, first_state}
use Rattle.scx_sched_machine.specs.Steps.{State}
use Rattle.scx_sched_machine.proofs.Choices.{keeps_if}
use Rattle.scx_sched.proofs.Alarms.{timers_first}
use Rattle.scx_sched.proofs.Begins.{left_by, keeps_started}
use Rattle.scx_sched.proofs.First.{fine_started, time_started}
use Rattle.scx_sched.proofs.Still.{still_first}
use Rattle.scx_sched.specs.Ranges.{IsFine}
use Rattle.scx_sched.specs.Sim.{SimState, IsFirstState}
use Rattle.scx_explore_findings.specs.FifoOnly.{InsertInOrder}
use Rattle.scx_explore_findings.specs.WholeForms.{AreSince, IsTidy, AreMapsOf, IsLed}
use Rattle.scx_explore_findings.proofs.First.{first_states_are_in_order}
use Rattle.scx_explore_findings.proofs.Helpers.{by_helper}
use Rattle.scx_explore_states.proofs.Queries.{IsAllowed, stores_allowed, asks_allowed, run_keeps}
use Rattle.scx_explore_findings.proofs.MapWalk.{called_shaped}
use Rattle.scx_explore_findings.proofs.QueueWalk.{of_inserted, of_moved, of_claimed, sound_queues}
use Rattle.scx_explore_findings.proofs.Tidying.{tidy_task, tidy_called, for_each}

-- ---- queues

-- some is one
abbrev IsOne : Option Entry → Type 0
IsOne None = ⊥
IsOne (Some p) = Unit {0}

none_isnt_one : (p : Entry) → None ≡ Some p → ⊥
none_isnt_one p e = subst IsOne (sym e) tt

none_there : (n t : ℕ) → get_or (replicate {A = Option Entry} n None) t None ≡ None
none_there zero t = refl
none_there (suc n) zero = refl
none_there (suc n) (suc t) = none_there n t

sound_empty : (room n : ℕ) → queues.IsSound (empty room n)
sound_empty room n = record {
  queues = record { distinct = λ i j d l k. absurd (omega (arith, k)); within = omega arith };
  homes = λ t p e. absurd (none_isnt_one p (sym (none_there n t) ∙ e));
  sorts = λ t u p q e f same. absurd (none_isnt_one p (sym (none_there n t) ∙ e));
  stamped = λ t p e. absurd (none_isnt_one p (sym (none_there n t) ∙ e));
  stamps = λ t u p q other e f. absurd (none_isnt_one p (sym (none_there n t) ∙ e));
}

-- why a queue isn't created
refused_by : Bool → Bool → Option QueueError
refused_by a b = if a then Some AlreadyThere else (if b then Some TooManyQueues else None)

sound_created : (s : QueueState) (id : ℕ) → queues.IsSound s → queues.IsSound (after_create s id)
unfolding refused_by
sound_created s id h = go (exists s id) refl (cases_lt (length s.ids) s.room)
  where
    go : (a : Bool) → exists s id ≡ a → (length s.ids < s.room) ⊎ (s.room ≤ length s.ids) → queues.IsSound (cond (is_none (refused_by a (nat_le s.room (length s.ids)))) (with_queue s id) s)
    go true e c = h
    go false e (inl l) = keeps_if queues.IsSound (is_none (refused_by false (nat_le s.room (length s.ids)))) (with_queue s id) s (sound_with_queue s id e l h) h
    go false e (inr l) = subst (λ (b : Bool). queues.IsSound (cond (is_none (refused_by false b)) (with_queue s id) s)) (sym (le-leb s.room (length s.ids) l)) h

locals_sound : (n : ℕ) (s : QueueState) → queues.IsSound s → queues.IsSound (with_locals n s)
locals_sound zero s h = h
locals_sound (suc n) s h = sound_created (with_locals n s) (local_on n) (locals_sound n s h)

own_sound : (cpus tasks : ℕ) → queues.IsSound (own_queues cpus tasks)
own_sound cpus tasks =
    let a = empty (20 + cpus) tasks in
    let b = after_create a global in
    let c = after_create b held_queue in
    let d = after_create c builtin_queue in
    sound_created d parked_queue (sound_created c builtin_queue (sound_created b held_queue (sound_created a global (sound_empty (20 + cpus) tasks))))

abbrev Sound : WorldState → Type 0
Sound w = queues.IsSound w.queues

sound_helper : (e : Callback) (w : WorldState) (f : Helper) (a : List Arg) → is_allowed f e ≡ true → Sound w → Sound (helper_after w f a)
sound_helper e w f a free h = by_helper (λ (g : Helper). is_allowed g e ≡ true) Sound w (record {
  same = h;
  faulty = λ x. h;
  ended = λ n. h;
  created = λ may q. sound_created w.queues q h;
  inserted = λ may t i fifo. of_inserted queues.IsSound sound_queues w None t i h;
  by_vtime = λ may t i. of_inserted queues.IsSound sound_queues w None t i h;
  late = h;
  moved = λ o. of_moved queues.IsSound sound_queues w o h;
  claimed = λ o. of_claimed queues.IsSound sound_queues w o h;
  kicked = λ c. h;
  preempted = λ c. h;
  timed = λ n o. h;
  drawn = λ may. h;
}) f free a

sound_query : (e : Callback) (w : WorldState) (q : Query) → IsAllowed e q → Sound w → Sound (after_query world_functions w q)
sound_query e w (Call f a) free h = sound_helper e w f (map argument_of a) free h
sound_query e w (Load t f) free h = h
sound_query e w (Store t f k) free h = h

sound_called : (p : Option VerifiedProgram) (e : Callback) (a : Args) (maps : Maps) (w : WorldState) → Sound w → Sound (call_ending p e a maps w).outside
unfolding call_ending run_of
sound_called None e a maps w h = h
sound_called (Some p) e a maps w h =
    run_keeps (IsAllowed e) (stores_allowed e) (answer_to world_functions) (after_query world_functions) Sound (sound_query e) e p.code (λ slot. asks_allowed e (at p.code slot)) (suc (instruction_count p.code)) 0 (start.start (program_arguments a) maps) w h

-- ---- tasks

new_since : (n : ℕ) → AreSince 0 (replicate n new_task)
new_since zero u = tt
new_since (suc n) zero = tt
new_since (suc n) (suc u) = new_since n u

homes_tidy : (v : Hierarchy) (n : ℕ) (w : WorldState) → IsTidy v w → IsTidy v (with_homes_below n w)
homes_tidy v zero w h = h
homes_tidy v (suc n) w h =
    let u = with_homes_below n w in
    let k = homes_tidy v n w h in
    tidy_task v u n (with_home (task_at u n) (first_home u n)) k (k.0 n)

homes_sound : (n : ℕ) (w : WorldState) → Sound w → Sound (with_homes_below n w)
homes_sound zero w h = h
homes_sound (suc n) w h = homes_sound n w h

homes_quiet : (n : ℕ) (w : WorldState) → w.notes ≡ [] → (with_homes_below n w).notes ≡ []
homes_quiet zero w h = h
homes_quiet (suc n) w h = homes_quiet n w h

zeros_shaped : (shapes : List Shape) → HasShapes shapes (zeros shapes)
zeros_shaped shapes = record { lengths = (HasShapes-zeros shapes).lengths; bytes = (HasShapes-zeros shapes).bytes; kinds = new_kinds shapes }

-- a world is fine with its own numbers of tasks and CPUs
fine_now : (n : ℕ) (on : List (Option ℕ)) (w : WorldState) → IsFine n 0 0 None on w → IsFine (length w.tasks) 0 0 None w.cpus w
fine_now n on w h =
    let here : IsFine n 0 0 None w.cpus w = subst (λ (cs : List (Option ℕ)). IsFine n 0 0 None cs w) (sym h.sound.cpus) h in
    subst (λ (m : ℕ). IsFine m 0 0 None w.cpus w) (sym h.sound.tasks) here

-- ---- first states

module _ (p : PolicyState) (tree : Hierarchy) (cpus : ℕ) where
  abbrev bare : WorldState
  bare = begun_periods (by_policy p (first_world tree cpus))

  -- what is known of a state as it is made
  record IsMade (s : State) : Type 0 where
    pub policy : s.policy ≡ p
    pub notes : s.world.notes ≡ []
    pub tidy : IsTidy bare.tree s.world
    pub sound : queues.IsSound s.world.queues
    pub maps : AreMapsOf p.shapes s.maps

  blank_made : IsMade (blank p tree cpus)
  blank_made =
      let n = length bare.tasks in
      let tidy : IsTidy bare.tree bare = (new_since (length tree.homes), ((refl, refl, refl, refl), for_each tree _, λ plain. refl)) in
      let sound : Sound bare = locals_sound cpus (own_queues cpus (length tree.homes)) (own_sound cpus (length tree.homes)) in
      record {
        policy = refl;
        notes = keeps_if (λ (w : WorldState). w.notes ≡ []) (binds bare) (with_homes_below n bare) bare (homes_quiet n bare refl) refl;
        tidy = keeps_if (IsTidy bare.tree) (binds bare) (with_homes_below n bare) bare (homes_tidy bare.tree n bare tidy) tidy;
        sound = keeps_if Sound (binds bare) (with_homes_below n bare) bare (homes_sound n bare sound) sound;
        maps = record { shaped = zeros_shaped p.shapes; sound = new_are_sound p.shapes };
      }

  called_made : (s : State) (b : Callback) (a : Args) (t c : ℕ) → IsMade s → IsMade (left_by s b a t c)
  called_made s b a t c h = record {
    policy = h.policy;
    notes = refl;
    tidy = tidy_called bare.tree (acting s b) b a s.maps (at_callback s.world b t c) h.tidy;
    sound = sound_called (acting s b) b a s.maps (at_callback s.world b t c) h.sound;
    maps = called_shaped p.shapes (acting s b) b a s.maps (at_callback s.world b t c) h.maps;
  }

  first_made : (t : State) → first_state p tree cpus ≡ Ok t → IsMade t
  first_made t e =
      keeps_started cpus IsMade (λ s b a u c any h. called_made s b a u c h)
      (λ s h. record { policy = h.policy; notes = h.notes; tidy = (h.tidy.0, (h.tidy.1.0, h.tidy.1.1, λ plain. refl)); sound = h.sound; maps = h.maps })
      p tree t e blank_made

  -- a first state is led to by no event, on a machine of a good shape
  pub first_led : (s : SimState) → is_bad_shape tree cpus ≡ false → length tree.active ≡ length tree.homes → IsTimeout p.timeout_ms → IsFirstState p tree cpus s → IsLed p.shapes s s
  first_led s shape flags timeout first =
      let h = first_made s.state first.0 in
      let still = still_first p tree cpus s.state first.0 in
      record {
        policy = refl;
        timeout = subst (λ (q : PolicyState). IsTimeout q.timeout_ms) (sym h.policy) timeout;
        size = record { tasks = refl; cpus = refl; room = refl; queues = refl; groups = refl; timers = refl };
        events = 0;
        fine = fine_now (length tree.homes) (replicate cpus None) s.state.world (fine_started p tree cpus s.state shape flags first.0);
        timely = time_started s.state.policy.timeout_ms p tree cpus s.state shape first.0;
        timers = timers_first p tree cpus s.state shape first.0;
        still = still.0;
        settled = still.1;
        rules = refl;
        quiet = (h.notes, λ force. refl);
        tidy = (h.tidy.0, ((refl, refl, refl, refl), h.tidy.1.1, h.tidy.1.2));
        queues = h.sound;
        maps = h.maps;
        random = λ may. refl;
        order = λ may. first_states_are_in_order p tree cpus s (subst InsertInOrder h.policy may) first;
      }

  -- and it is under that policy
  pub first_policy : (s : SimState) → IsFirstState p tree cpus s → s.state.policy ≡ p
  first_policy s first = (first_made s.state first.0).policy
