-- Under a policy that inserts no task by a virtual time, no task waits by one after an event.
use Rattle.std.proofs.Common.{◌≡◌, ℕ, zero, suc, true, false, if◌then◌else◌, nat_lt, List, [], ◌∷◌, length, map, set, Option, Some, None, is_some, is_none, refl, sym, ◌∙◌, subst}
use Rattle.scx_dsq.specs.declared.entries.Entry.{Entry}
use Rattle.scx_dsq.specs.declared.entries.Rank.{Rank}
use Rattle.scx_dsq.specs.declared.entries.Rank.TheVariants.{Fifo, Front, Vtime}
use Rattle.scx_dsq.specs.Entries.{key_of}
use Rattle.scx_dsq.specs.Queues.{QueueState, entry_of, front_of}
use Rattle.scx_dsq.specs.Calls.{create_refusal, with_queue, after_create, push_refusal, next_entry, with_task as with_entry, after_push, without_task, after_remove, without, after_pop}
use Rattle.scx_isa_semantics.specs.declared.callbacks.Callback.{Callback}
use Rattle.scx_isa_semantics.specs.declared.callbacks.Callback.TheVariants as callback
use Rattle.scx_isa_semantics.specs.declared.host_tables.Field.{Field}
use Rattle.scx_isa_semantics.specs.declared.host_tables.TaskId.{TaskId}
use Rattle.scx_isa_semantics.specs.declared.host_tables.Helper.{Helper}
use Rattle.scx_isa_semantics.specs.declared.instructions.Insn.{Insn}
use Rattle.scx_isa_semantics.specs.declared.instructions.Insn.TheVariants as insn
use Rattle.scx_isa_semantics.specs.Code.{at, instruction_count}
use Rattle.scx_isa_semantics.specs.Effects.{Query, Call, Load, Store}
use Rattle.scx_isa_semantics.specs.Elements.{Maps}
use Rattle.scx_isa_semantics.specs.Endings.{run_of}
use Rattle.scx_isa_semantics.specs.Machine.{start}
use Rattle.scx_weights.specs.Hierarchy.{with_weight, with_own_weight}
use Rattle.scx_weights.specs.Refusals.{weight_fault, own_weight_fault}
use Rattle.scx_vm.specs.Programs.{VerifiedProgram}
use Rattle.scx_vm.specs.Arguments.{program_arguments, argument_of}
use Rattle.scx_vm.specs.declared.arguments.Arg.{Arg}
use Rattle.scx_vm.specs.declared.arguments.Args.{Args}
use Rattle.scx_vm.specs.Host.{answer_to, after_query}
use Rattle.scx_sched_world.specs.declared.call.Insert.{Insert}
use Rattle.scx_sched_world.specs.declared.eject.Cause.{Cause}
use Rattle.scx_sched_world.specs.declared.eject.Eject.{Eject}
use Rattle.scx_sched_world.specs.declared.faults.Fault.{Fault}
use Rattle.scx_sched_world.specs.Ids.{parked_queue, local_on}
use Rattle.scx_sched_world.specs.World.{WorldState, with_queues, with_tree, is_by_linux, at_callback, task_at, with_task, choice, after_claim}
use Rattle.scx_sched_world.specs.Tasks.{with_since, after_leave, homed, after_local, rank_by, after_enter, for_cpu, to_front, brought, started_at, after_run, after_keep, put_parked, after_sleep, used_ms, after_reweigh, after_own_weight}
use Rattle.scx_sched_world.specs.Helpers.{is_dispatch, with_insert, after_release, insert_or_fault, moved_to_local, helper_after, world_functions}
use Rattle.scx_sched_policy.specs.Policy.{PolicyState, program_of}
use Rattle.scx_sched_machine.specs.Steps.{State, Stepped}
use Rattle.scx_sched_machine.specs.Ejecting.{eject, ejected_for}
use Rattle.scx_sched_machine.specs.Callbacks.{call_ending, after_callback, cause_of, unless_ejected, acting, call_back, task_and_number}
use Rattle.scx_sched_machine.specs.Put.{enters, enqueue_choice, enters_builtin, comes_in, put}
use Rattle.scx_sched_machine.specs.Events.{insert_or_put, inserted_by_choice, chosen_by_default}
use Rattle.scx_sched_machine.proofs.Choices.{keeps_if}
use Rattle.scx_sched.proofs.Unchanged.{same_put_builtin, eject_sets}
use Rattle.scx_load_driver.specs.Runs.{stepped_all}
use Rattle.scx_explore_states.specs.Rows.{waiting_key}
use Rattle.scx_explore_findings.specs.FifoOnly.{is_by_vtime, inserts_by_vtime, InsertsInOrder, InsertInOrder, IsFifo, WaitsInOrder, AreInOrder, WantsOrder, IsInOrder, NobodyWaitsByVtime}
use Rattle.scx_explore_findings.proofs.Helpers.{by_helper}
use Rattle.scx_explore_states.proofs.Queries.{MayAskAt, run_keeps}
use Rattle.scx_explore_findings.proofs.EventWalk.{cycled_anyhow, eject_policy, IsKeptBySmallSteps, walk_all}
use Rattle.scx_explore_findings.proofs.Entering.{KeepsHomes, kept_entered, kept_homed}

-- ---- queues

set_order : (es : List (Option Entry)) (t : ℕ) (o : Option Entry) → WaitsInOrder o → AreInOrder es → AreInOrder (set es t o)
set_order [] t o f h u = h u
set_order (e ∷ es) zero o f h zero = f
set_order (e ∷ es) zero o f h (suc u) = h (suc u)
set_order (e ∷ es) (suc t) o f h zero = h zero
set_order (e ∷ es) (suc t) o f h (suc u) = set_order es t o f (λ v. h (suc v)) u

pushed : (s : QueueState) (q t : ℕ) (r : Rank) → IsFifo r → AreInOrder s.entries → AreInOrder (after_push s q t r).entries
pushed s q t r f h = keeps_if (λ (u : QueueState). AreInOrder u.entries) (is_none (push_refusal s q t r)) (with_entry s q t r) s (set_order s.entries t (Some (next_entry s q r)) f h) h

removed : (s : QueueState) (t : ℕ) → AreInOrder s.entries → AreInOrder (after_remove s t).entries
removed s t h = keeps_if (λ (u : QueueState). AreInOrder u.entries) (is_some (entry_of s t)) (without_task s t) s (set_order s.entries t None tt h) h

taken_out : (s : QueueState) (o : Option ℕ) → AreInOrder s.entries → AreInOrder (without s o).entries
taken_out s None h = h
taken_out s (Some t) h = set_order s.entries t None tt h

popped : (s : QueueState) (q : ℕ) → AreInOrder s.entries → AreInOrder (after_pop s q).entries
popped s q h = taken_out s (front_of s q) h

-- a queue is created
pub created : (s : QueueState) (q : ℕ) → AreInOrder s.entries → AreInOrder (after_create s q).entries
created s q h = keeps_if (λ (u : QueueState). AreInOrder u.entries) (is_none (create_refusal s q)) (with_queue s q) s h h

-- ---- small changes of a world

fifo_by : (w : WorldState) (r : Rank) → IsFifo r → IsFifo (rank_by w r)
fifo_by w Fifo f = tt
fifo_by w Front f = tt
fifo_by w (Vtime n) f = absurd f

-- a task has another processor
order_homes : KeepsHomes IsInOrder
order_homes = record { home = λ w t c h. h; preempted = λ w t c h. h }

pub order_homed : (w : WorldState) (t c : ℕ) → IsInOrder w → IsInOrder (homed w t c)
order_homed = kept_homed IsInOrder order_homes

-- a task goes into a queue in order of arrival
pub order_entered : (w : WorldState) (t : ℕ) (i : Insert) → (w.ejected ≡ None → IsFifo i.rank) → IsInOrder w → IsInOrder (after_enter w t i)
order_entered w t i f h = kept_entered IsInOrder order_homes w t i h (λ none. (pushed w.queues i.queue t (rank_by w i.rank) (fifo_by w i.rank (f none)) (h none).0, (h none).1))

-- a task leaves its queue
pub order_left : (w : WorldState) (t : ℕ) → IsInOrder w → IsInOrder (after_leave w t)
order_left w t h none = (removed w.queues t (h none).0, (h none).1)

-- a task comes to the end of a local queue
order_local : (w : WorldState) (c t : ℕ) → IsInOrder w → IsInOrder (after_local w c t)
order_local w c t h = order_homed (with_queues w (after_push w.queues (local_on c) t Fifo)) t c (λ none. (pushed w.queues (local_on c) t Fifo tt (h none).0, (h none).1))

-- a task is brought from one queue to a local one
pub order_brought : (o : Option ℕ) (w : WorldState) (c : ℕ) → IsInOrder w → IsInOrder (brought o w c)
order_brought None w c h = h
order_brought (Some t) w c h = order_local (after_leave w t) c t (order_left w t h)

-- a front comes to a processor
pub order_started : (w : WorldState) (t c : ℕ) → IsInOrder w → IsInOrder (started_at (Some t) w c)
order_started w t c h none = (popped w.queues (local_on c) (h none).0, (h none).1)

-- a task that was picked comes to a processor
pub order_run : (w : WorldState) (c t : ℕ) → IsInOrder w → IsInOrder (after_run w c t)
order_run w c t h = order_left w t h

-- a task keeps its processor
pub order_kept : (w : WorldState) (o : Option ℕ) → IsInOrder w → IsInOrder (after_keep w o)
order_kept w None h = h
order_kept w (Some t) h = h

-- a task is parked
pub order_parked : (w : WorldState) (t : ℕ) → IsInOrder w → IsInOrder (put_parked w t)
order_parked w t h = keeps_if IsInOrder (nat_lt t (length w.tasks)) _ w (λ none. (pushed w.queues parked_queue t Fifo tt (h none).0, (h none).1)) h

-- a task sleeps
pub order_asleep : (w : WorldState) (t : ℕ) → IsInOrder w → IsInOrder (after_sleep w t)
order_asleep w t h = keeps_if IsInOrder (nat_lt t (length w.tasks)) _ w h h

-- its groups have used a millisecond
pub order_used : (w : WorldState) (t : ℕ) → IsInOrder w → IsInOrder (used_ms w t)
order_used w t h = keeps_if IsInOrder (nat_lt t (length w.tasks)) _ w h h

-- a group gets another weight
pub order_reweighed : (w : WorldState) (g x : ℕ) → IsInOrder w → IsInOrder (after_reweigh w g x)
order_reweighed w g x h = keeps_if IsInOrder (is_none (weight_fault w.tree g x)) (with_tree w (with_weight w.tree g x)) w h h

-- a task gets another weight of its own
pub order_weighed : (w : WorldState) (t x : ℕ) → IsInOrder w → IsInOrder (after_own_weight w t x)
order_weighed w t x h = keeps_if IsInOrder (is_none (own_weight_fault w.tree t x)) (with_tree w (with_own_weight w.tree t x)) w h h

-- ---- choices

order_claimed : (w : WorldState) (o : Option ℕ) → IsInOrder w → IsInOrder (after_claim w o)
order_claimed w None h = h
order_claimed w (Some c) h = keeps_if IsInOrder (is_by_linux w) _ w h h

order_choice : (w : WorldState) (o : Option ℕ) → IsInOrder w → IsInOrder (inserted_by_choice w o)
order_choice w None h = h
order_choice w (Some c) h = λ none. ((h none).0, tt)

-- a processor is chosen by default
pub order_chosen : (w : WorldState) (t : ℕ) → IsInOrder w → IsInOrder (chosen_by_default w t)
order_chosen w t h =
    let o = choice w t in
    keeps_if IsInOrder (is_by_linux w) (inserted_by_choice (after_claim w o) o) w (order_choice (after_claim w o) o (order_claimed w o h)) h

-- ---- callbacks

released : (w : WorldState) (t : Option ℕ) (i : Insert) → IsFifo i.rank → IsInOrder w → IsInOrder (after_release w t i)
released w None i f h = h
released w (Some t) i f h = order_entered (after_leave w t) t i (λ none. f) (order_left w t h)

inserted : (w : WorldState) (o : Option Fault) (t : Option ℕ) (i : Insert) → IsFifo i.rank → IsInOrder w → IsInOrder (insert_or_fault w o t i)
inserted w None t i f h = keeps_if IsInOrder (is_dispatch w.call.callback) (after_release w t (for_cpu w.call.cpu i)) (with_insert w i) (released w t (for_cpu w.call.cpu i) f h) (λ none. ((h none).0, f))
inserted w (Some x) t i f h = h

moved : (w : WorldState) (o : Option ℕ) → IsInOrder w → IsInOrder (moved_to_local w o)
moved w None h = h
moved w (Some t) h = order_local (after_leave w t) w.call.cpu t (order_left w t h)

apart : true ≡ false → ⊥
apart e = absurd (cc)

helped : (w : WorldState) (f : Helper) (a : List Arg) → is_by_vtime (Some f) ≡ false → IsInOrder w → IsInOrder (helper_after w f a)
helped w f a fine h = by_helper (λ (g : Helper). is_by_vtime (Some g) ≡ false) IsInOrder w (record {
  same = h;
  faulty = λ x. h;
  ended = λ n. h;
  created = λ may q none. (created w.queues q (h none).0, (h none).1);
  inserted = λ may t i fifo. inserted w None t i fifo h;
  by_vtime = λ may t i. absurd (apart may);
  late = h;
  moved = λ o. moved w o h;
  claimed = λ o. order_claimed w o h;
  kicked = λ c. h;
  preempted = λ c. h;
  timed = λ n o. h;
  drawn = λ may. h;
}) f fine a

-- a query that inserts no task by a virtual time
abbrev IsFine : Query → Type 0
IsFine (Call f a) = is_by_vtime (Some f) ≡ false
IsFine q = Unit {0}

stores_fine : (t : TaskId) (f : Field) (n : ℕ) → IsFine (Store t f n)
stores_fine t f n = tt

queried : (w : WorldState) (q : Query) → IsFine q → IsInOrder w → IsInOrder (after_query world_functions w q)
queried w (Call f a) fine h = helped w f (map argument_of a) fine h
queried w (Load t f) fine h = h
queried w (Store t f n) fine h = h

fine_insn : (c : Callback) (o : Option Insn) → inserts_by_vtime o ≡ false → MayAskAt IsFine stores_fine c o
fine_insn c None e = tt
fine_insn c (Some (insn.Load a d b offset)) e = λ t f is. tt
fine_insn c (Some (insn.Call k)) e = (λ f v is free. subst (λ o. is_by_vtime o ≡ false) is e, λ f is free. refl)
fine_insn c (Some i) e = tt

-- a callback's program is run
pub called_order : (q : Option VerifiedProgram) → InsertsInOrder q → (b : Callback) (a : Args) (maps : Maps) (w : WorldState) → IsInOrder w → IsInOrder (call_ending q b a maps w).outside
unfolding call_ending run_of
called_order None fine b a maps w h = h
called_order (Some q) fine b a maps w h =
    run_keeps IsFine stores_fine (answer_to world_functions) (after_query world_functions) IsInOrder queried b q.code (λ slot. fine_insn b (at q.code slot) (fine slot)) (suc (instruction_count q.code)) 0 (start (program_arguments a) maps) w h

-- a cause is none that isn't there
no_cause : (x : Eject) → ◌≡◌ {A = Option Eject} (Some x) None → ⊥
no_cause x e = absurd (cc)

module _ (p : PolicyState) (may : InsertInOrder p) where
  -- the machine is under that policy, and no task waits by a virtual time
  abbrev pub Kept : State → Type 0
  Kept s = (s.policy ≡ p) × IsInOrder s.world

  -- a step keeps it that ends so
  abbrev Leaves : Stepped → Type 0
  Leaves r = Kept r.state

  -- the policy is ejected
  pub order_eject : (s : State) (x : Eject) → Kept s → Leaves (eject s x)
  order_eject s x h = (eject_policy s x ∙ h.0, λ none. absurd (no_cause x (sym ((eject_sets s x).1) ∙ none)))

  order_ejected_for : (o : Option Cause) (s : State) → Kept s → Leaves (ejected_for o s)
  order_ejected_for None s h = h
  order_ejected_for (Some x) s h = order_eject s _ h

  -- nor does the program of a callback insert anybody so
  pub order_acting : (s : State) (b : Callback) → s.policy ≡ p → InsertsInOrder (acting s b)
  order_acting s b is = go s.world.ejected
    where
      go : (o : Option Eject) → InsertsInOrder (unless_ejected o (program_of s.policy b))
      go None = subst (λ (q : PolicyState). InsertsInOrder (program_of q b)) (sym is) (may b)
      go (Some x) = tt

  -- a callback is called
  pub order_call_back : (s : State) (b : Callback) (a : Args) (t c : ℕ) → Kept s → Leaves (call_back s b a t c)
  unfolding call_back
  order_call_back s b a t c h =
      let w = at_callback s.world b t c in
      let e = call_ending (acting s b) b a s.maps w in
      order_ejected_for (cause_of b e) (after_callback s.policy e) (h.0, called_order (acting s b) (order_acting s b h.0) b a s.maps w (λ none. ((h.1 none).0, tt)))

  -- a task comes to wait where an insert wants it, in order of arrival
  pub order_enters : (s : State) (t : ℕ) (i : Insert) → (s.world.ejected ≡ None → IsFifo i.rank) → Kept s → Leaves (enters s t i)
  unfolding enters
  order_enters s t i f h = (h.0, order_entered s.world t i f h.1)

  chosen : (q : Option VerifiedProgram) (c : ℕ) (o : Option Insert) → WantsOrder o → IsFifo (enqueue_choice q c o).rank
  chosen None c o f = tt
  chosen (Some q) c None f = tt
  chosen (Some q) c (Some i) f = f

  order_comes_in : (s : State) (t c : ℕ) → Kept s → Leaves (comes_in s t c)
  unfolding comes_in enters_builtin
  order_comes_in s t c h = go s.world.ejected refl
    where
      i : Insert
      i = enqueue_choice s.policy.callbacks.enqueue c s.world.call.insert

      go : (o : Option Eject) → s.world.ejected ≡ o → Leaves (if is_some o then enters_builtin s t else enters s t i)
      go None is = order_enters s t i (λ none. chosen s.policy.callbacks.enqueue c s.world.call.insert (h.1 none).1) h
      go (Some x) is = (h.0, λ none. absurd (no_cause x (sym ((same_put_builtin s.world s.world t (refl, refl, refl, refl, refl, refl)).1 ∙ is) ∙ none)))

  -- a task is put
  pub order_puts : (s : State) (t c flags : ℕ) → Kept s → Leaves (put s t c flags)
  unfolding put
  order_puts s t c flags h = order_comes_in (call_back s callback.Enqueue (task_and_number t flags) t c).state t c (order_call_back s callback.Enqueue (task_and_number t flags) t c h)

  order_settled : (o : Option Insert) (s : State) (t c : ℕ) → (s.world.ejected ≡ None → WantsOrder o) → Kept s → Leaves (insert_or_put o s t c)
  order_settled None s t c f h = order_puts s t c 1 h
  order_settled (Some i) s t c f h = order_enters s t (for_cpu c i) f h

  pub order_steps : IsKeptBySmallSteps p IsInOrder
  order_steps = record {
    called_back = λ s b a t c barred h. order_call_back s b a t c h;
    ejected = λ s x h. order_eject s x h;
    puts = λ s t c flags h. order_puts s t c flags h;
    settled = λ v s t c force wanted h. order_settled v.call.insert s t c (λ none. (wanted (force none)).1) h;
    left = order_left;
    brings = order_brought;
    parked = order_parked;
    started = order_started;
    kept = order_kept;
    stopped = λ w c t h. h;
    charged = λ w t h. h;
    caught_up = λ w t h. h;
    cycled = cycled_anyhow IsInOrder (λ w o claimed x h. h);
    passes = λ w o x h. h;
    woken = λ w t h. h;
    asleep = order_asleep;
    ticked = λ w t h. h;
    used = order_used;
    let_off = λ w t h. order_left (with_task w t (with_since (task_at w t) (Some w.clock))) t h;
    begun = λ w h. h;
    reweighed = λ may. order_reweighed;
    fronted = λ w t c h. order_entered w t (to_front c) (λ none. tt) h;
    runs = order_run;
    lengthened = λ w t h. h;
    cut_off = λ w t h. h;
    homed = order_homed;
    chosen = order_chosen;
    at_hand = λ w t c h none. ((h none).0, tt);
    kicks = λ w c h. h;
    unkicked = λ w c h. h;
    counted = λ w b h. h;
    unstarted = λ w n h. h;
    weighed = λ may. order_weighed;
  }

key_is : (r : Rank) → IsFifo r → key_of r ≡ 0
key_is Fifo f = refl
key_is Front f = refl
key_is (Vtime n) f = absurd f

pub waiting_is : (o : Option Entry) → WaitsInOrder o → waiting_key o ≡ 0
waiting_is None f = refl
waiting_is (Some e) f = key_is e.rank f

-- under a policy that inserts no task by a virtual time such times are 0
pub nobody_waits_by_vtime : NobodyWaitsByVtime
nobody_waits_by_vtime root events t may fine force =
    waiting_is (entry_of (stepped_all root events).state.world.queues t) (((walk_all root.state.policy IsInOrder (order_steps root.state.policy may) root events (refl, fine)).1 force).0 t)
