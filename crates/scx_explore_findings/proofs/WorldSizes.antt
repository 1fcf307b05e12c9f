-- Small changes of a world keep how many tasks, processors and groups there are, and which queues: a queue is created
-- in init alone.
use Rattle.std.proofs.Common.{◌≡◌, ℕ, zero, suc, Bool, true, false, nat_lt, List, length, map, Option, Some, None, is_some, is_none, sym, ◌∙◌}
use Rattle.std.proofs.lemmas.List.{length-set}
use Rattle.scx_dsq.specs.declared.entries.Rank.{Rank}
use Rattle.scx_dsq.specs.declared.entries.Rank.TheVariants.{Fifo}
use Rattle.scx_dsq.specs.Queues.{QueueState, entry_of, front_of}
use Rattle.scx_dsq.specs.Calls.{push_refusal, with_task as with_entry, after_push, without_task, after_remove, without, after_pop}
use Rattle.scx_isa_semantics.specs.declared.callbacks.Callback.{Callback}
use Rattle.scx_isa_semantics.specs.declared.host_tables.Helper.{Helper}
use Rattle.scx_isa_semantics.specs.declared.host_tables.Helper.TheVariants.{CreateDsq}
use Rattle.scx_isa_semantics.specs.HostTables.{is_allowed}
use Rattle.scx_isa_semantics.specs.Effects.{Query, Call, Load, Store}
use Rattle.scx_vm.specs.Arguments.{argument_of}
use Rattle.scx_vm.specs.declared.arguments.Arg.{Arg}
use Rattle.scx_vm.specs.Host.{after_query}
use Rattle.scx_weights.specs.Hierarchy.{with_weight, with_own_weight}
use Rattle.scx_weights.specs.Refusals.{weight_fault, own_weight_fault}
use Rattle.scx_sched_tasks.specs.declared.task.Task.{Task}
use Rattle.scx_sched_world.specs.declared.call.Insert.{Insert}
use Rattle.scx_sched_world.specs.declared.faults.Fault.{Fault}
use Rattle.scx_sched_world.specs.Ids.{builtin_queue, parked_queue, local_on}
use Rattle.scx_sched_world.specs.World.{WorldState, IsLike, with_queues, with_tree, is_by_linux, task_at, with_task, with_cpu, waits, running, choice, after_claim}
use Rattle.scx_sched_world.specs.Tasks.{with_since, with_slice, with_home, on_cpu, after_sleep, after_leave, homed, after_local, task_after_insert, rank_by, after_enter, for_cpu, brought, after_stop, started_at, after_run, after_keep, put_parked, used_ms, after_reweigh, after_own_weight}
use Rattle.scx_sched_world.specs.Ejecting.{put_builtin, after_evictions, cut_task, after_cut}
use Rattle.scx_sched_world.specs.Helpers.{is_dispatch, with_insert, after_release, insert_or_fault, moved_to_local, helper_after, world_functions}
use Rattle.scx_sched_machine.specs.Events.{inserted_by_choice, chosen_by_default}
use Rattle.scx_sched_machine.proofs.Choices.{keeps_if}
use Rattle.scx_explore_findings.proofs.Helpers.{by_helper}
use Rattle.scx_explore_states.proofs.Queries.{IsAllowed}
use Rattle.scx_explore_findings.proofs.Entering.{KeepsHomes, kept_entered, kept_homed}

-- both worlds have the same queues, room for as many, and as many tasks, processors, groups and timers
abbrev pub HasSize : WorldState → WorldState → Type 0
HasSize v w = (length v.tasks ≡ length w.tasks) × (length v.cpus ≡ length w.cpus) × (v.queues.room ≡ w.queues.room) × (v.queues.ids ≡ w.queues.ids) × (length v.tree.groups ≡ length w.tree.groups) × (length v.timers ≡ length w.timers)

-- that is what makes worlds alike
pub like_sized : (v w : WorldState) → HasSize v w → IsLike v w
like_sized v w h = record { tasks = h.0; cpus = h.1; room = h.2; queues = h.3; groups = h.4; timers = h.5 }

-- those queues are the ones of the world
abbrev HasQueues : WorldState → QueueState → Type 0
HasQueues v s = (v.queues.room ≡ s.room) × (v.queues.ids ≡ s.ids)

apart : (b : Bool) → b ≡ true → b ≡ false → ⊥
apart b x y = absurd (cc)

-- from that world on
module _ (v : WorldState) where
  -- ---- queues

  queues_pushed : (s : QueueState) (q t : ℕ) (r : Rank) → HasQueues v s → HasQueues v (after_push s q t r)
  queues_pushed s q t r h = keeps_if (HasQueues v) (is_none (push_refusal s q t r)) (with_entry s q t r) s h h

  queues_removed : (s : QueueState) (t : ℕ) → HasQueues v s → HasQueues v (after_remove s t)
  queues_removed s t h = keeps_if (HasQueues v) (is_some (entry_of s t)) (without_task s t) s h h

  queues_without : (s : QueueState) (o : Option ℕ) → HasQueues v s → HasQueues v (without s o)
  queues_without s None h = h
  queues_without s (Some t) h = h

  queues_popped : (s : QueueState) (q : ℕ) → HasQueues v s → HasQueues v (after_pop s q)
  queues_popped s q h = queues_without s (front_of s q) h

  -- ---- small changes of a world

  sized_queues : (w : WorldState) (s : QueueState) → HasQueues v s → HasSize v w → HasSize v (with_queues w s)
  sized_queues w s k h = (h.0, h.1, k.0, k.1, h.4, h.5)

  queues_of : (w : WorldState) → HasSize v w → HasQueues v w.queues
  queues_of w h = (h.2, h.3)

  -- another record of a task
  pub sized_task : (w : WorldState) (t : ℕ) (x : Task) → HasSize v w → HasSize v (with_task w t x)
  sized_task w t x h = (h.0 ∙ sym (length-set w.tasks t x), h.1, h.2, h.3, h.4, h.5)

  sized_cpu : (w : WorldState) (c : ℕ) (o : Option ℕ) → HasSize v w → HasSize v (with_cpu w c o)
  sized_cpu w c o h = (h.0, h.1 ∙ sym (length-set w.cpus c o), h.2, h.3, h.4, h.5)

  -- a task that leaves its queue
  pub sized_left : (w : WorldState) (t : ℕ) → HasSize v w → HasSize v (after_leave w t)
  sized_left w t h = sized_queues w (after_remove w.queues t) (queues_removed w.queues t (queues_of w h)) h

  -- with another record of a task, and that pushed
  sized_put : (w : WorldState) (t : ℕ) (x : Task) (q : ℕ) (r : Rank) → HasSize v w → HasSize v (with_queues (with_task w t x) (after_push w.queues q t r))
  sized_put w t x q r h = sized_queues (with_task w t x) (after_push w.queues q t r) (queues_pushed w.queues q t r (queues_of w h)) (sized_task w t x h)

  -- a task whose processor is another one
  sized_homes : KeepsHomes (HasSize v)
  sized_homes = record { home = λ w t c h. sized_task w t (with_home (task_at w t) c) h; preempted = λ w t c h. sized_task w t (with_slice (task_at w t) 0) h }

  pub sized_homed : (w : WorldState) (t c : ℕ) → HasSize v w → HasSize v (homed w t c)
  sized_homed = kept_homed (HasSize v) sized_homes

  -- a task that goes into a queue
  pub sized_entered : (w : WorldState) (t : ℕ) (i : Insert) → HasSize v w → HasSize v (after_enter w t i)
  sized_entered w t i h = kept_entered (HasSize v) sized_homes w t i h (sized_put w t (task_after_insert (task_at w t) i) i.queue (rank_by w i.rank) h)

  -- a task that comes to the end of a local queue
  sized_local : (w : WorldState) (c t : ℕ) → HasSize v w → HasSize v (after_local w c t)
  sized_local w c t h =
      let s = after_push w.queues (local_on c) t Fifo in
      sized_homed (with_queues w s) t c (sized_queues w s (queues_pushed w.queues (local_on c) t Fifo (queues_of w h)) h)

  -- a task that goes from its queue to a local one
  pub sized_brought : (o : Option ℕ) (w : WorldState) (c : ℕ) → HasSize v w → HasSize v (brought o w c)
  sized_brought None w c h = h
  sized_brought (Some t) w c h = sized_local (after_leave w t) c t (sized_left w t h)

  -- a front that runs
  pub sized_started : (w : WorldState) (t c : ℕ) → HasSize v w → HasSize v (started_at (Some t) w c)
  sized_started w t c h =
      let u = with_queues w (after_pop w.queues (local_on c)) in
      let x = on_cpu (task_at w t) c in
      sized_cpu (with_task u t x) c (Some t) (sized_task u t x (sized_queues w (after_pop w.queues (local_on c)) (queues_popped w.queues (local_on c) (queues_of w h)) h))

  -- a task that was picked, and runs
  pub sized_run : (w : WorldState) (c t : ℕ) → HasSize v w → HasSize v (after_run w c t)
  sized_run w c t h =
      let u = after_leave w t in
      let x = on_cpu (task_at w t) c in
      sized_cpu (with_task u t x) c (Some t) (sized_task u t x (sized_left w t h))

  -- a task that keeps its processor
  pub sized_kept : (w : WorldState) (o : Option ℕ) → HasSize v w → HasSize v (after_keep w o)
  sized_kept w None h = h
  sized_kept w (Some t) h = sized_task w t _ h

  -- a task that is parked
  pub sized_put_parked : (w : WorldState) (t : ℕ) → HasSize v w → HasSize v (put_parked w t)
  sized_put_parked w t h = keeps_if (HasSize v) (nat_lt t (length w.tasks)) _ w (sized_put w t _ parked_queue _ h) h

  -- a task that waits for the built-in scheduler
  pub sized_put_builtin : (w : WorldState) (t : ℕ) → HasSize v w → HasSize v (put_builtin w t)
  sized_put_builtin w t h = keeps_if (HasSize v) (nat_lt t (length w.tasks)) _ w (sized_put w t _ builtin_queue _ h) h

  -- a task that sleeps
  pub sized_asleep : (w : WorldState) (t : ℕ) → HasSize v w → HasSize v (after_sleep w t)
  sized_asleep w t h = keeps_if (HasSize v) (nat_lt t (length w.tasks)) _ w (sized_task w t _ h) h

  -- a millisecond that groups have used
  pub sized_used : (w : WorldState) (t : ℕ) → HasSize v w → HasSize v (used_ms w t)
  sized_used w t h = keeps_if (HasSize v) (nat_lt t (length w.tasks)) _ w h h

  -- a task that leaves its processor
  pub sized_stopped : (w : WorldState) (c t : ℕ) → HasSize v w → HasSize v (after_stop w c t)
  sized_stopped w c t h =
      let x = with_since (task_at w t) (Some w.clock) in
      sized_cpu (with_task w t x) c None (sized_task w t x h)

  -- another weight of a group
  pub sized_reweighed : (w : WorldState) (g x : ℕ) → HasSize v w → HasSize v (after_reweigh w g x)
  sized_reweighed w g x h = keeps_if (HasSize v) (is_none (weight_fault w.tree g x)) (with_tree w (with_weight w.tree g x)) w (h.0, h.1, h.2, h.3, h.4 ∙ sym (length-set w.tree.groups g _), h.5) h

  -- another weight of a task itself
  pub sized_weighed : (w : WorldState) (t x : ℕ) → HasSize v w → HasSize v (after_own_weight w t x)
  sized_weighed w t x h = keeps_if (HasSize v) (is_none (own_weight_fault w.tree t x)) (with_tree w (with_own_weight w.tree t x)) w h h

  -- ---- a callback but init

  sized_released : (w : WorldState) (t : Option ℕ) (i : Insert) → HasSize v w → HasSize v (after_release w t i)
  sized_released w None i h = h
  sized_released w (Some t) i h = sized_entered (after_leave w t) t i (sized_left w t h)

  sized_inserted : (w : WorldState) (o : Option Fault) (t : Option ℕ) (i : Insert) → HasSize v w → HasSize v (insert_or_fault w o t i)
  sized_inserted w None t i h = keeps_if (HasSize v) (is_dispatch w.call.callback) (after_release w t (for_cpu w.call.cpu i)) (with_insert w i) (sized_released w t (for_cpu w.call.cpu i) h) h
  sized_inserted w (Some f) t i h = h

  sized_moved : (w : WorldState) (o : Option ℕ) → HasSize v w → HasSize v (moved_to_local w o)
  sized_moved w None h = h
  sized_moved w (Some t) h = sized_local (after_leave w t) w.call.cpu t (sized_left w t h)

  -- a processor that is claimed
  sized_claimed : (w : WorldState) (o : Option ℕ) → HasSize v w → HasSize v (after_claim w o)
  sized_claimed w None h = h
  sized_claimed w (Some c) h = keeps_if (HasSize v) (is_by_linux w) _ w h h

  sized_choice : (w : WorldState) (o : Option ℕ) → HasSize v w → HasSize v (inserted_by_choice w o)
  sized_choice w None h = h
  sized_choice w (Some c) h = h

  -- the default choice
  pub sized_chosen : (w : WorldState) (t : ℕ) → HasSize v w → HasSize v (chosen_by_default w t)
  sized_chosen w t h =
      let o = choice w t in
      keeps_if (HasSize v) (is_by_linux w) (inserted_by_choice (after_claim w o) o) w (sized_choice (after_claim w o) o (sized_claimed w o h)) h

  sized_helper : (b : Callback) → is_allowed CreateDsq b ≡ false → (w : WorldState) (f : Helper) (a : List Arg) → is_allowed f b ≡ true → HasSize v w → HasSize v (helper_after w f a)
  sized_helper b barred w f a free h = by_helper (λ (g : Helper). is_allowed g b ≡ true) (HasSize v) w (record {
    same = h;
    faulty = λ x. h;
    ended = λ n. h;
    created = λ may q. absurd (apart (is_allowed CreateDsq b) may barred);
    inserted = λ may t i fifo. sized_inserted w None t i h;
    by_vtime = λ may t i. sized_inserted w None t i h;
    late = h;
    moved = λ o. sized_moved w o h;
    claimed = λ o. sized_claimed w o h;
    kicked = λ c. h;
    preempted = λ c. h;
    timed = λ n o. (h.0, h.1, h.2, h.3, h.4, h.5 ∙ sym (length-set w.timers n o));
    drawn = λ may. h;
  }) f free a

  -- what a program asks in a callback that may create no queue
  pub sized_query : (b : Callback) → is_allowed CreateDsq b ≡ false → (w : WorldState) (q : Query) → IsAllowed b q → HasSize v w → HasSize v (after_query world_functions w q)
  sized_query b barred w (Call f a) free h = sized_helper b barred w f (map argument_of a) free h
  sized_query b barred w (Load t f) free h = h
  sized_query b barred w (Store t f k) free h = sized_task w t.0 _ h

  -- ---- an ejection

  -- tasks that go over to the built-in scheduler
  pub sized_evicted : (j : ℕ) (w : WorldState) → HasSize v w → HasSize v (after_evictions j w)
  sized_evicted zero w h = h
  sized_evicted (suc j) w h =
      let u = after_evictions j w in
      let x = sized_evicted j w h in
      keeps_if (HasSize v) (waits u j) (put_builtin (after_leave u j) j) u (sized_put_builtin (after_leave u j) j (sized_left u j x)) x

  sized_cut_task : (o : Option ℕ) (w : WorldState) → HasSize v w → HasSize v (cut_task o w)
  sized_cut_task None w h = h
  sized_cut_task (Some t) w h = sized_task w t _ h

  -- slices that are cut
  pub sized_cut : (j : ℕ) (w : WorldState) → HasSize v w → HasSize v (after_cut j w)
  sized_cut zero w h = h
  sized_cut (suc j) w h = sized_cut_task (running (after_cut j w) j) (after_cut j w) (sized_cut j w h)
