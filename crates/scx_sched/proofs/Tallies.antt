-- A task has run for a millisecond more after a tick of its processor, and whoever is in a queue is in one that there is:
-- no small step changes how long a task has run, and none puts a task into a queue that isn't there.
use Rattle.std.proofs.Common.{◌≡◌, ℕ, ◌+◌, ◌<◌, Bool, true, false, ◌==◌, not, nat_lt, ◌⊎◌, inl, inr, if◌then◌else◌, List, [], ◌∷◌, ◌++◌, length, set, get_or, Option, Some, None, is_some, is_none, option_map, Ok, refl, ap, ◌∙◌, subst, arith}
use Rattle.std.specs.List.{list_any}
use Rattle.std.proofs.lemmas.Bool.{cases_eq, eq-eqb, ne_eqb}
use Rattle.std.proofs.lemmas.List.{length-set, length-replicate, get_or-set_same, get_or-set_other}
use Rattle.std.proofs.lemmas.List.Folds.{list_any-append}
use Rattle.scx_dsq.specs.declared.entries.Entry.{Entry}
use Rattle.scx_dsq.specs.declared.entries.Rank.{Rank}
use Rattle.scx_dsq.specs.declared.errors.QueueError.{QueueError}
use Rattle.scx_dsq.specs.declared.errors.QueueError.TheVariants.{NoSuchQueue, AlreadyThere, Mixed}
use Rattle.scx_dsq.specs.Queues.{QueueState, exists, entry_of, front_of}
use Rattle.scx_dsq.specs.Calls.{clashes, create_refusal, with_queue, after_create, after_push, after_pop, after_remove, without, without_task, next_entry, with_task as with_place}
use Rattle.scx_weights.specs.Hierarchy.{Hierarchy, with_weight}
use Rattle.scx_weights.specs.Limits.{with_use}
use Rattle.scx_weights.specs.Refusals.{weight_fault}
use Rattle.scx_sched_tasks.specs.declared.task.Task.{Task}
use Rattle.scx_sched_tasks.specs.Tasks.{no_task, new_task}
use Rattle.scx_sched_world.specs.First.{first_queues, first_world}
use Rattle.scx_sched_world.specs.World.{WorldState, with_queues, with_tree, with_task, task_at, is_this, running}
use Rattle.scx_sched_world.specs.Tasks.{tick_ns, ran_a_tick, after_tick, used_ms, begun_periods}
use Rattle.scx_sched_machine.specs.declared.events.Event.{Event}
use Rattle.scx_sched_machine.specs.declared.events.Event.TheVariants.{Wake, Sleep, Clock, SetWeight, SetTaskWeight}
use Rattle.scx_sched_policy.specs.Policy.{PolicyState}
use Rattle.scx_sched_machine.specs.Start.{is_bad_shape, first_state, by_policy}
use Rattle.scx_sched_machine.specs.Steps.{State}
use Rattle.scx_sched_machine.specs.Events.{refusal, tick_idle, tick_of, tick, own_step, event_step}
use Rattle.scx_sched_machine.proofs.Choices.{keeps_if}
use Rattle.scx_sched.specs.Once.{AreInQueues}
use Rattle.scx_sched.specs.Ranges.{IsFine}
use Rattle.scx_sched.specs.Decided.{ran_in}
use Rattle.scx_sched.proofs.Entering.{each_set}
use Rattle.scx_sched.proofs.First.{nowhere, steps_started}
use Rattle.scx_sched.proofs.Watching.{Both, alone_events}
use Rattle.scx_sched.proofs.Events.{IsKeptByEvents, IsTaken, Wakes, Sleeps, Ticks, Clocks, Weighs, is_taken, IsFineNow, one_more, fine_later, fine_ticked, known_running, keeps_wake, keeps_sleep, keeps_tick_idle, keeps_count_down, keeps_clock, keeps_with_rounds, fine_own, WeighsTask, keeps_reweigh}
use Rattle.scx_sched.proofs.Queries.{KeepsQueries}
use Rattle.scx_sched.proofs.Written.{each_written}
use Rattle.scx_sched.proofs.Alone.{KeepsAlone, alone_steps}

-- ---- queues that there are

-- an entry is in one of these queues
abbrev is_home : List ℕ → Option Entry → Bool
is_home ids None = true
is_home ids (Some p) = list_any (λ other. other == p.queue) ids

abbrev AreHome : QueueState → Type 0
AreHome s = (t : ℕ) → is_home s.ids (entry_of s t) ≡ true

-- a push into another queue is refused
home_pushed : (s : QueueState) (q t : ℕ) (r : Rank) → AreHome s → AreHome (after_push s q t r)
home_pushed s q t r h = go (exists s q) refl
  where
    rest : Option QueueError
    rest = if is_some (entry_of s t) then Some AlreadyThere else (if list_any (clashes q r) s.entries then Some Mixed else None)

    go : (b : Bool) → exists s q ≡ b → AreHome (if is_none (if not b then Some NoSuchQueue else rest) then with_place s q t r else s)
    go false e = h
    go true e = keeps_if AreHome (is_none rest) (with_place s q t r) s (each_set (is_home s.ids) true s.entries t (Some (next_entry s q r)) e h) h

home_without : (s : QueueState) (o : Option ℕ) → AreHome s → AreHome (without s o)
home_without s None h = h
home_without s (Some t) h = each_set (is_home s.ids) true s.entries t None refl h

home_popped : (s : QueueState) (q : ℕ) → AreHome s → AreHome (after_pop s q)
home_popped s q h = home_without s (front_of s q) h

home_removed : (s : QueueState) (t : ℕ) → AreHome s → AreHome (after_remove s t)
home_removed s t h = keeps_if AreHome (is_some (entry_of s t)) (without_task s t) s (home_without s (Some t) h) h

home_created : (s : QueueState) (q : ℕ) → AreHome s → AreHome (after_create s q)
home_created s q h = keeps_if AreHome (is_none (create_refusal s q)) (with_queue s q) s (λ t. more (entry_of s t) (h t)) h
  where
    more : (o : Option Entry) → is_home s.ids o ≡ true → is_home (s.ids ++ q ∷ []) o ≡ true
    more None e = refl
    more (Some p) e = rw (list_any-append (λ other. other == p.queue) s.ids (q ∷ []), e) refl

-- the same, of queues by their ids
in_queues : (w : WorldState) → AreHome w.queues → AreInQueues w
in_queues w h t q there = go (entry_of w.queues t) (h t) there
  where
    same_queue : (a b : ℕ) → Some a ≡ Some b → a ≡ b
    same_queue a b e = cc

    go : (o : Option Entry) → is_home w.queues.ids o ≡ true → option_map (λ p. p.queue) o ≡ Some q → exists w.queues q ≡ true
    go None e x = absurd (cc)
    go (Some p) e x = subst (λ k. exists w.queues k ≡ true) (same_queue p.queue q x) e

at_home : (w : WorldState) → AreInQueues w → AreHome w.queues
at_home w h t = go (entry_of w.queues t) refl
  where
    go : (o : Option Entry) → entry_of w.queues t ≡ o → is_home w.queues.ids o ≡ true
    go None e = refl
    go (Some p) e = h t p.queue (ap (λ (x : Option Entry). option_map (λ y. y.queue) x) e)

-- ---- small steps

-- so many tasks have run for so long, and are in queues that there are
abbrev IsTallied : ℕ → (ℕ → ℕ) → WorldState → Type 0
IsTallied n ran w = (length w.tasks ≡ n) × ((t : ℕ) → (task_at w t).run_ns ≡ ran t) × AreHome w.queues

module _ (n : ℕ) (ran : ℕ → ℕ) where
  -- another record of a task, which has run as long
  tally_set : (w : WorldState) (t : ℕ) (x : Task) → x.run_ns ≡ (task_at w t).run_ns → IsTallied n ran w → IsTallied n ran (with_task w t x)
  tally_set w t x same (many, times, homes) = (length-set w.tasks t x ∙ many, each_written (λ u (y : Task). y.run_ns ≡ ran u) w.tasks t x no_task (same ∙ times t) times, homes)

  -- other queues
  tally_queues : (w : WorldState) (s : QueueState) → AreHome s → IsTallied n ran w → IsTallied n ran (with_queues w s)
  tally_queues w s homes h = (h.0, h.1, homes)

  -- each small change of a query
  tally_kept : KeepsQueries (IsTallied n ran)
  tally_kept = record {
    caused = λ w x other h. h;
    timed = λ w i o later h. h;
    touched = λ w t s v c h. tally_set w t _ refl h;
    created = λ w q h. tally_queues w (after_create w.queues q) (home_created w.queues q h.2) h;
    removed = λ w t h. tally_queues w (after_remove w.queues t) (home_removed w.queues t h.2) h;
    pushed = λ w q t r h. tally_queues w (after_push w.queues q t r) (home_pushed w.queues q t r h.2) h;
    rest = λ w i m a b c d r ns h. h;
  }

  -- and of a world
  tally_alone : KeepsAlone n (IsTallied n ran)
  tally_alone = record {
    known = λ w h. h.0;
    queries = tally_kept;
    waits_now = λ w t h. tally_set w t _ refl h;
    waits_not = λ w t c h. tally_set w t _ refl h;
    builtin = λ w t s v h. tally_set w t _ refl h;
    popped = λ w q h. tally_queues w (after_pop w.queues q) (home_popped w.queues q h.2) h;
    out = λ w x h. h;
    rest = λ w cpus o x a b c tree call clock ns h. h;
  }

-- ---- events

-- each task in its place, and tallied
abbrev IsRightAndTallied : ℕ → ℕ → (ℕ → ℕ) → ℕ → Option ℕ → List (Option ℕ) → WorldState → Type 0
IsRightAndTallied n e ran = Both (IsFine n e) (λ m hand on w. IsTallied n ran w)

tallied_events : (n e : ℕ) (ran : ℕ → ℕ) → IsKeptByEvents n (IsRightAndTallied n e ran)
tallied_events n e ran = alone_events n e (IsTallied n ran) (tally_alone n ran)

module _ (n e : ℕ) (s : State) (tasks : length s.world.tasks ≡ n) (fine : IsFineNow n e e s.world) (homes : AreHome s.world.queues) where
  -- as long as before, but for who runs there
  abbrev ran_by : Option ℕ → ℕ → ℕ
  ran_by o u = (task_at s.world u).run_ns + (if is_this u o then tick_ns else 0)

  abbrev I : (ℕ → ℕ) → ℕ → Option ℕ → List (Option ℕ) → WorldState → Type 0
  I ran = IsRightAndTallied n (e + 1) ran

  before : I (λ u. (task_at s.world u).run_ns) e None s.world.cpus s.world
  before = record { one = one_more n e e s.world fine; two = (tasks, (λ u. refl), homes) }

  -- nobody has run
  nobody : (w : WorldState) → IsTallied n (λ u. (task_at s.world u).run_ns) w → IsTallied n (λ u. (task_at s.world u).run_ns + 0) w
  nobody w h = (h.0, (λ u. omega (arith, h.1 u)), h.2)

  -- a task has run for a millisecond
  one_ran : (t : ℕ) → t < length s.world.tasks → IsTallied n (ran_by (Some t)) (after_tick s.world t)
  one_ran t within = (length-set s.world.tasks t x ∙ tasks, (λ u. go u (cases_eq u t)), homes)
    where
      x : Task
      x = ran_a_tick (task_at s.world t)

      go : (u : ℕ) → (u ≡ t) ⊎ (u ≡ t → ⊥) → (get_or (set s.world.tasks t x) u no_task).run_ns ≡ (task_at s.world u).run_ns + (if u == t then tick_ns else 0)
      go u (inl is) = rw (is, get_or-set_same s.world.tasks t x no_task within, eq-eqb t t refl) refl
      go u (inr d) = rw (get_or-set_other s.world.tasks t u x no_task d, ne_eqb u t d) (omega arith)

  tally_tick : (c : ℕ) → c < length s.world.cpus → IsTallied n (ran_by (running s.world c)) (tick s c).state.world
  unfolding tick
  tally_tick c l = go (running s.world c) refl
    where
      go : (o : Option ℕ) → running s.world c ≡ o → IsTallied n (ran_by o) (tick_of o s c).state.world
      go None at =
          let ran : ℕ → ℕ = λ u. (task_at s.world u).run_ns in
          nobody (tick_idle s c).state.world (keeps_tick_idle n (I ran) (tallied_events n (e + 1) ran) e s c l at before).two
      go (Some t) at =
          let ran = ran_by (Some t) in
          let there = known_running n e e s.world c t l at fine in
          let within : t < length s.world.tasks = omega (arith, there, tasks) in
          let x = fine_ticked n e e s.world c t l at fine in
          (keeps_count_down n (I ran) (tallied_events n (e + 1) ran) e s c t there l at (record {
            ran = record { one = x.ran; two = one_ran t within };
            uses = λ w same tree h.
                let z = x.uses w same tree h.one in
                let y = keeps_if (IsTallied n ran) (nat_lt t (length w.tasks)) (with_tree w (with_use w.tree t)) w h.two h.two in
                record {
                  goes_on = λ free. record { one = z.goes_on free; two = y };
                  leaves = λ up. record { one = z.leaves up; two = tally_set n ran (used_ms w t) t _ refl y };
                };
          })).two

  tally_own : (v : Event) → refusal s v ≡ None → IsTallied n (λ u. (task_at s.world u).run_ns + ran_in v s.world u) (own_step s v).state.world
  tally_own v ok = go v (is_taken s v ok)
    where
      ran : ℕ → ℕ
      ran = λ u. (task_at s.world u).run_ns

      k : IsKeptByEvents n (I ran)
      k = tallied_events n (e + 1) ran

      go : (v : Event) → IsTaken s v → IsTallied n (λ u. (task_at s.world u).run_ns + ran_in v s.world u) (own_step s v).state.world
      go _ (Wakes t within resting) = nobody (own_step s (Wake t)).state.world (keeps_wake n (I ran) k e s t (omega (arith, within, tasks)) resting before).two
      go _ (Sleeps t within runnable) = nobody (own_step s (Sleep t)).state.world (keeps_sleep n (I ran) k e s t (omega (arith, within, tasks)) runnable before).two
      go _ (Ticks c l) = tally_tick c l
      go _ Clocks = nobody (own_step s Clock).state.world (keeps_clock n (I ran) k e s (record { one = fine_later n e e s.world fine; two = (tasks, (λ u. refl), homes) })).two
      go _ (Weighs g x) =
          let same : IsTallied n ran s.world = (tasks, (λ u. refl), homes) in
          nobody (own_step s (SetWeight g x)).state.world (keeps_if (IsTallied n ran) (is_none (weight_fault s.world.tree g x)) (with_tree s.world (with_weight s.world.tree g x)) s.world same same)
      go _ (WeighsTask t x within) = nobody (own_step s (SetTaskWeight t x)).state.world (keeps_reweigh n (I ran) k e s t x (omega (arith, within, tasks)) before).two

  tally_step : (v : Event) → refusal s v ≡ None → IsTallied n (λ u. (task_at s.world u).run_ns + ran_in v s.world u) (event_step s v).state.world
  tally_step v ok =
      let ran : ℕ → ℕ = λ u. (task_at s.world u).run_ns + ran_in v s.world u in
      let x = fine_own n e s v tasks ok fine in
      (keeps_with_rounds n (I ran) (tallied_events n (e + 1) ran) e (own_step s v) (record { one = x; two = tally_own v ok })).two

-- after an accepted event
pub run_times : (n : ℕ) (s : State) (v : Event) → refusal s v ≡ None → IsFineNow (length s.world.tasks) n n s.world → AreInQueues s.world → (u : ℕ) → (task_at (event_step s v).state.world u).run_ns ≡ (task_at s.world u).run_ns + ran_in v s.world u
run_times n s v ok fine there = let x = tally_step (length s.world.tasks) n s refl fine (at_home s.world there) v ok in x.1

-- after an accepted event, the queue in which a task is is there, if it was so before
pub queues_there : (n : ℕ) (s : State) (v : Event) → refusal s v ≡ None → IsFineNow (length s.world.tasks) n n s.world → AreInQueues s.world → AreInQueues (event_step s v).state.world
queues_there n s v ok fine there = let x = tally_step (length s.world.tasks) n s refl fine (at_home s.world there) v ok in in_queues (event_step s v).state.world x.2

-- at first
pub queues_first : (p : PolicyState) (tree : Hierarchy) (cpus : ℕ) (t : State) → is_bad_shape tree cpus ≡ false → first_state p tree cpus ≡ Ok t → AreInQueues t.world
queues_first p tree cpus t shape e =
    let n = length tree.homes in
    let w = begun_periods (by_policy p (first_world tree cpus)) in
    let ran : ℕ → ℕ = λ u. (task_at w u).run_ns in
    let none : AreHome (first_queues cpus n) = λ u. ap (λ o. is_home (first_queues cpus n).ids o) (nowhere cpus n u) in
    let h = steps_started (λ m hand on v. IsTallied n ran v) p tree cpus t (alone_steps n (IsTallied n ran) (tally_alone n ran)) (λ v u c x. tally_set n ran v u _ refl x) shape e (length-replicate n new_task, (λ u. refl), none) in
    in_queues t.world h.2
