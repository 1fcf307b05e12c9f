-- The small steps of a world keep each task where it may run.
use Rattle.std.proofs.Common.{arith, ◌≡◌, ℕ, ◌+◌, ◌-◌, ◌<◌, ◌≤◌, Bool, true, false, ◌==◌, ◌&&◌, nat_lt, nat_le, ◌⊎◌, inl, inr, if◌then◌else◌, List, length, set, get_or, Option, Some, None, is_some, is_none, option_map, refl, sym, ap, ◌∙◌, subst, map}
use Rattle.std.proofs.lemmas.Bool.{cases_eq, cases_lt, and_parts, eqb-true}
use Rattle.std.proofs.lemmas.Bool.Decides.{nat_tests}
use Rattle.std.proofs.lemmas.List.{length-set, get_or-set_same, get_or-set_other, set_past}
use Rattle.scx_dsq.specs.declared.entries.Entry.{Entry}
use Rattle.scx_dsq.specs.declared.entries.Rank.{Rank}
use Rattle.scx_dsq.specs.declared.entries.Rank.TheVariants.{Fifo, Vtime}
use Rattle.scx_dsq.specs.Queues.{QueueState, entry_of, queue_of, front_of, is_in}
use Rattle.scx_dsq.specs.Calls.{push_refusal, next_entry, with_task as with_place, after_push, without_task, after_remove, after_pop, without, create_refusal, with_queue, after_create}
use Rattle.scx_sched_tasks.specs.declared.task.Task.{Task}
use Rattle.scx_sched_tasks.specs.Tasks.{no_task, default_slice}
use Rattle.scx_isa_semantics.specs.declared.callbacks.Callback.{Callback}
use Rattle.scx_isa_semantics.specs.declared.callbacks.Callback.TheVariants as callback
use Rattle.scx_sched_world.specs.declared.call.Insert.{Insert}
use Rattle.scx_sched_world.specs.declared.faults.Fault.TheVariants.{NotAllowed}
use Rattle.scx_sched_world.specs.declared.notes.What.{What}
use Rattle.scx_sched_world.specs.Ids.{local, local_on, parked_queue, builtin_queue}
use Rattle.scx_sched_world.specs.World.{WorldState, with_queues, with_task, with_note, task_at, running, is_this, is_by_linux, may_run, with_cpu, at_callback, waits}
use Rattle.scx_sched_world.specs.Tasks.{with_home, with_slice, homed, homed_at, local_cpu, after_local, after_leave, task_after_insert, rank_by, after_preempt_of, after_preempt_at, after_preempt, after_enter, for_cpu, local_len, next_for, brought, fill_front, after_fill, with_since, with_builtin, after_stop, started_at, after_run, on_cpu, put_parked, to_local, after_wake, after_sleep, let_go, used_ms, later, begun_periods, after_reweigh, after_own_weight}
use Rattle.scx_sched_world.specs.Helpers.{is_dispatch, is_at_hand, may_insert_in, cpu_meant, may_go, insert_fault, with_move, with_insert, after_release, insert_or_fault, moved_to_local, helper_after, stored_in, world_functions}
use Rattle.scx_sched_machine.proofs.Choices.{keeps_if}
use Rattle.scx_sched.specs.Allowed.{AreAllowed, MayGo, IsAllowedIn}
use Rattle.scx_sched.proofs.Marks.{local_there}
use Rattle.scx_sched.proofs.Seen.{next_seen}
use Rattle.scx_sched.proofs.Sound.{is_fit, given_home, stored_home}
use Rattle.scx_sched_world.specs.Ejecting.{builtin_vtime, put_builtin, evict, put_out}
use Rattle.scx_isa_semantics.specs.declared.host_tables.Helper.{Helper}
use Rattle.scx_isa_semantics.specs.Effects.{Query, Call, Load, Store}
use Rattle.scx_vm.specs.declared.arguments.Arg.{Arg}
use Rattle.scx_vm.specs.Arguments.{argument_of}
use Rattle.scx_vm.specs.Host.{after_query}
use Rattle.scx_sched_world.proofs.Fronts.{front_in}
use Rattle.scx_weights.specs.Refusals.{weight_fault, own_weight_fault}
use Rattle.scx_sched_world.specs.declared.eject.Eject.{Eject}
use Rattle.scx_sched.proofs.Queries.{kept_apart}
use Rattle.scx_sched.proofs.Written.{each_written}

-- ---- where a task waits, as it comes and goes

-- the queue of an entry
abbrev home_of : Option Entry → Option ℕ
home_of o = option_map (λ p. p.queue) o

same_number : (a b : ℕ) → Some a ≡ Some b → a ≡ b
same_number a b e = cc

-- once a task was pushed, another one waits where it did before, and the task there or where it did before
place_pushed : (s : QueueState) (q t u x : ℕ) (r : Rank) → queue_of (after_push s q t r) u ≡ Some x → (u ≡ t × q ≡ x) ⊎ (queue_of s u ≡ Some x)
place_pushed s q t u x r e = go (is_none (push_refusal s q t r)) e
  where
    at : (u ≡ t) ⊎ (u ≡ t → ⊥) → (t < length s.entries) ⊎ (length s.entries ≤ t) → home_of (get_or (set s.entries t (Some (next_entry s q r))) u None) ≡ Some x → (u ≡ t × q ≡ x) ⊎ (queue_of s u ≡ Some x)
    at (inl is) (inl l) y = inl (is, same_number q x (ap home_of (sym (ap (λ k. get_or (set s.entries t (Some (next_entry s q r))) k None) is ∙ get_or-set_same {A = Option Entry} s.entries t (Some (next_entry s q r)) None l)) ∙ y))
    at (inl is) (inr past) y = inr (ap (λ xs. home_of (get_or xs u None)) (sym (set_past s.entries t (Some (next_entry s q r)) past)) ∙ y)
    at (inr d) l y = inr (ap home_of (sym (get_or-set_other {A = Option Entry} s.entries t u (Some (next_entry s q r)) None d)) ∙ y)

    go : (b : Bool) → queue_of (if b then with_place s q t r else s) u ≡ Some x → (u ≡ t × q ≡ x) ⊎ (queue_of s u ≡ Some x)
    go true y = at (cases_eq u t) (cases_lt t (length s.entries)) y
    go false y = inr y

-- once a task has left, who waits did so before
place_removed : (s : QueueState) (t u x : ℕ) → queue_of (after_remove s t) u ≡ Some x → queue_of s u ≡ Some x
place_removed s t u x e = go (is_some (entry_of s t)) e
  where
    at : (u ≡ t) ⊎ (u ≡ t → ⊥) → (t < length s.entries) ⊎ (length s.entries ≤ t) → home_of (get_or (set s.entries t None) u None) ≡ Some x → queue_of s u ≡ Some x
    at (inl is) (inl l) y = let gone : get_or (set s.entries t None) u None ≡ None = ap (λ k. get_or (set s.entries t None) k None) is ∙ get_or-set_same {A = Option Entry} s.entries t None None l in let bad : None ≡ Some x = sym (ap home_of gone) ∙ y in absurd (cc)
    at (inl is) (inr past) y = ap (λ xs. home_of (get_or xs u None)) (sym (set_past s.entries t None past)) ∙ y
    at (inr d) l y = ap home_of (sym (get_or-set_other {A = Option Entry} s.entries t u None None d)) ∙ y

    go : (b : Bool) → queue_of (if b then without_task s t else s) u ≡ Some x → queue_of s u ≡ Some x
    go true y = at (cases_eq u t) (cases_lt t (length s.entries)) y
    go false y = y

-- once the front of a queue has left it
place_popped : (s : QueueState) (q t u x : ℕ) → front_of s q ≡ Some t → queue_of (after_pop s q) u ≡ Some x → queue_of s u ≡ Some x
place_popped s q t u x front e = at (cases_eq u t) (cases_lt t (length s.entries)) (ap (λ o. queue_of (without s o) u) (sym front) ∙ e)
  where
    at : (u ≡ t) ⊎ (u ≡ t → ⊥) → (t < length s.entries) ⊎ (length s.entries ≤ t) → home_of (get_or (set s.entries t None) u None) ≡ Some x → queue_of s u ≡ Some x
    at (inl is) (inl l) y = let gone : get_or (set s.entries t None) u None ≡ None = ap (λ k. get_or (set s.entries t None) k None) is ∙ get_or-set_same {A = Option Entry} s.entries t None None l in let bad : None ≡ Some x = sym (ap home_of gone) ∙ y in absurd (cc)
    at (inl is) (inr past) y = ap (λ xs. home_of (get_or xs u None)) (sym (set_past s.entries t None past)) ∙ y
    at (inr d) l y = ap home_of (sym (get_or-set_other {A = Option Entry} s.entries t u None None d)) ∙ y

-- who is in a queue, that is its queue
place_in : (s : QueueState) (q t : ℕ) → is_in q (entry_of s t) ≡ true → queue_of s t ≡ Some q
place_in s q t e = go (entry_of s t) e
  where
    go : (o : Option Entry) → is_in q o ≡ true → home_of o ≡ Some q
    go None x = absurd (cc)
    go (Some p) x = ap Some (eqb-true p.queue q x)

-- a queue that has a processor is its local queue
local_is : (w : WorldState) (q c : ℕ) → local_cpu w q ≡ Some c → q ≡ local_on c
local_is w q c e = go (nat_le (local_on 0) q) (nat_lt q (local_on (length w.cpus))) refl e
  where
    go : (a b : Bool) → nat_le (local_on 0) q ≡ a → (if a && b then Some (q - local_on 0) else None) ≡ Some c → q ≡ local_on c
    go true true x z =
        let low : local_on 0 + 0 < q + 1 = grind (arith, nat_tests, x) in
        omega (arith, same_number (q - local_on 0) c z, low)
    go true false x z = absurd (cc)
    go false b x z = absurd (cc)

module _ (on : List (Option ℕ)) (n : ℕ) where
  -- ---- one part changed

  -- another record of a task, whose processor is one on which it may run
  pub allowed_task : (w : WorldState) (t : ℕ) (x : Task) → (t < n → may_run w t x.prev_cpu ≡ true) → IsAllowedIn on n w → IsAllowedIn on n (with_task w t x)
  allowed_task w t x new h = record { runs = h.runs; local = h.local; home = each_written (λ u (y : Task). u < n → may_run w u y.prev_cpu ≡ true) w.tasks t x no_task new h.home; asks = h.asks }

  -- or stays
  pub allowed_same : (w : WorldState) (t : ℕ) (x : Task) → x.prev_cpu ≡ (task_at w t).prev_cpu → IsAllowedIn on n w → IsAllowedIn on n (with_task w t x)
  allowed_same w t x same h = allowed_task w t x (λ l. ap (λ c. may_run w t c) same ∙ h.home t l) h

  -- a task comes to be of a processor on which it may run
  pub allowed_homed : (w : WorldState) (t c : ℕ) → may_run w t c ≡ true → IsAllowedIn on n w → IsAllowedIn on n (homed w t c)
  allowed_homed w t c may h = keeps_if (IsAllowedIn on n) (is_by_linux w) _ w (allowed_task w t (with_home (task_at w t) c) (λ l. may) h) h

  -- other queues
  allowed_queues : (w : WorldState) (s : QueueState) → ((u c : ℕ) → c < length on → queue_of s u ≡ Some (local_on c) → may_run w u c ≡ true) → IsAllowedIn on n w → IsAllowedIn on n (with_queues w s)
  allowed_queues w s places h = record { runs = h.runs; local = λ c u l e. places u c l e; home = h.home; asks = h.asks }

  -- a task leaves its queue
  pub allowed_left : (w : WorldState) (t : ℕ) → IsAllowedIn on n w → IsAllowedIn on n (after_leave w t)
  allowed_left w t h = allowed_queues w (after_remove w.queues t) (λ u c l e. h.local c u l (place_removed w.queues t u (local_on c) e)) h

  -- a task comes into a queue, which if it is a local one is of a processor on which it may run
  pub allowed_pushed : (w : WorldState) (q t : ℕ) (r : Rank) → ((c : ℕ) → c < length on → q ≡ local_on c → may_run w t c ≡ true) → IsAllowedIn on n w → IsAllowedIn on n (with_queues w (after_push w.queues q t r))
  allowed_pushed w q t r may h = allowed_queues w (after_push w.queues q t r) (λ u c l e. go u c l (place_pushed w.queues q t u (local_on c) r e)) h
    where
      go : (u c : ℕ) → c < length on → (u ≡ t × q ≡ local_on c) ⊎ (queue_of w.queues u ≡ Some (local_on c)) → may_run w u c ≡ true
      go u c l (inl x) = rw x.0 (may c l x.1)
      go u c l (inr x) = h.local c u l x

  -- a task comes to the local queue of a processor on which it may run
  pub allowed_local : (w : WorldState) (c t : ℕ) → may_run w t c ≡ true → IsAllowedIn on n w → IsAllowedIn on n (after_local w c t)
  allowed_local w c t may h =
      allowed_homed (with_queues w (after_push w.queues (local_on c) t Fifo)) t c may
      (allowed_pushed w (local_on c) t Fifo (λ d l e. let same : c ≡ d = omega (arith, e) in subst (λ k. may_run w t k ≡ true) same may) h)

  -- the first task of a queue that may run on a processor comes to its local queue
  pub allowed_brought : (w : WorldState) (o : Option ℕ) (c : ℕ) → ((t : ℕ) → o ≡ Some t → may_run w t c ≡ true) → IsAllowedIn on n w → IsAllowedIn on n (brought o w c)
  allowed_brought w None c may h = h
  allowed_brought w (Some t) c may h = allowed_local (after_leave w t) c t (may t refl) (allowed_left w t h)

  pub allowed_filled : (w : WorldState) (q c : ℕ) → IsAllowedIn on n w → IsAllowedIn on n (after_fill w q c)
  allowed_filled w q c h = allowed_brought w (fill_front w q c) c (λ t e. first t (nat_lt 0 (local_len w c)) e) h
    where
      first : (t : ℕ) (b : Bool) → (if b then None else next_for w q c) ≡ Some t → may_run w t c ≡ true
      first t true x = absurd (cc)
      first t false x = (next_seen w q c t x).may

  -- ---- a task that comes to wait

  allowed_homed_at : (w : WorldState) (t : ℕ) (o : Option ℕ) → ((c : ℕ) → o ≡ Some c → may_run w t c ≡ true) → IsAllowedIn on n w → IsAllowedIn on n (homed_at w t o)
  allowed_homed_at w t None may h = h
  allowed_homed_at w t (Some c) may h = allowed_homed w t c (may c refl) h

  allowed_preempt_at : (w : WorldState) (o : Option ℕ) → IsAllowedIn on n w → IsAllowedIn on n (after_preempt_at w o)
  allowed_preempt_at w None h = h
  allowed_preempt_at w (Some c) h = go (running w c)
    where
      go : (o : Option ℕ) → IsAllowedIn on n (after_preempt_of w c o)
      go None = h
      go (Some t) =
          let x = allowed_same w t (with_slice (task_at w t) 0) refl h in
          keeps_if (IsAllowedIn on n) (is_this c w.cycling) w _ h (record { runs = x.runs; local = x.local; home = x.home; asks = x.asks })

  -- as an insert wants it to
  pub allowed_entered : (w : WorldState) (t : ℕ) (i : Insert) → (task_after_insert (task_at w t) i).prev_cpu ≡ (task_at w t).prev_cpu → length w.cpus ≡ length on → MayGo (length on) w t i → IsAllowedIn on n w → IsAllowedIn on n (after_enter w t i)
  allowed_entered w t i home many may h = keeps_if (IsAllowedIn on n) (nat_lt t (length w.tasks)) (after_preempt at_home i) w (keeps_if (IsAllowedIn on n) i.preempts (after_preempt_at at_home (local_cpu at_home i.queue)) at_home (allowed_preempt_at at_home (local_cpu at_home i.queue) there) there) h
    where
      x : Task
      x = task_after_insert (task_at w t) i

      v : WorldState
      v = with_queues (with_task w t x) (after_push w.queues i.queue t (rank_by w i.rank))

      at_home : WorldState
      at_home = homed_at v t (local_cpu w i.queue)

      queued : IsAllowedIn on n v
      queued = allowed_pushed (with_task w t x) i.queue t (rank_by w i.rank) may (allowed_same w t x home h)

      there : IsAllowedIn on n at_home
      there = allowed_homed_at v t (local_cpu w i.queue) (λ c e. may c (omega (arith, many, local_there w i.queue c e)) (local_is w i.queue c e)) queued

-- ---- an insert without a fault

-- brings its task where it may run
fine_place : (w : WorldState) (t : Option ℕ) (i : Insert) (flags : ℕ) → insert_fault w t i flags ≡ None → may_go w t (cpu_meant w i.queue) ≡ true
fine_place w t i flags e = may (may_go w t (cpu_meant w i.queue)) (is_fit w t i flags e).place
  where
    may : (b : Bool) → (if b then None else Some NotAllowed) ≡ None → b ≡ true
    may true x = refl
    may false x = absurd (cc)

-- that of the task at hand, out of dispatch
at_hand : (w : WorldState) (t : Option ℕ) (i : Insert) (flags : ℕ) → is_dispatch w.call.callback ≡ false → insert_fault w t i flags ≡ None → t ≡ Some w.call.task
at_hand w t i flags out e = by w.call.callback out (is_fit w t i flags e).may
  where
    is : (o : Option ℕ) → is_at_hand w o ≡ true → o ≡ Some w.call.task
    is None x = absurd (cc)
    is (Some u) x = let same : u ≡ w.call.task = grind (arith, nat_tests, x) in ap Some same

    by : (b : Callback) → is_dispatch b ≡ false → may_insert_in b w t ≡ true → t ≡ Some w.call.task
    by callback.SelectCpu x y = is t (and_parts (is_none w.call.insert) _ y).1
    by callback.Enqueue x y = is t (and_parts (is_none w.call.insert) _ y).1
    by callback.Dispatch x y = absurd (cc)
    by b x y = absurd (cc)

-- the local queue of a processor that there is has that processor
local_at : (w : WorldState) (c : ℕ) → c < length w.cpus → local_cpu w (local_on c) ≡ Some c
local_at w c l = rw (low, high) (ap Some same)
  where
    low : nat_le (local_on 0) (local_on c) ≡ true
    low = grind (arith, nat_tests)

    high : nat_lt (local_on c) (local_on (length w.cpus)) ≡ true
    high = grind (arith, nat_tests, l)

    same : local_on c - local_on 0 ≡ c
    same = omega arith

same_insert : (a b : Insert) → Some a ≡ Some b → a ≡ b
same_insert a b e = cc

module _ (on : List (Option ℕ)) (n : ℕ) where
  -- where it goes out of dispatch
  goes_out : (w : WorldState) (t : ℕ) (i : Insert) → length w.cpus ≡ length on → is_dispatch w.call.callback ≡ false → may_go w (Some t) (cpu_meant w i.queue) ≡ true → MayGo (length on) w t i
  goes_out w t i many out may c l e =
      let meant : cpu_meant w i.queue ≡ Some c = ap (λ b. cpu_by ((i.queue == local) && b)) out ∙ (no_meaning (i.queue == local) ∙ (ap (λ q. local_cpu w q) e ∙ local_at w c (omega (arith, many, l)))) in
      sym (ap (λ o. may_go w (Some t) o) meant) ∙ may
    where
      cpu_by : Bool → Option ℕ
      cpu_by b = if b then Some w.call.cpu else local_cpu w i.queue

      no_meaning : (b : Bool) → cpu_by (b && false) ≡ local_cpu w i.queue
      no_meaning true = refl
      no_meaning false = refl

  -- and in dispatch
  goes_in : (w : WorldState) (t : ℕ) (i : Insert) → length w.cpus ≡ length on → is_dispatch w.call.callback ≡ true → may_go w (Some t) (cpu_meant w i.queue) ≡ true → MayGo (length on) w t (for_cpu w.call.cpu i)
  goes_in w t i many here may c l e = go (i.queue == local) refl e
    where
      meant : (b : Bool) → (i.queue == local) ≡ b → cpu_meant w i.queue ≡ (if b then Some w.call.cpu else local_cpu w i.queue)
      meant true x = rw (x, here) refl
      meant false x = rw x refl

      go : (b : Bool) → (i.queue == local) ≡ b → (if b then local_on w.call.cpu else i.queue) ≡ local_on c → may_run w t c ≡ true
      go true x y =
          let same : w.call.cpu ≡ c = omega (arith, y) in
          ap (λ d. may_run w t d) (sym same) ∙ (sym (ap (λ o. may_go w (Some t) o) (meant true x)) ∙ may)
      go false x y =
          let is : cpu_meant w i.queue ≡ Some c = meant false x ∙ (ap (λ q. local_cpu w q) y ∙ local_at w c (omega (arith, many, l))) in
          sym (ap (λ o. may_go w (Some t) o) is) ∙ may

  -- ---- helpers

  -- what a callback asked for otherwise changes nothing of it
  allowed_noted : (w : WorldState) (x : What) → IsAllowedIn on n w → IsAllowedIn on n (with_note (with_move w) x)
  allowed_noted w x h = record { runs = h.runs; local = h.local; home = h.home; asks = h.asks }

  allowed_inserted : (w : WorldState) (t : Option ℕ) (i : Insert) (flags : ℕ) → length w.cpus ≡ length on → insert_fault w t i flags ≡ None → IsAllowedIn on n w → IsAllowedIn on n (insert_or_fault w None t i)
  allowed_inserted w t i flags many none h = go (is_dispatch w.call.callback) refl t (fine_place w t i flags none) (λ out. at_hand w t i flags out none)
    where
      go : (b : Bool) → is_dispatch w.call.callback ≡ b → (o : Option ℕ) → may_go w o (cpu_meant w i.queue) ≡ true → (is_dispatch w.call.callback ≡ false → o ≡ Some w.call.task) → IsAllowedIn on n (if b then after_release w o (for_cpu w.call.cpu i) else with_insert w i)
      go true here None may hand = h
      go true here (Some u) may hand =
          let k = for_cpu w.call.cpu i in
          let left = after_leave w u in
          allowed_noted (after_enter left u k) _ (allowed_entered on n left u k (given_home (task_at w u) k) many (goes_in w u i many here may) (allowed_left on n w u h))
      go false out o may hand = record {
        runs = h.runs;
        local = h.local;
        home = h.home;
        asks = λ j e. let same : i ≡ j = same_insert i j e in subst (λ k. MayGo (length on) w w.call.task k) same (goes_out w w.call.task i many out (subst (λ p. may_go w p (cpu_meant w i.queue) ≡ true) (hand out) may));
      }

  allowed_moved : (w : WorldState) (o : Option ℕ) → ((t : ℕ) → o ≡ Some t → may_run w t w.call.cpu ≡ true) → IsAllowedIn on n w → IsAllowedIn on n (moved_to_local w o)
  allowed_moved w None may h = h
  allowed_moved w (Some t) may h =
      let left = after_leave w t in
      allowed_noted (after_local left w.call.cpu t) _ (allowed_local on n left w.call.cpu t (may t refl) (allowed_left on n w t h))

-- ---- between two events

-- where tasks are allowed inside an event, they are so after it
pub allowed_now : (w : WorldState) → IsAllowedIn w.cpus (length w.tasks) w → AreAllowed w
allowed_now w h = record { running = h.runs; local = h.local; home = h.home }

-- ---- on and off processors

module _ (on : List (Option ℕ)) (n : ℕ) where
  -- the task before, if another runs on one processor
  runs_set : (w : WorldState) (c : ℕ) (o : Option ℕ) → ((t : ℕ) → o ≡ Some t → may_run w t c ≡ true) → IsAllowedIn on n w → (d t : ℕ) → get_or (set on c o) d None ≡ Some t → may_run w t d ≡ true
  runs_set w c o new h d t e = each_written (λ k (p : Option ℕ). (u : ℕ) → p ≡ Some u → may_run w u k ≡ true) on c o None new h.runs d t e

  -- a task leaves its processor
  pub allowed_stopped : (w : WorldState) (c t : ℕ) → IsAllowedIn on n w → IsAllowedIn (set on c None) n (after_stop w c t)
  allowed_stopped w c t h =
      let x = allowed_same on n w t (with_since (task_at w t) (Some w.clock)) refl h in
      record {
        runs = runs_set w c None (λ u e. absurd (cc)) h;
        local = λ d u l e. h.local d u (rw (← length-set on c None) l) e;
        home = x.home;
        asks = λ i e d l. h.asks i e d (rw (← length-set on c None) l);
      }

  -- a task that may run on a processor does so, out of its queue
  allowed_on_cpu : (w : WorldState) (s : QueueState) (c t : ℕ) → may_run w t c ≡ true → ((u q : ℕ) → queue_of s u ≡ Some q → queue_of w.queues u ≡ Some q) → IsAllowedIn on n w
      → IsAllowedIn (set on c (Some t)) n (with_cpu (with_task (with_queues w s) t (on_cpu (task_at w t) c)) c (Some t))
  allowed_on_cpu w s c t may places h =
      let x = allowed_task on n w t (on_cpu (task_at w t) c) (λ l. may) h in
      record {
        runs = runs_set w c (Some t) (λ u e. ap (λ k. may_run w k c) (sym (same_number t u e)) ∙ may) h;
        local = λ d u l e. h.local d u (rw (← length-set on c (Some t)) l) (places u (local_on d) e);
        home = x.home;
        asks = λ i e d l. h.asks i e d (rw (← length-set on c (Some t)) l);
      }

  -- the front of its local queue
  pub allowed_started : (w : WorldState) (c t : ℕ) → c < length on → front_of w.queues (local_on c) ≡ Some t → IsAllowedIn on n w → IsAllowedIn (set on c (Some t)) n (started_at (Some t) w c)
  allowed_started w c t l e h = allowed_on_cpu w (after_pop w.queues (local_on c)) c t (h.local c t l (front_in w.queues (local_on c) t e)) (λ u q x. place_popped w.queues (local_on c) t u q e x) h

  -- or another task of that
  pub allowed_ran : (w : WorldState) (c t : ℕ) → c < length on → is_in (local_on c) (entry_of w.queues t) ≡ true → IsAllowedIn on n w → IsAllowedIn (set on c (Some t)) n (after_run w c t)
  allowed_ran w c t l e h = allowed_on_cpu w (after_remove w.queues t) c t (h.local c t l (place_in w.queues (local_on c) t e)) (λ u q x. place_removed w.queues t u q x) h

  -- ---- parking, and the built-in scheduler

  pub allowed_parked : (w : WorldState) (t : ℕ) → IsAllowedIn on n w → IsAllowedIn on n (put_parked w t)
  allowed_parked w t h = keeps_if (IsAllowedIn on n) (nat_lt t (length w.tasks)) _ w (allowed_pushed on n (with_task w t (with_since (task_at w t) None)) parked_queue t Fifo (λ c l e. absurd (omega (arith, e))) (allowed_same on n w t (with_since (task_at w t) None) refl h)) h

  pub allowed_put_builtin : (w : WorldState) (t : ℕ) → IsAllowedIn on n w → IsAllowedIn on n (put_builtin w t)
  allowed_put_builtin w t h =
      let x = with_builtin (with_slice (task_at w t) default_slice) (builtin_vtime w t) in
      keeps_if (IsAllowedIn on n) (nat_lt t (length w.tasks)) _ w (allowed_pushed on n (with_task w t x) builtin_queue t (Vtime (builtin_vtime w t)) (λ c l e. absurd (omega (arith, e))) (allowed_same on n w t x refl h)) h

  pub allowed_evict : (w : WorldState) (t : ℕ) → IsAllowedIn on n w → IsAllowedIn on n (evict w t)
  allowed_evict w t h = keeps_if (IsAllowedIn on n) (waits w t) (put_builtin (after_leave w t) t) w (allowed_put_builtin (after_leave w t) t (allowed_left on n w t h)) h

  -- a callback that begins
  pub allowed_begun : (w : WorldState) (b : Callback) (t c : ℕ) → IsAllowedIn on n w → IsAllowedIn on n (at_callback w b t c)
  allowed_begun w b t c h = record { runs = h.runs; local = h.local; home = h.home; asks = λ i e. absurd (cc) }

  -- the host's own choice goes to a processor on which the task may run
  pub allowed_wants : (w : WorldState) (c : ℕ) → may_run w w.call.task c ≡ true → IsAllowedIn on n w → IsAllowedIn on n (with_insert w (to_local c))
  allowed_wants w c may h = record {
    runs = h.runs;
    local = h.local;
    home = h.home;
    asks = λ i e d l x.
        let same : to_local c ≡ i = same_insert (to_local c) i e in
        let at : c ≡ d = omega (arith, ap (λ (k : Insert). k.queue) same ∙ x) in
        ap (λ k. may_run w w.call.task k) (sym at) ∙ may;
  }

  -- ---- waking and sleeping

  -- a task that wakes
  pub allowed_woken : (w : WorldState) (t : ℕ) → IsAllowedIn on n w → IsAllowedIn on n (after_wake w t)
  allowed_woken w t h =
      let x = allowed_same on n w t (with_since (task_at w t) (Some w.clock)) refl h in
      record { runs = x.runs; local = x.local; home = x.home; asks = x.asks }

  -- a task that sleeps
  pub allowed_asleep : (w : WorldState) (t : ℕ) → IsAllowedIn on n w → IsAllowedIn on n (after_sleep w t)
  allowed_asleep w t h =
      let x = allowed_same on n w t (with_since (task_at w t) None) refl h in
      keeps_if (IsAllowedIn on n) (nat_lt t (length w.tasks)) _ w (record { runs = x.runs; local = x.local; home = x.home; asks = x.asks }) h

  -- a task that is parked no more
  pub allowed_let_go : (w : WorldState) (t : ℕ) → IsAllowedIn on n w → IsAllowedIn on n (let_go w t)
  allowed_let_go w t h = allowed_left on n (with_task w t (with_since (task_at w t) (Some w.clock))) t (allowed_same on n w t (with_since (task_at w t) (Some w.clock)) refl h)

  -- ---- time and weights

  -- groups have used a millisecond more
  pub allowed_used : (w : WorldState) (t : ℕ) → IsAllowedIn on n w → IsAllowedIn on n (used_ms w t)
  allowed_used w t h = keeps_if (IsAllowedIn on n) (nat_lt t (length w.tasks)) _ w (record { runs = h.runs; local = h.local; home = h.home; asks = h.asks }) h

  -- the clock has grown, and periods begin
  pub allowed_later : (w : WorldState) → IsAllowedIn on n w → IsAllowedIn on n (begun_periods (later w))
  allowed_later w h = record { runs = h.runs; local = h.local; home = h.home; asks = h.asks }

  -- a group has another weight
  pub allowed_reweighed : (w : WorldState) (g x : ℕ) → IsAllowedIn on n w → IsAllowedIn on n (after_reweigh w g x)
  allowed_reweighed w g x h = keeps_if (IsAllowedIn on n) (is_none (weight_fault w.tree g x)) _ w (record { runs = h.runs; local = h.local; home = h.home; asks = h.asks }) h

  -- or a task
  pub allowed_weighed : (w : WorldState) (t x : ℕ) → IsAllowedIn on n w → IsAllowedIn on n (after_own_weight w t x)
  allowed_weighed w t x h = keeps_if (IsAllowedIn on n) (is_none (own_weight_fault w.tree t x)) _ w (record { runs = h.runs; local = h.local; home = h.home; asks = h.asks }) h

  -- an ejection begins
  pub allowed_out : (w : WorldState) (x : Eject) → IsAllowedIn on n w → IsAllowedIn on n (put_out w x)
  allowed_out w x h = record { runs = h.runs; local = h.local; home = h.home; asks = λ i e. absurd (cc) }

  -- ---- what a program asks

  allowed_created : (w : WorldState) (q : ℕ) → IsAllowedIn on n w → IsAllowedIn on n (with_queues w (after_create w.queues q))
  allowed_created w q h = keeps_if (λ (s : QueueState). IsAllowedIn on n (with_queues w s)) (is_none (create_refusal w.queues q)) (with_queue w.queues q) w.queues (record { runs = h.runs; local = h.local; home = h.home; asks = h.asks }) (record { runs = h.runs; local = h.local; home = h.home; asks = h.asks })

  allowed_helper : (w : WorldState) (f : Helper) (a : List Arg) → length w.cpus ≡ length on → IsAllowedIn on n w → IsAllowedIn on n (helper_after w f a)
  allowed_helper w f a many h =
      kept_apart (IsAllowedIn on n) (λ v x m a b c d r l. record { runs = l.runs; local = l.local; home = l.home; asks = l.asks }) w h (λ i o new. record { runs = h.runs; local = h.local; home = h.home; asks = h.asks }) (λ q. allowed_created w q h)
      (λ t i flags back none. allowed_inserted on n w t i flags many none h) (λ q here low. allowed_moved on n w (next_for w q w.call.cpu) (λ t e. (next_seen w q w.call.cpu t e).may) h) f a

  -- whatever a program asks
  pub allowed_query : (w : WorldState) (q : Query) → length w.cpus ≡ length on → IsAllowedIn on n w → IsAllowedIn on n (after_query world_functions w q)
  allowed_query w (Call f a) many h = allowed_helper w f (map argument_of a) many h
  allowed_query w (Load t f) many h = h
  allowed_query w (Store t f k) many h = allowed_same on n w t.0 (stored_in (task_at w t.0) f k) (stored_home (task_at w t.0) f k) h
