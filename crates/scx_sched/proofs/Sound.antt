-- What each small step of a world keeps of "exactly once", and of what it rests on.
use Rattle.std.proofs.Common.{◌≡◌, ℕ, suc, ◌+◌, ◌-◌, ◌<◌, ◌≤◌, Bool, true, false, ◌==◌, nat_lt, nat_le, ◌&&◌, ◌||◌, ◌⊎◌, inl, inr, cond, if◌then◌else◌, List, [], ◌∷◌, length, set, get_or, map, Option, Some, None, is_some, is_none, option_map, unwrap_or, refl, sym, ◌∙◌, ap, subst, arith, position}
use Rattle.std.proofs.lemmas.Bool.{cases_eq, cases_lt, eq-eqb, ne_eqb, lt-ltb, eqb-true}
use Rattle.std.proofs.lemmas.Bool.Decides.{nat_tests}
use Rattle.std.proofs.lemmas.List.{length-set, get_or-set_same, get_or-set_other, get_or_past}
use Rattle.std.specs.List.{list_any, position_or_len}
use Rattle.std.proofs.lemmas.List.Sums.{sum_by-cons}
use Rattle.std.proofs.lemmas.List.Sums.{sum_by-set, fails_before_first}
use Rattle.scx_dsq.specs.Queues.{QueueState, exists, task_count, entry_of, queue_of, is_in, front_of}
use Rattle.scx_dsq.specs.Calls.{clashes, push_refusal, after_push, after_pop, after_remove, with_queue, after_create, create_refusal}
use Rattle.scx_dsq.specs.Entries.{same_sort}
use Rattle.scx_dsq.specs.declared.entries.Rank.{Rank}
use Rattle.scx_dsq.specs.declared.entries.Rank.TheVariants.{Fifo, Front, Vtime}
use Rattle.scx_dsq.specs.declared.entries.Entry.{Entry}
use Rattle.scx_dsq.specs.Laws.{one_if, standing, IsStamped}
use Rattle.scx_dsq.proofs.Facts.{front_is_known, standing_pushed, standing_popped, standing_removed, tasks_pushed, tasks_without, tasks_removed, tasks_created, others_change_none}
use Rattle.scx_weights.specs.Hierarchy as tree
use Rattle.scx_weights.specs.Refusals.{own_weight_fault}
use Rattle.scx_isa_semantics.specs.declared.callbacks.Callback.{Callback}
use Rattle.scx_isa_semantics.specs.declared.callbacks.Callback.TheVariants as callback
use Rattle.scx_isa_semantics.specs.declared.host_tables.Field.{Field}
use Rattle.scx_isa_semantics.specs.declared.host_tables.Helper.{Helper}
use Rattle.scx_isa_semantics.specs.Effects.{Query, Call, Load, Store}
use Rattle.scx_vm.specs.Arguments.{argument_of}
use Rattle.scx_vm.specs.Host.{after_query}
use Rattle.scx_vm.specs.declared.arguments.Arg.{Arg}
use Rattle.scx_sched_tasks.specs.declared.task.Task.{Task}
use Rattle.scx_sched_tasks.specs.Tasks.{no_task}
use Rattle.scx_sched_world.specs.declared.call.Insert.{Insert}
use Rattle.scx_sched_world.specs.declared.cpu_set.CpuSet.{CpuSet}
use Rattle.scx_sched_world.specs.declared.notes.What.{What}
use Rattle.scx_sched_world.specs.declared.faults.Fault.{Fault}
use Rattle.scx_sched_world.specs.declared.faults.Fault.TheVariants.{NoSuchQueue, CannotInsert, NoSuchCpu, BuiltinVtime, Mixed}
use Rattle.scx_sched_world.specs.declared.eject.Eject.{Eject}
use Rattle.scx_sched_world.specs.declared.passing.Passing.{Passing}
use Rattle.scx_sched_world.specs.declared.timers.Alarm.{Alarm}
use Rattle.scx_sched_world.specs.Ids.{global, local, held_queue, builtin_queue, parked_queue, local_on, policy_end}
use Rattle.scx_sched_world.specs.Ejecting.{put_out, builtin_vtime, put_builtin, evict, cut_task, after_catch_up, after_charge}
use Rattle.scx_sched_world.specs.World.{WorldState, is_by_linux, with_queues, with_tree, with_cycling, out_of_cycle, with_waker, with_task, task_at, waits_in, waits, is_this, is_runnable, cpu_of, quiet, at_callback, with_note}
use Rattle.scx_sched_world.specs.Tasks.{with_slice, with_home, rank_by, to_local, to_front, after_local, after_run, after_wake, after_sleep, after_leave, task_after_insert, after_enter, queue_for, for_cpu, to_held, to_global, brought, fill_front, after_fill, local_len, after_stop, started_at, with_new_slice, after_keep, ran_a_tick, after_tick, later, after_own_weight, next_for}
use Rattle.scx_sched_world.specs.Helpers.{flags_fault, is_dispatch, is_held, may_insert_in, may_insert, queue_fault, is_vtime, rank_fault, or_fault, insert_fault, with_insert, with_move, after_release, insert_or_fault, helper_after, stored_in, with_timer, world_functions, moved_to_local, placing_fault}
use Rattle.scx_sched_machine.proofs.Choices.{keeps_if}
use Rattle.scx_sched.specs.Once.{runs, appearances, IsOnce, HasQueues, sort_of, IsSorted, IsAlike, IsOpen, IsBehind, IsSound, GoesSomewhere}
use Rattle.scx_sched.specs.Kept.{with_sets, with_moved, WakesNoMore, IsWanted, ForAny, Nowhere, Inserted, InFront, Before}
use Rattle.scx_sched.proofs.Marks.{KeepsMarks, KeepsCycles, kept_cycling, kept_local, kept_put}
use Rattle.scx_sched.proofs.Waiting.{waiting, waits_there, without_other, removed_other, same_waiting, waiting_pushed, waiting_left, set_since, one_same, waits_sum, waits_by_sum, since_set, stored_since, given_since, renewed_since, waits_at_hand, waits_asleep, waits_on_cpu, place_waits_here}
use Rattle.scx_sched.proofs.Entering.{nowhere, sorted_pushed, sorted_popped, sorted_removed, stamped_pushed, stamped_popped, stamped_removed, stamped_created, own_open, alike_from, is_accepted, Stay, stay_pushed, stay_without, stay_removed, stay_created, queues_stay, open_without, open_removed, open_created, open_own, open_same, same_itself, same_key, open_by, goes_on, local_fits, local_sort, low_fits}
use Rattle.scx_sched.proofs.Seen.{next_seen}
use Rattle.scx_sched.proofs.Queries.{KeepsApart, kept_apart, given_so, stored_so}
use Rattle.scx_sched.proofs.Written.{each_written}

-- ---- changes of queues, tasks and the callback at hand

-- once a record was set, still each task ran last on a processor that is there
pub homes_set : (tasks : List Task) (t : ℕ) (x : Task) (k : ℕ) → x.prev_cpu < k → ((u : ℕ) → (get_or tasks u no_task).prev_cpu < k) → (u : ℕ) → (get_or (set tasks t x) u no_task).prev_cpu < k
homes_set tasks t x k new old u = each_written (λ j (y : Task). y.prev_cpu < k) tasks t x no_task new old u

-- a field that a program stores leaves the processor of a task
pub stored_home : (x : Task) (f : Field) (n : ℕ) → (stored_in x f n).prev_cpu ≡ x.prev_cpu
stored_home x f n = stored_so x (λ y. y.prev_cpu ≡ x.prev_cpu) (λ s v. refl) f n

module _ (hand : Option ℕ) (on : List (Option ℕ)) (n : ℕ) where
  -- other queues, in which each task stands as often
  sound_queues : (w : WorldState) (s : QueueState) → Stay w.queues s → IsSorted s → IsStamped s → task_count s ≡ task_count w.queues → ((u : ℕ) → standing s u ≡ standing w.queues u) → ((u : ℕ) → waiting s u ≡ waiting w.queues u) → GoesSomewhere s (length on) w.call.insert
      → IsSound hand on n w → IsSound hand on n (with_queues w s)
  sound_queues w s stay sorted stamped even same waits-same goes h = record {
    cpus = h.cpus;
    tasks = h.tasks;
    even = even ∙ h.even;
    flags = h.flags;
    members = h.members;
    homes = h.homes;
    queues = queues_stay w.queues s (length on) stay h.queues;
    sorted = sorted;
    stamped = stamped;
    once = λ u. omega (arith, same u, h.once u);
    here = h.here;
    goes = goes;
    not_first = h.not_first;
    waiting = λ u. h.waiting u ∙ ap (λ b. b || is_this u hand) (one_same (waits w u) (waits_in (queue_of s u)) (sym (waits-same u)));
    at_once = h.at_once;
  }

  sound_task : (w : WorldState) (t : ℕ) (x : Task) → x.prev_cpu ≡ (task_at w t).prev_cpu → x.since ≡ (task_at w t).since → IsSound hand on n w → IsSound hand on n (with_task w t x)
  sound_task w t x home since h = record { cpus = h.cpus; tasks = length-set w.tasks t x ∙ h.tasks; even = h.even; flags = h.flags; members = h.members; homes = homes_set w.tasks t x (length on) (rw home (h.homes t)) h.homes; queues = h.queues; sorted = h.sorted; stamped = h.stamped; once = h.once; here = h.here; goes = h.goes; not_first = h.not_first; waiting = λ u. ap is_some (since_set w.tasks t x since u) ∙ h.waiting u; at_once = h.at_once }

  -- nor is any task moved by sets of processors, or by what is kept until an event ends
  pub sound_sets : (w : WorldState) (claimed kicked preempted claims : CpuSet) (passing : Passing) → WakesNoMore w.passing passing → IsSound hand on n w → IsSound hand on n (with_sets w claimed kicked preempted claims passing)
  sound_sets w a b c d o waker h = record { cpus = h.cpus; tasks = h.tasks; even = h.even; flags = h.flags; members = h.members; homes = h.homes; queues = h.queues; sorted = h.sorted; stamped = h.stamped; once = h.once; here = record { hand = h.here.hand; wakes = λ c e. h.here.wakes c (waker c e); timed = h.here.timed }; goes = h.goes; not_first = h.not_first; waiting = h.waiting; at_once = h.at_once }

  -- nor by the processor from which a task is woken
  pub sound_waker : (w : WorldState) (o : Option ℕ) → ((c : ℕ) → o ≡ Some c → c < length on) → IsSound hand on n w → IsSound hand on n (with_waker w o)
  sound_waker w o l h = record { cpus = h.cpus; tasks = h.tasks; even = h.even; flags = h.flags; members = h.members; homes = h.homes; queues = h.queues; sorted = h.sorted; stamped = h.stamped; once = h.once; here = record { hand = h.here.hand; wakes = l; timed = h.here.timed }; goes = h.goes; not_first = h.not_first; waiting = h.waiting; at_once = h.at_once }

  -- it says of the callback at hand that it moved a task, or that it didn't
  pub sound_moves : (w : WorldState) (b : Bool) → IsSound hand on n w → IsSound hand on n (with_moved w b)
  sound_moves w b h = record { cpus = h.cpus; tasks = h.tasks; even = h.even; flags = h.flags; members = h.members; homes = h.homes; queues = h.queues; sorted = h.sorted; stamped = h.stamped; once = h.once; here = h.here; goes = h.goes; not_first = h.not_first; waiting = h.waiting; at_once = h.at_once }

  -- a timer, on a processor that is there
  pub sound_timed : (w : WorldState) (i : ℕ) (o : Option Alarm) → ((a : Alarm) → o ≡ Some a → a.cpu < length on) → IsSound hand on n w → IsSound hand on n (with_timer w i o)
  sound_timed w i o new h = record { cpus = h.cpus; tasks = h.tasks; even = h.even; flags = h.flags; members = h.members; homes = h.homes; queues = h.queues; sorted = h.sorted; stamped = h.stamped; once = h.once; here = record { hand = h.here.hand; wakes = h.here.wakes; timed = each_written (λ u (b : Option Alarm). (a : Alarm) → b ≡ Some a → a.cpu < length on) w.timers i o None new h.here.timed }; goes = h.goes; not_first = h.not_first; waiting = h.waiting; at_once = h.at_once }

  -- a task's own weight
  pub sound_own_weight : (w : WorldState) (t x : ℕ) → IsSound hand on n w → IsSound hand on n (after_own_weight w t x)
  sound_own_weight w t x h = keeps_if (IsSound hand on n) (is_none (own_weight_fault w.tree t x)) (with_tree w (tree.with_own_weight w.tree t x)) w (record { cpus = h.cpus; tasks = h.tasks; even = h.even; flags = h.flags; members = h.members; homes = h.homes; queues = h.queues; sorted = h.sorted; stamped = h.stamped; once = h.once; here = h.here; goes = h.goes; not_first = h.not_first; waiting = h.waiting; at_once = h.at_once }) h

  -- as the processor of a task, its slice and sets of processors change, tasks stay where they are
  pub sound_marks : KeepsMarks (λ c. c < length on) (IsSound hand on n)
  sound_marks = record {
    there = λ w c h l. rw (← h.cpus) l;
    homed = λ w t c l h. record { cpus = h.cpus; tasks = length-set w.tasks t (with_home (task_at w t) c) ∙ h.tasks; even = h.even; flags = h.flags; members = h.members; homes = homes_set w.tasks t (with_home (task_at w t) c) (length on) l h.homes; queues = h.queues; sorted = h.sorted; stamped = h.stamped; once = h.once; here = h.here; goes = h.goes; not_first = h.not_first; waiting = λ u. ap is_some (since_set w.tasks t (with_home (task_at w t) c) refl u) ∙ h.waiting u; at_once = h.at_once };
    sliced = λ w t k h. sound_task w t (with_slice (task_at w t) k) refl refl h;
    sets = λ w a b c d h. sound_sets w a b c d w.passing (λ c e. e) h;
  }

  -- notes that are handed on
  pub sound_quiet : (w : WorldState) → IsSound hand on n w → IsSound hand on n (quiet w)
  sound_quiet w h = record { cpus = h.cpus; tasks = h.tasks; even = h.even; flags = h.flags; members = h.members; homes = h.homes; queues = h.queues; sorted = h.sorted; stamped = h.stamped; once = h.once; here = h.here; goes = h.goes; not_first = h.not_first; waiting = h.waiting; at_once = h.at_once }

  -- a cycle that begins or ends
  pub sound_cycling : (w : WorldState) (o : Option ℕ) → IsSound hand on n w → IsSound hand on n (with_cycling w o)
  sound_cycling w o h = kept_cycling (IsSound hand on n) (λ v p a x waker h. kept_so v p a x waker h) w o h
    where
      kept_so : KeepsCycles (IsSound hand on n)
      kept_so v p a x waker h = record { cpus = h.cpus; tasks = h.tasks; even = h.even; flags = h.flags; members = h.members; homes = h.homes; queues = h.queues; sorted = h.sorted; stamped = h.stamped; once = h.once; here = record { hand = h.here.hand; wakes = λ c e. h.here.wakes c (waker c e); timed = h.here.timed }; goes = h.goes; not_first = h.not_first; waiting = h.waiting; at_once = h.at_once }

  -- one that ends, of which all is known still
  pub sound_ended : (w : WorldState) → IsSound hand on n w → IsSound hand on n (out_of_cycle w)
  sound_ended w h = record { cpus = h.cpus; tasks = h.tasks; even = h.even; flags = h.flags; members = h.members; homes = h.homes; queues = h.queues; sorted = h.sorted; stamped = h.stamped; once = h.once; here = h.here; goes = h.goes; not_first = h.not_first; waiting = h.waiting; at_once = h.at_once }

  entry_created : (s : QueueState) (q u : ℕ) → entry_of (after_create s q) u ≡ entry_of s u
  entry_created s q u = keeps_if (λ (x : QueueState). entry_of x u ≡ entry_of s u) (is_none (create_refusal s q)) (with_queue s q) s refl refl

  sound_created : (w : WorldState) (q : ℕ) → IsSound hand on n w → IsSound hand on n (with_queues w (after_create w.queues q))
  sound_created w q h =
      sound_queues w (after_create w.queues q) (stay_created w.queues q) (keeps_if IsSorted (is_none (create_refusal w.queues q)) (with_queue w.queues q) w.queues h.sorted h.sorted) (stamped_created w.queues q h.stamped) (tasks_created w.queues q) (λ u. others_change_none.queue w.queues q u) (λ u. same_waiting w.queues (after_create w.queues q) u (entry_created w.queues q u))
      (goes_on w.queues (after_create w.queues q) (length on) w.call.insert (λ x r o. open_created w.queues q x r o) h.goes) h

-- from one queue to another
pub left_place : (s : QueueState) (q t : ℕ) → front_of s q ≡ Some t → entry_of (after_pop s q) t ≡ None
left_place s q t e = rw e (get_or-set_same {A = Option Entry} s.entries t None None (front_is_known s q (Some t) (sym e)))

-- once the front has left its queue, the entry of every other task is as before
pub popped_other : (s : QueueState) (q t u : ℕ) → front_of s q ≡ Some t → (u ≡ t → ⊥) → entry_of (after_pop s q) u ≡ entry_of s u
popped_other s q t u e other = rw e (without_other s t u other)

-- who was taken out of its queue waits nowhere
pub removed_place : (s : QueueState) (t : ℕ) → is_some (entry_of s t) ≡ true → t < task_count s → entry_of (after_remove s t) t ≡ None
removed_place s t waits-here known = rw waits-here (get_or-set_same {A = Option Entry} s.entries t None None known)

-- who is in a queue is a task that there is
pub in_known : (s : QueueState) (q t : ℕ) → is_in q (entry_of s t) ≡ true → (t < task_count s) × (is_some (entry_of s t) ≡ true)
in_known s q t e = go (cases_lt t (task_count s)) (entry_of s t) refl e
  where
    go : (t < task_count s) ⊎ (task_count s ≤ t) → (o : Option Entry) → entry_of s t ≡ o → is_in q o ≡ true → (t < task_count s) × (is_some (entry_of s t) ≡ true)
    go l None x y = absurd (cc)
    go (inl l) (Some p) x y = (l, ap is_some x)
    go (inr past) (Some p) x y = let none : entry_of s t ≡ None = get_or_past {X = Option Entry} s.entries t None past in absurd (cc (sym x ∙ none))

-- so is one whose queue that is
pub place_known : (s : QueueState) (q t : ℕ) → queue_of s t ≡ Some q → (t < task_count s) × (is_some (entry_of s t) ≡ true)
place_known s q t e = in_known s q t (inside-it (entry_of s t) e)
  where
    same : (a b : ℕ) → Some a ≡ Some b → a ≡ b
    same a b x = cc

    inside-it : (o : Option Entry) → option_map (λ p. p.queue) o ≡ Some q → is_in q o ≡ true
    inside-it None x = absurd (cc)
    inside-it (Some p) x = eq-eqb p.queue q (same p.queue q x)

sound_brought : (hand : Option ℕ) (on : List (Option ℕ)) (n : ℕ) (w : WorldState) (q r t : ℕ) → queue_of w.queues t ≡ Some q → exists w.queues r ≡ true → policy_end ≤ r → same_sort Fifo (sort_of r) ≡ true → (q == parked_queue) ≡ false → (r == parked_queue) ≡ false
    → IsSound hand on n w → IsSound hand on n (with_queues w (after_push (after_remove w.queues t) r t Fifo))
sound_brought hand on n w q r t is there own fits apart apart-there h =
    let s = w.queues in
    let s' = after_remove s t in
    let place = place_known s q t is in
    let free : entry_of s' t ≡ None = removed_place s t place.1 place.0 in
    let ready : IsOpen s' r Fifo = own_open s' r Fifo (stay_removed s t r there) own fits (sorted_removed s t h.sorted) in
    let ok : push_refusal s' r t Fifo ≡ None = is_accepted s' t r Fifo free ready in
    let known' : t < task_count s' = rw (tasks_removed s t) place.0 in
    sound_queues hand on n w (after_push s' r t Fifo) (λ x g. stay_pushed s' r t Fifo x (stay_removed s t x g))
    (sorted_pushed s' r t Fifo ready.fits (sorted_removed s t h.sorted)) (stamped_pushed s' r t Fifo (stamped_removed s t h.stamped)) (tasks_pushed s' r t Fifo ∙ tasks_removed s t)
    (λ u. omega (arith, standing_pushed s' r t u Fifo known' ok, standing_removed s t u place.1))
    (λ u. omega (arith, waiting_pushed s' r t u Fifo known' ok free apart-there, waiting_left s s' t u (place_waits_here s q t is apart) free (λ k d. removed_other s t k d)))
    (goes_on s (after_push s' r t Fifo) (length on) w.call.insert (λ x k o. open_own s' r t Fifo x k own fits (open_removed s t x k o)) h.goes) h

-- ---- helpers

local_is_open : (s : QueueState) (n q : ℕ) (r : Rank) → same_sort r Fifo ≡ true → HasQueues s n → IsSorted s → local_on 0 ≤ q → q < local_on n → IsOpen s q r
local_is_open s n q r fits h sorted low high =
    let is : local_on (q - local_on 0) ≡ q = omega (arith, low) in
    subst (λ x. IsOpen s x r) is (own_open s (local_on (q - local_on 0)) r (h.locals (q - local_on 0) (omega (arith, low, high))) (omega arith) (local_fits (q - local_on 0) r fits) sorted)

abbrev fault_of : WorldState → ℕ → (a b g l m k : Bool) → Option Fault
fault_of w q a b g l m k =
    if a then (if b then None else Some NoSuchQueue)
    else (if g then None
    else (if l then None
    else (if m then Some NoSuchQueue
    else (if k then None
    else (if nat_lt q (local_on 0x1_0000_0000) then Some NoSuchCpu else Some NoSuchQueue)))))

-- what a callback may name takes a task so
open_at : (w : WorldState) (q c : ℕ) (r : Rank) → HasQueues w.queues (length w.cpus) → IsSorted w.queues → c < length w.cpus → queue_fault w q ≡ None → (policy_end ≤ q → same_sort r Fifo ≡ true) → IsAlike w.queues q r → IsOpen w.queues (queue_for c q) r
open_at w q c r h sorted here e fifo alike = go (nat_lt q policy_end) (exists w.queues q) (q == global) (q == local) (nat_lt q (local_on 0)) (nat_lt q (local_on (length w.cpus))) refl refl refl refl refl refl e
  where
    go : (a b g l m k : Bool) → nat_lt q policy_end ≡ a → exists w.queues q ≡ b → (q == global) ≡ g → (q == local) ≡ l → nat_lt q (local_on 0) ≡ m → nat_lt q (local_on (length w.cpus)) ≡ k
        → fault_of w q a b g l m k ≡ None → IsOpen w.queues (queue_for c q) r
    go true true g l m k ea eb eg el em ek e =
        let low : q < policy_end = grind (arith, nat_tests, ea) in
        rw (ne_eqb q local (λ x. omega (arith, x, low))) record { there = eb; fits = low_fits q r ea; alike = alike }
    go true false g l m k ea eb eg el em ek e = absurd (cc)
    go false b true l m k ea eb eg el em ek e =
        let is : global ≡ q = grind (arith, nat_tests, eg) in
        subst (λ x. IsOpen w.queues (queue_for c x) r) is (own_open w.queues global r h.global (omega arith) (fifo (omega (arith, is))) sorted)
    go false b false true m k ea eb eg el em ek e =
        let is : local ≡ q = grind (arith, nat_tests, el) in
        rw el (own_open w.queues (local_on c) r (h.locals c here) (omega arith) (local_fits c r (fifo (omega (arith, is)))) sorted)
    go false b false false true k ea eb eg el em ek e = absurd (cc)
    go false b false false false true ea eb eg el em ek e =
        let low : local_on 0 ≤ q = grind (arith, nat_tests, em) in
        let high : q < local_on (length w.cpus) = grind (arith, nat_tests, ek) in
        rw el (local_is_open w.queues (length w.cpus) q r (fifo (omega (arith, low))) h sorted low high)
    go false b false false false false ea eb eg el em ek e = more (nat_lt q (local_on 0x1_0000_0000)) e
      where
        more : (x : Bool) → (if x then Some NoSuchCpu else Some NoSuchQueue) ≡ None → IsOpen w.queues (queue_for c q) r
        more true e = absurd (cc)
        more false e = absurd (cc)

-- an insert without a fault
pub record IsFit (w : WorldState) (t : Option ℕ) (i : Insert) : Type 0 where
  pub may : may_insert w t ≡ true
  pub queue : queue_fault w i.queue ≡ None
  pub rank : rank_fault w i.queue i.rank ≡ None
  pub place : placing_fault w t i.queue ≡ None

-- an insert without a fault is fit
pub is_fit : (w : WorldState) (t : Option ℕ) (i : Insert) (flags : ℕ) → insert_fault w t i flags ≡ None → IsFit w t i
is_fit w t i flags e = go (may_insert w t) (flags_fault w flags) (queue_fault w i.queue) (rank_fault w i.queue i.rank) refl refl refl e
  where
    go : (a : Bool) (b o r : Option Fault) → may_insert w t ≡ a → queue_fault w i.queue ≡ o → rank_fault w i.queue i.rank ≡ r → (if a then or_fault b (or_fault o (or_fault r (placing_fault w t i.queue))) else Some CannotInsert) ≡ None → IsFit w t i
    go true (Some g) o r x y z e = absurd (cc)
    go true None None None x y z e = record { may = x; queue = y; rank = z; place = e }
    go true None None (Some f) x y z e = absurd (cc)
    go true None (Some f) r x y z e = absurd (cc)
    go false b o r x y z e = absurd (cc)

rank_alike : (w : WorldState) (q : ℕ) (r : Rank) → rank_fault w q r ≡ None → (policy_end ≤ q → same_sort r Fifo ≡ true) × IsAlike w.queues q r
rank_alike w q r e = go (is_vtime r && nat_le policy_end q) (list_any (clashes q r) w.queues.entries) refl refl e
  where
    fifo : (k : Rank) (b : Bool) → b ≡ true → (is_vtime k && b) ≡ false → same_sort k Fifo ≡ true
    fifo Fifo b x y = refl
    fifo Front b x y = refl
    fifo (Vtime n) true x y = absurd (cc)
    fifo (Vtime n) false x y = absurd (cc)

    go : (a b : Bool) → (is_vtime r && nat_le policy_end q) ≡ a → list_any (clashes q r) w.queues.entries ≡ b → (if a then Some BuiltinVtime else (if b then Some Mixed else None)) ≡ None → (policy_end ≤ q → same_sort r Fifo ≡ true) × IsAlike w.queues q r
    go true b x y e = absurd (cc)
    go false true x y e = absurd (cc)
    go false false x y e = (λ past. fifo r (nat_le policy_end q) (grind (arith, nat_tests, past)) x, alike_from w.queues q r y)

-- and its queue is open
pub fit_open : (on : List (Option ℕ)) (hand : Option ℕ) (n : ℕ) (w : WorldState) (t : Option ℕ) (i : Insert) (c : ℕ) → c < length on → IsFit w t i → IsSound hand on n w → IsOpen w.queues (queue_for c i.queue) i.rank
fit_open on hand n w t i c l fit h =
    let all : HasQueues w.queues (length w.cpus) = rw h.cpus h.queues in
    let here : c < length w.cpus = rw h.cpus l in
    let x = rank_alike w i.queue i.rank fit.rank in
    open_at w i.queue c i.rank all h.sorted here fit.queue x.0 x.1

-- no callback may name the queue of parked tasks
pub fit_apart : (w : WorldState) (q c : ℕ) → queue_fault w q ≡ None → (queue_for c q == parked_queue) ≡ false
fit_apart w q c e = go (cases_eq q parked_queue)
  where
    go : (q ≡ parked_queue) ⊎ (q ≡ parked_queue → ⊥) → (queue_for c q == parked_queue) ≡ false
    go (inl is) = let bad : Some NoSuchQueue ≡ None = subst (λ x. queue_fault w x ≡ None) is e in absurd (cc)
    go (inr d) = keeps_if (λ x. (x == parked_queue) ≡ false) (q == local) (local_on c) q (ne_eqb (local_on c) parked_queue (λ x. omega (arith, x))) (ne_eqb q parked_queue d)

-- who is held waits, and is a task that there is
pub record IsHeld (w : WorldState) (t : ℕ) : Type 0 where
  pub waits : waits_in (queue_of w.queues t) ≡ true
  pub known : t < task_count w.queues
  pub free : entry_of (after_remove w.queues t) t ≡ None

-- a task that is held waits
pub held_waits : (w : WorldState) (t : ℕ) → is_held w (Some t) ≡ true → IsHeld w t
held_waits w t e = go (cases_lt t (length w.queues.entries)) (entry_of w.queues t) refl e
  where
    go : (t < length w.queues.entries) ⊎ (length w.queues.entries ≤ t) → (o : Option Entry) → entry_of w.queues t ≡ o → is_in held_queue o ≡ true → IsHeld w t
    go l None x y = absurd (cc)
    go (inl l) (Some p) x y = record { waits = rw (x, eqb-true p.queue held_queue y) refl; known = l; free = rw x (get_or-set_same {A = Option Entry} w.queues.entries t None None l) }
    go (inr past) (Some p) x y = let none : entry_of w.queues t ≡ None = get_or_past {X = Option Entry} w.queues.entries t None past in absurd (cc (sym x ∙ none))

-- and in dispatch only such a one may be inserted
pub held_in_dispatch : (w : WorldState) (t : Option ℕ) → is_dispatch w.call.callback ≡ true → may_insert w t ≡ true → is_held w t ≡ true
held_in_dispatch w t = go w.call.callback
  where
    go : (b : Callback) → is_dispatch b ≡ true → may_insert_in b w t ≡ true → is_held w t ≡ true
    go callback.Dispatch x y = y
    go b x y = absurd (cc)

-- so does an insert
pub given_home : (x : Task) (i : Insert) → (task_after_insert x i).prev_cpu ≡ x.prev_cpu
given_home x i = given_so x (λ y. y.prev_cpu ≡ x.prev_cpu) (λ s v. refl) i

-- a task that there is
pub inside : (n : ℕ) (w : WorldState) (t : ℕ) → t < n → length w.tasks ≡ n → nat_lt t (length w.tasks) ≡ true
inside n w t within e = let l : t < length w.tasks = rw e within in grind (arith, nat_tests, l)

-- the processor on which the callback at hand runs, or from which it wakes a task, is there
here_is_there : (cpus at : ℕ) (o : Option ℕ) → at < cpus → ((c : ℕ) → o ≡ Some c → c < cpus) → unwrap_or o at < cpus
here_is_there cpus at None l wakes = l
here_is_there cpus at (Some c) l wakes = wakes c refl

module _ (hand : Option ℕ) (on : List (Option ℕ)) (n : ℕ) where
  -- what a callback does apart from tasks and queues
  sound_apart : KeepsApart (IsSound hand on n)
  sound_apart w x m a b c d r h = record { cpus = h.cpus; tasks = h.tasks; even = h.even; flags = h.flags; members = h.members; homes = h.homes; queues = h.queues; sorted = h.sorted; stamped = h.stamped; once = h.once; here = h.here; goes = h.goes; not_first = h.not_first; waiting = h.waiting; at_once = h.at_once }

  -- a task goes from one queue to another
  sound_replaced : (w : WorldState) (t q : ℕ) (r : Rank) (x : Task) → x.prev_cpu ≡ (task_at w t).prev_cpu → x.since ≡ (task_at w t).since → waits_in (queue_of w.queues t) ≡ true → t < task_count w.queues → entry_of (after_remove w.queues t) t ≡ None → IsOpen w.queues q r → (q == parked_queue) ≡ false
      → GoesSomewhere (after_push (after_remove w.queues t) q t r) (length on) w.call.insert → IsSound hand on n w → IsSound hand on n (with_queues (with_task w t x) (after_push (after_remove w.queues t) q t r))
  sound_replaced w t q r x home since waits-here known free ready apart goes h = sound_task hand on n (with_queues w s') t x home since moved-now
    where
      s : QueueState
      s = after_remove w.queues t

      s' : QueueState
      s' = after_push s q t r

      ready' : IsOpen s q r
      ready' = open_removed w.queues t q r ready

      ok : push_refusal s q t r ≡ None
      ok = is_accepted s t q r free ready'

      known' : t < task_count s
      known' = rw (tasks_removed w.queues t) known

      moved-now : IsSound hand on n (with_queues w s')
      moved-now =
          sound_queues hand on n w s' (λ y g. stay_pushed s q t r y (stay_removed w.queues t y g)) (sorted_pushed s q t r ready'.fits (sorted_removed w.queues t h.sorted)) (stamped_pushed s q t r (stamped_removed w.queues t h.stamped)) (tasks_pushed s q t r ∙ tasks_removed w.queues t)
          (λ u. omega (arith, standing_pushed s q t u r known' ok, standing_removed w.queues t u (waits_there w.queues t waits-here)))
          (λ u. omega (arith, waiting_pushed s q t u r known' ok free apart, waiting_left w.queues s t u (ap one_if waits-here) free (λ k d. removed_other w.queues t k d))) goes h

  -- a held task
  sound_released : (w : WorldState) (t : ℕ) (k : Insert) → w.call.insert ≡ None → IsHeld w t → IsOpen w.queues k.queue k.rank → (k.queue == parked_queue) ≡ false → IsSound hand on n w → IsSound hand on n (after_enter (after_leave w t) t k)
  sound_released w t k none held-here ready apart h =
      let r = rank_by w k.rank in
      kept_put (λ c. c < length on) (IsSound hand on n) (sound_marks hand on n) (after_leave w t) t k (inside n w t (subst (λ k. t < k) h.even held-here.known) h.tasks)
      (sound_replaced w t k.queue r (task_after_insert (task_at w t) k) (given_home (task_at w t) k) (given_since (task_at w t) k) held-here.waits held-here.known held-here.free (open_by w w.queues k.queue k.rank ready) apart (subst (λ o. GoesSomewhere (after_push (after_remove w.queues t) k.queue t r) (length on) o) (sym none) tt) h)

  -- what isn't of queues or tasks
  sound_moving : (w : WorldState) (x : What) → IsSound hand on n w → IsSound hand on n (with_note (with_move w) x)
  sound_moving w x h = record { cpus = h.cpus; tasks = h.tasks; even = h.even; flags = h.flags; members = h.members; homes = h.homes; queues = h.queues; sorted = h.sorted; stamped = h.stamped; once = h.once; here = h.here; goes = h.goes; not_first = h.not_first; waiting = h.waiting; at_once = h.at_once }

  sound_inserted : (w : WorldState) (t : Option ℕ) (i : Insert) → (is_by_linux w ≡ false → IsBehind i.rank) → IsFit w t i → IsSound hand on n w → IsSound hand on n (insert_or_fault w None t i)
  sound_inserted w t i back fit h = go (is_dispatch w.call.callback) refl t fit
    where
      go : (b : Bool) → is_dispatch w.call.callback ≡ b → (u : Option ℕ) → IsFit w u i → IsSound hand on n (if b then after_release w u (for_cpu w.call.cpu i) else with_insert w i)
      go true x None fit = h
      go true x (Some u) fit =
          sound_moving (after_enter (after_leave w u) u (for_cpu w.call.cpu i)) _
          (sound_released w u (for_cpu w.call.cpu i) (h.at_once x) (held_waits w u (held_in_dispatch w (Some u) x fit.may)) (fit_open on hand n w (Some u) i w.call.cpu h.here.hand fit h) (fit_apart w i.queue w.call.cpu fit.queue) h)
      go false x u fit = record { cpus = h.cpus; tasks = h.tasks; even = h.even; flags = h.flags; members = h.members; homes = h.homes; queues = h.queues; sorted = h.sorted; stamped = h.stamped; once = h.once; here = h.here; goes = λ c l. (fit_open on hand n w u i c l fit h, fit_apart w i.queue c fit.queue); not_first = back; waiting = h.waiting; at_once = λ y. absurd (cc (sym x ∙ y)) }

  sound_moved : (w : WorldState) (o : Option ℕ) (q : ℕ) → is_dispatch w.call.callback ≡ true → ((t : ℕ) → o ≡ Some t → queue_of w.queues t ≡ Some q) → (q == parked_queue) ≡ false → IsSound hand on n w → IsSound hand on n (moved_to_local w o)
  sound_moved w None q x e apart h = h
  sound_moved w (Some t) q x e apart h =
      let here = h.here.hand in
      sound_moving (after_local (after_leave w t) w.call.cpu t) _ (kept_local (λ c. c < length on) (IsSound hand on n) (sound_marks hand on n) (after_leave w t) w.call.cpu t here (sound_brought hand on n w q (local_on w.call.cpu) t (e t refl) (h.queues.locals w.call.cpu here) (omega arith) (local_sort w.call.cpu) apart (ne_eqb (local_on w.call.cpu) parked_queue (λ x. omega (arith, x))) h))

  sound_helper : (w : WorldState) (f : Helper) (a : List Arg) → IsSound hand on n w → IsSound hand on n (helper_after w f a)
  sound_helper w f a h =
      kept_apart (IsSound hand on n) sound_apart w h (λ i o new. sound_timed hand on n w i o (λ a e. rw (new a e) (here_is_there (length on) w.call.cpu w.passing.waker h.here.hand h.here.wakes)) h) (λ q. sound_created hand on n w q h) (λ t i flags back none. sound_inserted w t i back (is_fit w t i flags none) h)
      (λ q here low. sound_moved w (next_for w q w.call.cpu) q here (λ t e. (next_seen w q w.call.cpu t e).there) (ne_eqb q parked_queue (λ x. omega (arith, x, low))) h) f a

  -- whatever a program asks
  pub sound_query : (w : WorldState) (q : Query) → IsSound hand on n w → IsSound hand on n (after_query world_functions w q)
  sound_query w (Call f a) h = sound_helper w f (map argument_of a) h
  sound_query w (Load t f) h = h
  sound_query w (Store t f k) h = sound_task hand on n w t.0 (stored_in (task_at w t.0) f k) (stored_home (task_at w t.0) f k) (stored_since (task_at w t.0) f k) h

  -- a callback that begins
  pub sound_begun : (w : WorldState) (b : Callback) (t c : ℕ) → c < length on → IsSound hand on n w → IsSound hand on n (at_callback w b t c)
  sound_begun w b t c l h = record { cpus = h.cpus; tasks = h.tasks; even = h.even; flags = h.flags; members = h.members; homes = h.homes; queues = h.queues; sorted = h.sorted; stamped = h.stamped; once = h.once; here = record { hand = l; wakes = h.here.wakes; timed = h.here.timed }; goes = tt; not_first = λ e. tt; waiting = h.waiting; at_once = λ e. refl }

  -- where no program chose a processor, the task is to come into the local queue of one
  pub sound_wants : (w : WorldState) (c : ℕ) → c < length on → is_dispatch w.call.callback ≡ false → IsSound hand on n w → IsSound hand on n (with_insert w (to_local c))
  sound_wants w c l calm h = record { cpus = h.cpus; tasks = h.tasks; even = h.even; flags = h.flags; members = h.members; homes = h.homes; queues = h.queues; sorted = h.sorted; stamped = h.stamped; once = h.once; here = h.here; goes = λ d m. keeps_if (λ q. IsOpen w.queues q Fifo × ((q == parked_queue) ≡ false)) (local_on c == local) (local_on d) (local_on c) (one d m) (one c l); not_first = λ plain e. absurd (cc); waiting = h.waiting; at_once = λ y. absurd (cc (sym calm ∙ y)) }
    where
      one : (d : ℕ) → d < length on → IsOpen w.queues (local_on d) Fifo × ((local_on d == parked_queue) ≡ false)
      one d m = (own_open w.queues (local_on d) Fifo (h.queues.locals d m) (omega arith) (local_sort d) h.sorted, ne_eqb (local_on d) parked_queue (λ x. omega (arith, x)))

-- ---- the task at hand comes to wait

-- once the task at hand was pushed, each task is where it should be, with none at hand
pub once_pushed : (w : WorldState) (t q : ℕ) (r : Rank) → t < task_count w.queues → push_refusal w.queues q t r ≡ None → IsOnce (Some t) w → IsOnce None (with_queues w (after_push w.queues q t r))
once_pushed w t q r within ok once u = omega (arith, once u, standing_pushed w.queues q t u r within ok)

-- nor does a new slice
pub renewed_home : (x : Task) → (with_new_slice x).prev_cpu ≡ x.prev_cpu
renewed_home x = keeps_if (λ (y : Task). y.prev_cpu ≡ x.prev_cpu) (x.slice == 0) _ x refl refl

module _ (on : List (Option ℕ)) (n : ℕ) where
  -- with another record
  sound_placed : (w : WorldState) (t q : ℕ) (r : Rank) (x : Task) → x.prev_cpu ≡ (task_at w t).prev_cpu → x.since ≡ (task_at w t).since → t < n → IsOpen w.queues q r → (q == parked_queue) ≡ false → GoesSomewhere (after_push w.queues q t r) (length on) w.call.insert → IsSound (Some t) on n w
      → IsSound None on n (with_queues (with_task w t x) (after_push w.queues q t r))
  sound_placed w t q r x home since within ready apart goes h =
      let known : t < task_count w.queues = rw h.even within in
      let ok : push_refusal w.queues q t r ≡ None = is_accepted w.queues t q r (nowhere w t h.once) ready in
      record {
        cpus = h.cpus;
        tasks = length-set w.tasks t x ∙ h.tasks;
        even = tasks_pushed w.queues q t r ∙ h.even;
        flags = h.flags;
        members = h.members;
        homes = homes_set w.tasks t x (length on) (rw home (h.homes t)) h.homes;
        queues = queues_stay w.queues (after_push w.queues q t r) (length on) (stay_pushed w.queues q t r) h.queues;
        sorted = sorted_pushed w.queues q t r ready.fits h.sorted;
        stamped = stamped_pushed w.queues q t r h.stamped;
        once = once_pushed w t q r known ok h.once;
        here = h.here;
        goes = goes;
        not_first = h.not_first;
        waiting = waits_by_sum None (with_queues (with_task w t x) (after_push w.queues q t r)) (λ u. omega (arith, ap (λ o. one_if (is_some o)) (since_set w.tasks t x since u), waits_sum (Some t) w h.once h.waiting u, waiting_pushed w.queues q t u r known ok (nowhere w t h.once) apart));
        at_once = h.at_once;
      }

  sound_enters : (w : WorldState) (t : ℕ) (i : Insert) → t < n → IsOpen w.queues i.queue i.rank → (i.queue == parked_queue) ≡ false → GoesSomewhere (after_push w.queues i.queue t (rank_by w i.rank)) (length on) w.call.insert → IsSound (Some t) on n w → IsSound None on n (after_enter w t i)
  sound_enters w t i within ready apart goes h =
      kept_put (λ c. c < length on) (IsSound None on n) (sound_marks None on n) w t i (inside n w t within h.tasks)
      (sound_placed w t i.queue (rank_by w i.rank) (task_after_insert (task_at w t) i) (given_home (task_at w t) i) (given_since (task_at w t) i) within (open_by w w.queues i.queue i.rank ready) apart goes h)

  -- into one of the machine's own queues
  sound_enters_own : (w : WorldState) (t : ℕ) (i : Insert) → t < n → exists w.queues i.queue ≡ true → policy_end ≤ i.queue → same_sort i.rank (sort_of i.queue) ≡ true → (i.queue == parked_queue) ≡ false → IsSound (Some t) on n w → IsSound None on n (after_enter w t i)
  sound_enters_own w t i within there own fits apart h =
      sound_enters w t i within (own_open w.queues i.queue i.rank there own fits h.sorted) apart
      (goes_on w.queues (after_push w.queues i.queue t (rank_by w i.rank)) (length on) w.call.insert (λ x k o. open_own w.queues i.queue t (rank_by w i.rank) x k own (same_key w i.rank (sort_of i.queue) ∙ fits) o) h.goes) h

  -- where a callback said
  pub said_open : (w : WorldState) (c : ℕ) (said : Insert) → c < length on → w.call.insert ≡ Some said → GoesSomewhere w.queues (length on) w.call.insert → IsOpen w.queues (queue_for c said.queue) said.rank
  said_open w c said l e goes = (subst (λ (o : Option Insert). GoesSomewhere w.queues (length on) o) e goes c l).0

  pub said_apart : (w : WorldState) (c : ℕ) (said : Insert) → c < length on → w.call.insert ≡ Some said → GoesSomewhere w.queues (length on) w.call.insert → (queue_for c said.queue == parked_queue) ≡ false
  said_apart w c said l e goes = (subst (λ (o : Option Insert). GoesSomewhere w.queues (length on) o) e goes c l).1

  sound_enters_said : (w : WorldState) (t c : ℕ) (said : Insert) → t < n → c < length on → w.call.insert ≡ Some said → IsSound (Some t) on n w → IsSound None on n (after_enter w t (for_cpu c said))
  sound_enters_said w t c said within l e h =
      sound_enters w t (for_cpu c said) within (said_open w c said l e h.goes) (said_apart w c said l e h.goes)
      (subst (λ (o : Option Insert). GoesSomewhere (after_push w.queues (queue_for c said.queue) t (rank_by w said.rank)) (length on) o) (sym e)
      (λ d m. (open_same w.queues (queue_for c said.queue) t (queue_for d said.queue) said.rank (rank_by w said.rank) (same_key w said.rank said.rank ∙ same_itself said.rank) (said_open w d said m e h.goes), said_apart w d said m e h.goes))) h

  -- the queue that is wanted is open
  pub wanted_open : (w : WorldState) (i : Insert) (hand : Option ℕ) → IsWanted (length on) w i → IsSound hand on n w → IsOpen w.queues i.queue i.rank
  wanted_open w i hand (ForAny e) h = rw e (own_open w.queues global Fifo h.queues.global (omega arith) refl h.sorted)
  wanted_open w i hand (Nowhere e) h = rw e (own_open w.queues held_queue Fifo h.queues.held (omega arith) refl h.sorted)
  wanted_open w i hand (Inserted c said l x e) h = rw e (said_open w c said l x h.goes)
  wanted_open w i hand (InFront c l linux e) h = rw e (own_open w.queues (local_on c) Front (h.queues.locals c l) (omega arith) (local_fits c Front refl) h.sorted)
  wanted_open w i hand (Before c said l linux none goes e) h = rw e (goes c l).0

  -- a task that enters it
  pub sound_entered : (w : WorldState) (t : ℕ) (i : Insert) → t < n → IsWanted (length on) w i → IsSound (Some t) on n w → IsSound None on n (after_enter w t i)
  sound_entered w t i within (ForAny e) h = rw e (sound_enters_own w t to_global within h.queues.global (omega arith) refl refl h)
  sound_entered w t i within (Nowhere e) h = rw e (sound_enters_own w t to_held within h.queues.held (omega arith) refl refl h)
  sound_entered w t i within (Inserted c said l x e) h = rw e (sound_enters_said w t c said within l x h)
  sound_entered w t i within (Before c said l linux none goes e) h =
      rw e (sound_enters w t (for_cpu c said) within (goes c l).0 (goes c l).1 (subst (λ (o : Option Insert). GoesSomewhere (after_push w.queues (queue_for c said.queue) t (rank_by w said.rank)) (length on) o) (sym none) tt) h)
  sound_entered w t i within (InFront c l linux e) h = rw e (sound_enters_own w t (to_front c) within (h.queues.locals c l) (omega arith) (local_fits c Front refl) (ne_eqb (local_on c) parked_queue (λ x. omega (arith, x))) h)

  -- a local queue that is filled
  pub sound_filled : (w : WorldState) (q c : ℕ) → (q == parked_queue) ≡ false → c < length on → IsSound None on n w → IsSound None on n (after_fill w q c)
  sound_filled w q c apart l h = go (fill_front w q c) (λ t e. first t (nat_lt 0 (local_len w c)) e)
    where
      first : (t : ℕ) (b : Bool) → (if b then None else next_for w q c) ≡ Some t → queue_of w.queues t ≡ Some q
      first t true x = absurd (cc)
      first t false x = (next_seen w q c t x).there

      go : (o : Option ℕ) → ((t : ℕ) → o ≡ Some t → queue_of w.queues t ≡ Some q) → IsSound None on n (brought o w c)
      go None f = h
      go (Some t) f = kept_local (λ c. c < length on) (IsSound None on n) (sound_marks None on n) (after_leave w t) c t l (sound_brought None on n w q (local_on c) t (f t refl) (h.queues.locals c l) (omega arith) (local_sort c) apart (ne_eqb (local_on c) parked_queue (λ x. omega (arith, x))) h)

  -- a task that is kept
  pub sound_kept : (w : WorldState) (t : ℕ) → IsSound None on n w → IsSound None on n (after_keep w (Some t))
  sound_kept w t h = sound_task None on n w t (with_new_slice (task_at w t)) (renewed_home (task_at w t)) (renewed_since (task_at w t)) h

  -- a tick
  pub sound_ticked : (w : WorldState) (t : ℕ) → IsSound None on n w → IsSound None on n (after_tick w t)
  sound_ticked w t h = sound_task None on n w t (ran_a_tick (task_at w t)) refl refl h

  -- a clock that goes on
  pub sound_later : (w : WorldState) → IsSound None on n w → IsSound None on n (later w)
  sound_later w h = record { cpus = h.cpus; tasks = h.tasks; even = h.even; flags = h.flags; members = h.members; homes = h.homes; queues = h.queues; sorted = h.sorted; stamped = h.stamped; once = h.once; here = h.here; goes = h.goes; not_first = h.not_first; waiting = h.waiting; at_once = h.at_once }

  -- a weight
  pub sound_with_weight : (w : WorldState) (g x : ℕ) → IsSound None on n w → IsSound None on n (with_tree w (tree.with_weight w.tree g x))
  sound_with_weight w g x h = record { cpus = h.cpus; tasks = h.tasks; even = h.even; flags = h.flags; members = h.members; homes = h.homes; queues = h.queues; sorted = h.sorted; stamped = h.stamped; once = h.once; here = h.here; goes = h.goes; not_first = h.not_first; waiting = h.waiting; at_once = h.at_once }

  -- who leaves its processor is in no place
  pub sound_stopped : (w : WorldState) (c t : ℕ) → c < length on → t < n → get_or on c None ≡ Some t → IsSound None on n w → IsSound (Some t) (set on c None) n (after_stop w c t)
  sound_stopped w c t l within runs h = record {
    cpus = ap (λ (xs : List (Option ℕ)). set xs c None) h.cpus;
    tasks = length-set w.tasks t _ ∙ h.tasks;
    even = h.even;
    flags = h.flags;
    members = h.members;
    homes = rw (length-set on c None) (homes_set w.tasks t _ (length on) (h.homes t) h.homes);
    queues = subst (λ k. HasQueues w.queues k) (sym (length-set on c None)) h.queues;
    sorted = h.sorted;
    stamped = h.stamped;
    once = λ u. omega (arith, h.once u, here u, sum_by-set (λ o. one_if (is_this u o)) w.cpus c None None l');
    here = rw (length-set on c None) h.here;
    goes = subst (λ k. GoesSomewhere w.queues k w.call.insert) (sym (length-set on c None)) h.goes;
    not_first = h.not_first;
    waiting = waits_at_hand w t w.clock _ (rw h.tasks within) refl h.waiting;
    at_once = h.at_once;
  }
    where
      l' : c < length w.cpus
      l' = rw h.cpus l

      here : (u : ℕ) → one_if (is_this u (get_or w.cpus c None)) ≡ one_if (u == t)
      here u = rw (h.cpus, runs) refl

  -- who leaves its queue runs
  pub sound_started : (w : WorldState) (c t : ℕ) → c < length on → get_or on c None ≡ None → front_of w.queues (local_on c) ≡ Some t → IsSound None on n w → IsSound None (set on c (Some t)) n (started_at (Some t) w c)
  sound_started w c t l free e h = record {
    cpus = ap (λ (xs : List (Option ℕ)). set xs c (Some t)) h.cpus;
    tasks = length-set w.tasks t _ ∙ h.tasks;
    even = tasks_without w.queues (front_of w.queues (local_on c)) ∙ h.even;
    flags = h.flags;
    members = h.members;
    homes = rw same (homes_set w.tasks t _ (length on) l h.homes);
    queues = queues_stay w.queues (after_pop w.queues (local_on c)) (length (set on c (Some t))) (stay_without w.queues (front_of w.queues (local_on c))) (subst (λ k. HasQueues w.queues k) (sym same) h.queues);
    sorted = sorted_popped w.queues (local_on c) h.sorted;
    stamped = stamped_popped w.queues (local_on c) h.stamped;
    once = λ u. omega (arith, h.once u, ap (λ o. one_if (is_this u o)) free', sum_by-set (λ o. one_if (is_this u o)) w.cpus c (Some t) None l', standing_popped w.queues (local_on c) t u e);
    here = rw same h.here;
    goes = subst (λ k. GoesSomewhere (after_pop w.queues (local_on c)) k w.call.insert) (sym same) (goes_on w.queues (after_pop w.queues (local_on c)) (length on) w.call.insert (λ x k o. open_without w.queues (front_of w.queues (local_on c)) x k o) h.goes);
    not_first = h.not_first;
    waiting = waits_on_cpu w (after_pop w.queues (local_on c)) t _ known refl (left_place w.queues (local_on c) t e) (λ u d. popped_other w.queues (local_on c) t u e d) h.waiting;
    at_once = h.at_once;
  }
    where
      known : t < length w.tasks
      known = rw (h.tasks, ← h.even) (front_is_known w.queues (local_on c) (Some t) (sym e))

      same : length (set on c (Some t)) ≡ length on
      same = length-set on c (Some t)

      free' : get_or w.cpus c None ≡ None
      free' = rw h.cpus free

      l' : c < length w.cpus
      l' = rw h.cpus l

-- who waits is a task that there is
pub waits_known : (s : QueueState) (t : ℕ) → is_some (entry_of s t) ≡ true → t < task_count s
waits_known s t e = go (cases_lt t (task_count s))
  where
    none : entry_of s t ≡ None → is_some (entry_of s t) ≡ true → ⊥
    none x y = absurd (cc)

    go : (t < task_count s) ⊎ (task_count s ≤ t) → t < task_count s
    go (inl l) = l
    go (inr past) = absurd (none (get_or_past {X = Option Entry} s.entries t None past) e)

module _ (on : List (Option ℕ)) (n : ℕ) where
  -- who leaves its queue, from wherever in it, runs
  pub sound_ran : (w : WorldState) (c t : ℕ) → c < length on → get_or on c None ≡ None → is_in (local_on c) (entry_of w.queues t) ≡ true → IsSound None on n w → IsSound None (set on c (Some t)) n (after_run w c t)
  sound_ran w c t l free e h = record {
    cpus = ap (λ (xs : List (Option ℕ)). set xs c (Some t)) h.cpus;
    tasks = length-set w.tasks t _ ∙ h.tasks;
    even = tasks_removed w.queues t ∙ h.even;
    flags = h.flags;
    members = h.members;
    homes = rw same (homes_set w.tasks t _ (length on) l h.homes);
    queues = queues_stay w.queues (after_remove w.queues t) (length (set on c (Some t))) (stay_removed w.queues t) (subst (λ k. HasQueues w.queues k) (sym same) h.queues);
    sorted = sorted_removed w.queues t h.sorted;
    stamped = stamped_removed w.queues t h.stamped;
    once = λ u. omega (arith, h.once u, ap (λ o. one_if (is_this u o)) free', sum_by-set (λ o. one_if (is_this u o)) w.cpus c (Some t) None l', standing_removed w.queues t u here.1);
    here = rw same h.here;
    goes = subst (λ k. GoesSomewhere (after_remove w.queues t) k w.call.insert) (sym same) (goes_on w.queues (after_remove w.queues t) (length on) w.call.insert (λ x k o. open_removed w.queues t x k o) h.goes);
    not_first = h.not_first;
    waiting = waits_on_cpu w (after_remove w.queues t) t _ known refl (removed_place w.queues t here.1 here.0) (λ u d. removed_other w.queues t u d) h.waiting;
    at_once = h.at_once;
  }
    where
      here : (t < task_count w.queues) × (is_some (entry_of w.queues t) ≡ true)
      here = in_known w.queues (local_on c) t e

      known : t < length w.tasks
      known = rw (h.tasks, ← h.even) here.0

      same : length (set on c (Some t)) ≡ length on
      same = length-set on c (Some t)

      free' : get_or w.cpus c None ≡ None
      free' = rw h.cpus free

      l' : c < length w.cpus
      l' = rw h.cpus l

-- ---- waking and sleeping

once_woken : (w : WorldState) (t : ℕ) → t < length w.tree.active → is_runnable w t ≡ false → IsOnce None w → IsOnce (Some t) (after_wake w t)
once_woken w t known after_sleep once u = go (cases_eq u t)
  where
    go : (u ≡ t) ⊎ (u ≡ t → ⊥) → appearances w u + one_if (u == t) ≡ one_if (get_or (set w.tree.active t true) u false)
    go (inl e) = rw (e, eq-eqb t t refl, get_or-set_same w.tree.active t true false known) (omega (arith, once t, ap one_if after_sleep))
    go (inr d) = rw (ne_eqb u t d, get_or-set_other w.tree.active t u true false d) (omega (arith, once u))

sum_none : (cpus : List (Option ℕ)) (t : ℕ) → ((k : ℕ) → k < length cpus → is_this t (get_or cpus k None) ≡ false) → runs cpus t ≡ 0
sum_none [] t none = refl
sum_none (o ∷ cpus) t none =
    let here : one_if (is_this t o) ≡ 0 = ap one_if (none 0 (omega arith)) in
    let rest : runs cpus t ≡ 0 = sum_none cpus t (λ k l. none (suc k) (omega (arith, l))) in
    omega (arith, sum_by-cons (λ o. one_if (is_this t o)) o cpus, here, rest)

not_running : (cpus : List (Option ℕ)) (t : ℕ) → position (is_this t) cpus ≡ None → runs cpus t ≡ 0
not_running cpus t e = sum_none cpus t (λ k l. fails_before_first (is_this t) cpus k None (omega (arith, l, past (cases_lt (position_or_len (is_this t) cpus) (length cpus)))))
  where
    past : (position_or_len (is_this t) cpus < length cpus) ⊎ (length cpus ≤ position_or_len (is_this t) cpus) → length cpus ≤ position_or_len (is_this t) cpus
    past (inl l) = absurd (some (subst (λ b. cond b (Some (position_or_len (is_this t) cpus)) None ≡ None) (lt-ltb (position_or_len (is_this t) cpus) (length cpus) l) e))
      where
        some : Some (position_or_len (is_this t) cpus) ≡ None → ⊥
        some x = absurd (cc)
    past (inr l) = l

module _ (on : List (Option ℕ)) (n : ℕ) where
  -- a task that wakes is at hand
  pub sound_woken : (w : WorldState) (t : ℕ) → t < n → is_runnable w t ≡ false → IsSound None on n w → IsSound (Some t) on n (after_wake w t)
  sound_woken w t within after_sleep h = record {
    cpus = h.cpus;
    tasks = length-set w.tasks t _ ∙ h.tasks;
    even = h.even;
    flags = length-set w.tree.active t true ∙ h.flags;
    members = h.members;
    homes = homes_set w.tasks t _ (length on) (h.homes t) h.homes;
    queues = h.queues;
    sorted = h.sorted;
    stamped = h.stamped;
    once = once_woken w t (rw h.flags within) after_sleep h.once;
    here = h.here;
    goes = h.goes;
    not_first = h.not_first;
    waiting = waits_at_hand w t w.clock _ (rw h.tasks within) refl h.waiting;
    at_once = h.at_once;
  }

  once_asleep : (w : WorldState) (t : ℕ) → t < length w.tree.active → IsOnce (Some t) w → (u : ℕ) → appearances w u + 0 ≡ one_if (get_or (set w.tree.active t false) u false)
  once_asleep w t known once u = go (cases_eq u t)
    where
      at_hand : (b : Bool) (k : ℕ) → k + 1 ≡ one_if b → k + 0 ≡ 0
      at_hand true k e = omega (arith, e)
      at_hand false k e = absurd (omega (arith, e))

      hit : one_if (t == t) ≡ 1
      hit = rw (eq-eqb t t refl) refl

      go : (u ≡ t) ⊎ (u ≡ t → ⊥) → appearances w u + 0 ≡ one_if (get_or (set w.tree.active t false) u false)
      go (inl e) = rw (e, get_or-set_same w.tree.active t false false known) (at_hand (is_runnable w t) (appearances w t) (omega (arith, once t, hit)))
      go (inr d) = rw (get_or-set_other w.tree.active t u false false d) (omega (arith, once u, ap one_if (ne_eqb u t d)))

  -- a task that sleeps no longer is
  pub sound_asleep : (w : WorldState) (t : ℕ) → t < n → IsSound (Some t) on n w → IsSound None on n (after_sleep w t)
  sound_asleep w t within h = rw (inside n w t within h.tasks) record {
    cpus = h.cpus;
    tasks = length-set w.tasks t _ ∙ h.tasks;
    even = h.even;
    flags = length-set w.tree.active t false ∙ h.flags;
    members = h.members;
    homes = homes_set w.tasks t _ (length on) (h.homes t) h.homes;
    queues = h.queues;
    sorted = h.sorted;
    stamped = h.stamped;
    once = once_asleep w t (rw h.flags within) h.once;
    here = h.here;
    goes = h.goes;
    not_first = h.not_first;
    waiting = waits_asleep w t _ (rw h.tasks within) refl h.once h.waiting;
    at_once = h.at_once;
  }

  -- who waits leaves its queue, and is at hand
  pub sound_removed : (w : WorldState) (t : ℕ) → waits w t ≡ true → IsSound None on n w → IsSound (Some t) on n (after_leave w t)
  sound_removed w t here h = record {
    cpus = h.cpus;
    tasks = h.tasks;
    even = tasks_removed w.queues t ∙ h.even;
    flags = h.flags;
    members = h.members;
    homes = h.homes;
    queues = queues_stay w.queues (after_remove w.queues t) (length on) (stay_removed w.queues t) h.queues;
    sorted = sorted_removed w.queues t h.sorted;
    stamped = stamped_removed w.queues t h.stamped;
    once = λ u. omega (arith, h.once u, standing_removed w.queues t u stands);
    here = h.here;
    goes = goes_on w.queues (after_remove w.queues t) (length on) w.call.insert (λ x k o. open_removed w.queues t x k o) h.goes;
    not_first = h.not_first;
    waiting = waits_by_sum (Some t) (after_leave w t) (λ u. omega (arith, waits_sum None w h.once h.waiting u, waiting_left w.queues (after_remove w.queues t) t u (ap one_if here) gone-now (λ k d. removed_other w.queues t k d)));
    at_once = h.at_once;
  }
    where
      stands : is_some (entry_of w.queues t) ≡ true
      stands = waits_there w.queues t here

      known : t < task_count w.queues
      known = waits_known w.queues t stands

      gone-now : entry_of (after_remove w.queues t) t ≡ None
      gone-now = removed_place w.queues t stands known

  -- who is runnable and doesn't run is in a queue, leaves it and sleeps
  pub sound_left : (w : WorldState) (t : ℕ) → t < n → is_runnable w t ≡ true → cpu_of w t ≡ None → IsSound None on n w → IsSound None on n (after_sleep (after_leave w t) t)
  sound_left w t within runnable off h = rw (inside n w t within h.tasks) record {
    cpus = h.cpus;
    tasks = length-set w.tasks t _ ∙ h.tasks;
    even = tasks_removed w.queues t ∙ h.even;
    flags = length-set w.tree.active t false ∙ h.flags;
    members = h.members;
    homes = homes_set w.tasks t _ (length on) (h.homes t) h.homes;
    queues = queues_stay w.queues (after_remove w.queues t) (length on) (stay_removed w.queues t) h.queues;
    sorted = sorted_removed w.queues t h.sorted;
    stamped = stamped_removed w.queues t h.stamped;
    once = once_asleep (after_leave w t) t (rw h.flags within) (λ u. omega (arith, h.once u, standing_removed w.queues t u stands));
    here = h.here;
    goes = goes_on w.queues (after_remove w.queues t) (length on) w.call.insert (λ x k o. open_removed w.queues t x k o) h.goes;
    not_first = h.not_first;
    waiting = set_since w (after_remove w.queues t) None None t _ (rw h.tasks within) (rw gone-now refl) (λ u d. ap (λ (o : Option Entry). waits_in (option_map (λ p. p.queue) o) || false) (sym (removed_other w.queues t u d))) h.waiting;
    at_once = h.at_once;
  }
    where
      stands : is_some (entry_of w.queues t) ≡ true
      stands = go (is_some (entry_of w.queues t)) refl (omega (arith, h.once t, ap one_if runnable, not_running w.cpus t off))
        where
          go : (b : Bool) → is_some (entry_of w.queues t) ≡ b → one_if (is_some (entry_of w.queues t)) ≡ 1 → is_some (entry_of w.queues t) ≡ true
          go true e one = e
          go false e one = absurd (omega (arith, one, ap one_if e))

      gone-now : entry_of (after_remove w.queues t) t ≡ None
      gone-now = removed_place w.queues t stands (rw h.even within)

-- ---- an ejection, and the built-in scheduler

module _ (hand : Option ℕ) (on : List (Option ℕ)) (n : ℕ) where
  -- what the callback at hand wanted is forgotten
  pub sound_put_out : (w : WorldState) (x : Eject) → IsSound hand on n w → IsSound hand on n (put_out w x)
  sound_put_out w x h = record { cpus = h.cpus; tasks = h.tasks; even = h.even; flags = h.flags; members = h.members; homes = h.homes; queues = h.queues; sorted = h.sorted; stamped = h.stamped; once = h.once; here = record { hand = h.here.hand; wakes = λ c e. absurd (cc); timed = h.here.timed }; goes = tt; not_first = λ e. tt; waiting = h.waiting; at_once = λ e. refl }

  -- a task that waits goes over
  pub sound_evict : (w : WorldState) (t : ℕ) → t < n → IsSound hand on n w → IsSound hand on n (evict w t)
  sound_evict w t within h = go (waits w t) refl
    where
      r : Rank
      r = Vtime (builtin_vtime w t)

      over : waits w t ≡ true → IsSound hand on n (put_builtin (after_leave w t) t)
      over waits-here =
          let known : t < task_count w.queues = rw h.even within in
          rw (inside n w t within h.tasks)
          (sound_replaced hand on n w t builtin_queue r _ refl refl waits-here known (removed_place w.queues t (waits_there w.queues t waits-here) known) (own_open w.queues builtin_queue r h.queues.builtin (omega arith) refl h.sorted) refl
          (goes_on w.queues (after_push (after_remove w.queues t) builtin_queue t r) (length on) w.call.insert (λ x k o. open_own (after_remove w.queues t) builtin_queue t r x k (omega arith) refl (open_removed w.queues t x k o)) h.goes) h)

      go : (b : Bool) → waits w t ≡ b → IsSound hand on n (if b then put_builtin (after_leave w t) t else w)
      go true e = over e
      go false e = h

  -- slices that are cut
  pub sound_cut : (w : WorldState) (t : ℕ) → IsSound hand on n w → IsSound hand on n (cut_task (Some t) w)
  sound_cut w t h = sound_task hand on n w t _ refl refl h

  -- the clock of the built-in scheduler
  pub sound_overtaken : (w : WorldState) (t : ℕ) → IsSound hand on n w → IsSound hand on n (after_catch_up w t)
  sound_overtaken w t h = record { cpus = h.cpus; tasks = h.tasks; even = h.even; flags = h.flags; members = h.members; homes = h.homes; queues = h.queues; sorted = h.sorted; stamped = h.stamped; once = h.once; here = h.here; goes = h.goes; not_first = h.not_first; waiting = h.waiting; at_once = h.at_once }

  -- its times
  pub sound_charged : (w : WorldState) (t : ℕ) → IsSound hand on n w → IsSound hand on n (after_charge w t)
  sound_charged w t h = sound_task hand on n w t _ refl refl h

-- a task that is put under the built-in scheduler
pub sound_put_builtin : (on : List (Option ℕ)) (n : ℕ) (w : WorldState) (t : ℕ) → t < n → IsSound (Some t) on n w → IsSound None on n (put_builtin w t)
sound_put_builtin on n w t within h =
    let r = Vtime (builtin_vtime w t) in
    rw (inside n w t within h.tasks)
    (sound_placed on n w t builtin_queue r _ refl refl within (own_open w.queues builtin_queue r h.queues.builtin (omega arith) refl h.sorted) refl
    (goes_on w.queues (after_push w.queues builtin_queue t r) (length on) w.call.insert (λ x k o. open_own w.queues builtin_queue t r x k (omega arith) refl o) h.goes) h)
