-- Who has a wait is in a queue, or is the task at hand: how each small step of a world keeps that.
use Rattle.std.proofs.Common.{◌≡◌, ℕ, ◌+◌, ◌<◌, ◌≤◌, Bool, true, false, ◌==◌, ◌||◌, ◌⊎◌, inl, inr, List, length, set, get_or, Option, Some, None, is_some, is_none, option_map, not, if◌then◌else◌, refl, sym, ap, ◌∙◌, arith}
use Rattle.std.proofs.lemmas.Bool.{cases_eq, eq-eqb, ne_eqb}
use Rattle.std.proofs.lemmas.List.{get_or-set_same, get_or-set_other}
use Rattle.scx_dsq.specs.Queues.{QueueState, task_count, entry_of, queue_of}
use Rattle.scx_dsq.specs.Calls.{push_refusal, next_entry, with_task as with_place, without_task, after_push, after_remove}
use Rattle.scx_dsq.specs.declared.entries.Entry.{Entry}
use Rattle.scx_dsq.specs.Laws.{one_if, standing}
use Rattle.scx_dsq.specs.declared.entries.Rank.{Rank}
use Rattle.scx_isa_semantics.specs.declared.host_tables.Field.{Field}
use Rattle.scx_sched_tasks.specs.declared.task.Task.{Task}
use Rattle.scx_sched_tasks.specs.Tasks.{no_task}
use Rattle.scx_sched_world.specs.declared.call.Insert.{Insert}
use Rattle.scx_sched_world.specs.Ids.{parked_queue}
use Rattle.scx_sched_world.specs.World.{WorldState, waits_in, with_queues, with_task, task_at, waits, is_this, is_runnable}
use Rattle.scx_sched_world.specs.Tasks.{task_after_insert, with_new_slice}
use Rattle.scx_sched_world.specs.Helpers.{stored_in}
use Rattle.scx_sched_machine.proofs.Choices.{keeps_if}
use Rattle.scx_sched.specs.Waits.{HasWaits}
use Rattle.scx_sched.specs.Once.{IsOnce}
use Rattle.scx_sched.proofs.Entering.{one_le, nowhere}
use Rattle.scx_sched.proofs.Written.{each_written}
use Rattle.scx_sched.proofs.Queries.{given_so, stored_so}

-- ---- truth values that are counted

-- two tests that count as the same number have the same answer
pub one_same : (a b : Bool) → one_if a ≡ one_if b → a ≡ b
one_same true true e = refl
one_same true false e = absurd (omega (arith, e))
one_same false true e = absurd (omega (arith, e))
one_same false false e = refl

or_sum : (a b c : Bool) → one_if b + one_if c ≤ 1 → a ≡ (b || c) → one_if a ≡ one_if b + one_if c
or_sum a true true l e = absurd (omega (arith, l))
or_sum a true false l e = rw e refl
or_sum a false true l e = rw e refl
or_sum a false false l e = rw e refl

sum_or : (a b c : Bool) → one_if a ≡ one_if b + one_if c → a ≡ (b || c)
sum_or true true c e = refl
sum_or true false true e = refl
sum_or true false false e = absurd (omega (arith, e))
sum_or false true c e = absurd (omega (arith, e))
sum_or false false true e = absurd (omega (arith, e))
sum_or false false false e = refl

or_true : (b : Bool) → true ≡ (b || true)
or_true true = refl
or_true false = refl

-- ---- who waits, as queues change

-- in how many queues a task waits: in one or none
abbrev pub waiting : QueueState → ℕ → ℕ
waiting s u = one_if (waits_in (queue_of s u))

-- who waits stands in a queue
pub waits_stands : (s : QueueState) (u : ℕ) → waiting s u ≤ standing s u
waits_stands s u = go (entry_of s u)
  where
    go : (o : Option Entry) → one_if (waits_in (option_map (λ p. p.queue) o)) ≤ one_if (is_some o)
    go None = omega arith
    go (Some p) = one_le (not (p.queue == parked_queue))

-- a task that waits has an entry
pub waits_there : (s : QueueState) (u : ℕ) → waits_in (queue_of s u) ≡ true → is_some (entry_of s u) ≡ true
waits_there s u e = go (entry_of s u) e
  where
    go : (o : Option Entry) → waits_in (option_map (λ p. p.queue) o) ≡ true → is_some o ≡ true
    go None x = absurd (cc)
    go (Some p) x = refl

-- a push leaves the entries of other tasks as they are
pub pushed_other : (s : QueueState) (q t u : ℕ) (r : Rank) → (u ≡ t → ⊥) → entry_of (after_push s q t r) u ≡ entry_of s u
pushed_other s q t u r other = go (is_none (push_refusal s q t r))
  where
    go : (b : Bool) → entry_of (if b then with_place s q t r else s) u ≡ entry_of s u
    go true = get_or-set_other {A = Option Entry} s.entries t u (Some (next_entry s q r)) None other
    go false = refl

-- a task whose push is accepted is in that queue then
pub pushed_here : (s : QueueState) (q t : ℕ) (r : Rank) → t < task_count s → push_refusal s q t r ≡ None → queue_of (after_push s q t r) t ≡ Some q
pushed_here s q t r within ok = rw (ok, get_or-set_same {A = Option Entry} s.entries t (Some (next_entry s q r)) None within) refl

-- a task without its entry leaves those of other tasks as they are
pub without_other : (s : QueueState) (t u : ℕ) → (u ≡ t → ⊥) → entry_of (without_task s t) u ≡ entry_of s u
without_other s t u other = get_or-set_other {A = Option Entry} s.entries t u None None other

-- a task that leaves its queue leaves the entries of other tasks as they are
pub removed_other : (s : QueueState) (t u : ℕ) → (u ≡ t → ⊥) → entry_of (after_remove s t) u ≡ entry_of s u
removed_other s t u other = keeps_if (λ (x : QueueState). entry_of x u ≡ entry_of s u) (is_some (entry_of s t)) (without_task s t) s (without_other s t u other) refl

-- a task whose entry stays the same waits as it did
pub same_waiting : (s s' : QueueState) (u : ℕ) → entry_of s' u ≡ entry_of s u → waiting s' u ≡ waiting s u
same_waiting s s' u e = ap (λ (o : Option Entry). one_if (waits_in (option_map (λ p. p.queue) o))) e

-- a task that stood nowhere waits where it is put
pub waiting_pushed : (s : QueueState) (q t u : ℕ) (r : Rank) → t < task_count s → push_refusal s q t r ≡ None → entry_of s t ≡ None → (q == parked_queue) ≡ false → waiting (after_push s q t r) u ≡ waiting s u + one_if (u == t)
waiting_pushed s q t u r within ok free apart = go (cases_eq u t)
  where
    none : waiting s t ≡ 0
    none = rw free refl

    one : waiting (after_push s q t r) t ≡ 1
    one = ap (λ (o : Option ℕ). one_if (waits_in o)) (pushed_here s q t r within ok) ∙ ap (λ b. one_if (not b)) apart

    go : (u ≡ t) ⊎ (u ≡ t → ⊥) → waiting (after_push s q t r) u ≡ waiting s u + one_if (u == t)
    go (inl e) = rw (e, eq-eqb t t refl) (omega (arith, none, one))
    go (inr d) = omega (arith, same_waiting s (after_push s q t r) u (pushed_other s q t u r d), ap one_if (ne_eqb u t d))

-- one that waited is taken out
pub waiting_left : (s s' : QueueState) (t u : ℕ) → waiting s t ≡ 1 → entry_of s' t ≡ None → ((k : ℕ) → (k ≡ t → ⊥) → entry_of s' k ≡ entry_of s k) → waiting s' u + one_if (u == t) ≡ waiting s u
waiting_left s s' t u one gone others = go (cases_eq u t)
  where
    none : waiting s' t ≡ 0
    none = rw gone refl

    go : (u ≡ t) ⊎ (u ≡ t → ⊥) → waiting s' u + one_if (u == t) ≡ waiting s u
    go (inl e) = rw (e, eq-eqb t t refl) (omega (arith, none, one))
    go (inr d) = omega (arith, same_waiting s s' u (others u d), ap one_if (ne_eqb u t d))

-- a task of a queue waits, if that isn't the queue of parked tasks
pub place_waits_here : (s : QueueState) (q t : ℕ) → queue_of s t ≡ Some q → (q == parked_queue) ≡ false → waiting s t ≡ 1
place_waits_here s q t e apart = ap (λ (o : Option ℕ). one_if (waits_in o)) e ∙ ap (λ b. one_if (not b)) apart

-- ---- the wait of one task

-- a wait, counted; where it is counted so for each task, each has its wait
pub waits_sum : (hand : Option ℕ) (w : WorldState) → IsOnce hand w → HasWaits hand w → (u : ℕ) → one_if (is_some (task_at w u).since) ≡ waiting w.queues u + one_if (is_this u hand)
waits_sum hand w once h u = or_sum (is_some (task_at w u).since) (waits w u) (is_this u hand) (omega (arith, once u, one_le (is_runnable w u), waits_stands w.queues u)) (h u)

-- and back
pub waits_by_sum : (hand : Option ℕ) (w : WorldState) → ((u : ℕ) → one_if (is_some (task_at w u).since) ≡ waiting w.queues u + one_if (is_this u hand)) → HasWaits hand w
waits_by_sum hand w h u = sum_or (is_some (task_at w u).since) (waits w u) (is_this u hand) (h u)

-- ---- another record of a task, whose wait goes on

-- each wait goes on
pub since_set : (tasks : List Task) (t : ℕ) (x : Task) → x.since ≡ (get_or tasks t no_task).since → (u : ℕ) → (get_or (set tasks t x) u no_task).since ≡ (get_or tasks u no_task).since
since_set tasks t x same u = each_written (λ k (y : Task). y.since ≡ (get_or tasks k no_task).since) tasks t x no_task same (λ k. refl) u

-- a field that a program stores
pub stored_since : (x : Task) (f : Field) (k : ℕ) → (stored_in x f k).since ≡ x.since
stored_since x f k = stored_so x (λ y. y.since ≡ x.since) (λ s v. refl) f k

-- an insert
pub given_since : (x : Task) (i : Insert) → (task_after_insert x i).since ≡ x.since
given_since x i = given_so x (λ y. y.since ≡ x.since) (λ s v. refl) i

-- a slice
pub renewed_since : (x : Task) → (with_new_slice x).since ≡ x.since
renewed_since x = keeps_if (λ (y : Task). y.since ≡ x.since) (x.slice == 0) _ x refl refl

-- ---- a task that begins to wait, or waits no more

-- waits are counted still as one task's record and queue change, if they are for it and all others
pub set_since : (w : WorldState) (s : QueueState) (hand hand' : Option ℕ) (t : ℕ) (x : Task) → t < length w.tasks → is_some x.since ≡ (waits_in (queue_of s t) || is_this t hand')
    → ((u : ℕ) → (u ≡ t → ⊥) → (waits w u || is_this u hand) ≡ (waits_in (queue_of s u) || is_this u hand')) → HasWaits hand w → HasWaits hand' (with_queues (with_task w t x) s)
set_since w s hand hand' t x within new others h u = go (cases_eq u t)
  where
    go : (u ≡ t) ⊎ (u ≡ t → ⊥) → is_some (get_or (set w.tasks t x) u no_task).since ≡ (waits_in (queue_of s u) || is_this u hand')
    go (inl e) = rw (e, get_or-set_same w.tasks t x no_task within) new
    go (inr d) = rw (get_or-set_other w.tasks t u x no_task d) (h u ∙ others u d)

-- a task that comes to hand
pub waits_at_hand : (w : WorldState) (t now : ℕ) (x : Task) → t < length w.tasks → x.since ≡ Some now → HasWaits None w → HasWaits (Some t) (with_task w t x)
waits_at_hand w t now x within since h = set_since w w.queues None (Some t) t x within (rw (since, eq-eqb t t refl) (or_true (waits w t))) (λ u d. rw (ne_eqb u t d) refl) h

-- one that was at hand, and sleeps
pub waits_asleep : (w : WorldState) (t : ℕ) (x : Task) → t < length w.tasks → x.since ≡ None → IsOnce (Some t) w → HasWaits (Some t) w → HasWaits None (with_task w t x)
waits_asleep w t x within since once h = set_since w w.queues (Some t) None t x within (rw (since, nowhere w t once) refl) (λ u d. rw (ne_eqb u t d) refl) h

-- one that leaves its queue, and runs
pub waits_on_cpu : (w : WorldState) (s : QueueState) (t : ℕ) (x : Task) → t < length w.tasks → x.since ≡ None → entry_of s t ≡ None → ((u : ℕ) → (u ≡ t → ⊥) → entry_of s u ≡ entry_of w.queues u) → HasWaits None w
    → HasWaits None (with_queues (with_task w t x) s)
waits_on_cpu w s t x within since gone left h = set_since w s None None t x within (rw (since, gone) refl) others h
  where
    others : (u : ℕ) → (u ≡ t → ⊥) → (waits w u || false) ≡ (waits_in (queue_of s u) || false)
    others u d = ap (λ (o : Option Entry). waits_in (option_map (λ p. p.queue) o) || false) (sym (left u d))
