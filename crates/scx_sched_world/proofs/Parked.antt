-- Who is parked once tasks have come to queues and left them, and as time goes by.
use Rattle.std.proofs.Common.{◌≡◌, ℕ, ◌<◌, ◌≤◌, ◌⊎◌, inl, inr, Bool, true, false, ◌&&◌, cond, List, length, get_or, set, Option, Some, None, is_some, is_none, IfNone, nat_lt, option_map, refl, sym, ◌∙◌, ap, arith}
use Rattle.std.proofs.lemmas.Bool.{cases_eq, cases_lt, lt-ltb, and_parts}
use Rattle.std.proofs.lemmas.List.{get_or-set_same, get_or-set_other, get_or_past, set_past}
use Rattle.scx_dsq.specs.declared.entries.Entry.{Entry}
use Rattle.scx_dsq.specs.declared.entries.Rank.{Rank}
use Rattle.scx_dsq.specs.declared.entries.Rank.TheVariants.{Fifo}
use Rattle.scx_dsq.specs.Queues.{QueueState, Waits, task_count, entry_of, queue_of, front_of}
use Rattle.scx_dsq.specs.Calls.{create_refusal, with_queue, after_create, push_refusal, next_entry, with_task as with_place, after_push, without_task, after_remove, without, after_pop}
use Rattle.scx_weights.specs.Hierarchy.{Hierarchy, with_task}
use Rattle.scx_weights.specs.Limits.{is_throttled_group, is_throttled, begins_period, with_use, with_uses, with_turn, is_freed, frees}
use Rattle.scx_weights.proofs.Counting.{none_below_at}
use Rattle.scx_weights.proofs.Throttled.{there, uses_keep_throttled, many_keep_throttled, clocks_keep_throttled}
use Rattle.scx_sched_world.specs.Ids.{parked_queue}
use Rattle.scx_sched_world.specs.World as world
use Rattle.scx_sched_world.specs.World.{WorldState}
use Rattle.scx_sched_world.specs.Kept.{AreThrottled, StaysParked, NobodyIsFree}

-- ---- queues

-- once one entry was set, another's is as before, or it is that one
set_either : (xs : List (Option Entry)) (t u : ℕ) (x : Option Entry) → (get_or (set xs t x) u None ≡ x) ⊎ (get_or (set xs t x) u None ≡ get_or xs u None)
set_either xs t u x = go (cases_eq u t) (cases_lt t (length xs))
  where
    go : (u ≡ t) ⊎ (u ≡ t → ⊥) → (t < length xs) ⊎ (length xs ≤ t) → (get_or (set xs t x) u None ≡ x) ⊎ (get_or (set xs t x) u None ≡ get_or xs u None)
    go (inl e) (inl l) = inl (ap (λ k. get_or (set xs t x) k None) e ∙ get_or-set_same xs t x None l)
    go (inl e) (inr past) = inr (ap (λ (ys : List (Option Entry)). get_or ys u None) (set_past xs t x past))
    go (inr d) l = inr (get_or-set_other xs t u x None d)

same_some : (a b : ℕ) → Some a ≡ Some b → a ≡ b
same_some a b e = cc

-- who is parked after a push to another queue was before
parked_pushed : (s : QueueState) (q t u : ℕ) (r : Rank) → (q ≡ parked_queue → ⊥) → queue_of (after_push s q t r) u ≡ Some parked_queue → queue_of s u ≡ Some parked_queue
parked_pushed s q t u r apart e = go (is_none (push_refusal s q t r)) e
  where
    new : Option Entry
    new = Some (next_entry s q r)

    either : (get_or (set s.entries t new) u None ≡ new) ⊎ (get_or (set s.entries t new) u None ≡ get_or s.entries u None) → queue_of (with_place s q t r) u ≡ Some parked_queue → queue_of s u ≡ Some parked_queue
    either (inl x) y = absurd (apart (same_some q parked_queue (sym (ap (λ (o : Option Entry). option_map (λ p. p.queue) o) x) ∙ y)))
    either (inr x) y = sym (ap (λ (o : Option Entry). option_map (λ p. p.queue) o) x) ∙ y

    go : (b : Bool) → queue_of (cond b (with_place s q t r) s) u ≡ Some parked_queue → queue_of s u ≡ Some parked_queue
    go true y = either (set_either s.entries t u new) y
    go false y = y

-- after a task has left
parked_without : (s : QueueState) (t u : ℕ) → queue_of (without_task s t) u ≡ Some parked_queue → queue_of s u ≡ Some parked_queue
parked_without s t u e = go (set_either s.entries t u None) e
  where
    go : (get_or (set s.entries t None) u None ≡ None) ⊎ (get_or (set s.entries t None) u None ≡ get_or s.entries u None) → queue_of (without_task s t) u ≡ Some parked_queue → queue_of s u ≡ Some parked_queue
    go (inl x) y = let bad : None ≡ Some parked_queue = sym (ap (λ (o : Option Entry). option_map (λ p. p.queue) o) x) ∙ y in absurd (cc)
    go (inr x) y = sym (ap (λ (o : Option Entry). option_map (λ p. p.queue) o) x) ∙ y

-- ---- that who is parked is throttled, if it is known

abbrev IsKnown : Bool → QueueState → Hierarchy → Type 0
IsKnown known queues tree = known ≡ true → AreThrottled queues tree

-- if it is known that the parked are throttled, it stays so after a push to another queue
pub known_pushed : (known : Bool) (s : QueueState) (tree : Hierarchy) (q t : ℕ) (r : Rank) → (q ≡ parked_queue → ⊥) → (known ≡ true → AreThrottled s tree) → known ≡ true → AreThrottled (after_push s q t r) tree
known_pushed known s tree q t r apart h k u e = h k u (parked_pushed s q t u r apart e)

-- a task that is parked is throttled
pub known_parked : (known : Bool) (s : QueueState) (tree : Hierarchy) (t : ℕ) → is_throttled tree t ≡ true → (known ≡ true → AreThrottled s tree) → known ≡ true → AreThrottled (after_push s parked_queue t Fifo) tree
known_parked known s tree t now h k u e = go (cases_eq u t)
  where
    other : (b : Bool) → (u ≡ t → ⊥) → queue_of (cond b (with_place s parked_queue t Fifo) s) u ≡ Some parked_queue → queue_of s u ≡ Some parked_queue
    other true d y = sym (ap (λ (o : Option Entry). option_map (λ p. p.queue) o) (get_or-set_other s.entries t u (Some (next_entry s parked_queue Fifo)) None d)) ∙ y
    other false d y = y

    go : (u ≡ t) ⊎ (u ≡ t → ⊥) → is_throttled tree u ≡ true
    go (inl x) = ap (λ j. is_throttled tree j) x ∙ now
    go (inr d) = h k u (other (is_none (push_refusal s parked_queue t Fifo)) d e)

-- if it is known that the parked are throttled, it stays so after a task has left its queue
pub known_removed : (known : Bool) (s : QueueState) (tree : Hierarchy) (t : ℕ) → (known ≡ true → AreThrottled s tree) → known ≡ true → AreThrottled (after_remove s t) tree
known_removed known s tree t h k u e = h k u (go (is_some (entry_of s t)) e)
  where
    go : (b : Bool) → queue_of (cond b (without_task s t) s) u ≡ Some parked_queue → queue_of s u ≡ Some parked_queue
    go true y = parked_without s t u y
    go false y = y

-- if it is known that the parked are throttled, it stays so after a front has left its queue
pub known_popped : (known : Bool) (s : QueueState) (tree : Hierarchy) (q : ℕ) → (known ≡ true → AreThrottled s tree) → known ≡ true → AreThrottled (after_pop s q) tree
known_popped known s tree q h k u e = h k u (go (front_of s q) e)
  where
    go : (o : Option ℕ) → queue_of (without s o) u ≡ Some parked_queue → queue_of s u ≡ Some parked_queue
    go None y = y
    go (Some t) y = parked_without s t u y

-- if it is known that the parked are throttled, it stays so after a queue was created
pub known_created : (known : Bool) (s : QueueState) (tree : Hierarchy) (q : ℕ) → (known ≡ true → AreThrottled s tree) → known ≡ true → AreThrottled (after_create s q) tree
known_created known s tree q h k u e = h k u (go (is_none (create_refusal s q)) e)
  where
    go : (b : Bool) → queue_of (cond b (with_queue s q) s) u ≡ Some parked_queue → queue_of s u ≡ Some parked_queue
    go true y = y
    go false y = y

-- ---- as time goes by

-- whether a task is active decides nothing
pub known_active : (known : Bool) (s : QueueState) (tree : Hierarchy) (t : ℕ) (on : Bool) → (known ≡ true → AreThrottled s tree) → known ≡ true → AreThrottled s (with_task tree t on)
known_active known s tree t on h k u e = h k u e

-- if it is known that the parked are throttled, it stays so after groups have used more time
pub known_used : (known : Bool) (s : QueueState) (tree : Hierarchy) (t : ℕ) → (known ≡ true → AreThrottled s tree) → known ≡ true → AreThrottled s (with_use tree t)
known_used known s tree t h k u e = uses_keep_throttled tree u t (h k u e)

pub known_used_for : (known : Bool) (s : QueueState) (tree : Hierarchy) (t n : ℕ) → (known ≡ true → AreThrottled s tree) → known ≡ true → AreThrottled s (with_uses tree t n)
known_used_for known s tree t n h k u e = many_keep_throttled tree u t n (h k u e)

-- if it is known that the parked are throttled, it stays so at a clock at which no group is freed
pub known_turned : (known : Bool) (s : QueueState) (tree : Hierarchy) (clock : ℕ)
    → frees tree clock ≡ false
    → (known ≡ true → AreThrottled s tree) → known ≡ true → AreThrottled s (with_turn tree clock)
known_turned known s tree clock none h k u e = clocks_keep_throttled tree u clock still (h k u e)
  where
    and_of : (a b : Bool) → a ≡ true → (a && b) ≡ false → b ≡ false
    and_of true b was both = both
    and_of false b was both = absurd (cc)

    still : (g : ℕ) → is_throttled_group tree g ≡ true → begins_period tree g clock ≡ false
    still g was =
        and_of (is_throttled_group tree g) (begins_period tree g clock) was
        (none_below_at (length tree.groups) g (λ j. is_freed tree clock j) none (there tree g was))

-- ---- what is known of each task

-- who is no task isn't parked
none_past : (s : QueueState) (t : ℕ) → task_count s ≤ t → queue_of s t ≡ Some parked_queue → ⊥
none_past s t past e = let none : None ≡ Some parked_queue = sym (ap (λ (o : Option Entry). option_map (λ p. p.queue) o) (get_or_past s.entries t None past)) ∙ e in absurd (cc)

-- where all who are parked are throttled, nobody who is parked may run
pub none_free : (w : WorldState) → task_count w.queues ≡ length w.tasks → AreThrottled w.queues w.tree → NobodyIsFree w
none_free w same h t e = go (cases_lt t (length w.tasks))
  where
    go : (t < length w.tasks) ⊎ (length w.tasks ≤ t) → world.is_throttled w t ≡ true
    go (inl l) = ap (λ b. b && is_throttled w.tree t) (lt-ltb t (length w.tasks) l) ∙ h t e
    go (inr past) = absurd (none_past w.queues t (omega (arith, same, past)) e)

-- where each task may not run if it is parked, all who are parked are throttled
pub all_looked_at : (w : WorldState) → task_count w.queues ≡ length w.tasks
    → ((t : ℕ) → t < length w.tasks → StaysParked w t) → AreThrottled w.queues w.tree
all_looked_at w same h t e = go (cases_lt t (length w.tasks))
  where
    go : (t < length w.tasks) ⊎ (length w.tasks ≤ t) → is_throttled w.tree t ≡ true
    go (inl l) = (and_parts (nat_lt t (length w.tasks)) (is_throttled w.tree t) (h t l e)).1
    go (inr past) = absurd (none_past w.queues t (omega (arith, same, past)) e)

-- where nobody is parked nobody is who may run again
pub nobody_parked : (w : WorldState) (o : Option ℕ) → IfNone o ((t : ℕ) (p : Entry) → Waits w.queues parked_queue t p → ⊥) → is_some o ≡ false → NobodyIsFree w
nobody_parked w (Some x) none e t here = absurd (cc)
nobody_parked w None none e t here = absurd (go (entry_of w.queues t) refl here)
  where
    is : (a b : ℕ) → Some a ≡ Some b → a ≡ b
    is a b y = cc

    go : (o : Option Entry) → entry_of w.queues t ≡ o → option_map (λ p. p.queue) o ≡ Some parked_queue → ⊥
    go None x y = absurd (cc)
    go (Some p) x y = none t p (x, is p.queue parked_queue y)
