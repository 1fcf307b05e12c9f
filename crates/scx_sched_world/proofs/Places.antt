-- Where the machine's own queues stand: at first, and after each call.
use Rattle.std.proofs.Common.{◌≡◌, ℕ, zero, suc, ◌+◌, ◌<◌, ◌≤◌, ◌⊎◌, inl, inr, Bool, true, false, ◌==◌, cond, if◌then◌else◌, nat_le, List, [], ◌∷◌, ◌++◌, take, length, get_or, set, Option, Some, None, is_some, is_none, refl, sym, ap, ◌∙◌, arith}
use Rattle.std.specs.List.{list_any}
use Rattle.std.proofs.lemmas.Bool.{cases_eq, lt-ltb, lt-leb, ne_eqb}
use Rattle.std.proofs.Math.Bool.{and-false}
use Rattle.std.proofs.lemmas.List.Folds.{list_any-append}
use Rattle.std.proofs.lemmas.List.{length-set, length-append, length-take, get_or_append_left, get_or_push, get_or-take, take-append-le, take_all}
use Rattle.scx_dsq.specs.declared.entries.Rank.{Rank}
use Rattle.scx_dsq.specs.Queues.{QueueState, IsQueueAt, exists, entry_of, front_of}
use Rattle.scx_dsq.specs.Calls.{clashes, create_refusal, with_queue, after_create, push_refusal, with_task, after_push, without_task, after_remove, without, after_pop, empty}
use Rattle.scx_sched_world.specs.Ids.{policy_end, global, held_queue, builtin_queue, parked_queue, local_on}
use Rattle.scx_sched_world.specs.First.{with_locals, own_queues, first_queues}
use Rattle.scx_sched_world.specs.World.{WorldState}
use Rattle.scx_sched_world.specs.declared.faults.Fault.TheVariants.{Mixed, NoSuchQueue}
use Rattle.scx_sched_world.specs.Helpers.{is_vtime, queue_fault, rank_fault, or_fault}
use Rattle.scx_sched_world.specs.Kept.{own_ids, StandFirst}

-- ---- the own ids

length_own : (n : ℕ) → length (own_ids n) ≡ 4 + n
length_own zero = refl
length_own (suc n) = length-append (own_ids n) (local_on n ∷ []) ∙ omega (arith, length_own n)

-- what stands among the first four
own_first : (n k id : ℕ) → k < 4 → ((d : ℕ) → get_or (own_ids 0) k d ≡ id) → (d : ℕ) → get_or (own_ids n) k d ≡ id
own_first zero k id l at d = at d
own_first (suc n) k id l at d = get_or_append_left (own_ids n) (local_on n ∷ []) d k (omega (arith, l, length_own n)) ∙ own_first n k id l at d

-- and behind them
own_local : (n c d : ℕ) → c < n → get_or (own_ids n) (4 + c) d ≡ local_on c
own_local zero c d l = absurd (omega (arith, l))
own_local (suc n) c d l = go (cases_eq c n) (λ m. own_local n c d m)
  where
    go : (c ≡ n) ⊎ (c ≡ n → ⊥) → (c < n → get_or (own_ids n) (4 + c) d ≡ local_on c) → get_or (own_ids n ++ local_on n ∷ []) (4 + c) d ≡ local_on c
    go (inl e) f = rw e (get_or_push (own_ids n) (local_on n) d (4 + n) (length_own n))
    go (inr apart) f = get_or_append_left (own_ids n) (local_on n ∷ []) d (4 + c) (omega (arith, l, apart, length_own n)) ∙ f (omega (arith, l, apart))

none_of_four : (f : ℕ → Bool) (a b c d : ℕ) → f a ≡ false → f b ≡ false → f c ≡ false → f d ≡ false → list_any f (a ∷ b ∷ c ∷ d ∷ []) ≡ false
none_of_four f a b c d e g h i = rw (e, g, h, i) refl

none_more : (f : ℕ → Bool) (xs : List ℕ) (y : ℕ) → list_any f xs ≡ false → f y ≡ false → list_any f (xs ++ y ∷ []) ≡ false
none_more f xs y e g = list_any-append f xs (y ∷ []) ∙ rw (e, g) refl

-- no local queue that isn't there is among them
no_local : (n c : ℕ) → n ≤ c → list_any (λ other. other == local_on c) (own_ids n) ≡ false
no_local zero c l =
    none_of_four (λ other. other == local_on c) global held_queue builtin_queue parked_queue
    (ne_eqb global (local_on c) (λ x. omega (arith, x)))
    (ne_eqb held_queue (local_on c) (λ x. omega (arith, x)))
    (ne_eqb builtin_queue (local_on c) (λ x. omega (arith, x)))
    (ne_eqb parked_queue (local_on c) (λ x. omega (arith, x)))
no_local (suc n) c l =
    none_more (λ other. other == local_on c) (own_ids n) (local_on n) (no_local n c (omega (arith, l))) (ne_eqb (local_on n) (local_on c) (λ x. omega (arith, x, l)))

-- ---- where they stand

stands : (s : QueueState) (n k id : ℕ) → StandFirst s n → k < 4 + n → ((d : ℕ) → get_or (own_ids n) k d ≡ id) → IsQueueAt s k id
stands s n k id h l at = (omega (arith, l, long, length-take (4 + n) s.ids), λ d. sym (get_or-take (4 + n) s.ids k d l) ∙ ap (λ xs. get_or xs k d) h ∙ at d)
  where
    long : length (take (4 + n) s.ids) ≡ 4 + n
    long = ap length h ∙ length_own n

-- the queue of all processors
pub global_stands : (s : QueueState) (n : ℕ) → StandFirst s n → IsQueueAt s 0 global
global_stands s n h = stands s n 0 global h (omega arith) (own_first n 0 global (omega arith) (λ d. refl))

-- the queue of the parked
pub parked_stands : (s : QueueState) (n : ℕ) → StandFirst s n → IsQueueAt s 3 parked_queue
parked_stands s n h = stands s n 3 parked_queue h (omega arith) (own_first n 3 parked_queue (omega arith) (λ d. refl))

-- the local queue of a processor that there is
pub local_stands : (s : QueueState) (n c : ℕ) → StandFirst s n → c < n → IsQueueAt s (4 + c) (local_on c)
local_stands s n c h l = stands s n (4 + c) (local_on c) h (omega (arith, l)) (λ d. own_local n c d l)

-- ---- after each call

-- a push leaves the queues where they stand
pub pushed : (s : QueueState) (k q t : ℕ) (r : Rank) → take k (after_push s q t r).ids ≡ take k s.ids
pushed s k q t r = go (is_none (push_refusal s q t r))
  where
    go : (b : Bool) → take k (cond b (with_task s q t r) s).ids ≡ take k s.ids
    go true = refl
    go false = refl

-- a removal too
pub removed : (s : QueueState) (k t : ℕ) → take k (after_remove s t).ids ≡ take k s.ids
removed s k t = go (is_some (entry_of s t))
  where
    go : (b : Bool) → take k (cond b (without_task s t) s).ids ≡ take k s.ids
    go true = refl
    go false = refl

-- a pop too
pub popped : (s : QueueState) (k q : ℕ) → take k (after_pop s q).ids ≡ take k s.ids
popped s k q = go (front_of s q)
  where
    go : (o : Option ℕ) → take k (without s o).ids ≡ take k s.ids
    go None = refl
    go (Some t) = refl

-- a new queue comes behind them
pub created : (s : QueueState) (n q : ℕ) → StandFirst s n → StandFirst (after_create s q) n
created s n q h = go (is_none (create_refusal s q))
  where
    long : 4 + n ≤ length s.ids
    long = let all : length (take (4 + n) s.ids) ≡ 4 + n = ap length h ∙ length_own n in omega (arith, all, length-take (4 + n) s.ids)

    go : (b : Bool) → take (4 + n) (cond b (with_queue s q) s).ids ≡ own_ids n
    go true = take-append-le (4 + n) s.ids (q ∷ []) long ∙ h
    go false = h

-- as many processors have their queues where another task runs
pub cpu_set : (s : QueueState) (cpus : List (Option ℕ)) (c : ℕ) (o : Option ℕ) → StandFirst s (length cpus) → StandFirst s (length (set cpus c o))
cpu_set s cpus c o h = rw (length-set cpus c o) h

-- ---- at first

-- a queue of a new id is created where there is room
accepted : (s : QueueState) (id : ℕ) → exists s id ≡ false → length s.ids < s.room → create_refusal s id ≡ None
accepted s id new l = rw (new, past) refl
  where
    past : nat_le s.room (length s.ids) ≡ false
    past = lt-leb s.room (length s.ids) l

with_accepted : (s : QueueState) (id : ℕ) → exists s id ≡ false → length s.ids < s.room → after_create s id ≡ with_queue s id
with_accepted s id new l = rw (accepted s id new l) refl

-- the first four queues
four : (cpus tasks : ℕ) → own_queues cpus tasks ≡ record (empty (20 + cpus) tasks) { ids = global ∷ held_queue ∷ builtin_queue ∷ parked_queue ∷ [] }
four cpus tasks =
    let none = empty (20 + cpus) tasks in
    let one = with_queue none global in
    let two = with_queue one held_queue in
    let three = with_queue two builtin_queue in
    ap (λ s. after_create (after_create (after_create s held_queue) builtin_queue) parked_queue) (with_accepted none global refl (omega arith))
    ∙ ap (λ s. after_create (after_create s builtin_queue) parked_queue) (with_accepted one held_queue refl (omega arith))
    ∙ ap (λ s. after_create s parked_queue) (with_accepted two builtin_queue refl (omega arith))
    ∙ with_accepted three parked_queue refl (omega arith)

-- so many local queues were created
made : (n cpus tasks : ℕ) → n ≤ cpus → with_locals n (own_queues cpus tasks) ≡ record (empty (20 + cpus) tasks) { ids = own_ids n }
made zero cpus tasks l = four cpus tasks
made (suc n) cpus tasks l =
    ap (λ s. after_create s (local_on n)) (made n cpus tasks (omega (arith, l)))
    ∙ with_accepted (record (empty (20 + cpus) tasks) { ids = own_ids n }) (local_on n) (no_local n n (omega arith)) (omega (arith, l, length_own n))

-- the queues that are made at first stand so
pub at_first : (cpus tasks : ℕ) → StandFirst (first_queues cpus tasks) cpus
at_first cpus tasks =
    ap (λ (s : QueueState). take (4 + cpus) s.ids) (made cpus cpus tasks (omega arith))
    ∙ take_all (4 + cpus) (own_ids cpus) (omega (arith, length_own cpus))

-- ---- into a queue of the policy

-- what is wrong with an insert there is told by the queue alone
pub of_policy : (w : WorldState) (q : ℕ) (r : Rank) → q < policy_end → or_fault (queue_fault w q) (rank_fault w q r) ≡ (if exists w.queues q then (if list_any (clashes q r) w.queues.entries then Some Mixed else None) else Some NoSuchQueue)
of_policy w q r l = rw (lt-ltb q policy_end l, lt-leb policy_end q l, and-false (is_vtime r)) (go (exists w.queues q))
  where
    go : (b : Bool) → or_fault (if b then None else Some NoSuchQueue) (if list_any (clashes q r) w.queues.entries then Some Mixed else None) ≡ (if b then (if list_any (clashes q r) w.queues.entries then Some Mixed else None) else Some NoSuchQueue)
    go true = refl
    go false = refl
