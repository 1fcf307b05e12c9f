-- What a call leaves as it was, for crates above too, and in how many queues
-- a task waits.
use Rattle.std.proofs.Common.{◌≡◌, ℕ, ◌+◌, ◌<◌, ◌≤◌, ◌∙◌, [], ◌∷◌, ◌++◌, Bool, true, false, ◌==◌, ◌⊎◌, inl, inr, not, if◌then◌else◌, is_none, length, set, Option, Some, None, is_some, IfSome, refl, sym, ap, arith}
use Rattle.std.specs.List.{list_any}
use Rattle.std.proofs.lemmas.Bool.{cases_eq, cases_lt, eq-eqb, ne_eqb}
use Rattle.std.proofs.lemmas.List.{get_or_append_left, get_or_push, length_push, length-set, get_or-set_same, get_or-set_other, get_or_past, set_past}
use Rattle.std.proofs.lemmas.List.Quantifiers.{position-Some}
use Rattle.scx_dsq.specs.declared.entries.Rank.{Rank}
use Rattle.scx_dsq.specs.declared.entries.Entry.{Entry}
use Rattle.scx_dsq.specs.declared.errors.QueueError.{QueueError}
use Rattle.scx_dsq.specs.declared.errors.QueueError.TheVariants.{NoSuchQueue, AlreadyThere, Mixed}
use Rattle.scx_dsq.specs.Queues.{Entries, QueueState, IsQueueAt, exists, task_count, entry_at, entry_of, is_first, front_of}
use Rattle.scx_dsq.specs.Calls.{clashes, create_refusal, with_queue, after_create, push_refusal, after_push, with_task, without, without_task, after_remove, next_entry}
use Rattle.scx_dsq.specs.Laws.{one_if, standing, PushAddsOne, PopTakesOne, RemovalTakesOne, OthersChangeNone}

-- ---- what a call leaves as it was

-- there are as many tasks after a queue is created
pub tasks_created : (s : QueueState) (id : ℕ) → task_count (after_create s id) ≡ task_count s
tasks_created s id = go (is_none (create_refusal s id))
  where
    go : (b : Bool) → task_count (if b then with_queue s id else s) ≡ task_count s
    go true = refl
    go false = refl

-- after a push
pub tasks_pushed : (s : QueueState) (id t : ℕ) (rank : Rank) → task_count (after_push s id t rank) ≡ task_count s
tasks_pushed s id t rank = go (is_none (push_refusal s id t rank))
  where
    go : (b : Bool) → task_count (if b then with_task s id t rank else s) ≡ task_count s
    go true = length-set s.entries t (Some (next_entry s id rank))
    go false = refl

-- after a task has left, if one does
pub tasks_without : (s : QueueState) (o : Option ℕ) → task_count (without s o) ≡ task_count s
tasks_without s None = refl
tasks_without s (Some t) = length-set {A = Option Entry} s.entries t None

-- after a removal
pub tasks_removed : (s : QueueState) (t : ℕ) → task_count (after_remove s t) ≡ task_count s
tasks_removed s t = go (is_some (entry_of s t))
  where
    go : (b : Bool) → task_count (if b then without_task s t else s) ≡ task_count s
    go true = length-set {A = Option Entry} s.entries t None
    go false = refl

-- there are the same queues after a push
pub ids_pushed : (s : QueueState) (id t : ℕ) (rank : Rank) → (after_push s id t rank).ids ≡ s.ids
ids_pushed s id t rank = go (is_none (push_refusal s id t rank))
  where
    go : (b : Bool) → (if b then with_task s id t rank else s).ids ≡ s.ids
    go true = refl
    go false = refl

-- after a task has left, if one does
pub ids_without : (s : QueueState) (o : Option ℕ) → (without s o).ids ≡ s.ids
ids_without s None = refl
ids_without s (Some t) = refl

-- after a removal
pub ids_removed : (s : QueueState) (t : ℕ) → (after_remove s t).ids ≡ s.ids
ids_removed s t = go (is_some (entry_of s t))
  where
    go : (b : Bool) → (if b then without_task s t else s).ids ≡ s.ids
    go true = refl
    go false = refl

-- as many pushes were accepted after a queue is created
pub pushes_created : (s : QueueState) (id : ℕ) → (after_create s id).pushes ≡ s.pushes
pushes_created s id = go (is_none (create_refusal s id))
  where
    go : (b : Bool) → (if b then with_queue s id else s).pushes ≡ s.pushes
    go true = refl
    go false = refl

-- one more at most after a push
pub pushes_pushed : (s : QueueState) (id t : ℕ) (rank : Rank) → (after_push s id t rank).pushes ≤ s.pushes + 1
pushes_pushed s id t rank = go (is_none (push_refusal s id t rank))
  where
    go : (b : Bool) → (if b then with_task s id t rank else s).pushes ≤ s.pushes + 1
    go true = omega arith
    go false = omega arith

-- as many after a task has left, if one does
pub pushes_without : (s : QueueState) (o : Option ℕ) → (without s o).pushes ≡ s.pushes
pushes_without s None = refl
pushes_without s (Some t) = refl

-- after a removal
pub pushes_removed : (s : QueueState) (t : ℕ) → (after_remove s t).pushes ≡ s.pushes
pushes_removed s t = go (is_some (entry_of s t))
  where
    go : (b : Bool) → (if b then without_task s t else s).pushes ≡ s.pushes
    go true = refl
    go false = refl

-- ---- where the queues stand

-- a queue stands where it stood, if there are the same queues
pub stands_still : (s t : QueueState) (k id : ℕ) → t.ids ≡ s.ids → IsQueueAt s k id → IsQueueAt t k id
stands_still s t k id same at = rw same at

-- and after another one is created
pub stands_created : (s : QueueState) (id k other : ℕ) → IsQueueAt s k other → IsQueueAt (after_create s id) k other
stands_created s id k other at = go (is_none (create_refusal s id))
  where
    behind : k < length (s.ids ++ id ∷ [])
    behind = let within = at.0 in omega (arith, within, length_push s.ids id)

    go : (b : Bool) → IsQueueAt (if b then with_queue s id else s) k other
    go true = (behind, λ d. get_or_append_left s.ids (id ∷ []) d k at.0 ∙ at.1 d)
    go false = at

-- the new one stands last
pub stands_last : (s : QueueState) (id : ℕ) → create_refusal s id ≡ None → IsQueueAt (after_create s id) (length s.ids) id
stands_last s id accepted = rw accepted (omega (arith, length_push s.ids id), λ d. get_or_push s.ids id d (length s.ids) refl)

-- ---- who waits

-- a push is accepted for a task that waits nowhere
pub free_from : (s : QueueState) (id t : ℕ) (rank : Rank) → push_refusal s id t rank ≡ None → entry_of s t ≡ None
free_from s id t rank e = go (exists s id) (entry_of s t) e
  where
    go : (b : Bool) (o : Option Entry) → (if not b then Some NoSuchQueue else (if is_some o then Some AlreadyThere else (if list_any (clashes id rank) s.entries then Some Mixed else None))) ≡ None → o ≡ None
    go false o e = absurd (cc)
    go true None e = refl
    go true (Some p) e = absurd (cc)

-- the front waits in the queue
pub front_waits : (s : QueueState) (id t : ℕ) → front_of s id ≡ Some t → is_some (entry_of s t) ≡ true
unfolding front_of
front_waits s id t e = go (entry_of s t) (position-Some (is_first s.entries id) s.entries t None e).1
  where
    go : (o : Option Entry) → is_first s.entries id o ≡ true → is_some o ≡ true
    go None h = h
    go (Some p) h = refl

-- and is a task that there is
pub front_is_known : (s : QueueState) (id : ℕ) (o : Option ℕ) → o ≡ front_of s id → IfSome o (λ t. t < task_count s)
front_is_known s id None e = tt
front_is_known s id (Some t) e = go (cases_lt t (task_count s))
  where
    go : (t < task_count s) ⊎ (task_count s ≤ t) → t < task_count s
    go (inl within) = within
    go (inr past) =
        let waits = front_waits s id t (sym e) in
        let none : entry_of s t ≡ None = get_or_past {X = Option Entry} s.entries t None past in
        absurd (cc (ap is_some none))

-- ---- in how many queues a task waits

-- the law of pushes
pub standing_pushed : PushAddsOne
standing_pushed s id t u rank within accepted = rw accepted (go (cases_eq u t))
  where
    new : Option Entry
    new = Some (next_entry s id rank)

    go : (u ≡ t) ⊎ (u ≡ t → ⊥) → one_if (is_some (entry_at (set s.entries t new) u)) ≡ standing s u + one_if (u == t)
    go (inl e) = rw (e, get_or-set_same s.entries t new None within, free_from s id t rank accepted, eq-eqb t t refl) (omega arith)
    go (inr n) = rw (get_or-set_other s.entries t u new None n, ne_eqb u t n) (omega arith)

nowhere_after : (entries : Entries) (t : ℕ) → entry_at (set entries t None) t ≡ None
nowhere_after entries t = go (cases_lt t (length entries))
  where
    go : (t < length entries) ⊎ (length entries ≤ t) → entry_at (set entries t None) t ≡ None
    go (inl within) = get_or-set_same {A = Option Entry} entries t None None within
    go (inr past) = rw (set_past {X = Option Entry} entries t None past) (get_or_past {X = Option Entry} entries t None past)

standing_without : (s : QueueState) (t u : ℕ) → is_some (entry_of s t) ≡ true → standing (without_task s t) u + one_if (u == t) ≡ standing s u
standing_without s t u waits = go (cases_eq u t)
  where
    go : (u ≡ t) ⊎ (u ≡ t → ⊥) → one_if (is_some (entry_at (set s.entries t None) u)) + one_if (u == t) ≡ standing s u
    go (inl e) = rw (e, nowhere_after s.entries t, eq-eqb t t refl, waits) (omega arith)
    go (inr n) = rw (get_or-set_other {A = Option Entry} s.entries t u None None n, ne_eqb u t n) (omega arith)

-- the law of pops
pub standing_popped : PopTakesOne
standing_popped s id t u front = rw front (standing_without s t u (front_waits s id t front))

-- the law of removals
pub standing_removed : RemovalTakesOne
standing_removed s t u waits = rw waits (standing_without s t u waits)

-- the law of all other calls
pub others_change_none : OthersChangeNone
others_change_none = record {
  refused = λ s id t rank e. refused s id t rank (push_refusal s id t rank) refl e;
  nobody = λ s id e. rw e refl;
  absent = λ s t e. rw e refl;
  queue = λ s id t. created_same s id t (is_none (create_refusal s id));
}
  where
    refused : (s : QueueState) (id t : ℕ) (rank : Rank) (o : Option QueueError) → push_refusal s id t rank ≡ o → is_some o ≡ true → after_push s id t rank ≡ s
    refused s id t rank None e h = absurd (cc)
    refused s id t rank (Some x) e h = rw e refl

    created_same : (s : QueueState) (id t : ℕ) (b : Bool) → standing (if b then with_queue s id else s) t ≡ standing s t
    created_same s id t true = refl
    created_same s id t false = refl
