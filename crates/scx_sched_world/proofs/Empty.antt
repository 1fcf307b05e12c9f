-- A queue in which nobody waits has no front, whichever tasks are asked for.
use Rattle.std.proofs.Common.{◌≡◌, ℕ, zero, suc, ◌<◌, Bool, true, false, nat_lt, if◌then◌else◌, cond, [], ◌∷◌, length, get_or, Option, Some, None, refl, arith}
use Rattle.std.specs.List.{count_by}
use Rattle.std.proofs.lemmas.List.Sums.{sum_by-cons}
use Rattle.scx_dsq.specs.Queues.{Entries, QueueState, Waits, is_in, len_of, is_first, front_of, entries_of, only}
use Rattle.scx_dsq.specs.declared.entries.Entry.{Entry}
use Rattle.scx_dsq.proofs.Positions.{no_position}
use Rattle.scx_weights.specs.Hierarchy.{is_in_mask}
use Rattle.scx_sched_world.specs.World.{WorldState, binds}
use Rattle.scx_sched_world.specs.Tasks.{local_len, next_for, fill_front}
use Rattle.scx_sched_world.proofs.Settled.{len_none}

one_or_none : (b : Bool) → cond {A = ℕ} b 1 0 ≡ 0 → b ≡ false
one_or_none true e = absurd (omega (arith, e))
one_or_none false e = refl

none_in : (test : Option Entry → Bool) (xs : Entries) (k : ℕ) (d : Option Entry) → count_by test xs ≡ 0 → k < length xs → test (get_or xs k d) ≡ false
none_in test [] k d none lt = absurd (omega (arith, lt))
none_in test (x ∷ xs) zero d none lt = let parts = sum_by-cons (λ y. cond {A = ℕ} (test y) 1 0) x xs in one_or_none (test x) (omega (arith, parts, none))
none_in test (x ∷ xs) (suc k) d none lt = let parts = sum_by-cons (λ y. cond {A = ℕ} (test y) 1 0) x xs in none_in test xs k d (omega (arith, parts, none)) (omega (arith, lt))

first_in : (id : ℕ) (xs : Entries) (o : Option Entry) → is_in id o ≡ false → is_first xs id o ≡ false
first_in id xs None e = refl
first_in id xs (Some p) e = rw e refl

empty_front : (s : QueueState) (id : ℕ) → len_of s id ≡ 0 → front_of s id ≡ None
unfolding front_of
empty_front s id none = no_position (is_first s.entries id) s.entries (λ k d lt. first_in id s.entries (get_or s.entries k d) (none_in (is_in id) s.entries k d none lt))

-- nor do some of its tasks alone
none_of_those : (id : ℕ) (p : ℕ → Bool) (n : ℕ) (xs : Entries) → count_by (is_in id) xs ≡ 0 → count_by (is_in id) (entries_of p n xs) ≡ 0
none_of_those id p n [] none = refl
none_of_those id p n (x ∷ xs) none =
    let kept : Option Entry = if p n then x else None in
    let parts = sum_by-cons (λ y. cond {A = ℕ} (is_in id y) 1 0) x xs in
    let more = sum_by-cons (λ y. cond {A = ℕ} (is_in id y) 1 0) kept (entries_of p (suc n) xs) in
    let rest = none_of_those id p (suc n) xs (omega (arith, parts, none)) in
    omega (arith, more, rest, here (p n) (omega (arith, parts, none)))
  where
    here : (b : Bool) → cond {A = ℕ} (is_in id x) 1 0 ≡ 0 → cond {A = ℕ} (is_in id (if b then x else None)) 1 0 ≡ 0
    here true e = e
    here false e = refl

none_in_case : (b : Bool) (o p : Option ℕ) → o ≡ None → p ≡ None → (if b then o else p) ≡ None
none_in_case true o p x y = x
none_in_case false o p x y = y

no_front_in_case : (b : Bool) (s t : QueueState) (q : ℕ) → front_of s q ≡ None → front_of t q ≡ None → front_of (if b then s else t) q ≡ None
no_front_in_case true s t q x y = x
no_front_in_case false s t q x y = y

-- and no processor sees a task in it
pub empty_next : (w : WorldState) (q c : ℕ) → len_of w.queues q ≡ 0 → next_for w q c ≡ None
empty_next w q c none =
    let allowed : ℕ → Bool = λ t. is_in_mask w.tree t c in
    no_front_in_case (binds w) (only allowed w.queues) w.queues q
    (empty_front (only allowed w.queues) q (none_of_those q allowed 0 w.queues.entries none)) (empty_front w.queues q none)

-- so nobody comes from it to a local queue
pub fill_nobody : (w : WorldState) (q c : ℕ) → ((t : ℕ) (p : Entry) → Waits w.queues q t p → ⊥) → fill_front w q c ≡ None
fill_nobody w q c nobody = none_in_case (nat_lt 0 (local_len w c)) None (next_for w q c) refl (empty_next w q c (len_none w.queues q nobody))
