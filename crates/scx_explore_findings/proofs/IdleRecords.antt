-- Records of tasks of which some have no slice.
use Rattle.std.proofs.Common.{◌≡◌, ℕ, zero, suc, ◌==◌, ◌&&◌, Bool, true, false, cond, nat_lt, not, ◌+◌, List, [], ◌∷◌, length, set, get_or, Some, None, position, refl, sym, ap, ◌∙◌}
use Rattle.std.specs.List.{position_or_len}
use Rattle.scx_dsq.specs.declared.entries.Rank.{Rank}
use Rattle.scx_dsq.specs.declared.entries.Rank.TheVariants.{Fifo, Front, Vtime}
use Rattle.scx_isa_semantics.specs.declared.host_tables.Field.{Field}
use Rattle.scx_isa_semantics.specs.declared.host_tables.Field.TheVariants.{Slice, DsqVtime}
use Rattle.scx_sched_tasks.specs.declared.task.Task.{Task}
use Rattle.scx_sched_tasks.specs.Tasks.{no_task, default_slice}
use Rattle.scx_sched_world.specs.declared.call.Insert.{Insert}
use Rattle.scx_sched_world.specs.Tasks.{with_slice, given_slice, given_vtime, task_after_insert, with_new_slice}
use Rattle.scx_sched_world.specs.Helpers.{stored_in}
use Rattle.scx_explore_findings.specs.IdleSlices.{sliceless_if, without_slices}

pub bits : (b : Bool) → b ≡ true → b ≡ false → ⊥
bits b x y = absurd (cc)

-- ---- one record

-- with no slice once is with no slice for good
at_twice : (b c : Bool) (x : Task) → (b ≡ true → c ≡ true) → sliceless_if c x ≡ sliceless_if c (sliceless_if b x)
at_twice true true x e = refl
at_twice true false x e = absurd (bits false (e refl) refl)
at_twice false true x e = refl
at_twice false false x e = refl

-- what is the same of a record without its slice
pub shown_if : {A : Type 0} (f : Task → A) → ((x : Task) → f x ≡ f (with_slice x 0)) → (b : Bool) (x : Task) → f x ≡ f (sliceless_if b x)
shown_if f k true x = k x
shown_if f k false x = refl

-- but for its slice a changed record doesn't depend on the slice
abbrev pub Keeps : (Task → Task) → Type 0
Keeps g = (x : Task) → with_slice (g x) 0 ≡ with_slice (g (with_slice x 0)) 0

pub keeps_if_so : (g : Task → Task) → Keeps g → (b : Bool) (x : Task) → sliceless_if b (g x) ≡ sliceless_if b (g (sliceless_if b x))
keeps_if_so g k true x = k x
keeps_if_so g k false x = refl

sliced : (b : Bool) (n : ℕ) (x : Task) → with_slice (cond b (with_slice x n) x) 0 ≡ with_slice x 0
sliced true n x = refl
sliced false n x = refl

-- it gets a new slice, if its slice has run out
pub keeps_new_slice : Keeps with_new_slice
keeps_new_slice x = sliced (x.slice == 0) default_slice x

timed : (r : Rank) (x : Task) → with_slice (given_vtime x r) 0 ≡ given_vtime (with_slice x 0) r
timed Fifo x = refl
timed Front x = refl
timed (Vtime n) x = refl

given_none : (b c : Bool) (n : ℕ) (x : Task) → with_slice (cond b (cond c (with_slice x 1) x) (with_slice x n)) 0 ≡ with_slice x 0
given_none true true n x = refl
given_none true false n x = refl
given_none false c n x = refl

-- it is inserted somewhere
pub keeps_insert : (i : Insert) → Keeps (λ x. task_after_insert x i)
keeps_insert i x =
    let y = with_slice x 0 in
    timed i.rank (given_slice x i)
    ∙ ap (λ (z : Task). given_vtime z i.rank) (given_none (i.slice == 0) (i.refills && (x.slice == 0)) i.slice x)
    ∙ sym (timed i.rank (given_slice y i) ∙ ap (λ (z : Task). given_vtime z i.rank) (given_none (i.slice == 0) (i.refills && (y.slice == 0)) i.slice y))

-- an insert that gives a slice gives it whatever the one before
pub given_anew : (i : Insert) → (i.slice == 0) ≡ false → (b : Bool) (x : Task) → task_after_insert x i ≡ task_after_insert (sliceless_if b x) i
given_anew i e false x = refl
given_anew i e true x =
    let y = with_slice x 0 in
    go (i.slice == 0) e (cond (i.refills && (x.slice == 0)) (with_slice x 1) x) (cond (i.refills && (y.slice == 0)) (with_slice y 1) y)
  where
    go : (c : Bool) → c ≡ false → (u v : Task) → given_vtime (cond c u (with_slice x i.slice)) i.rank ≡ given_vtime (cond c v (with_slice (with_slice x 0) i.slice)) i.rank
    go false z u v = refl
    go true z u v = absurd (bits true refl z)

-- a program stores to a field of it
pub keeps_store : (f : Field) (n : ℕ) → Keeps (λ x. stored_in x f n)
keeps_store Slice n x = refl
keeps_store DsqVtime n x = refl
keeps_store f n x = refl

-- ---- lists of records

-- and so it is of several
pub twice : (p q : ℕ → Bool) (xs : List Task) → ((t : ℕ) → p t ≡ true → q t ≡ true) → without_slices q xs ≡ without_slices q (without_slices p xs)
twice p q [] e = refl
twice p q (x ∷ xs) e =
    ap (λ (y : Task). y ∷ without_slices (λ t. q (suc t)) xs) (at_twice (p 0) (q 0) x (e 0))
    ∙ ap (λ (ys : List Task). sliceless_if (q 0) (sliceless_if (p 0) x) ∷ ys) (twice (λ t. p (suc t)) (λ t. q (suc t)) xs (λ t. e (suc t)))

-- a task's record is changed, and others lose their slices with it
pub set_alike : (p q : ℕ → Bool) (g : Task → Task) (xs : List Task) (t : ℕ) → ((u : ℕ) → (u ≡ t → ⊥) → p u ≡ true → q u ≡ true)
    → ((x : Task) → sliceless_if (q t) (g x) ≡ sliceless_if (q t) (g (sliceless_if (p t) x)))
    → without_slices q (set xs t (g (get_or xs t no_task))) ≡ without_slices q (set (without_slices p xs) t (g (get_or (without_slices p xs) t no_task)))
set_alike p q g [] t e k = refl
set_alike p q g (x ∷ xs) zero e k =
    ap (λ (y : Task). y ∷ without_slices (λ t. q (suc t)) xs) (k x)
    ∙ ap (λ (ys : List Task). sliceless_if (q 0) (g (sliceless_if (p 0) x)) ∷ ys) (twice (λ t. p (suc t)) (λ t. q (suc t)) xs (λ u. e (suc u) (λ is. absurd (cc))))
set_alike p q g (x ∷ xs) (suc t) e k =
    ap (λ (y : Task). y ∷ without_slices (λ u. q (suc u)) (set xs t (g (get_or xs t no_task)))) (at_twice (p 0) (q 0) x (e 0 (λ is. absurd (cc))))
    ∙ ap (λ (ys : List Task). sliceless_if (q 0) (sliceless_if (p 0) x) ∷ ys) (set_alike (λ u. p (suc u)) (λ u. q (suc u)) g xs t (λ u n. e (suc u) (λ is. n (less is))) k)
  where
    less : {u : ℕ} → suc u ≡ suc t → u ≡ t
    less is = cc

none_less : (b : Bool) → no_task ≡ sliceless_if b no_task
none_less true = refl
none_less false = refl

-- the record of a task
pub read_at : (p : ℕ → Bool) (xs : List Task) (t : ℕ) → get_or (without_slices p xs) t no_task ≡ sliceless_if (p t) (get_or xs t no_task)
read_at p [] t = none_less (p t)
read_at p (x ∷ xs) zero = refl
read_at p (x ∷ xs) (suc t) = read_at (λ u. p (suc u)) xs t

-- there are as many records
pub length_same : (p : ℕ → Bool) (xs : List Task) → length xs ≡ length (without_slices p xs)
length_same p [] = refl
length_same p (x ∷ xs) = ap suc (length_same (λ t. p (suc t)) xs)

place_same : (p : Task → Bool) → ((x : Task) → p x ≡ p (with_slice x 0)) → (q : ℕ → Bool) (xs : List Task) → position_or_len p xs ≡ position_or_len p (without_slices q xs)
place_same p k q [] = refl
place_same p k q (x ∷ xs) =
    ap (λ (b : Bool). cond (not b) (1 + position_or_len p xs) 0) (shown_if p k (q 0) x) ∙ ap (λ (n : ℕ). cond (not (p (sliceless_if (q 0) x))) (1 + n) 0) (place_same p k (λ t. q (suc t)) xs)

-- the first one that passes a test of other parts
pub first_same : (p : Task → Bool) → ((x : Task) → p x ≡ p (with_slice x 0)) → (q : ℕ → Bool) (xs : List Task) → position p xs ≡ position p (without_slices q xs)
first_same p k q xs =
    ap (λ (n : ℕ). cond (nat_lt n (length xs)) (Some n) None) (place_same p k q xs)
    ∙ ap (λ (l : ℕ). cond (nat_lt (position_or_len p (without_slices q xs)) l) (Some (position_or_len p (without_slices q xs))) None) (length_same q xs)

-- of the same tasks
pub of_same : (p q : ℕ → Bool) (xs : List Task) → ((t : ℕ) → p t ≡ q t) → without_slices p xs ≡ without_slices q xs
of_same p q [] e = refl
of_same p q (x ∷ xs) e =
    ap (λ (b : Bool). sliceless_if b x ∷ without_slices (λ t. p (suc t)) xs) (e 0)
    ∙ ap (λ (ys : List Task). sliceless_if (q 0) x ∷ ys) (of_same (λ t. p (suc t)) (λ t. q (suc t)) xs (λ t. e (suc t)))
