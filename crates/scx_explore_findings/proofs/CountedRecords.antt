-- Records of tasks without what ticks count.
use Rattle.std.proofs.Common.{◌≡◌, ℕ, zero, suc, ◌+◌, ◌-◌, ◌*◌, ◌/◌, ◌%◌, ◌<◌, ◌≤◌, ◌==◌, ◌&&◌, nat_le, Bool, true, false, cond, Option, List, [], ◌∷◌, length, set, get_or, refl, sym, ap, ◌∙◌, ⊎_elim, arith}
use Rattle.std.proofs.lemmas.Bool.{cases_lt, eqb-true, eq-eqb, ne_eqb, le-leb, lt-leb, leb-true}
use Rattle.std.proofs.lemmas.Nat.{div-add-mod', mod-mul-add, mod_below}
use Rattle.scx_isa_semantics.specs.declared.host_tables.Field.{Field}
use Rattle.scx_sched_tasks.specs.declared.task.Task.{Task}
use Rattle.scx_sched_tasks.specs.Tasks.{no_task, default_slice}
use Rattle.scx_sched_world.specs.declared.call.Insert.{Insert}
use Rattle.scx_sched_world.specs.Tasks.{with_since, with_slice, with_home, with_vtime, given_slice, task_after_insert, on_cpu, with_new_slice, tick_ns, counted_down, ran_a_tick}
use Rattle.scx_sched_world.specs.Helpers.{stored_in}
use Rattle.scx_explore_states.specs.Rows.{is_endless}
use Rattle.scx_explore_findings.specs.Counted.{uncounted_slice, uncounted, all_uncounted}
use Rattle.scx_explore_findings.proofs.Records.{KeepsLess, insert_stays, store_stays}

no : false ≡ true → ⊥
no e = absurd (cc)

-- ---- slices

-- the tests by which a slice never ends
abbrev never : Bool → ℕ → Bool
never b d = b && (d % 1000000 == 0)

past_a_tick : (d : ℕ) → 1000000 ≤ d → (d - 1000000) % 1000000 ≡ d % 1000000
past_a_tick d l = go (d / 1000000) (div-add-mod' d 1000000)
  where
    go : (q : ℕ) → q * 1000000 + d % 1000000 ≡ d → (d - 1000000) % 1000000 ≡ d % 1000000
    go zero e = let r = mod_below d 1000000 (omega arith) in absurd (omega (arith, l, e, r))
    go (suc q) e =
        let less : d - 1000000 ≡ q * 1000000 + d % 1000000 = omega (arith, l, e) in
        ap (λ (k : ℕ). k % 1000000) less ∙ mod-mul-add q 1000000 (d % 1000000) (mod_below d 1000000 (omega arith))

within_a_tick : (d : ℕ) → d < 1000000 → (d ≡ 0 → ⊥) → (d % 1000000 == 0) ≡ false
within_a_tick d l some =
    let whole : d ≡ 0 * 1000000 + d = omega arith in
    ne_eqb (d % 1000000) 0 (λ e. some (sym (ap (λ (k : ℕ). k % 1000000) whole ∙ mod-mul-add 0 1000000 d l) ∙ e))

-- a tick doesn't change whether a slice ends
pub counted_ends : (n : ℕ) → is_endless (counted_down n) ≡ is_endless n
counted_ends n = go (n == 0xffff_ffff_ffff_ffff) refl
  where
    far : (n == 0xffff_ffff_ffff_ffff) ≡ false → 0xffff_ffff_ffff_ffff ≤ n → (n - 0xffff_ffff_ffff_ffff ≡ 0 → ⊥)
    far e l none = let is : n ≡ 0xffff_ffff_ffff_ffff = omega (arith, l, none) in no (sym e ∙ eq-eqb n 0xffff_ffff_ffff_ffff is)

    past : (n == 0xffff_ffff_ffff_ffff) ≡ false → 0xffff_ffff_ffff_ffff ≤ n → is_endless (n - 1000000) ≡ is_endless n
    past e l =
        let here : is_endless n ≡ ((n - 0xffff_ffff_ffff_ffff) % 1000000 == 0) = ap (λ (b : Bool). never b (n - 0xffff_ffff_ffff_ffff)) (le-leb 0xffff_ffff_ffff_ffff n l) in
        ⊎_elim (λ (k : n - 0xffff_ffff_ffff_ffff < 1000000).
        ap (λ (b : Bool). never b (n - 1000000 - 0xffff_ffff_ffff_ffff)) (lt-leb 0xffff_ffff_ffff_ffff (n - 1000000) (omega (arith, l, k)))
        ∙ sym (here ∙ within_a_tick (n - 0xffff_ffff_ffff_ffff) k (far e l)))
        (λ (k : 1000000 ≤ n - 0xffff_ffff_ffff_ffff).
        let less : n - 1000000 - 0xffff_ffff_ffff_ffff ≡ n - 0xffff_ffff_ffff_ffff - 1000000 = omega arith in
        ap (λ (b : Bool). never b (n - 1000000 - 0xffff_ffff_ffff_ffff)) (le-leb 0xffff_ffff_ffff_ffff (n - 1000000) (omega (arith, k)))
        ∙ ap (λ (d : ℕ). d % 1000000 == 0) less
        ∙ ap (λ (d : ℕ). d == 0) (past_a_tick (n - 0xffff_ffff_ffff_ffff) k)
        ∙ sym here) (cases_lt (n - 0xffff_ffff_ffff_ffff) 1000000)

    before : n < 0xffff_ffff_ffff_ffff → is_endless (n - 1000000) ≡ is_endless n
    before l =
        ap (λ (b : Bool). never b (n - 1000000 - 0xffff_ffff_ffff_ffff)) (lt-leb 0xffff_ffff_ffff_ffff (n - 1000000) (omega (arith, l)))
        ∙ sym (ap (λ (b : Bool). never b (n - 0xffff_ffff_ffff_ffff)) (lt-leb 0xffff_ffff_ffff_ffff n l))

    go : (b : Bool) → (n == 0xffff_ffff_ffff_ffff) ≡ b → is_endless (counted_down n) ≡ is_endless n
    go true e = ap (λ (b : Bool). is_endless (cond b n (n - tick_ns))) e
    go false e =
        ap (λ (b : Bool). is_endless (cond b n (n - tick_ns))) e
        ∙ ⊎_elim (λ (l : n < 0xffff_ffff_ffff_ffff). before l) (λ (l : 0xffff_ffff_ffff_ffff ≤ n). past e l) (cases_lt n 0xffff_ffff_ffff_ffff)

-- one that never ends isn't used up by it
pub endless_goes_on : (n : ℕ) → is_endless n ≡ true → (counted_down n == 0) ≡ false
endless_goes_on n e = go (n == 0xffff_ffff_ffff_ffff) refl
  where
    first : (a b : Bool) → (a && b) ≡ true → a ≡ true
    first true b is = refl
    first false b is = is

    long : 0xffff_ffff_ffff_ffff ≤ n
    long = leb-true 0xffff_ffff_ffff_ffff n (first (nat_le 0xffff_ffff_ffff_ffff n) ((n - 0xffff_ffff_ffff_ffff) % 1000000 == 0) e)

    go : (b : Bool) → (n == 0xffff_ffff_ffff_ffff) ≡ b → (counted_down n == 0) ≡ false
    go true is = ap (λ (b : Bool). cond b n (n - tick_ns) == 0) is ∙ ne_eqb n 0 (λ z. omega (arith, long, z))
    go false is = ap (λ (b : Bool). cond b n (n - tick_ns) == 0) is ∙ ne_eqb (n - 1000000) 0 (λ z. omega (arith, long, z))

-- ---- one record

-- leaving it out once more changes nothing
twice : (n : ℕ) → uncounted_slice n ≡ uncounted_slice (uncounted_slice n)
twice n = go (is_endless n)
  where
    go : (b : Bool) → cond b 0xffff_ffff_ffff_ffff 0 ≡ uncounted_slice (cond b 0xffff_ffff_ffff_ffff 0)
    go true = refl
    go false = refl

-- another record with the slice of that one, if it never ends
abbrev with_endless : Task → ℕ → Task
with_endless y n = record y { slice = n; run_ns = 0 }

kept : (x y : Task) → with_endless y (uncounted_slice x.slice) ≡ with_endless y (uncounted_slice (uncounted_slice x.slice))
kept x y = ap (with_endless y) (twice x.slice)

pub again : (x : Task) → uncounted x ≡ uncounted (uncounted x)
again x = kept x x

-- what is left of a changed record doesn't depend on what ticks count
abbrev pub Keeps : (Task → Task) → Type 0
Keeps g = KeepsLess uncounted g

-- ---- changes of a record

-- a task waits since then, or no more
pub keeps_since : (o : Option ℕ) → Keeps (λ x. with_since x o)
keeps_since o x = kept x (with_since x o)

-- it has another slice
pub keeps_slice : (n : ℕ) → Keeps (λ x. with_slice x n)
keeps_slice n x = refl

-- it comes to a processor
pub keeps_on_cpu : (c : ℕ) → Keeps (λ x. on_cpu x c)
keeps_on_cpu c x = kept x (on_cpu x c)

-- its processor is another
pub keeps_home : (c : ℕ) → Keeps (λ x. with_home x c)
keeps_home c x = kept x (with_home x c)

keeps_vtime : (n : ℕ) → Keeps (λ x. with_vtime x n)
keeps_vtime n x = kept x (with_vtime x n)

-- one that has no slice left gets one that ends
refilled : (b : Bool) (n : ℕ) (x : Task) → uncounted_slice n ≡ 0 → b ≡ (x.slice == 0) → uncounted (cond b (with_slice x n) x) ≡ uncounted x
refilled true n x ends is =
    let none : x.slice ≡ 0 = eqb-true x.slice 0 (sym is) in
    ap (with_endless x) ends ∙ sym (ap (λ (k : ℕ). with_endless x (uncounted_slice k)) none)
refilled false n x ends is = refl

new_slice : (x : Task) → uncounted (with_new_slice x) ≡ uncounted x
new_slice x = refilled (x.slice == 0) default_slice x refl refl

-- it gets a new slice, if its slice has run out
pub keeps_new_slice : Keeps with_new_slice
keeps_new_slice x = new_slice x ∙ again x ∙ sym (new_slice (uncounted x))

-- it has a slice of 1 where it had none, if that is so wanted
one_slice : (b : Bool) (x : Task) → uncounted (cond (b && (x.slice == 0)) (with_slice x 1) x) ≡ uncounted x
one_slice true x = refilled (x.slice == 0) 1 x refl refl
one_slice false x = refl

keeps_given_slice : (i : Insert) → Keeps (λ x. given_slice x i)
keeps_given_slice i x = go (i.slice == 0)
  where
    go : (b : Bool)
        → uncounted (cond b (cond (i.refills && (x.slice == 0)) (with_slice x 1) x) (with_slice x i.slice))
        ≡ uncounted (cond b (cond (i.refills && ((uncounted x).slice == 0)) (with_slice (uncounted x) 1) (uncounted x)) (with_slice (uncounted x) i.slice))
    go true = one_slice i.refills x ∙ again x ∙ sym (one_slice i.refills (uncounted x))
    go false = refl

-- it is inserted somewhere
pub keeps_insert : (i : Insert) → Keeps (λ x. task_after_insert x i)
keeps_insert i = insert_stays uncounted again keeps_vtime i (keeps_given_slice i)

-- a program stores to a field of it
pub keeps_store : (f : Field) (n : ℕ) → Keeps (λ x. stored_in x f n)
keeps_store = store_stays uncounted again keeps_vtime keeps_slice

-- ---- a tick

-- changes nothing but what it counts
pub ran_same : (x : Task) → uncounted (ran_a_tick x) ≡ uncounted x
ran_same x = ap (λ (b : Bool). with_endless x (cond b 0xffff_ffff_ffff_ffff 0)) (counted_ends x.slice)

-- ---- lists of records

-- another record of a task that is the same but for that
pub set_same : (xs : List Task) (t : ℕ) (y : Task) → uncounted y ≡ uncounted (get_or xs t no_task) → all_uncounted (set xs t y) ≡ all_uncounted xs
set_same [] t y e = refl
set_same (x ∷ xs) zero y e = ap (λ (z : Task). z ∷ all_uncounted xs) e
set_same (x ∷ xs) (suc t) y e = ap (λ (zs : List Task). uncounted x ∷ zs) (set_same xs t y e)

-- the same of each of several
pub all_again : (xs : List Task) → all_uncounted xs ≡ all_uncounted (all_uncounted xs)
all_again [] = refl
all_again (x ∷ xs) = ap (λ (y : Task). y ∷ all_uncounted xs) (again x) ∙ ap (λ (ys : List Task). uncounted (uncounted x) ∷ ys) (all_again xs)

-- a task's record is changed
pub keeps_set : (g : Task → Task) → Keeps g → (xs : List Task) (t : ℕ) → all_uncounted (set xs t (g (get_or xs t no_task))) ≡ all_uncounted (set (all_uncounted xs) t (g (get_or (all_uncounted xs) t no_task)))
keeps_set g k [] t = refl
keeps_set g k (x ∷ xs) zero = ap (λ (y : Task). y ∷ all_uncounted xs) (k x) ∙ ap (λ (ys : List Task). uncounted (g (uncounted x)) ∷ ys) (all_again xs)
keeps_set g k (x ∷ xs) (suc t) = ap (λ (y : Task). y ∷ all_uncounted (set xs t (g (get_or xs t no_task)))) (again x) ∙ ap (λ (ys : List Task). uncounted (uncounted x) ∷ ys) (keeps_set g k xs t)

-- what is the same of each record is the same of a task's
pub read_same : {A : Type 0} (f : Task → A) → ((x : Task) → f x ≡ f (uncounted x)) → (xs : List Task) (t : ℕ) → f (get_or xs t no_task) ≡ f (get_or (all_uncounted xs) t no_task)
read_same f k [] t = refl
read_same f k (x ∷ xs) zero = k x
read_same f k (x ∷ xs) (suc t) = read_same f k xs t

-- there are as many records
pub length_same : (xs : List Task) → length xs ≡ length (all_uncounted xs)
length_same [] = refl
length_same (x ∷ xs) = ap suc (length_same xs)
