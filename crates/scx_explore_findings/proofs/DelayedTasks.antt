-- Lists of tasks, timers and notes in which all times are later by as much.
use Rattle.std.proofs.Common.{◌≡◌, ℕ, zero, suc, ◌+◌, ◌==◌, ◌&&◌, Bool, true, false, cond, not, nat_lt, List, [], ◌∷◌, length, map, set, get_or, Option, Some, None, position, refl, ap, ◌∙◌, subst, arith}
use Rattle.std.specs.List.{position_or_len}
use Rattle.scx_dsq.specs.declared.entries.Rank.{Rank}
use Rattle.scx_dsq.specs.declared.entries.Rank.TheVariants.{Fifo, Front, Vtime}
use Rattle.scx_isa_semantics.specs.declared.host_tables.Field.{Field}
use Rattle.scx_isa_semantics.specs.declared.host_tables.Field.TheVariants.{Slice, DsqVtime}
use Rattle.scx_sched_tasks.specs.declared.task.Task.{Task}
use Rattle.scx_sched_tasks.specs.Tasks.{no_task, default_slice}
use Rattle.scx_sched_tasks.specs.Waits.{time_since, is_late, is_overdue}
use Rattle.scx_sched_world.specs.declared.call.Insert.{Insert}
use Rattle.scx_sched_world.specs.Tasks.{with_slice, given_slice, given_vtime, task_after_insert, with_new_slice}
use Rattle.scx_sched_world.specs.Helpers.{stored_in}
use Rattle.scx_explore_findings.specs.Delayed.{later_by, delayed_task}

-- what leads through a choice by the same test, if it leads through both sides
pub through_if : {A B : Type 0} (g : A → B) (b c : Bool) (x y : A) (x' y' : B) → b ≡ c → g x ≡ x' → g y ≡ y' → g (cond b x y) ≡ cond c x' y'
through_if {A} {B} g b c x y x' y' e p q = subst (λ (d : Bool). g (cond b x y) ≡ cond d x' y') e (go b)
  where
    go : (d : Bool) → g (cond d x y) ≡ cond d x' y'
    go true = p
    go false = q

-- there are as many
pub as_long : {A B : Type 0} (f : A → B) (xs : List A) → length xs ≡ length (map f xs)
as_long f [] = refl
as_long f (x ∷ xs) = ap suc (as_long f xs)

-- one of a list is changed
pub changed_at : {A B : Type 0} (f : A → B) (xs : List A) (n : ℕ) (y : A) → map f (set xs n y) ≡ set (map f xs) n (f y)
changed_at f [] n y = refl
changed_at f (x ∷ xs) zero y = refl
changed_at {A} {B} f (x ∷ xs) (suc n) y = ap (λ (ys : List B). f x ∷ ys) (changed_at f xs n y)

-- one of a list is read
pub found_at : {A B : Type 0} (f : A → B) (xs : List A) (n : ℕ) (d : A) → f (get_or xs n d) ≡ get_or (map f xs) n (f d)
found_at f [] n d = refl
found_at f (x ∷ xs) zero d = refl
found_at f (x ∷ xs) (suc n) d = found_at f xs n d

-- no wait changes
pub as_late : (k now : ℕ) (o : Option ℕ) → time_since now o ≡ time_since (now + k) (later_by k o)
as_late k now None = refl
as_late k now (Some n) = omega arith

late_as : (k now limit : ℕ) (o : Option ℕ) → is_late now limit o ≡ is_late (now + k) limit (later_by k o)
late_as k now limit None = refl
late_as k now limit (Some n) = ap (λ (m : ℕ). nat_lt limit m) (as_late k now (Some n))

module _ (k : ℕ) where
  -- what is told alike of each record is told alike of a task's
  pub read_of : {A : Type 0} (f : Task → A) → ((x : Task) → f x ≡ f (delayed_task k x)) → (xs : List Task) (t : ℕ) → f (get_or xs t no_task) ≡ f (get_or (map (delayed_task k) xs) t no_task)
  read_of f e [] t = refl
  read_of f e (x ∷ xs) zero = e x
  read_of f e (x ∷ xs) (suc t) = read_of f e xs t

  -- a change of a record that comes to another one of the later record
  abbrev pub Changes : (Task → Task) → (Task → Task) → Type 0
  Changes g h = (x : Task) → delayed_task k (g x) ≡ h (delayed_task k x)

  -- so of one of a list
  pub set_of : (g h : Task → Task) → Changes g h → (xs : List Task) (t : ℕ) → map (delayed_task k) (set xs t (g (get_or xs t no_task))) ≡ set (map (delayed_task k) xs) t (h (get_or (map (delayed_task k) xs) t no_task))
  set_of g h e [] t = refl
  set_of g h e (x ∷ xs) zero = ap (λ (y : Task). y ∷ map (delayed_task k) xs) (e x)
  set_of g h e (x ∷ xs) (suc t) = ap (λ (ys : List Task). delayed_task k x ∷ ys) (set_of g h e xs t)

  -- it gets a new slice, if its slice has run out
  pub changes_new_slice : Changes with_new_slice with_new_slice
  changes_new_slice x = through_if (delayed_task k) (x.slice == 0) (x.slice == 0) (with_slice x default_slice) x (with_slice (delayed_task k x) default_slice) (delayed_task k x) refl refl refl

  -- a slice of 1 where it had none, if that is so wanted
  refilled : (b : Bool) → Changes (λ x. cond (b && (x.slice == 0)) (with_slice x 1) x) (λ x. cond (b && (x.slice == 0)) (with_slice x 1) x)
  refilled b x = through_if (delayed_task k) (b && (x.slice == 0)) (b && (x.slice == 0)) (with_slice x 1) x (with_slice (delayed_task k x) 1) (delayed_task k x) refl refl refl

  sliced : (i : Insert) → Changes (λ x. given_slice x i) (λ x. given_slice x i)
  sliced i x = through_if (delayed_task k) (i.slice == 0) (i.slice == 0) _ (with_slice x i.slice) _ (with_slice (delayed_task k x) i.slice) refl (refilled i.refills x) refl

  timed : (r : Rank) → Changes (λ x. given_vtime x r) (λ x. given_vtime x r)
  timed Fifo x = refl
  timed Front x = refl
  timed (Vtime n) x = refl

  -- it is inserted somewhere
  pub changes_insert : (i : Insert) → Changes (λ x. task_after_insert x i) (λ x. task_after_insert x i)
  changes_insert i x = timed i.rank (given_slice x i) ∙ ap (λ (y : Task). given_vtime y i.rank) (sliced i x)

  -- a program stores to a field of it
  pub changes_store : (f : Field) (n : ℕ) → Changes (λ x. stored_in x f n) (λ x. stored_in x f n)
  changes_store Slice n x = refl
  changes_store DsqVtime n x = refl
  changes_store f n x = refl

  -- the first that passes a test is found where one is that passes it later
  place_of : (p q : Task → Bool) → ((x : Task) → p x ≡ q (delayed_task k x)) → (xs : List Task) → position_or_len p xs ≡ position_or_len q (map (delayed_task k) xs)
  place_of p q e [] = refl
  place_of p q e (x ∷ xs) =
      ap (λ (b : Bool). cond (not b) (1 + position_or_len p xs) 0) (e x)
      ∙ ap (λ (n : ℕ). cond (not (q (delayed_task k x))) (1 + n) 0) (place_of p q e xs)

  first_of : (p q : Task → Bool) → ((x : Task) → p x ≡ q (delayed_task k x)) → (xs : List Task) → position p xs ≡ position q (map (delayed_task k) xs)
  first_of p q e xs =
      ap (λ (n : ℕ). cond (nat_lt n (length xs)) (Some n) None) (place_of p q e xs)
      ∙ ap (λ (l : ℕ). cond (nat_lt (position_or_len q (map (delayed_task k) xs)) l) (Some (position_or_len q (map (delayed_task k) xs))) None) (as_long (delayed_task k) xs)

  -- the task that waits too long is the same
  pub overdue_as : (now limit : ℕ) (xs : List Task) → position (is_overdue now limit) xs ≡ position (is_overdue (now + k) limit) (map (delayed_task k) xs)
  overdue_as now limit xs = first_of (is_overdue now limit) (is_overdue (now + k) limit) (λ x. late_as k now limit x.since) xs
