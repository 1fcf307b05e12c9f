-- Records of tasks of which something is hidden.
use Rattle.std.proofs.Common.{◌≡◌, ℕ, zero, suc, ◌+◌, ◌==◌, ◌&&◌, Bool, true, false, cond, not, nat_lt, List, [], ◌∷◌, length, set, get_or, Option, Some, None, position, refl, sym, ap, ◌∙◌, subst}
use Rattle.std.specs.List.{position_or_len}
use Rattle.scx_dsq.specs.declared.entries.Rank.{Rank}
use Rattle.scx_dsq.specs.declared.entries.Rank.TheVariants.{Fifo, Front, Vtime}
use Rattle.scx_isa_semantics.specs.declared.host_tables.Field.{Field}
use Rattle.scx_isa_semantics.specs.declared.host_tables.Field.TheVariants.{Slice, DsqVtime}
use Rattle.scx_sched_tasks.specs.declared.task.Task.{Task}
use Rattle.scx_sched_tasks.specs.Tasks.{no_task, default_slice}
use Rattle.scx_sched_world.specs.declared.call.Insert.{Insert}
use Rattle.scx_sched_world.specs.Tasks.{with_since, with_slice, with_home, with_vtime, with_builtin, given_slice, given_vtime, task_after_insert, on_cpu, with_new_slice, tick_ns, counted_down, ran_a_tick}
use Rattle.scx_sched_world.specs.Helpers.{stored_in}
use Rattle.scx_explore_findings.specs.Hidden.{Hidden, unless, since_unless, with_times, hidden_in, all_hidden}

-- what two choices by the same test give alike, if each side does
pub alike_if : {A B : Type 0} (f : A → B) (b c : Bool) (x x' y y' : A) → b ≡ c → f x ≡ f x' → f y ≡ f y' → f (cond b x y) ≡ f (cond c x' y')
alike_if {A} {B} f b c x x' y y' e p q = subst (λ (d : Bool). f (cond b x y) ≡ f (cond d x' y')) e (go b)
  where
    go : (d : Bool) → f (cond d x y) ≡ f (cond d x' y')
    go true = p
    go false = q

-- what a change leaves of a record doesn't depend on what is left out of it
abbrev pub KeepsLess : (Task → Task) → (Task → Task) → Type 0
KeepsLess less g = (x : Task) → less (g x) ≡ less (g (less x))

-- changes of which that holds, if it does of another virtual time
module _ (less : Task → Task) (again : (x : Task) → less x ≡ less (less x)) (vtime : (n : ℕ) → KeepsLess less (λ x. with_vtime x n)) where
  given_vtime_stays : (r : Rank) → KeepsLess less (λ x. given_vtime x r)
  given_vtime_stays Fifo x = again x
  given_vtime_stays Front x = again x
  given_vtime_stays (Vtime n) x = vtime n x

  -- an insert, if it does of the slice that is given
  pub insert_stays : (i : Insert) → KeepsLess less (λ x. given_slice x i) → KeepsLess less (λ x. task_after_insert x i)
  insert_stays i slice x =
      given_vtime_stays i.rank (given_slice x i) ∙ ap (λ (y : Task). less (given_vtime y i.rank)) (slice x)
      ∙ sym (given_vtime_stays i.rank (given_slice (less x) i))

  -- a program's store to a field, if it does of another slice
  pub store_stays : ((n : ℕ) → KeepsLess less (λ x. with_slice x n)) → (f : Field) (n : ℕ) → KeepsLess less (λ x. stored_in x f n)
  store_stays slice Slice n x = slice n x
  store_stays slice DsqVtime n x = vtime n x
  store_stays slice f n x = again x

module _ (h : Hidden) where
  twice : (b : Bool) (n : ℕ) → unless b n ≡ unless b (unless b n)
  twice true n = refl
  twice false n = refl

  grown : (b : Bool) (n k : ℕ) → unless b (n + k) ≡ unless b (unless b n + k)
  grown true n k = refl
  grown false n k = refl

  since_twice : (b : Bool) (o : Option ℕ) → since_unless b o ≡ since_unless b (since_unless b o)
  since_twice true o = refl
  since_twice false o = refl

  times : (x : Task) (o o' : Option ℕ) (v v' r r' : ℕ) → o ≡ o' → v ≡ v' → r ≡ r' → with_times x o v r ≡ with_times x o' v' r'
  times x o o' v v' r r' d e f = ap (λ (n : Option ℕ). with_times x n v r) d ∙ ap (λ (n : ℕ). with_times x o' n r) e ∙ ap (λ (n : ℕ). with_times x o' v' n) f

  -- another record with the times of that one
  kept : (x y : Task) → with_times y (since_unless h.waits x.since) (unless h.vtime x.vtime) (unless h.run_ns x.run_ns)
      ≡ with_times y (since_unless h.waits (since_unless h.waits x.since)) (unless h.vtime (unless h.vtime x.vtime)) (unless h.run_ns (unless h.run_ns x.run_ns))
  kept x y = times y _ _ _ _ _ _ (since_twice h.waits x.since) (twice h.vtime x.vtime) (twice h.run_ns x.run_ns)

  -- and which waits since another clock
  kept_since : (o : Option ℕ) (x y : Task) → with_times y o (unless h.vtime x.vtime) (unless h.run_ns x.run_ns) ≡ with_times y o (unless h.vtime (unless h.vtime x.vtime)) (unless h.run_ns (unless h.run_ns x.run_ns))
  kept_since o x y = times y _ _ _ _ _ _ refl (twice h.vtime x.vtime) (twice h.run_ns x.run_ns)

  -- hiding what is hidden changes nothing
  pub again : (x : Task) → hidden_in h x ≡ hidden_in h (hidden_in h x)
  again x = kept x x

  -- the same of each of several records
  pub all_again : (xs : List Task) → all_hidden h xs ≡ all_hidden h (all_hidden h xs)
  all_again [] = refl
  all_again (x ∷ xs) = ap (λ (y : Task). y ∷ all_hidden h xs) (again x) ∙ ap (λ (ys : List Task). hidden_in h (hidden_in h x) ∷ ys) (all_again xs)

  -- what is shown of a changed record doesn't depend on what is hidden
  abbrev pub Keeps : (Task → Task) → Type 0
  Keeps g = KeepsLess (hidden_in h) g

  -- ---- changes of a record

  -- a task waits since then, or no more
  pub keeps_since : (o : Option ℕ) → Keeps (λ x. with_since x o)
  keeps_since o x = kept_since (since_unless h.waits o) x (with_since x o)

  -- it has another slice
  pub keeps_slice : (n : ℕ) → Keeps (λ x. with_slice x n)
  keeps_slice n x = kept x (with_slice x n)

  -- it comes to a processor
  pub keeps_on_cpu : (c : ℕ) → Keeps (λ x. on_cpu x c)
  keeps_on_cpu c x = kept_since (since_unless h.waits None) x (on_cpu x c)

  -- what is made of slice and built-in time by themselves
  pub keeps_numbers : (slice builtin : Task → ℕ) → ((x : Task) → slice x ≡ slice (hidden_in h x)) → ((x : Task) → builtin x ≡ builtin (hidden_in h x)) → Keeps (λ x. with_builtin (with_slice x (slice x)) (builtin x))
  keeps_numbers slice builtin e f x =
      kept x (with_builtin (with_slice x (slice x)) (builtin x))
      ∙ ap (λ (n : ℕ). hidden_in h (with_builtin (with_slice (hidden_in h x) n) (builtin x))) (e x)
      ∙ ap (λ (n : ℕ). hidden_in h (with_builtin (with_slice (hidden_in h x) (slice (hidden_in h x))) n)) (f x)

  -- it has another virtual time
  pub keeps_vtime : (n : ℕ) → Keeps (λ x. with_vtime x n)
  keeps_vtime n x = times x _ _ _ _ _ _ (since_twice h.waits x.since) refl (twice h.run_ns x.run_ns)

  -- it gets a new slice, if its slice has run out
  pub keeps_new_slice : Keeps with_new_slice
  keeps_new_slice x = alike_if (hidden_in h) (x.slice == 0) (x.slice == 0) (with_slice x default_slice) (with_slice (hidden_in h x) default_slice) x (hidden_in h x) refl (keeps_slice default_slice x) (again x)

  -- it has run for a tick
  pub keeps_tick : Keeps ran_a_tick
  keeps_tick x = times (with_slice x (counted_down x.slice)) _ _ _ _ _ _ (since_twice h.waits x.since) (twice h.vtime x.vtime) (grown h.run_ns x.run_ns tick_ns)

  -- its processor is another
  pub keeps_home : (c : ℕ) → Keeps (λ x. with_home x c)
  keeps_home c x = kept x (with_home x c)

  -- its slice is one that is told by the one before
  pub keeps_slice_by : (f : ℕ → ℕ) → Keeps (λ x. with_slice x (f x.slice))
  keeps_slice_by f x = kept x (with_slice x (f x.slice))

  -- it has a slice of 1 where it had none, if that is so wanted
  keeps_refilled : (b : Bool) → Keeps (λ x. cond (b && (x.slice == 0)) (with_slice x 1) x)
  keeps_refilled b x = alike_if (hidden_in h) (b && (x.slice == 0)) (b && (x.slice == 0)) (with_slice x 1) (with_slice (hidden_in h x) 1) x (hidden_in h x) refl (keeps_slice 1 x) (again x)

  keeps_given_slice : (i : Insert) → Keeps (λ x. given_slice x i)
  keeps_given_slice i x = alike_if (hidden_in h) (i.slice == 0) (i.slice == 0) _ _ (with_slice x i.slice) (with_slice (hidden_in h x) i.slice) refl (keeps_refilled i.refills x) (keeps_slice i.slice x)

  -- it is inserted somewhere
  pub keeps_insert : (i : Insert) → Keeps (λ x. task_after_insert x i)
  keeps_insert i = insert_stays (hidden_in h) again keeps_vtime i (keeps_given_slice i)

  -- a program stores to a field of it
  pub keeps_store : (f : Field) (n : ℕ) → Keeps (λ x. stored_in x f n)
  keeps_store = store_stays (hidden_in h) again keeps_vtime keeps_slice

  -- ---- lists of records

  -- a task's record is changed
  pub keeps_set : (g : Task → Task) → Keeps g → (xs : List Task) (t : ℕ) → all_hidden h (set xs t (g (get_or xs t no_task))) ≡ all_hidden h (set (all_hidden h xs) t (g (get_or (all_hidden h xs) t no_task)))
  keeps_set g k [] t = refl
  keeps_set g k (x ∷ xs) zero = ap (λ (y : Task). y ∷ all_hidden h xs) (k x) ∙ ap (λ (ys : List Task). hidden_in h (g (hidden_in h x)) ∷ ys) (all_again xs)
  keeps_set g k (x ∷ xs) (suc t) = ap (λ (y : Task). y ∷ all_hidden h (set xs t (g (get_or xs t no_task)))) (again x) ∙ ap (λ (ys : List Task). hidden_in h (hidden_in h x) ∷ ys) (keeps_set g k xs t)

  -- what is the same of each record is the same of a task's
  pub read_same : {A : Type 0} (f : Task → A) → ((x : Task) → f x ≡ f (hidden_in h x)) → (xs : List Task) (t : ℕ) → f (get_or xs t no_task) ≡ f (get_or (all_hidden h xs) t no_task)
  read_same f k [] t = refl
  read_same f k (x ∷ xs) zero = k x
  read_same f k (x ∷ xs) (suc t) = read_same f k xs t

  -- there are as many records
  pub length_same : (xs : List Task) → length xs ≡ length (all_hidden h xs)
  length_same [] = refl
  length_same (x ∷ xs) = ap suc (length_same xs)

  place_same : (p : Task → Bool) → ((x : Task) → p x ≡ p (hidden_in h x)) → (xs : List Task) → position_or_len p xs ≡ position_or_len p (all_hidden h xs)
  place_same p k [] = refl
  place_same p k (x ∷ xs) = ap (λ (b : Bool). cond (not b) (1 + position_or_len p xs) 0) (k x) ∙ ap (λ (n : ℕ). cond (not (p (hidden_in h x))) (1 + n) 0) (place_same p k xs)

  -- the first one that passes a test that says the same of each
  pub first_same : (p : Task → Bool) → ((x : Task) → p x ≡ p (hidden_in h x)) → (xs : List Task) → position p xs ≡ position p (all_hidden h xs)
  first_same p k xs =
      ap (λ (n : ℕ). cond (nat_lt n (length xs)) (Some n) None) (place_same p k xs)
      ∙ ap (λ (l : ℕ). cond (nat_lt (position_or_len p (all_hidden h xs)) l) (Some (position_or_len p (all_hidden h xs))) None) (length_same xs)
