-- A task that is in one place at most runs on one processor, or waits in one queue, or does neither.
use Rattle.std.proofs.Common.{◌≡◌, ℕ, zero, suc, ◌+◌, ◌<◌, ◌≤◌, nat_lt, Bool, true, false, not, cond, List, [], ◌∷◌, length, get_or, Option, Some, None, is_some, refl, sym, ap, ◌∙◌, subst, arith, ⊎_elim}
use Rattle.std.specs.Prelude.{position}
use Rattle.std.specs.List.{position_or_len}
use Rattle.std.proofs.lemmas.Bool.{cases_lt, lt-ltb, le-ltb, eqb-true, eq-eqb}
use Rattle.std.proofs.lemmas.List.Sums.{sum_by-cons}
use Rattle.scx_dsq.specs.declared.entries.Entry.{Entry}
use Rattle.scx_dsq.specs.Laws.{one_if, standing}
use Rattle.scx_dsq.specs.Queues.{entry_of}
use Rattle.scx_sched_world.specs.World.{WorldState, is_this, is_runnable, cpu_of}
use Rattle.scx_sched.specs.Once.{runs, IsOnce}
use Rattle.scx_explore_findings.proofs.CpusTold.{RunOnce}
use Rattle.scx_explore_findings.proofs.KeysTold.{none_isnt_one, some_same}

-- true is so
abbrev IsSo : Bool → Type 0
IsSo true = Unit {0}
IsSo false = ⊥

false_isnt_so : false ≡ true → ⊥
false_isnt_so e = subst IsSo (sym e) tt

one_small : (b : Bool) → one_if b ≤ 1
one_small true = let is : 1 ≤ 1 = omega arith in is
one_small false = let is : 0 ≤ 1 = omega arith in is

one_true : (b : Bool) → 1 ≤ one_if b → b ≡ true
one_true true l = refl
one_true false l = let less : 1 ≤ 0 = l in absurd (omega (arith, less))

one_false : (b : Bool) → one_if b ≤ 0 → b ≡ false
one_false false l = refl
one_false true l = let less : 1 ≤ 0 = l in absurd (omega (arith, less))

one_told : (b c : Bool) → one_if b ≡ one_if c → b ≡ c
one_told true true e = refl
one_told false false e = refl
one_told true false e = let is : 1 ≡ 0 = e in absurd (omega (arith, is))
one_told false true e = let is : 0 ≡ 1 = e in absurd (omega (arith, is))

this_there : (t : ℕ) (o : Option ℕ) → is_this t o ≡ true → o ≡ Some t
this_there t None e = absurd (false_isnt_so e)
this_there t (Some u) e = ap (λ (x : ℕ). Some x) (sym (eqb-true t u e))

is_this_there : (t : ℕ) (o : Option ℕ) → o ≡ Some t → is_this t o ≡ true
is_this_there t o e = ap (λ (x : Option ℕ). is_this t x) e ∙ eq-eqb t t refl

-- ---- the processor of a task

-- the test holds where it is found to hold first
found : (p : Option ℕ → Bool) (xs : List (Option ℕ)) → position_or_len p xs < length xs → p (get_or xs (position_or_len p xs) None) ≡ true
found p [] l = absurd (omega (arith, l))
found p (x ∷ xs) l = go (p x) refl l (λ k. found p xs k)
  where
    go : (b : Bool) → p x ≡ b → cond (not b) (1 + position_or_len p xs) 0 < length (x ∷ xs) → (position_or_len p xs < length xs → p (get_or xs (position_or_len p xs) None) ≡ true) → p (get_or (x ∷ xs) (cond (not b) (1 + position_or_len p xs) 0) None) ≡ true
    go true e few more = e
    go false e few more =
        let step : suc (position_or_len p xs) ≡ 1 + position_or_len p xs = omega arith in
        subst (λ (i : ℕ). p (get_or (x ∷ xs) i None) ≡ true) step (more (omega (arith, few)))

placed : (i n c : ℕ) → cond (nat_lt i n) (Some i) None ≡ Some c → (i ≡ c) × (i < n)
placed i n c e =
    ⊎_elim (λ (l : i < n). (some_same i c (ap (λ (b : Bool). cond b (Some i) None) (sym (lt-ltb i n l)) ∙ e), l))
    (λ (l : n ≤ i). absurd (none_isnt_one c (ap (λ (b : Bool). cond b (Some i) None) (sym (le-ltb i n l)) ∙ e)))
    (cases_lt i n)

-- the task runs on the processor that is found
pub runs_where : (t : ℕ) (xs : List (Option ℕ)) (c : ℕ) → position (is_this t) xs ≡ Some c → get_or xs c None ≡ Some t
runs_where t xs c e =
    let i = position_or_len (is_this t) xs in
    let is = placed i (length xs) c e in
    subst (λ (k : ℕ). get_or xs k None ≡ Some t) is.0 (this_there t (get_or xs i None) (found (is_this t) xs is.1))

-- which is there
pub cpu_there : (t : ℕ) (xs : List (Option ℕ)) (c : ℕ) → position (is_this t) xs ≡ Some c → c < length xs
cpu_there t xs c e =
    let is = placed (position_or_len (is_this t) xs) (length xs) c e in
    subst (λ (k : ℕ). k < length xs) is.0 is.1

some_run : (t : ℕ) (xs : List (Option ℕ)) (c : ℕ) → get_or xs c None ≡ Some t → 1 ≤ runs xs t
some_run t [] c e = absurd (none_isnt_one t e)
some_run t (x ∷ xs) zero e =
    let here : ◌≡◌ {A = ℕ} (one_if (is_this t x)) 1 = ap one_if (is_this_there t x e) in
    omega (arith, sum_by-cons (λ o. one_if (is_this t o)) x xs, here)
some_run t (x ∷ xs) (suc c) e = omega (arith, sum_by-cons (λ o. one_if (is_this t o)) x xs, some_run t xs c e)

-- a task that runs on one processor at most is found there
first_there : (t : ℕ) (xs : List (Option ℕ)) (c : ℕ) → runs xs t ≤ 1 → get_or xs c None ≡ Some t → (position_or_len (is_this t) xs ≡ c) × (c < length xs)
first_there t [] c l e = absurd (none_isnt_one t e)
first_there t (x ∷ xs) zero l e = (ap (λ (b : Bool). cond (not b) (1 + position_or_len (is_this t) xs) 0) (is_this_there t x e), omega arith)
first_there t (x ∷ xs) (suc c) l e =
    let others : runs xs t ≤ 1 = omega (arith, l, sum_by-cons (λ o. one_if (is_this t o)) x xs) in
    let more = first_there t xs c others e in
    let none : is_this t x ≡ false = one_false (is_this t x) (omega (arith, l, sum_by-cons (λ o. one_if (is_this t o)) x xs, some_run t xs c e)) in
    let step : 1 + position_or_len (is_this t) xs ≡ suc c = omega (arith, more.0) in
    (ap (λ (b : Bool). cond (not b) (1 + position_or_len (is_this t) xs) 0) none ∙ step, omega (arith, more.1))

flag_there : (bs : List Bool) (t : ℕ) → get_or bs t false ≡ true → t < length bs
flag_there [] t e = absurd (false_isnt_so e)
flag_there (b ∷ bs) zero e = omega arith
flag_there (b ∷ bs) (suc t) e = omega (arith, flag_there bs t e)

-- ---- worlds

module _ (w : WorldState) (once : IsOnce None w) where
  in_one : (t : ℕ) → runs w.cpus t + standing w.queues t ≡ one_if (is_runnable w t)
  in_one t =
      let is : runs w.cpus t + standing w.queues t + 0 ≡ one_if (is_runnable w t) = once t in
      omega (arith, is)

  on_one : (t : ℕ) → runs w.cpus t ≤ 1
  on_one t = omega (arith, in_one t, one_small (is_runnable w t))

  -- each task runs once at most
  pub run_once : (n : ℕ) → length w.tree.active ≡ n → RunOnce n w.cpus
  run_once n flags = record {
    few = λ c t e.
        let some = some_run t w.cpus c e in
        let on = one_true (is_runnable w t) (omega (arith, some, in_one t)) in
        subst (λ (k : ℕ). t < k) flags (flag_there w.tree.active t on);
    first = λ c t e.
        let is = first_there t w.cpus c (on_one t) e in
        ap (λ (i : ℕ). cond (nat_lt i (length w.cpus)) (Some i) None) is.0 ∙ ap (λ (b : Bool). cond b (Some c) None) (lt-ltb c (length w.cpus) is.1);
    there = λ c t e. runs_where t w.cpus c e;
  }

  -- a task that runs waits in no queue
  pub runner_waits_not : (t c : ℕ) → cpu_of w t ≡ Some c → entry_of w.queues t ≡ None
  runner_waits_not t c e =
      let some = some_run t w.cpus c (runs_where t w.cpus c e) in
      none_there (entry_of w.queues t) (one_false (is_some (entry_of w.queues t)) (omega (arith, some, in_one t, one_small (is_runnable w t))))
    where
      none_there : (o : Option Entry) → is_some o ≡ false → o ≡ None
      none_there None k = refl
      none_there (Some p) k = absurd (false_isnt_so (sym k))

-- the same tasks are runnable where the same run and wait
pub runnable_told : (v w : WorldState) → IsOnce None v → IsOnce None w → v.cpus ≡ w.cpus → (t : ℕ) → is_some (entry_of v.queues t) ≡ is_some (entry_of w.queues t) → is_runnable v t ≡ is_runnable w t
runnable_told v w one other cpus t waits =
    one_told (is_runnable v t) (is_runnable w t)
    (sym (in_one v one t)
    ∙ (ap (λ (xs : List (Option ℕ)). runs xs t + standing v.queues t) cpus
    ∙ (ap (λ (b : Bool). runs w.cpus t + one_if b) waits ∙ in_one w other t)))
