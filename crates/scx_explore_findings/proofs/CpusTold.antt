-- The processors of tasks tell the task of each processor.
use Rattle.std.proofs.Common.{◌≡◌, ℕ, suc, ◌<◌, List, [], ◌∷◌, length, get_or, position, Option, Some, None, refl, sym, ap, ◌∙◌, subst, arith}
use Rattle.scx_sched_world.specs.World.{is_this}

-- some is one
abbrev IsOne : Option ℕ → Type 0
IsOne None = ⊥
IsOne (Some t) = Unit {0}

none_isnt_one : (t : ℕ) → None ≡ Some t → ⊥
none_isnt_one t e = subst IsOne (sym e) tt

some_same : (a b : ℕ) → Some a ≡ Some b → a ≡ b
some_same a b e = ap (λ (o : Option ℕ). or_that o) e
  where
    or_that : Option ℕ → ℕ
    or_that None = a
    or_that (Some x) = x

-- lists that are the same at each place
pub lists_same : (xs ys : List (Option ℕ)) → length xs ≡ length ys → ((c : ℕ) → get_or xs c None ≡ get_or ys c None) → xs ≡ ys
lists_same [] [] n e = refl
lists_same [] (y ∷ ys) n e = absurd (omega (arith, n))
lists_same (x ∷ xs) [] n e = absurd (omega (arith, n))
lists_same (x ∷ xs) (y ∷ ys) n e = ap (λ (o : Option ℕ). o ∷ xs) (e 0) ∙ ap (λ (l : List (Option ℕ)). y ∷ l) (lists_same xs ys (omega (arith, n)) (λ c. e (suc c)))

-- each task that runs is one of n, and runs on that processor alone
pub record RunOnce (n : ℕ) (xs : List (Option ℕ)) : Type 0 where
  pub few : (c t : ℕ) → get_or xs c None ≡ Some t → t < n
  pub first : (c t : ℕ) → get_or xs c None ≡ Some t → position (is_this t) xs ≡ Some c
  pub there : (c t : ℕ) → position (is_this t) xs ≡ Some c → get_or xs c None ≡ Some t

module _ (n : ℕ) (xs ys : List (Option ℕ)) (one : RunOnce n xs) (other : RunOnce n ys) (same : (t : ℕ) → t < n → position (is_this t) xs ≡ position (is_this t) ys) where
  runs_there : (c t : ℕ) → get_or xs c None ≡ Some t → get_or ys c None ≡ Some t
  runs_there c t e = other.there c t (sym (same t (one.few c t e)) ∙ one.first c t e)

-- the same task runs on each processor, or none does
pub cpus_told : (n : ℕ) (xs ys : List (Option ℕ)) → length xs ≡ length ys → RunOnce n xs → RunOnce n ys → ((t : ℕ) → t < n → position (is_this t) xs ≡ position (is_this t) ys) → xs ≡ ys
cpus_told n xs ys long one other same = lists_same xs ys long (λ c. go c (get_or xs c None) (get_or ys c None) refl refl)
  where
    go : (c : ℕ) (a b : Option ℕ) → get_or xs c None ≡ a → get_or ys c None ≡ b → a ≡ b
    go c (Some t) b e f = sym (runs_there n xs ys one other same c t e) ∙ f
    go c None (Some t) e f = sym e ∙ runs_there n ys xs other one (λ u l. sym (same u l)) c t f
    go c None None e f = refl
