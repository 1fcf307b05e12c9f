-- A list with one element changed, index by index.
use Rattle.std.proofs.Common.{◌≡◌, ℕ, zero, suc, ◌+◌, ◌<◌, ◌≤◌, ◌⊎◌, inl, inr, List, [], ◌∷◌, length, set, slice_index_or, ◌∙◌, arith}
use Rattle.std.proofs.lemmas.Bool.{cases_eq}
use Rattle.std.proofs.lemmas.List.{get_or-set_same, get_or-set_other}

-- what holds at the changed index and at each other one holds at all
pub set_each : {A : Type 0} (P : ℕ → A → Type 0) (xs : List A) (d : A) (i : ℕ) (x : A) → ((j : ℕ) → P j d) → P i x
    → ((j : ℕ) → (j ≡ i → ⊥) → P j (slice_index_or xs j d)) → (j : ℕ) → P j (slice_index_or (set xs i x) j d)
set_each P [] d i x none new old j = none j
set_each P (y ∷ ys) d zero x none new old zero = new
set_each P (y ∷ ys) d zero x none new old (suc j) = old (suc j) (λ e. cc)
set_each P (y ∷ ys) d (suc i) x none new old zero = old zero (λ e. cc)
set_each P (y ∷ ys) d (suc i) x none new old (suc j) =
    set_each (λ k. P (suc k)) ys d i x (λ k. none (suc k)) new (λ k n. old (suc k) (λ e. n (cc))) j

-- a loop that writes f of two lists' elements at each index
pub joined_more : {A : Type 0} (f : A → A → A) (joined xs ys : List A) (i : ℕ) (x d : A) → i < length joined → x ≡ f (slice_index_or xs i d) (slice_index_or ys i d)
    → ((k : ℕ) → k < i → slice_index_or joined k d ≡ f (slice_index_or xs k d) (slice_index_or ys k d))
    → (k : ℕ) → k < i + 1 → slice_index_or (set joined i x) k d ≡ f (slice_index_or xs k d) (slice_index_or ys k d)
joined_more f joined xs ys i x d short e so_far k lt = go (cases_eq k i)
  where
    go : (k ≡ i) ⊎ (k ≡ i → ⊥) → slice_index_or (set joined i x) k d ≡ f (slice_index_or xs k d) (slice_index_or ys k d)
    go (inl same) = rw same (get_or-set_same joined i x d short ∙ e)
    go (inr other) = get_or-set_other joined i k x d other ∙ so_far k (omega arith)

-- where it writes them in place, what stands ahead stays
pub joined_later : {A : Type 0} (joined xs : List A) (i : ℕ) (x d : A) → ((k : ℕ) → i ≤ k → slice_index_or joined k d ≡ slice_index_or xs k d)
    → (k : ℕ) → i + 1 ≤ k → slice_index_or (set joined i x) k d ≡ slice_index_or xs k d
joined_later joined xs i x d later k le = get_or-set_other joined i k x d (λ e. omega (arith, e, le)) ∙ later k (omega arith)
