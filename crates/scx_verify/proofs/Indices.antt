-- States that are kept by their indices: what is known of each slot once one is kept, joined or let go.
use Rattle.std.proofs.Common.{◌≡◌, ℕ, zero, suc, ◌<◌, ◌≤◌, ◌⊎◌, inl, inr, Bool, true, false, if◌then◌else◌, List, [], ◌∷◌, ◌++◌, length, set, replicate, slice_get, slice_index_or, Option, Some, None, refl, sym, ap, ◌∙◌, subst, arith}
use Rattle.std.proofs.lemmas.Bool.{cases_eq}
use Rattle.std.proofs.lemmas.List.{get_or-set_same, get_or-set_other, length-set, length-map, length-append}
use Rattle.std.proofs.lemmas.Option.{slice_get_within, slice_get-get_or}
use Rattle.scx_abs.specs.declared.states.AbsState.{AbsState}
use Rattle.scx_verify.specs.Indices.{index_at, state_of, known_of, IsApart, IsPlacedAt}
use Rattle.scx_verify.specs.Pass.{states_of}

-- ---- lists

same_index : (i k : ℕ) → Some i ≡ Some k → i ≡ k
same_index i k e = cc

no_index : (i : ℕ) (o : Option ℕ) → o ≡ None → o ≡ Some i → ⊥
no_index i o e f = let bad : None ≡ Some i = sym e ∙ f in absurd (cc)

get_set_same : {X : Type 0} (xs : List X) (i : ℕ) (x : X) → i < length xs → slice_get (set xs i x) i ≡ Some x
get_set_same [] i x lt = absurd (omega arith)
get_set_same (y ∷ ys) zero x lt = refl
get_set_same (y ∷ ys) (suc i) x lt = get_set_same ys i x (omega arith)

get_set_other : {X : Type 0} (xs : List X) (i j : ℕ) (x : X) → (j ≡ i → ⊥) → slice_get (set xs i x) j ≡ slice_get xs j
get_set_other [] i j x n = refl
get_set_other (y ∷ ys) zero zero x n = absurd (n refl)
get_set_other (y ∷ ys) zero (suc j) x n = refl
get_set_other (y ∷ ys) (suc i) zero x n = refl
get_set_other (y ∷ ys) (suc i) (suc j) x n = get_set_other ys i j x (λ e. n (ap suc e))

get_last : {X : Type 0} (xs : List X) (x : X) → slice_get (xs ++ x ∷ []) (length xs) ≡ Some x
get_last [] x = refl
get_last (y ∷ ys) x = get_last ys x

get_earlier : {X : Type 0} (xs : List X) (x : X) (j : ℕ) → j < length xs → slice_get (xs ++ x ∷ []) j ≡ slice_get xs j
get_earlier [] x j lt = absurd (omega arith)
get_earlier (y ∷ ys) x zero lt = refl
get_earlier (y ∷ ys) x (suc j) lt = get_earlier ys x j (omega arith)

get_behind : (xs : List ℕ) (i j k : ℕ) → slice_get (xs ++ i ∷ []) j ≡ Some k → (slice_get xs j ≡ Some k) ⊎ ((j ≡ length xs) × (k ≡ i))
get_behind [] i zero k e = inr (refl, same_index k i (sym e))
get_behind [] i (suc j) k e = absurd (no_index k None refl e)
get_behind (x ∷ xs) i zero k e = inl e
get_behind (x ∷ xs) i (suc j) k e = go (get_behind xs i j k e)
  where
    go : (slice_get xs j ≡ Some k) ⊎ ((j ≡ length xs) × (k ≡ i)) → (slice_get xs j ≡ Some k) ⊎ ((suc j ≡ length (x ∷ xs)) × (k ≡ i))
    go (inl p) = inl p
    go (inr p) = let at = p.0 in inr (omega (arith, at), p.1)

-- ---- what is known of a slot

known_at : (indices : List (Option ℕ)) (states : List AbsState) (t : ℕ) → states_of (known_of indices states) t ≡ state_of states (index_at indices t)
known_at [] states t = refl
known_at (x ∷ xs) states zero = refl
known_at (x ∷ xs) states (suc t) = known_at xs states t

known_long : (indices : List (Option ℕ)) (states : List AbsState) → length (known_of indices states) ≡ length indices
known_long indices states = length-map indices (λ o. state_of states o)

-- a slot that has a place has an index or none
pub within : (indices : List (Option ℕ)) (states : List AbsState) (now : List (Option AbsState)) (slot : ℕ) → known_of indices states ≡ now → slot < length now → slot < length indices
within indices states now slot view lt =
    let long = known_long indices states in
    let same : length (known_of indices states) ≡ length now = ap length view in
    omega (arith, lt, long, same)

-- as it was read
index_read : (indices : List (Option ℕ)) (t : ℕ) (o d : Option ℕ) → t < length indices → o ≡ slice_index_or indices t d → index_at indices t ≡ o
index_read [] t o d lt e = absurd (omega arith)
index_read (x ∷ xs) zero o d lt e = sym e
index_read (x ∷ xs) (suc t) o d lt e = index_read xs t o d (omega arith) e

-- the index that is read at a slot is the one that the slot has
pub read_there : (indices : List (Option ℕ)) (states : List AbsState) (now : List (Option AbsState)) (slot : ℕ) (o d : Option ℕ) → known_of indices states ≡ now → slot < length now → o ≡ slice_index_or indices slot d → index_at indices slot ≡ o
read_there indices states now slot o d view lt e = index_read indices slot o d (within indices states now slot view lt) e

-- nothing is known at first
none_at : (n t : ℕ) (o : Option ℕ) → o ≡ None → index_at (replicate n o) t ≡ None
none_at zero t o e = refl
none_at (suc n) zero o e = e
none_at (suc n) (suc t) o e = none_at n t o e

-- no slot has a state where none has an index
pub nothing_known : (n : ℕ) (indices : List (Option ℕ)) (states : List AbsState) (o : Option ℕ) → o ≡ None → indices ≡ replicate n o → (t : ℕ) → states_of (known_of indices states) t ≡ None
nothing_known n indices states o e all t = known_at indices states t ∙ ap (λ j. state_of states j) (ap (λ l. index_at l t) all ∙ none_at n t o e)

-- ---- no two slots have the same

record IsFresh (indices : List (Option ℕ)) (free : List ℕ) (i : ℕ) : Type 0 where
  no_slot : (t : ℕ) → index_at indices t ≡ Some i → ⊥
  not_free : (j : ℕ) → slice_get free j ≡ Some i → ⊥

taken_at : (indices : List (Option ℕ)) (slot i t k : ℕ) → slot < length indices → index_at (set indices slot (Some i)) t ≡ Some k → ((t ≡ slot) × (k ≡ i)) ⊎ (index_at indices t ≡ Some k)
taken_at indices slot i t k lt e = go (cases_eq t slot)
  where
    go : (t ≡ slot) ⊎ (t ≡ slot → ⊥) → ((t ≡ slot) × (k ≡ i)) ⊎ (index_at indices t ≡ Some k)
    go (inl same) =
        let now : index_at (set indices slot (Some i)) t ≡ Some i = ap (λ s. index_at (set indices slot (Some i)) s) same ∙ get_or-set_same indices slot (Some i) None lt in
        inl (same, same_index k i (sym e ∙ now))
    go (inr n) = inr (sym (get_or-set_other indices slot t (Some i) None n) ∙ e)

apart_taken : (indices : List (Option ℕ)) (free : List ℕ) (count slot i : ℕ) → IsApart indices free count → slot < length indices → IsFresh indices free i → i < count → IsApart (set indices slot (Some i)) free count
apart_taken indices free count slot i h lt fresh small = record {
  within = λ t k e. inside t k (taken_at indices slot i t k lt e);
  once = λ s t k e f. one s t k (taken_at indices slot i s k lt e) (taken_at indices slot i t k lt f);
  free_within = h.free_within;
  free_once = h.free_once;
  free_apart = λ j t k e f. apart j t k e (taken_at indices slot i t k lt f);
}
  where
    inside : (t k : ℕ) → ((t ≡ slot) × (k ≡ i)) ⊎ (index_at indices t ≡ Some k) → k < count
    inside t k (inl p) = let same = p.1 in omega (arith, same, small)
    inside t k (inr p) = h.within t k p

    one : (s t k : ℕ) → ((s ≡ slot) × (k ≡ i)) ⊎ (index_at indices s ≡ Some k) → ((t ≡ slot) × (k ≡ i)) ⊎ (index_at indices t ≡ Some k) → s ≡ t
    one s t k (inl p) (inl q) = p.0 ∙ sym q.0
    one s t k (inl p) (inr q) = absurd (fresh.no_slot t (q ∙ ap Some p.1))
    one s t k (inr p) (inl q) = absurd (fresh.no_slot s (p ∙ ap Some q.1))
    one s t k (inr p) (inr q) = h.once s t k p q

    apart : (j t k : ℕ) → slice_get free j ≡ Some k → ((t ≡ slot) × (k ≡ i)) ⊎ (index_at indices t ≡ Some k) → ⊥
    apart j t k e (inl p) = fresh.not_free j (e ∙ ap Some p.1)
    apart j t k e (inr p) = h.free_apart j t k e p

left_at : (indices : List (Option ℕ)) (slot t k : ℕ) → slot < length indices → index_at (set indices slot None) t ≡ Some k → (index_at indices t ≡ Some k) × (t ≡ slot → ⊥)
left_at indices slot t k lt e = go (cases_eq t slot)
  where
    go : (t ≡ slot) ⊎ (t ≡ slot → ⊥) → (index_at indices t ≡ Some k) × (t ≡ slot → ⊥)
    go (inl same) = absurd (no_index k (index_at (set indices slot None) t) (ap (λ s. index_at (set indices slot None) s) same ∙ get_or-set_same indices slot None None lt) e)
    go (inr n) = (sym (get_or-set_other indices slot t None None n) ∙ e, n)

-- a slot lets its index go
apart_left : (indices : List (Option ℕ)) (free : List ℕ) (count slot : ℕ) → IsApart indices free count → slot < length indices → IsApart (set indices slot None) free count
apart_left indices free count slot h lt = record {
  within = λ t k e. h.within t k (left_at indices slot t k lt e).0;
  once = λ s t k e f. h.once s t k (left_at indices slot s k lt e).0 (left_at indices slot t k lt f).0;
  free_within = h.free_within;
  free_once = h.free_once;
  free_apart = λ j t k e f. h.free_apart j t k e (left_at indices slot t k lt f).0;
}

fresh_left : (indices : List (Option ℕ)) (free : List ℕ) (count slot i : ℕ) → IsApart indices free count → slot < length indices → index_at indices slot ≡ Some i → IsFresh (set indices slot None) free i
fresh_left indices free count slot i h lt there = record {
  no_slot = λ t e. (left_at indices slot t i lt e).1 (h.once t slot i (left_at indices slot t i lt e).0 there);
  not_free = λ j e. h.free_apart j slot i e there;
}

-- which is free then
apart_freed : (indices : List (Option ℕ)) (free : List ℕ) (count i : ℕ) → IsApart indices free count → IsFresh indices free i → i < count → IsApart indices (free ++ i ∷ []) count
apart_freed indices free count i h fresh small = record {
  within = h.within;
  once = h.once;
  free_within = λ j k e. inside j k (get_behind free i j k e);
  free_once = λ j l k e f. one j l k (get_behind free i j k e) (get_behind free i l k f);
  free_apart = λ j t k e f. apart j t k f (get_behind free i j k e);
}
  where
    inside : (j k : ℕ) → (slice_get free j ≡ Some k) ⊎ ((j ≡ length free) × (k ≡ i)) → k < count
    inside j k (inl p) = h.free_within j k p
    inside j k (inr p) = let same = p.1 in omega (arith, same, small)

    one : (j l k : ℕ) → (slice_get free j ≡ Some k) ⊎ ((j ≡ length free) × (k ≡ i)) → (slice_get free l ≡ Some k) ⊎ ((l ≡ length free) × (k ≡ i)) → j ≡ l
    one j l k (inl p) (inl q) = h.free_once j l k p q
    one j l k (inl p) (inr q) = absurd (fresh.not_free j (p ∙ ap Some q.1))
    one j l k (inr p) (inl q) = absurd (fresh.not_free l (q ∙ ap Some p.1))
    one j l k (inr p) (inr q) = p.0 ∙ sym q.0

    apart : (j t k : ℕ) → index_at indices t ≡ Some k → (slice_get free j ≡ Some k) ⊎ ((j ≡ length free) × (k ≡ i)) → ⊥
    apart j t k f (inl p) = h.free_apart j t k p f
    apart j t k f (inr p) = fresh.no_slot t (f ∙ ap Some p.1)

-- a free index is taken
earlier : (free : List ℕ) (i j k : ℕ) → slice_get free j ≡ Some k → slice_get (free ++ i ∷ []) j ≡ Some k
earlier free i j k e = get_earlier free i j (slice_get_within free j k e) ∙ e

apart_popped : (indices : List (Option ℕ)) (free : List ℕ) (count i : ℕ) → IsApart indices (free ++ i ∷ []) count → IsApart indices free count
apart_popped indices free count i h = record {
  within = h.within;
  once = h.once;
  free_within = λ j k e. h.free_within j k (earlier free i j k e);
  free_once = λ j l k e f. h.free_once j l k (earlier free i j k e) (earlier free i l k f);
  free_apart = λ j t k e f. h.free_apart j t k (earlier free i j k e) f;
}

fresh_popped : (indices : List (Option ℕ)) (free : List ℕ) (count i : ℕ) → IsApart indices (free ++ i ∷ []) count → IsFresh indices free i
fresh_popped indices free count i h = record {
  no_slot = λ t e. h.free_apart (length free) t i (get_last free i) e;
  not_free = λ j e.
      let last : j ≡ length free = h.free_once j (length free) i (earlier free i j i e) (get_last free i) in
      let inside = slice_get_within free j i e in
      omega (arith, last, inside);
}

-- or one more is there
apart_grown : (indices : List (Option ℕ)) (free : List ℕ) (count more : ℕ) → IsApart indices free count → count ≤ more → IsApart indices free more
apart_grown indices free count more h le = record {
  within = λ t k e. let small = h.within t k e in omega (arith, small, le);
  once = h.once;
  free_within = λ j k e. let small = h.free_within j k e in omega (arith, small, le);
  free_once = h.free_once;
  free_apart = h.free_apart;
}

fresh_grown : (indices : List (Option ℕ)) (free : List ℕ) (count : ℕ) → IsApart indices free count → IsFresh indices free count
fresh_grown indices free count h = record {
  no_slot = λ t e. let small = h.within t count e in omega (arith, small);
  not_free = λ j e. let small = h.free_within j count e in omega (arith, small);
}

-- ---- a state is kept

-- the free ones are within
pub free_small : (indices : List (Option ℕ)) (free : List ℕ) (count : ℕ) → IsApart indices free count → (k d : ℕ) → k < length free → slice_index_or free k d < count
free_small indices free count h k d lt = h.free_within k (slice_index_or free k d) (slice_get-get_or free k d lt)

module _ (indices : List (Option ℕ)) (slot : ℕ) (states : List AbsState) (free : List ℕ) (i : ℕ) (a : AbsState) (after : List AbsState) (left : List ℕ) (lt : slot < length indices) (h : IsApart indices free (length states)) where
  pub kept_apart : IsPlacedAt states free i a after left → IsApart (set indices slot (Some i)) left (length after)
  kept_apart (inl k) =
      let old : IsApart indices (left ++ i ∷ []) (length states) = subst (λ l. IsApart indices l (length states)) k.0 h in
      let small : i < length states = old.free_within (length left) i (get_last left i) in
      let long : length after ≡ length states = ap length k.1 ∙ length-set states i a in
      subst (λ n. IsApart (set indices slot (Some i)) left n) (sym long)
      (apart_taken indices left (length states) slot i (apart_popped indices left (length states) i old) lt (fresh_popped indices left (length states) i old) small)
  kept_apart (inr k) =
      let long : length after ≡ length (states ++ a ∷ []) = ap length k.2 in
      let more = length-append states (a ∷ []) in
      let at = k.1 in
      let fresh : IsFresh indices free i = subst (λ n. IsFresh indices free n) (sym k.1) (fresh_grown indices free (length states) h) in
      subst (λ l. IsApart (set indices slot (Some i)) l (length after)) (sym k.0)
      (apart_taken indices free (length after) slot i (apart_grown indices free (length states) (length after) h (omega (arith, long, more))) lt fresh (omega (arith, long, more, at)))

  -- at its slot
  kept_state : IsPlacedAt states free i a after left → slice_get after i ≡ Some a
  kept_state (inl k) =
      let old : IsApart indices (left ++ i ∷ []) (length states) = subst (λ l. IsApart indices l (length states)) k.0 h in
      ap (λ l. slice_get l i) k.1 ∙ get_set_same states i a (old.free_within (length left) i (get_last left i))
  kept_state (inr k) = ap (λ l. slice_get l i) k.2 ∙ ap (slice_get (states ++ a ∷ [])) k.1 ∙ get_last states a

  pub kept_there : IsPlacedAt states free i a after left → states_of (known_of (set indices slot (Some i)) after) slot ≡ Some a
  kept_there k = known_at (set indices slot (Some i)) after slot ∙ ap (λ o. state_of after o) (get_or-set_same indices slot (Some i) None lt) ∙ kept_state k

  -- the others stay
  kept_same : IsPlacedAt states free i a after left → (t : ℕ) (o : Option ℕ) → index_at indices t ≡ o → state_of after o ≡ state_of states o
  kept_same k t None e = refl
  kept_same (inl k) t (Some j) e =
      let old : IsApart indices (left ++ i ∷ []) (length states) = subst (λ l. IsApart indices l (length states)) k.0 h in
      let fresh = fresh_popped indices left (length states) i old in
      ap (λ l. slice_get l j) k.1 ∙ get_set_other states i j a (λ same. fresh.no_slot t (e ∙ ap Some same))
  kept_same (inr k) t (Some j) e = ap (λ l. slice_get l j) k.2 ∙ get_earlier states a j (h.within t j e)

  pub kept_others : IsPlacedAt states free i a after left → (now : List (Option AbsState)) → known_of indices states ≡ now → (t : ℕ) → (t ≡ slot → ⊥) → states_of (known_of (set indices slot (Some i)) after) t ≡ states_of now t
  kept_others k now view t n =
      known_at (set indices slot (Some i)) after t ∙ ap (λ o. state_of after o) (get_or-set_other indices slot t (Some i) None n) ∙ kept_same k t (index_at indices t) refl ∙ sym (known_at indices states t) ∙ ap (λ l. states_of l t) view

-- ---- a state is joined in, or let go

-- a slot with an index has a state
pub found : (indices : List (Option ℕ)) (states : List AbsState) (free : List ℕ) (now : List (Option AbsState)) (slot i : ℕ) (o d : Option ℕ) → IsApart indices free (length states) → known_of indices states ≡ now → slot < length now
    → o ≡ slice_index_or indices slot d → o ≡ Some i → (index_at indices slot ≡ Some i) × (i < length states)
found indices states free now slot i o d h view lt read is =
    let there : index_at indices slot ≡ Some i = read_there indices states now slot o d view lt read ∙ is in
    (there, h.within slot i there)

-- nothing is known of a slot without index
pub none_there : (indices : List (Option ℕ)) (states : List AbsState) (now : List (Option AbsState)) (slot : ℕ) → known_of indices states ≡ now → index_at indices slot ≡ None → states_of now slot ≡ None
none_there indices states now slot view e = sym (ap (λ l. states_of l slot) view) ∙ known_at indices states slot ∙ ap (λ o. state_of states o) e

module _ (indices : List (Option ℕ)) (states : List AbsState) (now : List (Option AbsState)) (slot i : ℕ) (view : known_of indices states ≡ now) (there : index_at indices slot ≡ Some i) where
  -- the state of its index is known of the slot
  pub some_there : (b d : AbsState) → i < length states → b ≡ slice_index_or states i d → states_of now slot ≡ Some b
  some_there b d lt e = sym (ap (λ l. states_of l slot) view) ∙ known_at indices states slot ∙ ap (λ o. state_of states o) there ∙ slice_get-get_or states i d lt ∙ ap Some (sym e)

  pub joined_there : (x : AbsState) → i < length states → states_of (known_of indices (set states i x)) slot ≡ Some x
  joined_there x lt = known_at indices (set states i x) slot ∙ ap (λ o. state_of (set states i x) o) there ∙ get_set_same states i x lt

  joined_same : (free : List ℕ) → IsApart indices free (length states) → (x : AbsState) (t : ℕ) → (t ≡ slot → ⊥) → (o : Option ℕ) → index_at indices t ≡ o → state_of (set states i x) o ≡ state_of states o
  joined_same free h x t n None e = refl
  joined_same free h x t n (Some j) e = get_set_other states i j x (λ same. n (h.once t slot i (e ∙ ap Some same) there))

  pub joined_others : (free : List ℕ) → IsApart indices free (length states) → (x : AbsState) (t : ℕ) → (t ≡ slot → ⊥) → states_of (known_of indices (set states i x)) t ≡ states_of now t
  joined_others free h x t n = known_at indices (set states i x) t ∙ joined_same free h x t n (index_at indices t) refl ∙ sym (known_at indices states t) ∙ ap (λ l. states_of l t) view

  -- its index is free then, or forgotten
  pub freed_apart : (free left : List ℕ) → slot < length indices → IsApart indices free (length states) → (left ≡ free ++ i ∷ []) ⊎ (left ≡ free) → IsApart (set indices slot None) left (length states)
  freed_apart free left lt h (inl e) =
      let small = h.within slot i there in
      subst (λ l. IsApart (set indices slot None) l (length states)) (sym e)
      (apart_freed (set indices slot None) free (length states) i (apart_left indices free (length states) slot h lt) (fresh_left indices free (length states) slot i h lt there) small)
  freed_apart free left lt h (inr e) = subst (λ l. IsApart (set indices slot None) l (length states)) (sym e) (apart_left indices free (length states) slot h lt)

  -- and another state is left there
  pub exchanged_apart : (j : ℕ) (x : AbsState) (free left : List ℕ) → slot < length indices → IsApart indices free (length states) → (left ≡ free ++ i ∷ []) ⊎ (left ≡ free) → IsApart (set indices slot None) left (length (set states j x))
  exchanged_apart j x free left lt h pushed = subst (λ n. IsApart (set indices slot None) left n) (sym (length-set states j x)) (freed_apart free left lt h pushed)

  pub exchanged_others : (x : AbsState) (free : List ℕ) → IsApart indices free (length states) → (t : ℕ) → (t ≡ slot → ⊥) → states_of (known_of (set indices slot None) (set states i x)) t ≡ states_of now t
  exchanged_others x free h t n =
      known_at (set indices slot None) (set states i x) t ∙ ap (λ o. state_of (set states i x) o) (get_or-set_other indices slot t None None n) ∙ sym (known_at indices (set states i x) t) ∙ joined_others free h x t n

-- where memory is short the index is not among the free ones
pub pushed_or_not : (b : Bool) (free left : List ℕ) (i : ℕ) → left ≡ (if b then free ++ i ∷ [] else free) → (left ≡ free ++ i ∷ []) ⊎ (left ≡ free)
pushed_or_not true free left i e = inl e
pushed_or_not false free left i e = inr e

-- a slot that was reached
pub freed_there : (indices : List (Option ℕ)) (states : List AbsState) (slot : ℕ) → slot < length indices → states_of (known_of (set indices slot None) states) slot ≡ None
freed_there indices states slot lt = known_at (set indices slot None) states slot ∙ ap (λ o. state_of states o) (get_or-set_same indices slot None None lt)
