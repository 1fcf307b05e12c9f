-- On which processors each task runs, as bits.
use Rattle.std.proofs.Common.{◌≡◌, ◌≢◌, ℕ, ◌^◌, ◌<◌, ◌≤◌, ◌⊎◌, inl, inr, Bool, true, false, List, length, set, get_or, replicate, position, Option, Some, None, refl, sym, subst, ap, ◌∙◌, arith}
use Rattle.std.specs.Int.{w64, bit_at, trailing_zeros}
use Rattle.std.proofs.lemmas.Bool.{cases_eq, cases_lt, eq-eqb, ne_eqb, lt-ltb}
use Rattle.std.proofs.lemmas.List.{get_or_default, get_or-set_same, get_or-set_other, get_or-replicate, get_or_past, length-replicate}
use Rattle.std.proofs.lemmas.List.Sums.{position_or_len_is}
use Rattle.std.specs.List.{position_or_len}
use Rattle.std.proofs.lemmas.Nat.Bits.{bit_at-zero, bit_at-trailing_zeros}
use Rattle.scx_dsq.specs.Laws.{one_if}
use Rattle.scx_dsq.proofs.Positions.{no_position}
use Rattle.scx_sched_world.specs.Kept.{AreOn, lowest_bit}
use Rattle.scx_sched_world.specs.World.{is_this}

-- ---- at first

nobody_at : (n c : ℕ) → get_or (replicate {A = Option ℕ} n None) c None ≡ None
nobody_at n c = go (cases_lt c n)
  where
    go : (c < n) ⊎ (n ≤ c) → get_or (replicate {A = Option ℕ} n None) c None ≡ None
    go (inl l) = get_or-replicate {A = Option ℕ} n c None None l
    go (inr past) = get_or_past (replicate {A = Option ℕ} n None) c None (rw (length-replicate {A = Option ℕ} n None) past)

-- at first no task runs
pub none_on : (tasks n : ℕ) → AreOn (replicate tasks 0) (replicate n None)
none_on tasks n t c l few = rw (get_or-replicate {A = ℕ} tasks t 0 0 (subst (λ k. t < k) (length-replicate {A = ℕ} tasks 0) l), nobody_at n c) (bit_at-zero c)

-- ---- as tasks come and go

-- the bits of a task that is set
pub set_one : (bits : List ℕ) (t u b k : ℕ) (runs : Bool) → t < length bits → bit_at b k ≡ one_if runs → Some t ≡ Some u → bit_at (get_or (set bits t b) u 0) k ≡ one_if runs
set_one bits t u b k runs l here e = rw (← same, get_or-set_same bits t b 0 l) here
  where
    same : t ≡ u
    same = cc

-- and the others
pub set_another : (bits : List ℕ) (t u b k c : ℕ) → t < length bits → ((i : ℕ) → i < 64 → i ≢ k → bit_at b i ≡ bit_at (get_or bits t 0) i) → c < 64 → (c ≡ k → Some t ≢ Some u) → bit_at (get_or (set bits t b) u 0) c ≡ bit_at (get_or bits u 0) c
set_another bits t u b k c l others few apart = go (cases_eq u t)
  where
    go : (u ≡ t) ⊎ (u ≡ t → ⊥) → bit_at (get_or (set bits t b) u 0) c ≡ bit_at (get_or bits u 0) c
    go (inl e) = rw (e, get_or-set_same bits t b 0 l) (others c few (λ x. apart x (ap Some (sym e))))
    go (inr d) = rw (get_or-set_other bits t u b 0 d) refl

-- a processor gets a task or loses it
pub on_set : (bits bits' : List ℕ) (k : ℕ) (o : Option ℕ) (cpus : List (Option ℕ)) → k < length cpus → length cpus ≤ 64 → length bits' ≡ length bits
    → ((t : ℕ) → t < length bits → bit_at (get_or bits t 0) k ≡ one_if (is_this t (get_or cpus k None)) → bit_at (get_or bits' t 0) k ≡ one_if (is_this t o))
    → ((t c : ℕ) → c < 64 → c ≢ k → bit_at (get_or bits' t 0) c ≡ bit_at (get_or bits t 0) c)
    → AreOn bits cpus → AreOn bits' (set cpus k o)
on_set bits bits' k o cpus within few long here others h t c l m = go (cases_eq c k)
  where
    known : t < length bits
    known = rw (← long) l

    go : (c ≡ k) ⊎ (c ≡ k → ⊥) → bit_at (get_or bits' t 0) c ≡ one_if (is_this t (get_or (set cpus k o) c None))
    go (inl e) = rw (e, get_or-set_same cpus k o None within) (here t known (h t k known (omega (arith, within, few))))
    go (inr d) = rw (get_or-set_other cpus k c o None d) (others t c m d ∙ h t c known m)

-- ---- the lowest one

first_at : {X : Type 0} (p : X → Bool) (xs : List X) (i : ℕ) (d : X) → i < length xs → p (get_or xs i d) ≡ true → ((k : ℕ) → k < i → p (get_or xs k d) ≡ false) → position p xs ≡ Some i
first_at p xs i d within passes before =
    let e : position_or_len p xs ≡ i = position_or_len_is p xs i d (omega (arith, within)) before (λ lt. passes) in
    rw (e, lt-ltb i (length xs) within) refl

is_set : (b : Bool) → 1 ≡ one_if b → b ≡ true
is_set true e = refl
is_set false e = absurd (omega (arith, e))

is_clear : (b : Bool) → 0 ≡ one_if b → b ≡ false
is_clear true e = absurd (omega (arith, e))
is_clear false e = refl

-- the lowest bit that is set is the first processor on which the task runs
pub lowest_on : (bits t : ℕ) (cpus : List (Option ℕ)) → bits < 2 ^ 64 → length cpus ≤ 64
    → ((c : ℕ) → c < 64 → bit_at bits c ≡ one_if (is_this t (get_or cpus c None)))
    → position (is_this t) cpus ≡ lowest_bit bits
lowest_on bits t cpus fits few h = go (cases_eq bits 0)
  where
    go : (bits ≡ 0) ⊎ (bits ≡ 0 → ⊥) → position (is_this t) cpus ≡ lowest_bit bits
    go (inl e) =
        no_position (is_this t) cpus (λ k d l. is_clear _ (sym (ap (λ b. bit_at b k) e ∙ bit_at-zero k) ∙ h k (omega (arith, l, few)) ∙ ap (λ o. one_if (is_this t o)) (get_or_default cpus k None d l)))
        ∙ rw (eq-eqb bits 0 e) refl
    go (inr d) = rw (ne_eqb bits 0 d) (first_at (is_this t) cpus low None within passes (λ k l. is_clear _ (sym (found.2 k l) ∙ h k (omega (arith, l, found.0)))))
      where
        low : ℕ
        low = trailing_zeros w64 bits

        found : (low < 64) × (bit_at bits low ≡ 1) × ((i : ℕ) → i < low → bit_at bits i ≡ 0)
        found = bit_at-trailing_zeros w64 bits (omega (arith, d)) fits

        passes : is_this t (get_or cpus low None) ≡ true
        passes = is_set _ (sym found.1 ∙ h low found.0)

        within : low < length cpus
        within = by (cases_lt low (length cpus))
          where
            no_task : true ≡ false → ⊥
            no_task e = cc

            by : (low < length cpus) ⊎ (length cpus ≤ low) → low < length cpus
            by (inl l) = l
            by (inr past) = absurd (no_task (sym passes ∙ ap (λ o. is_this t o) (get_or_past cpus low None past)))
