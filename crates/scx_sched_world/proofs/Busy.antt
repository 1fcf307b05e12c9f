-- The set of processors on which a task runs, as bits.
use Rattle.std.proofs.Common.{◌≡◌, ◌≢◌, ℕ, ◌&&◌, not, Bool, ◌*◌, ◌%◌, ◌<◌, ◌≤◌, ◌^◌, max, ◌==◌, true, false, ◌⊎◌, inl, inr, List, length, set, get_or, replicate, Option, Some, None, is_none, is_some, refl, subst, ◌∙◌, ap, arith}
use Rattle.std.specs.Int.{w64, bit_at, bit_not}
use Rattle.std.specs.Int.Bits.{bit_or, bit_and}
use Rattle.std.proofs.lemmas.Bool.{cases_eq, eq-eqb, ne_eqb, lt-ltb}
use Rattle.std.proofs.lemmas.List.{length-replicate, get_or-replicate, get_or-set_same, get_or-set_other, length-set}
use Rattle.std.proofs.lemmas.Nat.Bits.{bit_at-zero, bit_at_set_same, bit_at_set_other, bit_at_clear_same, bit_at_clear_other, bit_at_or, bit_at-lt}
use Rattle.scx_dsq.specs.Laws.{one_if}
use Rattle.scx_sched_world.specs.CpuSets.{is_in_set}
use Rattle.scx_sched_world.specs.Kept.{AreBusy, AreOccupied, AreTaken}
use Rattle.scx_sched_world.specs.World.{WorldState, running, is_this, is_idle, is_by_linux}

-- ---- one bit set or cleared

-- a bit that is set
pub set_here : (bits k : ℕ) → k < 64 → bit_at (bit_or bits (1 * 2 ^ k % 2 ^ 64)) k ≡ 1
set_here bits k l = bit_at_set_same w64 bits k l

-- and the others
pub set_others : (bits k i : ℕ) → k < 64 → i ≢ k → bit_at (bit_or bits (1 * 2 ^ k % 2 ^ 64)) i ≡ bit_at bits i
set_others bits k i l d = bit_at_set_other w64 bits k l i d

-- a bit that is cleared
pub cleared_here : (bits k : ℕ) → k < 64 → bit_at (bit_and bits (bit_not w64 (1 * 2 ^ k % 2 ^ 64))) k ≡ 0
cleared_here bits k l = bit_at_clear_same w64 bits k l

-- and the others
pub cleared_others : (bits k i : ℕ) → k < 64 → i < 64 → i ≢ k → bit_at (bit_and bits (bit_not w64 (1 * 2 ^ k % 2 ^ 64))) i ≡ bit_at bits i
cleared_others bits k i l m d = bit_at_clear_other w64 bits k l i m d

-- ---- what the set says

-- at first nothing runs
pub none_busy : (n : ℕ) → AreBusy 0 (replicate n None)
none_busy n c l =
    let here : get_or (replicate {A = Option ℕ} n None) c None ≡ None = get_or-replicate {A = Option ℕ} n c None None (subst (λ k. c < k) (length-replicate {A = Option ℕ} n None) l) in
    rw here (bit_at-zero c)

-- a processor gets a task or loses it
pub busy_set : (bits bits' k : ℕ) (o : Option ℕ) (cpus : List (Option ℕ)) → k < length cpus → length cpus ≤ 64 → bit_at bits' k ≡ one_if (is_some o) → ((i : ℕ) → i < 64 → i ≢ k → bit_at bits' i ≡ bit_at bits i) → AreBusy bits cpus → AreBusy bits' (set cpus k o)
busy_set bits bits' k o cpus within few here others h c l = go (cases_eq c k)
  where
    known : c < length cpus
    known = subst (λ n. c < n) (length-set cpus k o) l

    go : (c ≡ k) ⊎ (c ≡ k → ⊥) → bit_at bits' c ≡ one_if (is_some (get_or (set cpus k o) c None))
    go (inl e) = rw (e, get_or-set_same cpus k o None within) here
    go (inr d) = rw (get_or-set_other cpus k c o None d) (others c (omega (arith, known, few)) d ∙ h c known)

-- ---- processors that aren't idle

known : (w : WorldState) (c : ℕ) → c < length w.cpus → is_idle w c ≡ (is_none (running w c) && not (is_this c w.cycling))
known w c l = rw (lt-ltb c (length w.cpus) l) refl

taken_if : (o : Option ℕ) (b : Bool) → b ≡ false → one_if (is_some o) ≡ one_if (not (is_none o && not b))
taken_if None b e = rw e refl
taken_if (Some t) b e = refl

taken_here : (a b : Bool) → b ≡ true → 1 ≡ one_if (not (a && not b))
taken_here true b e = rw e refl
taken_here false b e = refl

-- outside of a cycle
occupied_plain : (bits : ℕ) (w : WorldState) → AreBusy bits w.cpus → ((c : ℕ) → c < length w.cpus → is_this c w.cycling ≡ false) → AreOccupied bits w
occupied_plain bits w h off c l = rw (known w c l) (h c l ∙ taken_if (get_or w.cpus c None) (is_this c w.cycling) (off c l))

-- no cycle is under way
pub occupied_none : (bits : ℕ) (w : WorldState) → w.cycling ≡ None → AreBusy bits w.cpus → AreOccupied bits w
occupied_none bits w e h = occupied_plain bits w h (λ c l. rw e refl)

-- or one on a processor that there isn't
pub occupied_past : (bits k : ℕ) (w : WorldState) → w.cycling ≡ Some k → length w.cpus ≤ k → AreBusy bits w.cpus → AreOccupied bits w
occupied_past bits k w e past h = occupied_plain bits w h (λ c l. rw e (ne_eqb c k (λ x. omega (arith, x, past, l))))

-- within one its processor counts too
pub occupied_set : (bits bits' k : ℕ) (w : WorldState) → w.cycling ≡ Some k → length w.cpus ≤ 64 → bit_at bits' k ≡ 1 → ((i : ℕ) → i < 64 → i ≢ k → bit_at bits' i ≡ bit_at bits i) → AreBusy bits w.cpus → AreOccupied bits' w
occupied_set bits bits' k w e few here others h c l = rw (known w c l) (go (cases_eq c k))
  where
    go : (c ≡ k) ⊎ (c ≡ k → ⊥) → bit_at bits' c ≡ one_if (not (is_none (running w c) && not (is_this c w.cycling)))
    go (inl is) = ap (λ i. bit_at bits' i) is ∙ here ∙ taken_here (is_none (running w c)) (is_this c w.cycling) (rw e (eq-eqb c k is))
    go (inr d) = others c (omega (arith, l, few)) d ∙ h c l ∙ taken_if (get_or w.cpus c None) (is_this c w.cycling) (rw e (ne_eqb c k d))

-- ---- processors that aren't free

taken_either : (a b : ℕ) (idle : Bool) → b < 2 → a ≡ one_if (not idle) → max a b ≡ one_if (not (idle && not (b == 1)))
taken_either a b true l e = go (cases_eq b 1)
  where
    go : (b ≡ 1) ⊎ (b ≡ 1 → ⊥) → max a b ≡ one_if (not (not (b == 1)))
    go (inl one) = rw (e, one) refl
    go (inr d) = let none : b ≡ 0 = omega (arith, l, d) in rw (e, none) refl
taken_either a b false l e = go (cases_eq b 1)
  where
    go : (b ≡ 1) ⊎ (b ≡ 1 → ⊥) → max a b ≡ 1
    go (inl one) = rw (e, one) refl
    go (inr d) = let none : b ≡ 0 = omega (arith, l, d) in rw (e, none) refl

-- who is claimed is taken too, under Linux rules
pub taken_claimed : (bits : ℕ) (w : WorldState) → is_by_linux w ≡ true → AreOccupied bits w → AreTaken (bit_or bits w.claimed.0) w
taken_claimed bits w linux h c l =
    rw linux (bit_at_or bits w.claimed.0 c ∙ taken_either (bit_at bits c) (bit_at w.claimed.0 c) (is_idle w c) (bit_at-lt w.claimed.0 c) (h c l))

taken_alone : (a : ℕ) (idle linux claimed : Bool) → linux ≡ false → a ≡ one_if (not idle) → a ≡ one_if (not (idle && not (linux && claimed)))
taken_alone a true linux claimed off e = rw off e
taken_alone a false linux claimed off e = e

-- and nobody else is
pub taken_unclaimed : (bits : ℕ) (w : WorldState) → is_by_linux w ≡ false → AreOccupied bits w → AreTaken bits w
taken_unclaimed bits w off h c l = taken_alone (bit_at bits c) (is_idle w c) (is_by_linux w) (is_in_set w.claimed c) off (h c l)
