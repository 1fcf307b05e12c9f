-- A machine can be made of a workload's processors, groups and tasks.
use Rattle.std.proofs.Common.{◌≡◌, ℕ, zero, suc, ◌^◌, ◌<◌, ◌≤◌, ◌⊎◌, inl, inr, Bool, true, false, ◌&&◌, ◌||◌, ◌==◌, not, nat_lt, get_or, length, refl, sym, ◌∙◌, arith}
use Rattle.std.specs.Int.{bit_at}
use Rattle.std.proofs.lemmas.List.{get_or-replicate}
use Rattle.std.proofs.lemmas.Bool.{cases_eq}
use Rattle.std.proofs.lemmas.Nat.Bits.{bit_at-lt, bit_at-zero, same_from_bits_below}
use Rattle.std.proofs.lemmas.Nat.{pow_pos}
use Rattle.std.proofs.lemmas.Bool.Decides.{nat_tests}
use Rattle.scx_weights.specs.Counting.{any_below}
use Rattle.scx_weights.specs.Hierarchy.{is_active_task, masks_in}
use Rattle.scx_sched_machine.specs.Start.{is_bad_shape, is_nowhere}
use Rattle.scx_load_workloads.specs.Workload.{WorkloadState, IsWorkload, is_bound, first_tree}

none_passes : (n : ℕ) (test : ℕ → Bool) → ((k : ℕ) → k < n → test k ≡ false) → any_below n test ≡ false
none_passes zero test fails = refl
none_passes (suc n) test fails = rw (none_passes n test (λ k l. fails k (omega (arith, l))), fails n (omega arith)) refl

not_below : (a b : ℕ) → b ≤ a → nat_lt a b ≡ false
not_below a b l = grind (arith, nat_tests, l)

-- ---- each task may run somewhere

none_at : (n k : ℕ) (f : ℕ → Bool) → any_below n f ≡ false → k < n → f k ≡ false
none_at zero k f e l = absurd (omega (arith, l))
none_at (suc n) k f e l = go (any_below n f) (f n) refl refl e (cases_eq k n) (λ x d. none_at n k f x (omega (arith, l, d)))
  where
    go : (a b : Bool) → any_below n f ≡ a → f n ≡ b → (a || b) ≡ false → (k ≡ n) ⊎ (k ≡ n → ⊥) → (any_below n f ≡ false → (k ≡ n → ⊥) → f k ≡ false) → f k ≡ false
    go false false x y z (inl is) g = rw is y
    go false false x y z (inr d) g = g x d
    go true b x y z c g = absurd (cc)
    go false true x y z c g = absurd (cc)

-- a number with some bit that isn't 0 has one
some_bit : (k n : ℕ) → 0 < n → n < 2 ^ k → any_below k (λ c. bit_at n c == 1) ≡ true
some_bit k n some few = go (any_below k (λ c. bit_at n c == 1)) refl
  where
    off : (b : ℕ) → b < 2 → (b == 1) ≡ false → b ≡ 0
    off zero l e = refl
    off (suc zero) l e = absurd (cc)
    off (suc (suc b)) l e = absurd (omega (arith, l))

    go : (b : Bool) → any_below k (λ c. bit_at n c == 1) ≡ b → b ≡ true
    go true e = refl
    go false e =
        let none : n ≡ 0 = same_from_bits_below k n 0 few (pow_pos k) (λ i l. off (bit_at n i) (bit_at-lt n i) (none_at k i (λ c. bit_at n c == 1) e l) ∙ sym (bit_at-zero i)) in
        absurd (omega (arith, none, some))

and_false : (b : Bool) → (b && false) ≡ false
and_false true = refl
and_false false = refl

somewhere : (w : WorkloadState) → IsWorkload w → (t : ℕ) → t < length w.homes → is_nowhere (first_tree w) w.cpus t ≡ false
somewhere w whole t l = go (is_bound w.cpus w.masks)
  where
    go : (b : Bool) → (nat_lt 0 (length (masks_in b w.masks)) && not (any_below w.cpus (λ c. bit_at (get_or (masks_in b w.masks) t 0) c == 1))) ≡ false
    go false = refl
    go true =
        let m = whole.masks t (omega (arith, l, whole.masked)) in
        rw (some_bit w.cpus (get_or w.masks t 0) m.some m.there) (and_false (nat_lt 0 (length w.masks)))

-- none of its numbers is out of range
pub shape_is_right : (w : WorkloadState) → IsWorkload w → is_bad_shape (first_tree w) w.cpus ≡ false
shape_is_right w whole =
    let fine = none_passes (length w.homes) (λ t. is_active_task (first_tree w) t || is_nowhere (first_tree w) w.cpus t) (λ t l. rw (get_or-replicate (length w.homes) t false false l, somewhere w whole t l) refl) in
    rw (not_below w.cpus 1 whole.some_cpus, not_below 64 w.cpus whole.few_cpus, fine) refl
