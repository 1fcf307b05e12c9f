-- The lowest processor for which a test holds, as the lowest bit that is set.
use Rattle.std.proofs.Common.{◌≡◌, ℕ, zero, suc, ◌&&◌, not, Bool, true, false, ◌==◌, ◌-◌, ◌*◌, ◌%◌, ◌<◌, ◌≤◌, ◌^◌, min, ◌⊎◌, inl, inr, Option, Some, None, is_none, length, refl, sym, ap, ◌∙◌, arith}
use Rattle.std.specs.Int.{w64, bit_at, bit_not, trailing_zeros}
use Rattle.std.specs.Int.Bits.{bit_and}
use Rattle.std.specs.Int.Count.{trailing_of_zero}
use Rattle.std.proofs.Math.Nat.{zero-min}
use Rattle.std.proofs.lemmas.Bool.{cases_eq, eq-eqb, ne_eqb}
use Rattle.std.proofs.lemmas.Nat.Bits.{bit_at-zero, bit_at-lt, bit_at_ones, bit_at_and, bit_at_not, bit_at-trailing_zeros, bit_at_clear_same, bit_at_clear_other}
use Rattle.scx_dsq.specs.Laws.{one_if}
use Rattle.scx_weights.specs.Hierarchy.{Hierarchy, mask_of, is_in_mask}
use Rattle.scx_sched_world.specs.Kept.{AreTaken, AreSetFor}
use Rattle.scx_sched_world.specs.World.{WorldState, is_free, this_if, or_this, binds, may_run, lowest_below, lowest_cpu, first_home, is_in_mask_but, has_one_cpu, is_free_for}
use Rattle.scx_sched_world.specs.Helpers.{is_free_in, may_go}

-- none so far
none_below : (n : ℕ) (p : ℕ → Bool) → ((k : ℕ) → k < n → p k ≡ false) → lowest_below n p ≡ None
none_below zero p all = refl
none_below (suc n) p all = rw (none_below n p (λ k l. all k (omega (arith, l))), all n (omega arith)) refl

-- the first that is
one_below : (n i : ℕ) (p : ℕ → Bool) → i < n → p i ≡ true → ((k : ℕ) → k < i → p k ≡ false) → lowest_below n p ≡ Some i
one_below zero i p l here all = absurd (omega (arith, l))
one_below (suc n) i p l here all = go (cases_eq i n) (λ d. one_below n i p (omega (arith, l, d)) here all)
  where
    go : (i ≡ n) ⊎ (i ≡ n → ⊥) → ((i ≡ n → ⊥) → lowest_below n p ≡ Some i) → or_this (lowest_below n p) (this_if (p n) n) ≡ Some i
    go (inl e) f = rw (← e, none_below i p all, here) refl
    go (inr d) f = rw (f d) refl

is_set : (b : Bool) → one_if b ≡ 1 → b ≡ true
is_set true e = refl
is_set false e = absurd (omega (arith, e))

is_clear : (b : Bool) → one_if b ≡ 0 → b ≡ false
is_clear true e = absurd (omega (arith, e))
is_clear false e = refl

-- the lowest bit is that of the first processor for which the test holds
pub lowest_is : (bits : ℕ) (w : WorldState) (p : ℕ → Bool) → bits < 2 ^ 64 → length w.cpus ≤ 64 → AreSetFor bits w p → trailing_zeros w64 bits < length w.cpus → lowest_cpu w p ≡ Some (trailing_zeros w64 bits)
lowest_is bits w p fits few h l = go (cases_eq bits 0)
  where
    go : (bits ≡ 0) ⊎ (bits ≡ 0 → ⊥) → lowest_cpu w p ≡ Some (trailing_zeros w64 bits)
    go (inl none) = let end : trailing_zeros w64 bits ≡ 64 = ap (λ n. trailing_zeros w64 n) none ∙ trailing_of_zero 64 in absurd (omega (arith, end, l, few))
    go (inr some) =
        let found = bit_at-trailing_zeros w64 bits (omega (arith, some)) fits in
        one_below (length w.cpus) (trailing_zeros w64 bits) p l (is_set _ (sym (h (trailing_zeros w64 bits) l (omega (arith, l, few))) ∙ found.1)) (λ k m. is_clear _ (sym (h k (omega (arith, m, l)) (omega (arith, m, l, few))) ∙ found.2 k m))

-- where it is past the last, there is none
pub none_is : (bits : ℕ) (w : WorldState) (p : ℕ → Bool) → bits < 2 ^ 64 → length w.cpus ≤ 64 → AreSetFor bits w p → length w.cpus ≤ trailing_zeros w64 bits → lowest_cpu w p ≡ None
none_is bits w p fits few h past = none_below (length w.cpus) p (λ k l. is_clear _ (sym (h k l (omega (arith, l, few))) ∙ clear k l (cases_eq bits 0)))
  where
    clear : (k : ℕ) → k < length w.cpus → (bits ≡ 0) ⊎ (bits ≡ 0 → ⊥) → bit_at bits k ≡ 0
    clear k l (inl none) = ap (λ n. bit_at n k) none ∙ bit_at-zero k
    clear k l (inr some) = (bit_at-trailing_zeros w64 bits (omega (arith, some)) fits).2 k (omega (arith, l, past))

-- ---- processors on which a task may run

one_bit : (b : ℕ) → b < 2 → b ≡ one_if (b == 1)
one_bit b l = go (cases_eq b 1)
  where
    go : (b ≡ 1) ⊎ (b ≡ 1 → ⊥) → b ≡ one_if (b == 1)
    go (inl one) = rw one refl
    go (inr d) = let none : b ≡ 0 = omega (arith, l, d) in rw none refl

-- a bit of a task's mask
pub in_mask : (t : Hierarchy) (k c : ℕ) → bit_at (mask_of t k) c ≡ one_if (is_in_mask t k c)
in_mask t k c = one_bit (bit_at (mask_of t k) c) (bit_at-lt (mask_of t k) c)

-- where tasks are bound, it is in its mask
pub bound_home : (w : WorldState) (t c b : ℕ) → binds w ≡ true → b ≡ one_if (is_in_mask w.tree t c) → b ≡ one_if (may_run w t c)
bound_home w t c b bound e = rw bound e

-- where they aren't, it is anywhere
pub any_home : (w : WorldState) (t c : ℕ) → binds w ≡ false → c < 64 → bit_at (2 ^ 64 - 1) c ≡ one_if (may_run w t c)
any_home w t c free l = rw free (bit_at_ones 64 c l)

-- all bits but for one
pub but_one : (bits : ℕ) (w : WorldState) (t home : ℕ) → home < 64 → ((c : ℕ) → bit_at bits c ≡ one_if (is_in_mask w.tree t c)) → AreSetFor (bit_and bits (bit_not w64 (1 * 2 ^ home % 2 ^ 64))) w (is_in_mask_but w t home)
but_one bits w t home low h c l m = go (cases_eq c home)
  where
    neither : (b : Bool) → 0 ≡ one_if (b && false)
    neither true = refl
    neither false = refl

    both : (b : Bool) → one_if b ≡ one_if (b && true)
    both true = refl
    both false = refl

    go : (c ≡ home) ⊎ (c ≡ home → ⊥) → bit_at (bit_and bits (bit_not w64 (1 * 2 ^ home % 2 ^ 64))) c ≡ one_if (is_in_mask_but w t home c)
    go (inl e) = rw (eq-eqb c home e) (ap (λ k. bit_at (bit_and bits (bit_not w64 (1 * 2 ^ home % 2 ^ 64))) k) e ∙ bit_at_clear_same w64 bits home low ∙ neither (is_in_mask w.tree t c))
    go (inr d) = rw (ne_eqb c home d) (bit_at_clear_other w64 bits home low c m d ∙ h c ∙ both (is_in_mask w.tree t c))

-- what is so where another isn't
pub flipped : (a b : Bool) → a ≡ not b → b ≡ not a
flipped a true e = rw e refl
flipped a false e = rw e refl

-- where none but the lowest is left, a bound task may run on that one alone
pub one_alone : (w : WorldState) (t home : ℕ) (o : Option ℕ) → binds w ≡ true → home ≡ first_home w t → o ≡ lowest_cpu w (is_in_mask_but w t home) → is_none o ≡ has_one_cpu w t
one_alone w t home o bound is e = rw (e, is, bound) refl

-- a task that isn't bound may go everywhere
pub may_go_unbound : (w : WorldState) (t c : Option ℕ) → binds w ≡ false → may_go w t c ≡ true
may_go_unbound w None c free = refl
may_go_unbound w (Some t) None free = refl
may_go_unbound w (Some t) (Some c) free = rw free refl

-- ---- processors that may be chosen

-- a bit, without those of processors that aren't free
bit_left : (m : ℕ) (here : Bool) (t : ℕ) (free : Bool) → m ≡ one_if here → t ≡ one_if (not free) → min m (1 - t) ≡ one_if (here && free)
bit_left m true t true e f = rw (e, f) refl
bit_left m true t false e f = rw (e, f) refl
bit_left m false t free e f = rw e (zero-min (1 - t))

-- the bits that are left are set where the test holds and a processor is free
left_for : (bits taken : ℕ) (w : WorldState) (p : ℕ → Bool) → taken < 2 ^ 64 → ((c : ℕ) → c < 64 → bit_at bits c ≡ one_if (p c)) → AreTaken taken w → AreSetFor (bit_and bits (bit_not w64 taken)) w (λ c. p c && is_free w c)
left_for bits taken w p fits h k c l m =
    bit_at_and bits (bit_not w64 taken) c
    ∙ (ap (λ b. min (bit_at bits c) b) (bit_at_not w64 taken c fits m)
    ∙ bit_left (bit_at bits c) (p c) (bit_at taken c) (is_free w c) (h c m) (k c l))

-- of those on which a task may run
pub free_for : (homes taken : ℕ) (w : WorldState) (t : ℕ) → taken < 2 ^ 64 → ((c : ℕ) → c < 64 → bit_at homes c ≡ one_if (may_run w t c)) → AreTaken taken w → AreSetFor (bit_and homes (bit_not w64 taken)) w (is_free_for w t)
free_for homes taken w t fits h k = left_for homes taken w (may_run w t) fits h k

-- of a mask
pub free_in : (mask taken : ℕ) (w : WorldState) → taken < 2 ^ 64 → AreTaken taken w → AreSetFor (bit_and mask (bit_not w64 taken)) w (is_free_in mask w)
free_in mask taken w fits k = left_for mask taken w (λ c. bit_at mask c == 1) fits (λ c l. one_bit (bit_at mask c) (bit_at-lt mask c)) k
