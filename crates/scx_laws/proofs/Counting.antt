-- The number of tasks ahead of an entry in the line, as others come and go.
use Rattle.std.proofs.Common.{◌≡◌, ℕ, zero, suc, ◌+◌, ◌<◌, ◌≤◌, Bool, true, false, ◌==◌, ◌&&◌, List, [], ◌∷◌, length, get_or, Option, Some, None, count_by, refl, ap, ◌∙◌, arith}
use Rattle.std.proofs.lemmas.Bool.{and_parts, eq-eqb}
use Rattle.std.proofs.lemmas.List.Sums.{sum_by-cons, sum_by-set}
use Rattle.scx_dsq.specs.declared.entries.Entry.{Entry}
use Rattle.scx_dsq.specs.declared.entries.Rank.TheVariants.{Fifo}
use Rattle.scx_dsq.specs.Entries.{is_before, same_sort}
use Rattle.scx_dsq.specs.Laws.{one_if}
use Rattle.scx_dsq.specs.Queues.{QueueState, entry_of, is_ahead}
use Rattle.scx_dsq.specs.Calls.{without_task, after_push}
use Rattle.scx_laws.proofs.Overtaking.{WereThere, there_gone, there_pushed, fewer}

-- how many are ahead
abbrev pub ahead_in : QueueState → Entry → ℕ
ahead_in s e = count_by (is_ahead 0 e) s.entries

-- as long as each of them was there before, they are no more
ahead_fewer : (s s' : QueueState) (e : Entry) (fifo : same_sort e.rank Fifo ≡ true) → WereThere s e fifo s' → ahead_in s' e ≤ ahead_in s e
ahead_fewer s s' e fifo h = fewer (is_ahead 0 e) (is_ahead 0 e) refl s'.entries s.entries (λ u x. go u (entry_of s' u) refl x)
  where
    go : (u : ℕ) (o : Option Entry) → entry_of s' u ≡ o → is_ahead 0 e o ≡ true → is_ahead 0 e (entry_of s u) ≡ true
    go u None is x = absurd (cc)
    go u (Some p) is x = ap (λ (k : Option Entry). is_ahead 0 e k) (h.1 u p is (and_parts (p.queue == 0) (is_before p e) x).1) ∙ x

-- a task that leaves
pub ahead_left : (s : QueueState) (x : ℕ) (e : Entry) → same_sort e.rank Fifo ≡ true → e.stamp < s.pushes → ahead_in (without_task s x) e ≤ ahead_in s e
ahead_left s x e fifo l = ahead_fewer s (without_task s x) e fifo (there_gone s e fifo s x (l, λ u p is early. is))

-- one that comes
pub ahead_pushed : (s : QueueState) (q x : ℕ) (e : Entry) → same_sort e.rank Fifo ≡ true → e.stamp < s.pushes → ahead_in (after_push s q x Fifo) e ≤ ahead_in s e
ahead_pushed s q x e fifo l = ahead_fewer s (after_push s q x Fifo) e fifo (there_pushed s e fifo s q x (l, λ u p is early. is))

-- one that was ahead and leaves
pub ahead_gone : (s : QueueState) (x : ℕ) (e p : Entry) → x < length s.entries → entry_of s x ≡ Some p → p.queue ≡ 0 → is_before p e ≡ true → ahead_in (without_task s x) e + 1 ≡ ahead_in s e
ahead_gone s x e p l is here before =
    let was : one_if (is_ahead 0 e (get_or s.entries x None)) ≡ 1 = ap (λ (o : Option Entry). one_if (is_ahead 0 e o)) is ∙ ap (λ b. one_if (b && is_before p e)) (eq-eqb p.queue 0 here) ∙ ap one_if before in
    omega (arith, sum_by-set (λ o. one_if (is_ahead 0 e o)) s.entries x None None l, was)

-- ---- how many there can be

one_of : (a b : Bool) → (a && b) ≡ false → one_if a + one_if b ≤ 1
one_of true true e = absurd (cc)
one_of true false e = omega arith
one_of false true e = omega arith
one_of false false e = omega arith

-- where two tests never pass the same, they pass no more than there are
at_most : {A : Type 0} (f g : A → Bool) (d : A) (xs : List A) → ((i : ℕ) → (f (get_or xs i d) && g (get_or xs i d)) ≡ false) → count_by f xs + count_by g xs ≤ length xs
at_most f g d [] apart = omega arith
at_most f g d (x ∷ xs) apart = omega (arith, sum_by-cons (λ o. one_if (f o)) x xs, sum_by-cons (λ o. one_if (g o)) x xs, at_most f g d xs (λ i. apart (suc i)), one_of (f x) (g x) (apart 0))

-- and where both fail at one place, they pass fewer than there are
pub one_out : {A : Type 0} (f g : A → Bool) (d : A) (xs : List A) (r : ℕ) → r < length xs → ((i : ℕ) → (f (get_or xs i d) && g (get_or xs i d)) ≡ false) → f (get_or xs r d) ≡ false → g (get_or xs r d) ≡ false → count_by f xs + count_by g xs + 1 ≤ length xs
one_out f g d [] r l apart f-fails g-fails = absurd (omega (arith, l))
one_out f g d (x ∷ xs) zero l apart f-fails g-fails = omega (arith, sum_by-cons (λ o. one_if (f o)) x xs, sum_by-cons (λ o. one_if (g o)) x xs, at_most f g d xs (λ i. apart (suc i)), ap one_if f-fails, ap one_if g-fails)
one_out f g d (x ∷ xs) (suc r) l apart f-fails g-fails = omega (arith, sum_by-cons (λ o. one_if (f o)) x xs, sum_by-cons (λ o. one_if (g o)) x xs, one_out f g d xs r (omega (arith, l)) (λ i. apart (suc i)) f-fails g-fails, one_of (f x) (g x) (apart 0))

-- and where they fail at two places, by two
pub two_out : {A : Type 0} (f g : A → Bool) (d : A) (xs : List A) (r t : ℕ) → r < t → t < length xs → ((i : ℕ) → (f (get_or xs i d) && g (get_or xs i d)) ≡ false) → f (get_or xs r d) ≡ false → g (get_or xs r d) ≡ false → f (get_or xs t d) ≡ false → g (get_or xs t d) ≡ false → count_by f xs + count_by g xs + 2 ≤ length xs
two_out f g d [] r t before l apart f-fails g-fails f-too g-too = absurd (omega (arith, l))
two_out f g d (x ∷ xs) zero zero before l apart f-fails g-fails f-too g-too = absurd (omega (arith, before))
two_out f g d (x ∷ xs) zero (suc t) before l apart f-fails g-fails f-too g-too = omega (arith, sum_by-cons (λ o. one_if (f o)) x xs, sum_by-cons (λ o. one_if (g o)) x xs, one_out f g d xs t (omega (arith, l)) (λ i. apart (suc i)) f-too g-too, ap one_if f-fails, ap one_if g-fails)
two_out f g d (x ∷ xs) (suc r) zero before l apart f-fails g-fails f-too g-too = absurd (omega (arith, before))
two_out f g d (x ∷ xs) (suc r) (suc t) before l apart f-fails g-fails f-too g-too = omega (arith, sum_by-cons (λ o. one_if (f o)) x xs, sum_by-cons (λ o. one_if (g o)) x xs, two_out f g d xs r t (omega (arith, before)) (omega (arith, l)) (λ i. apart (suc i)) f-fails g-fails f-too g-too, one_of (f x) (g x) (apart 0))
