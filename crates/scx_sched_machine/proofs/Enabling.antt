-- Tasks are enabled one after another.
use Rattle.std.proofs.Common.{◌≡◌, ℕ, zero, suc, ◌+◌, ◌<◌, ◌≤◌, ◌⊎◌, ◌∙◌, inl, inr, ◌++◌, ℤ, Ok, Err, refl, sym, arith, add-one, subst}
use Rattle.std.proofs.lemmas.Bool.{cases_eq}
use Rattle.scx_sched_machine.specs.Steps.{State, CallMade}
use Rattle.scx_sched_machine.specs.Callbacks.{AreAnswered}
use Rattle.scx_sched_machine.specs.Start.{then_enable, after_enables, enable_calls, calls_below}
use Rattle.scx_sched_machine.specs.Hearing.{Hears}
use Rattle.scx_sched_machine.proofs.Taking.{answered_append, Hears-append}

-- one task more
pub enabled_next : (n : ℕ) (s : State) → after_enables (n + 1) s ≡ then_enable (after_enables n s) n
enabled_next n s = rw add-one refl

-- where one has failed no more are enabled
pub enabled_none : (n k : ℕ) (s : State) (x : ℤ) → k ≤ n → after_enables k s ≡ Err x → after_enables n s ≡ Err x
enabled_none zero zero s x l e = e
enabled_none zero (suc k) s x l e = absurd (omega (arith, l))
enabled_none (suc n) k s x l e = go (cases_eq k (suc n)) (λ d. enabled_none n k s x (omega (arith, l, d)) e)
  where
    go : (k ≡ suc n) ⊎ (k ≡ suc n → ⊥) → ((k ≡ suc n → ⊥) → after_enables n s ≡ Err x) → then_enable (after_enables n s) n ≡ Err x
    go (inl is) f = subst (λ m. after_enables m s ≡ Err x) is e
    go (inr d) f = rw (f d) refl

-- the next one fails
pub enabled_fails : (n k : ℕ) (s t : State) (x : ℤ) → k < n → after_enables k s ≡ Ok t → then_enable (Ok t) k ≡ Err x → after_enables n s ≡ Err x
enabled_fails n k s t x l e f = enabled_none n (k + 1) s x (omega (arith, l)) (enabled_next k s ∙ rw e f)

-- ---- their callbacks are answered

-- its call is answered where it is enabled
pub answered_next : (n : ℕ) (s t : State) → after_enables n s ≡ Ok t → AreAnswered (calls_below n s) → AreAnswered (enable_calls (Ok t) n) → AreAnswered (calls_below (n + 1) s)
answered_next n s t e before next = rw add-one (answered_append (calls_below n s) (enable_calls (after_enables n s) n) before (subst (λ o. AreAnswered (enable_calls o n)) (sym e) next))

-- after one that failed no more are called
pub answered_none : (n k : ℕ) (s : State) (x : ℤ) → k ≤ n → after_enables k s ≡ Err x → AreAnswered (calls_below k s) → AreAnswered (calls_below n s)
answered_none zero zero s x l e h = h
answered_none zero (suc k) s x l e h = absurd (omega (arith, l))
answered_none (suc n) k s x l e h = go (cases_eq k (suc n)) (λ d. answered_none n k s x (omega (arith, l, d)) e h)
  where
    go : (k ≡ suc n) ⊎ (k ≡ suc n → ⊥) → ((k ≡ suc n → ⊥) → AreAnswered (calls_below n s)) → AreAnswered (calls_below n s ++ enable_calls (after_enables n s) n)
    go (inl is) f = subst (λ m. AreAnswered (calls_below m s)) is h
    go (inr d) f =
        let none = enabled_none n k s x (omega (arith, l, d)) e in
        answered_append (calls_below n s) (enable_calls (after_enables n s) n) (f d) (subst (λ o. AreAnswered (enable_calls o n)) (sym none) tt)

-- and where it isn't, so are all up to it
pub answered_fails : (n k : ℕ) (s t : State) (x : ℤ) → k < n → after_enables k s ≡ Ok t → then_enable (Ok t) k ≡ Err x → AreAnswered (calls_below k s) → AreAnswered (enable_calls (Ok t) k) → AreAnswered (calls_below n s)
answered_fails n k s t x l e f before next = answered_none n (k + 1) s x (omega (arith, l)) (enabled_next k s ∙ rw e f) (answered_next k s t e before next)

-- ---- and a hearer is told of them

-- of the next call where it is enabled
pub heard_next : {T : Type 0} (hears : T → CallMade → T → Type 0) (n : ℕ) (s t : State) (a b c : T) → after_enables n s ≡ Ok t → Hears hears a (calls_below n s) b → Hears hears b (enable_calls (Ok t) n) c → Hears hears a (calls_below (n + 1) s) c
heard_next hears n s t a b c e before next = rw add-one (Hears-append hears a b c (calls_below n s) (enable_calls (after_enables n s) n) before (subst (λ o. Hears hears b (enable_calls o n) c) (sym e) next))

-- after one that failed it is told of no more
pub heard_none : {T : Type 0} (hears : T → CallMade → T → Type 0) (n k : ℕ) (s : State) (x : ℤ) (a b : T) → k ≤ n → after_enables k s ≡ Err x → Hears hears a (calls_below k s) b → Hears hears a (calls_below n s) b
heard_none hears zero zero s x a b l e h = h
heard_none hears zero (suc k) s x a b l e h = absurd (omega (arith, l))
heard_none {T} hears (suc n) k s x a b l e h = go (cases_eq k (suc n)) (λ d. heard_none hears n k s x a b (omega (arith, l, d)) e h)
  where
    go : (k ≡ suc n) ⊎ (k ≡ suc n → ⊥) → ((k ≡ suc n → ⊥) → Hears hears a (calls_below n s) b) → Hears hears a (calls_below (suc n) s) b
    go (inl is) f = subst (λ m. Hears hears a (calls_below m s) b) is h
    go (inr d) f =
        let none = enabled_none n k s x (omega (arith, l, d)) e in
        Hears-append hears a b b (calls_below n s) (enable_calls (after_enables n s) n) (f d) (subst (λ o. Hears hears b (enable_calls o n) b) (sym none) refl)

-- and where it isn't, of none after it
pub heard_fails : {T : Type 0} (hears : T → CallMade → T → Type 0) (n k : ℕ) (s t : State) (x : ℤ) (a b c : T) → k < n → after_enables k s ≡ Ok t → then_enable (Ok t) k ≡ Err x → Hears hears a (calls_below k s) b → Hears hears b (enable_calls (Ok t) k) c → Hears hears a (calls_below n s) c
heard_fails hears n k s t x a b c l e f before next = heard_none hears n (k + 1) s x a c (omega (arith, l)) (enabled_next k s ∙ rw e f) (heard_next hears k s t a b c e before next)
