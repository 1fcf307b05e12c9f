-- A policy hears of processors that are idle, one after another, as it begins.
use Rattle.std.proofs.Common.{◌≡◌, ℕ, zero, suc, ◌+◌, ◌<◌, ◌≤◌, ◌⊎◌, ◌∙◌, inl, inr, ◌++◌, ℤ, Ok, Err, refl, sym, arith, add-one, subst}
use Rattle.std.proofs.lemmas.Bool.{cases_eq}
use Rattle.scx_sched_machine.specs.Steps.{State, CallMade}
use Rattle.scx_sched_machine.specs.Callbacks.{AreAnswered}
use Rattle.scx_sched_machine.specs.Start.{then_idle, after_idles, idle_calls, idle_calls_below}
use Rattle.scx_sched_machine.specs.Hearing.{Hears}
use Rattle.scx_sched_machine.proofs.Taking.{answered_append, Hears-append}

-- one processor more
pub idle_next : (n : ℕ) (s : State) → after_idles (n + 1) s ≡ then_idle (after_idles n s) n
idle_next n s = rw add-one refl

-- where one has failed no more is heard
pub idle_none : (n k : ℕ) (s : State) (x : ℤ) → k ≤ n → after_idles k s ≡ Err x → after_idles n s ≡ Err x
idle_none zero zero s x l e = e
idle_none zero (suc k) s x l e = absurd (omega (arith, l))
idle_none (suc n) k s x l e = go (cases_eq k (suc n)) (λ d. idle_none n k s x (omega (arith, l, d)) e)
  where
    go : (k ≡ suc n) ⊎ (k ≡ suc n → ⊥) → ((k ≡ suc n → ⊥) → after_idles n s ≡ Err x) → then_idle (after_idles n s) n ≡ Err x
    go (inl is) f = subst (λ m. after_idles m s ≡ Err x) is e
    go (inr d) f = rw (f d) refl

-- the next one fails
pub idle_fails : (n k : ℕ) (s t : State) (x : ℤ) → k < n → after_idles k s ≡ Ok t → then_idle (Ok t) k ≡ Err x → after_idles n s ≡ Err x
idle_fails n k s t x l e f = idle_none n (k + 1) s x (omega (arith, l)) (idle_next k s ∙ rw e f)

-- ---- their callbacks are answered

-- its call is answered where it doesn't fail
pub idle_answered_next : (n : ℕ) (s t : State) → after_idles n s ≡ Ok t → AreAnswered (idle_calls_below n s) → AreAnswered (idle_calls (Ok t) n) → AreAnswered (idle_calls_below (n + 1) s)
idle_answered_next n s t e before next = rw add-one (answered_append (idle_calls_below n s) (idle_calls (after_idles n s) n) before (subst (λ o. AreAnswered (idle_calls o n)) (sym e) next))

-- after one that failed no more are called
pub idle_answered_none : (n k : ℕ) (s : State) (x : ℤ) → k ≤ n → after_idles k s ≡ Err x → AreAnswered (idle_calls_below k s) → AreAnswered (idle_calls_below n s)
idle_answered_none zero zero s x l e h = h
idle_answered_none zero (suc k) s x l e h = absurd (omega (arith, l))
idle_answered_none (suc n) k s x l e h = go (cases_eq k (suc n)) (λ d. idle_answered_none n k s x (omega (arith, l, d)) e h)
  where
    go : (k ≡ suc n) ⊎ (k ≡ suc n → ⊥) → ((k ≡ suc n → ⊥) → AreAnswered (idle_calls_below n s)) → AreAnswered (idle_calls_below n s ++ idle_calls (after_idles n s) n)
    go (inl is) f = subst (λ m. AreAnswered (idle_calls_below m s)) is h
    go (inr d) f =
        let none = idle_none n k s x (omega (arith, l, d)) e in
        answered_append (idle_calls_below n s) (idle_calls (after_idles n s) n) (f d) (subst (λ o. AreAnswered (idle_calls o n)) (sym none) tt)

-- and where it fails, so are all up to it
pub idle_answered_fails : (n k : ℕ) (s t : State) (x : ℤ) → k < n → after_idles k s ≡ Ok t → then_idle (Ok t) k ≡ Err x → AreAnswered (idle_calls_below k s) → AreAnswered (idle_calls (Ok t) k) → AreAnswered (idle_calls_below n s)
idle_answered_fails n k s t x l e f before next = idle_answered_none n (k + 1) s x (omega (arith, l)) (idle_next k s ∙ rw e f) (idle_answered_next k s t e before next)

-- ---- and a hearer is told of them

-- of the next call where it doesn't fail
pub idle_heard_next : {T : Type 0} (hears : T → CallMade → T → Type 0) (n : ℕ) (s t : State) (a b c : T) → after_idles n s ≡ Ok t → Hears hears a (idle_calls_below n s) b → Hears hears b (idle_calls (Ok t) n) c → Hears hears a (idle_calls_below (n + 1) s) c
idle_heard_next hears n s t a b c e before next = rw add-one (Hears-append hears a b c (idle_calls_below n s) (idle_calls (after_idles n s) n) before (subst (λ o. Hears hears b (idle_calls o n) c) (sym e) next))

-- after one that failed it is told of no more
pub idle_heard_none : {T : Type 0} (hears : T → CallMade → T → Type 0) (n k : ℕ) (s : State) (x : ℤ) (a b : T) → k ≤ n → after_idles k s ≡ Err x → Hears hears a (idle_calls_below k s) b → Hears hears a (idle_calls_below n s) b
idle_heard_none hears zero zero s x a b l e h = h
idle_heard_none hears zero (suc k) s x a b l e h = absurd (omega (arith, l))
idle_heard_none {T} hears (suc n) k s x a b l e h = go (cases_eq k (suc n)) (λ d. idle_heard_none hears n k s x a b (omega (arith, l, d)) e h)
  where
    go : (k ≡ suc n) ⊎ (k ≡ suc n → ⊥) → ((k ≡ suc n → ⊥) → Hears hears a (idle_calls_below n s) b) → Hears hears a (idle_calls_below (suc n) s) b
    go (inl is) f = subst (λ m. Hears hears a (idle_calls_below m s) b) is h
    go (inr d) f =
        let none = idle_none n k s x (omega (arith, l, d)) e in
        Hears-append hears a b b (idle_calls_below n s) (idle_calls (after_idles n s) n) (f d) (subst (λ o. Hears hears b (idle_calls o n) b) (sym none) refl)

-- and where it fails, of none after it
pub idle_heard_fails : {T : Type 0} (hears : T → CallMade → T → Type 0) (n k : ℕ) (s t : State) (x : ℤ) (a b c : T) → k < n → after_idles k s ≡ Ok t → then_idle (Ok t) k ≡ Err x → Hears hears a (idle_calls_below k s) b → Hears hears b (idle_calls (Ok t) k) c → Hears hears a (idle_calls_below n s) c
idle_heard_fails hears n k s t x a b c l e f before next = idle_heard_none hears n (k + 1) s x a c (omega (arith, l)) (idle_next k s ∙ rw e f) (idle_heard_next hears k s t a b c e before next)
