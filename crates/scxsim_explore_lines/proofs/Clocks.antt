-- The milliseconds that a list begins.
use Rattle.std.proofs.Common.{◌≡◌, ℕ, zero, suc, ◌+◌, ◌<◌, ◌≤◌, Bool, true, false, if◌then◌else◌, List, [], ◌∷◌, length, get_or, drop, ap, ◌∙◌, subst, sym, arith}
use Rattle.scx_sched_machine.specs.declared.events.Event.{Event}
use Rattle.scxsim_explore_lines.specs.Found.{is_clock, ms_begun}
use Rattle.scxsim_explore_lines.proofs.Rest.{no_rest}

rest_at : {A : Type 0} (xs : List A) (k : ℕ) (x : A) → k < length xs → get_or xs k x ≡ x → drop k xs ≡ x ∷ drop (suc k) xs
rest_at [] k x l is = absurd (omega (arith, l))
rest_at (y ∷ xs) zero x l is = ap (λ z. z ∷ xs) is
rest_at (y ∷ xs) (suc k) x l is = rest_at xs k x (omega (arith, l)) is

next_ms : (events : List Event) (k : ℕ) (e : Event) (first : Bool) → k < length events → get_or events k e ≡ e → ms_begun (drop k events) first ≡ ms_begun (e ∷ drop (k + 1) events) first
next_ms events k e first l is =
    let next : suc k ≡ k + 1 = omega arith in
    ap (λ es. ms_begun es first) (subst (λ n. drop k events ≡ e ∷ drop n events) next (rest_at events k e l is))

one_more : (count : ℕ) (e : Event) (es : List Event) (first : Bool) → (if first then count + 1 else count) + ms_begun es (is_clock e) ≡ count + ms_begun (e ∷ es) first
one_more count e es true = omega arith
one_more count e es false = omega arith

-- those of the events so far and of the rest, and of one event more
pub ms_more : (count total : ℕ) (first : Bool) (events : List Event) (k : ℕ) (e : Event) → k < length events → get_or events k e ≡ e
    → count + ms_begun (drop k events) first ≡ total → (if first then count + 1 else count) + ms_begun (drop (k + 1) events) (is_clock e) ≡ total
ms_more count total first events k e l is h =
    one_more count e (drop (k + 1) events) first ∙ ap (λ n. count + n) (sym (next_ms events k e first l is)) ∙ h

-- and of all events
pub ms_all : (count total : ℕ) (first : Bool) (events : List Event) (k : ℕ) → length events ≤ k → count + ms_begun (drop k events) first ≡ total → count ≡ total
ms_all count total first events k l h =
    let none : ms_begun (drop k events) first ≡ 0 = ap (λ es. ms_begun es first) (no_rest events k l) in
    omega (arith, none, h)
