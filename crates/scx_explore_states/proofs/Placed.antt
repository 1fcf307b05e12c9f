-- Places of lists.
use Rattle.std.proofs.Common.{◌≡◌, ℕ, zero, suc, ◌+◌, ◌<◌, ◌≤◌, List, [], ◌∷◌, length, take, get_or, All, refl, sym, ap, ◌∙◌, subst, arith, ⊎_elim}
use Rattle.std.specs.Prelude.{Contains}
use Rattle.std.proofs.lemmas.Bool.{cases_eq}
use Rattle.std.proofs.lemmas.List.{take_all}
use Rattle.scx_sched_world.specs.World.{WorldState}
use Rattle.scx_sched_world.specs.Helpers.{cpus_of}
use Rattle.scx_explore_states.specs.declared.form.Form.{Form}
use Rattle.scx_explore_states.specs.declared.rows.Row.{Row}
use Rattle.scx_explore_states.specs.Written.{IsFair, home_at, own_order, task_in}

-- what stands inside a list is no default
any : {X : Type 0} (xs : List X) (k : ℕ) (d e : X) → k < length xs → get_or xs k d ≡ get_or xs k e
any [] k d e l = absurd (omega (arith, l))
any (x ∷ xs) zero d e l = refl
any (x ∷ xs) (suc k) d e l = any xs k d e (omega (arith, l))

-- so of rows
pub any_default : (rows : List Row) (k : ℕ) (d e : Row) → k < length rows → get_or rows k d ≡ get_or rows k e
any_default rows k d e l = any rows k d e l

-- what stands there is in the list
pub contains_at : (xs : List ℕ) (k x d : ℕ) → k < length xs → get_or xs k d ≡ x → Contains xs x
contains_at xs k x d l is = (k, l, any xs k x d l ∙ is)

-- where there are no more they are their own first ones
pub few_are_all : (xs ys : List ℕ) (n : ℕ) → ys ≡ xs → length ys ≤ n → ys ≡ take n xs
few_are_all xs ys n is few = is ∙ sym (take_all n xs (subst (λ (l : List ℕ). length l ≤ n) is few))

-- what holds of each number so far, and of the next one
pub below_more : (P : ℕ → Type 0) (n : ℕ) → ((t : ℕ) → t < n → P t) → P n → (t : ℕ) → t < n + 1 → P t
below_more P n before here t few =
    ⊎_elim (λ (e : t ≡ n). subst P (sym e) here) (λ (e : t ≡ n → ⊥). before t (omega (arith, e, few))) (cases_eq t n)

-- what holds of all that were taken holds of all, where no more are left
pub all_taken : {X : Type 0} (P : X → Type 0) (xs : List X) (n : ℕ) → length xs ≤ n → All P (take n xs) → All P xs
all_taken {X} P xs n past all = subst (λ (ys : List X). All P ys) (take_all n xs past) all

-- ---- each task at its own place

own_values : (t : ℕ) → t < 8 → get_or own_order t 0 ≡ t
own_values zero few = refl
own_values (suc zero) few = refl
own_values (suc (suc zero)) few = refl
own_values (suc (suc (suc zero))) few = refl
own_values (suc (suc (suc (suc zero)))) few = refl
own_values (suc (suc (suc (suc (suc zero))))) few = refl
own_values (suc (suc (suc (suc (suc (suc zero)))))) few = refl
own_values (suc (suc (suc (suc (suc (suc (suc zero))))))) few = refl
own_values (suc (suc (suc (suc (suc (suc (suc (suc t)))))))) few = absurd (omega (arith, few))

pub own_tasks : (t : ℕ) → t < 8 → task_in own_order t ≡ t
own_tasks zero few = refl
own_tasks (suc zero) few = refl
own_tasks (suc (suc zero)) few = refl
own_tasks (suc (suc (suc zero))) few = refl
own_tasks (suc (suc (suc (suc zero)))) few = refl
own_tasks (suc (suc (suc (suc (suc zero))))) few = refl
own_tasks (suc (suc (suc (suc (suc (suc zero)))))) few = refl
own_tasks (suc (suc (suc (suc (suc (suc (suc zero))))))) few = refl
own_tasks (suc (suc (suc (suc (suc (suc (suc (suc t)))))))) few = absurd (omega (arith, few))

-- is fair
pub own_fair : (f : Form) (w : WorldState) (order : List ℕ) → order ≡ own_order → IsFair f w order
own_fair f w order is =
    subst (λ (o : List ℕ). IsFair f w o) (sym is)
    (record {
      names = λ told. refl;
      whole = λ t few. contains_at own_order t t 0 few (own_values t few);
      alike = λ p few. (ap (λ (t : ℕ). home_at w t) (own_tasks p few), ap (λ (t : ℕ). cpus_of w t) (own_tasks p few));
    })
