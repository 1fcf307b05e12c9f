-- Tables with a value for each callback, as a loop takes values out of one and sets those of another.
use Rattle.std.proofs.Common.{◌≡◌, ℕ, zero, suc, ◌+◌, ◌<◌, ◌≤◌, ◌⊎◌, inl, inr, List, [], ◌∷◌, length, take, get_or, Option, None, Result, refl, sym, ap, ◌∙◌, subst, arith}
use Rattle.std.specs.Prelude.{⊤}
use denote.Param.Members.{Shared}
use Rattle.std.proofs.lemmas.Bool.{cases_eq}
use Rattle.std.proofs.lemmas.List.{get_or_default}
use Rattle.scx_isa_semantics.specs.declared.callbacks.Callback.{Callback}
use Rattle.scx_isa_semantics.specs.declared.callbacks.Callback.TheVariants as callback
use Rattle.scx_isa_semantics.specs.declared.per_callback.PerCallback.{PerCallback}
use Rattle.scx_isa_semantics.specs.Callbacks.{callbacks, place, at, with_at, Made, MadeEach, Failed, FirstFailed}

-- a callback of the list
abbrev IsNamed : Callback → Type 0
IsNamed callback.Plain = ⊥
IsNamed b = ⊤

-- ---- places

-- these callbacks come one after another from a place on, and none of them is a plain program
abbrev AreNumbered : ℕ → List Callback → Type 0
AreNumbered n [] = ⊤
AreNumbered n (b ∷ bs) = ((place b ≡ n) × IsNamed b) × AreNumbered (n + 1) bs

numbered_at : (bs : List Callback) (n i : ℕ) (d : Callback) → AreNumbered n bs → i < length bs → (place (get_or bs i d) ≡ n + i) × IsNamed (get_or bs i d)
numbered_at [] n i d all lt = absurd (omega (arith, lt))
numbered_at (b ∷ bs) n zero d all lt = (omega (arith, all.0.0), all.0.1)
numbered_at (b ∷ bs) n (suc i) d all lt =
    let rest = numbered_at bs (n + 1) i d all.1 (omega (arith, lt)) in
    (omega (arith, rest.0), rest.1)

are_numbered : AreNumbered 0 callbacks
are_numbered = ((refl, tt), ((refl, tt), ((refl, tt), ((refl, tt), ((refl, tt), ((refl, tt), ((refl, tt), ((refl, tt), ((refl, tt), ((refl, tt), ((refl, tt), ((refl, tt), ((refl, tt), ((refl, tt), tt))))))))))))))

-- the place of a callback of the list is its index
place_at : (i : ℕ) (d : Callback) → i < length callbacks → place (get_or callbacks i d) ≡ i
place_at i d lt = omega (arith, (numbered_at callbacks 0 i d are_numbered lt).0)

-- ---- values

-- the value of a callback is the one that was set
at_same : {T : Type 0} (p : PerCallback (Option T)) (b : Callback) (x : Option T) → IsNamed b → at (with_at p b x) b ≡ x
at_same p callback.Plain x named = absurd named
at_same p b x named = refl

-- the values of others stay
at_other : {T : Type 0} (p : PerCallback (Option T)) (b c : Callback) (x : Option T) → (place b ≡ place c → ⊥) → IsNamed c → at (with_at p b x) c ≡ at p c
at_other p callback.Init callback.Init x other named = absurd (other refl)
at_other p callback.Enable callback.Enable x other named = absurd (other refl)
at_other p callback.SelectCpu callback.SelectCpu x other named = absurd (other refl)
at_other p callback.Enqueue callback.Enqueue x other named = absurd (other refl)
at_other p callback.Dispatch callback.Dispatch x other named = absurd (other refl)
at_other p callback.Running callback.Running x other named = absurd (other refl)
at_other p callback.Stopping callback.Stopping x other named = absurd (other refl)
at_other p callback.Tick callback.Tick x other named = absurd (other refl)
at_other p callback.Dequeue callback.Dequeue x other named = absurd (other refl)
at_other p callback.Runnable callback.Runnable x other named = absurd (other refl)
at_other p callback.Quiescent callback.Quiescent x other named = absurd (other refl)
at_other p callback.UpdateIdle callback.UpdateIdle x other named = absurd (other refl)
at_other p callback.SetWeight callback.SetWeight x other named = absurd (other refl)
at_other p callback.Timer callback.Timer x other named = absurd (other refl)
at_other p b c x other named = refl

-- ---- a loop over the callbacks

module _ {F T U E : Type 0} (g : Shared F (Callback × (T × Unit {0})) (Result U E)) (f : F) (p : PerCallback (Option T)) where
  -- something is made of the values of the callbacks before this index
  abbrev pub AreMade : ℕ → PerCallback (Option U) → Type 0
  AreMade i made = (k : ℕ) (d : Callback) → k < i → k < length callbacks → Made g f (get_or callbacks k d) (at p (get_or callbacks k d)) (at made (get_or callbacks k d))

  -- the values of the callbacks from this index on are still there
  abbrev pub AreThere : ℕ → PerCallback (Option T) → Type 0
  AreThere i rest = (k : ℕ) (d : Callback) → i ≤ k → k < length callbacks → at rest (get_or callbacks k d) ≡ at p (get_or callbacks k d)

  -- a callback of another index keeps its value
  others : {V : Type 0} (q : PerCallback (Option V)) (i k : ℕ) (d e : Callback) (x : Option V) → i < length callbacks → k < length callbacks → (k ≡ i → ⊥) → at (with_at q (get_or callbacks i d) x) (get_or callbacks k e) ≡ at q (get_or callbacks k e)
  others q i k d e x lt also other =
      at_other q (get_or callbacks i d) (get_or callbacks k e) x
      (λ same. other (omega (arith, place_at i d lt, place_at k e also, same))) (numbered_at callbacks 0 k e are_numbered also).1

  -- and so after one callback more
  pub made_more : (i : ℕ) (d : Callback) (rest : PerCallback (Option T)) (made after : PerCallback (Option U)) (x : Option T) (y : Option U) → i < length callbacks → x ≡ at rest (get_or callbacks i d) → Made g f (get_or callbacks i d) x y → after ≡ with_at made (get_or callbacks i d) y → AreMade i made → AreThere i rest → AreMade (i + 1) after
  made_more i d rest made after x y lt taken makes put before there k e less also = go (cases_eq k i)
    where
      now : Made g f (get_or callbacks i d) (at p (get_or callbacks i d)) y
      now = subst (λ v. Made g f (get_or callbacks i d) v y) (taken ∙ there i d (omega arith) lt) makes

      set : PerCallback (Option U)
      set = with_at made (get_or callbacks i d) y

      same : at set (get_or callbacks i d) ≡ y
      same = at_same made (get_or callbacks i d) y (numbered_at callbacks 0 i d are_numbered lt).1

      here : Made g f (get_or callbacks i e) (at p (get_or callbacks i e)) (at set (get_or callbacks i e))
      here = subst (λ b. Made g f b (at p b) (at set b)) (get_or_default callbacks i d e lt) (subst (λ z. Made g f (get_or callbacks i d) (at p (get_or callbacks i d)) z) (sym same) now)

      go : (k ≡ i) ⊎ (k ≡ i → ⊥) → Made g f (get_or callbacks k e) (at p (get_or callbacks k e)) (at after (get_or callbacks k e))
      go (inl is) = rw (put, is) here
      go (inr other) =
          subst (λ z. Made g f (get_or callbacks k e) (at p (get_or callbacks k e)) z) (sym (ap (λ (q : PerCallback (Option U)). at q (get_or callbacks k e)) put ∙ others made i k d e y lt also other))
          (before k e (omega (arith, less, other)) also)

  -- the values of later callbacks are there still once one was taken
  pub there_still : (i : ℕ) (d : Callback) (rest after : PerCallback (Option T)) → i < length callbacks → after ≡ with_at rest (get_or callbacks i d) None → AreThere i rest → AreThere (i + 1) after
  there_still i d rest after lt taken before k e more also =
      ap (λ (q : PerCallback (Option T)). at q (get_or callbacks k e)) taken ∙ others rest i k d e None lt also (λ is. absurd (omega (arith, more, is)))
      ∙ before k e (omega (arith, more)) also

  -- something is made of each callback before this index
  made_before : (n : ℕ) (bs : List Callback) → ((k : ℕ) (d : Callback) → k < n → k < length bs → (y : Option U) × Made g f (get_or bs k d) (at p (get_or bs k d)) y) → MadeEach g f p (take n bs)
  made_before zero bs each = tt
  made_before (suc n) [] each = tt
  made_before (suc n) (b ∷ bs) each = (each 0 b (omega arith) (omega arith), made_before n bs (λ k d l m. each (suc k) d (omega (arith, l)) (omega (arith, m))))

  -- a failure at the callback of this index is the first one
  pub fails_first : (i : ℕ) (d : Callback) (rest : PerCallback (Option T)) (made : PerCallback (Option U)) (x : Option T) (e : E) → i < length callbacks → x ≡ at rest (get_or callbacks i d) → Failed g f (get_or callbacks i d) x e → AreMade i made → AreThere i rest → FirstFailed {U = U} g f p e
  fails_first i d rest made x e lt taken fails before there = record {
    callback = get_or callbacks i d;
    before = rw (place_at i d lt) (made_before i callbacks (λ k c l m. (at made (get_or callbacks k c), before k c l m)));
    failed = subst (λ v. Failed g f (get_or callbacks i d) v e) (taken ∙ there i d (omega arith) lt) fails;
  }

-- what is so of a plain program and of each callback of the list is so of all
pub of_each : (P : Callback → Type 0) → P callback.Plain → ((k : ℕ) (d : Callback) → k < length callbacks → P (get_or callbacks k d)) → (b : Callback) → P b
of_each P plain each callback.Plain = plain
of_each P plain each b = each (place b) b (omega arith)
