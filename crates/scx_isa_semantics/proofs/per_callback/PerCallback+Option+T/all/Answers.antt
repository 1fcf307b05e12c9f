use Rattle.std.proofs.Common.{◌≡◌, ℕ, ◌+◌, ◌<◌, ◌⊎◌, inl, inr, true, get_or, refl, subst, arith}
use Rattle.std.proofs.lemmas.Bool.{cases_eq}
use Rattle.std.proofs.lemmas.List.{get_or_default}
use Rattle.scx_isa_semantics.specs.declared.callbacks.Callback.{Callback}
use Rattle.scx_isa_semantics.specs.Callbacks.{callbacks, at, Answer}
use Rattle.scx_isa_semantics.proofs.EachMade.{of_each}
use Rattle.scx_isa_semantics.proofs.per_callback.PerCallback+Option+T.all.Goals as goal

-- what is so of those before and of this one
and_this : (P : ℕ → Type 0) (i : ℕ) → ((k : ℕ) → k < i → P k) → P i → (k : ℕ) → k < i + 1 → P k
and_this P i before this k lt = go (cases_eq k i)
  where
    go : (k ≡ i) ⊎ (k ≡ i → ⊥) → P k
    go (inl same) = rw same this
    go (inr other) = before k (omega (arith, lt, other))

pub returns : goal.returns
returns g c =
    of_each (λ b. Answer g.F.Fn c.args.test b (at c.args.self.now b) true) refl
    (λ k d lt. c.loop-callback.invariant k d (omega (arith, lt, c.loop-callback-test.false)))

pub loop-callback-preserved : goal.loop-callback-preserved
loop-callback-preserved g c = λ k d lt.
    let Passes = λ (b : Callback). Answer g.F.Fn c.args.test b (at c.args.self.now b) true in
    let i = c.loop-callback.callback-index in
    and_this (λ n. Passes (get_or callbacks n d)) i (λ n. c.loop-callback.invariant n d)
    (subst Passes (get_or_default callbacks i _ d c.loop-callback-test.true) c.if-not-passes.ensures) k lt
