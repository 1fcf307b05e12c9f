-- The first fault or exit of a callback stays its first one, and a run can go one way only.
use Rattle.std.proofs.Common.{◌≡◌, ℕ, zero, suc, ◌+◌, ◌-◌, ◌≤◌, Option, Some, None, refl, sym, ap, ◌∙◌, subst, arith}
use Rattle.scx_isa_semantics.specs.declared.callbacks.Callback.{Callback}
use Rattle.scx_isa_semantics.specs.Code.{Code}
use Rattle.scx_isa_semantics.specs.Machine.{Machine}
use Rattle.scx_isa_semantics.specs.Runs.{LeadsTo, Leads}
use Rattle.scx_isa_semantics.specs.Steps.{Outcome, Stuck, Goes, Asks, Ends, step}
use Rattle.scx_vm.specs.Host.{host}
use Rattle.scx_sched_world.specs.declared.eject.Cause.{Cause}
use Rattle.scx_sched_world.specs.World.{WorldState}
use Rattle.scx_sched_world.specs.Helpers.{world_functions}
use Rattle.scx_sched.proofs.Queries.{kept_query}
use Rattle.scx_sched.proofs.Exiting.{cause_kept}

module _ (x : Cause) where
  abbrev Has : WorldState → Type 0
  Has w = w.call.cause ≡ Some x

  has_step : (o : Outcome) (w : WorldState) (t : ℕ) (k : Machine) (v : WorldState) → LeadsTo (host world_functions) o w t k v → Has w → Has v
  has_step Stuck w t k v l h = absurd l
  has_step (Goes u x) w t k v (l₀, l₁, l₂) h = subst Has (sym l₂) h
  has_step (Asks q u go) w t k v (y, (a₀, a₁, a₂), l₁, l₂) h = subst Has (sym a₁) (kept_query Has (cause_kept x) w q h)
  has_step (Ends x) w t k v l h = absurd l

  -- through any number of steps
  pub has_run : (c : Callback) (code : Code) (n s : ℕ) (m : Machine) (w : WorldState) (s' : ℕ) (m' : Machine) (w' : WorldState) → Leads (host world_functions) c code n s m w s' m' w' → Has w → Has w'
  has_run c code zero s m w s' m' w' (es, em, ew) h = subst Has (sym ew) h
  has_run c code (suc n) s m w s' m' w' (t, k, v, first, more) h = has_run c code n t k v s' m' w' more (has_step (step c code s m) w t k v first h)

-- ---- the run goes one way

only_step : (o : Outcome) (w : WorldState) (t : ℕ) (k : Machine) (v : WorldState) (t' : ℕ) (k' : Machine) (v' : WorldState)
    → LeadsTo (host world_functions) o w t k v → LeadsTo (host world_functions) o w t' k' v' → (t' ≡ t) × (k' ≡ k) × (v' ≡ v)
only_step Stuck w t k v t' k' v' l l' = absurd l
only_step (Goes u x) w t k v t' k' v' (a, b, c) (a', b', c') = (a' ∙ sym a, b' ∙ sym b, c' ∙ sym c)
only_step (Asks q u go) w t k v t' k' v' (x, (a, b, c), d, e) (x', (a', b', c'), d', e') =
    (d' ∙ sym d, e' ∙ ap go (a' ∙ sym a) ∙ sym e, b' ∙ sym b)
only_step (Ends x) w t k v t' k' v' l l' = absurd l

same : (k j : ℕ) → j ≡ 0 + k → j ≡ k
same k j e = omega (arith, e)

module _ (c : Callback) (code : Code) where
  abbrev To : ℕ → ℕ → Machine → WorldState → ℕ → Machine → WorldState → Type 0
  To n s m w s' m' w' = Leads (host world_functions) c code n s m w s' m' w'

  -- what is left of a run after its first steps
  rest_of : (n k j s : ℕ) (m : Machine) (w : WorldState) (s₁ : ℕ) (m₁ : Machine) (w₁ : WorldState) (s₂ : ℕ) (m₂ : Machine) (w₂ : WorldState)
      → j ≡ n + k → To n s m w s₁ m₁ w₁ → To j s m w s₂ m₂ w₂ → To k s₁ m₁ w₁ s₂ m₂ w₂
  rest_of zero k j s m w s₁ m₁ w₁ s₂ m₂ w₂ e (es, em, ew) long = rw (es, em, ew) (subst (λ x. To x s m w s₂ m₂ w₂) (same k j e) long)
  rest_of (suc n) k zero s m w s₁ m₁ w₁ s₂ m₂ w₂ e short long = absurd (omega (arith, e))
  rest_of (suc n) k (suc i) s m w s₁ m₁ w₁ s₂ m₂ w₂ e (t, x, v, first, more) (t', x', v', first', more') =
      let only = only_step (step c code s m) w t x v t' x' v' first first' in
      rest_of n k i t x v s₁ m₁ w₁ s₂ m₂ w₂ (omega (arith, e)) more (rw (← only.0, ← only.1, ← only.2) more')

  -- while the callback has no fault and didn't end the policy, that was so before
  pub none_up_to : (n j s : ℕ) (m : Machine) (w : WorldState) (s₁ : ℕ) (m₁ : Machine) (w₁ : WorldState) (s₂ : ℕ) (m₂ : Machine) (w₂ : WorldState)
      → w₂.call.cause ≡ None → To j s m w s₂ m₂ w₂ → n ≤ j → To n s m w s₁ m₁ w₁ → w₁.call.cause ≡ None
  none_up_to n j s m w s₁ m₁ w₁ s₂ m₂ w₂ none long few short = go w₁.call.cause refl
    where
      rest : To (j - n) s₁ m₁ w₁ s₂ m₂ w₂
      rest = rest_of n (j - n) j s m w s₁ m₁ w₁ s₂ m₂ w₂ (omega (arith, few)) short long

      go : (o : Option Cause) → w₁.call.cause ≡ o → w₁.call.cause ≡ None
      go None e = e
      go (Some x) e = let bad : None ≡ Some x = sym none ∙ has_run x c code (j - n) s₁ m₁ w₁ s₂ m₂ w₂ rest e in absurd (cc)
