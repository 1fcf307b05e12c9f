-- Events in a row that lead back, and the path back to where they began.
use Rattle.std.proofs.Common.{◌≡◌, ℕ, suc, ◌+◌, ◌-◌, ◌<◌, ◌≤◌, List, [], ◌∷◌, ◌++◌, length, take, replicate, None, refl, sym, ap, ◌∙◌, subst, arith}
use Rattle.std.proofs.lemmas.List.{append-nil, append_assoc}
use Rattle.scx_sched_machine.specs.declared.events.Event.{Event}
use Rattle.scx_sched.specs.Sim.{refusal}
use Rattle.scx_explore_findings.specs.Path.{PathState, machine_of, went_back, went_on}
use Rattle.scx_explore_findings.proofs.CommonBeginnings.{went_accepted}
use Rattle.scx_explore_audit.specs.declared.advance.Went.TheVariants.{There, Over}
use Rattle.scx_explore_audit.specs.Closed.{Claim, LeadsBack}
use Rattle.scx_explore_audit.specs.Steps.{Comes}
use Rattle.scx_explore_audit.proofs.Passing.{leads_there, leads_over}

-- ---- the path

-- the second path has some events more than the first one
abbrev pub HasMore : PathState → PathState → Type 0
HasMore p q = (es : List Event) × (q ≡ record p { events = p.events ++ es })

-- or none
pub no_more : (p : PathState) → HasMore p p
no_more p = ([], ap (λ (es : List Event). record p { events = es }) (sym (append-nil p.events)))

-- one more
pub one_more : (p q r : PathState) (e : Event) → HasMore p q → refusal (machine_of q) e ≡ None → r ≡ went_on q e → HasMore p r
one_more p q r e more fine on = (
  more.0 ++ e ∷ [],
  on ∙ (went_accepted q e fine
      ∙ (ap (λ (x : PathState). record x { events = x.events ++ e ∷ [] }) more.1
      ∙ ap (λ (es : List Event). record p { events = es }) (append_assoc p.events more.0 (e ∷ [])))),
)

take_append : (es fs : List Event) → take (length es) (es ++ fs) ≡ es
take_append [] fs = refl
take_append (e ∷ es) fs = ap (λ (l : List Event). e ∷ l) (take_append es fs)

-- cut to the events of the first path it is the first one
pub back_again : (p q r s : PathState) (n : ℕ) → n ≡ length p.events → HasMore p q → r ≡ q → s ≡ went_back r n → s ≡ p
back_again p q r s n many more same back =
    back ∙ (ap (λ (x : PathState). went_back x n) (same ∙ more.1)
    ∙ (ap (λ (k : ℕ). went_back (record p { events = p.events ++ more.0 }) k) many
    ∙ ap (λ (es : List Event). record p { events = es }) (take_append p.events more.0)))

-- ---- the events

module _ (c : Claim) (d : ℕ) (e : Event) (times : ℕ) where
  -- where what is left leads back, all of them do
  abbrev pub LeadsOn : PathState → PathState → ℕ → Type 0
  LeadsOn p q left = LeadsBack c d (machine_of q) (replicate left e) → LeadsBack c d (machine_of p) (replicate times e)

  -- before the first one
  pub none_came : (p : PathState) → LeadsOn p p (times + 1 - 1)
  none_came p back =
      let all : times + 1 - 1 ≡ times = omega arith in
      subst (λ (k : ℕ). LeadsBack c d (machine_of p) (replicate k e)) all back

  -- as one comes, it is the first of those that are left
  next : (p q : PathState) (number : ℕ) → number < times → LeadsOn p q (times + 1 - number) → LeadsBack c d (machine_of q) (e ∷ replicate (times + 1 - (number + 1)) e) → LeadsBack c d (machine_of p) (replicate times e)
  next p q number few on back =
      let left : suc (times + 1 - (number + 1)) ≡ times + 1 - number = omega (arith, few) in
      on (subst (λ (k : ℕ). LeadsBack c d (machine_of q) (replicate k e)) left back)

  pub one_came : (p q r : PathState) (number : ℕ) → number < times → LeadsOn p q (times + 1 - number) → Comes There c.sorts e q r → LeadsOn p r (times + 1 - (number + 1))
  one_came p q r number few on comes back =
      next p q number few on (leads_there c d q r e (replicate (times + 1 - (number + 1)) e) comes back)

  -- no list goes on after one of them
  pub one_ended : (p q r : PathState) (number : ℕ) → number < times → LeadsOn p q (times + 1 - number) → Comes Over c.sorts e q r → LeadsBack c d (machine_of p) (replicate times e)
  one_ended p q r number few on comes =
      next p q number few on (leads_over c d q r e (replicate (times + 1 - (number + 1)) e) comes)

  -- the last one
  pub last_came : (p q : PathState) (number : ℕ) → number ≤ times → times ≤ number → LeadsOn p q (times + 1 - number) → LeadsBack c d (machine_of q) (e ∷ []) → LeadsBack c d (machine_of p) (replicate times e)
  last_came p q number most past on back =
      let left : 1 ≡ times + 1 - number = omega (arith, most, past) in
      on (subst (λ (k : ℕ). LeadsBack c d (machine_of q) (replicate k e)) left back)
