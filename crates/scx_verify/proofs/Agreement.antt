-- Refusals of one program agree: forward states are unique, since a least state is, and so is the first
-- slot at which a check fails.
use Rattle.std.proofs.Common.{◌≡◌, ℕ, zero, suc, ◌<◌, ◌≤◌, ◌⊎◌, inl, inr, Option, Some, None, Result, Ok, Err, refl, sym, ap, ◌∙◌, subst, arith}
use Rattle.std.proofs.lemmas.Bool.{cases_lt}
use Rattle.scx_isa_semantics.specs.declared.instructions.Insn.{Insn}
use Rattle.scx_isa_semantics.specs.Code.{Code}
use Rattle.scx_isa.specs.declared.faults.FlowFault.{FlowFault}
use Rattle.scx_isa.specs.Flow.{flow_fault, Flows, IsFirstFlowFault}
use Rattle.scx_vm.specs.declared.context.Context.{Context}
use Rattle.scx_abs.specs.declared.faults.Why.{Why}
use Rattle.scx_abs.specs.declared.states.AbsState.{AbsState}
use Rattle.scx_abs.specs.declared.rules.Next.{Next}
use Rattle.scx_abs.specs.Rules.{rule}
use Rattle.scx_abs.proofs.Proper.{same_state}
use Rattle.scx_verify.specs.declared.faults.Fault.TheVariants.{Flow, Rule, NoMemory}
use Rattle.scx_verify.specs.Typing.{States}
use Rattle.scx_verify.specs.Forward.{Arrives, IsLeast, IsFirstRefusal}
use Rattle.scx_verify.specs.Laws.{FirstRefusalsAgree, RefusalsAgree}
use Rattle.scx_verify.proofs.Visits.{flows_same}

-- ---- forward states

-- a least state is unique
least_unique : (o p : Option AbsState) (P Q : AbsState → Type 0) → ((a : AbsState) → P a → Q a) → ((a : AbsState) → Q a → P a) → IsLeast o P → IsLeast p Q → o ≡ p
least_unique None None P Q f g h k = refl
least_unique None (Some y) P Q f g h k = absurd (h k.some.0 (g k.some.0 k.some.1))
least_unique (Some x) None P Q f g h k = absurd (k h.some.0 (f h.some.0 h.some.1))
least_unique (Some x) (Some y) P Q f g h k =
    ap Some (same_state x y h.proper k.proper (k.least x (λ a q. h.covers a (g a q))) (h.least y (λ a p. k.covers a (f a p))))

-- what arrives at a slot is decided by the states before it
arrives_same : (c : Context) (code : Code) (states other : States) (t : ℕ) → ((s : ℕ) → s < t → other s ≡ states s) → (a : AbsState) → Arrives c code states t t a → Arrives c code other t t a
arrives_same c code states other t same a (inl h) = inl h
arrives_same c code states other t same a (inr h) = inr (h.0, h.1, flows_same c code states other h.0 t a (same h.0 h.1) h.2)

-- the forward states of two refusals, where those before are the same
next_same : (c : Context) (code : Code) (v w : Why) (i j : ℕ) (r : IsFirstRefusal c code v i) (k : IsFirstRefusal c code w j) → (t : ℕ) → t ≤ i → t ≤ j → ((s : ℕ) → s < t → k.states s ≡ r.states s)
    → k.states t ≡ r.states t
next_same c code v w i j r k t ri kj same =
    least_unique (k.states t) (r.states t) (Arrives c code k.states t t) (Arrives c code r.states t t)
    (λ a p. arrives_same c code k.states r.states t (λ s before. sym (same s before)) a p)
    (λ a p. arrives_same c code r.states k.states t same a p) (k.forward t kj) (r.forward t ri)

-- and so up to both slots
forward_same : (c : Context) (code : Code) (v w : Why) (i j : ℕ) (r : IsFirstRefusal c code v i) (k : IsFirstRefusal c code w j) → (n t : ℕ) → t < n → t ≤ i → t ≤ j → k.states t ≡ r.states t
forward_same c code v w i j r k zero t lt ri kj = absurd (omega (arith, lt))
forward_same c code v w i j r k (suc n) t lt ri kj =
    next_same c code v w i j r k t ri kj
    (λ s before. forward_same c code v w i j r k n s (omega (arith, before, lt)) (omega (arith, before, ri)) (omega (arith, before, kj)))

-- ---- first refusals

failed_passed : (r : Result Next Why) (why : Why) (next : Next) → r ≡ Err why → r ≡ Ok next → ⊥
failed_passed r why next e f = let bad : Err why ≡ Ok next = sym e ∙ f in absurd (cc)

-- the one doesn't come before the other
not_before : (c : Context) (code : Code) (v w : Why) (i j : ℕ) → IsFirstRefusal c code v i → IsFirstRefusal c code w j → i < j → ⊥
not_before c code v w i j r k lt =
    let here : k.states i ≡ Some r.state = forward_same c code v w i j r k (suc i) i (omega arith) (omega arith) (omega (arith, lt)) ∙ r.here in
    let passed = k.earlier i r.insn r.state lt r.there here in
    failed_passed (rule c r.insn r.state) v passed.0 r.fails passed.1

same_insn : (i j : Insn) → Some i ≡ Some j → i ≡ j
same_insn i j e = cc

some_same : (a b : AbsState) → Some a ≡ Some b → a ≡ b
some_same a b e = cc

same_why : (r : Result Next Why) (v w : Why) → r ≡ Err v → r ≡ Err w → v ≡ w
same_why r v w e f = cc

at_one_slot : (c : Context) (code : Code) (v w : Why) (i : ℕ) → IsFirstRefusal c code v i → IsFirstRefusal c code w i → v ≡ w
at_one_slot c code v w i r k =
    let insn : k.insn ≡ r.insn = same_insn k.insn r.insn (sym k.there ∙ r.there) in
    let state : k.state ≡ r.state = some_same k.state r.state (sym k.here ∙ forward_same c code v w i i r k (suc i) i (omega arith) (omega arith) (omega arith) ∙ r.here) in
    same_why (rule c k.insn k.state) v w (ap (λ d. rule c d k.state) insn ∙ ap (λ a. rule c r.insn a) state ∙ r.fails) k.fails

-- the law of checks
pub first_refusals_agree : FirstRefusalsAgree
first_refusals_agree c code v w s t r k = go (cases_lt s t) (cases_lt t s)
  where
    go : (s < t) ⊎ (t ≤ s) → (t < s) ⊎ (s ≤ t) → (v ≡ w) × (s ≡ t)
    go (inl lt) b = absurd (not_before c code v w s t r k lt)
    go (inr le) (inl lt) = absurd (not_before c code w v t s k r lt)
    go (inr le) (inr ge) =
        let same : s ≡ t = omega (arith, le, ge) in
        (at_one_slot c code v w t (subst (λ u. IsFirstRefusal c code v u) same r) k, same)

-- ---- faults of the flow

no_fault : (o : Option FlowFault) (f : FlowFault) → o ≡ None → o ≡ Some f → ⊥
no_fault o f e g = let bad : None ≡ Some f = sym e ∙ g in absurd (cc)

-- a flow without a fault has no first one
pub flows_faultless : (code : Code) (f : FlowFault) (s : ℕ) → Flows code → IsFirstFlowFault code f s → ⊥
flows_faultless code f s flows r = no_fault (flow_fault code s r.insn) f (flows s r.insn r.there) r.fails

same_fault : (o : Option FlowFault) (f g : FlowFault) → o ≡ Some f → o ≡ Some g → f ≡ g
same_fault o f g e h = cc

flow_faults_agree : (code : Code) (f g : FlowFault) (s t : ℕ) → IsFirstFlowFault code f s → IsFirstFlowFault code g t → (f ≡ g) × (s ≡ t)
flow_faults_agree code f g s t r k = go (cases_lt s t) (cases_lt t s)
  where
    at_slot : (u : ℕ) → IsFirstFlowFault code f u → IsFirstFlowFault code g u → f ≡ g
    at_slot u a b =
        same_fault (flow_fault code u a.insn) f g a.fails (ap (λ i. flow_fault code u i) (same_insn a.insn b.insn (sym a.there ∙ b.there)) ∙ b.fails)

    go : (s < t) ⊎ (t ≤ s) → (t < s) ⊎ (s ≤ t) → (f ≡ g) × (s ≡ t)
    go (inl lt) b = absurd (no_fault (flow_fault code s r.insn) f (k.earlier s r.insn lt r.there) r.fails)
    go (inr le) (inl lt) = absurd (no_fault (flow_fault code t k.insn) g (r.earlier t k.insn lt k.there) k.fails)
    go (inr le) (inr ge) =
        let same : s ≡ t = omega (arith, le, ge) in
        (at_slot t (subst (λ u. IsFirstFlowFault code f u) same r) k, same)

-- the law of all refusals
pub refusals_agree : RefusalsAgree
refusals_agree c code (Flow f) (Flow g) s t m n r k = let same = flow_faults_agree code f g s t r k in (ap Flow same.0, same.1)
refusals_agree c code (Flow f) (Rule w) s t m n r k = absurd (flows_faultless code f s k.0 r)
refusals_agree c code (Rule v) (Flow g) s t m n r k = absurd (flows_faultless code g t r.0 k)
refusals_agree c code (Rule v) (Rule w) s t m n r k = let same = first_refusals_agree c code v w s t r.1 k.1 in (ap Rule same.0, same.1)
refusals_agree c code NoMemory g s t m n r k = absurd (m refl)
refusals_agree c code f NoMemory s t m n r k = absurd (n refl)
