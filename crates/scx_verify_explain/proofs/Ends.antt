-- What is known where a pass ends: at the last slot, or at the first that is refused.
use Rattle.std.proofs.Common.{◌≡◌, ℕ, ◌+◌, ◌≤◌, inl, inr, true, false, List, length, Option, Result, Ok, Err, IfErr, is_err, refl, arith, subst, sym}
use Rattle.scx_isa_semantics.specs.Code.{Code}
use Rattle.scx_vm.specs.declared.context.Context.{Context}
use Rattle.scx_isa.specs.Flow.{Flows}
use Rattle.scx_abs.specs.declared.faults.Why.{Why}
use Rattle.scx_abs.specs.declared.states.AbsState.{AbsState}
use Rattle.scx_verify.specs.Forward.{IsFirstRefusal}
use Rattle.scx_verify.specs.Pass.{IsVisited, states_of}
use Rattle.scx_verify.proofs.Visits.{visited_forward, visited_typing}
use Rattle.scx_verify_explain.specs.Listings.{IsPass}

-- all slots were visited
pub ends_behind : (c : Context) (code : Code) (n slots : ℕ) (states : List (Option AbsState)) → Flows code → slots ≡ length code → slots ≤ n → IsVisited c code n states → IsPass c code (states_of states) slots
ends_behind c code n slots states flow long all h = record {
  forward = λ t lt. visited_forward c code n states flow h t (omega (arith, lt, all));
  ends = inl (long, visited_typing c code n states flow (omega (arith, long, all)) h);
}

-- a slot is refused, and its visit leaves the states as they are
pub ends_at : {A : Type 0} (c : Context) (code : Code) (s : ℕ) (states after : List (Option AbsState)) (r : Result A Why) → Flows code → IsVisited c code s states
    → is_err r ≡ true → IfErr r (λ why. IsFirstRefusal c code why s) → IfErr r (λ _. after ≡ states) → IsPass c code (states_of after) (s + 1)
ends_at c code s states after (Ok done) flow h is refused kept = let bad : false ≡ true = is in absurd (cc)
ends_at c code s states after (Err why) flow h is refused kept = subst (λ l. IsPass c code (states_of l) (s + 1)) (sym kept) (record {
  forward = λ t lt. visited_forward c code s states flow h t (omega (arith, lt));
  ends = inr (why, s, refl, refused);
})
