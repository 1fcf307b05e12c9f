-- The jumps that lead to a slot, as they are collected from the last one on.
use Rattle.std.proofs.Common.{◌≡◌, ℕ, zero, suc, ◌+◌, ◌<◌, ◌≤◌, ◌⊎◌, inl, inr, List, [], ◌∷◌, length, set, slice_index_or, Option, Some, None, refl, sym, ap, ◌∙◌, subst, arith}
use Rattle.std.proofs.lemmas.Bool.{cases_eq}
use Rattle.std.proofs.lemmas.List.{get_or-set_same, get_or-set_other, length-set}
use Rattle.scx_isa_semantics.specs.declared.instructions.Insn.{Insn}
use Rattle.scx_isa_semantics.specs.Code.{Code, at}
use Rattle.scx_vm.specs.declared.context.Context.{Context}
use Rattle.scx_abs.specs.declared.states.AbsState.{AbsState}
use Rattle.scx_verify_explain.specs.declared.listing.Listing.{Listing}
use Rattle.scx_verify_explain.specs.Listings.{known_at}
use Rattle.scx_verify_explain.specs.Leading.{IsFirstFrom, AreFrom, jump_of, jump_from}

-- a slot that is there is one slot alone
pub same_slot : (s t : ℕ) → Some s ≡ Some t → s ≡ t
same_slot s t e = cc

-- a slot that isn't there is none
pub no_slot : (t : ℕ) (o : Option ℕ) → o ≡ None → o ≡ Some t → ⊥
no_slot t o e f = let bad : None ≡ Some t = sym e ∙ f in absurd (cc)

-- where that slot doesn't jump there, the first from behind it is the first from it
first_down : (jumps : ℕ → Option ℕ) (n t : ℕ) (o : Option ℕ) → (jumps n ≡ Some t → ⊥) → IsFirstFrom jumps (n + 1) t o → IsFirstFrom jumps n t o
first_down jumps n t None other h = λ s le e. go s le e (cases_eq s n)
  where
    go : (s : ℕ) → n ≤ s → jumps s ≡ Some t → (s ≡ n) ⊎ (s ≡ n → ⊥) → ⊥
    go s le e (inl same) = other (subst (λ k. jumps k ≡ Some t) same e)
    go s le e (inr apart) = h s (omega (arith, le, apart)) e
first_down jumps n t (Some s) other h = (omega (arith, h.0), h.1, λ r le lt e. go r le lt e (cases_eq r n))
  where
    go : (r : ℕ) → n ≤ r → r < s → jumps r ≡ Some t → (r ≡ n) ⊎ (r ≡ n → ⊥) → ⊥
    go r le lt e (inl same) = other (subst (λ k. jumps k ≡ Some t) same e)
    go r le lt e (inr apart) = h.2 r (omega (arith, le, apart)) lt e

first_here : (jumps : ℕ → Option ℕ) (n t : ℕ) → jumps n ≡ Some t → IsFirstFrom jumps n t (Some n)
first_here jumps n t e = (omega arith, e, λ r le lt f. omega (arith, le, lt))

-- the slot doesn't jump to a slot of the program
pub none_here : (jumps : ℕ → Option ℕ) (n slots : ℕ) (heads links : List (Option ℕ)) → ((t : ℕ) → t < slots → jumps n ≡ Some t → ⊥)
    → AreFrom jumps (n + 1) slots heads links → AreFrom jumps n slots heads links
none_here jumps n slots heads links none h = record {
  heads_long = h.heads_long;
  links_long = h.links_long;
  first = λ t lt. first_down jumps n t (slice_index_or heads t None) (none t lt) (h.first t lt);
  next = λ s t le lt e. go s t le lt e (cases_eq s n);
}
  where
    go : (s t : ℕ) → n ≤ s → t < slots → jumps s ≡ Some t → (s ≡ n) ⊎ (s ≡ n → ⊥) → IsFirstFrom jumps (s + 1) t (slice_index_or links s None)
    go s t le lt e (inl same) = absurd (none t lt (subst (λ k. jumps k ≡ Some t) same e))
    go s t le lt e (inr apart) = h.next s t (omega (arith, le, apart)) lt e

-- the slot jumps to a slot of the program
pub one_here : (jumps : ℕ → Option ℕ) (n slots to : ℕ) (heads links : List (Option ℕ)) → n < slots → to < slots → jumps n ≡ Some to
    → AreFrom jumps (n + 1) slots heads links → AreFrom jumps n slots (set heads to (Some n)) (set links n (slice_index_or heads to None))
one_here jumps n slots to heads links within inside e h = record {
  heads_long = length-set heads to (Some n) ∙ h.heads_long;
  links_long = length-set links n (slice_index_or heads to None) ∙ h.links_long;
  first = λ t lt. first t lt (cases_eq t to);
  next = λ s t le lt f. next s t le lt f (cases_eq s n);
}
  where
    first : (t : ℕ) → t < slots → (t ≡ to) ⊎ (t ≡ to → ⊥) → IsFirstFrom jumps n t (slice_index_or (set heads to (Some n)) t None)
    first t lt (inl same) =
        let here : slice_index_or (set heads to (Some n)) t None ≡ Some n = ap (λ k. slice_index_or (set heads to (Some n)) k None) same ∙ get_or-set_same heads to (Some n) None (omega (arith, inside, h.heads_long)) in
        subst (IsFirstFrom jumps n t) (sym here) (first_here jumps n t (e ∙ ap Some (sym same)))
    first t lt (inr apart) =
        let there : slice_index_or (set heads to (Some n)) t None ≡ slice_index_or heads t None = get_or-set_other heads to t (Some n) None apart in
        subst (IsFirstFrom jumps n t) (sym there) (first_down jumps n t (slice_index_or heads t None) (λ f. apart (same_slot t to (sym f ∙ e))) (h.first t lt))

    next : (s t : ℕ) → n ≤ s → t < slots → jumps s ≡ Some t → (s ≡ n) ⊎ (s ≡ n → ⊥) → IsFirstFrom jumps (s + 1) t (slice_index_or (set links n (slice_index_or heads to None)) s None)
    next s t le lt f (inl same) =
        let goes : jumps n ≡ Some t = subst (λ k. jumps k ≡ Some t) same f in
        let target : t ≡ to = same_slot t to (sym goes ∙ e) in
        let here : slice_index_or (set links n (slice_index_or heads to None)) s None ≡ slice_index_or heads t None =
        ap (λ k. slice_index_or (set links n (slice_index_or heads to None)) k None) same
        ∙ get_or-set_same links n (slice_index_or heads to None) None (omega (arith, within, h.links_long))
        ∙ ap (λ k. slice_index_or heads k None) (sym target) in
        let behind : IsFirstFrom jumps (n + 1) t (slice_index_or heads t None) = h.first t lt in
        subst (IsFirstFrom jumps (s + 1) t) (sym here) (subst (λ k. IsFirstFrom jumps (k + 1) t (slice_index_or heads t None)) (sym same) behind)
    next s t le lt f (inr apart) =
        let there : slice_index_or (set links n (slice_index_or heads to None)) s None ≡ slice_index_or links s None = get_or-set_other links n s (slice_index_or heads to None) None apart in
        subst (IsFirstFrom jumps (s + 1) t) (sym there) (h.next s t (omega (arith, le, apart)) lt f)

-- ---- instructions

-- a slot at which an instruction begins lies in the program
pub at_within : (code : Code) (s : ℕ) (i : Insn) → at code s ≡ Some i → s < length code
at_within [] s i e = let bad : None ≡ Some i = e in absurd (cc)
at_within (x ∷ code) zero i e = omega arith
at_within (x ∷ code) (suc s) i e = let h = at_within code s i e in omega (arith, h)

at_behind : (code : Code) (s : ℕ) → length code ≤ s → at code s ≡ None
at_behind [] s le = refl
at_behind (x ∷ code) zero le = absurd (omega (arith, le))
at_behind (x ∷ code) (suc s) le = at_behind code s (omega (arith, le))

no_insn : (c : Context) (s : ℕ) (o : Option Insn) (a : Option AbsState) → o ≡ None → jump_of c s o a ≡ None
no_insn c s o a e = ap (λ x. jump_of c s x a) e

-- behind the last slot nothing jumps
pub none_behind : (l : Listing) (s : ℕ) → length l.code.items ≤ s → jump_from l s ≡ None
none_behind l s le = no_insn l.context s (at l.code.items s) (known_at l s) (at_behind l.code.items s le)
