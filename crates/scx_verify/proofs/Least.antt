-- Least states: what stays least where the same flows there, and what is least once one more does.
use Rattle.std.proofs.Common.{◌≡◌, ℕ, ◌<◌, ◌⊎◌, inl, inr, List, length, set, slice_index_or, Option, Some, None, IfSome, refl, sym, ap, ◌∙◌, subst}
use Rattle.std.proofs.lemmas.Bool.{cases_eq}
use Rattle.std.proofs.lemmas.List.{get_or-set_same, get_or-set_other, length-set}
use Rattle.scx_abs.specs.declared.states.AbsState.{AbsState}
use Rattle.scx_abs.specs.States.{CoversState, IsProper}
use Rattle.scx_abs.proofs.Orders.{covers_itself, covers_through}
use Rattle.scx_verify.specs.Forward.{IsLeast}
use Rattle.scx_verify.specs.Pass.{states_of, IsMerged, IsGiven}

-- what is least of the same is least
pub least_same : (o : Option AbsState) (P Q : AbsState → Type 0) → ((a : AbsState) → P a → Q a) → ((a : AbsState) → Q a → P a) → IsLeast o P → IsLeast o Q
least_same None P Q f g h = λ a q. h a (g a q)
least_same (Some x) P Q f g h = record {
  proper = h.proper;
  covers = λ a q. h.covers a (g a q);
  least = λ y c. h.least y (λ a p. c a (f a p));
  some = (h.some.0, f h.some.0 h.some.1);
}

merged_proper : (x a : AbsState) (P : AbsState → Type 0) (o : Option AbsState) → IsProper a → IsLeast o P → IsMerged o a x → IsProper x
merged_proper x a P None p h m = rw m p
merged_proper x a P (Some b) p h m = m.1 h.proper p

merged_covers : (x a b : AbsState) (P : AbsState → Type 0) (o : Option AbsState) → IsLeast o P → IsMerged o a x → P b ⊎ (b ≡ a) → CoversState x b
merged_covers x a b P None h m (inl p) = absurd (h b p)
merged_covers x a b P None h m (inr e) = rw (m, e) (covers_itself a)
merged_covers x a b P (Some c) h m (inl p) = covers_through x c b m.0.covers_first (h.covers b p)
merged_covers x a b P (Some c) h m (inr e) = rw e m.0.covers_second

merged_least : (x a : AbsState) (P : AbsState → Type 0) (o : Option AbsState) → IsLeast o P → IsMerged o a x
    → (y : AbsState) → ((b : AbsState) → P b ⊎ (b ≡ a) → CoversState y b) → CoversState y x
merged_least x a P None h m y c = rw m (c a (inr refl))
merged_least x a P (Some b) h m y c = m.0.least y (h.least y (λ d p. c d (inl p))) (c a (inr refl))

merged : (x a : AbsState) (P : AbsState → Type 0) (o : Option AbsState) → IsProper a → IsLeast o P → IsMerged o a x → IsLeast (Some x) (λ b. P b ⊎ (b ≡ a))
merged x a P o p h m = record {
  proper = merged_proper x a P o p h m;
  covers = λ b p. merged_covers x a b P o h m p;
  least = λ y c. merged_least x a P o h m y c;
  some = (a, inr refl);
}

some_same : (a b : AbsState) → Some a ≡ Some b → a ≡ b
some_same a b e = cc

none_some : (b : AbsState) (o : Option AbsState) → o ≡ None → o ≡ Some b → ⊥
none_some b o e f = let bad : None ≡ Some b = sym e ∙ f in absurd (cc)

-- what is given to a slot flows there besides
pub given_least : (states : List (Option AbsState)) (t : ℕ) (o : Option AbsState) (after : List (Option AbsState)) (P : ℕ → AbsState → Type 0)
    → ((a : AbsState) → o ≡ Some a → t < length states) → IfSome o IsProper → ((u : ℕ) → IsLeast (states_of states u) (P u)) → IsGiven states t o after
    → (u : ℕ) → IsLeast (states_of after u) (λ b. P u b ⊎ ((o ≡ Some b) × (u ≡ t)))
given_least states t None after P short proper h g u =
    let same : states_of after u ≡ states_of states u = ap (λ l. states_of l u) g in
    subst (λ o. IsLeast o (λ b. P u b ⊎ ((None ≡ Some b) × (u ≡ t)))) (sym same)
    (least_same (states_of states u) (P u) (λ b. P u b ⊎ ((None ≡ Some b) × (u ≡ t))) (λ b p. inl p) back (h u))
  where
    back : (b : AbsState) → P u b ⊎ ((None ≡ Some b) × (u ≡ t)) → P u b
    back b (inl p) = p
    back b (inr e) = absurd (none_some b None refl e.0)
given_least states t (Some a) after P short proper h g u = go (cases_eq u t)
  where
    to : (u ≡ t) → (b : AbsState) → P u b ⊎ (b ≡ a) → P u b ⊎ ((Some a ≡ Some b) × (u ≡ t))
    to e b (inl p) = inl p
    to e b (inr s) = inr (ap Some (sym s), e)

    from : (b : AbsState) → P u b ⊎ ((Some a ≡ Some b) × (u ≡ t)) → P u b ⊎ (b ≡ a)
    from b (inl p) = inl p
    from b (inr e) = inr (sym (some_same a b e.0))

    apart : (u ≡ t → ⊥) → (b : AbsState) → P u b ⊎ ((Some a ≡ Some b) × (u ≡ t)) → P u b
    apart n b (inl p) = p
    apart n b (inr e) = absurd (n e.1)

    go : (u ≡ t) ⊎ (u ≡ t → ⊥) → IsLeast (states_of after u) (λ b. P u b ⊎ ((Some a ≡ Some b) × (u ≡ t)))
    go (inl e) =
        let now : states_of after u ≡ Some g.0 = ap (λ l. states_of l u) g.2 ∙ ap (λ i. slice_index_or (set states t (Some g.0)) i None) e ∙ get_or-set_same states t (Some g.0) None (short a refl) in
        let old : IsMerged (states_of states u) a g.0 = rw e g.1 in
        subst (λ o. IsLeast o (λ b. P u b ⊎ ((Some a ≡ Some b) × (u ≡ t)))) (sym now)
        (least_same (Some g.0) (λ b. P u b ⊎ (b ≡ a)) (λ b. P u b ⊎ ((Some a ≡ Some b) × (u ≡ t))) (to e) from (merged g.0 a (P u) (states_of states u) proper (h u) old))
    go (inr n) =
        let same : states_of after u ≡ states_of states u = ap (λ l. states_of l u) g.2 ∙ get_or-set_other states t u (Some g.0) None n in
        subst (λ o. IsLeast o (λ b. P u b ⊎ ((Some a ≡ Some b) × (u ≡ t)))) (sym same)
        (least_same (states_of states u) (P u) (λ b. P u b ⊎ ((Some a ≡ Some b) × (u ≡ t))) (λ b p. inl p) (apart n) (h u))

-- the other slots keep what they have
pub given_apart : (states : List (Option AbsState)) (t : ℕ) (o : Option AbsState) (after : List (Option AbsState)) → IsGiven states t o after
    → (u : ℕ) → (u ≡ t → ⊥) → states_of after u ≡ states_of states u
given_apart states t None after g u n = ap (λ l. states_of l u) g
given_apart states t (Some a) after g u n = ap (λ l. states_of l u) g.2 ∙ get_or-set_other states t u (Some g.0) None n

-- a state that is given leaves how many there are
pub given_long : (states : List (Option AbsState)) (t : ℕ) (o : Option AbsState) (after : List (Option AbsState)) → IsGiven states t o after → length after ≡ length states
given_long states t None after g = ap length g
given_long states t (Some a) after g = ap length g.2 ∙ length-set states t (Some g.0)
