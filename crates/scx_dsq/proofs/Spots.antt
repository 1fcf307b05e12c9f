-- Each task's spot after two items were exchanged, and those of tasks that aren't there.
use Rattle.std.proofs.Common.{◌≡◌, ◌≢◌, ℕ, ◌<◌, ◌==◌, List, length, set, slice_index_or, refl, sym, ap, ◌∙◌, subst, ◌⊎◌, inl, inr}
use Rattle.std.specs.List.{SwappedAt}
use Rattle.std.specs.List.Sorted.{IsPermutation}
use Rattle.std.proofs.lemmas.Bool.{cases_eq, both_ways, eq-eqb}
use Rattle.std.proofs.lemmas.List.Folds.{list_any_at}
use Rattle.std.proofs.lemmas.List.Sorted.{list_any-IsPermutation}
use Rattle.std.proofs.lemmas.List.{get_or_default, get_or-set_same, get_or-set_other, length-set}
use Rattle.scx_dsq.specs.declared.heap.Item.{Item}
use Rattle.scx_dsq.specs.Heaps.{HasSpots, IsAbsent, KeepsOthers}

module _ (items new : List Item) (spots : List ℕ) (i j : ℕ) (z : Item) (first : i < length items) (second : j < length items) (h : HasSpots items spots) (swapped : SwappedAt items new i j)
    (long : length new ≡ length items) where
  abbrev pub one : ℕ
  one = (slice_index_or new i z).task

  abbrev pub two : ℕ
  two = (slice_index_or new j z).task

  abbrev pub after : List ℕ
  after = set (set spots one i) two j

  one_is : (d : Item) → one ≡ (slice_index_or items j d).task
  one_is d = ap (λ (x : Item). x.task) (swapped.0 z ∙ get_or_default items j z d second)

  two_is : (d : Item) → two ≡ (slice_index_or items i d).task
  two_is d = ap (λ (x : Item). x.task) (swapped.1 z ∙ get_or_default items i z d first)

  -- the task at the first position has a spot
  pub one_within : one < length spots
  one_within = subst (λ t. t < length spots) (sym (one_is z)) (h j z 0 second).0

  -- and that at the second
  pub two_within : two < length spots
  two_within = subst (λ t. t < length spots) (sym (two_is z)) (h i z 0 first).0

  -- which it still has after the first was written
  pub two_still : two < length (set spots one i)
  two_still = subst (λ n. two < n) (sym (length-set spots one i)) two_within

  apart_from : (t k : ℕ) → k < length items → IsAbsent items t → t ≢ (slice_index_or items k z).task
  apart_from t k lt out e = both_ways _ out (list_any_at (λ (x : Item). x.task == t) items k z lt (eq-eqb (slice_index_or items k z).task t (sym e)))

  own : (k l : ℕ) (x y : Item) → k < length items → l < length items → (slice_index_or items k x).task ≡ (slice_index_or items l y).task → k ≡ l
  own k l x y p q e = sym (h k x 0 p).1 ∙ ap (λ t. slice_index_or spots t 0) e ∙ (h l y 0 q).1

  same_length : length after ≡ length spots
  same_length = length-set (set spots one i) two j ∙ length-set spots one i

  abbrev Stands : ℕ → ℕ → ℕ → Type 0
  Stands k e t = (t < length after) × (slice_index_or after t e ≡ k)

  within_after : (t : ℕ) → t < length spots → t < length after
  within_after t lt = subst (λ n. t < n) (sym same_length) lt

  at_second : (e : ℕ) → Stands j e two
  at_second e = (within_after two two_within, get_or-set_same (set spots one i) two j e two_still)

  at_first : (e : ℕ) → i ≢ j → Stands i e one
  at_first e n = (
    within_after one one_within,
    get_or-set_other (set spots one i) two one j e (λ s. n (own i j z z first second (sym (two_is z) ∙ sym s ∙ one_is z))) ∙ get_or-set_same spots one i e one_within,
  )

  elsewhere : (k : ℕ) (d : Item) (e : ℕ) → k < length items → k ≢ i → k ≢ j → Stands k e (slice_index_or items k d).task
  elsewhere k d e lt n m =
      let old = h k d e lt in (
        within_after _ old.0,
        get_or-set_other (set spots one i) two (slice_index_or items k d).task j e (λ s. n (own k i d z lt first (s ∙ two_is z)))
            ∙ get_or-set_other spots one (slice_index_or items k d).task i e (λ s. m (own k j d z lt second (s ∙ one_is z))) ∙ old.1,
      )

  -- after both were written each task has its spot
  pub spots_after : HasSpots new after
  spots_after k d e lt = go (cases_eq k j) (cases_eq k i)
    where
      go : (k ≡ j) ⊎ (k ≡ j → ⊥) → (k ≡ i) ⊎ (k ≡ i → ⊥) → Stands k e (slice_index_or new k d).task
      go (inl same) s =
          subst (λ x. Stands x e (slice_index_or new x d).task) (sym same)
          (subst (Stands j e) (two_is d ∙ sym (ap (λ (x : Item). x.task) (swapped.1 d))) (at_second e))
      go (inr n) (inl same) =
          subst (λ x. Stands x e (slice_index_or new x d).task) (sym same)
          (subst (Stands i e) (one_is d ∙ sym (ap (λ (x : Item). x.task) (swapped.0 d))) (at_first e (λ s. n (same ∙ s))))
      go (inr n) (inr m) =
          subst (Stands k e) (sym (ap (λ (x : Item). x.task) (swapped.2 k d m n))) (elsewhere k d e (subst (λ n. k < n) long lt) m n)

  -- the spots of tasks that aren't there stay
  pub others_after : KeepsOthers items spots after
  others_after = record {
    long = same_length;
    same = λ t e out. get_or-set_other (set spots one i) two t j e (λ s. apart_from t i first out (s ∙ two_is z))
        ∙ get_or-set_other spots one t i e (λ s. apart_from t j second out (s ∙ one_is z));
  }

-- spots that stay keep those of others
pub keeps_none : (items : List Item) (spots : List ℕ) → KeepsOthers items spots spots
keeps_none items spots = record { long = refl; same = λ t e out. refl }

-- one after the other, both changes keep those of others
pub keeps_more : (items now : List Item) (first second third : List ℕ) → IsPermutation items now → KeepsOthers items first second → KeepsOthers now second third → KeepsOthers items first third
keeps_more items now first second third moved h more = record {
  long = more.long ∙ h.long;
  same = λ t e out. more.same t e (sym (list_any-IsPermutation (λ (x : Item). x.task == t) items now moved) ∙ out) ∙ h.same t e out;
}

-- so do two changes while the items stay
pub keeps_both : (items : List Item) (first second third : List ℕ) → KeepsOthers items first second → KeepsOthers items second third → KeepsOthers items first third
keeps_both items first second third h more = record {
  long = more.long ∙ h.long;
  same = λ t e out. more.same t e out ∙ h.same t e out;
}
