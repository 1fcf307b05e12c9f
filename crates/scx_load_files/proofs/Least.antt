-- The least of some paths, and of the paths of two lists, one after the other.
use Rattle.std.proofs.Common.{◌≡◌, ℕ, zero, suc, ◌+◌, ◌<◌, List, [], ◌∷◌, ◌++◌, length, drop, get_or, slice_index_or, Option, Some, None, false, ◌⊎◌, inl, inr, refl, sym, ◌∙◌, ap, arith, Ordering, Less, Equal, Greater}
use Rattle.std.specs.List.{All, Contains}
use Rattle.std.specs.Ordering.{nat_cmp, is_gt, ordering_reverse}
use Rattle.std.specs.Cmp.{tied_back, tied_itself, upto}
use Rattle.std.specs.Cmp.Lexicographic.{slice_cmp, nat_list_cmp_total}
use Rattle.toml.specs.View.{view, items_view}
use Rattle.toml.specs.declared.value.Value.{Value}
use Rattle.toml.proofs.Views.{items_view-drop}
use Rattle.scx_load_files.specs.Paths.{element}
use Rattle.scx_load_files.specs.Unknown.{least_with, lesser, IsLeast, unknown_of, unknown_from}

-- two lists, one after the other
pub least_with-append : (least : Option (List ℕ)) (ps qs : List (List ℕ)) → least_with least (ps ++ qs) ≡ least_with (least_with least ps) qs
least_with-append least [] qs = refl
least_with-append least (p ∷ ps) qs = least_with-append (Some (lesser p least)) ps qs

-- one element of an array, and those after it
pub one_more : (known : List (List ℕ)) (path : List ℕ) (vs : List Value) (i : ℕ) (d : Value) (least : Option (List ℕ)) → i < length vs
    → least_with least (unknown_from known path i (items_view (drop i vs)))
    ≡ least_with (least_with least (unknown_of known (element path i) (view (get_or vs i d)))) (unknown_from known path (i + 1) (items_view (drop (i + 1) vs)))
one_more known path vs i d least lt =
    rw (items_view-drop vs i d lt) (least_with-append least (unknown_of known (element path i) (view (get_or vs i d))) (unknown_from known path (i + 1) (items_view (drop (i + 1) vs))))

-- ---- the path that is found is the least

abbrev IsUpTo : List ℕ → List ℕ → Type 0
IsUpTo p q = is_gt (slice_cmp nat_cmp p q) ≡ false

module _ (p q : List ℕ) where
  lesser_is_one : (r : Ordering) → slice_cmp nat_cmp p q ≡ r → (lesser p (Some q) ≡ p) ⊎ (lesser p (Some q) ≡ q)
  lesser_is_one Less e = inl (rw e refl)
  lesser_is_one Equal e = inr (rw e refl)
  lesser_is_one Greater e = inr (rw e refl)

  up_to_first : (r : Ordering) → slice_cmp nat_cmp p q ≡ r → IsUpTo (lesser p (Some q)) p
  up_to_first Less e = rw e (ap is_gt (tied_itself nat_list_cmp_total p))
  up_to_first Equal e = rw e (ap is_gt (tied_back nat_list_cmp_total p q e))
  up_to_first Greater e = rw e (ap is_gt (nat_list_cmp_total.antisymm q p ∙ ap ordering_reverse e))

  up_to_second : (r : Ordering) → slice_cmp nat_cmp p q ≡ r → IsUpTo (lesser p (Some q)) q
  up_to_second Less e = rw e (ap is_gt e)
  up_to_second Equal e = rw e (ap is_gt (tied_itself nat_list_cmp_total q))
  up_to_second Greater e = rw e (ap is_gt (tied_itself nat_list_cmp_total q))

-- of two paths in front the lesser one is enough
module _ (p q : List ℕ) (paths : List (List ℕ)) where
  lesser_in_front : (x : List ℕ) → Contains (lesser p (Some q) ∷ paths) x → Contains (q ∷ p ∷ paths) x
  lesser_in_front x (zero, l, e) = go (lesser_is_one p q (slice_cmp nat_cmp p q) refl)
    where
      go : (lesser p (Some q) ≡ p) ⊎ (lesser p (Some q) ≡ q) → Contains (q ∷ p ∷ paths) x
      go (inl first) = (1, omega (arith), sym first ∙ e)
      go (inr second) = (0, omega (arith), sym second ∙ e)
  lesser_in_front x (suc k, l, e) = (suc (suc k), omega (arith, l), e)

  up_to_all : (x : List ℕ) → All (IsUpTo x) (lesser p (Some q) ∷ paths) → All (IsUpTo x) (q ∷ p ∷ paths)
  up_to_all x h zero d l = upto nat_list_cmp_total x _ q (h zero d (omega arith)) (up_to_second p q _ refl)
  up_to_all x h (suc zero) d l = upto nat_list_cmp_total x _ p (h zero d (omega arith)) (up_to_first p q _ refl)
  up_to_all x h (suc (suc k)) d l = h (suc k) d (omega (arith, l))

  lesser_is_enough : (o : Option (List ℕ)) → IsLeast (lesser p (Some q) ∷ paths) o → IsLeast (q ∷ p ∷ paths) o
  lesser_is_enough None h = absurd (cc)
  lesser_is_enough (Some x) h = (lesser_in_front x h.0, up_to_all x h.1)

least_behind : (q : List ℕ) (paths : List (List ℕ)) → IsLeast (q ∷ paths) (least_with (Some q) paths)
least_behind q [] = ((0, omega arith, refl), alone)
  where
    alone : All (IsUpTo q) (q ∷ [])
    alone zero d l = ap is_gt (tied_itself nat_list_cmp_total q)
    alone (suc k) d l = absurd (omega (arith, l))
least_behind q (p ∷ paths) = lesser_is_enough p q paths _ (least_behind (lesser p (Some q)) paths)

-- the least of a list
pub least_is_found : (paths : List (List ℕ)) → IsLeast paths (least_with None paths)
least_is_found [] = refl
least_is_found (p ∷ paths) = least_behind p paths

-- it is the least of all of them
pub four_looks : (ps qs rs ss : List (List ℕ)) → least_with (least_with (least_with (least_with None ps) qs) rs) ss ≡ least_with None (ps ++ qs ++ rs ++ ss)
four_looks ps qs rs ss = rw (least_with-append None (ps ++ qs ++ rs) ss, least_with-append None (ps ++ qs) rs, least_with-append None ps qs) refl

-- and so of five lists
pub five_looks : (ps qs rs ss ts : List (List ℕ)) → least_with (least_with (least_with (least_with (least_with None ps) qs) rs) ss) ts ≡ least_with None (ps ++ qs ++ rs ++ ss ++ ts)
five_looks ps qs rs ss ts = rw (least_with-append None (ps ++ qs ++ rs ++ ss) ts, least_with-append None (ps ++ qs ++ rs) ss, least_with-append None (ps ++ qs) rs, least_with-append None ps qs) refl
