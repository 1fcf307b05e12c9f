-- Counts of lengths that are put together are the counts of all these lengths.
use Rattle.std.proofs.Common.{◌≡◌, ℕ, zero, suc, ◌+◌, ◌-◌, ◌^◌, ◌<◌, min, max, Bool, true, false, ◌||◌, cond, eqb, List, [], ◌∷◌, ◌++◌, length, map, Option, None, Some, refl, sym, ap, subst, ◌∙◌, length-append, arith, add-one, ◌⊎◌, inl, inr}
use Rattle.std.specs.List.{list_any}
use Rattle.std.proofs.lemmas.Bool.{cases_eq}
use Rattle.std.proofs.lemmas.List.{get_or_push, get_or_append_left, length_push}
use Rattle.scx_weights.specs.GroupPaths.{there}
use Rattle.scx_load_workloads.specs.Workload.{WorkloadState}
use Rattle.scxsim_views.specs.declared.pauses.Pause.{Pause}
use Rattle.scxsim_views.specs.Lengths.{Lengths, no_lengths, at_most_64_bits, up_by, length_of, one_more_of, all_added, merged, merged_if, with_length}
use Rattle.scxsim_views.specs.Percentiles.{ArePercentiles}
use Rattle.scxsim_statistics.specs.Groups.{is_level, is_in, merged_below, waits_in, waits_below, waits_at}
use Rattle.scxsim_statistics.specs.Figures.{greatest, longest_of, told_below}
use Rattle.scxsim_statistics.specs.declared.latencies.LatencyFigures.{LatencyFigures}
use Rattle.scxsim_statistics.specs.declared.tally.TaskFigures.{TaskFigures}
use Rattle.scxsim_views.proofs.Percentiles.{times_with, are_percentiles}
use Rattle.scxsim_views.proofs.Adding.{added_all, times_append}
use Rattle.scxsim_statistics.proofs.Told.{one_more, longest_made}

-- ---- what is counted of some lengths

-- exactly these lengths were counted
pub record IsOfLengths (ls : List ℕ) (x : Lengths) : Type 0 where
  pub count : x.count ≡ at_most_64_bits (length ls)
  pub longest : x.longest ≡ greatest ls
  pub times : x.times ≡ times_with ls []

-- their percentiles
pub percentiles_of : (ls : List ℕ) (x : Lengths) → IsOfLengths ls x → ArePercentiles ls x
percentiles_of ls x counted = are_percentiles ls x counted.count counted.times

-- of none
pub none_counted : IsOfLengths [] no_lengths
none_counted = record { count = refl; longest = refl; times = refl }

-- of none more
pub with_none : (ls : List ℕ) (x : Lengths) → IsOfLengths ls x → IsOfLengths (ls ++ []) x
with_none ls x counted = subst (λ ks. IsOfLengths ks x) (sym (append_none ls)) counted
  where
    append_none : (ks : List ℕ) → ks ++ [] ≡ ks
    append_none [] = refl
    append_none (k ∷ ks) = ap (λ xs. k ∷ xs) (append_none ks)

greatest_append : (ks ls : List ℕ) → greatest (ks ++ ls) ≡ max (greatest ks) (greatest ls)
greatest_append [] ls = from_none (greatest ls)
  where
    from_none : (a : ℕ) → a ≡ max 0 a
    from_none a = omega arith
greatest_append (k ∷ ks) ls = ap (λ n. max k n) (greatest_append ks ls) ∙ shifted k (greatest ks) (greatest ls)
  where
    shifted : (a b c : ℕ) → max a (max b c) ≡ max (max a b) c
    shifted a b c = omega arith

longest_none : (ls : List ℕ) (x : Lengths) → IsOfLengths ls x → x.count ≡ 0 → x.longest ≡ 0
longest_none [] x counted none = counted.longest
longest_none (l ∷ ls) x counted none = absurd (some (length ls) (sym counted.count ∙ none))
  where
    some : (n : ℕ) → min (suc n) (2 ^ 64 - 1) ≡ 0 → ⊥
    some n e = omega (arith, e)

-- of one more
pub one_counted : (ls : List ℕ) (since l : ℕ) (x : Lengths) → IsOfLengths ls x → IsOfLengths (ls ++ l ∷ []) (with_length since l x)
one_counted ls since l x counted = record {
  count = one_more x.count (length ls) counted.count ∙ ap at_most_64_bits (sym (length-append ls (l ∷ [])));
  longest =
      longest_made since l x (longest_none ls x counted) ∙ ap (λ n. max n l) counted.longest ∙ ap (λ n. max (greatest ls) n) (alone l)
      ∙ sym (greatest_append ls (l ∷ []));
  times = ap (λ es. one_more_of l es) counted.times ∙ sym (times_append ls (l ∷ []) []);
}
  where
    alone : (a : ℕ) → a ≡ max a 0
    alone a = omega arith

-- of two lists
merged_counted : (ks ls : List ℕ) (x y : Lengths) → IsOfLengths ks x → IsOfLengths ls y → IsOfLengths (ks ++ ls) (merged y x)
merged_counted ks ls x y first second = record {
  count = ap (λ n. up_by n x.count) second.count ∙ ap (λ n. up_by (at_most_64_bits (length ls)) n) first.count ∙ capped (length ks) (length ls) (2 ^ 64 - 1) ∙ ap at_most_64_bits (sym (length-append ks ls));
  longest = ap (λ n. max n y.longest) first.longest ∙ ap (λ n. max (greatest ks) n) second.longest ∙ sym (greatest_append ks ls);
  times =
      ap (λ es. all_added y.times es) first.times ∙ ap (λ ms. all_added ms (times_with ks [])) second.times ∙ added_all ls [] (times_with ks [])
      ∙ sym (times_append ks ls []);
}
  where
    capped : (a b m : ℕ) → min (min a m + min b m) m ≡ min (a + b) m
    capped a b m = omega arith

-- the lengths of all tasks of a group
pub merged_told : (w : WorkloadState) (g : ℕ) (told : ℕ → List ℕ) (counted : ℕ → Lengths) (n : ℕ) → ((t : ℕ) → t < n → IsOfLengths (told t) (counted t))
    → IsOfLengths (told_below w g told n) (merged_below (is_in w g) counted n)
merged_told w g told counted zero each = none_counted
merged_told w g told counted (suc n) each =
    by_test (is_in w g n) (merged_told w g told counted n (λ t below. each t (omega (arith, below)))) (each n (omega arith))
  where
    by_test : (b : Bool) → IsOfLengths (told_below w g told n) (merged_below (is_in w g) counted n) → IsOfLengths (told n) (counted n)
        → IsOfLengths (told_below w g told n ++ cond b (told n) []) (merged_if b (counted n) (merged_below (is_in w g) counted n))
    by_test true before here =
        merged_counted (told_below w g told n) (told n) (merged_below (is_in w g) counted n) (counted n) before here
    by_test false before here = with_none (told_below w g told n) (merged_below (is_in w g) counted n) before

-- the longest of some pauses
pub greatest_of : (ps : List Pause) → longest_of ps ≡ greatest (map length_of ps)
greatest_of [] = refl
greatest_of (p ∷ ps) = ap (λ n. max (length_of p) n) (greatest_of ps)

-- ---- one number further

-- a number is counted if it passes the test
pub merged_step : (test : ℕ → Bool) (counted : ℕ → Lengths) (n : ℕ) (b : Bool) (x y z : Lengths) → z ≡ merged_if b y x → b ≡ test n → y ≡ counted n → x ≡ merged_below test counted n → z ≡ merged_below test counted (n + 1)
merged_step test counted n b x y z is passes here before =
    is ∙ ap (λ c. merged_if c y x) passes ∙ ap (λ v. merged_if (test n) v x) here ∙ ap (λ v. merged_if (test n) (counted n) v) before ∙ next
  where
    next : merged_if (test n) (counted n) (merged_below test counted n) ≡ merged_below test counted (n + 1)
    next = rw add-one refl

-- the next group comes last
pub waits_next : (w : WorkloadState) (tasks : List TaskFigures) (xs : List LatencyFigures) (n : ℕ) → waits_below w tasks xs (n + 1) ≡ waits_below w tasks xs n ++ waits_in w tasks xs n ∷ []
waits_next w tasks xs n = rw add-one refl

-- there are as many groups as were asked for
pub length_below : (w : WorkloadState) (tasks : List TaskFigures) (xs : List LatencyFigures) (n : ℕ) → length (waits_below w tasks xs n) ≡ n
length_below w tasks xs zero = refl
length_below w tasks xs (suc n) =
    length_push (waits_below w tasks xs n) (waits_in w tasks xs n) ∙ ap (λ m. m + 1) (length_below w tasks xs n) ∙ more n
  where
    more : (n : ℕ) → n + 1 ≡ suc n
    more n = omega arith

-- each is at its place
pub at_below : (w : WorkloadState) (tasks : List TaskFigures) (xs : List LatencyFigures) (n g : ℕ) → g < n → waits_at (waits_below w tasks xs n) g ≡ waits_in w tasks xs g
at_below w tasks xs zero g below = absurd (omega (arith, below))
at_below w tasks xs (suc n) g below = go (cases_eq g n) (λ lower. at_below w tasks xs n g lower)
  where
    go : (g ≡ n) ⊎ (g ≡ n → ⊥) → (g < n → waits_at (waits_below w tasks xs n) g ≡ waits_in w tasks xs g) → waits_at (waits_below w tasks xs (suc n)) g ≡ waits_in w tasks xs g
    go (inl same) earlier =
        get_or_push (waits_below w tasks xs n) (waits_in w tasks xs n) (record { waits = no_lengths; latencies = no_lengths }) g (length_below w tasks xs n ∙ sym same)
        ∙ ap (λ i. waits_in w tasks xs i) (sym same)
    go (inr other) earlier =
        get_or_append_left (waits_below w tasks xs n) (waits_in w tasks xs n ∷ []) (record { waits = no_lengths; latencies = no_lengths }) g (subst (λ m. g < m) (sym (length_below w tasks xs n)) (omega (arith, below, other)))
        ∙ earlier (omega (arith, below, other))

-- ---- the groups that a group lies in

-- a place of the path that holds the group is a group of the path
pub any_there : (g : ℕ) (os : List (Option ℕ)) → list_any (is_level g) os ≡ list_any (λ x. eqb x g) (there os)
any_there g [] = refl
any_there g (None ∷ os) = any_there g os
any_there g (Some x ∷ os) = ap (λ b. eqb x g || b) (any_there g os)
