-- The percentiles that are told of lengths are theirs.
use Rattle.std.proofs.Common.{◌≡◌, ℕ, suc, ◌+◌, ◌*◌, ◌^◌, ◌<◌, ◌≤◌, Bool, true, false, cond, ltb, eqb, List, [], ◌∷◌, length, None, Less, nat_cmp, refl, sym, ap, subst, ◌∙◌, arith, ◌⊎◌, inl, inr}
use Rattle.std.specs.Prelude.{⊤}
use Rattle.std.specs.BTreeMap.{insert_entry, is_at}
use Rattle.std.specs.List.Sorted.{IsStrictlySortedBy}
use Rattle.std.specs.Map.{keys_of, lookup}
use Rattle.std.specs.Option.{unwrap_or}
use Rattle.std.specs.Cmp.{nat_cmp_total}
use Rattle.std.proofs.lemmas.Nat.{mul-le, mul-lt}
use Rattle.std.proofs.lemmas.Map.{lookup-none}
use Rattle.std.proofs.lemmas.Map.Entries.{none_below_head}
use Rattle.std.proofs.lemmas.Map.Keys.{sorted_tail}
use Rattle.std.proofs.lemmas.Bool.{cases_eq, cases_lt, lt-ltb, le-ltb, eq-eqb, ne_eqb}
use Rattle.scxsim_views.specs.Lengths.{Lengths, one_if, at_most_64_bits, up, one_more_of, first_reaching, percentile}
use Rattle.scxsim_views.specs.Percentiles.{how_many, are_up_to, IsPercentile, ArePercentiles}

-- ---- how many of each length there were

-- those of lengths that pass a test
abbrev passing : (ℕ → Bool) → List (ℕ × ℕ) → ℕ
passing test [] = 0
passing test (e ∷ es) = cond (test e.0) e.1 0 + passing test es

-- all of them
abbrev all : List (ℕ × ℕ) → ℕ
all es = passing (λ k. true) es

-- the table with these lengths, one after the other
abbrev pub times_with : List ℕ → List (ℕ × ℕ) → List (ℕ × ℕ)
times_with [] es = es
times_with (l ∷ ls) es = times_with ls (one_more_of l es)

-- one of a length that is shorter than all comes first
pub goes_first : (l : ℕ) (e : ℕ × ℕ) (es : List (ℕ × ℕ)) → l < e.0 → one_more_of l (e ∷ es) ≡ (l, 1) ∷ e ∷ es
goes_first l e es less = rw (lt-ltb l e.0 less) refl

-- one of the first length is one more of it
pub goes_here : (l : ℕ) (e : ℕ × ℕ) (es : List (ℕ × ℕ)) → e.0 ≤ l → l ≡ e.0 → one_more_of l (e ∷ es) ≡ (e.0, up e.1) ∷ es
goes_here l e es at_least same = rw (le-ltb l e.0 at_least, eq-eqb l e.0 same) refl

-- a longer one comes later
pub goes_behind : (l : ℕ) (e : ℕ × ℕ) (es : List (ℕ × ℕ)) → e.0 ≤ l → (l ≡ e.0 → ⊥) → one_more_of l (e ∷ es) ≡ e ∷ one_more_of l es
goes_behind l e es at_least other = rw (le-ltb l e.0 at_least, ne_eqb l e.0 other) refl

-- one more than none is one
pub up_0 : up 0 ≡ 1
up_0 = omega arith

-- an insert of one more than was there is one more of that length
pub insert_is : (l : ℕ) (es : List (ℕ × ℕ)) → IsStrictlySortedBy nat_cmp (keys_of es) → insert_entry nat_cmp es l (up (unwrap_or (lookup (is_at (nat_cmp l)) es) 0)) ≡ one_more_of l es
insert_is l [] sorted = ap (λ n. (l, n) ∷ []) up_0
insert_is l (e ∷ es) sorted = go (cases_lt l e.0) (cases_eq l e.0) (insert_is l es (sorted_tail nat_cmp e.0 (keys_of es) sorted))
  where
    go : (l < e.0) ⊎ (e.0 ≤ l) → (l ≡ e.0) ⊎ (l ≡ e.0 → ⊥) → insert_entry nat_cmp es l (up (unwrap_or (lookup (is_at (nat_cmp l)) es) 0)) ≡ one_more_of l es
        → insert_entry nat_cmp (e ∷ es) l (up (unwrap_or (lookup (is_at (nat_cmp l)) (e ∷ es)) 0)) ≡ one_more_of l (e ∷ es)
    go (inl less) either rest =
        let cmp : nat_cmp l e.0 ≡ Less = rw (lt-ltb l e.0 less) refl in
        let none : lookup (is_at (nat_cmp l)) (e ∷ es) ≡ None = lookup-none (is_at (nat_cmp l)) (e ∷ es) (none_below_head nat_cmp_total l e es sorted cmp) in
        let first : insert_entry nat_cmp (e ∷ es) l 1 ≡ one_more_of l (e ∷ es) = rw (lt-ltb l e.0 less) refl in
        ap (λ o. insert_entry nat_cmp (e ∷ es) l (up (unwrap_or o 0))) none ∙ ap (λ n. insert_entry nat_cmp (e ∷ es) l n) up_0 ∙ first
    go (inr at_least) (inl same) rest = rw (le-ltb l e.0 at_least, eq-eqb l e.0 same) refl
    go (inr at_least) (inr other) rest =
        rw (le-ltb l e.0 at_least, ne_eqb l e.0 other) (ap (λ xs. e ∷ xs) rest)

new_first : (b : Bool) (n : ℕ) → cond b 1 0 + n ≡ n + one_if b
new_first true n = omega arith
new_first false n = omega arith

one_up : (b : Bool) (v n : ℕ) → v < 2 ^ 57 → cond b (up v) 0 + n ≡ (cond b v 0 + n) + one_if b
one_up true v n small = omega (arith, small)
one_up false v n small = omega arith

moved : (a b c : ℕ) → a + (b + c) ≡ (a + b) + c
moved a b c = omega arith

from_0 : (n : ℕ) → 0 + n ≡ n
from_0 n = omega arith

left_small : (a b : ℕ) → a + b < 2 ^ 57 → a < 2 ^ 57
left_small a b small = omega (arith, small)

right_small : (a b : ℕ) → a + b < 2 ^ 57 → b < 2 ^ 57
right_small a b small = omega (arith, small)

-- one more of a length is one more that passes a test, if the length does
one_more : (test : ℕ → Bool) (l : ℕ) (es : List (ℕ × ℕ)) → all es < 2 ^ 57 → passing test (one_more_of l es) ≡ passing test es + one_if (test l)
one_more test l [] small = new_first (test l) 0
one_more test l (e ∷ es) small = go (cases_lt l e.0) (cases_eq l e.0) (one_more test l es (right_small e.1 (all es) small))
  where
    go : (l < e.0) ⊎ (e.0 ≤ l) → (l ≡ e.0) ⊎ (l ≡ e.0 → ⊥) → passing test (one_more_of l es) ≡ passing test es + one_if (test l) → passing test (one_more_of l (e ∷ es)) ≡ passing test (e ∷ es) + one_if (test l)
    go (inl less) either rest = ap (λ xs. passing test xs) (goes_first l e es less) ∙ new_first (test l) (passing test (e ∷ es))
    go (inr at_least) (inl same) rest =
        ap (λ xs. passing test xs) (goes_here l e es at_least same) ∙ one_up (test e.0) e.1 (passing test es) (left_small e.1 (all es) small)
        ∙ ap (λ k. passing test (e ∷ es) + one_if (test k)) (sym same)
    go (inr at_least) (inr other) rest =
        ap (λ xs. passing test xs) (goes_behind l e es at_least other) ∙ ap (λ n. cond (test e.0) e.1 0 + n) rest
        ∙ moved (cond (test e.0) e.1 0) (passing test es) (one_if (test l))

all_with : (ls : List ℕ) (es : List (ℕ × ℕ)) (test : ℕ → Bool) → all es + length ls < 2 ^ 57 → passing test (times_with ls es) ≡ passing test es + how_many test ls
all_with [] es test small = none (passing test es)
  where
    none : (a : ℕ) → a ≡ a + 0
    none a = omega arith
all_with (l ∷ ls) es test small =
    let one : (t : ℕ → Bool) → passing t (one_more_of l es) ≡ passing t es + one_if (t l) = λ t. one_more t l es (left_small (all es) (suc (length ls)) small) in
    all_with ls (one_more_of l es) test (subst (λ a. a + length ls < 2 ^ 57) (sym (one (λ k. true))) (shifted (all es) (length ls) small))
    ∙ ap (λ n. n + how_many test ls) (one test) ∙ sym (moved (passing test es) (one_if (test l)) (how_many test ls))
  where
    shifted : (a n : ℕ) → a + suc n < 2 ^ 57 → (a + 1) + n < 2 ^ 57
    shifted a n small = omega (arith, small)

-- ---- in order

abbrev AllAbove : ℕ → List (ℕ × ℕ) → Type 0
AllAbove k [] = ⊤
AllAbove k (e ∷ es) = (k < e.0) × AllAbove k es

abbrev InOrder : List (ℕ × ℕ) → Type 0
InOrder [] = ⊤
InOrder (e ∷ es) = AllAbove e.0 es × InOrder es

above_lower : (j k : ℕ) (es : List (ℕ × ℕ)) → j < k → AllAbove k es → AllAbove j es
above_lower j k [] less above = tt
above_lower j k (e ∷ es) less above = (omega (arith, less, above.0), above_lower j k es less above.1)

one_more_above : (k l : ℕ) (es : List (ℕ × ℕ)) → k < l → AllAbove k es → AllAbove k (one_more_of l es)
one_more_above k l [] less above = (less, tt)
one_more_above k l (e ∷ es) less above = go (ltb l e.0) (eqb l e.0) (one_more_above k l es less above.1)
  where
    go : (b c : Bool) → AllAbove k (one_more_of l es) → AllAbove k (cond b ((l, 1) ∷ e ∷ es) (cond c ((e.0, up e.1) ∷ es) (e ∷ one_more_of l es)))
    go true c rest = (less, above)
    go false true rest = (above.0, above.1)
    go false false rest = (above.0, rest)

one_more_in_order : (l : ℕ) (es : List (ℕ × ℕ)) → InOrder es → InOrder (one_more_of l es)
one_more_in_order l [] ordered = (tt, tt)
one_more_in_order l (e ∷ es) ordered = go (cases_lt l e.0) (cases_eq l e.0) (one_more_in_order l es ordered.1)
  where
    go : (l < e.0) ⊎ (e.0 ≤ l) → (l ≡ e.0) ⊎ (l ≡ e.0 → ⊥) → InOrder (one_more_of l es) → InOrder (one_more_of l (e ∷ es))
    go (inl less) either rest = subst (λ xs. InOrder xs) (sym (goes_first l e es less)) ((less, above_lower l e.0 es less ordered.0), ordered)
    go (inr at_least) (inl same) rest = subst (λ xs. InOrder xs) (sym (goes_here l e es at_least same)) (ordered.0, ordered.1)
    go (inr at_least) (inr other) rest =
        subst (λ xs. InOrder xs) (sym (goes_behind l e es at_least other)) (one_more_above e.0 l es (omega (arith, at_least, other)) ordered.0, rest)

all_in_order : (ls : List ℕ) (es : List (ℕ × ℕ)) → InOrder es → InOrder (times_with ls es)
all_in_order [] es ordered = ordered
all_in_order (l ∷ ls) es ordered = all_in_order ls (one_more_of l es) (one_more_in_order l es ordered)

-- ---- the first length with which enough are reached

abbrev exact : ℕ → ℕ → List (ℕ × ℕ) → ℕ
exact enough before [] = 0
exact enough before (e ∷ es) = cond (ltb ((before + e.1) * 100) enough) (exact enough (before + e.1) es) e.0

is_exact : (enough before : ℕ) (es : List (ℕ × ℕ)) → before + all es < 2 ^ 57 → first_reaching enough before es ≡ exact enough before es
is_exact enough before [] small = refl
is_exact enough before (e ∷ es) small =
    let fewer : (before + e.1) + all es < 2 ^ 57 = omega (arith, small) in
    let one : before + e.1 < 2 ^ 57 = left_small (before + e.1) (all es) fewer in
    ap (λ v. cond (ltb (at_most_64_bits (v * 100)) enough) (first_reaching enough v es) e.0) (plain (before + e.1) one)
    ∙ ap (λ m. cond (ltb m enough) (first_reaching enough (before + e.1) es) e.0) (hundredfold (before + e.1) one)
    ∙ ap (λ x. cond (ltb ((before + e.1) * 100) enough) x e.0) (is_exact enough (before + e.1) es fewer)
  where
    plain : (a : ℕ) → a < 2 ^ 57 → at_most_64_bits a ≡ a
    plain a small = omega (arith, small)

    hundredfold : (a : ℕ) → a < 2 ^ 57 → at_most_64_bits (a * 100) ≡ a * 100
    hundredfold a small = omega (arith, small)

-- lengths up to one that is shorter than the first, and up to one that isn't
skipped : (y : ℕ) (e : ℕ × ℕ) (es : List (ℕ × ℕ)) → y < e.0 → passing (are_up_to y) (e ∷ es) ≡ passing (are_up_to y) es
skipped y e es less = rw (lt-ltb y e.0 less) (from_0 (passing (are_up_to y) es))

taken : (y : ℕ) (e : ℕ × ℕ) (es : List (ℕ × ℕ)) → e.0 ≤ y → passing (are_up_to y) (e ∷ es) ≡ e.1 + passing (are_up_to y) es
taken y e es at_least = rw (le-ltb y e.0 at_least) refl

none_up_to : (y k : ℕ) (es : List (ℕ × ℕ)) → y ≤ k → AllAbove k es → passing (are_up_to y) es ≡ 0
none_up_to y k [] le above = refl
none_up_to y k (e ∷ es) le above = skipped y e es (omega (arith, le, above.0)) ∙ none_up_to y k es le above.1

-- with it enough are reached, and with no lower one
record IsFirst (enough before : ℕ) (es : List (ℕ × ℕ)) (x : ℕ) : Type 0 where
  pub reached : enough ≤ (before + passing (are_up_to x) es) * 100
  pub least : (y : ℕ) → y < x → (before + passing (are_up_to y) es) * 100 < enough

-- up to a length that is shorter than all
below_all : (enough before y : ℕ) (e : ℕ × ℕ) (es : List (ℕ × ℕ)) → AllAbove e.0 es → before * 100 < enough → y < e.0 → (before + passing (are_up_to y) (e ∷ es)) * 100 < enough
below_all enough before y e es above few less =
    let nothing : passing (are_up_to y) (e ∷ es) ≡ 0 = skipped y e es less ∙ none_up_to y e.0 es (omega (arith, less)) above in
    subst (λ p. (before + p) * 100 < enough) (sym nothing) (with_none before enough few)
  where
    with_none : (a m : ℕ) → a * 100 < m → (a + 0) * 100 < m
    with_none a m few = omega (arith, few)

-- the first is enough
first_is : (enough before : ℕ) (e : ℕ × ℕ) (es : List (ℕ × ℕ)) → AllAbove e.0 es → before * 100 < enough → enough ≤ (before + e.1) * 100 → IsFirst enough before (e ∷ es) e.0
first_is enough before e es above few enough_now = record {
  reached =
      let here : passing (are_up_to e.0) (e ∷ es) ≡ e.1 + 0 = taken e.0 e es (omega arith) ∙ ap (λ n. e.1 + n) (none_up_to e.0 e.0 es (omega arith) above) in
      subst (λ p. enough ≤ (before + p) * 100) (sym here) (and_none before e.1 enough enough_now);
  least = λ y less. below_all enough before y e es above few less;
}
  where
    and_none : (a b m : ℕ) → m ≤ (a + b) * 100 → m ≤ (a + (b + 0)) * 100
    and_none a b m now = omega (arith, now)

-- one further behind is
behind_is : (enough before x : ℕ) (e : ℕ × ℕ) (es : List (ℕ × ℕ)) → AllAbove e.0 es → before * 100 < enough → (before + e.1) * 100 < enough → IsFirst enough (before + e.1) es x → IsFirst enough before (e ∷ es) x
behind_is enough before x e es above few still rest = go (cases_lt x e.0)
  where
    step : (a b p m : ℕ) → m ≤ ((a + b) + p) * 100 → m ≤ (a + (b + p)) * 100
    step a b p m l = omega (arith, l)

    step_below : (a b p m : ℕ) → ((a + b) + p) * 100 < m → (a + (b + p)) * 100 < m
    step_below a b p m l = omega (arith, l)

    never : (a p m : ℕ) → p ≡ 0 → a * 100 < m → m ≤ (a + p) * 100 → ⊥
    never a p m none l now = omega (arith, none, l, now)

    lower : (y : ℕ) → y < x → (y < e.0) ⊎ (e.0 ≤ y) → (before + passing (are_up_to y) (e ∷ es)) * 100 < enough
    lower y less (inl before_it) = below_all enough before y e es above few before_it
    lower y less (inr at_least) =
        subst (λ p. (before + p) * 100 < enough) (sym (taken y e es at_least)) (step_below before e.1 (passing (are_up_to y) es) enough (rest.least y less))

    go : (x < e.0) ⊎ (e.0 ≤ x) → IsFirst enough before (e ∷ es) x
    go (inl less) = absurd (never (before + e.1) (passing (are_up_to x) es) enough (none_up_to x e.0 es (omega (arith, less)) above) still rest.reached)
    go (inr at_least) = record {
      reached = subst (λ p. enough ≤ (before + p) * 100) (sym (taken x e es at_least)) (step before e.1 (passing (are_up_to x) es) enough rest.reached);
      least = λ y less. lower y less (cases_lt y e.0);
    }

is_first : (enough before : ℕ) (es : List (ℕ × ℕ)) → InOrder es → before * 100 < enough → enough ≤ (before + all es) * 100 → IsFirst enough before es (exact enough before es)
is_first enough before [] ordered few all_enough = absurd (omega (arith, few, all_enough))
is_first enough before (e ∷ es) ordered few all_enough =
    go (cases_lt ((before + e.1) * 100) enough)
    (λ still. is_first enough (before + e.1) es ordered.1 still (rest_enough before e.1 (all es) enough all_enough))
  where
    rest_enough : (a b n m : ℕ) → m ≤ (a + (b + n)) * 100 → m ≤ ((a + b) + n) * 100
    rest_enough a b n m l = omega (arith, l)

    go : ((before + e.1) * 100 < enough) ⊎ (enough ≤ (before + e.1) * 100) → ((before + e.1) * 100 < enough → IsFirst enough (before + e.1) es (exact enough (before + e.1) es))
        → IsFirst enough before (e ∷ es) (exact enough before (e ∷ es))
    go (inl still) rest =
        let x = exact enough (before + e.1) es in
        subst (λ b. IsFirst enough before (e ∷ es) (cond b x e.0)) (sym (lt-ltb ((before + e.1) * 100) enough still)) (behind_is enough before x e es ordered.0 few still (rest still))
    go (inr now) rest =
        subst (λ b. IsFirst enough before (e ∷ es) (cond b (exact enough (before + e.1) es) e.0)) (sym (le-ltb ((before + e.1) * 100) enough now)) (first_is enough before e es ordered.0 few now)

-- ---- of lengths

all_pass : (ls : List ℕ) → how_many (λ k. true) ls ≡ length ls
all_pass [] = refl
all_pass (l ∷ ls) = ap (λ n. 1 + n) (all_pass ls) ∙ more (length ls)
  where
    more : (n : ℕ) → 1 + n ≡ suc n
    more n = omega arith

-- the table of some lengths, and how many there are, give their percentiles
pub are_percentiles : (ls : List ℕ) (x : Lengths) → x.count ≡ at_most_64_bits (length ls) → x.times ≡ times_with ls [] → ArePercentiles ls x
are_percentiles [] x count times percent some most small =
    let is : percentile percent x ≡ 0 = ap (λ t. first_reaching (at_most_64_bits (x.count * percent)) 0 t) times in
    subst (λ v. IsPercentile percent [] v) (sym is) (record { reached = mul-le 0 percent 0 100 (omega arith) most; least = λ y lower. absurd (omega (arith, lower)) })
are_percentiles (l ∷ ls) x count times percent some most small =
    let all_ls = l ∷ ls in
    let es = times_with all_ls [] in
    let m = suc (length ls) * percent in
    let fits : 0 + suc (length ls) < 2 ^ 57 = omega (arith, small) in
    let up_to : (y : ℕ) → passing (are_up_to y) es ≡ 0 + how_many (are_up_to y) all_ls = λ y. all_with all_ls [] (are_up_to y) fits in
    let whole : all es ≡ suc (length ls) = all_with all_ls [] (λ k. true) fits ∙ from_0 (how_many (λ k. true) all_ls) ∙ all_pass all_ls in
    let enough : at_most_64_bits (x.count * percent) ≡ m = counted (suc (length ls)) percent x.count count small most in
    let is : percentile percent x ≡ exact m 0 es = ap (λ t. first_reaching (at_most_64_bits (x.count * percent)) 0 t) times
    ∙ ap (λ n. first_reaching n 0 es) enough ∙ is_exact m 0 es (subst (λ a. 0 + a < 2 ^ 57) (sym whole) fits) in
    let first = is_first m 0 es (all_in_order all_ls [] tt) (positive (length ls) percent some)
    (subst (λ a. m ≤ (0 + a) * 100) (sym whole) (no_more (suc (length ls)) percent most)) in
    subst (λ v. IsPercentile percent all_ls v) (sym is)
    (record {
      reached = is_reached m _ _ first.reached (up_to (exact m 0 es));
      least = λ y lower. is_least m _ _ (first.least y lower) (up_to y);
    })
  where
    is_reached : (m p q : ℕ) → m ≤ (0 + p) * 100 → p ≡ 0 + q → m ≤ q * 100
    is_reached m p q l same = omega (arith, l, same)

    is_least : (m p q : ℕ) → (0 + p) * 100 < m → p ≡ 0 + q → m ≤ q * 100 → ⊥
    is_least m p q l same now = omega (arith, l, same, now)

    plain : (n m : ℕ) → n ≤ m → m ≤ 2 ^ 57 * 100 → at_most_64_bits n ≡ n
    plain n m less small = omega (arith, less, small)

    counted : (n percent c : ℕ) → c ≡ at_most_64_bits n → n < 2 ^ 57 → percent ≤ 100 → at_most_64_bits (c * percent) ≡ n * percent
    counted n percent c same small most =
        let bound : n * percent ≤ 2 ^ 57 * 100 = mul-le n percent (2 ^ 57) 100 (omega (arith, small)) most in
        ap (λ k. at_most_64_bits (k * percent)) (same ∙ plain n (2 ^ 57) (omega (arith, small)) (omega arith))
        ∙ plain (n * percent) (2 ^ 57 * 100) bound (omega arith)

    positive : (n percent : ℕ) → 0 < percent → 0 * 100 < suc n * percent
    positive n percent some = mul-lt 0 0 (suc n) percent (omega arith) some

    no_more : (n percent : ℕ) → percent ≤ 100 → n * percent ≤ (0 + n) * 100
    no_more n percent most = mul-le n percent (0 + n) 100 (omega arith) most
