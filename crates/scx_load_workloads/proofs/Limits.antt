-- What `cpu_max` says is what is read of it.
use Rattle.std.proofs.Common.{rules, arith, ◌≡◌, ◌⊎◌, inl, inr, ℕ, zero, suc, ◌+◌, ◌*◌, ◌/◌, ◌%◌, ◌^◌, ◌<◌, ◌≤◌, Bool, true, false, nat_lt, ◌==◌, ◌&&◌, ◌||◌, not, if◌then◌else◌, List, [], ◌∷◌, ◌++◌, length, get_or, take, drop, Option, Some, None, option_map, Err, codes, refl, sym, ap, ◌∙◌, subst}
use Rattle.std.specs.List.{position, position_or_len}
use Rattle.std.specs.Str.{bytes_eq, all_ascii_digits}
use Rattle.std.specs.Str.Parse.{IsNumeral, digits_value, without_leading_plus}
use Rattle.std.proofs.lemmas.Bool.{cases_lt}
use Rattle.std.proofs.lemmas.Bool.Decides.{nat_tests}
use Rattle.std.proofs.lemmas.List.{get_or_append_left, get_or_at, take_at, drop_at, length-append, append_assoc}
use Rattle.std.proofs.lemmas.List.Sums.{position_or_len_is, split_at_first, passes_at_first}
use Rattle.std.proofs.lemmas.Slice.Eq.{bytes_eq-Decides}
use Rattle.std.proofs.lemmas.Str.Parse.{IsNumeralModel, numerals_by_value, tells_all_ascii_digits, parse_digits, not_in_digits}
use Rattle.scx_weights.specs.Refusals.{max_quota, max_period, is_outside, is_bad_quota}
use Rattle.scx_load_workloads.specs.declared.limit.Limit.{Limit}
use Rattle.scx_load_workloads.specs.Limit.{is_numeral, numeral, IsTime, IsQuota, Says, Says.both, Says.alone, SaysJust, TextsSayOneLimit, is_time, whole_ms, ms_in, quota_in, limit_of, limit_at, limit_in}

-- digits are numerals by their values
pub own : IsNumeralModel (λ ds. all_ascii_digits ds ≡ true) (digits_value 10)
own = numerals_by_value _ tells_all_ascii_digits

same : {A : Type 0} (a b : A) → ◌≡◌ {A = Option A} (Some a) (Some b) → a ≡ b
same a b e = cc

pub record AreDigits (text : List ℕ) : Type 0 where
  pub some : 0 < length text
  pub all : all_ascii_digits text ≡ true

-- the digits of a numeral
pub are_digits : (text : List ℕ) → is_numeral text ≡ true → AreDigits text
are_digits text e = go (nat_lt 0 (length text)) (all_ascii_digits text) refl refl e
  where
    go : (a b : Bool) → nat_lt 0 (length text) ≡ a → all_ascii_digits text ≡ b → (a && b) ≡ true → AreDigits text
    go true true x y f = record { some = grind (arith, nat_tests, x); all = y }
    go true false x y f = absurd (cc)
    go false b x y f = absurd (cc)

-- ---- digits that are too many for a number of 32 bits

big : (most us : ℕ) → most ≤ 1000000 → 2 ^ 32 ≤ us → is_time most us ≡ false
big most us l h =
    let above : most < us / 1000 = omega (arith, l, h) in
    let past : nat_lt most (us / 1000) ≡ true = grind (arith, nat_tests, above) in
    go ((us % 1000) == 0) (nat_lt (us / 1000) 1) (nat_lt most (us / 1000)) past
  where
    go : (a b c : Bool) → c ≡ true → (a && not (b || c)) ≡ false
    go true true c e = refl
    go true false true e = refl
    go true false false e = absurd (cc)
    go false b c e = refl

-- digits that aren't a number of 32 bits say a greater one
pub too_long : (text : List ℕ) → is_numeral text ≡ true → ¬ (IsNumeral 10 (without_leading_plus text) × (digits_value 10 (without_leading_plus text) < 2 ^ 32)) → None ≡ numeral text
too_long text n p =
    let digits = are_digits text n in
    let no = parse_digits own {E = ℕ} 32 text (Err 0) p digits.all in
    let long : 2 ^ 32 ≤ digits_value 10 text = go (cases_lt (digits_value 10 text) (2 ^ 32)) (λ lt. no (digits.some, lt)) in
    let past : nat_lt (digits_value 10 text) (2 ^ 32) ≡ false = grind (arith, nat_tests, long) in
    rw (n, past) refl
  where
    go : (digits_value 10 text < 2 ^ 32) ⊎ (2 ^ 32 ≤ digits_value 10 text) → (digits_value 10 text < 2 ^ 32 → ⊥) → 2 ^ 32 ≤ digits_value 10 text
    go (inl lt) f = absurd (f lt)
    go (inr le) f = le

-- what isn't a number of 32 bits says no time
pub no_numeral : (most : ℕ) (text : List ℕ) → most ≤ 1000000 → numeral text ≡ None → ms_in most text ≡ None
no_numeral most text l e = go (is_numeral text) (nat_lt (digits_value 10 text) (2 ^ 32)) refl refl e
  where
    go : (a b : Bool) → is_numeral text ≡ a → nat_lt (digits_value 10 text) (2 ^ 32) ≡ b → (if a && b then Some (digits_value 10 text) else None) ≡ None → ms_in most text ≡ None
    go true true x y f = absurd (cc)
    go true false x y f = let long : 2 ^ 32 ≤ digits_value 10 text = grind (arith, nat_tests, y) in rw (x, big most (digits_value 10 text) l long) refl
    go false b x y f = rw x refl

-- and of what is one it is that number's
pub numeral_is : (most n : ℕ) (text : List ℕ) → numeral text ≡ Some n → ms_in most text ≡ whole_ms most n
numeral_is most n text e = go (is_numeral text) (nat_lt (digits_value 10 text) (2 ^ 32)) refl e
  where
    go : (a b : Bool) → is_numeral text ≡ a → (if a && b then Some (digits_value 10 text) else None) ≡ Some n → ms_in most text ≡ whole_ms most n
    go true true x f = rw (x, same (digits_value 10 text) n f) refl
    go true false x f = absurd (cc)
    go false b x f = absurd (cc)

-- ---- a quota, and a period

record IsWhole (most us : ℕ) : Type 0 where
  pub value : us ≡ us / 1000 * 1000
  pub least : 1 ≤ us / 1000
  pub greatest : us / 1000 ≤ most

whole : (most us : ℕ) → is_time most us ≡ true → IsWhole most us
whole most us e = go ((us % 1000) == 0) (nat_lt (us / 1000) 1) (nat_lt most (us / 1000)) refl refl refl e
  where
    go : (a b c : Bool) → ((us % 1000) == 0) ≡ a → nat_lt (us / 1000) 1 ≡ b → nat_lt most (us / 1000) ≡ c → (a && not (b || c)) ≡ true → IsWhole most us
    go true false false x y z f = let r : us % 1000 ≡ 0 = grind (arith, nat_tests, x) in record { value = omega (arith, r); least = grind (arith, nat_tests, y); greatest = grind (arith, nat_tests, z) }
    go true false true x y z f = absurd (cc)
    go true true c x y z f = absurd (cc)
    go false b c x y z f = absurd (cc)

time_of : (most : ℕ) (text : List ℕ) (ms : ℕ) → ms_in most text ≡ Some ms → IsTime most text ms
time_of most text ms e = go (is_numeral text) (is_time most (digits_value 10 text)) refl refl e
  where
    go : (a b : Bool) → is_numeral text ≡ a → is_time most (digits_value 10 text) ≡ b → (if a then (if b then Some (digits_value 10 text / 1000) else None) else None) ≡ Some ms → IsTime most text ms
    go true true x y f =
        let w = whole most (digits_value 10 text) y in
        subst (IsTime most text) (same (digits_value 10 text / 1000) ms f) record { digits = x; value = w.value; least = w.least; greatest = w.greatest }
    go true false x y f = absurd (cc)
    go false b x y f = absurd (cc)

time_is : (most : ℕ) (text : List ℕ) (ms : ℕ) → IsTime most text ms → ms_in most text ≡ Some ms
time_is most text ms t =
    let us = digits_value 10 text in
    let part : us / 1000 ≡ ms = omega (arith, t.value) in
    let rest : (us % 1000 == 0) ≡ true = let r : us % 1000 ≡ 0 = omega (arith, t.value) in rw r refl in
    let low : nat_lt (us / 1000) 1 ≡ false = grind (arith, nat_tests, part, t.least) in
    let high : nat_lt most (us / 1000) ≡ false = grind (arith, nat_tests, part, t.greatest) in
    rw (t.digits, rest, low, high) (ap Some part)

quota_of : (text : List ℕ) (quota : Option ℕ) → quota_in text ≡ Some quota → IsQuota text quota
quota_of text quota e = go (bytes_eq text (codes "max")) (ms_in max_quota text) refl refl e
  where
    is_max : bytes_eq text (codes "max") ≡ true → text ≡ codes "max"
    is_max x = search (rules, bytes_eq-Decides, x)

    go : (a : Bool) (o : Option ℕ) → bytes_eq text (codes "max") ≡ a → ms_in max_quota text ≡ o → (if a then Some None else option_map Some o) ≡ Some quota → IsQuota text quota
    go true o x y f = subst (IsQuota text) (same None quota f) (is_max x)
    go false (Some ms) x y f = subst (IsQuota text) (same (Some ms) quota f) (time_of max_quota text ms y)
    go false None x y f = absurd (cc)

quota_is : (text : List ℕ) (quota : Option ℕ) → IsQuota text quota → quota_in text ≡ Some quota
quota_is text None q = rw q refl
quota_is text (Some ms) q = go (bytes_eq text (codes "max")) refl
  where
    is_max : bytes_eq text (codes "max") ≡ true → text ≡ codes "max"
    is_max x = search (rules, bytes_eq-Decides, x)

    no_number : text ≡ codes "max" → is_numeral text ≡ false
    no_number x = rw x refl

    go : (a : Bool) → bytes_eq text (codes "max") ≡ a → quota_in text ≡ Some (Some ms)
    go true x = absurd (let n = no_number (is_max x) in let d = q.digits in cc)
    go false x = rw (x, time_is max_quota text ms q) refl

-- ---- the space between them

-- no space stands in it
abbrev IsSolid : List ℕ → Type 0
IsSolid text = (k : ℕ) → k < length text → (get_or text k 0 == 32) ≡ false

solid_time : (most : ℕ) (text : List ℕ) (ms : ℕ) → IsTime most text ms → IsSolid text
solid_time most text ms t k l =
    let ne = not_in_digits own text 32 (are_digits text t.digits).all (λ r. omega (arith, r.0, r.1)) k l in
    grind (arith, nat_tests, ne)

solid : (text : List ℕ) (quota : Option ℕ) → IsQuota text quota → IsSolid text
solid text None q = subst IsSolid (sym q) of_max
  where
    of_max : IsSolid (codes "max")
    of_max zero l = refl
    of_max (suc zero) l = refl
    of_max (suc (suc zero)) l = refl
    of_max (suc (suc (suc k))) l = absurd (omega (arith, l))
solid text (Some ms) q = solid_time max_quota text ms q

no_space : (text : List ℕ) → IsSolid text → position (λ b. b == 32) text ≡ None
no_space text s =
    let at : position_or_len (λ b. b == 32) text ≡ length text = position_or_len_is (λ b. b == 32) text (length text) 0 (omega arith) s (λ l. absurd (omega (arith, l))) in
    let past : nat_lt (length text) (length text) ≡ false = grind (arith, nat_tests) in
    rw (at, past) refl

one_space : (before after : List ℕ) → IsSolid before → position (λ b. b == 32) (before ++ 32 ∷ after) ≡ Some (length before)
one_space before after s =
    let longer : length before < length (before ++ 32 ∷ after) = omega (arith, length-append before (32 ∷ after)) in
    let at : position_or_len (λ b. b == 32) (before ++ 32 ∷ after) ≡ length before =
    position_or_len_is (λ b. b == 32) (before ++ 32 ∷ after) (length before) 0 (omega (arith, longer)) (λ k l. rw (get_or_append_left before (32 ∷ after) 0 k l) (s k l)) (λ l. rw (get_or_at before 32 after 0 (length before) refl) refl) in
    let within : nat_lt (length before) (length (before ++ 32 ∷ after)) ≡ true = grind (arith, nat_tests, longer) in
    rw (at, within) refl

-- ---- a limit

limit_is : (text : List ℕ) (limit : Limit) → Says limit text → limit_in text ≡ Some limit
limit_is text limit (alone quota q p) = rw (no_space quota (solid quota limit.quota_ms q), quota_is quota limit.quota_ms q, sym p) refl
limit_is text limit (both quota period q p) =
    let rest : drop (length quota + 1) (quota ++ 32 ∷ period) ≡ period =
    ap (drop (length quota + 1)) (sym (append_assoc quota (32 ∷ []) period)) ∙ drop_at (quota ++ 32 ∷ []) period (length quota + 1) (length-append quota (32 ∷ [])) in
    rw (one_space quota period (solid quota limit.quota_ms q), take_at quota (32 ∷ period) (length quota) refl, rest, quota_is quota limit.quota_ms q, time_is max_period period limit.period_ms p) refl

limit_says : (text : List ℕ) (limit : Limit) → limit_in text ≡ Some limit → Says limit text
limit_says text limit e = go (cases_lt space (length text))
  where
    space : ℕ
    space = position_or_len (λ b. b == 32) text

    alone_says : (o : Option (Option ℕ)) → quota_in text ≡ o → limit_of o (Some 100) ≡ Some limit → Says limit text
    alone_says None x f = absurd (cc)
    alone_says (Some quota) x f = subst (λ l. Says l text) (same _ limit f) (alone text (quota_of text quota x) refl)

    both_say : (o : Option (Option ℕ)) (p : Option ℕ) → quota_in (take space text) ≡ o → ms_in max_period (drop (space + 1) text) ≡ p → text ≡ take space text ++ 32 ∷ drop (space + 1) text → limit_of o p ≡ Some limit → Says limit text
    both_say None p x y t f = absurd (cc)
    both_say (Some quota) None x y t f = absurd (cc)
    both_say (Some quota) (Some ms) x y t f =
        subst (Says limit) (sym t) (subst (λ l. Says l (take space text ++ 32 ∷ drop (space + 1) text)) (same _ limit f) (both (take space text) (drop (space + 1) text) (quota_of (take space text) quota x) (time_of max_period (drop (space + 1) text) ms y)))

    go : (space < length text) ⊎ (length text ≤ space) → Says limit text
    go (inl l) =
        let there : position (λ b. b == 32) text ≡ Some space = let b : nat_lt space (length text) ≡ true = grind (arith, nat_tests, l) in rw b refl in
        let is : get_or text space 0 ≡ 32 = grind (arith, nat_tests, passes_at_first (λ b. b == 32) text 0 l) in
        let parts : text ≡ take space text ++ 32 ∷ drop (space + 1) text = subst (λ b. text ≡ take space text ++ b ∷ drop (space + 1) text) is (split_at_first (λ b. b == 32) text 0 l) in
        both_say _ _ refl refl parts (ap (limit_at text) (sym there) ∙ e)
    go (inr l) =
        let none : position (λ b. b == 32) text ≡ None = let b : nat_lt space (length text) ≡ false = grind (arith, nat_tests, l) in rw b refl in
        alone_says _ refl (ap (limit_at text) (sym none) ∙ e)

says_just : (text : List ℕ) (limit : Option Limit) → limit_in text ≡ limit → SaysJust text limit
says_just text None e = λ limit says. absurd (let f = limit_is text limit says in cc)
says_just text (Some limit) e = (limit_says text limit e, λ other says. same other limit (sym (limit_is text other says) ∙ e))

-- each text says the limit that is read in it and no other, or none where none is read
pub texts_say_one_limit_lem : TextsSayOneLimit
texts_say_one_limit_lem = λ text. says_just text (limit_in text) refl

-- ---- what holds of a limit that was read

pub record IsRight (limit : Limit) : Type 0 where
  pub quota : is_bad_quota limit.quota_ms ≡ false
  pub period : is_outside max_period limit.period_ms ≡ false

within : (most ms : ℕ) → 1 ≤ ms → ms ≤ most → is_outside most ms ≡ false
within most ms l m =
    let low : nat_lt ms 1 ≡ false = grind (arith, nat_tests, l) in
    let high : nat_lt most ms ≡ false = grind (arith, nat_tests, m) in
    rw (low, high) refl

quota_within : (text : List ℕ) (quota : Option ℕ) → IsQuota text quota → is_bad_quota quota ≡ false
quota_within text None q = refl
quota_within text (Some ms) q = within max_quota ms q.least q.greatest

-- the quota and the period of a limit that is read are in their limits
pub says_right : (text : List ℕ) (limit : Limit) → limit_in text ≡ Some limit → IsRight limit
says_right text limit e = go text (limit_says text limit e)
  where
    go : (said : List ℕ) → Says limit said → IsRight limit
    go said (alone quota q p) = record { quota = quota_within quota limit.quota_ms q; period = rw p refl }
    go said (both quota period q p) = record { quota = quota_within quota limit.quota_ms q; period = within max_period limit.period_ms p.least p.greatest }
