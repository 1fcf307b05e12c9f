-- What `cpus` says is what is read of it.
use Rattle.std.proofs.Common.{arith, ◌≡◌, ◌⊎◌, inl, inr, ℕ, zero, suc, ◌+◌, ◌-◌, ◌*◌, ◌/◌, ◌%◌, ◌^◌, ◌<◌, ◌≤◌, max, Bool, true, false, nat_lt, nat_le, ◌==◌, ◌&&◌, ◌||◌, if◌then◌else◌, List, [], ◌∷◌, ◌++◌, length, get_or, take, drop, All, Option, Some, None, refl, sym, ap, ◌∙◌, subst}
use Rattle.std.specs.Int.{bit_at}
use Rattle.std.specs.Int.Bits.{bit_and, bit_or}
use Rattle.std.specs.List.{position, position_or_len, slice_split, join_with_byte}
use Rattle.std.specs.Str.Parse.{digits_value}
use Rattle.std.proofs.Math.Pow.{high_ones, pow_mono, pow-sub-lt}
use Rattle.std.proofs.Math.Bool.{or_assoc}
use Rattle.std.proofs.lemmas.Bool.{cases_lt}
use Rattle.std.proofs.lemmas.Bool.Decides.{nat_tests}
use Rattle.std.proofs.lemmas.List.{get_or_append_left, get_or_at, take_at, drop_at, length-append, append_assoc}
use Rattle.std.proofs.lemmas.List.Elements.{All-nil, All-cons, All-head, All-tail, All-append, All-from_get_or}
use Rattle.std.proofs.lemmas.List.Splits.{slice_split_none, slice_split_at, length-slice_split, join_with_byte-slice_split}
use Rattle.std.proofs.lemmas.List.Sums.{position_or_len_is, split_at_first, passes_at_first}
use Rattle.std.proofs.lemmas.Nat.{or_lt, le_or_l, le_or_r, pow_below, pow_pos}
use Rattle.std.proofs.lemmas.Nat.Bits.{ones_shr, ones_shl, and_high_mask, bit_at-zero, bit_at_or, bit_at-lt, bit_at_mask_inside, bit_at_mask_below, bit_at_mask_above, same_from_bits}
use Rattle.std.proofs.lemmas.Str.Parse.{not_in_digits}
use Rattle.scx_load_workloads.specs.Limit.{is_numeral}
use Rattle.scx_load_workloads.specs.CpuLists.{Range, IsCpu, SaysRange, SaysRange.both, SaysRange.alone, SaysRanges, SaysRanges.one, SaysRanges.more, IsRange, is_named, SaysMask, cpu_in, range_of, range_at, range_in, joined, mask_with, mask_in, SaysJustMask, TextsSayOneMask}
use Rattle.scx_load_workloads.specs.Workload.{IsMask, all_cpus}
use Rattle.scx_load_workloads.proofs.Limits.{own, are_digits}

-- ---- a run of bits

-- as shifts make it
pub bits_are : (first last : ℕ) → first ≤ last → last < 64 → bit_and ((2 ^ 64 - 1) / 2 ^ (63 - last)) ((2 ^ 64 - 1) * 2 ^ first % 2 ^ 64) ≡ 2 ^ (last + 1) - 2 ^ first
bits_are first last order there =
    let top : 64 - (63 - last) ≡ last + 1 = omega (arith, there) in
    let low : (2 ^ 64 - 1) / 2 ^ (63 - last) ≡ 2 ^ (last + 1) - 1 = ones_shr 64 (63 - last) (omega arith) ∙ ap (λ n. 2 ^ n - 1) top in
    let high : (2 ^ 64 - 1) * 2 ^ first % 2 ^ 64 ≡ 2 ^ 64 - 2 ^ first = ones_shl 64 first (omega (arith, order, there)) in
    let fits : 2 ^ (last + 1) - 1 < 2 ^ 64 = let le : 2 ^ (last + 1) ≤ 2 ^ 64 = pow_mono {i = last + 1} {j = 64} (omega (arith, there)) in omega (arith, le, pow_pos (last + 1)) in
    let both : bit_and (2 ^ (last + 1) - 1) (2 ^ 64 - 2 ^ first) ≡ (2 ^ (last + 1) - 1) / 2 ^ first * 2 ^ first = and_high_mask 64 first (omega (arith, order, there)) (2 ^ (last + 1) - 1) fits in
    let shifted : (2 ^ (last + 1) - 1) / 2 ^ first ≡ 2 ^ (last + 1 - first) - 1 = ones_shr (last + 1) first (omega (arith, order)) in
    let whole : last + 1 - first + first ≡ last + 1 = omega (arith, order) in
    rw (low, high, both, shifted) (sym (high_ones (last + 1 - first) first) ∙ ap (λ n. 2 ^ n - 2 ^ first) whole)

-- all bits below 64 and some
pub all_are : (cpus : ℕ) → cpus ≤ 64 → (2 ^ 64 - 1) / 2 ^ (64 - cpus) ≡ all_cpus cpus
all_are cpus few =
    let same : 64 - (64 - cpus) ≡ cpus = omega (arith, few) in
    ones_shr 64 (64 - cpus) (omega arith) ∙ ap (λ n. 2 ^ n - 1) same

-- the bits of a range
abbrev bits_of : Range → ℕ
bits_of range = 2 ^ (range.last + 1) - 2 ^ range.first

-- those of a mask and a range beside it
or_range : (mask c : ℕ) (range : Range) → (bit_at (bit_or mask (bits_of range)) c == 1) ≡ ((bit_at mask c == 1) || (nat_le range.first c && nat_le c range.last))
or_range mask c range = at (cases_lt c range.first) (cases_lt range.last c)
  where
    alike : (y : ℕ) (b d : Bool) → bit_at (bits_of range) c ≡ y → nat_le range.first c ≡ b → nat_le c range.last ≡ d → ((max (bit_at mask c) y == 1) ≡ ((bit_at mask c == 1) || (b && d))) → (bit_at (bit_or mask (bits_of range)) c == 1) ≡ ((bit_at mask c == 1) || (nat_le range.first c && nat_le c range.last))
    alike y b d e f g h = rw (bit_at_or mask (bits_of range) c, e, f, g) h

    zero_beside : (n : ℕ) → n < 2 → (max n 0 == 1) ≡ ((n == 1) || false)
    zero_beside zero l = refl
    zero_beside (suc zero) l = refl
    zero_beside (suc (suc n)) l = absurd (omega (arith, l))

    one_beside : (n : ℕ) → n < 2 → (max n 1 == 1) ≡ ((n == 1) || true)
    one_beside zero l = refl
    one_beside (suc zero) l = refl
    one_beside (suc (suc n)) l = absurd (omega (arith, l))

    at : (c < range.first) ⊎ (range.first ≤ c) → (range.last < c) ⊎ (c ≤ range.last) → (bit_at (bit_or mask (bits_of range)) c == 1) ≡ ((bit_at mask c == 1) || (nat_le range.first c && nat_le c range.last))
    at (inl l) (inl m) = alike 0 false false (bit_at_mask_below range.first (range.last + 1) c l) (grind (arith, nat_tests, l)) (grind (arith, nat_tests, m)) (zero_beside (bit_at mask c) (bit_at-lt mask c))
    at (inl l) (inr m) = alike 0 false true (bit_at_mask_below range.first (range.last + 1) c l) (grind (arith, nat_tests, l)) (grind (arith, nat_tests, m)) (zero_beside (bit_at mask c) (bit_at-lt mask c))
    at (inr l) (inl m) = alike 0 true false (bit_at_mask_above range.first (range.last + 1) c (omega (arith, m))) (grind (arith, nat_tests, l)) (grind (arith, nat_tests, m)) (zero_beside (bit_at mask c) (bit_at-lt mask c))
    at (inr l) (inr m) = alike 1 true true (bit_at_mask_inside range.first (range.last + 1) c l (omega (arith, m))) (grind (arith, nat_tests, l)) (grind (arith, nat_tests, m)) (one_beside (bit_at mask c) (bit_at-lt mask c))

-- a mask and ranges beside it
abbrev or_all : ℕ → List Range → ℕ
or_all mask [] = mask
or_all mask (range ∷ ranges) = or_all (bit_or mask (bits_of range)) ranges

bits_named : (ranges : List Range) (mask c : ℕ) → (bit_at (or_all mask ranges) c == 1) ≡ ((bit_at mask c == 1) || is_named ranges c)
bits_named [] mask c = or_none (bit_at mask c == 1)
  where
    or_none : (b : Bool) → b ≡ (b || false)
    or_none true = refl
    or_none false = refl
bits_named (range ∷ ranges) mask c =
    let here = nat_le range.first c && nat_le c range.last in
    bits_named ranges (bit_or mask (bits_of range)) c ∙ ap (λ b. b || is_named ranges c) (or_range mask c range) ∙ or_assoc (bit_at mask c == 1) here (is_named ranges c)

-- a mask whose bits are those of ranges is made of these
made_of : (mask : ℕ) (ranges : List Range) → ((c : ℕ) → (bit_at mask c == 1) ≡ is_named ranges c) → mask ≡ or_all 0 ranges
made_of mask ranges bits = same_from_bits mask (or_all 0 ranges) (λ c. alike (bit_at mask c) (bit_at (or_all 0 ranges) c) (bit_at-lt mask c) (bit_at-lt (or_all 0 ranges) c) (bits c ∙ sym (named c)))
  where
    named : (c : ℕ) → (bit_at (or_all 0 ranges) c == 1) ≡ is_named ranges c
    named c = bits_named ranges 0 c ∙ ap (λ n. (n == 1) || is_named ranges c) (bit_at-zero c)

    alike : (m n : ℕ) → m < 2 → n < 2 → (m == 1) ≡ (n == 1) → m ≡ n
    alike zero zero l k e = refl
    alike (suc zero) (suc zero) l k e = refl
    alike zero (suc zero) l k e = absurd (cc)
    alike (suc zero) zero l k e = absurd (cc)
    alike (suc (suc m)) n l k e = absurd (omega (arith, l))
    alike zero (suc (suc n)) l k e = absurd (omega (arith, k))
    alike (suc zero) (suc (suc n)) l k e = absurd (omega (arith, k))

-- ---- a number

same : {A : Type 0} (a b : A) → ◌≡◌ {A = Option A} (Some a) (Some b) → a ≡ b
same a b e = cc

cpu_of : (text : List ℕ) (n : ℕ) → cpu_in text ≡ Some n → IsCpu text n
cpu_of text n e = go (nat_le (length text) 2) (is_numeral text) (nat_lt (digits_value 10 text) (2 ^ 32)) refl refl e
  where
    go : (a b d : Bool) → nat_le (length text) 2 ≡ a → is_numeral text ≡ b → (if a then (if b && d then Some (digits_value 10 text) else None) else None) ≡ Some n → IsCpu text n
    go true true true x y f = record { digits = y; few = grind (arith, nat_tests, x); value = same _ n f }
    go true true false x y f = absurd (cc)
    go true false d x y f = absurd (cc)
    go false b d x y f = absurd (cc)

cpu_is : (text : List ℕ) (n : ℕ) → n < 2 ^ 32 → IsCpu text n → cpu_in text ≡ Some n
cpu_is text n small c =
    let short : nat_le (length text) 2 ≡ true = grind (arith, nat_tests, c.few) in
    let low : nat_lt (digits_value 10 text) (2 ^ 32) ≡ true = grind (arith, nat_tests, c.value, small) in
    rw (short, c.digits, low) (ap Some c.value)

-- no such byte stands in it
abbrev Lacks : ℕ → List ℕ → Type 0
Lacks mark text = (k : ℕ) → k < length text → (get_or text k 0 == mark) ≡ false

lacks_comma : (text : List ℕ) (n : ℕ) → IsCpu text n → Lacks 44 text
lacks_comma text n c k l =
    let ne = not_in_digits own text 44 (are_digits text c.digits).all (λ r. omega (arith, r.0, r.1)) k l in
    grind (arith, nat_tests, ne)

lacks_hyphen : (text : List ℕ) (n : ℕ) → IsCpu text n → Lacks 45 text
lacks_hyphen text n c k l =
    let ne = not_in_digits own text 45 (are_digits text c.digits).all (λ r. omega (arith, r.0, r.1)) k l in
    grind (arith, nat_tests, ne)

-- ---- a part

no_comma : (range : Range) (part : List ℕ) → SaysRange range part → All (λ b. (b == 44) ≡ false) part
no_comma range part (alone cpu c e) = All-from_get_or (λ b. (b == 44) ≡ false) cpu 0 (lacks_comma cpu range.first c)
no_comma range part (both first last f l) =
    All-append (λ b. (b == 44) ≡ false) first (45 ∷ last) (All-from_get_or (λ b. (b == 44) ≡ false) first 0 (lacks_comma first range.first f))
    (All-cons (λ b. (b == 44) ≡ false) 45 last refl (All-from_get_or (λ b. (b == 44) ≡ false) last 0 (lacks_comma last range.last l)))

no_hyphen : (text : List ℕ) → Lacks 45 text → position (λ b. b == 45) text ≡ None
no_hyphen text s =
    let at : position_or_len (λ b. b == 45) text ≡ length text = position_or_len_is (λ b. b == 45) text (length text) 0 (omega arith) s (λ l. absurd (omega (arith, l))) in
    let past : nat_lt (length text) (length text) ≡ false = grind (arith, nat_tests) in
    rw (at, past) refl

one_hyphen : (before after : List ℕ) → Lacks 45 before → position (λ b. b == 45) (before ++ 45 ∷ after) ≡ Some (length before)
one_hyphen before after s =
    let longer : length before < length (before ++ 45 ∷ after) = omega (arith, length-append before (45 ∷ after)) in
    let at : position_or_len (λ b. b == 45) (before ++ 45 ∷ after) ≡ length before =
    position_or_len_is (λ b. b == 45) (before ++ 45 ∷ after) (length before) 0 (omega (arith, longer)) (λ k l. rw (get_or_append_left before (45 ∷ after) 0 k l) (s k l)) (λ l. rw (get_or_at before 45 after 0 (length before) refl) refl) in
    let within : nat_lt (length before) (length (before ++ 45 ∷ after)) ≡ true = grind (arith, nat_tests, longer) in
    rw (at, within) refl

range_there : (cpus : ℕ) (range : Range) → IsRange cpus range → range_of cpus (Some range.first) (Some range.last) ≡ Some (bits_of range)
range_there cpus range r =
    let order : nat_le range.first range.last ≡ true = grind (arith, nat_tests, r.order) in
    let there : nat_lt range.last cpus ≡ true = grind (arith, nat_tests, r.there) in
    rw (order, there) refl

range_is : (cpus : ℕ) (range : Range) (part : List ℕ) → cpus ≤ 64 → SaysRange range part → IsRange cpus range → range_in cpus part ≡ Some (bits_of range)
range_is cpus range part few (alone cpu c e) r =
    let read : cpu_in cpu ≡ Some range.first = cpu_is cpu range.first (omega (arith, r.order, r.there, few)) c in
    rw (no_hyphen cpu (lacks_hyphen cpu range.first c), read) (ap (λ n. range_of cpus (Some range.first) (Some n)) (sym e) ∙ range_there cpus range r)
range_is cpus range part few (both first last f l) r =
    let rest : drop (length first + 1) (first ++ 45 ∷ last) ≡ last =
    ap (drop (length first + 1)) (sym (append_assoc first (45 ∷ []) last)) ∙ drop_at (first ++ 45 ∷ []) last (length first + 1) (length-append first (45 ∷ [])) in
    rw (one_hyphen first last (lacks_hyphen first range.first f), take_at first (45 ∷ last) (length first) refl, rest, cpu_is first range.first (omega (arith, r.order, r.there, few)) f, cpu_is last range.last (omega (arith, r.there, few)) l)
    (range_there cpus range r)

-- a part, and the range that it says
record SaidRange (cpus bits : ℕ) (part : List ℕ) : Type 0 where
  pub range : Range
  pub says : SaysRange range part
  pub there : IsRange cpus range
  pub value : bits_of range ≡ bits

range_read : (cpus first last bits : ℕ) → range_of cpus (Some first) (Some last) ≡ Some bits → IsRange cpus (record { first = first; last = last }) × (2 ^ (last + 1) - 2 ^ first ≡ bits)
range_read cpus first last bits e = go (nat_le first last) (nat_lt last cpus) refl refl e
  where
    go : (a b : Bool) → nat_le first last ≡ a → nat_lt last cpus ≡ b → (if a && b then Some (2 ^ (last + 1) - 2 ^ first) else None) ≡ Some bits → IsRange cpus (record { first = first; last = last }) × (2 ^ (last + 1) - 2 ^ first ≡ bits)
    go true true x y f = (record { order = grind (arith, nat_tests, x); there = grind (arith, nat_tests, y) }, same _ bits f)
    go true false x y f = absurd (cc)
    go false b x y f = absurd (cc)

range_says : (cpus : ℕ) (part : List ℕ) (bits : ℕ) → range_in cpus part ≡ Some bits → SaidRange cpus bits part
range_says cpus part bits e = go (cases_lt hyphen (length part))
  where
    hyphen : ℕ
    hyphen = position_or_len (λ b. b == 45) part

    alone_says : (o : Option ℕ) → cpu_in part ≡ o → range_of cpus o o ≡ Some bits → SaidRange cpus bits part
    alone_says None x f = absurd (cc)
    alone_says (Some cpu) x f =
        let r = range_read cpus cpu cpu bits f in
        record { range = record { first = cpu; last = cpu }; says = alone part (cpu_of part cpu x) refl; there = r.0; value = r.1 }

    both_say : (o p : Option ℕ) → cpu_in (take hyphen part) ≡ o → cpu_in (drop (hyphen + 1) part) ≡ p → part ≡ take hyphen part ++ 45 ∷ drop (hyphen + 1) part → range_of cpus o p ≡ Some bits → SaidRange cpus bits part
    both_say None p x y t f = absurd (cc)
    both_say (Some first) None x y t f = absurd (cc)
    both_say (Some first) (Some last) x y t f =
        let r = range_read cpus first last bits f in
        subst (SaidRange cpus bits) (sym t) record { range = record { first = first; last = last }; says = both (take hyphen part) (drop (hyphen + 1) part) (cpu_of (take hyphen part) first x) (cpu_of (drop (hyphen + 1) part) last y); there = r.0; value = r.1 }

    go : (hyphen < length part) ⊎ (length part ≤ hyphen) → SaidRange cpus bits part
    go (inl l) =
        let there : position (λ b. b == 45) part ≡ Some hyphen = let b : nat_lt hyphen (length part) ≡ true = grind (arith, nat_tests, l) in rw b refl in
        let is : get_or part hyphen 0 ≡ 45 = grind (arith, nat_tests, passes_at_first (λ b. b == 45) part 0 l) in
        let parts : part ≡ take hyphen part ++ 45 ∷ drop (hyphen + 1) part = subst (λ b. part ≡ take hyphen part ++ b ∷ drop (hyphen + 1) part) is (split_at_first (λ b. b == 45) part 0 l) in
        both_say _ _ refl refl parts (ap (range_at cpus part) (sym there) ∙ e)
    go (inr l) =
        let none : position (λ b. b == 45) part ≡ None = let b : nat_lt hyphen (length part) ≡ false = grind (arith, nat_tests, l) in rw b refl in
        alone_says _ refl (ap (range_at cpus part) (sym none) ∙ e)

-- ---- all parts

parts_are : (cpus : ℕ) → cpus ≤ 64 → (ranges : List Range) (text : List ℕ) → SaysRanges ranges text → All (IsRange cpus) ranges → (mask : ℕ) → mask_with cpus (Some mask) (slice_split (λ b. b == 44) text) ≡ Some (or_all mask ranges)
parts_are cpus few ranges text (one range part s) there mask =
    let lacks = no_comma range part s in
    let read = range_is cpus range part few s (All-head (IsRange cpus) range [] there) in
    ap (mask_with cpus (Some mask)) (slice_split_none (λ b. b == 44) part lacks) ∙ ap (λ o. mask_with cpus (joined mask o) []) read
parts_are cpus few ranges text (more range others part rest s t) there mask =
    let lacks = no_comma range part s in
    let read = range_is cpus range part few s (All-head (IsRange cpus) range others there) in
    ap (mask_with cpus (Some mask)) (slice_split_at (λ b. b == 44) part 44 rest lacks refl) ∙ ap (λ o. mask_with cpus (joined mask o) (slice_split (λ b. b == 44) rest)) read
    ∙ parts_are cpus few others rest t (All-tail (IsRange cpus) range others there) (bit_or mask (bits_of range))

record SaidParts (cpus mask result : ℕ) (parts : List (List ℕ)) : Type 0 where
  pub range : Range
  pub ranges : List Range
  pub said : SaysRanges (range ∷ ranges) (join_with_byte 44 parts)
  pub there : All (IsRange cpus) (range ∷ ranges)
  pub value : or_all mask (range ∷ ranges) ≡ result

none_stays : (cpus : ℕ) (parts : List (List ℕ)) (result : ℕ) → mask_with cpus None parts ≡ Some result → ⊥
none_stays cpus [] result e = absurd (cc)
none_stays cpus (part ∷ parts) result e = absurd (cc)

parts_say : (cpus : ℕ) (part : List ℕ) (parts : List (List ℕ)) (mask result : ℕ) → mask_with cpus (Some mask) (part ∷ parts) ≡ Some result → SaidParts cpus mask result (part ∷ parts)
parts_say cpus part [] mask result e = go (range_in cpus part) refl e
  where
    go : (o : Option ℕ) → range_in cpus part ≡ o → mask_with cpus (joined mask o) [] ≡ Some result → SaidParts cpus mask result (part ∷ [])
    go None x f = absurd (none_stays cpus [] result f)
    go (Some bits) x f =
        let r = range_says cpus part bits x in
        record {
          range = r.range;
          ranges = [];
          said = one r.range part r.says;
          there = All-cons (IsRange cpus) r.range [] r.there (All-nil (IsRange cpus));
          value = ap (bit_or mask) r.value ∙ same _ result f;
        }
parts_say cpus part (next ∷ parts) mask result e = go (λ n. parts_say cpus next parts n result) (range_in cpus part) refl e
  where
    go : ((n : ℕ) → mask_with cpus (Some n) (next ∷ parts) ≡ Some result → SaidParts cpus n result (next ∷ parts)) → (o : Option ℕ) → range_in cpus part ≡ o → mask_with cpus (joined mask o) (next ∷ parts) ≡ Some result → SaidParts cpus mask result (part ∷ next ∷ parts)
    go more_say None x f = absurd (none_stays cpus (next ∷ parts) result f)
    go more_say (Some bits) x f =
        let r = range_says cpus part bits x in
        let rest = more_say (bit_or mask bits) f in
        record {
          range = r.range;
          ranges = rest.range ∷ rest.ranges;
          said = more r.range (rest.range ∷ rest.ranges) part (join_with_byte 44 (next ∷ parts)) r.says rest.said;
          there = All-cons (IsRange cpus) r.range (rest.range ∷ rest.ranges) r.there rest.there;
          value = ap (λ n. or_all (bit_or mask n) (rest.range ∷ rest.ranges)) r.value ∙ rest.value;
        }

-- ---- the whole text

mask_is : (cpus : ℕ) (text : List ℕ) (mask : ℕ) → cpus ≤ 64 → SaysMask cpus mask text → mask_in cpus text ≡ Some mask
mask_is cpus text mask few s = parts_are cpus few s.ranges text s.said s.there 0 ∙ ap Some (sym (made_of mask s.ranges s.bits))

whole_said : (cpus : ℕ) (text : List ℕ) (mask : ℕ) → mask_in cpus text ≡ Some mask → SaidParts cpus 0 mask (slice_split (λ b. b == 44) text)
whole_said cpus text mask e = go (slice_split (λ b. b == 44) text) (omega (arith, length-slice_split (λ b. b == 44) text)) e
  where
    go : (parts : List (List ℕ)) → 0 < length parts → mask_with cpus (Some 0) parts ≡ Some mask → SaidParts cpus 0 mask parts
    go [] l f = absurd (omega (arith, l))
    go (part ∷ parts) l f = parts_say cpus part parts 0 mask f

mask_says : (cpus : ℕ) (text : List ℕ) (mask : ℕ) → mask_in cpus text ≡ Some mask → SaysMask cpus mask text
mask_says cpus text mask e =
    let said = whole_said cpus text mask e in
    record {
      ranges = said.range ∷ said.ranges;
      said = subst (SaysRanges (said.range ∷ said.ranges)) (join_with_byte-slice_split 44 text) said.said;
      there = said.there;
      bits = λ c. ap (λ n. bit_at n c == 1) (sym said.value) ∙ bits_named (said.range ∷ said.ranges) 0 c ∙ ap (λ n. (n == 1) || is_named (said.range ∷ said.ranges) c) (bit_at-zero c);
    }

says_just : (cpus : ℕ) (text : List ℕ) (mask : Option ℕ) → cpus ≤ 64 → mask_in cpus text ≡ mask → SaysJustMask cpus text mask
says_just cpus text None few e = λ mask says. absurd (let f = mask_is cpus text mask few says in cc)
says_just cpus text (Some mask) few e = (mask_says cpus text mask e, λ other says. same other mask (sym (mask_is cpus text other few says) ∙ e))

-- each text says the mask that is read in it and no other, or none where none is read
pub texts_say_one_mask_lem : TextsSayOneMask
texts_say_one_mask_lem = λ cpus few text. says_just cpus text (mask_in cpus text) few refl

-- ---- what holds of a mask that was read

bits_fit : (cpus : ℕ) (range : Range) → IsRange cpus range → bits_of range < 2 ^ cpus
bits_fit cpus range r =
    let below : bits_of range < 2 ^ (range.last + 1) = pow-sub-lt (range.last + 1) (pow_pos range.first) in
    let within : 2 ^ (range.last + 1) ≤ 2 ^ cpus = pow_mono (omega (arith, r.there)) in
    omega (arith, below, within)

all_fit : (cpus : ℕ) (ranges : List Range) (mask : ℕ) → All (IsRange cpus) ranges → mask < 2 ^ cpus → or_all mask ranges < 2 ^ cpus
all_fit cpus [] mask there l = l
all_fit cpus (range ∷ ranges) mask there l =
    all_fit cpus ranges (bit_or mask (bits_of range)) (All-tail (IsRange cpus) range ranges there) (or_lt cpus mask (bits_of range) l (bits_fit cpus range (All-head (IsRange cpus) range ranges there)))

keeps : (ranges : List Range) (mask : ℕ) → mask ≤ or_all mask ranges
keeps [] mask = omega arith
keeps (range ∷ ranges) mask = omega (arith, keeps ranges (bit_or mask (bits_of range)), le_or_l mask (bits_of range))

-- a mask that is read names a CPU, and none that isn't there
pub is_mask : (cpus : ℕ) (text : List ℕ) (mask : ℕ) → mask_in cpus text ≡ Some mask → IsMask cpus mask
is_mask cpus text mask e =
    let said = whole_said cpus text mask e in
    let r = All-head (IsRange cpus) said.range said.ranges said.there in
    let some : 2 ^ said.range.first < 2 ^ (said.range.last + 1) = pow_below said.range.first (said.range.last + 1) (omega (arith, r.order)) in
    let here : bits_of said.range ≤ mask = omega (arith, le_or_r 0 (bits_of said.range), keeps said.ranges (bit_or 0 (bits_of said.range)), said.value) in
    record {
      some = omega (arith, some, here);
      there = subst (λ n. n < 2 ^ cpus) said.value (all_fit cpus (said.range ∷ said.ranges) 0 said.there (pow_pos cpus));
    }

-- all CPUs are a mask
pub all_is_mask : (cpus : ℕ) → 1 ≤ cpus → IsMask cpus (all_cpus cpus)
all_is_mask cpus some =
    let two : 2 ^ 1 ≤ 2 ^ cpus = pow_mono {i = 1} {j = cpus} some in
    record { some = omega (arith, two); there = omega (arith, pow_pos cpus) }
