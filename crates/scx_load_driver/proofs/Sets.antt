-- Sets of numbers, a bit each.
use Rattle.std.proofs.Common.{◌≡◌, ◌≢◌, ℕ, ◌+◌, ◌-◌, ◌*◌, ◌/◌, ◌%◌, ◌^◌, ◌<◌, ◌≤◌, min, ◌⊎◌, inl, inr, Bool, true, false, ◌==◌, List, length, set, get_or, replicate, refl, sym, ap, ◌∙◌, subst, arith}
use Rattle.std.specs.Int.{w64, bit_at, bit_not, trailing_zeros}
use Rattle.std.specs.Int.Bits.{bit_or, bit_and}
use Rattle.std.proofs.lemmas.Bool.{cases_eq, cases_lt}
use Rattle.std.proofs.lemmas.List.{length-set, length-replicate, get_or-set_same, get_or-set_other, get_or-replicate, same_lists}
use Rattle.std.proofs.lemmas.List.FromFn.{length-map-range_with_len, get_or-map-range_with_len}
use Rattle.std.proofs.lemmas.Nat.{and_le_r}
use Rattle.std.proofs.lemmas.Nat.Bits.{bit_at-zero, bit_at-lt, bit_at_ones, bit_at_and, bit_at-trailing_zeros, bit_at_set_same, bit_at_set_other, bit_at_clear_same, bit_at_clear_other, bit_at_mask_inside, bit_at_mask_below, ones_shl}
use Rattle.scx_load_driver.specs.Sets.{is_in, members, is_there, IsNext}

-- ---- who is there

pub length_members : (limit : ℕ) (words : List ℕ) → length (members limit words) ≡ limit
length_members limit words = length-map-range_with_len (is_in words) 0 limit

-- a number is there as its bit says
pub member_at : (limit : ℕ) (words : List ℕ) (n : ℕ) (d : Bool) → n < limit → get_or (members limit words) n d ≡ is_in words n
member_at limit words n d l = get_or-map-range_with_len (is_in words) 0 limit n n d l (omega arith)

-- of words that are alike each bit is
pub filled : (limit count v : ℕ) (words : List ℕ) (b : Bool) → words ≡ replicate count v → limit ≤ 64 * count → ((i : ℕ) → i < 64 → (bit_at v i == 1) ≡ b) → members limit words ≡ replicate limit b
filled limit count v words b is enough bits =
    same_lists (members limit words) (replicate limit b) (length_members limit words ∙ sym (length-replicate limit b)) each
  where
    each : (n : ℕ) (d : Bool) → n < length (members limit words) → get_or (members limit words) n d ≡ get_or (replicate limit b) n d
    each n d l =
        let within : n < limit = omega (arith, l, length_members limit words) in
        let word : get_or words (n / 64) 0 ≡ v = ap (λ (ws : List ℕ). get_or ws (n / 64) 0) is ∙ get_or-replicate {A = ℕ} count (n / 64) v 0 (omega (arith, within, enough)) in
        member_at limit words n d within
        ∙ ap (λ w. bit_at w (n % 64) == 1) word
        ∙ bits (n % 64) (omega arith)
        ∙ sym (get_or-replicate limit n b d within)

pub no_bits : (i : ℕ) → i < 64 → (bit_at 0 i == 1) ≡ false
no_bits i l = rw (bit_at-zero i) refl

pub all_bits : (i : ℕ) → i < 64 → (bit_at (2 ^ 64 - 1) i == 1) ≡ true
all_bits i l = rw (bit_at_ones 64 i l) refl

-- one bit changes
pub changed : (limit t w : ℕ) (words : List ℕ) (b : Bool) → t < limit → limit ≤ 64 * length words → (bit_at w (t % 64) == 1) ≡ b → ((i : ℕ) → i < 64 → i ≢ t % 64 → bit_at w i ≡ bit_at (get_or words (t / 64) 0) i) → members limit (set words (t / 64) w) ≡ set (members limit words) t b
changed limit t w words b known enough here others =
    same_lists (members limit (set words (t / 64) w)) (set (members limit words) t b)
    (length_members limit (set words (t / 64) w) ∙ sym (length-set (members limit words) t b ∙ length_members limit words)) each
  where
    there : t / 64 < length words
    there = omega (arith, known, enough)

    each : (n : ℕ) (d : Bool) → n < length (members limit (set words (t / 64) w)) → get_or (members limit (set words (t / 64) w)) n d ≡ get_or (set (members limit words) t b) n d
    each n d l = let within : n < limit = omega (arith, l, length_members limit (set words (t / 64) w)) in member_at limit (set words (t / 64) w) n d within ∙ go within (cases_eq n t) (cases_eq (n / 64) (t / 64))
      where
        go : n < limit → (n ≡ t) ⊎ (n ≡ t → ⊥) → (n / 64 ≡ t / 64) ⊎ (n / 64 ≡ t / 64 → ⊥) → is_in (set words (t / 64) w) n ≡ get_or (set (members limit words) t b) n d
        go within (inl e) x =
            rw (e, get_or-set_same words (t / 64) w 0 there, get_or-set_same (members limit words) t b d (omega (arith, known, length_members limit words))) here
        go within (inr o) (inl e) =
            let same : bit_at w (n % 64) ≡ bit_at (get_or words (t / 64) 0) (n % 64) = others (n % 64) (omega arith) (λ m. o (omega (arith, m, e))) in
            ap (λ k. bit_at (get_or (set words (t / 64) w) k 0) (n % 64) == 1) e
            ∙ ap (λ x. bit_at x (n % 64) == 1) (get_or-set_same words (t / 64) w 0 there)
            ∙ ap (λ x. x == 1) same
            ∙ ap (λ k. bit_at (get_or words k 0) (n % 64) == 1) (sym e)
            ∙ sym (member_at limit words n d within)
            ∙ sym (get_or-set_other (members limit words) t n b d o)
        go within (inr o) (inr e) =
            ap (λ x. bit_at x (n % 64) == 1) (get_or-set_other words (t / 64) (n / 64) w 0 e)
            ∙ sym (member_at limit words n d within)
            ∙ sym (get_or-set_other (members limit words) t n b d o)

-- a number comes to be there
pub inserted : (limit t : ℕ) (words : List ℕ) → t < limit → limit ≤ 64 * length words
    → members limit (set words (t / 64) (bit_or (get_or words (t / 64) 0) (1 * 2 ^ (t % 64) % 2 ^ 64))) ≡ set (members limit words) t true
inserted limit t words known enough =
    let old : ℕ = get_or words (t / 64) 0 in
    let place : t % 64 < 64 = omega arith in
    changed limit t (bit_or old (1 * 2 ^ (t % 64) % 2 ^ 64)) words true known enough (rw (bit_at_set_same w64 old (t % 64) place) refl) (λ i l o. bit_at_set_other w64 old (t % 64) place i o)

-- it is there no more
pub removed : (limit t : ℕ) (words : List ℕ) → t < limit → limit ≤ 64 * length words
    → members limit (set words (t / 64) (bit_and (get_or words (t / 64) 0) (bit_not w64 (1 * 2 ^ (t % 64) % 2 ^ 64)))) ≡ set (members limit words) t false
removed limit t words known enough =
    let old : ℕ = get_or words (t / 64) 0 in
    let place : t % 64 < 64 = omega arith in
    changed limit t (bit_and old (bit_not w64 (1 * 2 ^ (t % 64) % 2 ^ 64))) words false known enough (rw (bit_at_clear_same w64 old (t % 64) place) refl) (λ i l o. bit_at_clear_other w64 old (t % 64) place i l o)

-- ---- the next one

-- one that is found, or the end if that comes sooner
pub found : (test : ℕ → Bool) (from end n : ℕ) → from ≤ n → test n ≡ true → ((k : ℕ) → from ≤ k → k < n → test k ≡ false) → IsNext test from end (min n end)
found test from end n after is none = record {
  most = omega arith;
  after = λ l. omega (arith, after, l);
  there = λ l. let same : min n end ≡ n = omega (arith, l) in ap test same ∙ is;
  none = λ k l m. none k l (omega (arith, m));
}

-- or none is
pub none_found : (test : ℕ → Bool) (from end : ℕ) → ((k : ℕ) → from ≤ k → k < end → test k ≡ false) → IsNext test from end end
none_found test from end none = record {
  most = omega arith;
  after = λ l. absurd (omega (arith, l));
  there = λ l. absurd (omega (arith, l));
  none = none;
}

-- what comes first of those from a later number on, where none is before it
pub further : (test : ℕ → Bool) (from later end n : ℕ) → ((k : ℕ) → from ≤ k → k < later → test k ≡ false) → from ≤ later → IsNext test later end n → IsNext test from end n
further test from later end n before le h = record {
  most = h.most;
  after = λ l. omega (arith, le, h.after l);
  there = h.there;
  none = λ k l m. go k l m (cases_lt k later);
}
  where
    go : (k : ℕ) → from ≤ k → k < n → (k < later) ⊎ (later ≤ k) → test k ≡ false
    go k l m (inl x) = before k l x
    go k l m (inr x) = h.none k x m

-- it isn't before the one from which on it is looked for
pub from_on : (test : ℕ → Bool) (from end n : ℕ) → from ≤ end → IsNext test from end n → from ≤ n
from_on test from end n up h = go (cases_lt n end)
  where
    go : (n < end) ⊎ (end ≤ n) → from ≤ n
    go (inl l) = h.after l
    go (inr l) = omega (arith, up, l)

-- counted from another number on
pub shifted : (test : ℕ → Bool) (base from end n : ℕ) → IsNext test (base + from) (base + end) n → base ≤ n → IsNext (λ k. test (base + k)) from end (n - base)
shifted test base from end n h up = record {
  most = omega (arith, h.most);
  after = λ l. let x = h.after (omega (arith, l, up)) in omega (arith, x);
  there = λ l. let same : base + (n - base) ≡ n = omega (arith, up) in ap test same ∙ h.there (omega (arith, l, up));
  none = λ k l m. h.none (base + k) (omega (arith, l)) (omega (arith, m, up));
}

-- a bit as its word says
at : (words : List ℕ) (k n : ℕ) → 64 * k ≤ n → n < 64 * (k + 1) → is_in words n ≡ (bit_at (get_or words k 0) (n - 64 * k) == 1)
at words k n from below =
    let word : n / 64 ≡ k = omega (arith, from, below) in
    let place : n % 64 ≡ n - 64 * k = omega (arith, from, below) in
    rw (word, place) refl

-- in a word that is 0 there is none
pub none_in_word : (words : List ℕ) (k n : ℕ) → get_or words k 0 ≡ 0 → 64 * k ≤ n → n < 64 * (k + 1) → is_in words n ≡ false
none_in_word words k n none from below = at words k n from below ∙ rw (none, bit_at-zero (n - 64 * k)) refl

-- the lowest bit of some of a word's bits, those from a place on
pub lowest : (words : List ℕ) (k place bits end : ℕ) → 0 < bits → bits < 2 ^ 64 → ((i : ℕ) → i < place → bit_at bits i ≡ 0) → ((i : ℕ) → i < 64 → place ≤ i → bit_at bits i ≡ bit_at (get_or words k 0) i)
    → IsNext (is_in words) (64 * k + place) end (min (k * 64 + trailing_zeros w64 bits) end)
lowest words k place bits end some fits low high =
    let n = k * 64 + trailing_zeros w64 bits in
    let h = bit_at-trailing_zeros w64 bits some fits in
    let after : place ≤ trailing_zeros w64 bits = go (cases_lt (trailing_zeros w64 bits) place) h.1 in
    found (is_in words) (64 * k + place) end n (omega (arith, after))
    (at words k n (omega arith) (omega (arith, h.0)) ∙ rw (back (trailing_zeros w64 bits), sym (high (trailing_zeros w64 bits) h.0 after), h.1) refl)
    (λ m l b. at words k m (omega (arith, l)) (omega (arith, b, h.0)) ∙ ap (λ x. x == 1) (sym (high (m - 64 * k) (omega (arith, l, b, h.0)) (omega (arith, l))) ∙ h.2 (m - 64 * k) (omega (arith, l, b))))
  where
    back : (i : ℕ) → k * 64 + i - 64 * k ≡ i
    back i = omega arith

    go : (trailing_zeros w64 bits < place) ⊎ (place ≤ trailing_zeros w64 bits) → bit_at bits (trailing_zeros w64 bits) ≡ 1 → place ≤ trailing_zeros w64 bits
    go (inl l) e = absurd (omega (arith, e, low (trailing_zeros w64 bits) l))
    go (inr l) e = l

-- a whole word
pub lowest_in_word : (words : List ℕ) (k end : ℕ) → 0 < get_or words k 0 → get_or words k 0 < 2 ^ 64 → IsNext (is_in words) (64 * k) end (min (k * 64 + trailing_zeros w64 (get_or words k 0)) end)
lowest_in_word words k end some fits =
    let same : 64 * k + 0 ≡ 64 * k = omega arith in
    subst (λ from. IsNext (is_in words) from end (min (k * 64 + trailing_zeros w64 (get_or words k 0)) end)) same
    (lowest words k 0 (get_or words k 0) end some fits (λ i l. absurd (omega (arith, l))) (λ i l m. refl))

-- the next word is 0 too
pub none_more : (words : List ℕ) (first k : ℕ) → ((n : ℕ) → 64 * first ≤ n → n < 64 * k → is_in words n ≡ false) → get_or words k 0 ≡ 0 → (n : ℕ) → 64 * first ≤ n → n < 64 * (k + 1) → is_in words n ≡ false
none_more words first k none e n l m = go (cases_lt n (64 * k))
  where
    go : (n < 64 * k) ⊎ (64 * k ≤ n) → is_in words n ≡ false
    go (inl x) = none n l x
    go (inr x) = none_in_word words k n e x m

-- or isn't
pub next_in_word : (words : List ℕ) (first k end : ℕ) → first ≤ k → ((n : ℕ) → 64 * first ≤ n → n < 64 * k → is_in words n ≡ false) → 0 < get_or words k 0 → get_or words k 0 < 2 ^ 64
    → IsNext (is_in words) (64 * first) end (min (k * 64 + trailing_zeros w64 (get_or words k 0)) end)
next_in_word words first k end up none some fits =
    further (is_in words) (64 * first) (64 * k) end (min (k * 64 + trailing_zeros w64 (get_or words k 0)) end) none (omega (arith, up)) (lowest_in_word words k end some fits)

-- no word is left
pub no_words : (words : List ℕ) (first k end : ℕ) → end ≤ k * 64 → ((n : ℕ) → 64 * first ≤ n → n < 64 * k → is_in words n ≡ false) → IsNext (is_in words) (64 * first) end end
no_words words first k end past none = none_found (is_in words) (64 * first) end (λ n l m. none n l (omega (arith, m, past)))

-- nor any number
pub no_numbers : (test : ℕ → Bool) (from end : ℕ) → from ≡ end → IsNext test from end end
no_numbers test from end e = none_found test from end (λ n l m. absurd (omega (arith, e, l, m)))

-- ---- bits from a place on

module _ (w place : ℕ) (l : place < 64) where
  low_bits : (i : ℕ) → i < place → bit_at (bit_and w (2 ^ 64 - 2 ^ place)) i ≡ 0
  low_bits i m = let e = bit_at_and w (2 ^ 64 - 2 ^ place) i in let z = bit_at_mask_below place 64 i m in omega (arith, e, z)

  high_bits : (i : ℕ) → i < 64 → place ≤ i → bit_at (bit_and w (2 ^ 64 - 2 ^ place)) i ≡ bit_at w i
  high_bits i m n = let e = bit_at_and w (2 ^ 64 - 2 ^ place) i in let z = bit_at_mask_inside place 64 i n m in omega (arith, e, z, bit_at-lt w i)

as_mask : (words : List ℕ) (from rest : ℕ) → rest ≡ bit_and (get_or words (from / 64) 0) ((2 ^ 64 - 1) * 2 ^ (from % 64) % 2 ^ 64) → rest ≡ bit_and (get_or words (from / 64) 0) (2 ^ 64 - 2 ^ (from % 64))
as_mask words from rest masked = masked ∙ ap (λ m. bit_and (get_or words (from / 64) 0) m) (ones_shl 64 (from % 64) (omega arith))

-- the lowest of the bits of a word from one on
pub lowest_from : (words : List ℕ) (from end rest : ℕ) → rest ≡ bit_and (get_or words (from / 64) 0) ((2 ^ 64 - 1) * 2 ^ (from % 64) % 2 ^ 64) → 0 < rest → IsNext (is_in words) from end (min (from / 64 * 64 + trailing_zeros w64 rest) end)
lowest_from words from end rest masked some =
    let is = as_mask words from rest masked in
    let fits : rest < 2 ^ 64 = omega (arith, masked, and_le_r (get_or words (from / 64) 0) ((2 ^ 64 - 1) * 2 ^ (from % 64) % 2 ^ 64)) in
    let w : ℕ = get_or words (from / 64) 0 in
    let place : from % 64 < 64 = omega arith in
    let same : 64 * (from / 64) + from % 64 ≡ from = omega arith in
    subst (λ f. IsNext (is_in words) f end (min (from / 64 * 64 + trailing_zeros w64 rest) end)) same
    (lowest words (from / 64) (from % 64) rest end some fits (λ i m. ap (λ x. bit_at x i) is ∙ low_bits w (from % 64) place i m) (λ i l m. ap (λ x. bit_at x i) is ∙ high_bits w (from % 64) place i l m))

-- where none of them is set, what comes first of the words behind it
pub next_behind : (words : List ℕ) (from end n rest : ℕ) → rest ≡ bit_and (get_or words (from / 64) 0) ((2 ^ 64 - 1) * 2 ^ (from % 64) % 2 ^ 64) → rest ≡ 0 → IsNext (is_in words) (64 * (from / 64 + 1)) end n → IsNext (is_in words) from end n
next_behind words from end n rest masked none h = further (is_in words) from (64 * (from / 64 + 1)) end n before (omega arith) h
  where
    w : ℕ
    w = get_or words (from / 64) 0

    is : rest ≡ bit_and (get_or words (from / 64) 0) (2 ^ 64 - 2 ^ (from % 64))
    is = as_mask words from rest masked

    before : (k : ℕ) → from ≤ k → k < 64 * (from / 64 + 1) → is_in words k ≡ false
    before k l m =
        let bit = high_bits w (from % 64) (omega arith) (k - 64 * (from / 64)) (omega (arith, m)) (omega (arith, l)) in
        at words (from / 64) k (omega (arith, l)) m ∙ ap (λ x. x == 1) (sym bit ∙ ap (λ x. bit_at x (k - 64 * (from / 64))) (sym is ∙ none) ∙ bit_at-zero (k - 64 * (from / 64)))

-- the same as members say it
pub as_members : (limit : ℕ) (words : List ℕ) (from end n : ℕ) → end ≤ limit → IsNext (is_in words) from end n → IsNext (is_there (members limit words)) from end n
as_members limit words from end n within h = record {
  most = h.most;
  after = h.after;
  there = λ l. member_at limit words n false (omega (arith, l, within)) ∙ h.there l;
  none = λ k l m. member_at limit words k false (omega (arith, m, h.most, within)) ∙ h.none k l m;
}
