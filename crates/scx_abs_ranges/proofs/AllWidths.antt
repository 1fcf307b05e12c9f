-- Results of both widths: members are kept, results are ranges, and they grow.
use Rattle.std.proofs.Common.{◌≡◌, ℕ, ◌^◌, ◌<◌, ◌≤◌, Bool, true, false, ◌&&◌, refl, sym, subst, arith}
use Rattle.std.proofs.lemmas.Bool.{and_parts}
use Rattle.std.proofs.lemmas.Int.{ints}
use Rattle.std.proofs.Math.Nat.{mod-one}
use Rattle.scx_isa_semantics.specs.declared.operations.Width.TheVariants.{Bits32, Bits64}
use Rattle.scx_isa_semantics.specs.declared.operations.Operation.{Operation}
use Rattle.scx_isa_semantics.specs.declared.operations.Extension.TheVariants.{Low8To32, Low16To32, Low8To64, Low16To64, Low32To64}
use Rattle.scx_isa_semantics.specs.declared.operations.Access.TheVariants as access
use Rattle.scx_isa_semantics.specs.Arithmetic.{low, compute, negative, sign_extension, byte_swapped}
use Rattle.scx_isa_semantics.specs.Memory.{read_as}
use Rattle.scx_isa_semantics.proofs.Numbers.{operated, low_fits, compute_below, negated_below, extended_below, byte_swapped_below}
use Rattle.scx_isa_semantics.proofs.Bytes.{read_as_below}
use Rattle.scx_abs_ranges.specs.declared.ranges.Range.{Range}
use Rattle.scx_abs_ranges.specs.Ranges.{IsIn, IsRange, CoversRange, single, all, is_single}
use Rattle.scx_abs_ranges.specs.Results.{words, of_one, of_two}
use Rattle.scx_abs_ranges.specs.ResultLaws.{AreResults, AreImages, ArithmeticIsSound, CopiesAreSound, NegativesAreSound, ExtensionsAreSound, SwapsAreSound, LoadsAreSound}
use Rattle.scx_abs_ranges.proofs.Multiples.{if_case, single_range, in_single, all_range, in_all}
use Rattle.scx_abs_ranges.proofs.Order.{covers_in, in_covers, low_in}
use Rattle.scx_abs_ranges.proofs.KeptByResults.{alone, members_are_kept}
use Rattle.scx_abs_ranges.proofs.ResultRanges.{results_are_ranges}
use Rattle.scx_abs_ranges.proofs.GrowingResults.{results_grow, single_below, both_single}

-- ---- from 0 up to a number

-- the numbers up to one from 1 to 2^64 - 1 are a range
pub below_range : (hi : ℕ) → 0 < hi → hi < 2 ^ 64 → IsRange (record { low = 0; high = hi; shift = 0 })
below_range hi some fits = record {
  formed = record { ordered = omega arith; small = omega arith; low_multiple = refl; high_multiple = mod-one hi; greatest = λ e. absurd (omega arith) };
  fits = fits;
}

-- a number that isn't greater is one of those up to it
pub in_below : (hi n : ℕ) → n ≤ hi → IsIn n (record { low = 0; high = hi; shift = 0 })
in_below hi n l = record { from_low = omega arith; to_high = l; multiple = mod-one n }

words_range : IsRange words
words_range = below_range 4294967295 (omega arith) (omega arith)

in_words : (n : ℕ) → n < 2 ^ 32 → IsIn n words
in_words n l = in_below 4294967295 n (omega arith)

member_below : (r : Range) (n : ℕ) → IsRange r → IsIn n r → n < 2 ^ 64
member_below r n w h = let top : r.high < 2 ^ 64 = w.fits in let up : n ≤ r.high = h.to_high in omega arith

in_one : (x y : ℕ) → IsIn x (single y) → x ≡ y
in_one x y h =
    let l : y ≤ x = h.from_low in
    let u : x ≤ y = h.to_high in
    omega arith

apart : {P : Type 0} (b : Bool) → b ≡ true → b ≡ false → P
apart b e f = absurd (cc)

-- ---- of one number

one_kept : (f : ℕ → ℕ) (w r : Range) (n : ℕ) → IsIn (f n) w → IsIn n r → IsIn (f n) (of_one f w r)
one_kept f w r n g h =
    if_case (IsIn (f n)) (is_single r) (single (f r.low)) w
    (λ e. subst (λ k. IsIn (f n) (single (f k))) (alone r n e h) (in_single (f n))) (λ e. g)

one_range : (f : ℕ → ℕ) (w r : Range) → IsRange w → f r.low < 2 ^ 64 → IsRange (of_one f w r)
one_range f w r ww below = if_case IsRange (is_single r) (single (f r.low)) w (λ e. single_range (f r.low) below) (λ e. ww)

one_in : (f : ℕ → ℕ) (w r' r : Range) (x : ℕ) → IsRange r → IsIn (f r.low) w → CoversRange r' r → IsIn x (of_one f w r) → IsIn x (of_one f w r')
one_in f w r' r x wr inside c =
    if_case (λ q. IsIn x q → IsIn x (of_one f w r')) (is_single r) (single (f r.low)) w
    (λ e h. subst (λ k. IsIn k (of_one f w r')) (sym (in_one x (f r.low) h)) (one_kept f w r' r.low inside (covers_in r' r r.low c (low_in r wr.formed))))
    (λ e h. if_case (IsIn x) (is_single r') (single (f r'.low)) w (λ g. apart (is_single r) (single_below r' r wr c g) e) (λ g. h))

images : (f : ℕ → ℕ) (w : Range) → IsRange w → ((n : ℕ) → n < 2 ^ 64 → IsIn (f n) w) → AreImages f (of_one f w)
images f w ww inside =
    let fits : (r : Range) → IsRange r → f r.low < 2 ^ 64 = λ r wr. member_below w (f r.low) ww (inside r.low (member_below r r.low wr (low_in r wr.formed))) in
    record {
      kept = λ r n wr h. one_kept f w r n (inside n (member_below r n wr h)) h;
      ranges = λ r wr. one_range f w r ww (fits r wr);
      grow =
          λ r' r wr' wr c. in_covers (of_one f w r') (of_one f w r) (one_range f w r' ww (fits r' wr')) (one_range f w r ww (fits r wr))
          (λ x h. one_in f w r' r x wr (inside r.low (member_below r r.low wr (low_in r wr.formed))) c h);
    }

-- ---- of two numbers

two_kept : (f : ℕ → ℕ → ℕ) (w r s : Range) (n m : ℕ) → IsIn (f n m) w → IsIn n r → IsIn m s → IsIn (f n m) (of_two f w r s)
two_kept f w r s n m k h g =
    if_case (IsIn (f n m)) (is_single r && is_single s) (single (f r.low s.low)) w
    (λ e.
    let both = and_parts (is_single r) (is_single s) e in
    subst (λ a. IsIn (f n m) (single (f a s.low))) (alone r n both.0 h) (subst (λ b. IsIn (f n m) (single (f n b))) (alone s m both.1 g) (in_single (f n m))))
    (λ e. k)

two_range : (f : ℕ → ℕ → ℕ) (w r s : Range) → IsRange w → f r.low s.low < 2 ^ 64 → IsRange (of_two f w r s)
two_range f w r s ww below = if_case IsRange (is_single r && is_single s) (single (f r.low s.low)) w (λ e. single_range (f r.low s.low) below) (λ e. ww)

two_in : (f : ℕ → ℕ → ℕ) (w r' s' r s : Range) (x : ℕ) → IsRange r → IsRange s → IsIn (f r.low s.low) w → CoversRange r' r → CoversRange s' s
    → IsIn x (of_two f w r s) → IsIn x (of_two f w r' s')
two_in f w r' s' r s x wr ws inside c d =
    if_case (λ q. IsIn x q → IsIn x (of_two f w r' s')) (is_single r && is_single s) (single (f r.low s.low)) w
    (λ e h. subst (λ k. IsIn k (of_two f w r' s')) (sym (in_one x (f r.low s.low) h)) (two_kept f w r' s' r.low s.low inside (covers_in r' r r.low c (low_in r wr.formed)) (covers_in s' s s.low d (low_in s ws.formed))))
    (λ e h.
    if_case (IsIn x) (is_single r' && is_single s') (single (f r'.low s'.low)) w
    (λ g. apart (is_single r && is_single s) (both_single (is_single r') (is_single s') (is_single r) (is_single s) (single_below r' r wr c) (single_below s' s ws d) g) e)
    (λ g. h))

results_of : (f : ℕ → ℕ → ℕ) (w : Range) → IsRange w → ((n m : ℕ) → n < 2 ^ 64 → m < 2 ^ 64 → IsIn (f n m) w) → AreResults f (of_two f w)
results_of f w ww inside =
    let lows : (r s : Range) → IsRange r → IsRange s → IsIn (f r.low s.low) w
    = λ r s wr ws. inside r.low s.low (member_below r r.low wr (low_in r wr.formed)) (member_below s s.low ws (low_in s ws.formed)) in
    let range : (r s : Range) → IsRange r → IsRange s → IsRange (of_two f w r s)
    = λ r s wr ws. two_range f w r s ww (member_below w (f r.low s.low) ww (lows r s wr ws)) in
    record {
      kept = λ r s n m wr ws h g. two_kept f w r s n m (inside n m (member_below r n wr h) (member_below s m ws g)) h g;
      ranges = range;
      grow =
          λ r' s' r s wr' ws' wr ws c d. in_covers (of_two f w r' s') (of_two f w r s) (range r' s' wr' ws') (range r s wr ws)
          (λ x h. two_in f w r' s' r s x wr ws (lows r s wr ws) c d h);
    }

-- ---- each instruction

compute_word : (o : Operation) (n m : ℕ) → n < 2 ^ 64 → m < 2 ^ 64 → compute Bits32 o n m < 2 ^ 32
compute_word o n m p q = operated Bits32 o (low Bits32 n) (low Bits32 m) (low_fits Bits32 n p) (low_fits Bits32 m q)

-- what is known of arithmetic, of either width, holds its results, is a range and grows
pub arithmetic_is_sound : ArithmeticIsSound
arithmetic_is_sound Bits32 o = results_of (compute Bits32 o) words words_range (λ n m p q. in_words (compute Bits32 o n m) (compute_word o n m p q))
arithmetic_is_sound Bits64 o = record {
  kept = λ r s n m wr ws h g. members_are_kept o r s n m wr ws h g (compute_below Bits64 o n m (member_below r n wr h) (member_below s m ws g));
  ranges = λ r s wr ws. results_are_ranges o r s wr ws (compute_below Bits64 o r.low s.low (member_below r r.low wr (low_in r wr.formed)) (member_below s s.low ws (low_in s ws.formed)));
  grow = λ r' s' r s wr' ws' wr ws c d. results_grow o r' s' r s wr' ws' wr ws (λ n m p q. compute_below Bits64 o n m p q) c d;
}

-- what is known of a move, of either width, holds what it copies, is a range and grows
pub copies_are_sound : CopiesAreSound
copies_are_sound Bits32 = images (low Bits32) words words_range (λ n p. in_words (low Bits32 n) (low_fits Bits32 n p))
copies_are_sound Bits64 = record { kept = λ r n wr h. h; ranges = λ r wr. wr; grow = λ r' r wr' wr c. c }

negated_word : (n : ℕ) → negative Bits32 n < 2 ^ 32
negated_word n = omega arith

-- what is known of a negation, of either width, holds its results, is a range and grows
pub negatives_are_sound : NegativesAreSound
negatives_are_sound Bits32 = images (negative Bits32) words words_range (λ n p. in_words (negative Bits32 n) (negated_word n))
negatives_are_sound Bits64 = images (negative Bits64) all all_range (λ n p. in_all (negative Bits64 n) (negated_below Bits64 n))

extended_8 : (n : ℕ) → sign_extension Low8To32 n < 2 ^ 32
extended_8 n = omega (arith, ints)

extended_16 : (n : ℕ) → sign_extension Low16To32 n < 2 ^ 32
extended_16 n = omega (arith, ints)

-- what is known of a move that extends a sign holds its results, is a range and grows
pub extensions_are_sound : ExtensionsAreSound
extensions_are_sound Low8To32 = images (sign_extension Low8To32) words words_range (λ n p. in_words (sign_extension Low8To32 n) (extended_8 n))
extensions_are_sound Low16To32 = images (sign_extension Low16To32) words words_range (λ n p. in_words (sign_extension Low16To32 n) (extended_16 n))
extensions_are_sound Low8To64 = images (sign_extension Low8To64) all all_range (λ n p. in_all (sign_extension Low8To64 n) (extended_below Low8To64 n))
extensions_are_sound Low16To64 = images (sign_extension Low16To64) all all_range (λ n p. in_all (sign_extension Low16To64 n) (extended_below Low16To64 n))
extensions_are_sound Low32To64 = images (sign_extension Low32To64) all all_range (λ n p. in_all (sign_extension Low32To64 n) (extended_below Low32To64 n))

-- what is known of a byte swap holds its results, is a range and grows
pub swaps_are_sound : SwapsAreSound
swaps_are_sound o w = images (byte_swapped o w) all all_range (λ n p. in_all (byte_swapped o w n) (byte_swapped_below o w n p))

-- what is known of a load of a number is a range that holds all that it may read
pub loads_are_sound : LoadsAreSound
loads_are_sound access.Byte = record { range = below_range 255 (omega arith) (omega arith); kept = λ n l. in_below 255 n (omega arith) }
loads_are_sound access.HalfWord = record { range = below_range 65535 (omega arith) (omega arith); kept = λ n l. in_below 65535 n (omega arith) }
loads_are_sound access.Word = record { range = words_range; kept = λ n l. in_words n (omega arith) }
loads_are_sound access.DoubleWord = record { range = all_range; kept = λ n l. in_all n (omega arith) }
loads_are_sound access.SignedByte = record { range = all_range; kept = λ n l. in_all (read_as access.SignedByte n) (read_as_below access.SignedByte n (omega arith)) }
loads_are_sound access.SignedHalfWord = record { range = all_range; kept = λ n l. in_all (read_as access.SignedHalfWord n) (read_as_below access.SignedHalfWord n (omega arith)) }
loads_are_sound access.SignedWord = record { range = all_range; kept = λ n l. in_all (read_as access.SignedWord n) (read_as_below access.SignedWord n (omega arith)) }
