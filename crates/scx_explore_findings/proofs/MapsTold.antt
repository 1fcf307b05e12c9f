-- The words of maps tell their bytes.
use Rattle.std.proofs.Common.{◌≡◌, ℕ, zero, suc, ◌+◌, ◌*◌, ◌/◌, ◌%◌, ◌<◌, ◌≤◌, List, [], ◌∷◌, ◌++◌, length, drop, get_or, refl, sym, ap, ◌∙◌, subst, arith, ⊎_elim}
use Rattle.std.specs.Prelude.{flat_map}
use Rattle.std.proofs.lemmas.Bool.{cases_lt}
use Rattle.std.proofs.lemmas.Grind.{or_after_shift}
use Rattle.std.proofs.lemmas.List.{length-append, length-take, length-drop, get_or-take, get_or-drop, ext_get_or}
use Rattle.std.proofs.lemmas.List.Elements.{All-nil, All-append, All-get_or, All-take, All-drop}
use Rattle.scx_isa_semantics.specs.Elements.{AreBytes}
use Rattle.scx_maps.specs.Lending.{bytes_of}
use Rattle.scx_explore_states.specs.Written.{joined, word_from, word_of, eight_at, byte_words}

-- the numbers to which that many bytes may be appended lie below it
abbrev limit : ℕ → ℕ
limit zero = 18446744073709551616
limit (suc k) = limit k / 256

limit_small : (k : ℕ) → limit k ≤ 18446744073709551616
limit_small zero = let is : 18446744073709551616 ≤ 18446744073709551616 = omega arith in is
limit_small (suc k) =
    let small = limit_small k in
    let is : limit k / 256 ≤ 18446744073709551616 = omega (arith, small) in
    is

limit_some : (k : ℕ) → k ≤ 8 → 0 < limit k
limit_some zero l = let is : 0 < 18446744073709551616 = omega arith in is
limit_some (suc zero) l = let is : 0 < 72057594037927936 = omega arith in is
limit_some (suc (suc zero)) l = let is : 0 < 281474976710656 = omega arith in is
limit_some (suc (suc (suc zero))) l = let is : 0 < 1099511627776 = omega arith in is
limit_some (suc (suc (suc (suc zero)))) l = let is : 0 < 4294967296 = omega arith in is
limit_some (suc (suc (suc (suc (suc zero))))) l = let is : 0 < 16777216 = omega arith in is
limit_some (suc (suc (suc (suc (suc (suc zero)))))) l = let is : 0 < 65536 = omega arith in is
limit_some (suc (suc (suc (suc (suc (suc (suc zero))))))) l = let is : 0 < 256 = omega arith in is
limit_some (suc (suc (suc (suc (suc (suc (suc (suc zero)))))))) l = let is : 0 < 1 = omega arith in is
limit_some (suc (suc (suc (suc (suc (suc (suc (suc (suc k))))))))) l = absurd (omega (arith, l))

first_byte : (b : ℕ) (bs : List ℕ) → AreBytes (b ∷ bs) → b < 256
first_byte b bs are = All-get_or (λ x. x < 256) (b ∷ bs) 0 0 (omega arith) are

other_bytes : (b : ℕ) (bs : List ℕ) → AreBytes (b ∷ bs) → AreBytes bs
other_bytes b bs are = All-drop (λ x. x < 256) 1 (b ∷ bs) are

append_byte : (n b l : ℕ) → n < l / 256 → b < 256 → n * 256 + b < l
append_byte n b l few small = omega (arith, few, small)

shift_fits : (n l : ℕ) → n < l / 256 → l ≤ 18446744073709551616 → n * 256 < 18446744073709551616
shift_fits n l few small = omega (arith, few, small)

byte_appended : (n b : ℕ) → b < 256 → n * 256 < 18446744073709551616 → joined 8 n b ≡ n * 256 + b
byte_appended n b small fits = or_after_shift n 256 18446744073709551616 b refl small fits

same_byte : (n m b c : ℕ) → b < 256 → c < 256 → n * 256 + b ≡ m * 256 + c → b ≡ c
same_byte n m b c lb lc e = omega (arith, lb, lc, e)

same_before : (n m b c : ℕ) → b < 256 → c < 256 → n * 256 + b ≡ m * 256 + c → n ≡ m
same_before n m b c lb lc e = omega (arith, lb, lc, e)

-- of as many bytes, appended to numbers, the word tells the numbers and each byte
word_tells_bytes : (bs cs : List ℕ) (n m : ℕ) → length bs ≡ length cs → AreBytes bs → AreBytes cs → n < limit (length bs) → m < limit (length cs) → word_from n bs ≡ word_from m cs → (n ≡ m) × (bs ≡ cs)
word_tells_bytes [] [] n m long lb lc ln lm e = (e, refl)
word_tells_bytes [] (c ∷ cs) n m long lb lc ln lm e = absurd (omega (arith, long))
word_tells_bytes (b ∷ bs) [] n m long lb lc ln lm e = absurd (omega (arith, long))
word_tells_bytes (b ∷ bs) (c ∷ cs) n m long lb lc ln lm e =
    let b_small = first_byte b bs lb in
    let c_small = first_byte c cs lc in
    let n_few : n < limit (length bs) / 256 = ln in
    let m_few : m < limit (length cs) / 256 = lm in
    let left : joined 8 n b ≡ n * 256 + b = byte_appended n b b_small (shift_fits n (limit (length bs)) n_few (limit_small (length bs))) in
    let right : joined 8 m c ≡ m * 256 + c = byte_appended m c c_small (shift_fits m (limit (length cs)) m_few (limit_small (length cs))) in
    let same : word_from (n * 256 + b) bs ≡ word_from (m * 256 + c) cs = ap (λ (k : ℕ). word_from k bs) (sym left) ∙ (e ∙ ap (λ (k : ℕ). word_from k cs) right) in
    let more = word_tells_bytes bs cs (n * 256 + b) (m * 256 + c) (omega (arith, long)) (other_bytes b bs lb) (other_bytes c cs lc) (append_byte n b (limit (length bs)) n_few b_small) (append_byte m c (limit (length cs)) m_few c_small) same in
    (same_before n m b c b_small c_small more.0, ap (λ (z : ℕ). z ∷ bs) (same_byte n m b c b_small c_small more.0) ∙ ap (λ (l : List ℕ). c ∷ l) more.1)

-- ---- words of eight bytes

eight_few : (bs : List ℕ) (n : ℕ) → length (eight_at bs n) ≤ 8
eight_few bs n = omega (arith, length-take 8 (drop (8 * n) bs))

eight_long : (bs cs : List ℕ) (n : ℕ) → length bs ≡ length cs → length (eight_at bs n) ≡ length (eight_at cs n)
eight_long bs cs n long = omega (arith, length-take 8 (drop (8 * n) bs), length-take 8 (drop (8 * n) cs), length-drop (8 * n) bs, length-drop (8 * n) cs, long)

eight_bytes : (bs : List ℕ) (n : ℕ) → AreBytes bs → AreBytes (eight_at bs n)
eight_bytes bs n are = All-take (λ x. x < 256) 8 (drop (8 * n) bs) (All-drop (λ x. x < 256) (8 * n) bs are)

pub words_long : (bs cs : List ℕ) (n : ℕ) → length (byte_words bs n) ≡ length (byte_words cs n)
words_long bs cs zero = refl
words_long bs cs (suc n) =
    omega (arith, words_long bs cs n, length-append (byte_words bs n) (word_of (eight_at bs n) ∷ []), length-append (byte_words cs n) (word_of (eight_at cs n) ∷ []))

-- the element at the end of lists that are as long
pub last_two : (xs ys : List ℕ) (x y : ℕ) → length xs ≡ length ys → xs ++ x ∷ [] ≡ ys ++ y ∷ [] → (xs ≡ ys) × (x ≡ y)
last_two [] [] x y n e = (refl, ap (λ (l : List ℕ). get_or l 0 0) e)
last_two [] (z ∷ ys) x y n e = absurd (omega (arith, n))
last_two (z ∷ xs) [] x y n e = absurd (omega (arith, n))
last_two (w ∷ xs) (z ∷ ys) x y n e =
    let more = last_two xs ys x y (omega (arith, n)) (ap (λ (l : List ℕ). drop 1 l) e) in
    (ap (λ (k : ℕ). k ∷ xs) (ap (λ (l : List ℕ). get_or l 0 0) e) ∙ ap (λ (l : List ℕ). z ∷ l) more.0, more.1)

module _ (bs cs : List ℕ) (long : length bs ≡ length cs) (lb : AreBytes bs) (lc : AreBytes cs) where
  eight_told : (n : ℕ) → word_of (eight_at bs n) ≡ word_of (eight_at cs n) → eight_at bs n ≡ eight_at cs n
  eight_told n e = (word_tells_bytes (eight_at bs n) (eight_at cs n) 0 0 (eight_long bs cs n long) (eight_bytes bs n lb) (eight_bytes cs n lc) (limit_some (length (eight_at bs n)) (eight_few bs n)) (limit_some (length (eight_at cs n)) (eight_few cs n)) e).1

  each_told : (n : ℕ) → byte_words bs n ≡ byte_words cs n → (k : ℕ) → k < n → eight_at bs k ≡ eight_at cs k
  each_told zero e k l = absurd (omega (arith, l))
  each_told (suc n) e k l =
      let two = last_two (byte_words bs n) (byte_words cs n) (word_of (eight_at bs n)) (word_of (eight_at cs n)) (words_long bs cs n) e in
      ⊎_elim (λ (less : k < n). each_told n two.0 k less)
      (λ (more : n ≤ k).
      let is : n ≡ k = omega (arith, more, l) in
      subst (λ (j : ℕ). eight_at bs j ≡ eight_at cs j) is (eight_told n two.1))
      (cases_lt k n)

  byte_is : (xs : List ℕ) (i : ℕ) → get_or (eight_at xs (i / 8)) (i % 8) 0 ≡ get_or xs i 0
  byte_is xs i =
      let place : 8 * (i / 8) + i % 8 ≡ i = omega arith in
      get_or-take 8 (drop (8 * (i / 8)) xs) (i % 8) 0 (omega arith)
      ∙ (get_or-drop (8 * (i / 8)) xs (i % 8) 0 ∙ ap (λ (j : ℕ). get_or xs j 0) place)

  -- all bytes
  pub bytes_told : byte_words bs ((length bs + 7) / 8) ≡ byte_words cs ((length bs + 7) / 8) → bs ≡ cs
  bytes_told e =
      ext_get_or 0 bs cs long (λ i l.
      sym (byte_is bs i)
      ∙ (ap (λ (x : List ℕ). get_or x (i % 8) 0) (each_told ((length bs + 7) / 8) e (i / 8) (omega (arith, l)))
      ∙ byte_is cs i))

-- ---- maps

flat_bytes : (es : List (List ℕ)) → ((i : ℕ) → AreBytes (get_or es i [])) → AreBytes (flat_map (λ v. v) es)
flat_bytes [] each = All-nil (λ b. b < 256)
flat_bytes (x ∷ es) each = All-append (λ b. b < 256) x (flat_map (λ v. v) es) (each 0) (flat_bytes es (λ i. each (suc i)))

-- all bytes of maps
pub all_are_bytes : (cs : List (List (List ℕ))) → ((m i : ℕ) → AreBytes (get_or (get_or cs m []) i [])) → AreBytes (bytes_of cs)
all_are_bytes [] each = All-nil (λ b. b < 256)
all_are_bytes (es ∷ cs) each = All-append (λ b. b < 256) (flat_map (λ v. v) es) (bytes_of cs) (flat_bytes es (each 0)) (all_are_bytes cs (λ m. each (suc m)))
