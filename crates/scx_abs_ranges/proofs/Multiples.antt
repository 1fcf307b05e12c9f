-- Cases on shifts, multiples of small powers of two, and ranges between two numbers.
use Rattle.std.proofs.Common.{◌≡◌, ◌≢◌, ℕ, zero, suc, ◌+◌, ◌-◌, ◌%◌, ◌^◌, ◌<◌, ◌≤◌, Bool, true, false, nat_eq, nat_lt, if◌then◌else◌, refl, sym, ap, ◌∙◌, arith}
use Rattle.std.proofs.lemmas.Bool.{eqb-true, eqb-false, ltb-true, ltb-false}
use Rattle.std.proofs.Math.Nat.{mod-one, zero-mod}
use Rattle.std.proofs.Math.Pow.{mod-mod-pow}
use Rattle.scx_abs_ranges.specs.Ranges.{IsIn, IsWellFormed, IsRange, trailing, floor, between, single, all}

-- what follows from either answer of a test holds
pub by_bool : {P : Type 0} (b : Bool) → (b ≡ true → P) → (b ≡ false → P) → P
by_bool true f g = f refl
by_bool false f g = g refl

-- what holds of both branches in their cases holds of the choice between them
pub if_case : {X : Type 0} (P : X → Type 0) (b : Bool) (t e : X) → (b ≡ true → P t) → (b ≡ false → P e) → P (if b then t else e)
if_case P true t e f g = f refl
if_case P false t e f g = g refl

-- what follows where a number is less than another and where it isn't holds
pub by_less : {P : Type 0} (a b : ℕ) → (a < b → P) → (b ≤ a → P) → P
by_less a b f g = by_bool (nat_lt a b) (λ e. f (ltb-true a b e)) (λ e. g (ltb-false a b e))

-- what holds of 0, 1, 2 and 3 holds of every shift
pub by_shift : (P : ℕ → Type 0) → P 0 → P 1 → P 2 → P 3 → (s : ℕ) → s ≤ 3 → P s
by_shift P p q r t zero h = p
by_shift P p q r t (suc zero) h = q
by_shift P p q r t (suc (suc zero)) h = r
by_shift P p q r t (suc (suc (suc zero))) h = t
by_shift P p q r t (suc (suc (suc (suc s)))) h = absurd (omega arith)

-- ---- multiples

-- a multiple of a power of two is one of each lesser power
pub multiple_of_less : (n s t : ℕ) → t ≤ s → n % 2 ^ s ≡ 0 → n % 2 ^ t ≡ 0
multiple_of_less n s t le h =
    let parts : s - t + t ≡ s = omega arith in
    sym (mod-mod-pow n (s - t) t) ∙ ap (λ k. n % 2 ^ k % 2 ^ t) parts ∙ ap (λ x. x % 2 ^ t) h ∙ zero-mod (2 ^ t)

-- what holds in the cases of multiples of 8, of 4, of 2 and of odd numbers holds of the zeros that are counted
pub trailing_case : (P : ℕ → Type 0) (n : ℕ) → (n % 8 ≡ 0 → P 3) → (n % 8 ≢ 0 → n % 4 ≡ 0 → P 2) → (n % 4 ≢ 0 → n % 2 ≡ 0 → P 1) → (n % 2 ≢ 0 → P 0) → P (trailing n)
trailing_case P n a b c d =
    if_case P (nat_eq (n % 8) 0) 3 (if nat_eq (n % 4) 0 then 2 else if nat_eq (n % 2) 0 then 1 else 0) (λ e. a (eqb-true (n % 8) 0 e))
    (λ e. if_case P (nat_eq (n % 4) 0) 2 (if nat_eq (n % 2) 0 then 1 else 0) (λ f. b (eqb-false (n % 8) 0 e) (eqb-true (n % 4) 0 f))
    (λ f. if_case P (nat_eq (n % 2) 0) 1 0 (λ g. c (eqb-false (n % 4) 0 f) (eqb-true (n % 2) 0 g)) (λ g. d (eqb-false (n % 2) 0 g))))

-- of the zeros from the lowest bit on at most three are counted
pub trailing_small : (n : ℕ) → trailing n ≤ 3
trailing_small n = trailing_case (λ k. k ≤ 3) n (λ a. omega arith) (λ a b. omega arith) (λ a b. omega arith) (λ a. omega arith)

-- a number is a multiple of two to the power of its trailing zeros
pub trailing_divides : (n : ℕ) → n % 2 ^ trailing n ≡ 0
trailing_divides n = trailing_case (λ k. n % 2 ^ k ≡ 0) n (λ a. a) (λ a b. b) (λ a b. b) (λ a. mod-one n)

most_0 : (n : ℕ) → n % 2 ^ 0 ≡ 0 → 0 ≤ trailing n
most_0 n h = omega arith

most_1 : (n : ℕ) → n % 2 ^ 1 ≡ 0 → 1 ≤ trailing n
most_1 n h = trailing_case (λ k. 1 ≤ k) n (λ a. omega arith) (λ a b. omega arith) (λ a b. omega arith) (λ a. absurd (a h))

most_2 : (n : ℕ) → n % 4 ≡ 0 → 2 ≤ trailing n
most_2 n h = trailing_case (λ k. 2 ≤ k) n (λ a. omega arith) (λ a b. omega arith) (λ a b. absurd (a h)) (λ a. absurd (a (omega arith)))

most_3 : (n : ℕ) → n % 8 ≡ 0 → 3 ≤ trailing n
most_3 n h = trailing_case (λ k. 3 ≤ k) n (λ a. omega arith) (λ a b. absurd (a h)) (λ a b. absurd (a (omega arith))) (λ a. absurd (a (omega arith)))

-- no shift up to 3 of which a number is a multiple is above its trailing zeros
pub most_trailing : (n s : ℕ) → s ≤ 3 → n % 2 ^ s ≡ 0 → s ≤ trailing n
most_trailing n s = by_shift (λ s. n % 2 ^ s ≡ 0 → s ≤ trailing n) (most_0 n) (most_1 n) (most_2 n) (most_3 n) s

-- from one multiple of a step to a greater one it is at least the step
pub next_multiple : (s lo hi : ℕ) → s ≤ 3 → lo % 2 ^ s ≡ 0 → hi % 2 ^ s ≡ 0 → lo < hi → lo + 2 ^ s ≤ hi
next_multiple s lo hi le =
    by_shift (λ s. lo % 2 ^ s ≡ 0 → hi % 2 ^ s ≡ 0 → lo < hi → lo + 2 ^ s ≤ hi)
    (λ a b c. omega arith) (λ a b c. omega arith) (λ a b c. omega arith) (λ a b c. omega arith) s le

-- the sum of two multiples of a step is one
pub multiples_added : (s m n : ℕ) → s ≤ 3 → m % 2 ^ s ≡ 0 → n % 2 ^ s ≡ 0 → (m + n) % 2 ^ s ≡ 0
multiples_added s m n le =
    by_shift (λ s. m % 2 ^ s ≡ 0 → n % 2 ^ s ≡ 0 → (m + n) % 2 ^ s ≡ 0) (λ a b. mod-one (m + n)) (λ a b. omega arith) (λ a b. omega arith) (λ a b. omega arith) s le

-- a step is a multiple of itself
pub step_multiple : (s : ℕ) → s ≤ 3 → 2 ^ s % 2 ^ s ≡ 0
step_multiple s le = by_shift (λ s. 2 ^ s % 2 ^ s ≡ 0) refl refl refl refl s le

-- the difference of two multiples of a step is one
pub multiples_taken : (s m n : ℕ) → s ≤ 3 → n ≤ m → m % 2 ^ s ≡ 0 → n % 2 ^ s ≡ 0 → (m - n) % 2 ^ s ≡ 0
multiples_taken s m n le =
    by_shift (λ s. n ≤ m → m % 2 ^ s ≡ 0 → n % 2 ^ s ≡ 0 → (m - n) % 2 ^ s ≡ 0) (λ l a b. mod-one (m - n)) (λ l a b. omega arith) (λ l a b. omega arith) (λ l a b. omega arith) s le

-- the greatest multiple that isn't above a number is a multiple
pub floor_multiple : (s n : ℕ) → s ≤ 3 → floor n s % 2 ^ s ≡ 0
floor_multiple s n le = by_shift (λ s. floor n s % 2 ^ s ≡ 0) (mod-one (n - n % 1)) (omega arith) (omega arith) (omega arith) s le

-- the greatest multiple that isn't above a number isn't above it
pub floor_below : (n s : ℕ) → floor n s ≤ n
floor_below n s = omega arith

-- no multiple that isn't above a number is greater than its floor
pub floor_greatest : (s x n : ℕ) → s ≤ 3 → x % 2 ^ s ≡ 0 → x ≤ n → x ≤ floor n s
floor_greatest s x n le =
    by_shift (λ s. x % 2 ^ s ≡ 0 → x ≤ n → x ≤ floor n s) (λ a b. omega arith) (λ a b. omega arith) (λ a b. omega arith) (λ a b. omega arith) s le

-- the multiple behind the floor of a number is above the number
pub floor_next : (s n : ℕ) → s ≤ 3 → n < floor n s + 2 ^ s
floor_next s n le = by_shift (λ s. n < floor n s + 2 ^ s) (omega arith) (omega arith) (omega arith) (omega arith) s le

-- if a number and the one a step on are multiples, the step is one
one_less : (n s : ℕ) → s ≤ 3 → (t : ℕ) → t ≤ 3 → n % 2 ^ t ≡ 0 → (n + 2 ^ s) % 2 ^ t ≡ 0 → t ≤ s
one_less n s le =
    by_shift (λ s. (t : ℕ) → t ≤ 3 → n % 2 ^ t ≡ 0 → (n + 2 ^ s) % 2 ^ t ≡ 0 → t ≤ s)
    (λ t tl. by_shift (λ t. n % 2 ^ t ≡ 0 → (n + 1) % 2 ^ t ≡ 0 → t ≤ 0) (λ a b. omega arith) (λ a b. omega arith) (λ a b. omega arith) (λ a b. omega arith) t tl)
    (λ t tl. by_shift (λ t. n % 2 ^ t ≡ 0 → (n + 2) % 2 ^ t ≡ 0 → t ≤ 1) (λ a b. omega arith) (λ a b. omega arith) (λ a b. omega arith) (λ a b. omega arith) t tl)
    (λ t tl. by_shift (λ t. n % 2 ^ t ≡ 0 → (n + 4) % 2 ^ t ≡ 0 → t ≤ 2) (λ a b. omega arith) (λ a b. omega arith) (λ a b. omega arith) (λ a b. omega arith) t tl)
    (λ t tl a b. tl) s le

-- a number and the next one of a step are multiples of no greater power of two than the step's
pub step_divides : (n s t : ℕ) → s ≤ 3 → t ≤ 3 → n % 2 ^ t ≡ 0 → (n + 2 ^ s) % 2 ^ t ≡ 0 → t ≤ s
step_divides n s t le tl = one_less n s le t tl

-- ---- ranges between two numbers

-- a multiple between two numbers is in the range between them
pub in_between : (lo hi s n : ℕ) → lo ≤ n → n ≤ hi → n % 2 ^ s ≡ 0 → IsIn n (between lo hi s)
in_between lo hi s n l h m = record {
  from_low = l;
  to_high = h;
  multiple =
      if_case (λ k. n % 2 ^ k ≡ 0) (nat_eq lo hi) (trailing lo) s
      (λ e. let same : lo ≡ hi = eqb-true lo hi e in let here : n ≡ lo = omega arith in rw here (trailing_divides lo)) (λ e. m);
}

-- a member of a range from a multiple of its step on is a multiple of it too
pub multiple_between : (lo hi s n : ℕ) → lo % 2 ^ s ≡ 0 → IsIn n (between lo hi s) → n % 2 ^ s ≡ 0
multiple_between lo hi s n z h =
    let l : lo ≤ n = h.from_low in
    let u : n ≤ hi = h.to_high in
    if_case (λ k. n % 2 ^ k ≡ 0 → n % 2 ^ s ≡ 0) (nat_eq lo hi) (trailing lo) s
    (λ e m. let same : lo ≡ hi = eqb-true lo hi e in let here : n ≡ lo = omega arith in rw here z) (λ e m. m) h.multiple

-- a range between two multiples of its step is well formed
pub between_formed : (lo hi s : ℕ) → lo ≤ hi → s ≤ 3 → lo % 2 ^ s ≡ 0 → hi % 2 ^ s ≡ 0 → IsWellFormed (between lo hi s)
between_formed lo hi s le small a b = record {
  ordered = le;
  small = if_case (λ k. k ≤ 3) (nat_eq lo hi) (trailing lo) s (λ e. trailing_small lo) (λ e. small);
  low_multiple = if_case (λ k. lo % 2 ^ k ≡ 0) (nat_eq lo hi) (trailing lo) s (λ e. trailing_divides lo) (λ e. a);
  high_multiple = if_case (λ k. hi % 2 ^ k ≡ 0) (nat_eq lo hi) (trailing lo) s (λ e. rw (sym (eqb-true lo hi e)) (trailing_divides lo)) (λ e. b);
  greatest = if_case (λ k. lo ≡ hi → k ≡ trailing lo) (nat_eq lo hi) (trailing lo) s (λ e f. refl) (λ e f. absurd (eqb-false lo hi e f));
}

-- a range between two multiples of its step is one of 64 bits, if its ends are
pub between_range : (lo hi s : ℕ) → lo ≤ hi → hi < 2 ^ 64 → s ≤ 3 → lo % 2 ^ s ≡ 0 → hi % 2 ^ s ≡ 0 → IsRange (between lo hi s)
between_range lo hi s le fits small a b = record { formed = between_formed lo hi s le small a b; fits = fits }

-- a 64-bit number is a range
pub single_range : (n : ℕ) → n < 2 ^ 64 → IsRange (single n)
single_range n l = between_range n n 0 (omega arith) l (omega arith) (mod-one n) (mod-one n)

-- a number is in the range of it alone
pub in_single : (n : ℕ) → IsIn n (single n)
in_single n = in_between n n 0 n (omega arith) (omega arith) (mod-one n)

-- all 64-bit numbers are a range
pub all_range : IsRange all
all_range = record {
  formed = record { ordered = omega arith; small = omega arith; low_multiple = refl; high_multiple = refl; greatest = λ e. absurd (omega arith) };
  fits = omega arith;
}

-- each 64-bit number is in the range of all
pub in_all : (n : ℕ) → n < 2 ^ 64 → IsIn n all
in_all n l = record { from_low = omega arith; to_high = omega arith; multiple = mod-one n }
