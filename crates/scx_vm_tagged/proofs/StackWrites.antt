-- What a write to some bytes and to their marks makes of the stack.
use Rattle.std.proofs.Common.{◌≡◌, ℕ, zero, suc, ◌+◌, ◌*◌, ◌/◌, ◌%◌, ◌<◌, ◌≤◌, Bool, true, false, List, [], ◌∷◌, ◌++◌, length, drop, get_or, nat_eq, Option, Some, None, replicate, if◌then◌else◌, refl, sym, ap, ◌∙◌, arith}
use Rattle.scx_isa_semantics.specs.declared.values.Pointer.{Pointer}
use Rattle.scx_isa_semantics.specs.declared.values.StackByte.{StackByte}
use Rattle.scx_isa_semantics.specs.declared.values.StackByte.TheVariants.{Unwritten, Byte, Part}
use Rattle.scx_isa_semantics.specs.Memory.{Stack, write, number_bytes, parts}
use Rattle.scx_vm_tagged.specs.Stack.{part_of, byte_of, stack_of}
use Rattle.scx_isa_semantics.proofs.Lists.{over, low_bytes, length-low_bytes, bytes_low_first-low}
use Rattle.scx_vm_tagged.proofs.Lists.{get_or-put_over}
use Rattle.std.specs.Int.{bytes_low_first}
use borrow.Author.Tests.{eqb-true, eqb-false}
use Rattle.std.proofs.lemmas.Grind.{get_or-set_at}
use Rattle.std.proofs.Common.{set, get_or-set_same, get_or-set_other}
use borrow.Rule.Slice.PartMut.{put_mid, mid_of}

-- the marks of so many written bytes
abbrev pub marks_written : ℕ → List ℕ
marks_written zero = []
marks_written (suc n) = 1 ∷ marks_written n

length-marks_written : (n : ℕ) → length (marks_written n) ≡ n
length-marks_written zero = refl
length-marks_written (suc n) = let e = length-marks_written n in omega (arith, e)

write-marked : (s : Stack) (n x at m b : ℕ) (p : Option Pointer) (j k : ℕ) → s k ≡ byte_of m b p j → byte_of (over at (marks_written n) m k) (over at (low_bytes n x) b k) p j ≡ write s at (number_bytes n x) k
write-marked s zero x at m b p j k e = sym e
write-marked s (suc n) x at m b p j k e = go (write-marked s n (x / 256) (at + 1) m b p j k e) (nat_eq k at)
  where
    go : byte_of (over (at + 1) (marks_written n) m k) (over (at + 1) (low_bytes n (x / 256)) b k) p j ≡ write s (at + 1) (number_bytes n (x / 256)) k → (here : Bool) → byte_of (if here then 1 else over (at + 1) (marks_written n) m k) (if here then x % 256 else over (at + 1) (low_bytes n (x / 256)) b k) p j ≡ (if here then Byte (x % 256) else write s (at + 1) (number_bytes n (x / 256)) k)
    go rest true = refl
    go rest false = rest

-- the stack after a number is written
pub written_number : (m b : List ℕ) (p : List (Option Pointer)) (at r n x : ℕ) → length m ≡ at + r → length b ≡ at + r → n ≤ r → stack_of (put_mid at r m (marks_written n ++ drop n (mid_of at r m))) (put_mid at r b (low_bytes n x ++ drop n (mid_of at r b))) p ≡ write (stack_of m b p) at (number_bytes n x)
unfolding stack_of
written_number m b p at r n x lm lb fits = λ i k.
    (ap (λ (mark : ℕ). byte_of mark (get_or (put_mid at r b (low_bytes n x ++ drop n (mid_of at r b))) k 0) (get_or p (k / 8) None) (k % 8)) (get_or-put_over at r n m (marks_written n) k lm (length-marks_written n) fits)
    ∙ ap (λ (byte : ℕ). byte_of (over at (marks_written n) (get_or m k 0) k) byte (get_or p (k / 8) None) (k % 8)) (get_or-put_over at r n b (low_bytes n x) k lb (length-low_bytes n x) fits)
    ∙ write-marked (stack_of m b p) n x at (get_or m k 0) (get_or b k 0) (get_or p (k / 8) None) (k % 8) k refl) i

-- a list of one value has it everywhere, past the end too
get_or-same : {A : Type 0} (n k : ℕ) (x : A) → get_or (replicate n x) k x ≡ x
get_or-same zero k x = refl
get_or-same (suc n) zero x = refl
get_or-same (suc n) (suc k) x = get_or-same n k x

-- the stack to which nothing was written
pub nothing_written : (m b p : ℕ) → stack_of (replicate m 0) (replicate b 0) (replicate p None) ≡ (λ k. Unwritten)
unfolding stack_of
nothing_written m b p = λ i k.
    (ap (λ (mark : ℕ). byte_of mark (get_or (replicate b 0) k 0) (get_or (replicate p None) (k / 8) None) (k % 8)) (get_or-same m k 0)
    ∙ ap (λ (o : Option Pointer). part_of o (k % 8)) (get_or-same p (k / 8) None)) i

-- the same by what is left of the two parts that were written
pub number_written : (m b : List ℕ) (p : List (Option Pointer)) (at r n x : ℕ) (m' b' : List ℕ) → length m ≡ at + r → length b ≡ at + r → n ≤ r → b' ≡ bytes_low_first 0 n x ++ drop n (mid_of at r b) → m' ≡ marks_written n ++ drop n (mid_of at r m) → stack_of (put_mid at r m m') (put_mid at r b b') p ≡ write (stack_of m b p) at (number_bytes n x)
number_written m b p at r n x m' b' lm lb fits eb em =
    ap (λ (l : List ℕ). stack_of (put_mid at r m l) (put_mid at r b b') p) em
    ∙ ap (λ (l : List ℕ). stack_of (put_mid at r m (marks_written n ++ drop n (mid_of at r m))) (put_mid at r b l) p) (eb ∙ ap (λ (l : List ℕ). l ++ drop n (mid_of at r b)) (bytes_low_first-low n x))
    ∙ written_number m b p at r n x lm lb fits

-- the marks of so many bytes under which a pointer shows
abbrev pub marks_cleared : ℕ → List ℕ
marks_cleared zero = []
marks_cleared (suc n) = 0 ∷ marks_cleared n

length-marks_cleared : (n : ℕ) → length (marks_cleared n) ≡ n
length-marks_cleared zero = refl
length-marks_cleared (suc n) = let e = length-marks_cleared n in omega (arith, e)

-- so many parts of a pointer, from one on
abbrev parts_from : Pointer → ℕ → ℕ → List StackByte
parts_from q i zero = []
parts_from q i (suc n) = Part q i ∷ parts_from q (suc i) n

-- a byte of the eight, after the parts from one on are written
write-cleared : (s : Stack) (q : Pointer) (p : List (Option Pointer)) (n i c m b k : ℕ) → i + n ≡ 8 → c < length p → (k / 8 ≡ c → i ≤ k % 8) → s k ≡ byte_of m b (get_or p (k / 8) None) (k % 8) → byte_of (over (8 * c + i) (marks_cleared n) m k) b (get_or (set p c (Some q)) (k / 8) None) (k % 8) ≡ write s (8 * c + i) (parts_from q i n) k
write-cleared s q p zero i c m b k all within from e =
    let other : k / 8 ≡ c → ⊥ = λ h. let f = from h in omega arith in
    ap (λ (o : Option Pointer). byte_of m b o (k % 8)) (get_or-set_other p c (k / 8) (Some q) None other) ∙ sym e
write-cleared s q p (suc n) i c m b k all within from e = go (nat_eq k (8 * c + i)) refl (λ behind. write-cleared s q p n (suc i) c m b k (omega arith) within behind e)
  where
    go : (here : Bool) → nat_eq k (8 * c + i) ≡ here → ((k / 8 ≡ c → suc i ≤ k % 8) → byte_of (over (8 * c + suc i) (marks_cleared n) m k) b (get_or (set p c (Some q)) (k / 8) None) (k % 8) ≡ write s (8 * c + suc i) (parts_from q (suc i) n) k)
        → byte_of (if here then 0 else over (8 * c + i + 1) (marks_cleared n) m k) b (get_or (set p c (Some q)) (k / 8) None) (k % 8) ≡ (if here then Part q i else write s (8 * c + i + 1) (parts_from q (suc i) n) k)
    go true h rest =
        let at : k ≡ 8 * c + i = eqb-true k (8 * c + i) h in
        let cell : k / 8 ≡ c = omega arith in
        let part : k % 8 ≡ i = omega arith in
        ap (λ (j : ℕ). part_of (get_or (set p c (Some q)) j None) (k % 8)) cell
        ∙ ap (λ (o : Option Pointer). part_of o (k % 8)) (get_or-set_same p c (Some q) None within)
        ∙ ap (Part q) part
    go false h rest =
        let at = eqb-false k (8 * c + i) h in
        let next : 8 * c + i + 1 ≡ 8 * c + suc i = omega arith in
        ap (λ (j : ℕ). byte_of (over j (marks_cleared n) m k) b (get_or (set p c (Some q)) (k / 8) None) (k % 8)) next
        ∙ rest (λ cell. let f = from cell in omega (arith, at))
        ∙ ap (λ (j : ℕ). write s j (parts_from q (suc i) n) k) (sym next)

-- the stack after a pointer is stored: the marks of its bytes are cleared
pub pointer_written : (m b : List ℕ) (p : List (Option Pointer)) (at r : ℕ) (q : Pointer) (m' : List ℕ) → length m ≡ at + r → 8 ≤ r → at % 8 ≡ 0 → at / 8 < length p → m' ≡ marks_cleared 8 ++ drop 8 (mid_of at r m) → stack_of (put_mid at r m m') b (set p (at / 8) (Some q)) ≡ write (stack_of m b p) at (parts q)
unfolding stack_of
pointer_written m b p at r q m' lm fits aligned within em =
    let start : 8 * (at / 8) + 0 ≡ at = omega arith in
    λ i k.
    (ap (λ (l : List ℕ). byte_of (get_or (put_mid at r m l) k 0) (get_or b k 0) (get_or (set p (at / 8) (Some q)) (k / 8) None) (k % 8)) em
    ∙ ap (λ (mark : ℕ). byte_of mark (get_or b k 0) (get_or (set p (at / 8) (Some q)) (k / 8) None) (k % 8)) (get_or-put_over at r 8 m (marks_cleared 8) k lm (length-marks_cleared 8) fits)
    ∙ ap (λ (j : ℕ). byte_of (over j (marks_cleared 8) (get_or m k 0) k) (get_or b k 0) (get_or (set p (at / 8) (Some q)) (k / 8) None) (k % 8)) (sym start)
    ∙ write-cleared (stack_of m b p) q p 8 0 (at / 8) (get_or m k 0) (get_or b k 0) k refl within (λ h. omega arith) refl
    ∙ ap (λ (j : ℕ). write (stack_of m b p) j (parts q) k) start) i

-- the stack after a number is written to one byte
pub byte_written : (m b : List ℕ) (p : List (Option Pointer)) (at x : ℕ) → at < length m → at < length b → x < 256 → stack_of (set m at 1) (set b at x) p ≡ write (stack_of m b p) at (number_bytes 1 x)
unfolding stack_of
byte_written m b p at x wm wb small = λ i k. go k (nat_eq k at) refl i
  where
    go : (k : ℕ) (here : Bool) → nat_eq k at ≡ here → byte_of (get_or (set m at 1) k 0) (get_or (set b at x) k 0) (get_or p (k / 8) None) (k % 8) ≡ (if here then Byte (x % 256) else byte_of (get_or m k 0) (get_or b k 0) (get_or p (k / 8) None) (k % 8))
    go k true h =
        let at_it = eqb-true k at h in
        let value : get_or (set b at x) k 0 ≡ x % 256 = get_or-set_at b at k x 0 at_it wb ∙ omega arith in
        ap (λ (mark : ℕ). byte_of mark (get_or (set b at x) k 0) (get_or p (k / 8) None) (k % 8)) (get_or-set_at m at k 1 0 at_it wm) ∙ ap Byte value
    go k false h =
        let other = eqb-false k at h in
        ap (λ (mark : ℕ). byte_of mark (get_or (set b at x) k 0) (get_or p (k / 8) None) (k % 8)) (get_or-set_other m at k 1 0 other)
        ∙ ap (λ (byte : ℕ). byte_of (get_or m k 0) byte (get_or p (k / 8) None) (k % 8)) (get_or-set_other b at k x 0 other)
