-- Several bytes of the stack, read or written one after another.
use Rattle.std.proofs.Common.{◌≡◌, ℕ, suc, ◌+◌, ◌-◌, ◌*◌, ◌%◌, ◌<◌, Bool, true, false, nat_eq, List, [], ◌∷◌, ◌++◌, length, take, length-take-le, map, set, get_or, Option, Some, None, option_map, if◌then◌else◌, refl, sym, ap, ◌∙◌, arith}
use Rattle.std.proofs.lemmas.Bool.{eqb-true, ne_eqb}
use Rattle.std.proofs.lemmas.List.{append-nil, append_assoc, take_all, take_more_set, map_more, length-map}
use Rattle.scx_isa_semantics.specs.declared.values.StackByte.{StackByte}
use Rattle.scx_isa_semantics.specs.declared.values.StackByte.TheVariants.{Unwritten, Byte, Part}
use Rattle.scx_isa_semantics.specs.Memory.{Stack, bytes_at, number_in, number_bytes, write}
use Rattle.scx_isa_semantics.specs.Calls.{numbers_in}

-- ---- reads

-- the n bytes from an offset on, of which the first k were read
abbrev pub ReadSoFar : Stack → ℕ → ℕ → ℕ → List ℕ → Type 0
ReadSoFar stack at n k bytes = numbers_in (bytes_at stack at n) ≡ option_map (λ rest. take k bytes ++ rest) (numbers_in (bytes_at stack (at + k) (n - k)))

mapped-same : (o : Option (List ℕ)) → o ≡ option_map (λ rest. rest) o
mapped-same None = refl
mapped-same (Some rest) = refl

-- none was
pub none_read : (stack : Stack) (at n : ℕ) (bytes : List ℕ) → ReadSoFar stack at n 0 bytes
none_read stack at n bytes =
    let here : at ≡ at + 0 = omega arith in
    let all : n ≡ n - 0 = omega arith in
    mapped-same (numbers_in (bytes_at stack at n)) ∙ (λ i. option_map (λ rest. rest) (numbers_in (bytes_at stack (here i) (all i))))

-- all were
pub all_read : (stack : Stack) (at n : ℕ) (bytes : List ℕ) → length bytes ≡ n → ReadSoFar stack at n n bytes → Some bytes ≡ numbers_in (bytes_at stack at n)
all_read stack at n bytes long so_far =
    let none : n - n ≡ 0 = omega arith in
    let whole : take n bytes ++ [] ≡ bytes = append-nil (take n bytes) ∙ take_all n bytes (omega (arith, long)) in
    sym (so_far ∙ ap (λ i. option_map (λ rest. take n bytes ++ rest) (numbers_in (bytes_at stack (at + n) i))) none ∙ ap Some whole)

-- the bytes from one on, where a number was written to that
byte_first : (stack : Stack) (at r x : ℕ) → Some x ≡ number_in (bytes_at stack at 1) → x < 256 → numbers_in (bytes_at stack at (suc r)) ≡ option_map (λ ns. x ∷ ns) (numbers_in (bytes_at stack (at + 1) r))
byte_first stack at r x = go (stack at)
  where
    go : (b : StackByte) → Some x ≡ number_in (b ∷ []) → x < 256 → numbers_in (b ∷ bytes_at stack (at + 1) r) ≡ option_map (λ ns. x ∷ ns) (numbers_in (bytes_at stack (at + 1) r))
    go (Byte n) e small =
        let given : Some x ≡ Some (n + 256 * 0) = e in
        let same : x ≡ n + 256 * 0 = cc in
        let low : n % 256 ≡ x = omega (arith, same, small) in
        ap (λ i. option_map (λ (ns : List ℕ). i ∷ ns) (numbers_in (bytes_at stack (at + 1) r))) low
    go Unwritten e small = let none : Some x ≡ None = e in absurd (cc)
    go (Part p j) e small = let none : Some x ≡ None = e in absurd (cc)

-- and where none was
byte_missing : (stack : Stack) (at r : ℕ) → None ≡ number_in (bytes_at stack at 1) → numbers_in (bytes_at stack at (suc r)) ≡ None
byte_missing stack at r = go (stack at)
  where
    go : (b : StackByte) → None ≡ number_in (b ∷ []) → numbers_in (b ∷ bytes_at stack (at + 1) r) ≡ None
    go (Byte n) e = let none : None ≡ Some (n + 256 * 0) = e in absurd (cc)
    go Unwritten e = refl
    go (Part p j) e = refl

longer : (o : Option (List ℕ)) (before after : List ℕ) (x : ℕ) → after ≡ before ++ x ∷ [] → option_map (λ rest. before ++ rest) (option_map (λ ns. x ∷ ns) o) ≡ option_map (λ rest. after ++ rest) o
longer None before after x e = refl
longer (Some ns) before after x e = ap Some (sym (append_assoc before (x ∷ []) ns) ∙ ap (λ l. l ++ ns) (sym e))

-- one more was
pub one_read : (stack : Stack) (at n k x : ℕ) (bytes : List ℕ) → k < n → length bytes ≡ n → x < 256 → Some x ≡ number_in (bytes_at stack (at + k) 1) → ReadSoFar stack at n k bytes → ReadSoFar stack at n (k + 1) (set bytes k x)
one_read stack at n k x bytes h long small e so_far =
    let some : n - k ≡ suc (n - (k + 1)) = omega (arith, h) in
    let on : at + k + 1 ≡ at + (k + 1) = omega arith in
    so_far
    ∙ ap (λ i. option_map (λ rest. take k bytes ++ rest) (numbers_in (bytes_at stack (at + k) i))) some
    ∙ ap (λ o. option_map (λ rest. take k bytes ++ rest) o) (byte_first stack (at + k) (n - (k + 1)) x e small)
    ∙ longer (numbers_in (bytes_at stack (at + k + 1) (n - (k + 1)))) (take k bytes) (take (k + 1) (set bytes k x)) x (take_more_set bytes k x (omega (arith, h, long)))
    ∙ ap (λ i. option_map (λ rest. take (k + 1) (set bytes k x) ++ rest) (numbers_in (bytes_at stack i (n - (k + 1))))) on

-- one was never written
pub none_there : (stack : Stack) (at n k : ℕ) (bytes : List ℕ) → k < n → None ≡ number_in (bytes_at stack (at + k) 1) → ReadSoFar stack at n k bytes → None ≡ numbers_in (bytes_at stack at n)
none_there stack at n k bytes h e so_far =
    let some : n - k ≡ suc (n - (k + 1)) = omega (arith, h) in
    sym (so_far
    ∙ ap (λ i. option_map (λ rest. take k bytes ++ rest) (numbers_in (bytes_at stack (at + k) i))) some
    ∙ ap (λ o. option_map (λ rest. take k bytes ++ rest) o) (byte_missing stack (at + k) (n - (k + 1)) e))

-- ---- writes

-- a byte after others
write_after : (stack : Stack) (b : StackByte) (bs : List StackByte) (at to k : ℕ) → to ≡ at + length bs → write (write stack at bs) to (b ∷ []) k ≡ write stack at (bs ++ b ∷ []) k
write_after stack b [] at to k is = go is
  where
    go : to ≡ at + 0 → write stack to (b ∷ []) k ≡ write stack at (b ∷ []) k
    go e = let here : to ≡ at = omega (arith, e) in ap (λ i. write stack i (b ∷ []) k) here
write_after stack b (c ∷ bs) at to k is = go (nat_eq k at) refl (write_after stack b bs (at + 1) to k (omega (arith, is)))
  where
    go : (t : Bool) → nat_eq k at ≡ t → write (write stack (at + 1) bs) to (b ∷ []) k ≡ write stack (at + 1) (bs ++ b ∷ []) k
        → (if nat_eq k to then b else (if t then c else write stack (at + 1) bs k)) ≡ (if t then c else write stack (at + 1) (bs ++ b ∷ []) k)
    go true e rest =
        let here = eqb-true k at e in
        let other : nat_eq k to ≡ false = ne_eqb k to (λ same. omega (arith, here, is, same)) in
        ap (λ (t : Bool). if t then b else c) other
    go false e rest = rest

-- the first k bytes were written
abbrev pub WroteSoFar : Stack → Stack → ℕ → ℕ → List ℕ → Type 0
WroteSoFar old new at k bytes = new ≡ write old at (map Byte (take k bytes))

-- none was
pub none_written : (stack : Stack) (at : ℕ) (bytes : List ℕ) → WroteSoFar stack stack at 0 bytes
none_written stack at bytes = refl

-- one more was
pub one_written : (old new next : Stack) (at k x : ℕ) (bytes : List ℕ) → k < length bytes → x ≡ get_or bytes k 0 → x < 256 → next ≡ write new (at + k) (number_bytes 1 x) → WroteSoFar old new at k bytes → WroteSoFar old next at (k + 1) bytes
one_written old new next at k x bytes h is small e so_far =
    let whole : x % 256 ≡ x = omega (arith, small) in
    let front : List StackByte = map Byte (take k bytes) in
    let long : length front ≡ k = length-map (take k bytes) Byte ∙ length-take-le k bytes (omega (arith, h)) in
    let more : map Byte (take (k + 1) bytes) ≡ front ++ Byte x ∷ [] = map_more Byte bytes k 0 h ∙ ap (λ i. front ++ Byte i ∷ []) (sym is) in
    e ∙ ap (λ i. write new (at + k) (Byte i ∷ [])) whole ∙ ap (λ s. write s (at + k) (Byte x ∷ [])) so_far
    ∙ (λ i j. write_after old (Byte x) front at (at + k) j (ap (λ l. at + l) (sym long)) i)
    ∙ ap (λ l. write old at l) (sym more)

-- all were
pub all_written : (old new : Stack) (at k : ℕ) (bytes : List ℕ) → k ≡ length bytes → WroteSoFar old new at k bytes → new ≡ write old at (map Byte bytes)
all_written old new at k bytes all so_far = so_far ∙ ap (λ l. write old at (map Byte l)) (take_all k bytes (omega (arith, all)))
