-- Queues and stacks as rings of slots: their values from the oldest on, as one comes or goes.
use Rattle.std.proofs.Common.{◌≡◌, ◌≢◌, ℕ, zero, suc, ◌+◌, ◌-◌, ◌*◌, ◌/◌, ◌%◌, ◌<◌, ◌≤◌, ◌⊎◌, inl, inr, List, [], ◌∷◌, ◌++◌, length, drop, set, get_or, refl, sym, ap, ◌∙◌, arith, length-set, length-append, get_or-set_same, get_or-set_other}
use Rattle.std.proofs.Math.Nat.{mul-le-mul_right, mod-add-mod, add-mod_right}
use Rattle.std.proofs.lemmas.Nat.{div-add-mod', mod_below}
use Rattle.std.proofs.lemmas.Bool.{cases_lt}
use Rattle.scx_isa_semantics.specs.declared.map_kinds.Line.{Line}
use Rattle.scx_isa_semantics.specs.Directories.{line_slot, longer, turned}
use Rattle.scx_maps.specs.Laws.{oldest_of}

-- ---- slots

-- places less than a whole turn apart are in two slots
turned_apart : (a i j n : ℕ) → i < j → j < n → (a + i) % n ≡ (a + j) % n → ⊥
turned_apart a i j n before below e = go (cases_lt ((a + i) / n) ((a + j) / n))
  where
    lower : (a + i) / n * n + (a + i) % n ≡ a + i
    lower = div-add-mod' (a + i) n

    upper : (a + j) / n * n + (a + j) % n ≡ a + j
    upper = div-add-mod' (a + j) n

    go : ((a + i) / n < (a + j) / n) ⊎ ((a + j) / n ≤ (a + i) / n) → ⊥
    go (inl less) =
        let turn : suc ((a + i) / n) * n ≤ (a + j) / n * n = mul-le-mul_right n less in
        omega (arith, turn, lower, upper, e, before, below)
    go (inr more) =
        let turn : (a + j) / n * n ≤ (a + i) / n * n = mul-le-mul_right n more in
        omega (arith, turn, lower, upper, e, before)

-- two values of a ring are in two slots
pub slots_apart : (n : ℕ) (l : Line) (i j : ℕ) → i < n → j < n → line_slot n l i ≡ line_slot n l j → i ≡ j
slots_apart n l i j below within e = go (cases_lt i j) (cases_lt j i)
  where
    go : ((i < j) ⊎ (j ≤ i)) → ((j < i) ⊎ (i ≤ j)) → i ≡ j
    go (inl before) b = absurd (turned_apart l.first i j n before within e)
    go (inr a) (inl before) = absurd (turned_apart l.first j i n before below (sym e))
    go (inr a) (inr b) = omega (arith, a, b)

-- where the oldest value left, the next one is the oldest
pub slot_shifted : (n : ℕ) (l : Line) (c j : ℕ) → line_slot n (record { first = line_slot n l 1; count = c }) j ≡ line_slot n l (suc j)
slot_shifted n l c j =
    let place : l.first + 1 + j ≡ l.first + suc j = omega arith in
    mod-add-mod (l.first + 1) n j ∙ ap (λ k. k % n) place

-- ---- values

-- the value that is so many behind the oldest
abbrev pub value_after : List (List ℕ) → Line → ℕ → List ℕ
value_after slots l j = get_or slots (line_slot (length slots) l j) []

-- as many values
pub length-oldest_of : (slots : List (List ℕ)) (l : Line) (n : ℕ) → length (oldest_of slots l n) ≡ n
length-oldest_of slots l zero = refl
length-oldest_of slots l (suc n) =
    let rest = length-oldest_of slots l n in
    let more = length-append (oldest_of slots l n) (value_after slots l n ∷ []) in
    omega (arith, rest, more)

-- lists of one value after the other are the same where the values are
pub same_values : (slots others : List (List ℕ)) (l r : Line) (n : ℕ) → ((j : ℕ) → j < n → value_after slots l j ≡ value_after others r j) → oldest_of slots l n ≡ oldest_of others r n
same_values slots others l r zero h = refl
same_values slots others l r (suc n) h =
    let front = same_values slots others l r n (λ j below. h j (omega (arith, below))) in
    let last = h n (omega arith) in
    λ i. front i ++ last i ∷ []

-- the oldest value, and those behind it
pub oldest_first : (slots : List (List ℕ)) (l r : Line) (n : ℕ) → ((j : ℕ) → value_after slots r j ≡ value_after slots l (suc j)) → oldest_of slots l (suc n) ≡ value_after slots l 0 ∷ oldest_of slots r n
oldest_first slots l r zero h = refl
oldest_first slots l r (suc n) h =
    let front = oldest_first slots l r n h in
    let last = sym (h n) in
    λ i. front i ++ last i ∷ []

value_written : (slots : List (List ℕ)) (l : Line) (i : ℕ) (bytes : List ℕ) → 0 < length slots → value_after (set slots (line_slot (length slots) l i) bytes) l i ≡ bytes
value_written slots l i bytes some =
    let place = line_slot (length slots) l i in
    ap (λ n. get_or (set slots place bytes) (line_slot n l i) []) (length-set slots place bytes)
    ∙ get_or-set_same slots place bytes [] (mod_below (l.first + i) (length slots) some)

value_stays : (slots : List (List ℕ)) (r : Line) (place j : ℕ) (bytes : List ℕ) → line_slot (length slots) r j ≢ place → value_after (set slots place bytes) r j ≡ value_after slots r j
value_stays slots r place j bytes ne =
    ap (λ n. get_or (set slots place bytes) (line_slot n r j) []) (length-set slots place bytes)
    ∙ get_or-set_other slots place (line_slot (length slots) r j) bytes [] ne

-- ---- a value comes

-- it is the last one
pub value_appended : (slots : List (List ℕ)) (l : Line) (bytes : List ℕ) → l.count < length slots
    → oldest_of (set slots (line_slot (length slots) l l.count) bytes) (longer l) (l.count + 1) ≡ oldest_of slots l l.count ++ bytes ∷ []
value_appended slots l bytes less =
    let written = set slots (line_slot (length slots) l l.count) bytes in
    let more : l.count + 1 ≡ suc l.count = omega arith in
    let front =
    same_values written slots (longer l) l l.count
    (λ j below. value_stays slots (longer l) (line_slot (length slots) l l.count) j bytes (λ e. omega (arith, below, slots_apart (length slots) l j l.count (omega (arith, below, less)) less e))) in
    let last = value_written slots l l.count bytes (omega (arith, less)) in
    let both : oldest_of written (longer l) (suc l.count) ≡ oldest_of slots l l.count ++ bytes ∷ [] = λ i. front i ++ last i ∷ [] in
    ap (λ n. oldest_of written (longer l) n) more ∙ both

turned_on : (slots : List (List ℕ)) (l : Line) (m : ℕ) (bytes : List ℕ) → length slots ≡ suc m
    → oldest_of (set slots (line_slot (length slots) l 0) bytes) (turned (length slots) l) (suc m) ≡ drop 1 (oldest_of slots l (suc m)) ++ bytes ∷ []
turned_on slots l m bytes long =
    let place = line_slot (length slots) l 0 in
    let written = set slots place bytes in
    let later = turned (length slots) l in
    let front =
    same_values written slots later later m
    (λ j below. value_stays slots later place j bytes
    (λ e. omega (arith, slots_apart (length slots) l (suc j) 0 (omega (arith, below, long)) (omega (arith, long)) (sym (slot_shifted (length slots) l l.count j) ∙ e)))) in
    let none : l.first ≡ l.first + 0 = omega arith in
    let last_place : line_slot (length slots) later m ≡ place =
    slot_shifted (length slots) l l.count m ∙ ap (λ k. (l.first + k) % length slots) (sym long) ∙ add-mod_right l.first (length slots) ∙ ap (λ k. k % length slots) none in
    let last : value_after written later m ≡ bytes =
    ap (λ n. get_or written (line_slot n later m) []) (length-set slots place bytes)
    ∙ ap (λ s. get_or written s []) last_place ∙ get_or-set_same slots place bytes [] (mod_below (l.first + 0) (length slots) (omega (arith, long))) in
    let whole = oldest_first slots l later m (λ j. ap (λ s. get_or slots s []) (slot_shifted (length slots) l l.count j)) in
    let both : oldest_of written later (suc m) ≡ oldest_of slots later m ++ bytes ∷ [] = λ i. front i ++ last i ∷ [] in
    both ∙ sym (ap (λ (xs : List (List ℕ)). drop 1 xs ++ bytes ∷ []) whole)

-- where all slots are in use it takes the place of the first one
pub value_turned : (slots : List (List ℕ)) (l : Line) (bytes : List ℕ) → 0 < length slots → l.count ≡ length slots
    → oldest_of (set slots (line_slot (length slots) l 0) bytes) (turned (length slots) l) l.count ≡ drop 1 (oldest_of slots l l.count) ++ bytes ∷ []
value_turned slots l bytes some full =
    let long : length slots ≡ suc (length slots - 1) = omega (arith, some) in
    let count : l.count ≡ suc (length slots - 1) = full ∙ long in
    ap (λ n. oldest_of (set slots (line_slot (length slots) l 0) bytes) (turned (length slots) l) n) count
    ∙ turned_on slots l (length slots - 1) bytes long
    ∙ sym (ap (λ n. drop 1 (oldest_of slots l n) ++ bytes ∷ []) count)
