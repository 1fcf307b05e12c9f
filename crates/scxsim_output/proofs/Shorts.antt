-- A text that stands at the front of a field, and what is put behind it.
use Rattle.std.proofs.Common.{◌≡◌, ℕ, ◌+◌, ◌-◌, ◌≤◌, List, [], ◌∷◌, ◌++◌, length, take, drop, slice_index, refl, sym, ap, ◌∙◌, subst, arith, append_assoc, le_refl, length-drop, take-append-drop}
use Rattle.std.proofs.lemmas.List.{take-append-le, length-take, drop-take}
use Rattle.std.proofs.Math.Seq.{take-append-add}
use lib.Seq.{take-take}
use Rattle.std.specs.List.{copy_within}
use borrow.Rule.Slice.PartMut.{put_mid, post_of}

-- a field was put behind the first bytes, of which only a beginning counts
pub with_text : (xs ys : List ℕ) (a k n : ℕ) → a ≤ length xs → n ≤ length ys
    → take (a + n) (put_mid a k xs ys) ≡ take a xs ++ take n ys
with_text xs ys a k n inside few =
    let front : length (take a xs) ≡ a = omega (arith, length-take a xs, inside) in
    let P : ℕ → Type 0 = λ m. take (m + n) (put_mid a k xs ys) ≡ take a xs ++ take n (ys ++ post_of a k xs) in
    subst P front (take-append-add (take a xs) (ys ++ post_of a k xs) n) ∙ ap (λ z. take a xs ++ z) (take-append-le n ys (post_of a k xs) few)

-- what stands behind the first bytes was moved to the front
pub moved : (xs : List ℕ) (n end : ℕ) → n ≤ length (take end xs) → end ≤ length xs
    → take end xs ≡ take n (take end xs) ++ take (end - n) (copy_within xs n end 0)
moved xs n end few inside =
    let m = end - n in
    let less : n ≤ end = omega (arith, length-take end xs, few) in
    let whole : n + m ≡ end = omega (arith, less) in
    let room : m ≤ length (take m (drop n xs)) = omega (arith, length-take m (drop n xs), length-drop n xs, less, inside) in
    let front : take m (copy_within xs n end 0) ≡ take m (drop n xs) =
    take-append-le m (take m (drop n xs)) (drop (0 + m) xs) room ∙ take-take m m (drop n xs) (le_refl m) in
    let P : ℕ → Type 0 = λ k. drop n (take k xs) ≡ take m (drop n xs) in
    let behind : drop n (take end xs) ≡ take m (drop n xs) = subst P whole (drop-take n m xs) in
    sym (take-append-drop n (take end xs)) ∙ ap (λ z. take n (take end xs) ++ z) (behind ∙ sym front)

-- the front of a word and then its end were put there, which cover it
pub with_ends : (xs first second ys : List ℕ) (a w m r n : ℕ) → r ≡ a + w → take r first ≡ take a xs ++ take w ys → take n second ≡ take (a + m) first ++ drop m ys
    → m ≤ w → w ≤ length ys → a ≤ length xs → take n second ≡ take a xs ++ ys
with_ends xs first second ys a w m r n end front back covers few inside =
    let before = take a xs in
    let room : length before ≡ a = omega (arith, length-take a xs, inside) in
    let short : m ≤ length (take w ys) = omega (arith, length-take w ys, covers, few) in
    let P : ℕ → Type 0 = λ k. take (k + m) (before ++ take w ys) ≡ before ++ take m (take w ys) in
    let less : take (a + m) first ≡ before ++ take m ys =
    sym (take-take (a + m) r first (omega (arith, end, covers))) ∙ ap (take (a + m)) front
    ∙ subst P room (take-append-add before (take w ys) m) ∙ ap (λ z. before ++ z) (take-take m w ys covers) in
    back ∙ ap (λ z. z ++ drop m ys) less ∙ append_assoc before (take m ys) (drop m ys) ∙ ap (λ z. before ++ z) (take-append-drop m ys)

-- a list of one
pub one_byte : (ys : List ℕ) → length ys ≡ 1 → slice_index ys 0 ∷ [] ≡ ys
one_byte [] one = absurd (omega (arith, one))
one_byte (y ∷ []) one = refl
one_byte (y ∷ z ∷ ys) one = absurd (omega (arith, one))
