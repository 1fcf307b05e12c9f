-- Shapes of which all are arrays.
use Rattle.std.proofs.Common.{◌≡◌, ℕ, zero, suc, ◌+◌, ◌<◌, true, false, ◌&&◌, List, [], ◌∷◌, length, drop, get_or, refl, sym, ap, ◌∙◌, arith}
use Rattle.scx_maps.specs.declared.shape.Shape.{Shape}
use Rattle.scx_maps.specs.Contents.{is_array, are_arrays}

-- those from one on are that one, and those behind it
arrays_from : (shapes : List Shape) (i : ℕ) (d : Shape) → i < length shapes → are_arrays (drop i shapes) ≡ (is_array (get_or shapes i d) && are_arrays (drop (i + 1) shapes))
arrays_from [] i d h = absurd (omega (arith, h))
arrays_from (s ∷ shapes) zero d h = refl
arrays_from (s ∷ shapes) (suc i) d h =
    let next : suc i + 1 ≡ suc (i + 1) = omega arith in
    arrays_from shapes i d (omega (arith, h)) ∙ ap (λ n. is_array (get_or shapes i d) && are_arrays (drop n (s ∷ shapes))) (sym next)

-- behind an array it depends on the others
pub behind_array : (shapes : List Shape) (i : ℕ) (d : Shape) → i < length shapes → is_array (get_or shapes i d) ≡ true → are_arrays (drop (i + 1) shapes) ≡ are_arrays (drop i shapes)
behind_array shapes i d h e = sym (arrays_from shapes i d h ∙ ap (λ b. b && are_arrays (drop (i + 1) shapes)) e)

-- where one is none, not all are
pub other_there : (shapes : List Shape) (i : ℕ) (d : Shape) → i < length shapes → is_array (get_or shapes i d) ≡ false → are_arrays (drop i shapes) ≡ false
other_there shapes i d h e = arrays_from shapes i d h ∙ ap (λ b. b && are_arrays (drop (i + 1) shapes)) e
