-- Values of one size, one after the other.
use Rattle.std.proofs.Common.{◌≡◌, ℕ, zero, suc, ◌+◌, ◌-◌, ◌*◌, ◌≤◌, ◌<◌, List, [], ◌∷◌, ◌++◌, length, take, drop, set, get_or, refl, ap, sym, ◌∙◌, arith, length-drop}
use Rattle.std.proofs.Math.Seq.{take-add}
use Rattle.std.proofs.lemmas.List.{take_at, drop_at, drop-drop}
use Rattle.std.specs.Prelude.{replicate, flat_map}
use Rattle.std.proofs.lemmas.List.{take-replicate, drop-replicate}
use Rattle.scx_maps.specs.Layout.{values_in}
use Rattle.scx_maps.proofs.Over.{over, take-over, drop-over}

-- there are as many values as are asked for
pub length-values_in : (n size : ℕ) (block : List ℕ) → length (values_in n size block) ≡ n
length-values_in zero size block = refl
length-values_in (suc n) size block = ap (λ k. suc k) (length-values_in n size (drop size block))

-- each stands behind those in front of it
pub get_or-values_in : (n size index : ℕ) (block : List ℕ) → index < n → get_or (values_in n size block) index [] ≡ take size (drop (index * size) block)
get_or-values_in zero size index block below = absurd (omega arith)
get_or-values_in (suc n) size zero block below =
    let none : 0 ≡ zero * size = omega arith in ap (λ k. take size (drop k block)) none
get_or-values_in (suc n) size (suc index) block below =
    let offset : size + index * size ≡ suc index * size = omega arith in
    get_or-values_in n size index (drop size block) (omega arith) ∙ ap (λ xs. take size xs) (drop-drop (index * size) size block) ∙ ap (λ k. take size (drop k block)) offset

-- bytes written past the values leave them
pub values_in-over_past : (n size a : ℕ) (w block : List ℕ) → n * size ≤ a → a ≤ length block → values_in n size (over a w block) ≡ values_in n size block
values_in-over_past zero size a w block past within = refl
values_in-over_past (suc n) size a w block past within =
    let rest : ℕ = a - size in
    let split : size + rest ≡ a = omega arith in
    let fits : size + rest ≤ length block = omega arith in
    let behind : rest ≤ length (drop size block) = rw (length-drop size block) (omega arith) in
    let head = take-over size (size + rest) w block (omega arith) fits in
    let tail = ap (λ xs. values_in n size xs) (drop-over size rest w block fits) ∙ values_in-over_past n size rest w (drop size block) (omega arith) behind in
    let both : values_in (suc n) size (over (size + rest) w block) ≡ values_in (suc n) size block = λ i. head i ∷ tail i in
    ap (λ k. values_in (suc n) size (over k w block)) (sym split) ∙ both

-- bytes written at a value's offset are that value
pub values_in-over : (n size index : ℕ) (w block : List ℕ) → index < n → length w ≡ size → index * size + size ≤ length block
    → values_in n size (over (index * size) w block) ≡ set (values_in n size block) index w
values_in-over zero size index w block below long within = absurd (omega arith)
values_in-over (suc n) size zero w block below long within =
    let none : zero * size ≡ 0 = omega arith in
    let head = take_at w (drop (length w) block) size long in
    let tail = drop_at w (drop (length w) block) size long ∙ ap (λ k. drop k block) long in
    let both : values_in (suc n) size (over 0 w block) ≡ set (values_in (suc n) size block) 0 w = λ i. head i ∷ values_in n size (tail i) in
    ap (λ k. values_in (suc n) size (over k w block)) none ∙ both
values_in-over (suc n) size (suc index) w block below long within =
    let split : suc index * size ≡ size + index * size = omega arith in
    let fits : size + index * size ≤ length block = omega arith in
    let behind : index * size + size ≤ length (drop size block) = rw (length-drop size block) (omega arith) in
    let head = take-over size (size + index * size) w block (omega arith) fits in
    let tail = ap (λ xs. values_in n size xs) (drop-over size (index * size) w block fits) ∙ values_in-over n size index w (drop size block) (omega arith) long behind in
    let both : values_in (suc n) size (over (size + index * size) w block) ≡ set (values_in (suc n) size block) (suc index) w = λ i. head i ∷ tail i in
    ap (λ k. values_in (suc n) size (over k w block)) split ∙ both

-- one after the other they are the front of the block
pub flat_map-values_in : (n size : ℕ) (block : List ℕ) → flat_map (λ (value : List ℕ). value) (values_in n size block) ≡ take (n * size) block
flat_map-values_in zero size block = let none : 0 ≡ zero * size = omega arith in ap (λ k. take k block) none
flat_map-values_in (suc n) size block =
    let split : size + n * size ≡ suc n * size = omega arith in
    ap (λ xs. take size block ++ xs) (flat_map-values_in n size (drop size block)) ∙ sym (take-add size (n * size) block) ∙ ap (λ k. take k block) split

-- in zeros they are zeros
pub values_in-replicate : (n size rest : ℕ) → n * size ≤ rest → values_in n size (replicate rest 0) ≡ replicate n (replicate size 0)
values_in-replicate zero size rest fits = refl
values_in-replicate (suc n) size rest fits =
    let more : size ≤ rest = omega arith in
    let fewer : n * size ≤ rest - size = omega arith in
    let head = take-replicate size rest 0 more in
    let tail = ap (λ xs. values_in n size xs) (drop-replicate size rest 0) ∙ values_in-replicate n size (rest - size) fewer in
    λ i. head i ∷ tail i
