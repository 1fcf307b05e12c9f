-- What the maps hold after bytes were written over the block from an element's offset on.
use Rattle.std.proofs.Common.{◌≡◌, ℕ, ◌+◌, ◌≤◌, ◌<◌, Bool, true, false, List, ◌++◌, length, take, drop, map, refl, ap, sym, ◌∙◌, arith, length-append, length-drop, length-take-le}
use Rattle.std.specs.Prelude.{◌==◌, if◌then◌else◌}
use Rattle.std.proofs.lemmas.Bool.{eqb-true}
use Rattle.std.proofs.lemmas.List.{take-append-le, take_all}
use Rattle.scx_maps.specs.declared.shape.Shape.{Shape}
use Rattle.scx_maps.specs.Slots.{slots, laid}
use Rattle.scx_maps.specs.Limits.{total_bytes}
use Rattle.scx_isa_semantics.specs.Elements.{Contents, slots_in, slot_in, with_slot}
use Rattle.scx_maps.specs.Layout.{contents_in, shape_at, offset_of, IsBlockOf}
use Rattle.scx_maps.specs.Lending.{written_over, with_bytes_from, given_back}
use Rattle.scx_maps.proofs.Over.{over}
use Rattle.scx_maps.proofs.Blocks.{map_there, element_is_there, value_of-contents_in, contents_in-over, offset_of-fits, bytes_of-contents_in, shapes_in-contents_in, contents_in-laid, offset_of-laid}

-- an element has as many bytes as its shape says
pub length-value_of : (shapes : List Shape) (m index : ℕ) (block : List ℕ) → total_bytes shapes ≤ length block → m < length shapes → index < (slots (shape_at shapes m))
    → length (slot_in (contents_in shapes block) m index) ≡ (shape_at shapes m).value_size
length-value_of shapes m index block fits below within =
    let room = offset_of-fits shapes m index below within in
    let behind : (shape_at shapes m).value_size ≤ length (drop (offset_of shapes m index) block) = rw (length-drop (offset_of shapes m index) block) (omega (arith, room)) in
    ap (λ xs. length xs) (value_of-contents_in shapes m index block below within) ∙ length-take-le _ _ behind

-- the block keeps its length where the bytes fit into it
pub length-over : (a : ℕ) (w xs : List ℕ) → a + length w ≤ length xs → length (over a w xs) ≡ length xs
length-over a w xs fits =
    rw (length-append, length-append, length-take-le a xs (omega arith), length-drop, length-drop) (omega arith)

-- and is at least as long where they don't
pub over-long : (a : ℕ) (w xs : List ℕ) → a ≤ length xs → length xs ≤ length (over a w xs)
over-long a w xs fits =
    rw (length-append, length-append, length-take-le a xs fits, length-drop, length-drop) (omega arith)

-- what a `Vec` of this block holds after the write
abbrev pub kept : ℕ → List ℕ → List ℕ → List ℕ
kept offset w block = take (length block) (over offset w block ++ drop (length (over offset w block)) block)

-- bytes written at the offset of an element are given back to it
pub lent : (shapes : List Shape) (m index : ℕ) (w block : List ℕ) → IsBlockOf shapes block → m < length shapes → index < (slots (shape_at shapes m))
    → contents_in shapes (kept (offset_of shapes m index) w block) ≡ given_back (contents_in shapes block) m index w
lent shapes m index w block holds below within = go _ refl
  where
    same : contents_in shapes (take (length block) (over (offset_of shapes m index) w block))
        ≡ with_bytes_from (contents_in shapes block) m index w
    same =
        let all = bytes_of-contents_in shapes block ∙ take_all (total_bytes shapes) block (omega (arith, holds.full)) in
        let those = shapes_in-contents_in shapes block holds.limits.each (omega (arith, holds.full)) in
        sym (contents_in-laid shapes (written_over (offset_of shapes m index) w block))
        ∙ ap (λ n. contents_in (map laid shapes) (written_over n w block)) (sym (offset_of-laid shapes m index))
        ∙ (λ i. contents_in (sym those i) (written_over (offset_of (sym those i) m index) w (sym all i)))

    go : (b : Bool) → (length w == length (slot_in (contents_in shapes block) m index)) ≡ b
        → contents_in shapes (kept (offset_of shapes m index) w block)
        ≡ (if b then with_slot (contents_in shapes block) m index w else with_bytes_from (contents_in shapes block) m index w)
    go true e =
        let long : length w ≡ (shape_at shapes m).value_size = eqb-true _ _ e ∙ length-value_of shapes m index block (omega (arith, holds.full)) below within in
        let full : length (over (offset_of shapes m index) w block) ≡ length block =
        length-over (offset_of shapes m index) w block (omega (arith, holds.full, long, offset_of-fits shapes m index below within)) in
        let short : length block ≤ length (over (offset_of shapes m index) w block) = omega (arith, full) in
        let all : length (over (offset_of shapes m index) w block) ≤ length block = omega (arith, full) in
        ap (λ xs. contents_in shapes xs) (take-append-le (length block) (over (offset_of shapes m index) w block) _ short ∙ take_all (length block) (over (offset_of shapes m index) w block) all)
        ∙ contents_in-over shapes m index w block below within long (omega (arith, holds.full))
    go false e =
        ap (λ xs. contents_in shapes xs) (take-append-le (length block) (over (offset_of shapes m index) w block) _ (over-long (offset_of shapes m index) w block (omega (arith, holds.full, offset_of-fits shapes m index below within))))
        ∙ same

-- the same of maps that the block holds
pub lent_at : (shapes : List Shape) (block : List ℕ) (maps : Contents) (m index start len : ℕ) (w : List ℕ) → IsBlockOf shapes block → contents_in shapes block ≡ maps
    → m < length maps → index < length (slots_in maps m) → start ≡ offset_of shapes m index → len ≡ length block
    → contents_in shapes (take len (over start w block ++ drop (length (over start w block)) block)) ≡ given_back maps m index w
lent_at shapes block maps m index start len w holds is below within offset long =
    let there : contents_in shapes (take len (over start w block ++ drop (length (over start w block)) block)) ≡ contents_in shapes (kept (offset_of shapes m index) w block) =
    λ i. contents_in shapes (take (long i) (over (offset i) w block ++ drop (length (over (offset i) w block)) block)) in
    there ∙ lent shapes m index w block holds (map_there shapes block maps m is below) (element_is_there shapes block maps m index is below within) ∙ ap (λ ms. given_back ms m index w) is
