-- What a caller can conclude: what shapes say of the maps that have them, what an element holds that was
-- lent and given back, and that shapes stay where an element gets as many bytes as it had.
use Rattle.std.specs.Prelude.{◌≡◌, ℕ, ◌<◌, List, [], length, replicate, slice_set, slice_index, slice_index_or, slice_get, Some, if◌then◌else◌}
use Rattle.std.proofs.Common.{ap, sym, ◌∙◌, subst}
use Rattle.std.proofs.lemmas.Bool.{eq-eqb}
use Rattle.std.proofs.lemmas.List.{map-set, set-get_or, get_or-map, get_or-replicate, length-map, length-replicate}
use Rattle.std.proofs.lemmas.Option.{get_or_from_slice_get, slice_get_within}
use Rattle.scx_maps.specs.declared.shape.Shape.{Shape}
use Rattle.scx_maps.specs.Slots.{slots}
use Rattle.scx_isa_semantics.specs.Elements.{Contents, slots_in, slot_in, with_slot}
use Rattle.scx_maps.specs.Contents.{lengths, lengths_in, HaveShapes}
use Rattle.scx_maps.specs.Lending.{given_back, with_bytes_from}

-- there is a map for each shape
pub length-shaped : (shapes : List Shape) (maps : Contents) → HaveShapes shapes maps → length maps ≡ length shapes
length-shaped shapes maps shaped =
    sym (length-map maps lengths) ∙ ap (λ (ks : List (List ℕ)). length ks) shaped.lengths ∙ length-map shapes (λ (s : Shape). replicate (slots s) s.value_size)

-- a map with a shape is there
pub is_there-shaped : (shapes : List Shape) (maps : Contents) (m : ℕ) (s : Shape) → HaveShapes shapes maps → slice_get shapes m ≡ Some s → m < length maps
is_there-shaped shapes maps m s shaped is =
    let Below : ℕ → Type 0 = λ n. m < n in subst Below (sym (length-shaped shapes maps shaped)) (slice_get_within shapes m s is)

-- it has as many bytes in each element as the shape says
pub lengths-shaped : (shapes : List Shape) (maps : Contents) (m : ℕ) (s : Shape) → HaveShapes shapes maps → slice_get shapes m ≡ Some s
    → lengths (slots_in maps m) ≡ replicate (slots s) s.value_size
lengths-shaped shapes maps m s shaped is =
    sym (get_or-map lengths maps m [] [] (is_there-shaped shapes maps m s shaped is))
    ∙ ap (λ ks. slice_index_or ks m []) shaped.lengths
    ∙ get_or-map (λ (t : Shape). replicate (slots t) t.value_size) shapes m s [] (slice_get_within shapes m s is)
    ∙ ap (λ (t : Shape). replicate (slots t) t.value_size) (get_or_from_slice_get shapes m s s is)

-- it has as many elements as the shape says
pub length-entries-shaped : (shapes : List Shape) (maps : Contents) (m : ℕ) (s : Shape) → HaveShapes shapes maps → slice_get shapes m ≡ Some s
    → length (slots_in maps m) ≡ (slots s)
length-entries-shaped shapes maps m s shaped is =
    sym (length-map (slots_in maps m) (λ (v : List ℕ). length v))
    ∙ ap (λ ks. length ks) (lengths-shaped shapes maps m s shaped is)
    ∙ length-replicate (slots s) s.value_size

-- each of them has the shape's value size
pub length-value-shaped : (shapes : List Shape) (maps : Contents) (m index : ℕ) (s : Shape) → HaveShapes shapes maps → slice_get shapes m ≡ Some s
    → index < (slots s) → length (slot_in maps m index) ≡ s.value_size
length-value-shaped shapes maps m index s shaped is within =
    let Within : ℕ → Type 0 = λ n. index < n in
    let there = subst Within (sym (length-entries-shaped shapes maps m s shaped is)) within in
    sym (get_or-map (λ (v : List ℕ). length v) (slots_in maps m) index [] 0 there)
    ∙ ap (λ ks. slice_index ks index) (lengths-shaped shapes maps m s shaped is)
    ∙ get_or-replicate (slots s) index s.value_size 0 within

-- lengths stay where an element gets as many bytes as it had
pub lengths_in-with_value : (maps : Contents) (m index : ℕ) (value : List ℕ) → m < length maps → index < length (slots_in maps m)
    → length value ≡ length (slot_in maps m index) → lengths_in (with_slot maps m index value) ≡ lengths_in maps
lengths_in-with_value maps m index value below within long = every ∙ same
  where
    entry : lengths (slice_set (slots_in maps m) index value) ≡ lengths (slots_in maps m)
    entry =
        map-set (λ (v : List ℕ). length v) (slots_in maps m) index value
        ∙ ap (λ k. slice_set (lengths (slots_in maps m)) index k) (long ∙ sym (get_or-map (λ (v : List ℕ). length v) (slots_in maps m) index [] 0 within))
        ∙ set-get_or (lengths (slots_in maps m)) index 0

    every : lengths_in (with_slot maps m index value) ≡ slice_set (lengths_in maps) m (lengths (slice_set (slots_in maps m) index value))
    every = map-set lengths maps m (slice_set (slots_in maps m) index value)

    same : slice_set (lengths_in maps) m (lengths (slice_set (slots_in maps m) index value)) ≡ lengths_in maps
    same = ap (λ ks. slice_set (lengths_in maps) m ks) (entry ∙ sym (get_or-map lengths maps m [] [] below)) ∙ set-get_or (lengths_in maps) m []

-- a lent element that comes back with as many bytes has them
pub given_back-same_length : (maps : Contents) (m index : ℕ) (bytes : List ℕ) → length bytes ≡ length (slot_in maps m index) → given_back maps m index bytes ≡ with_slot maps m index bytes
given_back-same_length maps m index bytes long =
    ap (λ b. if b then with_slot maps m index bytes else with_bytes_from maps m index bytes) (eq-eqb (length bytes) (length (slot_in maps m index)) long)
