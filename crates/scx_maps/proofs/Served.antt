-- Maps keep their shapes, whatever a helper does on one of them.
use Rattle.std.proofs.Common.{◌≡◌, ℕ, zero, suc, ◌+◌, ◌-◌, ◌<◌, ◌≤◌, ◌⊎◌, inl, inr, Bool, true, false, nat_eq, nat_lt, List, [], ◌∷◌, length, map, set, get_or, Option, Some, None, Result, Ok, Err, if◌then◌else◌, refl, sym, ap, ◌∙◌, arith}
use Rattle.std.specs.Prelude.{slice_get}
use Rattle.std.proofs.lemmas.Bool.{cases_lt}
use Rattle.std.proofs.lemmas.List.{set-get_or, length-replicate}
use Rattle.std.proofs.lemmas.List.Elements.{All-replicate}
use Rattle.std.proofs.lemmas.Option.{slice_get_cases}
use Rattle.std.proofs.lemmas.Nat.{mod_below}
use Rattle.scx_isa_semantics.specs.declared.map_kinds.MapKind.{MapKind}
use Rattle.scx_isa_semantics.specs.declared.map_kinds.Line.{Line}
use Rattle.scx_isa_semantics.specs.declared.map_kinds.KeySize.{KeySize}
use Rattle.scx_isa_semantics.specs.Directories.{Keys, Directory, Array, PerCpu, Hash, Queue, Stack, Placed, kind_of, key_added, key_updated, key_deleted, slot_of, free_slot, line_slot, line_pushed, next_of, oldest, newest, updated_in, updated, deleted, pushed_on, pushed, peeked, shortened, not_there, invalid, stays}
use Rattle.scx_isa_semantics.specs.Elements.{Contents, Maps, AreBytes, slots_in, with_slot, directory, with_directory, elements, element, with_element}
use Rattle.scx_isa_semantics.specs.Serving.{slot_count, value_size, stored_in, bytes_from, store_placed, update, delete, push, pop, peek}
use Rattle.scx_isa_semantics.proofs.Bytes.{with_element_bytes}
use Rattle.scx_maps.specs.declared.shape.Shape.{Shape}
use Rattle.scx_maps.specs.Contents.{lengths_of, HasShapes}
use Rattle.scx_maps.proofs.Shaped.{length-shaped, length-entries-shaped, length-value-shaped, lengths_of-with_value}

-- ---- kinds

added_kind : (s : KeySize) (ks : Keys) (k : ℕ) (o : Option ℕ) → kind_of (key_added (Hash s) ks k o).directory ≡ kind_of (Hash s ks)
added_kind s ks k None = refl
added_kind s ks k (Some r) = refl

key_updated_kind : (s : KeySize) (ks : Keys) (k f : ℕ) (o : Option ℕ) → kind_of (key_updated (Hash s) ks k f o).directory ≡ kind_of (Hash s ks)
key_updated_kind s ks k f (Some r) = refl
key_updated_kind s ks k f None = go (nat_eq f 2)
  where
    go : (b : Bool) → kind_of (if b then stays (Hash s ks) (Err not_there) else key_added (Hash s) ks k (free_slot ks)).directory ≡ kind_of (Hash s ks)
    go true = refl
    go false = added_kind s ks k (free_slot ks)

updated_in_kind : (d : Directory) (n c k f : ℕ) → kind_of (updated_in d n c k f).directory ≡ kind_of d
updated_in_kind (Hash s ks) n c k f = key_updated_kind s ks k f (slot_of ks.held k)
updated_in_kind Array n c k f = refl
updated_in_kind PerCpu n c k f = refl
updated_in_kind (Queue l) n c k f = refl
updated_in_kind (Stack l) n c k f = refl

either_kind : (d : Directory) (b : Bool) (r : Result ℕ ℕ) (p : Placed) → kind_of p.directory ≡ kind_of d → kind_of (if b then stays d r else p).directory ≡ kind_of d
either_kind d true r p e = refl
either_kind d false r p e = e

-- a map keeps its kind in an update
pub updated_kind : (d : Directory) (n c k f : ℕ) → kind_of (updated d n c k f).directory ≡ kind_of d
updated_kind d n c k f = either_kind d (nat_lt 2 f) (Err invalid) (updated_in d n c k f) (updated_in_kind d n c k f)

key_deleted_kind : (s : KeySize) (ks : Keys) (o : Option ℕ) → kind_of (key_deleted (Hash s) ks o).directory ≡ kind_of (Hash s ks)
key_deleted_kind s ks None = refl
key_deleted_kind s ks (Some r) = refl

-- in a deletion
pub deleted_kind : (d : Directory) (k : ℕ) → kind_of (deleted d k).directory ≡ kind_of d
deleted_kind (Hash s ks) k = key_deleted_kind s ks (slot_of ks.held k)
deleted_kind Array k = refl
deleted_kind PerCpu k = refl
deleted_kind (Queue l) k = refl
deleted_kind (Stack l) k = refl

either_placed : (b : Bool) (p r : Placed) (k : MapKind) → kind_of p.directory ≡ k → kind_of r.directory ≡ k → kind_of (if b then p else r).directory ≡ k
either_placed true p r k e f = e
either_placed false p r k e f = f

queue_kind : (n : ℕ) (l : Line) (f : ℕ) → kind_of (line_pushed Queue n l f).directory ≡ kind_of (Queue l)
queue_kind n l f = either_placed (nat_lt l.count n) _ _ _ refl (either_placed (nat_eq f 2) _ _ _ refl refl)

stack_kind : (n : ℕ) (l : Line) (f : ℕ) → kind_of (line_pushed Stack n l f).directory ≡ kind_of (Stack l)
stack_kind n l f = either_placed (nat_lt l.count n) _ _ _ refl (either_placed (nat_eq f 2) _ _ _ refl refl)

pushed_on_kind : (d : Directory) (n f : ℕ) → kind_of (pushed_on d n f).directory ≡ kind_of d
pushed_on_kind (Queue l) n f = queue_kind n l f
pushed_on_kind (Stack l) n f = stack_kind n l f
pushed_on_kind Array n f = refl
pushed_on_kind PerCpu n f = refl
pushed_on_kind (Hash s ks) n f = refl

-- in a push
pub pushed_kind : (d : Directory) (n f : ℕ) → kind_of (pushed d n f).directory ≡ kind_of d
pushed_kind d n f =
    either_kind d (nat_eq f 1) (Err invalid) (if nat_lt 2 f then stays d (Err invalid) else pushed_on d n f)
    (either_kind d (nat_lt 2 f) (Err invalid) (pushed_on d n f) (pushed_on_kind d n f))

-- in a pop
pub shortened_kind : (d : Directory) (n : ℕ) → kind_of (shortened d n) ≡ kind_of d
shortened_kind (Queue l) n = refl
shortened_kind (Stack l) n = refl
shortened_kind Array n = refl
shortened_kind PerCpu n = refl
shortened_kind (Hash s ks) n = refl

-- ---- shapes

kinds_stay : (ds : List Directory) (m : ℕ) (d : Directory) → kind_of d ≡ kind_of (get_or ds m Array) → map kind_of (set ds m d) ≡ map kind_of ds
kinds_stay [] m d e = refl
kinds_stay (x ∷ ds) zero d e = λ i. e i ∷ map kind_of ds
kinds_stay (x ∷ ds) (suc m) d e = ap (λ ks. kind_of x ∷ ks) (kinds_stay ds m d e)

-- maps keep their shapes where a part becomes another one of its kind
pub with_directory_shaped : (shapes : List Shape) (maps : Maps) (m : ℕ) (d : Directory) → HasShapes shapes maps → kind_of d ≡ kind_of (directory maps m) → HasShapes shapes (with_directory maps m d)
with_directory_shaped shapes maps m d shaped e =
    record { lengths = shaped.lengths; bytes = shaped.bytes; kinds = kinds_stay maps.directories m d e ∙ shaped.kinds }

set-past : {A : Type 0} (xs : List A) (i : ℕ) (x : A) → length xs ≤ i → set xs i x ≡ xs
set-past [] i x h = refl
set-past (y ∷ xs) zero x h = absurd (omega arith)
set-past (y ∷ xs) (suc i) x h = ap (λ l. y ∷ l) (set-past xs i x (omega arith))

slots_there : (maps : Contents) (m i : ℕ) → i < length (slots_in maps m) → m < length maps
slots_there [] m i h = absurd (omega (arith, h))
slots_there (x ∷ maps) zero i h = omega arith
slots_there (x ∷ maps) (suc m) i h = let rest = slots_there maps m i h in omega arith

-- each element of a map has the bytes of its values
pub element_sized : (shapes : List Shape) (maps : Maps) (m i : ℕ) → HasShapes shapes maps → i < slot_count maps m → length (element maps m i) ≡ value_size maps m
element_sized shapes maps m i shaped h = go (slice_get_cases shapes m).1
  where
    go : ((s : Shape) × (m < length shapes) × (slice_get shapes m ≡ Some s) × (get_or shapes m s ≡ s)) ⊎ ((length shapes ≤ m) × (slice_get shapes m ≡ None)) → length (element maps m i) ≡ value_size maps m
    go (inl s) =
        let count = length-entries-shaped shapes maps m s.0 shaped s.2 in
        length-value-shaped shapes maps m i s.0 shaped s.2 (omega (arith, h, count)) ∙ sym (length-value-shaped shapes maps m 0 s.0 shaped s.2 (omega (arith, h, count)))
    go (inr past) =
        let there = slots_there maps.contents m i h in
        let long = length-shaped shapes maps shaped in
        absurd (omega (arith, past.0, there, long))

-- maps keep their shapes where an element gets as many bytes as values have
pub with_element_shaped : (shapes : List Shape) (maps : Maps) (m i : ℕ) (bytes : List ℕ) → HasShapes shapes maps → length bytes ≡ value_size maps m → AreBytes bytes → HasShapes shapes (with_element maps m i bytes)
with_element_shaped shapes maps m i bytes shaped long are = record {
  lengths = go (cases_lt i (slot_count maps m)) ∙ shaped.lengths;
  bytes = with_element_bytes maps m i bytes shaped.bytes are;
  kinds = shaped.kinds;
}
  where
    go : (i < slot_count maps m) ⊎ (slot_count maps m ≤ i) → lengths_of (with_element maps m i bytes) ≡ lengths_of maps
    go (inl h) = lengths_of-with_value maps m i bytes (slots_there maps.contents m i h) h (long ∙ sym (element_sized shapes maps m i shaped h))
    go (inr h) =
        let same : with_slot maps.contents m i bytes ≡ maps.contents = ap (λ es. set maps.contents m es) (set-past (elements maps m) i bytes h) ∙ set-get_or maps.contents m [] in
        ap (λ (cs : Contents). lengths_of (record { contents = cs; directories = maps.directories })) same

stored_shaped : (shapes : List Shape) (maps : Maps) (m : ℕ) (r : Result ℕ ℕ) (bytes : List ℕ) → HasShapes shapes maps → length bytes ≡ value_size maps m → AreBytes bytes → HasShapes shapes (stored_in maps m r bytes)
stored_shaped shapes maps m (Ok s) bytes shaped long are = with_element_shaped shapes maps m s bytes shaped long are
stored_shaped shapes maps m (Err e) bytes shaped long are = shaped

placed_shaped : (shapes : List Shape) (maps : Maps) (m : ℕ) (p : Placed) (bytes : List ℕ) → HasShapes shapes maps → length bytes ≡ value_size maps m → AreBytes bytes → kind_of p.directory ≡ kind_of (directory maps m)
    → HasShapes shapes (store_placed maps m p bytes).maps
placed_shaped shapes maps m p bytes shaped long are e =
    stored_shaped shapes (with_directory maps m p.directory) m p.slot bytes (with_directory_shaped shapes maps m p.directory shaped e) long are

-- of an update
pub update_shaped : (shapes : List Shape) (maps : Maps) (m c k : ℕ) (bytes : List ℕ) (f : ℕ) → HasShapes shapes maps → length bytes ≡ value_size maps m → AreBytes bytes → HasShapes shapes (update maps m c k bytes f).maps
update_shaped shapes maps m c k bytes f shaped long are =
    placed_shaped shapes maps m (updated (directory maps m) (slot_count maps m) c k f) bytes shaped long are (updated_kind (directory maps m) (slot_count maps m) c k f)

-- of a deletion
pub delete_shaped : (shapes : List Shape) (maps : Maps) (m k : ℕ) → HasShapes shapes maps → HasShapes shapes (delete maps m k).maps
delete_shaped shapes maps m k shaped = with_directory_shaped shapes maps m (deleted (directory maps m) k).directory shaped (deleted_kind (directory maps m) k)

-- of a push
pub push_shaped : (shapes : List Shape) (maps : Maps) (m : ℕ) (bytes : List ℕ) (f : ℕ) → HasShapes shapes maps → length bytes ≡ value_size maps m → AreBytes bytes → HasShapes shapes (push maps m bytes f).maps
push_shaped shapes maps m bytes f shaped long are =
    placed_shaped shapes maps m (pushed (directory maps m) (slot_count maps m) f) bytes shaped long are (pushed_kind (directory maps m) (slot_count maps m) f)

-- of a pop
pub pop_shaped : (shapes : List Shape) (maps : Maps) (m : ℕ) → HasShapes shapes maps → HasShapes shapes (pop maps m).maps
pop_shaped shapes maps m shaped =
    with_directory_shaped shapes maps m (shortened (directory maps m) (slot_count maps m)) shaped (shortened_kind (directory maps m) (slot_count maps m))

-- of a peek
pub peek_shaped : (shapes : List Shape) (maps : Maps) (m : ℕ) → HasShapes shapes maps → HasShapes shapes (peek maps m).maps
peek_shaped shapes maps m shaped = with_directory_shaped shapes maps m (directory maps m) shaped refl

-- ---- bytes that are given

-- a slot of a line is one of its map
line_slot_within : (n : ℕ) (l : Line) (j : ℕ) → 0 < n → line_slot n l j < n
line_slot_within n l j some = mod_below (l.first + j) n some

abbrev IsWithin : ℕ → Result ℕ ℕ → Type 0
IsWithin n (Ok s) = s < n
IsWithin n (Err e) = Unit {0}

next_within : (n : ℕ) (l : Line) (s : ℕ) → s < n → IsWithin n (next_of n l s)
next_within n l s h = elim (nat_eq l.count 0) as (λ b. IsWithin n (if b then Err not_there else Ok s)) [ true ↦ tt | false ↦ h ]

peeked_within : (d : Directory) (n : ℕ) → 0 < n → IsWithin n (peeked d n)
peeked_within (Queue l) n some = next_within n l (oldest n l) (line_slot_within n l 0 some)
peeked_within (Stack l) n some = next_within n l (newest n l) (line_slot_within n l (l.count - 1) some)
peeked_within Array n some = tt
peeked_within PerCpu n some = tt
peeked_within (Hash s ks) n some = tt

-- bytes that are given are as many as a value has
pub given_long : (shapes : List Shape) (maps : Maps) (m : ℕ) → HasShapes shapes maps → 0 < slot_count maps m → length (bytes_from maps m (peeked (directory maps m) (slot_count maps m))) ≡ value_size maps m
given_long shapes maps m shaped some = go (peeked (directory maps m) (slot_count maps m)) (peeked_within (directory maps m) (slot_count maps m) some)
  where
    go : (r : Result ℕ ℕ) → IsWithin (slot_count maps m) r → length (bytes_from maps m r) ≡ value_size maps m
    go (Ok s) h = element_sized shapes maps m s shaped h
    go (Err e) h = length-replicate (value_size maps m) 0

-- and bytes
pub given_bytes : (shapes : List Shape) (maps : Maps) (m : ℕ) → HasShapes shapes maps → AreBytes (bytes_from maps m (peeked (directory maps m) (slot_count maps m)))
given_bytes shapes maps m shaped = go (peeked (directory maps m) (slot_count maps m))
  where
    go : (r : Result ℕ ℕ) → AreBytes (bytes_from maps m r)
    go (Ok s) = shaped.bytes m s
    go (Err e) = All-replicate (λ b. b < 256) (value_size maps m) 0 (omega arith)
