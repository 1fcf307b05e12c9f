-- A map after a helper placed something in it: its part beside the elements, and its elements.
use Rattle.std.proofs.Common.{◌≡◌, ℕ, zero, suc, ◌≤◌, List, [], ◌∷◌, length, set, get_or, Result, Ok, Err, refl, sym, ap, ◌∙◌, length-set}
use Rattle.std.proofs.lemmas.List.{get_or_past, set_past}
use Rattle.scx_isa_semantics.specs.declared.map_kinds.MapKind.TheVariants as kind
use Rattle.scx_isa_semantics.specs.Directories.{Directory, Array, PerCpu, Hash, Queue, Stack, Placed, stays, kind_of, updated}
use Rattle.scx_isa_semantics.specs.Elements.{Contents, Maps, slots_in, directory, with_directory, elements, with_element}
use Rattle.scx_isa_semantics.specs.Serving.{Served, Answer, slot_count, code_of, stored_in, store_placed, update}

-- an array has no part of its own
array_alone : (d : Directory) → kind_of d ≡ kind.Array → d ≡ Array
array_alone Array e = refl
array_alone PerCpu e = absurd (cc)
array_alone (Hash z ks) e = absurd (cc)
array_alone (Queue l) e = absurd (cc)
array_alone (Stack l) e = absurd (cc)

part_there : (ds : List Directory) (m : ℕ) (d : Directory) → kind_of d ≡ kind_of (get_or ds m Array) → get_or (set ds m d) m Array ≡ d
part_there [] m d e = sym (array_alone d e)
part_there (x ∷ ds) zero d e = refl
part_there (x ∷ ds) (suc m) d e = part_there ds m d e

-- a part of the map's kind is the map's once it is placed
pub directory_placed : (maps : Maps) (m : ℕ) (d : Directory) → kind_of d ≡ kind_of (directory maps m) → directory (with_directory maps m d) m ≡ d
directory_placed maps m d e = part_there maps.directories m d e

-- a value in a slot leaves all parts
pub directory_stored : (maps : Maps) (m : ℕ) (r : Result ℕ ℕ) (bytes : List ℕ) → directory (stored_in maps m r bytes) m ≡ directory maps m
directory_stored maps m (Ok s) bytes = refl
directory_stored maps m (Err e) bytes = refl

slots_written : (contents : Contents) (m s : ℕ) (bytes : List ℕ) → slots_in (set contents m (set (slots_in contents m) s bytes)) m ≡ set (slots_in contents m) s bytes
slots_written [] m s bytes = refl
slots_written (x ∷ contents) zero s bytes = refl
slots_written (x ∷ contents) (suc m) s bytes = slots_written contents m s bytes

-- the elements of a map with a value in a slot
pub elements_written : (maps : Maps) (m s : ℕ) (bytes : List ℕ) → elements (with_element maps m s bytes) m ≡ set (elements maps m) s bytes
elements_written maps m s bytes = slots_written maps.contents m s bytes

-- the slots with a value in the one that was found
abbrev pub slots_stored : List (List ℕ) → Result ℕ ℕ → List ℕ → List (List ℕ)
slots_stored slots (Ok s) bytes = set slots s bytes
slots_stored slots (Err e) bytes = slots

-- the elements of a map with a value in the slot that was found
pub elements_stored : (maps : Maps) (m : ℕ) (r : Result ℕ ℕ) (bytes : List ℕ) → elements (stored_in maps m r bytes) m ≡ slots_stored (elements maps m) r bytes
elements_stored maps m (Ok s) bytes = elements_written maps m s bytes
elements_stored maps m (Err e) bytes = refl

-- as many as before
pub count_written : (maps : Maps) (m s : ℕ) (bytes : List ℕ) → slot_count (with_element maps m s bytes) m ≡ slot_count maps m
count_written maps m s bytes = ap (λ (es : List (List ℕ)). length es) (elements_written maps m s bytes) ∙ length-set (elements maps m) s bytes

-- as many as before
pub count_stored : (maps : Maps) (m : ℕ) (r : Result ℕ ℕ) (bytes : List ℕ) → slot_count (stored_in maps m r bytes) m ≡ slot_count maps m
count_stored maps m (Ok s) bytes = count_written maps m s bytes
count_stored maps m (Err e) bytes = refl

-- what is served where a value came into the slot that was found, and no part changed
abbrev pub served_in : Maps → ℕ → Result ℕ ℕ → List ℕ → Served
served_in maps m r bytes = record { maps = stored_in maps m r bytes; reply = Answer (code_of r) }

-- the elements with other parts
abbrev with_parts : Maps → List Directory → Maps
with_parts maps ds = record { contents = maps.contents; directories = ds }

-- a value comes into the slot of an array's key where arrays have no parts
pub array_stored : (maps : Maps) (m c k f : ℕ) (r : Result ℕ ℕ) (bytes : List ℕ) → length maps.directories ≤ m → stays Array r ≡ updated Array (slot_count maps m) c k f
    → served_in maps m r bytes ≡ update maps m c k bytes f
array_stored maps m c k f r bytes past e =
    let part : directory maps m ≡ Array = get_or_past maps.directories m Array past in
    let same : updated (directory maps m) (slot_count maps m) c k f ≡ stays Array r = ap (λ (d : Directory). updated d (slot_count maps m) c k f) part ∙ sym e in
    let whole : with_directory maps m Array ≡ maps = ap (λ (ds : List Directory). with_parts maps ds) (set_past maps.directories m Array past) in
    let kept : store_placed maps m (stays Array r) bytes ≡ served_in maps m r bytes = ap (λ (x : Maps). served_in x m r bytes) whole in
    sym (ap (λ (p : Placed). store_placed maps m p bytes) same ∙ kept)
