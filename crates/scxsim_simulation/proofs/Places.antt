-- The places of values in a map.
use Rattle.std.proofs.Common.{◌≡◌, ℕ, zero, suc, ◌+◌, ◌*◌, ◌/◌, ◌%◌, ◌<◌, ◌≤◌, ◌≢◌, ◌⊎◌, inl, inr, List, [], ◌∷◌, ◌++◌, length, map, get_or, Option, Some, None, refl, ap, sym, ◌∙◌, arith}
use Rattle.std.proofs.Math.Nat.{mul-le-mul}
use Rattle.std.proofs.lemmas.Bool.{cases_lt}
use Rattle.std.proofs.lemmas.List.{length-map, get_or_append_left, get_or-append-add, get_or-map, get_or_past}
use Rattle.scx_isa_semantics.specs.declared.map_kinds.KeySize.{KeySize}
use Rattle.scx_isa_semantics.specs.declared.map_kinds.Line.{Line}
use Rattle.scx_isa_semantics.specs.declared.map_kinds.MapKind.{MapKind}
use Rattle.scx_isa_semantics.specs.declared.map_kinds.MapKind.TheVariants as kind
use Rattle.scx_isa_semantics.specs.Directories.{Directory, Array, PerCpu, Hash, Queue, Stack, kind_of, line_slot}
use Rattle.scx_isa_semantics.specs.Elements.{Maps, count, directory, elements}
use Rattle.scx_isa_semantics.specs.Serving.{value_size}
use Rattle.scx_maps.specs.declared.shape.Shape.{Shape}
use Rattle.scx_maps.specs.Unused.{unused_shape}
use Rattle.scx_maps.specs.Laws.{oldest_of, listed_in, listed}
use Rattle.scx_maps.specs.Layout.{offset_of, shape_at}
use Rattle.scx_maps.specs.Lending.{shape_of, shapes_of}
use Rattle.scx_maps.specs.Words.{held_word, key_word, freed_words, key_words, part_words}
use Rattle.scx_maps.proofs.Rings.{length-oldest_of}
use Rattle.scx_maps.proofs.PartWords.{length-key_words}
use Rattle.scxsim_simulation.specs.MapLines.{held_in}

-- a map has no more elements than all maps have bytes
pub few : (maps : Maps) (m i : ℕ) → m < count maps → 0 < value_size maps m → offset_of (shapes_of maps) m i ≤ 16777216 → i ≤ 16777216
few maps m i there some small =
    let same : (shape_at (shapes_of maps) m).value_size ≡ value_size maps m = ap (λ (s : Shape). s.value_size) (get_or-map shape_of maps.contents m [] unused_shape there) in
    let one : 1 ≤ (shape_at (shapes_of maps) m).value_size = omega (arith, some, same) in
    let itself : i ≤ i = omega arith in
    let more = mul-le-mul itself one in
    omega (arith, more, small)

-- ---- hashes

-- a map with a key has a part beside its elements
pub has_part_held : (maps : Maps) (m s : ℕ) → s < length (held_in (directory maps m)) → m < length maps.directories
has_part_held maps m s held = go (cases_lt m (length maps.directories))
  where
    go : (m < length maps.directories) ⊎ (length maps.directories ≤ m) → m < length maps.directories
    go (inl lt) = lt
    go (inr past) =
        let none : length (held_in (directory maps m)) ≡ 0 = ap (λ d. length (held_in d)) (get_or_past maps.directories m Array past) in
        absurd (omega (arith, held, none))

-- it has words for each slot
pub hash_slots : (d : Directory) (s : ℕ) → s < length (held_in d) → length (part_words d) ≡ 1 + 3 * length (held_in d)
hash_slots (Hash z ks) s held = length-key_words ks
hash_slots Array s held = absurd (omega (arith, held))
hash_slots PerCpu s held = absurd (omega (arith, held))
hash_slots (Queue l) s held = absurd (omega (arith, held))
hash_slots (Stack l) s held = absurd (omega (arith, held))

-- as many as a third of them
pub slots_of_kind : (d : Directory) (z : KeySize) → kind_of d ≡ kind.Hash z → length (part_words d) / 3 ≡ length (held_in d)
slots_of_kind (Hash y ks) z is = omega (arith, length-key_words ks)
slots_of_kind Array z is = absurd (cc)
slots_of_kind PerCpu z is = absurd (cc)
slots_of_kind (Queue l) z is = absurd (cc)
slots_of_kind (Stack l) z is = absurd (cc)

-- other maps have none
pub no_slots : (d : Directory) → ((z : KeySize) → kind_of d ≢ kind.Hash z) → length (held_in d) ≡ 0
no_slots (Hash y ks) not = absurd (not y refl)
no_slots Array not = refl
no_slots PerCpu not = refl
no_slots (Queue l) not = refl
no_slots (Stack l) not = refl

-- the word that says whether a slot holds a key
pub held_there : (d : Directory) (s : ℕ) → s < length (held_in d) → get_or (part_words d) (1 + s) 0 ≡ held_word (get_or (held_in d) s None)
held_there (Hash z ks) s held =
    let place : 1 + s ≡ suc s = omega arith in
    ap (λ i. get_or (key_words ks) i 0) place
    ∙ get_or_append_left (map held_word ks.held) (map key_word ks.held ++ freed_words ks.freed (length ks.held)) 0 s (omega (arith, held, length-map ks.held held_word))
    ∙ get_or-map held_word ks.held s None 0 held
held_there Array s held = absurd (omega (arith, held))
held_there PerCpu s held = absurd (omega (arith, held))
held_there (Queue l) s held = absurd (omega (arith, held))
held_there (Stack l) s held = absurd (omega (arith, held))

-- the word of the key that it holds
pub key_there : (d : Directory) (s : ℕ) → s < length (held_in d) → get_or (part_words d) (1 + length (held_in d) + s) 0 ≡ key_word (get_or (held_in d) s None)
key_there (Hash z ks) s held =
    let place : 1 + length ks.held + s ≡ suc (length (map held_word ks.held) + s) = omega (arith, length-map ks.held held_word) in
    ap (λ i. get_or (key_words ks) i 0) place
    ∙ get_or-append-add (map held_word ks.held) (map key_word ks.held ++ freed_words ks.freed (length ks.held)) s 0
    ∙ get_or_append_left (map key_word ks.held) (freed_words ks.freed (length ks.held)) 0 s (omega (arith, held, length-map ks.held key_word))
    ∙ get_or-map key_word ks.held s None 0 held
key_there Array s held = absurd (omega (arith, held))
key_there PerCpu s held = absurd (omega (arith, held))
key_there (Queue l) s held = absurd (omega (arith, held))
key_there (Stack l) s held = absurd (omega (arith, held))

-- a slot of whose word is 0 holds none
pub holds_none : (o : Option ℕ) → held_word o ≡ 0 → o ≡ None
holds_none None is = refl
holds_none (Some k) is = absurd (omega (arith, is))

-- another one holds that key
pub holds_key : (o : Option ℕ) → held_word o ≢ 0 → o ≡ Some (key_word o)
holds_key None not = absurd (not refl)
holds_key (Some k) not = refl

-- ---- queues and stacks

-- a map with a value in a line has a part beside its elements
pub has_part_listed : (maps : Maps) (m j : ℕ) → j < length (listed maps m) → m < length maps.directories
has_part_listed maps m j within = go (cases_lt m (length maps.directories))
  where
    go : (m < length maps.directories) ⊎ (length maps.directories ≤ m) → m < length maps.directories
    go (inl lt) = lt
    go (inr past) =
        let none : length (listed maps m) ≡ 0 = ap (λ d. length (listed_in (elements maps m) d)) (get_or_past maps.directories m Array past) in
        absurd (omega (arith, within, none))

-- a queue or a stack has two words
pub line_words_there : (slots : List (List ℕ)) (d : Directory) (j : ℕ) → j < length (listed_in slots d) → length (part_words d) ≡ 2
line_words_there slots (Queue l) j within = refl
line_words_there slots (Stack l) j within = refl
line_words_there slots Array j within = absurd (omega (arith, within))
line_words_there slots PerCpu j within = absurd (omega (arith, within))
line_words_there slots (Hash z ks) j within = absurd (omega (arith, within))

-- the second of the words of a queue says how many values it has
pub queue_count : (slots : List (List ℕ)) (d : Directory) → kind_of d ≡ kind.Queue → (length (part_words d) ≡ 2) × (get_or (part_words d) 1 0 ≡ length (listed_in slots d))
queue_count slots (Queue l) is = (refl, sym (length-oldest_of slots l l.count))
queue_count slots (Stack l) is = absurd (cc)
queue_count slots Array is = absurd (cc)
queue_count slots PerCpu is = absurd (cc)
queue_count slots (Hash z ks) is = absurd (cc)

-- so does that of a stack
pub stack_count : (slots : List (List ℕ)) (d : Directory) → kind_of d ≡ kind.Stack → (length (part_words d) ≡ 2) × (get_or (part_words d) 1 0 ≡ length (listed_in slots d))
stack_count slots (Stack l) is = (refl, sym (length-oldest_of slots l l.count))
stack_count slots (Queue l) is = absurd (cc)
stack_count slots Array is = absurd (cc)
stack_count slots PerCpu is = absurd (cc)
stack_count slots (Hash z ks) is = absurd (cc)

-- so the second word of a map with a line says how many values it has
pub line_count : (slots : List (List ℕ)) (d : Directory) (k : MapKind) → k ≡ kind_of d → (k ≡ kind.Queue) ⊎ (k ≡ kind.Stack) → get_or (part_words d) 1 0 ≡ length (listed_in slots d)
line_count slots d k is (inl queue) = (queue_count slots d (sym is ∙ queue)).1
line_count slots d k is (inr stack) = (stack_count slots d (sym is ∙ stack)).1

-- other maps have no values in an order
pub none_listed : (slots : List (List ℕ)) (d : Directory) → kind_of d ≢ kind.Queue → kind_of d ≢ kind.Stack → length (listed_in slots d) ≡ 0
none_listed slots (Queue l) queue stack = absurd (queue refl)
none_listed slots (Stack l) queue stack = absurd (stack refl)
none_listed slots Array queue stack = refl
none_listed slots PerCpu queue stack = refl
none_listed slots (Hash z ks) queue stack = refl

-- the value at a place of a line is in the slot that the line says
place_in_line : (slots : List (List ℕ)) (l : Line) (n j : ℕ) → j < n → get_or (oldest_of slots l n) j [] ≡ get_or slots (line_slot (length slots) l j) []
place_in_line slots l zero j h = absurd (omega arith)
place_in_line slots l (suc n) j h = go (λ lt. place_in_line slots l n j lt) (cases_lt j n)
  where
    front : List (List ℕ)
    front = oldest_of slots l n

    last : List ℕ
    last = get_or slots (line_slot (length slots) l n) []

    go : (j < n → get_or (oldest_of slots l n) j [] ≡ get_or slots (line_slot (length slots) l j) []) → (j < n) ⊎ (n ≤ j) → get_or (front ++ last ∷ []) j [] ≡ get_or slots (line_slot (length slots) l j) []
    go earlier (inl lt) = get_or_append_left front (last ∷ []) [] j (omega (arith, lt, length-oldest_of slots l n)) ∙ earlier lt
    go earlier (inr ge) =
        let place : j ≡ length front + 0 = omega (arith, ge, h, length-oldest_of slots l n) in
        let same : n ≡ j = omega (arith, ge, h) in
        ap (λ i. get_or (front ++ last ∷ []) i []) place ∙ get_or-append-add front (last ∷ []) 0 [] ∙ ap (λ i. get_or slots (line_slot (length slots) l i) []) same

-- so it is with the values of a queue or a stack
pub listed_at : (slots : List (List ℕ)) (d : Directory) (j : ℕ) → j < length (listed_in slots d) → get_or (listed_in slots d) j [] ≡ get_or slots ((get_or (part_words d) 0 0 + j) % length slots) []
listed_at slots (Queue l) j within = place_in_line slots l l.count j (omega (arith, within, length-oldest_of slots l l.count))
listed_at slots (Stack l) j within = place_in_line slots l l.count j (omega (arith, within, length-oldest_of slots l l.count))
listed_at slots Array j within = absurd (omega (arith, within))
listed_at slots PerCpu j within = absurd (omega (arith, within))
listed_at slots (Hash z ks) j within = absurd (omega (arith, within))
