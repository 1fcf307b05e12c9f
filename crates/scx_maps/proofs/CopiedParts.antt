-- Parts of maps beside their elements that become those of maps with the same shapes, one by one.
use Rattle.std.proofs.Common.{◌≡◌, ℕ, zero, suc, ◌+◌, ◌<◌, List, [], ◌∷◌, ◌++◌, length, take, drop, map, set, get_or, refl, sym, ap, ◌∙◌, subst}
use Rattle.std.proofs.lemmas.List.{map-set, set-get_or, get_or-map, length-map, take_more, take_more_set}
use Rattle.scx_isa_semantics.specs.declared.map_kinds.MapKind.{MapKind}
use Rattle.scx_isa_semantics.specs.declared.map_kinds.MapKind.TheVariants as kind
use Rattle.scx_isa_semantics.specs.Directories.{Directory, Array, PerCpu, Hash, Queue, Stack, kind_of}
use Rattle.scx_isa_semantics.specs.Elements.{Contents, slots_in}
use Rattle.scx_maps.specs.Contents.{lengths_in}
use Rattle.scx_maps.specs.Keeping.{slots_held, HasSlots, HaveSlots, HaveSameCounts}

-- ---- one part

-- two lists that are alike in one thing are alike in it at each place
pub alike_at : {X : Type 0} (f : Directory → X) (ds es : List Directory) (i : ℕ) (d e : Directory) → map f ds ≡ map f es → i < length ds → i < length es → e ≡ get_or es i e → f (get_or ds i d) ≡ f e
alike_at {X} f ds es i d e same h k there =
    sym (get_or-map f ds i d (f d) h) ∙ ap (λ (xs : List X). get_or xs i (f d)) same ∙ get_or-map f es i e (f d) k ∙ sym (ap f there)

-- they stay so where one gets what the other has
pub alike_on : {X : Type 0} (f : Directory → X) (ds es : List Directory) (i : ℕ) (e : Directory) → i < length es → e ≡ get_or es i e → map f ds ≡ map f es → map f (set ds i e) ≡ map f es
alike_on {X} f ds es i e h is same =
    map-set f ds i e ∙ ap (λ (xs : List X). set xs i (f e)) same
    ∙ ap (λ (x : X). set (map f es) i x) (ap f is ∙ sym (get_or-map f es i e (f e) h)) ∙ set-get_or (map f es) i (f e)

-- as many of each
pub alike_length : {X : Type 0} (f : Directory → X) (ds es : List Directory) → map f ds ≡ map f es → length ds ≡ length es
alike_length {X} f ds es same = sym (length-map ds f) ∙ ap (λ (xs : List X). length xs) same ∙ length-map es f

-- one more is the same
pub front_copied : (ds es : List Directory) (i : ℕ) (e : Directory) → i < length ds → i < length es → e ≡ get_or es i e → take i ds ≡ take i es → take (i + 1) (set ds i e) ≡ take (i + 1) es
front_copied ds es i e h k is front =
    let both : take i ds ++ e ∷ [] ≡ take i es ++ get_or es i e ∷ [] = λ j. front j ++ is j ∷ [] in
    take_more_set ds i e h ∙ both ∙ sym (take_more es i e k)

-- ---- slots for keys

-- the slots for keys of a map of that kind with n elements
abbrev slots_by_kind : MapKind → ℕ → ℕ
slots_by_kind (kind.Hash z) n = n
slots_by_kind k n = 0

held_slots : (d : Directory) (n : ℕ) → HasSlots d n → slots_held d ≡ slots_by_kind (kind_of d) n
held_slots (Hash z ks) n h = h
held_slots Array n h = refl
held_slots PerCpu n h = refl
held_slots (Queue l) n h = refl
held_slots (Stack l) n h = refl

alike_slots : (ds es : List Directory) (n k : ℕ → ℕ) → map kind_of ds ≡ map kind_of es → ((m : ℕ) → HasSlots (get_or ds m Array) (n m)) → ((m : ℕ) → HasSlots (get_or es m Array) (k m)) → ((m : ℕ) → n m ≡ k m)
    → map slots_held ds ≡ map slots_held es
alike_slots [] [] n k kinds own others same = refl
alike_slots [] (e ∷ es) n k kinds own others same = absurd (cc)
alike_slots (d ∷ ds) [] n k kinds own others same = absurd (cc)
alike_slots (d ∷ ds) (e ∷ es) n k kinds own others same =
    let kind_there : kind_of d ≡ kind_of e = ap (λ (ks : List MapKind). get_or ks 0 kind.Array) kinds in
    let count = same 0 in
    let both : slots_by_kind (kind_of d) (n 0) ≡ slots_by_kind (kind_of e) (k 0) = λ i. slots_by_kind (kind_there i) (count i) in
    let head : slots_held d ≡ slots_held e = held_slots d (n 0) (own 0) ∙ both ∙ sym (held_slots e (k 0) (others 0)) in
    let tail = alike_slots ds es (λ m. n (suc m)) (λ m. k (suc m)) (ap (λ (ks : List MapKind). drop 1 ks) kinds) (λ m. own (suc m)) (λ m. others (suc m)) (λ m. same (suc m)) in
    λ i. head i ∷ tail i

count_by_lengths : (contents : Contents) (m : ℕ) → length (slots_in contents m) ≡ length (get_or (lengths_in contents) m [])
count_by_lengths [] m = refl
count_by_lengths (x ∷ contents) zero = sym (length-map x (λ (v : List ℕ). length v))
count_by_lengths (x ∷ contents) (suc m) = count_by_lengths contents m

-- maps of the same shapes have as many elements
pub same_counts_by_lengths : (a b : Contents) → lengths_in a ≡ lengths_in b → HaveSameCounts a b
same_counts_by_lengths a b same m = count_by_lengths a m ∙ ap (λ (ls : List (List ℕ)). length (get_or ls m [])) same ∙ sym (count_by_lengths b m)

-- and as many slots for keys
pub same_slots_held : (ds es : List Directory) (a b : Contents) → map kind_of ds ≡ map kind_of es → HaveSlots ds a → HaveSlots es b → lengths_in a ≡ lengths_in b → map slots_held ds ≡ map slots_held es
same_slots_held ds es a b kinds own others same =
    alike_slots ds es (λ m. length (slots_in a m)) (λ m. length (slots_in b m)) kinds own others (same_counts_by_lengths a b same)

-- parts have a slot for each element where others that are the same do
pub have_slots_as : (ds es : List Directory) (a b : Contents) → ds ≡ es → a ≡ b → HaveSlots es b → HaveSlots ds a
have_slots_as ds es a b e f h = subst (λ (cs : Contents). HaveSlots ds cs) (sym f) (subst (λ (xs : List Directory). HaveSlots xs b) (sym e) h)
