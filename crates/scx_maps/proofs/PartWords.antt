-- The words of the part of a map beside its elements: how many there are, and each by its number.
use Rattle.std.proofs.Common.{◌≡◌, ℕ, zero, suc, ◌+◌, ◌*◌, ◌<◌, ◌≤◌, ◌⊎◌, inl, inr, List, [], ◌∷◌, ◌++◌, length, map, get_or, refl, ap, ◌∙◌, arith}
use Rattle.std.specs.Prelude.{slice_get}
use Rattle.std.proofs.lemmas.Bool.{cases_lt}
use Rattle.std.proofs.lemmas.List.{length-append, length-map, get_or_append_left, get_or-append-add}
use Rattle.scx_isa_semantics.specs.Directories.{Keys}
use Rattle.scx_maps.specs.Words.{held_word, key_word, slot_word, freed_words, key_words}

length-freed_words : (freed : List ℕ) (n : ℕ) → length (freed_words freed n) ≡ n
length-freed_words freed zero = refl
length-freed_words freed (suc n) =
    let rest = length-freed_words freed n in
    let more = length-append (freed_words freed n) (slot_word (slice_get freed n) ∷ []) in
    omega (arith, rest, more)

-- how many words the keys of a hash have
pub length-key_words : (ks : Keys) → length (key_words ks) ≡ 1 + 3 * length ks.held
length-key_words ks =
    let held = length-map ks.held held_word in
    let keys = length-map ks.held key_word in
    let freed = length-freed_words ks.freed (length ks.held) in
    let first = length-append (map held_word ks.held) (map key_word ks.held ++ freed_words ks.freed (length ks.held)) in
    let second = length-append (map key_word ks.held) (freed_words ks.freed (length ks.held)) in
    omega (arith, held, keys, freed, first, second)

-- each freed slot has its word
pub freed_word_at : (freed : List ℕ) (n j : ℕ) → j < n → get_or (freed_words freed n) j 0 ≡ slot_word (slice_get freed j)
freed_word_at freed zero j h = absurd (omega arith)
freed_word_at freed (suc n) j h = go (λ lt. freed_word_at freed n j lt) (cases_lt j n)
  where
    front : List ℕ
    front = freed_words freed n

    go : (j < n → get_or (freed_words freed n) j 0 ≡ slot_word (slice_get freed j)) → (j < n) ⊎ (n ≤ j) → get_or (front ++ slot_word (slice_get freed n) ∷ []) j 0 ≡ slot_word (slice_get freed j)
    go earlier (inl lt) = get_or_append_left front (slot_word (slice_get freed n) ∷ []) 0 j (omega (arith, lt, length-freed_words freed n)) ∙ earlier lt
    go earlier (inr ge) =
        let last : j ≡ length front + 0 = omega (arith, ge, h, length-freed_words freed n) in
        let same : n ≡ j = omega (arith, ge, h) in
        ap (λ i. get_or (front ++ slot_word (slice_get freed n) ∷ []) i 0) last ∙ get_or-append-add front (slot_word (slice_get freed n) ∷ []) 0 0 ∙ ap (λ i. slot_word (slice_get freed i)) same

-- they are behind the others
pub freed_word_there : (ks : Keys) (j : ℕ) → j < length ks.held → get_or (key_words ks) (1 + 2 * length ks.held + j) 0 ≡ slot_word (slice_get ks.freed j)
freed_word_there ks j h =
    let held = length-map ks.held held_word in
    let keys = length-map ks.held key_word in
    let freed = freed_words ks.freed (length ks.held) in
    let place : 1 + 2 * length ks.held + j ≡ suc (length (map held_word ks.held) + (length (map key_word ks.held) + j)) = omega (arith, held, keys) in
    ap (λ i. get_or (key_words ks) i 0) place
    ∙ get_or-append-add (map held_word ks.held) (map key_word ks.held ++ freed) (length (map key_word ks.held) + j) 0
    ∙ get_or-append-add (map key_word ks.held) freed j 0
    ∙ freed_word_at ks.freed (length ks.held) j h
