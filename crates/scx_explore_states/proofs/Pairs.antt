-- Words that aren't 0, with their places.
use Rattle.std.proofs.Common.{◌≡◌, ℕ, zero, suc, ◌+◌, ◌-◌, ◌*◌, ◌/◌, ◌<◌, ◌≤◌, ◌==◌, Bool, true, false, List, [], ◌∷◌, ◌++◌, length, take, drop, get_or, replicate, refl, sym, ap, ◌∙◌, subst, append_assoc, inl, inr, arith, ⊎_elim}
use Rattle.std.specs.Prelude.{◌⊎◌, min, cond}
use Rattle.std.proofs.lemmas.Bool.{cases_lt, eqb-true, ne_eqb}
use Rattle.std.proofs.lemmas.List.{append-nil, get_or-drop, get_or-take, get_or_past, length-append, length-take, replicate_more, take_all, take_more}
use Rattle.scx_isa_semantics.specs.Directories.{Directory, Array}
use Rattle.scx_isa_semantics.specs.Elements.{Maps}
use Rattle.scx_maps.specs.Lending.{all_bytes}
use Rattle.scx_maps.specs.Words.{part_words, parts_words}
use Rattle.scx_explore_states.specs.declared.map_words.MapWords.{MapWords}
use Rattle.scx_explore_states.specs.declared.map_words.MapWords.TheVariants.{Whole, NotZero}
use Rattle.scx_explore_states.specs.NotZero.{filled, kept_words, pair, pairs_from}
use Rattle.scx_explore_states.specs.Written.{byte_words, eight_at, joined, map_words, word_from, word_of}
use Rattle.scx_explore_states.proofs.Putting.{behind, parts_more}

-- ---- lists

-- the first of a list, or that one
first_or : ℕ → List ℕ → ℕ
first_or d [] = d
first_or d (x ∷ xs) = x

-- a list without its first
rest_of : List ℕ → List ℕ
rest_of [] = []
rest_of (x ∷ xs) = xs

pub same_first : (x y : ℕ) (xs ys : List ℕ) → x ∷ xs ≡ y ∷ ys → x ≡ y
unfolding first_or
same_first x y xs ys e = ap (λ (l : List ℕ). first_or x l) e

pub same_rest : (x y : ℕ) (xs ys : List ℕ) → x ∷ xs ≡ y ∷ ys → xs ≡ ys
unfolding rest_of
same_rest x y xs ys e = ap rest_of e

-- ---- pairs tell all words

-- a list begins with 0 or with a greater number than that, or with nothing
abbrev IsPast : ℕ → List ℕ → Type 0
IsPast p [] = Unit {0}
IsPast p (x ∷ xs) = (x ≡ 0) ⊎ (p < x)

-- after pairs come zeros, and later ones have greater places
later : (place : ℕ) (ws : List ℕ) (n p : ℕ) → p ≤ place → IsPast p (pairs_from place ws ++ replicate n 0)
later place [] zero p l = tt
later place [] (suc n) p l = inl refl
later place (w ∷ ws) n p l = go (w == 0) (later (place + 1) ws n p (omega (arith, l)))
  where
    go : (b : Bool) → IsPast p (pairs_from (place + 1) ws ++ replicate n 0) → IsPast p ((cond b [] ((place + 1) ∷ w ∷ []) ++ pairs_from (place + 1) ws) ++ replicate n 0)
    go true on = on
    go false on = inr (omega (arith, l))

-- so a later one isn't the pair of that place
no_later : (place : ℕ) (ws vs : List ℕ) (n : ℕ) → pairs_from (place + 1) ws ++ replicate n 0 ≡ (place + 1) ∷ vs → ⊥
no_later place ws vs n e =
    let least : place + 1 ≤ place + 1 = omega arith in
    go (subst (IsPast (place + 1)) e (later (place + 1) ws n (place + 1) least))
  where
    go : (place + 1 ≡ 0) ⊎ (place + 1 < place + 1) → ⊥
    go (inl z) = omega (arith, z)
    go (inr l) = omega (arith, l)

-- two lists of one length with the same pairs, filled up with zeros, are the same
same_pairs : (place : ℕ) (ws vs : List ℕ) (n m : ℕ) → length ws ≡ length vs → pairs_from place ws ++ replicate n 0 ≡ pairs_from place vs ++ replicate m 0 → ws ≡ vs
same_pairs place [] [] n m l e = refl
same_pairs place [] (v ∷ vs) n m l e = absurd (omega (arith, l))
same_pairs place (w ∷ ws) [] n m l e = absurd (omega (arith, l))
same_pairs place (w ∷ ws) (v ∷ vs) n m l e =
    go (w == 0) (v == 0) refl refl
    (λ is rest.
    ap (λ (x : ℕ). x ∷ ws) is ∙ ap (λ (us : List ℕ). v ∷ us) (same_pairs (place + 1) ws vs n m (omega (arith, l)) rest))
    e
  where
    go : (b c : Bool) → (w == 0) ≡ b → (v == 0) ≡ c → (w ≡ v → pairs_from (place + 1) ws ++ replicate n 0 ≡ pairs_from (place + 1) vs ++ replicate m 0 → w ∷ ws ≡ v ∷ vs) → (cond b [] ((place + 1) ∷ w ∷ []) ++ pairs_from (place + 1) ws) ++ replicate n 0 ≡ (cond c [] ((place + 1) ∷ v ∷ []) ++ pairs_from (place + 1) vs) ++ replicate m 0 → w ∷ ws ≡ v ∷ vs
    go true true first second both rest = both (eqb-true w 0 first ∙ sym (eqb-true v 0 second)) rest
    go true false first second both rest =
        absurd (no_later place ws (v ∷ (pairs_from (place + 1) vs ++ replicate m 0)) n rest)
    go false true first second both rest =
        absurd (no_later place vs (w ∷ (pairs_from (place + 1) ws ++ replicate n 0)) m (sym rest))
    go false false first second both rest =
        let ps = pairs_from (place + 1) ws ++ replicate n 0 in
        let qs = pairs_from (place + 1) vs ++ replicate m 0 in
        let words = same_rest (place + 1) (place + 1) (w ∷ ps) (v ∷ qs) rest in
        both (same_first w v ps qs words) (same_rest w v ps qs words)

-- what a state has of words of maps tells all of them
pub same_words : (k : MapWords) (ws vs : List ℕ) → kept_words k ws ≡ kept_words k vs → ws ≡ vs
same_words Whole ws vs e = e
same_words (NotZero most) ws vs e =
    let ps = filled (2 * most) (pairs_from 0 ws) in
    let qs = filled (2 * most) (pairs_from 0 vs) in
    same_pairs 0 ws vs (2 * most - length (pairs_from 0 ws)) (2 * most - length (pairs_from 0 vs)) (same_first (length ws) (length vs) ps qs e) (same_rest (length ws) (length vs) ps qs e)

-- ---- one word after another

-- the pairs of two lists, one after the other
pairs_append : (place : ℕ) (xs ys : List ℕ) → pairs_from place (xs ++ ys) ≡ pairs_from place xs ++ pairs_from (place + length xs) ys
pairs_append place [] ys =
    let here : place ≡ place + 0 = omega arith in
    ap (λ (p : ℕ). pairs_from p ys) here
pairs_append place (x ∷ xs) ys =
    let on : place + 1 + length xs ≡ place + suc (length xs) = omega arith in
    ap (λ (l : List ℕ). pair place x ++ l) (pairs_append (place + 1) xs ys ∙ ap (λ (p : ℕ). pairs_from (place + 1) xs ++ pairs_from p ys) on)
    ∙ sym (append_assoc (pair place x) (pairs_from (place + 1) xs) (pairs_from (place + suc (length xs)) ys))

-- one more word
pub pairs_push : (place n w : ℕ) (xs : List ℕ) → place + length xs ≡ n → pairs_from place (xs ++ w ∷ []) ≡ pairs_from place xs ++ pair n w
pairs_push place n w xs at =
    pairs_append place xs (w ∷ [])
    ∙ ap (λ (l : List ℕ). pairs_from place xs ++ l) (append-nil (pair (place + length xs) w) ∙ ap (λ (p : ℕ). pair p w) at)

-- a word that is 0 is left out
pub no_pair : (xs : List ℕ) (p w : ℕ) → w ≡ 0 → xs ≡ xs ++ pair p w
no_pair xs p w is = sym (append-nil xs) ∙ ap (λ (v : ℕ). xs ++ pair p v) (sym is)

-- another one comes after its place
pub one_pair : (xs ys zs : List ℕ) (p a w : ℕ) → (w ≡ 0 → ⊥) → a ≡ p + 1 → ys ≡ xs ++ a ∷ [] → zs ≡ ys ++ w ∷ [] → zs ≡ xs ++ pair p w
one_pair xs ys zs p a w some at first second =
    behind xs ys zs (a ∷ []) (w ∷ []) second first
    ∙ (ap (λ (x : ℕ). xs ++ x ∷ w ∷ []) at
    ∙ ap (λ (b : Bool). xs ++ cond b [] ((p + 1) ∷ w ∷ [])) (sym (ne_eqb w 0 some)))

-- ---- bytes

bytes_long : (bytes : List ℕ) (n : ℕ) → length (byte_words bytes n) ≡ n
bytes_long bytes zero = refl
bytes_long bytes (suc n) =
    let on : n + 1 ≡ suc n = omega arith in
    length-append (byte_words bytes n) (word_of (eight_at bytes n) ∷ []) ∙ (ap (λ (k : ℕ). k + 1) (bytes_long bytes n) ∙ on)

-- the pair of eight bytes more
pub eight_more : (bytes : List ℕ) (n w : ℕ) (eight xs ys zs : List ℕ) → zs ≡ ys ++ pair (n + 0) w → w ≡ word_of eight → eight ≡ eight_at bytes n → ys ≡ xs ++ pairs_from 0 (byte_words bytes n) → zs ≡ xs ++ pairs_from 0 (byte_words bytes (n + 1))
eight_more bytes n w eight xs ys zs new is there old =
    let on : n + 1 ≡ suc n = omega arith in
    let here : n + 0 ≡ n = omega arith in
    let at : 0 + length (byte_words bytes n) ≡ n = omega (arith, bytes_long bytes n) in
    behind xs ys zs (pairs_from 0 (byte_words bytes n)) (pair (n + 0) w) new old
    ∙ (ap (λ (x : ℕ). xs ++ (pairs_from 0 (byte_words bytes n) ++ pair (n + 0) x)) (is ∙ ap word_of there)
    ∙ (ap (λ (p : ℕ). xs ++ (pairs_from 0 (byte_words bytes n) ++ pair p (word_of (eight_at bytes n)))) here
    ∙ (ap (λ (l : List ℕ). xs ++ l) (sym (pairs_push 0 n (word_of (eight_at bytes n)) (byte_words bytes n) at))
    ∙ ap (λ (k : ℕ). xs ++ pairs_from 0 (byte_words bytes k)) (sym on))))

-- zeros make the word 0
zero_word : (n : ℕ) (xs : List ℕ) → ((k : ℕ) → k < n → get_or xs k 0 ≡ 0) → word_from 0 (take n xs) ≡ 0
zero_word zero xs each = refl
zero_word (suc n) [] each = refl
zero_word (suc n) (x ∷ xs) each =
    let first : x ≡ 0 = each 0 (omega arith) in
    ap (λ (b : ℕ). word_from (joined 8 0 b) (take n xs)) first
    ∙ zero_word n xs (λ k l. each (suc k) (omega (arith, l)))

-- all bytes of sixteen words are 0
abbrev pub AreZero : List ℕ → ℕ → Type 0
AreZero bytes from = (k : ℕ) → get_or (take 128 (drop (8 * from) bytes)) k 0 ≡ 0

-- so each of these words is
zero_at : (bytes : List ℕ) (from j : ℕ) → AreZero bytes from → j < 16 → word_of (eight_at bytes (from + j)) ≡ 0
zero_at bytes from j none few =
    zero_word 8 (drop (8 * (from + j)) bytes)
    (λ k l.
    let inside : 8 * j + k < 128 = omega (arith, few, l) in
    let at : 8 * (from + j) + k ≡ 8 * from + (8 * j + k) = omega arith in
    get_or-drop (8 * (from + j)) bytes k 0
    ∙ (ap (λ (i : ℕ). get_or bytes i 0) at
    ∙ (sym (get_or-drop (8 * from) bytes (8 * j + k) 0)
    ∙ (sym (get_or-take 128 (drop (8 * from) bytes) (8 * j + k) 0 inside) ∙ none (8 * j + k)))))

-- and none of them has a pair
zeros_pass : (bytes : List ℕ) (from j : ℕ) → AreZero bytes from → j ≤ 16 → pairs_from 0 (byte_words bytes (from + j)) ≡ pairs_from 0 (byte_words bytes from)
zeros_pass bytes from zero none few =
    let here : from + 0 ≡ from = omega arith in
    ap (λ (k : ℕ). pairs_from 0 (byte_words bytes k)) here
zeros_pass bytes from (suc j) none few =
    let on : from + suc j ≡ suc (from + j) = omega arith in
    let w = word_of (eight_at bytes (from + j)) in
    let ps = pairs_from 0 (byte_words bytes (from + j)) in
    let at : 0 + length (byte_words bytes (from + j)) ≡ from + j = omega (arith, bytes_long bytes (from + j)) in
    ap (λ (k : ℕ). pairs_from 0 (byte_words bytes k)) on
    ∙ (pairs_push 0 (from + j) w (byte_words bytes (from + j)) at
    ∙ (sym (no_pair ps (from + j) w (zero_at bytes from j none (omega (arith, few))))
    ∙ zeros_pass bytes from j none (omega (arith, few))))

-- up to that word
pub pass_block : (bytes : List ℕ) (from count : ℕ) (xs ys : List ℕ) → AreZero bytes from → from < count → ys ≡ xs ++ pairs_from 0 (byte_words bytes from) → ys ≡ xs ++ pairs_from 0 (byte_words bytes (min (from + 16) count))
pass_block bytes from count xs ys none l old =
    let to : min (from + 16) count ≡ from + (min (from + 16) count - from) = omega (arith, l) in
    let few : min (from + 16) count - from ≤ 16 = omega (arith, l) in
    old
    ∙ ap (λ (ps : List ℕ). xs ++ ps)
    (sym (zeros_pass bytes from (min (from + 16) count - from) none few)
    ∙ ap (λ (k : ℕ). pairs_from 0 (byte_words bytes k)) (sym to))

-- no bytes are all 0
pub empty_zero : (xs : List ℕ) (b : Bool) → b ≡ true → b ≡ (length xs == 0) → (k : ℕ) → get_or xs k 0 ≡ 0
empty_zero xs b empty is k = get_or_past xs k 0 (omega (arith, eqb-true (length xs) 0 (sym is ∙ empty)))

-- where the first is 0 and each is as the one before it, all are
pub all_zero : (xs : List ℕ) → get_or xs 0 0 ≡ 0 → take (length xs - 1) (drop 1 xs) ≡ take (length xs - 1) xs → (k : ℕ) → get_or xs k 0 ≡ 0
all_zero [] first same k = refl
all_zero (x ∷ xs) first same zero = first
all_zero (x ∷ xs) first same (suc k) =
    let n : ℕ = length (x ∷ xs) - 1 in
    ⊎_elim
    (λ (inside : k < n).
    sym (get_or-take n xs k 0 inside)
    ∙ (ap (λ (l : List ℕ). get_or l k 0) same
    ∙ (get_or-take n (x ∷ xs) k 0 inside ∙ all_zero (x ∷ xs) first same k)))
    (λ (past : n ≤ k). get_or_past xs k 0 (omega (arith, past)))
    (cases_lt k n)

-- ---- blocks of sixteen words

-- at first there are none
pub no_block : (bytes : List ℕ) (count : ℕ) (xs : List ℕ) → xs ≡ xs ++ pairs_from 0 (byte_words bytes (min (16 * 0) count))
no_block bytes count xs =
    let none : min (16 * 0) count ≡ 0 = omega arith in
    sym (append-nil xs) ∙ ap (λ (k : ℕ). xs ++ pairs_from 0 (byte_words bytes k)) (sym none)

-- with one more there are sixteen words more, or the last ones
pub next_block : (bytes : List ℕ) (count block : ℕ) (xs ys zs : List ℕ) → block < (count + 15) / 16 → ys ≡ xs ++ pairs_from 0 (byte_words bytes (min (16 * block) count)) → (ys ≡ xs ++ pairs_from 0 (byte_words bytes (16 * block)) → zs ≡ xs ++ pairs_from 0 (byte_words bytes (min (16 * block + 16) count))) → zs ≡ xs ++ pairs_from 0 (byte_words bytes (min (16 * (block + 1)) count))
next_block bytes count block xs ys zs l old on =
    let here : min (16 * block) count ≡ 16 * block = omega (arith, l) in
    let there : min (16 * block + 16) count ≡ min (16 * (block + 1)) count = omega arith in
    on (old ∙ ap (λ (k : ℕ). xs ++ pairs_from 0 (byte_words bytes k)) here)
    ∙ ap (λ (k : ℕ). xs ++ pairs_from 0 (byte_words bytes k)) there

-- after the last one there are all
pub last_block : (bytes : List ℕ) (count block : ℕ) (xs ys : List ℕ) → (count + 15) / 16 ≤ block → ys ≡ xs ++ pairs_from 0 (byte_words bytes (min (16 * block) count)) → ys ≡ xs ++ pairs_from 0 (byte_words bytes count)
last_block bytes count block xs ys past old =
    let all : min (16 * block) count ≡ count = omega (arith, past) in
    old ∙ ap (λ (k : ℕ). xs ++ pairs_from 0 (byte_words bytes k)) all

-- ---- what maps have beside their elements

-- the pair of one more word
pub pairs_more : (place : ℕ) (ws : List ℕ) (n w : ℕ) (xs ys zs : List ℕ) → n < length ws → zs ≡ ys ++ pair (place + n) w → ys ≡ xs ++ pairs_from place (take n ws) → w ≡ get_or ws n 0 → zs ≡ xs ++ pairs_from place (take (n + 1) ws)
pairs_more place ws n w xs ys zs l new old is =
    let long : place + length (take n ws) ≡ place + n = omega (arith, l, length-take n ws) in
    behind xs ys zs (pairs_from place (take n ws)) (pair (place + n) w) new old
    ∙ (ap (λ (v : ℕ). xs ++ (pairs_from place (take n ws) ++ pair (place + n) v)) is
    ∙ (ap (λ (us : List ℕ). xs ++ us) (sym (pairs_push place (place + n) (get_or ws n 0) (take n ws) long))
    ∙ ap (λ (us : List ℕ). xs ++ pairs_from place us) (sym (take_more ws n 0 l))))

-- those of all words
pub all_pairs : (place : ℕ) (ws xs ys : List ℕ) (n : ℕ) → length ws ≤ n → ys ≡ xs ++ pairs_from place (take n ws) → ys ≡ xs ++ pairs_from place ws
all_pairs place ws xs ys n past old = old ∙ ap (λ (us : List ℕ). xs ++ pairs_from place us) (take_all n ws past)

-- the words of one more map
parts_next : (parts : List Directory) (n : ℕ) → n < length parts → parts_words (take n parts) ++ part_words (get_or parts n Array) ≡ parts_words (take (n + 1) parts)
parts_next parts n l =
    let ws : List ℕ = parts_words (take n parts) in
    parts_more parts n [] ws (ws ++ part_words (get_or parts n Array)) l refl refl

-- the number of these
pub count_more : (parts : List Directory) (n a c d k : ℕ) → n < length parts → c ≡ a + length (parts_words (take n parts)) → k ≡ length (part_words (get_or parts n Array)) → d ≡ c + k → d ≡ a + length (parts_words (take (n + 1) parts))
count_more parts n a c d k l old many new =
    let long : length (parts_words (take (n + 1) parts)) ≡ length (parts_words (take n parts)) + length (part_words (get_or parts n Array)) =
    ap (λ (ws : List ℕ). length ws) (sym (parts_next parts n l)) ∙ length-append (parts_words (take n parts)) (part_words (get_or parts n Array)) in
    omega (arith, old, many, new, long)

-- the number of all words of maps
pub count_all : (maps : Maps) (n c : ℕ) → length maps.directories ≤ n → c ≡ (length (all_bytes maps) + 7) / 8 + length (parts_words (take n maps.directories)) → c ≡ length (map_words maps)
count_all maps n c past is =
    let bytes : List ℕ = all_bytes maps in
    let count : ℕ = (length bytes + 7) / 8 in
    is
    ∙ (ap (λ (ds : List Directory). count + length (parts_words ds)) (take_all n maps.directories past)
    ∙ (ap (λ (k : ℕ). k + length (parts_words maps.directories)) (sym (bytes_long bytes count))
    ∙ sym (length-append (byte_words bytes count) (parts_words maps.directories))))

-- the pairs of one more map
pub part_pairs_more : (parts : List Directory) (first place n : ℕ) (xs ys zs : List ℕ) → n < length parts → place ≡ first + length (parts_words (take n parts)) → zs ≡ ys ++ pairs_from place (part_words (get_or parts n Array)) → ys ≡ xs ++ pairs_from first (parts_words (take n parts)) → zs ≡ xs ++ pairs_from first (parts_words (take (n + 1) parts))
part_pairs_more parts first place n xs ys zs l at new old =
    let ws : List ℕ = parts_words (take n parts) in
    let more : List ℕ = part_words (get_or parts n Array) in
    behind xs ys zs (pairs_from first ws) (pairs_from place more) new old
    ∙ (ap (λ (p : ℕ). xs ++ (pairs_from first ws ++ pairs_from p more)) at
    ∙ (ap (λ (us : List ℕ). xs ++ us) (sym (pairs_append first ws more))
    ∙ ap (λ (us : List ℕ). xs ++ pairs_from first us) (parts_next parts n l)))

-- those of all maps
pub all_parts : (parts : List Directory) (first n : ℕ) (xs ys : List ℕ) → length parts ≤ n → ys ≡ xs ++ pairs_from first (parts_words (take n parts)) → ys ≡ xs ++ pairs_from first (parts_words parts)
all_parts parts first n xs ys past old =
    old ∙ ap (λ (ds : List Directory). xs ++ pairs_from first (parts_words ds)) (take_all n parts past)

-- ---- all of them

-- the pairs of bytes and of what maps have beside them
pub both_pairs : (maps : Maps) (k : ℕ) (xs ys zs : List ℕ) → k ≡ (length (all_bytes maps) + 7) / 8 → ys ≡ xs ++ pairs_from 0 (byte_words (all_bytes maps) ((length (all_bytes maps) + 7) / 8)) → zs ≡ ys ++ pairs_from k (parts_words maps.directories) → zs ≡ xs ++ pairs_from 0 (map_words maps)
both_pairs maps k xs ys zs is first second =
    let bytes : List ℕ = all_bytes maps in
    let count : ℕ = (length bytes + 7) / 8 in
    let ws : List ℕ = byte_words bytes count in
    let at : k ≡ 0 + length ws = omega (arith, is, bytes_long bytes count) in
    behind xs ys zs (pairs_from 0 ws) (pairs_from k (parts_words maps.directories)) second first
    ∙ (ap (λ (p : ℕ). xs ++ (pairs_from 0 ws ++ pairs_from p (parts_words maps.directories))) at
    ∙ ap (λ (us : List ℕ). xs ++ us) (sym (pairs_append 0 ws (parts_words maps.directories))))

-- one more zero
pub zeros_more : (n : ℕ) (xs ys zs : List ℕ) → zs ≡ ys ++ 0 ∷ [] → ys ≡ xs ++ replicate n 0 → zs ≡ xs ++ replicate (n + 1) 0
zeros_more n xs ys zs new old =
    behind xs ys zs (replicate n 0) (0 ∷ []) new old ∙ ap (λ (us : List ℕ). xs ++ us) (replicate_more n 0)

-- after the number the pairs, and zeros up to that width
pub not_zero_put : (most count start : ℕ) (ws xs os bs cs : List ℕ) → count ≡ length ws → os ≡ xs ++ count ∷ [] → start ≡ length os → bs ≡ os ++ pairs_from 0 ws → cs ≡ bs ++ replicate (2 * most - (length bs - start)) 0 → cs ≡ xs ++ kept_words (NotZero most) ws
not_zero_put most count start ws xs os bs cs many first from pairs zeros =
    let ps : List ℕ = pairs_from 0 ws in
    let more : length bs ≡ length os + length ps = ap (λ (us : List ℕ). length us) pairs ∙ length-append os ps in
    let rest : 2 * most - (length bs - start) ≡ 2 * most - length ps = omega (arith, more, from) in
    behind os bs cs ps (replicate (2 * most - (length bs - start)) 0) zeros pairs
    ∙ (ap (λ (k : ℕ). os ++ (ps ++ replicate k 0)) rest
    ∙ (behind xs os (os ++ filled (2 * most) ps) (count ∷ []) (filled (2 * most) ps) refl first
    ∙ ap (λ (k : ℕ). xs ++ k ∷ filled (2 * most) ps) many))
