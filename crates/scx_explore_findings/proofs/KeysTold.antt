-- The words of the part of a map beside its elements tell it.
use Rattle.std.proofs.Common.{◌≡◌, ℕ, zero, suc, ◌+◌, ◌/◌, ◌<◌, ◌≤◌, ◌==◌, nat_lt, Bool, true, false, cond, List, [], ◌∷◌, ◌++◌, length, map, drop, get_or, count_by, Option, Some, None, ◌⊎◌, inl, inr, refl, sym, ap, ◌∙◌, subst, arith, ⊎_elim}
use Rattle.std.specs.Prelude.{slice_get}
use Rattle.std.proofs.lemmas.Bool.{cases_lt, lt-ltb, le-ltb, eqb-true, eq-eqb}
use Rattle.std.proofs.lemmas.List.{length-append, length-map, ext_get_or}
use Rattle.std.proofs.lemmas.List.Sums.{sum_by-cons}
use Rattle.std.proofs.lemmas.Option.{slice_get_cases, get_or_from_slice_get}
use Rattle.scx_isa_semantics.specs.declared.map_kinds.KeySize.{KeySize}
use Rattle.scx_isa_semantics.specs.declared.map_kinds.Line.{Line}
use Rattle.scx_isa_semantics.specs.declared.map_kinds.MapKind.{MapKind}
use Rattle.scx_isa_semantics.specs.declared.map_kinds.MapKind.TheVariants as kind
use Rattle.scx_isa_semantics.specs.Directories as directories
use Rattle.scx_isa_semantics.specs.Directories.{Keys, Directory, kind_of, key_size}
use Rattle.scx_isa_semantics.specs.Elements.{Maps}
use Rattle.scx_maps.specs.declared.shape.Shape.{Shape}
use Rattle.scx_maps.specs.Keeping.{AreSound}
use Rattle.scx_maps.specs.Layout.{contents_in}
use Rattle.scx_maps.specs.Lending.{all_bytes}
use Rattle.scx_maps.specs.Laws.{AreKeys, IsSoundFor}
use Rattle.scx_maps.specs.Words.{held_word, key_word, slot_word, freed_words, key_words, line_words, part_words, parts_words}
use Rattle.scx_maps.proofs.PartWords.{length-key_words}
use Rattle.scx_vm.proofs.Offsets.{contents_back, length-all_bytes}
use Rattle.scx_explore_states.specs.Written.{byte_words, map_words}
use Rattle.scx_explore_findings.specs.WholeForms.{AreMapsOf}
use Rattle.scx_explore_findings.proofs.MapsTold.{last_two, words_long, bytes_told, all_are_bytes}
use Rattle.scx_explore_findings.proofs.MapWalk.{counts_same}

-- ---- lists

first_or : ℕ → List ℕ → ℕ
first_or d [] = d
first_or d (x ∷ xs) = x

first_same : (x y : ℕ) (xs ys : List ℕ) → x ∷ xs ≡ y ∷ ys → x ≡ y
unfolding first_or
first_same x y xs ys e = ap (λ (l : List ℕ). first_or x l) e

rest_same : (x y : ℕ) (xs ys : List ℕ) → x ∷ xs ≡ y ∷ ys → xs ≡ ys
rest_same x y xs ys e = ap (λ (l : List ℕ). drop 1 l) e

parts_same : (xs ys us vs : List ℕ) → length xs ≡ length us → xs ++ ys ≡ us ++ vs → (xs ≡ us) × (ys ≡ vs)
parts_same [] ys [] vs n e = (refl, e)
parts_same [] ys (u ∷ us) vs n e = absurd (omega (arith, n))
parts_same (x ∷ xs) ys [] vs n e = absurd (omega (arith, n))
parts_same (x ∷ xs) ys (u ∷ us) vs n e =
    let more = parts_same xs ys us vs (omega (arith, n)) (rest_same x u (xs ++ ys) (us ++ vs) e) in
    (ap (λ (z : ℕ). z ∷ xs) (first_same x u (xs ++ ys) (us ++ vs) e) ∙ ap (λ (l : List ℕ). u ∷ l) more.0, more.1)

-- some is one
abbrev IsOne : Option ℕ → Type 0
IsOne None = ⊥
IsOne (Some t) = Unit {0}

-- none is not some
pub none_isnt_one : (t : ℕ) → None ≡ Some t → ⊥
none_isnt_one t e = subst IsOne (sym e) tt

or_that : ℕ → Option ℕ → ℕ
or_that a None = a
or_that a (Some x) = x

-- the same options are of the same number
pub some_same : (a b : ℕ) → Some a ≡ Some b → a ≡ b
unfolding or_that
some_same a b e = ap (λ (o : Option ℕ). or_that a o) e

-- an element that is there, or none past the end
got : (xs : List ℕ) (i : ℕ) → i < length xs → slice_get xs i ≡ Some (get_or xs i 0)
got xs i l = go (slice_get_cases xs i).1
  where
    go : ((x : ℕ) × (i < length xs) × (slice_get xs i ≡ Some x) × (get_or xs i x ≡ x)) ⊎ ((length xs ≤ i) × (slice_get xs i ≡ None)) → slice_get xs i ≡ Some (get_or xs i 0)
    go (inl x) = x.2 ∙ ap (λ (y : ℕ). Some y) (sym (get_or_from_slice_get xs i x.0 0 x.2))
    go (inr past) = absurd (omega (arith, past.0, l))

got_none : (xs : List ℕ) (i : ℕ) → length xs ≤ i → slice_get xs i ≡ None
got_none xs i l = go (slice_get_cases xs i).1
  where
    go : ((x : ℕ) × (i < length xs) × (slice_get xs i ≡ Some x) × (get_or xs i x ≡ x)) ⊎ ((length xs ≤ i) × (slice_get xs i ≡ None)) → slice_get xs i ≡ None
    go (inl x) = absurd (omega (arith, x.1, l))
    go (inr past) = past.1

-- ---- numbers below a bound, each there once

bits : (b : Bool) → b ≡ true → b ≡ false → ⊥
bits b x y = absurd (cc)

one_more : (x u : ℕ) → cond (nat_lt x (suc u)) 1 0 ≤ cond (nat_lt x u) 1 0 + cond (x == u) 1 0
one_more x u =
    ⊎_elim (λ (l : x < u).
    let a : cond {A = ℕ} (nat_lt x (suc u)) 1 0 ≡ 1 = ap (λ (b : Bool). cond b 1 0) (lt-ltb x (suc u) (omega (arith, l))) in
    let b : cond {A = ℕ} (nat_lt x u) 1 0 ≡ 1 = ap (λ (b : Bool). cond b 1 0) (lt-ltb x u l) in
    omega (arith, a, b))
    (⊎_elim (λ (l : u < x).
    let a : cond {A = ℕ} (nat_lt x (suc u)) 1 0 ≡ 0 = ap (λ (b : Bool). cond b 1 0) (le-ltb x (suc u) (omega (arith, l))) in
    omega (arith, a))
    (λ (is : x ≡ u).
    let a : cond {A = ℕ} (nat_lt x (suc u)) 1 0 ≡ 1 = ap (λ (b : Bool). cond b 1 0) (lt-ltb x (suc u) (omega (arith, is))) in
    let b : cond {A = ℕ} (x == u) 1 0 ≡ 1 = ap (λ (b : Bool). cond b 1 0) (eq-eqb x u is) in
    omega (arith, a, b)))
    (by_order x u)
  where
    by_order : (a b : ℕ) → (a < b) ⊎ ((b < a) ⊎ (a ≡ b))
    by_order a b = ⊎_elim (λ (l : a < b). inl l) (λ (l : b ≤ a). ⊎_elim (λ (m : b < a). inr (inl m)) (λ (m : a ≤ b). inr (inr (omega (arith, l, m)))) (cases_lt b a)) (cases_lt a b)

count_more : (xs : List ℕ) (u : ℕ) → count_by (λ x. nat_lt x (suc u)) xs ≤ count_by (λ x. nat_lt x u) xs + count_by (λ x. x == u) xs
count_more [] u = omega arith
count_more (x ∷ xs) u =
    omega (arith, sum_by-cons (λ y. cond (nat_lt y (suc u)) 1 0) x xs, sum_by-cons (λ y. cond (nat_lt y u) 1 0) x xs, sum_by-cons (λ y. cond (y == u) 1 0) x xs, one_more x u, count_more xs u)

none_counted : (xs : List ℕ) (u : ℕ) → ((j : ℕ) → j < length xs → get_or xs j 0 ≡ u → ⊥) → count_by (λ x. x == u) xs ≤ 0
none_counted [] u none = omega arith
none_counted (x ∷ xs) u none =
    let more = none_counted xs u (λ j l e. none (suc j) (omega (arith, l)) e) in
    let here : cond {A = ℕ} (x == u) 1 0 ≡ 0 = go (x == u) refl in
    omega (arith, sum_by-cons (λ y. cond (y == u) 1 0) x xs, here, more)
  where
    go : (b : Bool) → (x == u) ≡ b → cond {A = ℕ} b 1 0 ≡ 0
    go true e = absurd (none 0 (omega arith) (eqb-true x u e))
    go false e = refl

-- no two elements are the same
abbrev AreApart : List ℕ → Type 0
AreApart xs = (i j : ℕ) → i < length xs → j < length xs → get_or xs i 0 ≡ get_or xs j 0 → i ≡ j

rest_apart : (x : ℕ) (xs : List ℕ) → AreApart (x ∷ xs) → AreApart xs
rest_apart x xs apart i j l m e = let is : suc i ≡ suc j = apart (suc i) (suc j) (omega (arith, l)) (omega (arith, m)) e in omega (arith, is)

first_apart : (x : ℕ) (xs : List ℕ) (u : ℕ) → AreApart (x ∷ xs) → x ≡ u → (j : ℕ) → j < length xs → get_or xs j 0 ≡ u → ⊥
first_apart x xs u apart here j l e = let same : zero ≡ suc j = apart zero (suc j) (omega arith) (omega (arith, l)) (here ∙ sym e) in absurd (omega (arith, same))

once_counted : (xs : List ℕ) (u : ℕ) → AreApart xs → count_by (λ x. x == u) xs ≤ 1
once_counted [] u apart = omega arith
once_counted (x ∷ xs) u apart = go (x == u) refl (once_counted xs u (rest_apart x xs apart))
  where
    go : (b : Bool) → (x == u) ≡ b → count_by (λ y. y == u) xs ≤ 1 → count_by (λ y. y == u) (x ∷ xs) ≤ 1
    go true e more =
        let others = none_counted xs u (first_apart x xs u apart (eqb-true x u e)) in
        let here : cond {A = ℕ} (x == u) 1 0 ≡ 1 = ap (λ (b : Bool). cond b 1 0) e in
        omega (arith, sum_by-cons (λ y. cond (y == u) 1 0) x xs, here, others)
    go false e more =
        let here : cond {A = ℕ} (x == u) 1 0 ≡ 0 = ap (λ (b : Bool). cond b 1 0) e in
        omega (arith, sum_by-cons (λ y. cond (y == u) 1 0) x xs, here, more)

none_below : (xs : List ℕ) → count_by (λ x. nat_lt x 0) xs ≤ 0
none_below [] = omega arith
none_below (x ∷ xs) =
    let here : cond {A = ℕ} (nat_lt x 0) 1 0 ≡ 0 = ap (λ (b : Bool). cond b 1 0) (le-ltb x 0 (omega arith)) in
    omega (arith, sum_by-cons (λ y. cond (nat_lt y 0) 1 0) x xs, here, none_below xs)

few_below : (xs : List ℕ) (u : ℕ) → AreApart xs → count_by (λ x. nat_lt x u) xs ≤ u
few_below xs zero apart = none_below xs
few_below xs (suc u) apart = omega (arith, count_more xs u, few_below xs u apart, once_counted xs u apart)

all_below : (xs : List ℕ) (u : ℕ) → ((j : ℕ) → j < length xs → get_or xs j 0 < u) → length xs ≤ count_by (λ x. nat_lt x u) xs
all_below [] u all = omega arith
all_below (x ∷ xs) u all =
    let here : cond {A = ℕ} (nat_lt x u) 1 0 ≡ 1 = ap (λ (b : Bool). cond b 1 0) (lt-ltb x u (all 0 (omega arith))) in
    omega (arith, sum_by-cons (λ y. cond (nat_lt y u) 1 0) x xs, here, all_below xs u (λ j l. all (suc j) (omega (arith, l))))

-- a list of numbers below u that are apart has at most u elements
few_apart : (xs : List ℕ) (u : ℕ) → AreApart xs → ((j : ℕ) → j < length xs → get_or xs j 0 < u) → length xs ≤ u
few_apart xs u apart all = omega (arith, few_below xs u apart, all_below xs u all)

-- ---- keys

-- no more slots are free than there are
freed_few : (held : List (Option ℕ)) (freed : List ℕ) (used : ℕ) → AreSound held freed used → length freed ≤ length held
freed_few held freed used sound =
    let few = few_apart freed used
    (λ i j l m e. sound.apart i j (get_or freed i 0) (got freed i l) (got freed j m ∙ ap (λ (x : ℕ). Some x) (sym e)))
    (λ j l. sound.before j (get_or freed j 0) (got freed j l)) in
    omega (arith, few, sound.within)

held_same : (x y : Option ℕ) → held_word x ≡ held_word y → key_word x ≡ key_word y → x ≡ y
held_same None None e f = refl
held_same (Some k) (Some j) e f = ap (λ (x : ℕ). Some x) f
held_same None (Some j) e f = let is : 0 ≡ 1 = e in absurd (omega (arith, is))
held_same (Some k) None e f = let is : 1 ≡ 0 = e in absurd (omega (arith, is))

held_told : (xs ys : List (Option ℕ)) → map held_word xs ≡ map held_word ys → map key_word xs ≡ map key_word ys → xs ≡ ys
held_told [] [] e f = refl
held_told [] (y ∷ ys) e f = let long : 0 ≡ suc (length (map held_word ys)) = ap length e in absurd (omega (arith, long))
held_told (x ∷ xs) [] e f = let long : suc (length (map held_word xs)) ≡ 0 = ap length e in absurd (omega (arith, long))
held_told (x ∷ xs) (y ∷ ys) e f =
    ap (λ (o : Option ℕ). o ∷ xs) (held_same x y (first_same (held_word x) (held_word y) (map held_word xs) (map held_word ys) e) (first_same (key_word x) (key_word y) (map key_word xs) (map key_word ys) f))
    ∙ ap (λ (l : List (Option ℕ)). y ∷ l) (held_told xs ys (rest_same (held_word x) (held_word y) (map held_word xs) (map held_word ys) e) (rest_same (key_word x) (key_word y) (map key_word xs) (map key_word ys) f))

slot_same : (x y : Option ℕ) → slot_word x ≡ slot_word y → x ≡ y
slot_same None None e = refl
slot_same (Some k) (Some j) e = let is : k + 1 ≡ j + 1 = e in let same : k ≡ j = omega (arith, is) in ap (λ (x : ℕ). Some x) same
slot_same None (Some j) e = let is : 0 ≡ j + 1 = e in absurd (omega (arith, is))
slot_same (Some k) None e = let is : k + 1 ≡ 0 = e in absurd (omega (arith, is))

freed_long : (xs : List ℕ) (n : ℕ) → length (freed_words xs n) ≡ n
freed_long xs zero = refl
freed_long xs (suc n) = omega (arith, freed_long xs n, length-append (freed_words xs n) (slot_word (slice_get xs n) ∷ []))

freed_each : (xs ys : List ℕ) (n : ℕ) → freed_words xs n ≡ freed_words ys n → (j : ℕ) → j < n → slice_get xs j ≡ slice_get ys j
freed_each xs ys zero e j l = absurd (omega (arith, l))
freed_each xs ys (suc n) e j l =
    let two = last_two (freed_words xs n) (freed_words ys n) (slot_word (slice_get xs n)) (slot_word (slice_get ys n)) (freed_long xs n ∙ sym (freed_long ys n)) e in
    ⊎_elim (λ (less : j < n). freed_each xs ys n two.0 j less)
    (λ (more : n ≤ j).
    let is : n ≡ j = omega (arith, more, l) in
    subst (λ (i : ℕ). slice_get xs i ≡ slice_get ys i) is (slot_same (slice_get xs n) (slice_get ys n) two.1))
    (cases_lt j n)

not_longer : (xs ys : List ℕ) (n : ℕ) → length ys ≤ n → ((j : ℕ) → j < n → slice_get xs j ≡ slice_get ys j) → length xs < length ys → ⊥
not_longer xs ys n few each less =
    none_isnt_one (get_or ys (length xs) 0) (sym (got_none xs (length xs) (omega arith)) ∙ (each (length xs) (omega (arith, few, less)) ∙ got ys (length xs) less))

freed_told : (xs ys : List ℕ) (n : ℕ) → length xs ≤ n → length ys ≤ n → freed_words xs n ≡ freed_words ys n → xs ≡ ys
freed_told xs ys n lx ly e =
    let each = freed_each xs ys n e in
    let long : length xs ≡ length ys =
    ⊎_elim (λ (l : length xs < length ys). absurd (not_longer xs ys n ly each l))
    (λ (l : length ys ≤ length xs). ⊎_elim (λ (m : length ys < length xs). absurd (not_longer ys xs n lx (λ j k. sym (each j k)) m)) (λ (m : length xs ≤ length ys). omega (arith, l, m)) (cases_lt (length ys) (length xs)))
    (cases_lt (length xs) (length ys)) in
    ext_get_or 0 xs ys long (λ j l. some_same (get_or xs j 0) (get_or ys j 0) (sym (got xs j l) ∙ (each j (omega (arith, l, lx)) ∙ got ys j (omega (arith, l, long)))))

-- the keys of hashes of as many slots
keys_told : (n : ℕ) (ks js : Keys) → AreKeys n ks → AreKeys n js → key_words ks ≡ key_words js → ks ≡ js
keys_told n ks js hk hj e =
    let rest = map held_word ks.held ++ (map key_word ks.held ++ freed_words ks.freed (length ks.held)) in
    let rest' = map held_word js.held ++ (map key_word js.held ++ freed_words js.freed (length js.held)) in
    let used : ks.used ≡ js.used = first_same ks.used js.used rest rest' e in
    let long : length ks.held ≡ length js.held = hk.long ∙ sym hj.long in
    let a = parts_same (map held_word ks.held) (map key_word ks.held ++ freed_words ks.freed (length ks.held)) (map held_word js.held) (map key_word js.held ++ freed_words js.freed (length js.held))
    (length-map ks.held held_word ∙ (long ∙ sym (length-map js.held held_word))) (rest_same ks.used js.used rest rest' e) in
    let b = parts_same (map key_word ks.held) (freed_words ks.freed (length ks.held)) (map key_word js.held) (freed_words js.freed (length js.held))
    (length-map ks.held key_word ∙ (long ∙ sym (length-map js.held key_word))) a.1 in
    let held = held_told ks.held js.held a.0 b.0 in
    let freed = freed_told ks.freed js.freed (length ks.held) (freed_few ks.held ks.freed ks.used hk.sound) (subst (λ (i : ℕ). length js.freed ≤ i) (sym long) (freed_few js.held js.freed js.used hj.sound))
    (b.1 ∙ ap (freed_words js.freed) (sym long)) in
    λ i. record { held = held i; freed = freed i; used = used i }

line_told : (l m : Line) → line_words l ≡ line_words m → l ≡ m
line_told l m e =
    let first : l.first ≡ m.first = first_same l.first m.first (l.count ∷ []) (m.count ∷ []) e in
    let count : l.count ≡ m.count = first_same l.count m.count [] [] (rest_same l.first m.first (l.count ∷ []) (m.count ∷ []) e) in
    λ i. record { first = first i; count = count i }

-- ---- parts of maps

part_long : (n : ℕ) (d e : Directory) → kind_of d ≡ kind_of e → IsSoundFor n d → IsSoundFor n e → length (part_words d) ≡ length (part_words e)
part_long n directories.Array directories.Array k hd he = refl
part_long n directories.PerCpu directories.PerCpu k hd he = refl
part_long n (directories.Queue l) (directories.Queue m) k hd he = refl
part_long n (directories.Stack l) (directories.Stack m) k hd he = refl
part_long n (directories.Hash z ks) (directories.Hash y js) k hd he = omega (arith, length-key_words ks, length-key_words js, hd.long, he.long)
part_long n d e k hd he = absurd (cc)

part_told : (n : ℕ) (d e : Directory) → kind_of d ≡ kind_of e → IsSoundFor n d → IsSoundFor n e → part_words d ≡ part_words e → d ≡ e
part_told n directories.Array directories.Array k hd he same = refl
part_told n directories.PerCpu directories.PerCpu k hd he same = refl
part_told n (directories.Queue l) (directories.Queue m) k hd he same = ap (λ (x : Line). directories.Queue x) (line_told l m same)
part_told n (directories.Stack l) (directories.Stack m) k hd he same = ap (λ (x : Line). directories.Stack x) (line_told l m same)
part_told n (directories.Hash z ks) (directories.Hash y js) k hd he same =
    ap (λ (x : KeySize). directories.Hash x ks) (ap key_size k) ∙ ap (λ (x : Keys). directories.Hash y x) (keys_told n ks js hd he same)
part_told n d e k hd he same = absurd (cc)

-- of as many maps of the same kinds
pub parts_told : (n : ℕ → ℕ) (ds es : List Directory) → map kind_of ds ≡ map kind_of es → ((m : ℕ) → IsSoundFor (n m) (get_or ds m directories.Array)) → ((m : ℕ) → IsSoundFor (n m) (get_or es m directories.Array)) → parts_words ds ≡ parts_words es → ds ≡ es
parts_told n [] [] k hd he same = refl
parts_told n [] (e ∷ es) k hd he same = let long : 0 ≡ suc (length (map kind_of es)) = ap length k in absurd (omega (arith, long))
parts_told n (d ∷ ds) [] k hd he same = let long : suc (length (map kind_of ds)) ≡ 0 = ap length k in absurd (omega (arith, long))
parts_told n (d ∷ ds) (e ∷ es) k hd he same =
    let one : kind_of d ≡ kind_of e = ap (λ (l : List MapKind). get_or l 0 kind.Array) k in
    let two = parts_same (part_words d) (parts_words ds) (part_words e) (parts_words es) (part_long (n 0) d e one (hd 0) (he 0)) same in
    ap (λ (x : Directory). x ∷ ds) (part_told (n 0) d e one (hd 0) (he 0) two.0)
    ∙ ap (λ (l : List Directory). e ∷ l) (parts_told (λ m. n (suc m)) ds es (ap (λ (l : List MapKind). drop 1 l) k) (λ m. hd (suc m)) (λ m. he (suc m)) two.1)

-- maps of the same shapes that have the same words are the same
pub maps_told : (shapes : List Shape) (m n : Maps) → AreMapsOf shapes m → AreMapsOf shapes n → map_words m ≡ map_words n → m ≡ n
maps_told shapes m n h k e =
    let bs = all_bytes m in
    let cs = all_bytes n in
    let long : length bs ≡ length cs = length-all_bytes shapes m h.shaped ∙ sym (length-all_bytes shapes n k.shaped) in
    let count = (length bs + 7) / 8 in
    let two = parts_same (byte_words bs count) (parts_words m.directories) (byte_words cs count) (parts_words n.directories) (words_long bs cs count)
    (e ∙ ap (λ (j : ℕ). byte_words cs ((j + 7) / 8) ++ parts_words n.directories) (sym long)) in
    let same = bytes_told bs cs long (all_are_bytes m.contents h.shaped.bytes) (all_are_bytes n.contents k.shaped.bytes) two.0 in
    let contents : m.contents ≡ n.contents = sym (contents_back shapes m h.shaped) ∙ (ap (λ (x : List ℕ). contents_in shapes x) same ∙ contents_back shapes n k.shaped) in
    let counts : (i : ℕ) → length (get_or m.contents i []) ≡ length (get_or n.contents i []) = counts_same m.contents n.contents (h.shaped.lengths ∙ sym k.shaped.lengths) in
    let parts : m.directories ≡ n.directories =
    parts_told (λ i. length (get_or m.contents i [])) m.directories n.directories (h.shaped.kinds ∙ sym k.shaped.kinds) h.sound (λ i. subst (λ (j : ℕ). IsSoundFor j (get_or n.directories i directories.Array)) (sym (counts i)) (k.sound i)) two.1 in
    λ i. record { contents = contents i; directories = parts i }
