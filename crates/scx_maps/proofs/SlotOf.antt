-- The slot of a key: where one holds it, and where none does; and how many slots hold keys.
use Rattle.std.proofs.Common.{◌≡◌, ℕ, zero, suc, ◌+◌, ◌<◌, ◌≤◌, Bool, true, false, nat_eq, List, [], ◌∷◌, length, set, Option, Some, None, option_map, if◌then◌else◌, refl, sym, ap, ◌∙◌, arith}
use Rattle.std.specs.Prelude.{slice_get}
use Rattle.std.proofs.lemmas.Bool.{eqb-true, eq-eqb}
use Rattle.std.proofs.lemmas.Option.{none-some, same_Some}
use Rattle.scx_isa_semantics.specs.Directories.{slot_of}
use Rattle.scx_maps.specs.Keeping.{live}

-- ---- one key

-- a key that later slots hold is in the slot that it has
later_holds : (h : Option ℕ) (held : List (Option ℕ)) (k s : ℕ) → ((r : ℕ) → slot_of held k ≡ Some r → slice_get held r ≡ Some (Some k)) → option_map suc (slot_of held k) ≡ Some s → slice_get (h ∷ held) s ≡ Some (Some k)
later_holds h held k s holds e = go (slot_of held k) refl e
  where
    go : (o : Option ℕ) → slot_of held k ≡ o → option_map suc o ≡ Some s → slice_get (h ∷ held) s ≡ Some (Some k)
    go None i f = absurd (none-some s f)
    go (Some r) i f = let same = same_Some (suc r) s f in ap (λ j. slice_get (h ∷ held) j) (sym same) ∙ holds r i

-- the slot of a key holds it
pub slot_of-holds : (held : List (Option ℕ)) (k s : ℕ) → slot_of held k ≡ Some s → slice_get held s ≡ Some (Some k)
slot_of-holds [] k s e = absurd (none-some s e)
slot_of-holds (None ∷ held) k s e = later_holds None held k s (λ r i. slot_of-holds held k r i) e
slot_of-holds (Some h ∷ held) k s e = test (nat_eq h k) refl (λ i. later_holds (Some h) held k s (λ r j. slot_of-holds held k r j) i) e
  where
    test : (b : Bool) → nat_eq h k ≡ b → (option_map suc (slot_of held k) ≡ Some s → slice_get (Some h ∷ held) s ≡ Some (Some k)) → (if b then Some 0 else option_map suc (slot_of held k)) ≡ Some s → slice_get (Some h ∷ held) s ≡ Some (Some k)
    test true i later f = let same = same_Some 0 s f in ap (λ j. slice_get (Some h ∷ held) j) (sym same) ∙ ap (λ (j : ℕ). Some (Some j)) (eqb-true h k i)
    test false i later f = later f

-- a key that a slot holds has a slot
pub slot_of-some : (held : List (Option ℕ)) (k s : ℕ) → slice_get held s ≡ Some (Some k) → (r : ℕ) × (slot_of held k ≡ Some r)
slot_of-some [] k s e = absurd (none-some (Some k) e)
slot_of-some (None ∷ held) k zero e = absurd (none-some k (same_Some None (Some k) e))
slot_of-some (None ∷ held) k (suc s) e = let rest = slot_of-some held k s e in (suc rest.0, ap (option_map suc) rest.1)
slot_of-some (Some h ∷ held) k zero e = (0, ap (λ b. if b then Some 0 else option_map suc (slot_of held k)) (eq-eqb h k (same_Some h k (same_Some (Some h) (Some k) e))))
slot_of-some (Some h ∷ held) k (suc s) e = test (nat_eq h k) (slot_of-some held k s e)
  where
    test : (b : Bool) → ((r : ℕ) × (slot_of held k ≡ Some r)) → (r : ℕ) × ((if b then Some 0 else option_map suc (slot_of held k)) ≡ Some r)
    test true rest = (0, refl)
    test false rest = (suc rest.0, ap (option_map suc) rest.1)

-- where no slot holds it, it has none
pub slot_absent : (held : List (Option ℕ)) (k : ℕ) → ((s : ℕ) → slice_get held s ≡ Some (Some k) → ⊥) → None ≡ slot_of held k
slot_absent held k none = go (slot_of held k) refl
  where
    go : (o : Option ℕ) → slot_of held k ≡ o → None ≡ slot_of held k
    go None e = sym e
    go (Some s) e = absurd (none s (slot_of-holds held k s e))

-- a slot that holds it is the one, where an index leads to it
pub slot_found : (held : List (Option ℕ)) (k : ℕ) (f : Option ℕ) → ((s : ℕ) → slice_get held s ≡ Some (Some k) → f ≡ Some s) → (s : ℕ) → slice_get held s ≡ Some (Some k) → Some s ≡ slot_of held k
slot_found held k f led s e =
    let found = slot_of-some held k s e in
    let there = led found.0 (slot_of-holds held k found.0 found.1) in
    sym (led s e) ∙ there ∙ sym found.1

-- ---- how many there are

-- the number of keys with another thing in one slot
pub live-set : (held : List (Option ℕ)) (s : ℕ) (o n : Option ℕ) → slice_get held s ≡ Some o → live (n ∷ []) + live held ≡ live (set held s n) + live (o ∷ [])
live-set [] s o n e = absurd (cc)
live-set (h ∷ held) zero o n e = let same : h ≡ o = cc in rw same (here o n)
  where
    here : (o n : Option ℕ) → live (n ∷ []) + live (o ∷ held) ≡ live (n ∷ held) + live (o ∷ [])
    here None None = omega arith
    here None (Some k) = omega arith
    here (Some k) None = omega arith
    here (Some k) (Some j) = omega arith
live-set (None ∷ held) (suc s) o n e = live-set held s o n e
live-set (Some k ∷ held) (suc s) o n e = let rest = live-set held s o n e in omega (arith, rest)

-- a slot that holds a key is one
pub live-some : (held : List (Option ℕ)) (s k : ℕ) → slice_get held s ≡ Some (Some k) → 0 < live held
live-some [] s k e = absurd (cc)
live-some (None ∷ held) zero k e = absurd (cc)
live-some (None ∷ held) (suc s) k e = live-some held s k e
live-some (Some h ∷ held) s k e = omega arith

-- there are no more than slots
pub live-le : (held : List (Option ℕ)) → live held ≤ length held
live-le [] = omega arith
live-le (None ∷ held) = let rest = live-le held in omega (arith, rest)
live-le (Some h ∷ held) = let rest = live-le held in omega (arith, rest)

-- there are fewer where a slot holds none
pub live-lt : (held : List (Option ℕ)) (s : ℕ) → slice_get held s ≡ Some None → live held < length held
live-lt [] s e = absurd (cc)
live-lt (None ∷ held) zero e = let rest = live-le held in omega (arith, rest)
live-lt (None ∷ held) (suc s) e = let rest = live-lt held s e in omega (arith, rest)
live-lt (Some h ∷ held) zero e = absurd (cc)
live-lt (Some h ∷ held) (suc s) e = let rest = live-lt held s e in omega (arith, rest)
