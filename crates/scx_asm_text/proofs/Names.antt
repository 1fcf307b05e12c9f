-- The search for a name in a table, as a loop goes over it.
use Rattle.std.proofs.Common.{◌≡◌, ℕ, ◌+◌, ◌<◌, ◌≤◌, true, false, List, length, drop, get_or, Some, None, refl}
use Rattle.std.specs.Str.{bytes_eq}
use Rattle.std.proofs.lemmas.List.{drop_more, drop_all}
use Rattle.scx_asm_text.specs.Names.{first_with_name}

-- the name stands here
pub named_here : {A : Type 0} (text : A → List ℕ) (xs : List A) (i : ℕ) (d : A) (name : List ℕ) → i < length xs → bytes_eq name (text (get_or xs i d)) ≡ true → first_with_name text (drop i xs) name ≡ Some (get_or xs i d)
unfolding first_with_name
named_here text xs i d name lt e = rw (drop_more xs i d lt, e) refl

-- it doesn't, and may stand later
pub named_later : {A : Type 0} (text : A → List ℕ) (xs : List A) (i : ℕ) (d : A) (name : List ℕ) → i < length xs → bytes_eq name (text (get_or xs i d)) ≡ false → first_with_name text (drop i xs) name ≡ first_with_name text (drop (i + 1) xs) name
unfolding first_with_name
named_later text xs i d name lt e = rw (drop_more xs i d lt, e) refl

-- past the last one it stands nowhere
pub named_none : {A : Type 0} (text : A → List ℕ) (xs : List A) (i : ℕ) (name : List ℕ) → length xs ≤ i → first_with_name text (drop i xs) name ≡ None
unfolding first_with_name
named_none text xs i name le = rw (drop_all i xs le) refl
