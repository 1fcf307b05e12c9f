-- The elements of an array, as a loop reads one after the other.
use Rattle.std.proofs.Common.{◌≡◌, ℕ, ◌+◌, ◌<◌, ◌≤◌, List, [], ◌∷◌, ◌++◌, length, drop, get_or, Ok, Err, refl, sym, ap, ◌∙◌, append_assoc}
use Rattle.std.proofs.lemmas.List.{drop_all, append-nil}
use Rattle.toml.specs.Data.{Data}
use Rattle.toml.specs.View.{view, items_view}
use Rattle.toml.specs.declared.value.Value.{Value}
use Rattle.toml.proofs.Views.{items_view-drop}
use Rattle.scx_isa_semantics.specs.Results.{◌>>=◌}
use Rattle.scx_load_files.specs.Faults.{Fault, Reading}
use Rattle.scx_load_files.specs.Values.{each_from}

-- what was read so far, and then the rest
abbrev pub with_front : {A : Type 0} → List A → Reading (List A) → Reading (List A)
with_front front r = r >>= λ xs. Ok (front ++ xs)

-- the elements read so far, and those from the i-th on
abbrev pub left : {A : Type 0} → (ℕ → Data → Reading A) → List Value → ℕ → List A → Reading (List A)
left read vs i front = with_front front (each_from read i (items_view (drop i vs)))

regroup : {A : Type 0} (front : List A) (x : A) (r : Reading (List A)) → with_front front (r >>= λ xs. Ok (x ∷ xs)) ≡ with_front (front ++ x ∷ []) r
regroup {A} front x (Ok xs) = ap (λ (ys : List A). Ok ys) (sym (append_assoc front (x ∷ []) xs))
regroup front x (Err e) = refl

-- one element more is read
pub goes_on : {A : Type 0} (read : ℕ → Data → Reading A) (vs : List Value) (i : ℕ) (d : Value) (front : List A) (x : A) (total : Reading (List A)) → i < length vs
    → read i (view (get_or vs i d)) ≡ Ok x → left read vs i front ≡ total → left read vs (i + 1) (front ++ x ∷ []) ≡ total
goes_on read vs i d front x total lt e so_far =
    let one : left read vs i front ≡ left read vs (i + 1) (front ++ x ∷ []) = rw (items_view-drop vs i d lt, e) (regroup front x (each_from read (i + 1) (items_view (drop (i + 1) vs)))) in
    sym one ∙ so_far

-- an element that is refused ends the reading
pub ends : {A : Type 0} (read : ℕ → Data → Reading A) (vs : List Value) (i : ℕ) (d : Value) (front : List A) (fault : Fault) (total : Reading (List A)) → i < length vs
    → read i (view (get_or vs i d)) ≡ Err fault → left read vs i front ≡ total → total ≡ Err fault
ends {A} read vs i d front fault total lt e so_far =
    let one : left read vs i front ≡ Err fault = rw (items_view-drop vs i d lt, e) refl in
    sym so_far ∙ one

-- past the last element the reading is done
pub is_done : {A : Type 0} (read : ℕ → Data → Reading A) (vs : List Value) (i : ℕ) (front : List A) (total : Reading (List A)) → length vs ≤ i → left read vs i front ≡ total → total ≡ Ok front
is_done {A} read vs i front total le so_far =
    let one : left read vs i front ≡ Ok front = rw (drop_all i vs le) (ap (λ (ys : List A). Ok ys) (append-nil front)) in
    sym so_far ∙ one
