-- The elements of an array, as a loop reads each with what was read before it.
use Rattle.std.proofs.Common.{◌≡◌, ℕ, ◌+◌, ◌<◌, ◌≤◌, List, length, drop, get_or, Ok, Err, refl, sym, ◌∙◌}
use Rattle.std.proofs.lemmas.List.{drop_all}
use Rattle.toml.specs.Data.{Data}
use Rattle.toml.specs.View.{view, items_view}
use Rattle.toml.specs.declared.value.Value.{Value}
use Rattle.toml.proofs.Views.{items_view-drop}
use Rattle.scx_load_files.specs.Faults.{Fault, Reading}
use Rattle.scx_load_workloads.specs.Reading.{fold_from}

-- the elements from the i-th on
abbrev pub left : {S : Type 0} → (S → ℕ → Data → Reading S) → List Value → ℕ → S → Reading S
left read vs i s = fold_from read s i (items_view (drop i vs))

-- one element more is read
pub goes_on : {S : Type 0} (read : S → ℕ → Data → Reading S) (vs : List Value) (i : ℕ) (d : Value) (s t : S) (total : Reading S) → i < length vs
    → read s i (view (get_or vs i d)) ≡ Ok t → left read vs i s ≡ total → left read vs (i + 1) t ≡ total
goes_on read vs i d s t total lt e so_far =
    let one : left read vs i s ≡ left read vs (i + 1) t = rw (items_view-drop vs i d lt, e) refl in
    sym one ∙ so_far

-- an element that is refused ends the reading
pub ends : {S : Type 0} (read : S → ℕ → Data → Reading S) (vs : List Value) (i : ℕ) (d : Value) (s : S) (fault : Fault) (total : Reading S) → i < length vs
    → read s i (view (get_or vs i d)) ≡ Err fault → left read vs i s ≡ total → total ≡ Err fault
ends read vs i d s fault total lt e so_far =
    let one : left read vs i s ≡ Err fault = rw (items_view-drop vs i d lt, e) refl in
    sym so_far ∙ one

-- past the last element the reading is done
pub is_done : {S : Type 0} (read : S → ℕ → Data → Reading S) (vs : List Value) (i : ℕ) (s : S) (total : Reading S) → length vs ≤ i → left read vs i s ≡ total → total ≡ Ok s
is_done read vs i s total le so_far =
    let one : left read vs i s ≡ Ok s = rw (drop_all i vs le) refl in
    sym so_far ∙ one
