-- The tables of timers, as a loop reads one after the other.
use Rattle.std.proofs.Common.{◌≡◌, ℕ, ◌+◌, ◌<◌, ◌≤◌, List, length, drop, get_or, Ok, Err, refl, sym, ◌∙◌}
use Rattle.std.proofs.lemmas.List.{drop_all}
use Rattle.toml.specs.View.{view, items_view}
use Rattle.toml.specs.declared.value.Value.{Value}
use Rattle.toml.proofs.Views.{items_view-drop}
use Rattle.scx_load_files.specs.Faults.{Fault, Reading}
use Rattle.scx_load_policies.specs.Timers.{timer_at, timers_from}

-- the tables from the i-th on
abbrev pub left : List Value → ℕ → Reading ℕ
left vs i = timers_from i (items_view (drop i vs))

-- one table more is read
pub goes_on : (vs : List Value) (i : ℕ) (d : Value) (total : Reading ℕ) → i < length vs → timer_at i (view (get_or vs i d)) ≡ Ok tt → left vs i ≡ total → left vs (i + 1) ≡ total
goes_on vs i d total lt e so_far =
    let one : left vs i ≡ left vs (i + 1) = rw (items_view-drop vs i d lt, e) refl in
    sym one ∙ so_far

-- a table that is refused ends the reading
pub ends : (vs : List Value) (i : ℕ) (d : Value) (fault : Fault) (total : Reading ℕ) → i < length vs → timer_at i (view (get_or vs i d)) ≡ Err fault → left vs i ≡ total → total ≡ Err fault
ends vs i d fault total lt e so_far =
    let one : left vs i ≡ Err fault = rw (items_view-drop vs i d lt, e) refl in
    sym so_far ∙ one

-- past the last table the reading is done
pub is_done : (vs : List Value) (i : ℕ) (total : Reading ℕ) → length vs ≤ i → left vs i ≡ total → total ≡ Ok i
is_done vs i total le so_far =
    let one : left vs i ≡ Ok i = rw (drop_all i vs le) refl in
    sym so_far ∙ one
