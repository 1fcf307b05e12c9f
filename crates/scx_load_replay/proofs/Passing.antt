-- The lines of a text, as a loop goes from one to the next.
use Rattle.std.proofs.Common.{◌≡◌, ℕ, ◌+◌, ◌<◌, ◌≤◌, List, length, map, drop, get_or, Ok, Err, Bor, refl, sym, ◌∙◌}
use Rattle.std.specs.Prelude.{string_bytes}
use Rattle.std.proofs.lemmas.List.{drop_more, drop_all}
use Rattle.scx_load_files.specs.declared.fault.LoadError.{LoadError}
use Rattle.scx_load_files.specs.declared.fault.LoadError.TheVariants as errors
use Rattle.scx_load_files.specs.Faults.{Reading, Fails}
use Rattle.scx_isa_semantics.specs.declared.rules.Rules.{Rules}
use Rattle.scx_load_workloads.specs.Workload.{WorkloadState}
use Rattle.scx_load_replay.specs.Lines.{ProgressState, text_behind}
use Rattle.scx_load_replay.specs.Reading.{at_line, lines_from}

-- what is read behind the first i lines
abbrev pub left : Rules → WorkloadState → List (Bor (List ℕ)) → ℕ → ProgressState → Reading ProgressState
left rules w texts i p = lines_from rules w (i + 1) p (map (λ (t : Bor (List ℕ)). t.now) (drop i texts))

step : (rules : Rules) (w : WorkloadState) (texts : List (Bor (List ℕ))) (i : ℕ) (d : Bor (List ℕ)) (p q : ProgressState) → i < length texts → at_line (i + 1) (text_behind rules w p (get_or texts i d).now) ≡ Ok q → left rules w texts i p ≡ left rules w texts (i + 1) q
unfolding lines_from
step rules w texts i d p q lt e = rw (drop_more texts i d lt, e) refl

-- one line more is read
pub goes_on : (rules : Rules) (w : WorkloadState) (texts : List (Bor (List ℕ))) (i : ℕ) (d : Bor (List ℕ)) (p q : ProgressState) (total : Reading ProgressState) → i < length texts → at_line (i + 1) (text_behind rules w p (get_or texts i d).now) ≡ Ok q
    → left rules w texts i p ≡ total → left rules w texts (i + 1) q ≡ total
goes_on rules w texts i d p q total lt e so_far = sym (step rules w texts i d p q lt e) ∙ so_far

-- a line that is refused ends the reading
pub ends : (error : LoadError) (rules : Rules) (w : WorkloadState) (texts : List (Bor (List ℕ))) (i : ℕ) (d : Bor (List ℕ)) (p : ProgressState) (total : Reading ProgressState) → i < length texts → Fails error (at_line (i + 1) (text_behind rules w p (get_or texts i d).now))
    → left rules w texts i p ≡ total → Fails error total
unfolding lines_from
ends (errors.At path cause) rules w texts i d p total lt e so_far =
    let one : left rules w texts i p ≡ Err (record { path = string_bytes path; cause = cause }) = rw (drop_more texts i d lt, e) refl in
    sym so_far ∙ one
ends errors.NoMemory rules w texts i d p total lt e so_far = tt

-- past the last line the reading is done
pub is_done : (rules : Rules) (w : WorkloadState) (texts : List (Bor (List ℕ))) (i : ℕ) (p : ProgressState) (total : Reading ProgressState) → length texts ≤ i → left rules w texts i p ≡ total → total ≡ Ok p
unfolding lines_from
is_done rules w texts i p total le so_far =
    let one : left rules w texts i p ≡ Ok p = rw (drop_all i texts le) refl in
    sym so_far ∙ one
