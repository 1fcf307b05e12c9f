-- Cells of which nothing is known: joins and changes leave those below the lowest that was written.
use Rattle.std.proofs.Common.{◌≡◌, ℕ, zero, suc, ◌+◌, ◌/◌, ◌%◌, ◌<◌, ◌≤◌, List, [], ◌++◌, ◌-◌, length, take, drop, replicate, slice_index_or, refl, sym, ap, ◌∙◌, arith}
use Rattle.std.proofs.lemmas.List.{get_or-set_other, get_or-take, length-take-le, length-drop, take_all, drop_all, take-append-drop, append-nil, ext_get_or}
use borrow.Rule.Slice.PartMut.{put_mid, mid_of}
use Rattle.scx_isa_semantics.specs.declared.callbacks.Callback.{Callback}
use Rattle.scx_abs.specs.declared.kinds.Cell.{Cell}
use Rattle.scx_abs.specs.declared.kinds.Cell.TheVariants.{Bytes}
use Rattle.scx_abs.specs.declared.states.AbsState.{AbsState}
use Rattle.scx_abs.specs.declared.changes.Change.{Change}
use Rattle.scx_abs.specs.declared.changes.Change.TheVariants as change
use Rattle.scx_abs.specs.Cells.{no_bytes, with_bytes, written_in, join_cell}
use Rattle.scx_abs.specs.States.{start_of, cell_at, with_cell}
use Rattle.scx_abs.specs.Calls.{with_byte, with_written}
use Rattle.scx_abs.specs.Changes.{AreBlank, AreKept, IsBlankBelow, after_change, lowest_changed}

join_blank : (x y : Cell) → x ≡ Bytes no_bytes → y ≡ Bytes no_bytes → join_cell x y ≡ Bytes no_bytes
join_blank x y e f = rw (e, f) refl

-- below it the cells are their own joins already
pub blank_joined : (xs ys : List Cell) (low : ℕ) → AreBlank low xs → AreBlank low ys → (k : ℕ) → k < low → slice_index_or xs k (Bytes []) ≡ join_cell (slice_index_or xs k (Bytes [])) (slice_index_or ys k (Bytes []))
blank_joined xs ys low h g k lt = h k lt ∙ sym (join_blank (slice_index_or xs k (Bytes [])) (slice_index_or ys k (Bytes [])) (h k lt) (g k lt))

-- cells that are copied from one on, below which nothing is known in both
blanks_copied : (xs ys : List Cell) (low : ℕ) → length xs ≡ length ys → low ≤ length ys → AreBlank low xs → AreBlank low ys → take low xs ++ drop low ys ≡ ys
blanks_copied xs ys low long within h g =
    let first : length (take low xs) ≡ low = length-take-le low xs (omega (arith, long, within)) in
    let second : length (take low ys) ≡ low = length-take-le low ys within in
    let same : take low xs ≡ take low ys = ext_get_or (Bytes []) (take low xs) (take low ys) (first ∙ sym second) (λ k lt. get_or-take low xs k (Bytes []) (omega (arith, lt, first)) ∙ h k (omega (arith, lt, first)) ∙ sym (g k (omega (arith, lt, first))) ∙ sym (get_or-take low ys k (Bytes []) (omega (arith, lt, first)))) in
    rw same (take-append-drop low ys)

-- the same after a write to the part of the first from that one on
pub blanks_put : (xs ys part : List Cell) (low : ℕ) → length xs ≡ 64 → length ys ≡ 64 → low ≤ 64 → AreBlank low xs → AreBlank low ys → part ≡ mid_of low (length ys - low) ys
    → put_mid low (length xs - low) xs part ≡ ys
blanks_put xs ys part low long other within h g e =
    let none : drop (length xs - low) (drop low xs) ≡ [] = drop_all (length xs - low) (drop low xs) (omega (arith, length-drop low xs)) in
    let whole : take (length ys - low) (drop low ys) ≡ drop low ys = take_all (length ys - low) (drop low ys) (omega (arith, length-drop low ys)) in
    ap (λ (l : List Cell). take low xs ++ (part ++ l)) none
    ∙ ap (λ (l : List Cell). take low xs ++ l) (append-nil part ∙ e ∙ whole)
    ∙ blanks_copied xs ys low (long ∙ sym other) (omega (arith, within, other)) h g

-- a join of cells of which nothing is known
pub joined_blank : (joined xs ys : List Cell) (low : ℕ) → low ≤ 64 → AreBlank low xs → AreBlank low ys
    → ((k : ℕ) → k < 64 → slice_index_or joined k (Bytes []) ≡ join_cell (slice_index_or xs k (Bytes [])) (slice_index_or ys k (Bytes []))) → AreBlank low joined
joined_blank joined xs ys low within h g each k lt = each k (omega arith) ∙ join_blank (slice_index_or xs k (Bytes [])) (slice_index_or ys k (Bytes [])) (h k lt) (g k lt)

-- nothing is known below a lower one either
pub blank_lower : (a : AbsState) (low new : ℕ) → IsBlankBelow low a → new ≤ low → IsBlankBelow new a
blank_lower a low new h le = record { within = omega (arith, h.within); blank = λ k lt. h.blank k (omega arith) }

-- a cell that is written leaves those below it
pub kept_below : (a : AbsState) (n : ℕ) (cell : Cell) → AreKept n a (with_cell a n cell)
kept_below a n cell c lt = get_or-set_other a.cells n c cell (Bytes []) (λ e. omega (arith, e, lt))

written_kept : (a : AbsState) (at n : ℕ) → AreKept (at / 8) a (with_written a at n)
written_kept a at zero c lt = refl
written_kept a at (suc n) c lt =
    let cell = Bytes (with_bytes (written_in (cell_at a (at / 8))) (at % 8) 1) in
    written_kept (with_byte a at) (at + 1) n c (omega (arith, lt)) ∙ kept_below a (at / 8) cell c lt

filled_blank : (a b : AbsState) (low at new : ℕ) → IsBlankBelow low a → AreKept (at / 8) a b → new ≤ low → new ≤ at / 8 → IsBlankBelow new b
filled_blank a b low at new h kept le lt = record { within = omega (arith, h.within, le); blank = λ c below. kept c (omega (arith, below, lt)) ∙ h.blank c (omega (arith, below, le)) }

-- a change leaves the cells below those that it writes
pub changed_blank : (a : AbsState) (c : Change) (low new : ℕ) → IsBlankBelow low a → new ≤ low → new ≤ lowest_changed c → IsBlankBelow new (after_change a c)
changed_blank a change.Nothing low new h le lt = blank_lower a low new h le
changed_blank a (change.Register r k) low new h le lt = let lower = blank_lower a low new h le in record { within = lower.within; blank = lower.blank }
changed_blank a (change.Called k) low new h le lt = let lower = blank_lower a low new h le in record { within = lower.within; blank = lower.blank }
changed_blank a (change.Filled k at n) low new h le lt =
    let lower = filled_blank a (with_written a at n) low at new h (written_kept a at n) le lt in
    record { within = lower.within; blank = lower.blank }

-- where the cells stay
pub blank_same : (a b : AbsState) (low : ℕ) → b.cells ≡ a.cells → IsBlankBelow low a → IsBlankBelow low b
blank_same a b low e h = record { within = h.within; blank = rw e h.blank }

-- where those below that one stay
pub blank_stored : (a b : AbsState) (low n new : ℕ) → IsBlankBelow low a → AreKept n a b → new ≤ low → new ≤ n → IsBlankBelow new b
blank_stored a b low n new h kept le lt = record { within = omega (arith, h.within, le); blank = λ c below. kept c (omega (arith, below, lt)) ∙ h.blank c (omega (arith, below, le)) }

blank_at : (n k : ℕ) → k < n → slice_index_or (replicate n (Bytes no_bytes)) k (Bytes []) ≡ Bytes no_bytes
blank_at zero k lt = absurd (omega arith)
blank_at (suc n) zero lt = refl
blank_at (suc n) (suc k) lt = blank_at n k (omega arith)

-- nothing is known of the stack as a callback begins
pub first_blank : (c : Callback) → IsBlankBelow 64 (start_of c)
first_blank c = record { within = omega arith; blank = λ k lt. blank_at 64 k lt }
