-- The join of two kinds, of two cells, and of two states is the least that covers both.
use Rattle.std.proofs.Common.{◌≡◌, ℕ, ◌<◌, ◌≤◌, ◌⊎◌, inl, inr, [], arith, Bool, true, false, ◌&&◌, nat_eq, List, set, length, slice_index_or, min, max, Option, Some, None, refl, sym, ap, ◌∙◌}
use Rattle.std.proofs.lemmas.Bool.{eqb-true, eq-eqb, and_parts, and_from, both_ways, cases_lt}
use Rattle.std.proofs.lemmas.List.{get_or_past, get_or_default, set-get_or}
use Rattle.scx_abs_ranges.specs.declared.ranges.Range.{Range}
use Rattle.scx_abs_ranges.specs.Ranges.{CoversRange, join_ranges}
use Rattle.scx_abs.specs.declared.kinds.Kind.{Kind}
use Rattle.scx_abs.specs.declared.kinds.Kind.TheVariants.{Unusable, Num, Stack, Elem, ElemOrNull, Task, TaskOrNull, MapRef}
use Rattle.scx_abs.specs.declared.kinds.Held.{Held}
use Rattle.scx_abs.specs.declared.kinds.Held.TheVariants as held
use Rattle.scx_abs.specs.declared.kinds.Cell.{Cell}
use Rattle.scx_abs.specs.declared.kinds.Cell.TheVariants.{Bytes, Pointer}
use Rattle.scx_abs.specs.declared.states.AbsState.{AbsState}
use Rattle.scx_abs.specs.Kinds.{IsLeastCover, CoversKind, kind_if, join_kind}
use Rattle.scx_abs.specs.Cells.{kind_of, held_of, is_written, no_bytes, common, IsPartOf, CoversCell, cell_of, join_pointers, join_cell}
use Rattle.scx_abs.specs.States.{CoversState, IsWhole, kind_at, cell_at}
use Rattle.scx_abs.specs.Monotone.{JoinOfKindsIsLeast, JoinOfCellsIsLeast, JoinsAreMonotone}
use Rattle.scx_abs.proofs.Orders.{each_byte_at, cell_itself, covers_through}

-- ---- ranges

range_covers_first : (r s : Range) → CoversRange (join_ranges r s) r
range_covers_first r s = record { low = omega arith; high = omega arith; shift = omega arith }

range_covers_second : (r s : Range) → CoversRange (join_ranges r s) s
range_covers_second r s = record { low = omega arith; high = omega arith; shift = omega arith }

range_least : (t r s : Range) → CoversRange t r → CoversRange t s → CoversRange t (join_ranges r s)
range_least t r s g h =
    let first : t.low ≤ r.low = g.low in
    let second : t.low ≤ s.low = h.low in
    let third : r.high ≤ t.high = g.high in
    let fourth : s.high ≤ t.high = h.high in
    let fifth : t.shift ≤ r.shift = g.shift in
    let sixth : t.shift ≤ s.shift = h.shift in
    record { low = omega arith; high = omega arith; shift = omega arith }

-- ---- kinds

if_covers : (b : Bool) (k j : Kind) → (b ≡ true → CoversKind k j) → CoversKind (kind_if b k) j
if_covers true k j h = h refl
if_covers false k j h = tt

two_tests : (m n o p : ℕ) → (nat_eq m n && nat_eq o p) ≡ true → (m ≡ n) × (o ≡ p)
two_tests m n o p e =
    let parts = and_parts (nat_eq m n) (nat_eq o p) e in
    (eqb-true m n parts.0, eqb-true o p parts.1)

join_ranges_itself : (r : Range) → join_ranges r r ≡ r
join_ranges_itself r =
    let low : min r.low r.low ≡ r.low = omega arith in
    let high : max r.high r.high ≡ r.high = omega arith in
    let shift : min r.shift r.shift ≡ r.shift = omega arith in
    ap (λ n. record { low = n; high = max r.high r.high; shift = min r.shift r.shift }) low
    ∙ (ap (λ n. record { low = r.low; high = n; shift = min r.shift r.shift }) high
    ∙ ap (λ n. record { low = r.low; high = r.high; shift = n }) shift)

same_if : (n : ℕ) (k : Kind) → kind_if (nat_eq n n) k ≡ k
same_if n k = ap (λ b. kind_if b k) (eq-eqb n n refl)

-- a kind joined with itself is itself
join_itself : (k : Kind) → join_kind k k ≡ k
join_itself Unusable = refl
join_itself (Num r) = ap Num (join_ranges_itself r)
join_itself (Stack o) = same_if o (Stack o)
join_itself (Elem m r) = same_if m (Elem m (join_ranges r r)) ∙ ap (Elem m) (join_ranges_itself r)
join_itself (ElemOrNull m) = same_if m (ElemOrNull m)
join_itself Task = refl
join_itself TaskOrNull = refl
join_itself (MapRef m) = same_if m (MapRef m)

-- a kind joined with the same one stays
pub join_same : (j k : Kind) → j ≡ k → join_kind j k ≡ j
join_same j k e = ap (join_kind j) (sym e) ∙ join_itself j

-- a register whose kind a join leaves keeps it; d and e are the defaults with which both are read
pub joined_kept : (xs ys : List Kind) (r : ℕ) (d e : Kind) → r < length xs → r < length ys
    → join_kind (slice_index_or xs r d) (slice_index_or ys r e) ≡ slice_index_or xs r d
    → xs ≡ set xs r (join_kind (slice_index_or xs r Unusable) (slice_index_or ys r Unusable))
joined_kept xs ys r d e lx ly same =
    let first : slice_index_or xs r d ≡ slice_index_or xs r Unusable = get_or_default xs r d Unusable lx in
    let second : slice_index_or ys r e ≡ slice_index_or ys r Unusable = get_or_default ys r e Unusable ly in
    let kept : join_kind (slice_index_or xs r Unusable) (slice_index_or ys r Unusable) ≡ slice_index_or xs r Unusable =
    sym (ap (λ k. join_kind k (slice_index_or ys r Unusable)) first)
    ∙ (sym (ap (join_kind (slice_index_or xs r d)) second) ∙ (same ∙ first)) in
    sym (ap (set xs r) kept ∙ set-get_or xs r Unusable)

-- joined with nothing
pub join_nothing : (k : Kind) → Unusable ≡ join_kind k Unusable
join_nothing Unusable = refl
join_nothing (Num r) = refl
join_nothing (Stack o) = refl
join_nothing (Elem m r) = refl
join_nothing (ElemOrNull m) = refl
join_nothing Task = refl
join_nothing TaskOrNull = refl
join_nothing (MapRef m) = refl

-- a join of kinds covers the first
pub kind_covers_first : (j k : Kind) → CoversKind (join_kind j k) j
kind_covers_first (Num r) (Num s) = range_covers_first r s
kind_covers_first (Stack o) (Stack p) = if_covers (nat_eq o p) (Stack o) (Stack o) (λ e. refl)
kind_covers_first (Elem m r) (Elem n s) = if_covers (nat_eq m n) (Elem m (join_ranges r s)) (Elem m r) (λ e. (refl, range_covers_first r s))
kind_covers_first (Elem m r) (ElemOrNull n) =
    if_covers (nat_eq m n && nat_eq r.high 0) (ElemOrNull n) (Elem m r) (λ e. let t = two_tests m n r.high 0 e in (sym t.0, t.1))
kind_covers_first (ElemOrNull m) (Elem n r) = if_covers (nat_eq m n && nat_eq r.high 0) (ElemOrNull m) (ElemOrNull m) (λ e. refl)
kind_covers_first (ElemOrNull m) (ElemOrNull n) = if_covers (nat_eq m n) (ElemOrNull m) (ElemOrNull m) (λ e. refl)
kind_covers_first Task Task = tt
kind_covers_first Task TaskOrNull = tt
kind_covers_first TaskOrNull Task = tt
kind_covers_first TaskOrNull TaskOrNull = tt
kind_covers_first (MapRef m) (MapRef n) = if_covers (nat_eq m n) (MapRef m) (MapRef m) (λ e. refl)
kind_covers_first j k = tt

-- and the second
pub kind_covers_second : (j k : Kind) → CoversKind (join_kind j k) k
kind_covers_second (Num r) (Num s) = range_covers_second r s
kind_covers_second (Stack o) (Stack p) = if_covers (nat_eq o p) (Stack o) (Stack p) (λ e. eqb-true o p e)
kind_covers_second (Elem m r) (Elem n s) = if_covers (nat_eq m n) (Elem m (join_ranges r s)) (Elem n s) (λ e. (eqb-true m n e, range_covers_second r s))
kind_covers_second (Elem m r) (ElemOrNull n) = if_covers (nat_eq m n && nat_eq r.high 0) (ElemOrNull n) (ElemOrNull n) (λ e. refl)
kind_covers_second (ElemOrNull m) (Elem n r) =
    if_covers (nat_eq m n && nat_eq r.high 0) (ElemOrNull m) (Elem n r) (λ e. let t = two_tests m n r.high 0 e in (t.0, t.1))
kind_covers_second (ElemOrNull m) (ElemOrNull n) = if_covers (nat_eq m n) (ElemOrNull m) (ElemOrNull n) (λ e. eqb-true m n e)
kind_covers_second Task Task = tt
kind_covers_second Task TaskOrNull = tt
kind_covers_second TaskOrNull Task = tt
kind_covers_second TaskOrNull TaskOrNull = tt
kind_covers_second (MapRef m) (MapRef n) = if_covers (nat_eq m n) (MapRef m) (MapRef n) (λ e. eqb-true m n e)
kind_covers_second j k = tt

-- where the test holds
if_least : (b : Bool) (l k : Kind) → b ≡ true → CoversKind l k → CoversKind l (kind_if b k)
if_least true l k e h = h
if_least false l k e h = absurd (cc)

both_equal : (m n o p : ℕ) → m ≡ n → o ≡ p → (nat_eq m n && nat_eq o p) ≡ true
both_equal m n o p e f = and_from (nat_eq m n) (nat_eq o p) (eq-eqb m n e) (eq-eqb o p f)

none_higher : (r s : Range) → r.high ≡ 0 → s.high ≡ 0 → (join_ranges r s).high ≡ 0
none_higher r s e f = omega arith

-- and what covers both covers it
pub kind_least : (l j k : Kind) → CoversKind l j → CoversKind l k → CoversKind l (join_kind j k)
kind_least Unusable j k g h = tt
kind_least (Num t) (Num r) (Num s) g h = range_least t r s g h
kind_least (Stack o) (Stack p) (Stack q) g h = if_least (nat_eq p q) (Stack o) (Stack p) (eq-eqb p q (sym g ∙ h)) g
kind_least (Elem m t) (Elem n r) (Elem l s) g h =
    if_least (nat_eq n l) (Elem m t) (Elem n (join_ranges r s)) (eq-eqb n l (sym g.0 ∙ h.0)) (g.0, range_least t r s g.1 h.1)
kind_least (ElemOrNull m) (Elem n r) (Elem l s) g h =
    if_least (nat_eq n l) (ElemOrNull m) (Elem n (join_ranges r s)) (eq-eqb n l (sym g.0 ∙ h.0)) (g.0, none_higher r s g.1 h.1)
kind_least (ElemOrNull m) (Elem n r) (ElemOrNull l) g h =
    if_least (nat_eq n l && nat_eq r.high 0) (ElemOrNull m) (ElemOrNull l) (both_equal n l r.high 0 (sym g.0 ∙ h) g.1) h
kind_least (ElemOrNull m) (ElemOrNull n) (Elem l r) g h =
    if_least (nat_eq n l && nat_eq r.high 0) (ElemOrNull m) (ElemOrNull n) (both_equal n l r.high 0 (sym g ∙ h.0) h.1) g
kind_least (ElemOrNull m) (ElemOrNull n) (ElemOrNull l) g h = if_least (nat_eq n l) (ElemOrNull m) (ElemOrNull n) (eq-eqb n l (sym g ∙ h)) g
kind_least Task Task Task g h = tt
kind_least TaskOrNull Task Task g h = tt
kind_least TaskOrNull Task TaskOrNull g h = tt
kind_least TaskOrNull TaskOrNull Task g h = tt
kind_least TaskOrNull TaskOrNull TaskOrNull g h = tt
kind_least (MapRef m) (MapRef n) (MapRef l) g h = if_least (nat_eq n l) (MapRef m) (MapRef n) (eq-eqb n l (sym g ∙ h)) g
kind_least l j k g h = absurd (assumption (g, h))

-- the law of kinds
pub kinds_least : JoinOfKindsIsLeast
kinds_least j k = record { covers_first = kind_covers_first j k; covers_second = kind_covers_second j k; least = λ l g h. kind_least l j k g h }

-- ---- stored pointers

-- a stored pointer is no number
covers_no_number : (r : Range) (j : Held) → CoversKind (Num r) (kind_of j) → ⊥
covers_no_number r (held.Stack o) h = h
covers_no_number r (held.Elem m o) h = h
covers_no_number r (held.ElemOrNull m) h = h
covers_no_number r held.Task h = h
covers_no_number r held.TaskOrNull h = h
covers_no_number r (held.MapRef m) h = h

covered_by_number : (r : Range) (l : Held) → CoversKind (kind_of l) (Num r) → ⊥
covered_by_number r (held.Stack o) h = h
covered_by_number r (held.Elem m o) h = h
covered_by_number r (held.ElemOrNull m) h = h
covered_by_number r held.Task h = h
covered_by_number r held.TaskOrNull h = h
covered_by_number r (held.MapRef m) h = h

-- and of it something is known
is_usable : (l : Held) → CoversKind (kind_of l) Unusable → ⊥
is_usable (held.Stack o) h = h
is_usable (held.Elem m o) h = h
is_usable (held.ElemOrNull m) h = h
is_usable held.Task h = h
is_usable held.TaskOrNull h = h
is_usable (held.MapRef m) h = h

kept_covers : (k : Kind) (j : Held) → CoversKind k (kind_of j) → CoversCell (cell_of (held_of k)) (Pointer j)
kept_covers Unusable j h = λ i lt w. w
kept_covers (Num r) j h = absurd (covers_no_number r j h)
kept_covers k j h = h

pointers_cover_first : (j k : Held) → CoversCell (join_pointers j k) (Pointer j)
pointers_cover_first j k = kept_covers (join_kind (kind_of j) (kind_of k)) j (kind_covers_first (kind_of j) (kind_of k))

pointers_cover_second : (j k : Held) → CoversCell (join_pointers j k) (Pointer k)
pointers_cover_second j k = kept_covers (join_kind (kind_of j) (kind_of k)) k (kind_covers_second (kind_of j) (kind_of k))

bytes_cover : (b : List Bool) (o : Option Held) → IsPartOf b no_bytes → CoversCell (Bytes b) (cell_of o)
bytes_cover b None h = h
bytes_cover b (Some k) h = h

pointer_least : (l : Held) (k : Kind) → CoversKind (kind_of l) k → CoversCell (Pointer l) (cell_of (held_of k))
pointer_least l Unusable h = absurd (is_usable l h)
pointer_least l (Num r) h = absurd (covered_by_number r l h)
pointer_least l k h = h

-- ---- cells

common_first : (a b : List Bool) → IsPartOf (common a b) a
common_first a b j lt w = (and_parts (is_written a j) (is_written b j) (sym (each_byte_at (λ j. is_written a j && is_written b j) j lt) ∙ w)).0

common_second : (a b : List Bool) → IsPartOf (common a b) b
common_second a b j lt w = (and_parts (is_written a j) (is_written b j) (sym (each_byte_at (λ j. is_written a j && is_written b j) j lt) ∙ w)).1

common_least : (c a b : List Bool) → IsPartOf c a → IsPartOf c b → IsPartOf c (common a b)
common_least c a b g h j lt w =
    each_byte_at (λ j. is_written a j && is_written b j) j lt ∙ and_from (is_written a j) (is_written b j) (g j lt w) (h j lt w)

none_part : (a : List Bool) → IsPartOf no_bytes a
none_part a j lt w = absurd (both_ways (is_written no_bytes j) (each_byte_at (λ j. false) j lt) w)

cell_covers_first : (a b : Cell) → CoversCell (join_cell a b) a
cell_covers_first (Bytes a) (Bytes b) = common_first a b
cell_covers_first (Pointer j) (Pointer k) = pointers_cover_first j k
cell_covers_first (Bytes a) (Pointer k) = none_part a
cell_covers_first (Pointer j) (Bytes b) = λ i lt w. w

cell_covers_second : (a b : Cell) → CoversCell (join_cell a b) b
cell_covers_second (Bytes a) (Bytes b) = common_second a b
cell_covers_second (Pointer j) (Pointer k) = pointers_cover_second j k
cell_covers_second (Bytes a) (Pointer k) = λ i lt w. w
cell_covers_second (Pointer j) (Bytes b) = none_part b

cell_least : (c a b : Cell) → CoversCell c a → CoversCell c b → CoversCell c (join_cell a b)
cell_least (Bytes c) (Bytes a) (Bytes b) g h = common_least c a b g h
cell_least (Bytes c) (Bytes a) (Pointer k) g h = h
cell_least (Bytes c) (Pointer j) (Bytes b) g h = g
cell_least (Bytes c) (Pointer j) (Pointer k) g h = bytes_cover c (held_of (join_kind (kind_of j) (kind_of k))) g
cell_least (Pointer l) (Bytes a) b g h = absurd g
cell_least (Pointer l) (Pointer j) (Bytes b) g h = absurd h
cell_least (Pointer l) (Pointer j) (Pointer k) g h = pointer_least l (join_kind (kind_of j) (kind_of k)) (kind_least (kind_of l) (kind_of j) (kind_of k) g h)

join_cell_least : (joined a b : Cell) → joined ≡ join_cell a b → IsLeastCover CoversCell joined a b
join_cell_least joined a b e = record {
  covers_first = rw e (cell_covers_first a b);
  covers_second = rw e (cell_covers_second a b);
  least = λ c g h. rw e (cell_least c a b g h);
}

-- the law of cells
pub cells_least : JoinOfCellsIsLeast
cells_least a b = join_cell_least (join_cell a b) a b refl

-- past the stack
same_cell_least : (joined a b d : Cell) → joined ≡ d → a ≡ d → b ≡ d → IsLeastCover CoversCell joined a b
same_cell_least joined a b d e f g = record {
  covers_first = rw (e, f) (cell_itself d);
  covers_second = rw (e, g) (cell_itself d);
  least = λ c h i. rw (e, ← f) h;
}

-- ---- states

-- a state of the joins of all kinds and cells
pub is_join : (joined a b : AbsState) → IsWhole joined → IsWhole a → IsWhole b
    → ((r : ℕ) → r < 11 → kind_at joined r ≡ join_kind (kind_at a r) (kind_at b r))
    → ((c : ℕ) → c < 64 → cell_at joined c ≡ join_cell (cell_at a c) (cell_at b c)) → IsLeastCover CoversState joined a b
is_join joined a b whole whole_a whole_b kinds cells = record {
  covers_first = record {
    registers = λ r. rw (kind r) (kind_covers_first (kind_at a r) (kind_at b r));
    cells = λ c. (cell c).covers_first;
  };
  covers_second = record {
    registers = λ r. rw (kind r) (kind_covers_second (kind_at a r) (kind_at b r));
    cells = λ c. (cell c).covers_second;
  };
  least = λ s g h. record {
    registers = λ r. rw (kind r) (kind_least (kind_at s r) (kind_at a r) (kind_at b r) (g.registers r) (h.registers r));
    cells = λ c. (cell c).least (cell_at s c) (g.cells c) (h.cells c);
  };
}
  where
    nothing : (i j k : Kind) → i ≡ Unusable → j ≡ Unusable → k ≡ Unusable → i ≡ join_kind j k
    nothing i j k e f g = rw (g, f, e) refl

    kind_within : (r : ℕ) → (r < 11) ⊎ (11 ≤ r) → kind_at joined r ≡ join_kind (kind_at a r) (kind_at b r)
    kind_within r (inl lt) = kinds r lt
    kind_within r (inr le) =
        nothing (kind_at joined r) (kind_at a r) (kind_at b r)
        (get_or_past joined.registers r Unusable (omega (arith, whole.registers))) (get_or_past a.registers r Unusable (omega (arith, whole_a.registers)))
        (get_or_past b.registers r Unusable (omega (arith, whole_b.registers)))

    kind : (r : ℕ) → kind_at joined r ≡ join_kind (kind_at a r) (kind_at b r)
    kind r = kind_within r (cases_lt r 11)

    cell_within : (c : ℕ) → (c < 64) ⊎ (64 ≤ c) → IsLeastCover CoversCell (cell_at joined c) (cell_at a c) (cell_at b c)
    cell_within c (inl lt) = join_cell_least (cell_at joined c) (cell_at a c) (cell_at b c) (cells c lt)
    cell_within c (inr le) =
        same_cell_least (cell_at joined c) (cell_at a c) (cell_at b c) (Bytes [])
        (get_or_past joined.cells c (Bytes []) (omega (arith, whole.cells))) (get_or_past a.cells c (Bytes []) (omega (arith, whole_a.cells)))
        (get_or_past b.cells c (Bytes []) (omega (arith, whole_b.cells)))

    cell : (c : ℕ) → IsLeastCover CoversCell (cell_at joined c) (cell_at a c) (cell_at b c)
    cell c = cell_within c (cases_lt c 64)

-- joins grow with what is joined
pub joins_monotone : JoinsAreMonotone
joins_monotone x y a b c d p q g h = q.least x (covers_through x a c p.covers_first g) (covers_through x b d p.covers_second h)
