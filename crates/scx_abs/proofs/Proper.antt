-- Proper states: a callback begins in one, rules and joins keep them proper, and two that cover each
-- other are one.
use Rattle.std.proofs.Common.{◌≡◌, ℕ, zero, suc, ◌+◌, ◌/◌, ◌%◌, ◌<◌, ◌≤◌, ◌⊎◌, inl, inr, ℤ, pos, nat_lt, set, replicate, Bool, true, false, ◌&&◌, nat_eq, List, [], length, All, Option, Some, None, option_map, Result, Ok, Err, IfSome, IfOk, if◌then◌else◌, refl, sym, ap, ◌∙◌, subst, arith, slice_get}
use Rattle.std.proofs.lemmas.Bool.{cases_lt}
use Rattle.std.proofs.lemmas.List.{ext_get_or, length-set, get_or_past}
use Rattle.std.proofs.lemmas.List.Elements.{All-get_or, All-from_get_or, All-replicate, All-set}
use Rattle.scx_isa_semantics.specs.declared.instructions.Insn.TheVariants as insn
use Rattle.scx_isa_semantics.specs.declared.instructions.Operand.{Operand}
use Rattle.scx_isa_semantics.specs.declared.instructions.Operand.TheVariants as operand
use Rattle.scx_isa_semantics.specs.declared.operations.Width.{Width}
use Rattle.scx_isa_semantics.specs.declared.operations.Width.TheVariants.{Bits32, Bits64}
use Rattle.scx_isa_semantics.specs.declared.operations.Operation.{Operation}
use Rattle.scx_isa_semantics.specs.declared.operations.Operation.TheVariants.{Add, Move}
use Rattle.scx_isa_semantics.specs.declared.operations.Comparison.{Comparison}
use Rattle.scx_isa_semantics.specs.declared.operations.Access.{Access}
use Rattle.scx_isa_semantics.specs.declared.operations.Access.TheVariants as access
use Rattle.scx_isa_semantics.specs.declared.registers.Register.{Register}
use Rattle.scx_isa_semantics.specs.declared.operations.Size.{Size}
use Rattle.scx_isa_semantics.specs.declared.operations.Size.TheVariants as size
use Rattle.scx_isa_semantics.specs.declared.callbacks.Callback.{Callback}
use Rattle.scx_isa_semantics.specs.declared.callbacks.ArgumentKind.{ArgumentKind}
use Rattle.scx_isa_semantics.specs.declared.callbacks.ArgumentKind.TheVariants as argument
use Rattle.scx_isa_semantics.specs.Arguments.{callback_arguments}
use Rattle.scx_isa_semantics.specs.declared.host_tables.Helper.{Helper}
use Rattle.scx_isa_semantics.specs.declared.host_tables.Helper.TheVariants as helper
use Rattle.scx_isa_semantics.specs.declared.host_tables.MapHelper.TheVariants.{LookUpPerCpu}
use Rattle.scx_isa_semantics.specs.Registers.{number}
use Rattle.scx_isa_semantics.specs.Arithmetic.{immediate, wide_immediate, at_distance}
use Rattle.scx_isa_semantics.specs.Memory.{size_bytes, access_size, stack_size}
use Rattle.scx_isa_semantics.specs.Meaning.{pointer_step, is_plain}
use Rattle.scx_isa_semantics.proofs.Numbers.{immediate_below, wide_immediate_below}
use Rattle.scx_isa_encoding.specs.Spelling.{IsOperand}
use Rattle.scx_isa_semantics.specs.HostTables.{is_writable, is_known_field, helper_known, answers, answers_task, parameters, is_allowed}
use Rattle.scx_isa_semantics.specs.declared.rules.Rules.{Rules}
use Rattle.scx_maps.specs.declared.shape.Shape.{Shape}
use Rattle.scx_vm.specs.declared.context.Context.{Context}
use Rattle.scx_abs_ranges.specs.declared.ranges.Range.{Range}
use Rattle.scx_abs_ranges.specs.Ranges.{IsWellFormed, IsRange, CoversRange, all, join_ranges, single, is_single}
use Rattle.scx_abs_ranges.specs.Offsets as offsets
use Rattle.scx_abs_ranges.specs.OffsetLaws.{IsInElement}
use Rattle.scx_abs_ranges.proofs.Order.{join_formed}
use Rattle.scx_abs_ranges.proofs.ElementOffsets.{moves_stay_within, advances_stay_within}
use Rattle.scx_abs_ranges.specs.Cuts.{cut}
use Rattle.scx_abs_ranges.specs.Laws.{IsCutRange}
use Rattle.scx_abs_ranges.proofs.KeptByCuts.{cuts_are_ranges}
use Rattle.scx_abs_ranges.specs.Results.{negated_range, extended_range, swapped_range, loaded_range}
use Rattle.scx_abs_ranges.proofs.Multiples.{single_range, all_range}
use Rattle.scx_abs_ranges.proofs.BuiltRanges.{joined_range, computed_range, copied_range, negative_range, extension_range, swap_range, load_range}
use Rattle.scx_abs.specs.declared.faults.Why.{Why}
use Rattle.scx_abs.specs.declared.faults.Why.TheVariants.{WritesFrame, UnwrittenStack, TaskField, HelperNotHere, UnknownMap}
use Rattle.scx_abs.specs.declared.kinds.Kind.{Kind}
use Rattle.scx_abs.specs.declared.kinds.Kind.TheVariants.{Unusable, Num, Stack, Elem, ElemOrNull, Task, TaskOrNull, MapRef}
use Rattle.scx_abs.specs.declared.kinds.Held.{Held}
use Rattle.scx_abs.specs.declared.kinds.Held.TheVariants as held
use Rattle.scx_abs.specs.declared.kinds.Cell.{Cell}
use Rattle.scx_abs.specs.declared.kinds.Cell.TheVariants.{Bytes, Pointer}
use Rattle.scx_abs.specs.declared.states.AbsState.{AbsState}
use Rattle.scx_abs.specs.declared.rules.Next.{Next}
use Rattle.scx_abs.specs.declared.memory.Area.{Area}
use Rattle.scx_abs.specs.declared.memory.Area.TheVariants.{OnStack, InElement, InTask}
use Rattle.scx_abs.specs.Kinds.{CoversKind, IsProperKind, kind_if, join_kind}
use Rattle.scx_abs.specs.Cells.{kind_of, held_of, is_written, no_bytes, with_bytes, all_written, written_in, IsPartOf, CoversCell, IsProperCell, cell_of, join_cell}
use Rattle.scx_abs.specs.States.{kind_at, cell_at, with_kind, with_cell, IsWhole, IsProper, ArgumentKinds, argument_kind, argument_kinds, start_kinds}
use Rattle.scx_isa_semantics.specs.Results.{◌>>=◌}
use Rattle.scx_abs.specs.Checks.{flows, goes_on, usable, operand_kind, sets, element_size, offset_within}
use Rattle.scx_abs.specs.Calls.{arguments_check, value_bytes_at_hand, with_written, filled, gives_value, after_giving, after_call, element_of, answer_kind, call_allowed, call_rule}
use Rattle.scx_abs.specs.Rules.{in_element, moved_by, moved_kind, computed_kind, advanced_by, element_kind, arithmetic_kind, combined_kind, binary_kind, number_kind, map_kind, area_of, loaded_kind, kind_in, load_kind, pointer_cell, stored_cell, number_stored, stored_in, null_test, if_null, if_not_null, null_test_rule, side, sides, numbers_compared, comparison_rule, end_rule}
use Rattle.scx_abs.specs.Laws.{CoversBothWays, StartIsProper, FlowsProper, RulesKeepProper}

-- ---- the start

-- the arguments of a callback
record AreProper (k : ArgumentKinds) : Type 0 where
  first : IsProperKind k.first
  second : IsProperKind k.second
  third : IsProperKind k.third

argument_proper : (k : Option ArgumentKind) → IsProperKind (argument_kind k)
argument_proper None = tt
argument_proper (Some argument.Task) = tt
argument_proper (Some argument.TaskOrNull) = tt
argument_proper (Some argument.Number) = all_range

arguments_proper : (c : Callback) → AreProper (argument_kinds c)
arguments_proper c = record {
  first = argument_proper (slice_get (callback_arguments c) 0);
  second = argument_proper (slice_get (callback_arguments c) 1);
  third = argument_proper (slice_get (callback_arguments c) 2);
}

start_kinds_proper : (k : ArgumentKinds) → AreProper k → All IsProperKind (start_kinds k).registers
start_kinds_proper k p =
    let none : List Kind = replicate 11 Unusable in
    let one = set none 1 k.first in
    let two = set one 2 k.second in
    let three = set two 3 k.third in
    All-set IsProperKind three 10 (Stack stack_size) tt
    (All-set IsProperKind two 3 k.third p.third
    (All-set IsProperKind one 2 k.second p.second
    (All-set IsProperKind none 1 k.first p.first (All-replicate IsProperKind 11 Unusable tt))))

-- callbacks begin in proper states
pub start_proper : StartIsProper
start_proper c = record {
  whole = record { registers = refl; cells = refl };
  kinds = start_kinds_proper (argument_kinds c) (arguments_proper c);
  cells = All-replicate IsProperCell 64 (Bytes no_bytes) refl;
}

-- ---- registers that are read

-- a register's kind is proper; past the last there is none
pub kind_is_proper : (a : AbsState) (r : ℕ) → IsProper a → IsProperKind (kind_at a r)
kind_is_proper a r p = go (cases_lt r (length a.registers))
  where
    go : (r < length a.registers) ⊎ (length a.registers ≤ r) → IsProperKind (kind_at a r)
    go (inl lt) = All-get_or IsProperKind a.registers r Unusable lt p.kinds
    go (inr le) = subst IsProperKind (sym (get_or_past a.registers r Unusable le)) tt

-- what a cell keeps is a pointer of a proper kind
abbrev KeepsProper : Cell → Type 0
KeepsProper (Bytes set) = Unit {0}
KeepsProper (Pointer k) = IsProperKind (kind_of k)

proper_keeps : (x : Cell) → IsProperCell x → KeepsProper x
proper_keeps (Bytes set) p = tt
proper_keeps (Pointer k) p = p

-- so does each cell of the stack; past the last there is none
cell_keeps : (a : AbsState) (c : ℕ) → IsProper a → KeepsProper (cell_at a c)
cell_keeps a c p = go (cases_lt c (length a.cells))
  where
    go : (c < length a.cells) ⊎ (length a.cells ≤ c) → KeepsProper (cell_at a c)
    go (inl lt) = proper_keeps (cell_at a c) (All-get_or IsProperCell a.cells c (Bytes []) lt p.cells)
    go (inr le) = subst KeepsProper (sym (get_or_past a.cells c (Bytes []) le)) tt

-- ---- joins

-- a stored pointer's kind is proper, if there is one
abbrev IsHeld : Option Held → Type 0
IsHeld o = IfSome o (λ k. IsProperKind (kind_of k))

held_proper : (k : Kind) → IsProperKind k → IsHeld (held_of k)
held_proper Unusable p = tt
held_proper (Num r) p = tt
held_proper k p = p

cell_of_proper : (o : Option Held) → IsHeld o → IsProperCell (cell_of o)
cell_of_proper None p = refl
cell_of_proper (Some k) p = p

if_proper : (b : Bool) (k : Kind) → IsProperKind k → IsProperKind (kind_if b k)
if_proper true k p = p
if_proper false k p = tt

joined_kind_proper : (j k : Kind) → IsProperKind j → IsProperKind k → IsProperKind (join_kind j k)
joined_kind_proper (Num r) (Num s) p q = joined_range r s p q
joined_kind_proper (Stack o) (Stack n) p q = if_proper (nat_eq o n) (Stack o) tt
joined_kind_proper (Elem m r) (Elem n s) p q = if_proper (nat_eq m n) (Elem m (join_ranges r s)) (join_formed r s p q)
joined_kind_proper (Elem m r) (ElemOrNull n) p q = if_proper (nat_eq m n && nat_eq r.high 0) (ElemOrNull n) tt
joined_kind_proper (ElemOrNull m) (Elem n r) p q = if_proper (nat_eq m n && nat_eq r.high 0) (ElemOrNull m) tt
joined_kind_proper (ElemOrNull m) (ElemOrNull n) p q = if_proper (nat_eq m n) (ElemOrNull m) tt
joined_kind_proper Task Task p q = tt
joined_kind_proper Task TaskOrNull p q = tt
joined_kind_proper TaskOrNull Task p q = tt
joined_kind_proper TaskOrNull TaskOrNull p q = tt
joined_kind_proper (MapRef m) (MapRef n) p q = if_proper (nat_eq m n) (MapRef m) tt
joined_kind_proper j k p q = tt

joined_proper : (x y : Cell) → IsProperCell x → IsProperCell y → IsProperCell (join_cell x y)
joined_proper (Bytes a) (Bytes b) p q = refl
joined_proper (Pointer j) (Pointer k) p q =
    cell_of_proper (held_of (join_kind (kind_of j) (kind_of k))) (held_proper (join_kind (kind_of j) (kind_of k)) (joined_kind_proper (kind_of j) (kind_of k) p q))
joined_proper (Bytes a) (Pointer k) p q = refl
joined_proper (Pointer j) (Bytes b) p q = refl

-- a join of proper states is proper
pub join_proper : (joined a b : AbsState) → IsWhole joined → IsProper a → IsProper b → ((r : ℕ) → r < 11 → kind_at joined r ≡ join_kind (kind_at a r) (kind_at b r)) → ((c : ℕ) → c < 64 → cell_at joined c ≡ join_cell (cell_at a c) (cell_at b c)) → IsProper joined
join_proper joined a b whole p q kinds cells = record {
  whole = whole;
  kinds = All-from_get_or IsProperKind joined.registers Unusable (λ r lt. kind r (omega (arith, lt, whole.registers)));
  cells = All-from_get_or IsProperCell joined.cells (Bytes []) (λ c lt. each c (omega (arith, lt, whole.cells)));
}
  where
    kind : (r : ℕ) → r < 11 → IsProperKind (kind_at joined r)
    kind r lt = rw (kinds r lt) (joined_kind_proper (kind_at a r) (kind_at b r) (kind_is_proper a r p) (kind_is_proper b r q))

    each : (c : ℕ) → c < 64 → IsProperCell (cell_at joined c)
    each c lt =
        rw (cells c lt) (joined_proper (cell_at a c) (cell_at b c) (All-get_or IsProperCell a.cells c (Bytes []) (omega (arith, lt, p.whole.cells)) p.cells)
        (All-get_or IsProperCell b.cells c (Bytes []) (omega (arith, lt, q.whole.cells)) q.cells))

-- ---- registers and cells

-- a state with another kind in a register stays proper
pub kind_proper : (a : AbsState) (r : ℕ) (k : Kind) → IsProper a → IsProperKind k → IsProper (with_kind a r k)
kind_proper a r k p q = record {
  whole = record { registers = length-set a.registers r k ∙ p.whole.registers; cells = p.whole.cells };
  kinds = All-set IsProperKind a.registers r k q p.kinds;
  cells = p.cells;
}

-- so does one with another cell
pub cell_proper : (a : AbsState) (c : ℕ) (cell : Cell) → IsProper a → IsProperCell cell → IsProper (with_cell a c cell)
cell_proper a c cell p q = record {
  whole = record { registers = p.whole.registers; cells = length-set a.cells c cell ∙ p.whole.cells };
  kinds = p.kinds;
  cells = All-set IsProperCell a.cells c cell q p.cells;
}

-- ---- kinds that checks give

abbrev IsKind : Result Kind Why → Type 0
IsKind r = IfOk r IsProperKind

-- one check behind another
kind_then : {A : Type 0} (r : Result A Why) (f : A → Result Kind Why) → ((x : A) → IsKind (f x)) → IsKind (r >>= f)
kind_then (Err why) f h = tt
kind_then (Ok x) f h = h x

kind_behind : (r : Result Kind Why) (f : Kind → Result Kind Why) → IsKind r → ((k : Kind) → IsProperKind k → IsKind (f k)) → IsKind (r >>= f)
kind_behind (Err why) f p h = tt
kind_behind (Ok k) f p h = h k p

usable_kind : (k : Kind) → IsProperKind k → IsKind (usable k)
usable_kind Unusable p = tt
usable_kind k p = p

-- an operand
pub operand_is_proper : (a : AbsState) (w : Width) (x : Operand) → IsOperand x → IsProper a → IsKind (operand_kind a w x)
operand_is_proper a w (operand.Immediate k) fits p = single_range (immediate w k) (immediate_below w k fits)
operand_is_proper a w (operand.Register r) fits p = usable_kind (kind_at a (number r)) (kind_is_proper a (number r) p)

moved_is_proper : (w : Width) (k : Kind) → IsProperKind k → IsKind (moved_kind w k)
moved_is_proper Bits64 k p = p
moved_is_proper Bits32 (Num r) p = copied_range Bits32 r p
moved_is_proper Bits32 k p = tt

computed_is_proper : (w : Width) (o : Operation) (r : Range) (k : Kind) → IsRange r → IsProperKind k → IsKind (computed_kind w o r k)
computed_is_proper w o r (Num s) p q = computed_range w o r s p q
computed_is_proper w o r k p q = tt

in_element_proper : (m size : ℕ) (o : Option Range) → IsInElement size o → IsKind (in_element m o)
in_element_proper m size None h = tt
in_element_proper m size (Some r) h = h.0

moved_by_proper : (shapes : List Shape) (k : Kind) (d : Option ℤ) → IsProperKind k → IsKind (moved_by shapes k d)
moved_by_proper shapes (Stack o) (Some d) p = kind_then (offset_within stack_size (at_distance o d)) (λ to. Ok (Stack to)) (λ to. tt)
moved_by_proper shapes (Elem m r) (Some d) p = in_element_proper m (element_size shapes m) (offsets.offsets_plus_constant (element_size shapes m) r d) (moves_stay_within (element_size shapes m) r d p)
moved_by_proper shapes k d p = tt

advanced_by_proper : (shapes : List Shape) (m : ℕ) (r : Range) (k : Kind) → IsWellFormed r → IsProperKind k → IsKind (advanced_by shapes m r k)
advanced_by_proper shapes m r (Num s) p q =
    in_element_proper m (element_size shapes m) (offsets.offsets_plus_range (element_size shapes m) r s) (advances_stay_within (element_size shapes m) r s p q.formed)
advanced_by_proper shapes m r k p q = tt

element_is_proper : (shapes : List Shape) (w : Width) (o : Operation) (x : Operand) (m : ℕ) (r : Range) (k : Kind) → IsWellFormed r → IsProperKind k → IsKind (element_kind shapes w o x m r k)
element_is_proper shapes Bits64 Add (operand.Register d) m r k p q = advanced_by_proper shapes m r k p q
element_is_proper shapes w o x m r k p q = moved_by_proper shapes (Elem m r) (pointer_step w o x) p

arithmetic_is_proper : (shapes : List Shape) (w : Width) (o : Operation) (x : Operand) (j k : Kind) → IsProperKind j → IsProperKind k → IsKind (arithmetic_kind shapes w o x j k)
arithmetic_is_proper shapes w o x (Num r) k p q = computed_is_proper w o r k p q
arithmetic_is_proper shapes w o x (Elem m r) k p q = element_is_proper shapes w o x m r k p q
arithmetic_is_proper shapes w o x j k p q = moved_by_proper shapes j (pointer_step w o x) p

combined_is_proper : (shapes : List Shape) (a : AbsState) (w : Width) (o : Operation) (d : Register) (x : Operand) → IsOperand x → IsProper a → IsKind (combined_kind shapes a w o d x)
combined_is_proper shapes a w o d x fits p =
    kind_behind (usable (kind_at a (number d))) (λ j. operand_kind a w x >>= λ k. arithmetic_kind shapes w o x j k) (usable_kind (kind_at a (number d)) (kind_is_proper a (number d) p))
    (λ j q. kind_behind (operand_kind a w x) (λ k. arithmetic_kind shapes w o x j k) (operand_is_proper a w x fits p) (λ k h. arithmetic_is_proper shapes w o x j k q h))

binary_is_proper : (shapes : List Shape) (a : AbsState) (w : Width) (o : Operation) (d : Register) (x : Operand) → IsOperand x → IsProper a → IsKind (binary_kind shapes a w o d x)
binary_is_proper shapes a w Move d x fits p = kind_behind (operand_kind a w x) (λ k. moved_kind w k) (operand_is_proper a w x fits p) (λ k h. moved_is_proper w k h)
binary_is_proper shapes a w o d x fits p = combined_is_proper shapes a w o d x fits p

number_is_proper : (f : Range → Range) (k : Kind) → ((r : Range) → IsRange r → IsRange (f r)) → IsProperKind k → IsKind (number_kind f k)
number_is_proper f (Num r) h p = h r p
number_is_proper f k h p = tt

map_is_proper : (shapes : List Shape) (k : ℤ) → IsKind (map_kind shapes k)
map_is_proper shapes (pos m) = elim (nat_lt m (length shapes)) as (λ t. IsKind (if t then Ok (MapRef m) else Err UnknownMap)) [ true ↦ tt | false ↦ tt ]
map_is_proper shapes k = tt

loaded_is_proper : (cell : Cell) (a : Access) (j : ℕ) → KeepsProper cell → IsKind (loaded_kind cell a j)
loaded_is_proper (Bytes b) a j p = elim (all_written b j (size_bytes (access_size a))) as (λ t. IsKind (if t then Ok (Num (loaded_range a)) else Err UnwrittenStack)) [ true ↦ load_range a | false ↦ tt ]
loaded_is_proper (Pointer k) access.DoubleWord j p = p
loaded_is_proper (Pointer k) a j p = tt

kind_in_proper : (by : Rules) (a : AbsState) (access : Access) (x : Area) → IsProper a → IsKind (kind_in by a access x)
kind_in_proper by a access (OnStack at) p = loaded_is_proper (cell_at a (at / 8)) access (at % 8) (cell_keeps a (at / 8) p)
kind_in_proper by a access InElement p = load_range access
kind_in_proper by a access (InTask f) p = elim (is_plain access && is_known_field f by) as (λ t. IsKind (if t then Ok (Num (loaded_range access)) else Err TaskField)) [ true ↦ load_range access | false ↦ tt ]

load_is_proper : (c : Context) (a : AbsState) (access : Access) (r : Register) (offset : ℤ) → IsProper a → IsKind (load_kind c a access r offset)
load_is_proper c a access r offset p =
    let n = size_bytes (access_size access) in
    kind_then (usable (kind_at a (number r))) (λ base. area_of c.defs base offset n >>= λ x. kind_in c.rules a access x)
    (λ base. kind_then (area_of c.defs base offset n) (λ x. kind_in c.rules a access x) (λ x. kind_in_proper c.rules a access x p))

-- ---- what flows on

abbrev FlowsIn : Result Next Why → Type 0
FlowsIn r = IfOk r FlowsProper

then_proper : {A : Type 0} (r : Result A Why) (f : A → Result Next Why) → ((x : A) → FlowsIn (f x)) → FlowsIn (r >>= f)
then_proper (Err why) f h = tt
then_proper (Ok x) f h = h x

then_kept : (r : Result Kind Why) (f : Kind → Result Next Why) → IsKind r → ((k : Kind) → IsProperKind k → FlowsIn (f k)) → FlowsIn (r >>= f)
then_kept (Err why) f p h = tt
then_kept (Ok k) f p h = h k p

sets_proper : (a : AbsState) (r : ℕ) (k : Result Kind Why) → IsProper a → IsKind k → FlowsIn (sets a r k)
sets_proper a r (Err why) p q = elim (nat_eq r 10) as (λ t. FlowsIn (if t then Err WritesFrame else Err why)) [ true ↦ tt | false ↦ tt ]
sets_proper a r (Ok k) p q = elim (nat_eq r 10) as (λ t. FlowsIn (if t then Err WritesFrame else goes_on (with_kind a r k))) [ true ↦ tt | false ↦ (kind_proper a r k p q, tt) ]

number_stored_proper : (a : AbsState) (k : Kind) → IsProper a → FlowsIn (number_stored a k)
number_stored_proper a (Num r) p = (p, tt)
number_stored_proper a k p = tt

pointer_cell_proper : (o : Option Held) (f : Cell → Result Next Why) → IsHeld o → ((c : Cell) → IsProperCell c → FlowsIn (f c)) → FlowsIn (pointer_cell o >>= f)
pointer_cell_proper None f p h = tt
pointer_cell_proper (Some k) f p h = h (Pointer k) p

stored_cell_proper : (cell : Cell) (s : Size) (j : ℕ) (k : Kind) (f : Cell → Result Next Why) → IsProperKind k → ((c : Cell) → IsProperCell c → FlowsIn (f c)) → FlowsIn (stored_cell cell s j k >>= f)
stored_cell_proper cell s j (Num r) f p h = h (Bytes (with_bytes (written_in cell) j (size_bytes s))) refl
stored_cell_proper cell size.DoubleWord j k f p h = pointer_cell_proper (held_of k) f (held_proper k p) h
stored_cell_proper cell s j k f p h = tt

stored_proper : (a : AbsState) (s : Size) (k : Kind) (x : Area) → IsProper a → IsProperKind k → FlowsIn (stored_in a s k x)
stored_proper a s k (OnStack at) p v =
    stored_cell_proper (cell_at a (at / 8)) s (at % 8) k (λ c. goes_on (with_cell a (at / 8) c)) v (λ c q. (cell_proper a (at / 8) c p q, tt))
stored_proper a s k InElement p v = number_stored_proper a k p
stored_proper a s k (InTask f) p v = elim (is_writable f) as (λ t. FlowsIn (if t then number_stored a k else Err TaskField)) [ true ↦ number_stored_proper a k p | false ↦ tt ]

null_proper : (a : AbsState) (r : ℕ) (k : Kind) → IsProper a → IfSome (if_null a r k) IsProper
null_proper a r (ElemOrNull m) p = kind_proper a r (Num (single 0)) p (single_range 0 (omega arith))
null_proper a r TaskOrNull p = kind_proper a r (Num (single 0)) p (single_range 0 (omega arith))
null_proper a r k p = tt

pointer_proper : (a : AbsState) (r : ℕ) (k : Kind) → IsProper a → IsProper (if_not_null a r k)
pointer_proper a r (ElemOrNull m) p = kind_proper a r (Elem m (single 0)) p (single_range 0 (omega arith)).formed
pointer_proper a r TaskOrNull p = kind_proper a r Task p tt
pointer_proper a r k p = p

tested_proper : (a : AbsState) (r : ℕ) (k : Kind) (test : Option Bool) → IsProper a → FlowsIn (null_test_rule a r k test)
tested_proper a r k None p = tt
tested_proper a r k (Some true) p = (pointer_proper a r k p, null_proper a r k p)
tested_proper a r k (Some false) p = (null_proper a r k p, pointer_proper a r k p)

side_proper : (a : AbsState) (r : ℕ) (o : Comparison) (b : Bool) (c : ℕ) (s : Range) → IsProper a → IsRange s → IfSome (side a r o b c s) IsProper
side_proper a r o b c s p q = go (cut o b c s) (cuts_are_ranges o b c s q)
  where
    go : (u : Option Range) → IsCutRange u → IfSome (option_map (λ t. with_kind a r (Num t)) u) IsProper
    go None h = tt
    go (Some t) h = kind_proper a r (Num t) p h

sides_proper : (a : AbsState) (r : ℕ) (w : Width) (o : Comparison) (s t : Range) → IsProper a → IsRange s → FlowsProper (sides a r w o s t)
sides_proper a r Bits64 o s t p q =
    elim (is_single t) as (λ b. FlowsProper (if b then flows (side a r o false t.low s) (side a r o true t.low s) else flows (Some a) (Some a)))
    [ true ↦ (side_proper a r o false t.low s p q, side_proper a r o true t.low s p q) | false ↦ (p, p) ]
sides_proper a r Bits32 o s t p q = (p, p)

numbers_compared_proper : (a : AbsState) (r : ℕ) (w : Width) (o : Comparison) (s : Range) (k : Kind) → IsProper a → IsRange s → FlowsIn (numbers_compared a r w o s k)
numbers_compared_proper a r w o s (Num t) p q = sides_proper a r w o s t p q
numbers_compared_proper a r w o s k p q = tt

compared_proper : (a : AbsState) (r : ℕ) (w : Width) (o : Comparison) (test : Option Bool) (j k : Kind) → IsProper a → IsProperKind j → FlowsIn (comparison_rule a r w o test j k)
compared_proper a r w o test (Num s) k p q = numbers_compared_proper a r w o s k p q
compared_proper a r w o test j k p q = tested_proper a r j test p

after_proper : (a : AbsState) (k : Kind) → IsProper a → IsProperKind k → IsProper (after_call a k)
after_proper a k p q =
    let a1 = with_kind a 1 Unusable in
    let a2 = with_kind a1 2 Unusable in
    let a3 = with_kind a2 3 Unusable in
    let a4 = with_kind a3 4 Unusable in
    let a5 = with_kind a4 5 Unusable in
    kind_proper a5 0 k (kind_proper a4 5 Unusable (kind_proper a3 4 Unusable (kind_proper a2 3 Unusable (kind_proper a1 2 Unusable (kind_proper a 1 Unusable p tt) tt) tt) tt) tt) q

written_proper : (a : AbsState) (at n : ℕ) → IsProper a → IsProper (with_written a at n)
written_proper a at zero p = p
written_proper a at (suc n) p =
    let cell = Bytes (with_bytes (written_in (cell_at a (at / 8))) (at % 8) 1) in
    written_proper (with_cell a (at / 8) cell) (at + 1) n (cell_proper a (at / 8) cell p refl)

filled_proper : (a : AbsState) (n : ℕ) (k : Kind) → IsProper a → IsProper (filled a n k)
filled_proper a n (Stack o) p = written_proper a o n p
filled_proper a n k p = p

-- a state where a helper wrote what it gives
pub giving_proper : (shapes : List Shape) (h : Helper) (a : AbsState) → IsProper a → IsProper (after_giving shapes h a)
giving_proper shapes h a p = elim (gives_value h) as (λ b. IsProper (if b then filled a (value_bytes_at_hand shapes a) (kind_at a 2) else a)) [ true ↦ filled_proper a (value_bytes_at_hand shapes a) (kind_at a 2) p | false ↦ p ]

element_of_proper : (k : Kind) → IsProperKind (element_of k)
element_of_proper (MapRef m) = tt
element_of_proper k = tt

answer_proper : (h : Helper) (k : Kind) → IsProperKind (answer_kind h k)
answer_proper helper.MapLookupElem k = element_of_proper k
answer_proper (helper.OnMap LookUpPerCpu) k = element_of_proper k
answer_proper h k = elim (answers_task h) as (λ t. IsProperKind (if t then TaskOrNull else Num all)) [ true ↦ tt | false ↦ all_range ]

call_proper : (shapes : List Shape) (c : Callback) (h : Option Helper) (a : AbsState) → IsProper a → FlowsIn (call_rule shapes c h a)
call_proper shapes c None a p = tt
call_proper shapes c (Some h) a p =
    elim (is_allowed h c) as (λ t. FlowsIn (if t then call_allowed shapes h a else Err HelperNotHere))
    [ true ↦ then_proper (arguments_check shapes a (parameters h) 1) (λ fine. goes_on (after_call (after_giving shapes h a) (answer_kind h (kind_at a 1)))) (λ fine. (after_proper (after_giving shapes h a) (answer_kind h (kind_at a 1)) (giving_proper shapes h a p) (answer_proper h (kind_at a 1)), tt)) | false ↦ tt ]

end_proper : (k : Kind) → FlowsIn (end_rule k)
end_proper (Num r) = (tt, tt)
end_proper k = tt

-- rules keep states proper
pub rule_proper : RulesKeepProper
rule_proper c (insn.Binary w o d x) a fits p = sets_proper a (number d) (binary_kind c.defs a w o d x) p (binary_is_proper c.defs a w o d x fits p)
rule_proper c (insn.Negate w d) a fits p =
    sets_proper a (number d) (number_kind (negated_range w) (kind_at a (number d))) p
    (number_is_proper (negated_range w) (kind_at a (number d)) (λ r h. negative_range w r h) (kind_is_proper a (number d) p))
rule_proper c (insn.SignExtend e d r) a fits p =
    sets_proper a (number d) (number_kind (extended_range e) (kind_at a (number r))) p
    (number_is_proper (extended_range e) (kind_at a (number r)) (λ q h. extension_range e q h) (kind_is_proper a (number r) p))
rule_proper c (insn.ByteSwap o w d) a fits p =
    sets_proper a (number d) (number_kind (swapped_range o w) (kind_at a (number d))) p
    (number_is_proper (swapped_range o w) (kind_at a (number d)) (λ r h. swap_range o w r h) (kind_is_proper a (number d) p))
rule_proper c (insn.LoadImmediate d low_half high_half) a fits p =
    sets_proper a (number d) (Ok (Num (single (wide_immediate low_half high_half)))) p
    (single_range (wide_immediate low_half high_half) (wide_immediate_below low_half high_half fits.0 fits.1))
rule_proper c (insn.LoadMapReference d k) a fits p = sets_proper a (number d) (map_kind c.defs k) p (map_is_proper c.defs k)
rule_proper c (insn.Load access d r offset) a fits p = sets_proper a (number d) (load_kind c a access r offset) p (load_is_proper c a access r offset p)
rule_proper c (insn.Store s r offset x) a fits p =
    then_proper (usable (kind_at a (number r))) (λ base. operand_kind a Bits64 x >>= λ k. area_of c.defs base offset (size_bytes s) >>= λ t. stored_in a s k t)
    (λ base. then_kept (operand_kind a Bits64 x) (λ k. area_of c.defs base offset (size_bytes s) >>= λ t. stored_in a s k t) (operand_is_proper a Bits64 x fits.1 p)
    (λ k q. then_proper (area_of c.defs base offset (size_bytes s)) (λ t. stored_in a s k t) (λ t. stored_proper a s k t p q)))
rule_proper c (insn.JumpIf w k r x offset) a fits p =
    then_kept (usable (kind_at a (number r))) (λ j. operand_kind a w x >>= λ l. comparison_rule a (number r) w k (null_test w k x) j l) (usable_kind (kind_at a (number r)) (kind_is_proper a (number r) p))
    (λ j q. then_proper (operand_kind a w x) (λ l. comparison_rule a (number r) w k (null_test w k x) j l) (λ l. compared_proper a (number r) w k (null_test w k x) j l p q))
rule_proper c (insn.Goto offset) a fits p = (tt, p)
rule_proper c (insn.GotoLong offset) a fits p = (tt, p)
rule_proper c (insn.Call k) a fits p = call_proper c.defs c.callback (helper_known c.rules k) a p
rule_proper c insn.Exit a fits p = elim (answers c.callback) as (λ t. FlowsIn (if t then end_rule (kind_at a 0) else Ok (flows None None))) [ true ↦ end_proper (kind_at a 0) | false ↦ (tt, tt) ]

-- ---- states that cover each other

same_range : (r s : Range) → CoversRange r s → CoversRange s r → r ≡ s
same_range r s g h = λ i. record { low = low i; high = high i; shift = shift i }
  where
    low : r.low ≡ s.low
    low = omega (arith, g.low, h.low)

    high : r.high ≡ s.high
    high = omega (arith, g.high, h.high)

    shift : r.shift ≡ s.shift
    shift = omega (arith, g.shift, h.shift)

same_kind : (j k : Kind) → CoversKind j k → CoversKind k j → j ≡ k
same_kind Unusable Unusable g h = refl
same_kind (Num r) (Num s) g h = ap Num (same_range r s g h)
same_kind (Stack o) (Stack p) g h = ap Stack g
same_kind (Elem m r) (Elem n s) g h = λ i. Elem (g.0 i) (same_range r s g.1 h.1 i)
same_kind (ElemOrNull m) (ElemOrNull n) g h = ap ElemOrNull g
same_kind Task Task g h = refl
same_kind TaskOrNull TaskOrNull g h = refl
same_kind (MapRef m) (MapRef n) g h = ap MapRef g
same_kind j k g h = absurd (assumption (g, h))

-- a stored pointer is known by its kind
held_back : (k : Held) → held_of (kind_of k) ≡ Some k
held_back (held.Stack o) = refl
held_back (held.Elem m o) = refl
held_back (held.ElemOrNull m) = refl
held_back held.Task = refl
held_back held.TaskOrNull = refl
held_back (held.MapRef m) = refl

same_some : (j k : Held) → Some j ≡ Some k → j ≡ k
same_some j k e = cc

same_pointer : (j k : Held) → kind_of j ≡ kind_of k → j ≡ k
same_pointer j k e = same_some j k (sym (held_back j) ∙ ap held_of e ∙ held_back k)

same_truth : (x y : Bool) → (x ≡ true → y ≡ true) → (y ≡ true → x ≡ true) → x ≡ y
same_truth true y g h = sym (g refl)
same_truth false true g h = h refl
same_truth false false g h = refl

same_set : (a b : List Bool) → length a ≡ 8 → length b ≡ 8 → IsPartOf a b → IsPartOf b a → a ≡ b
same_set a b p q g h = ext_get_or false a b (p ∙ sym q) (λ i lt. let short : i < 8 = omega (arith, lt, p) in same_truth (is_written a i) (is_written b i) (g i short) (h i short))

same_cell : (x y : Cell) → IsProperCell x → IsProperCell y → CoversCell x y → CoversCell y x → x ≡ y
same_cell (Bytes a) (Bytes b) p q g h = ap Bytes (same_set a b p q g h)
same_cell (Bytes a) (Pointer k) p q g h = absurd h
same_cell (Pointer j) (Bytes b) p q g h = absurd g
same_cell (Pointer j) (Pointer k) p q g h = ap Pointer (same_pointer j k (same_kind (kind_of j) (kind_of k) g h))

-- two proper states that cover each other are one
pub same_state : CoversBothWays
same_state a b p q g h = λ i. record { registers = registers i; cells = cells i }
  where
    registers : a.registers ≡ b.registers
    registers = ext_get_or Unusable a.registers b.registers (p.whole.registers ∙ sym q.whole.registers) (λ r lt. same_kind (kind_at a r) (kind_at b r) (g.registers r) (h.registers r))

    proper : (s : AbsState) (c : ℕ) → IsProper s → c < length a.cells → IsProperCell (cell_at s c)
    proper s c r lt = All-get_or IsProperCell s.cells c (Bytes []) (omega (arith, lt, p.whole.cells, r.whole.cells)) r.cells

    cells : a.cells ≡ b.cells
    cells = ext_get_or (Bytes []) a.cells b.cells (p.whole.cells ∙ sym q.whole.cells) (λ c lt. same_cell (cell_at a c) (cell_at b c) (proper a c p lt) (proper b c q lt) (g.cells c) (h.cells c))
