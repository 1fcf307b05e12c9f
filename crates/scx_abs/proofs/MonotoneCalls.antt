-- Helper calls in a state and in one that it covers.
use Rattle.std.proofs.Common.{◌≡◌, ℕ, zero, suc, pos, ◌+◌, ◌/◌, ◌%◌, ◌<◌, ◌≤◌, ◌⊎◌, inl, inr, Bool, true, false, nat_le, List, [], ◌∷◌, Option, Some, None, Result, Ok, Err, if◌then◌else◌, refl, sym, subst, arith}
use Rattle.std.proofs.lemmas.Bool.{and_parts, and_from, leb-true, le-leb, cases_lt}
use Rattle.scx_isa_semantics.specs.declared.operations.Size.TheVariants as size
use Rattle.scx_isa_semantics.specs.declared.callbacks.Callback.{Callback}
use Rattle.scx_isa_semantics.specs.Memory.{stack_size}
use Rattle.scx_isa_semantics.specs.declared.host_tables.Helper.{Helper}
use Rattle.scx_isa_semantics.specs.declared.host_tables.Helper.TheVariants as helper
use Rattle.scx_isa_semantics.specs.declared.host_tables.Parameter.{Parameter}
use Rattle.scx_isa_semantics.specs.declared.host_tables.Parameter.TheVariants as parameter
use Rattle.scx_isa_semantics.specs.HostTables.{parameters, answers_task, is_allowed}
use Rattle.scx_isa_semantics.specs.declared.host_tables.MapHelper.TheVariants.{Update, Delete, Push, Pop, Peek, LookUpPerCpu}
use Rattle.scx_isa_semantics.specs.declared.map_kinds.KeySize.{KeySize}
use Rattle.scx_isa_semantics.specs.declared.map_kinds.KeySize.TheVariants.{Four, Eight}
use Rattle.scx_isa_semantics.specs.Directories.{key_size}
use Rattle.scx_isa_semantics.specs.Calls.{key_bytes}
use Rattle.scx_maps.specs.declared.shape.Shape.{Shape}
use Rattle.scx_maps.specs.Layout.{shape_at}
use Rattle.scx_abs.specs.declared.faults.Why.{Why}
use Rattle.scx_abs.specs.declared.faults.Why.TheVariants.{OutOfBounds, UnwrittenStack, HelperNotHere, BadArgument}
use Rattle.scx_abs_ranges.specs.Ranges.{all}
use Rattle.scx_abs.specs.declared.kinds.Kind.{Kind}
use Rattle.scx_abs.specs.declared.kinds.Kind.TheVariants as kind
use Rattle.scx_abs.specs.declared.kinds.Kind.TheVariants.{Unusable, Num, Elem, Task, TaskOrNull, MapRef}
use Rattle.scx_abs.specs.declared.states.AbsState.{AbsState}
use Rattle.scx_abs.specs.Kinds.{CoversKind, IsProperKind}
use Rattle.scx_abs.specs.declared.kinds.Cell.{Cell}
use Rattle.scx_abs.specs.declared.kinds.Cell.TheVariants.{Bytes}
use Rattle.scx_abs.specs.Cells.{is_written, written_in, with_bytes, CoversCell}
use Rattle.scx_abs.specs.States.{CoversState, IsProper, kind_at, cell_at, with_kind, with_cell}
use Rattle.scx_abs.specs.Checks.{goes_on, element_size, offset_for}
use Rattle.scx_abs.specs.Calls.{map_named, map_at_hand, key_bytes_at_hand, value_bytes_at_hand, key_in, key_check, room_check, are_written, filled_check, value_check, task_check, number_check, takes_shape, IsMapParameter, map_check, takes, argument_check, arguments_check, with_written, filled, after_giving, after_call, element_of, answer_kind, call_allowed, call_rule}
use Rattle.scx_abs.specs.Monotone.{PassesToo, CoversFlows}
use Rattle.scx_abs.proofs.Orders.{kind_itself}
use Rattle.scx_abs.proofs.Bytes.{fits_cell}
use Rattle.scx_abs.proofs.Proper.{kind_is_proper, kind_proper, cell_proper, giving_proper}
use Rattle.scx_abs.proofs.Fillings.{no_cell}
use Rattle.scx_abs.proofs.HelperCalls.{ArePlain, behind_plain}
use Rattle.scx_abs.proofs.MonotoneRegisters.{passes_then, CoversUsable, with_kind_covers, with_cell_covers, on_monotone}
use Rattle.scx_abs.proofs.MonotoneAccesses.{SamePlace, NoMore, offset_monotone, offsets_monotone, read_monotone, written_covers, marked_part}

-- ---- arguments

key_monotone : (shapes : List Shape) (b a : AbsState) (z : KeySize) (j k : Kind) → CoversState b a → CoversUsable j k → PassesToo NoMore (key_check shapes b (key_bytes z) j) (key_check shapes a (key_bytes z) k)
key_monotone shapes b a Four (kind.Stack o) (kind.Stack p) h g =
    rw g.1 (passes_then (SamePlace stack_size 4) NoMore (offset_for stack_size 4 (Some p)) (offset_for stack_size 4 (Some p))
    (λ at. key_in (cell_at b (at / 8)) (at % 8) 4) (λ at. key_in (cell_at a (at / 8)) (at % 8) 4) (offset_monotone stack_size 4 (Some p))
    (λ x y f. rw f.0 (read_monotone NoMore tt (written_in (cell_at b (y / 8))) (written_in (cell_at a (y / 8))) (y % 8) 4 tt (fits_cell size.Word y f.1.aligned)
    (written_covers (cell_at b (y / 8)) (cell_at a (y / 8)) (h.cells (y / 8))))))
key_monotone shapes b a Eight (kind.Stack o) (kind.Stack p) h g =
    rw g.1 (passes_then (SamePlace stack_size 8) NoMore (offset_for stack_size 8 (Some p)) (offset_for stack_size 8 (Some p))
    (λ at. key_in (cell_at b (at / 8)) (at % 8) 8) (λ at. key_in (cell_at a (at / 8)) (at % 8) 8) (offset_monotone stack_size 8 (Some p))
    (λ x y f. rw f.0 (read_monotone NoMore tt (written_in (cell_at b (y / 8))) (written_in (cell_at a (y / 8))) (y % 8) 8 tt (fits_cell size.DoubleWord y f.1.aligned)
    (written_covers (cell_at b (y / 8)) (cell_at a (y / 8)) (h.cells (y / 8))))))
key_monotone shapes b a z (kind.Stack o) k h g = absurd g.1
key_monotone shapes b a Four (Elem m c) (Elem n r) h g = rw g.1.0 (offsets_monotone (element_size shapes n) size.Word c r (pos 0) g.2 g.3 g.1.1)
key_monotone shapes b a Eight (Elem m c) (Elem n r) h g = rw g.1.0 (offsets_monotone (element_size shapes n) size.DoubleWord c r (pos 0) g.2 g.3 g.1.1)
key_monotone shapes b a z (Elem m c) k h g = absurd g.1
key_monotone shapes b a z j k h g = tt

-- ---- values

-- the same place of the stack, or elements
abbrev SameRoom : Kind → Kind → Type 0
SameRoom (kind.Stack o) (kind.Stack p) = o ≡ p
SameRoom (Elem m c) (Elem n r) = Unit {0}
SameRoom j k = ⊥

fits_too : (x y size : ℕ) → y ≤ x → PassesToo (λ (u v : Unit {0}). Unit {0}) (if nat_le x size then Ok tt else Err OutOfBounds) (if nat_le y size then Ok tt else Err OutOfBounds)
fits_too x y size h = go (nat_le x size) refl
  where
    go : (t : Bool) → nat_le x size ≡ t → PassesToo (λ (u v : Unit {0}). Unit {0}) (if t then Ok tt else Err OutOfBounds) (if nat_le y size then Ok tt else Err OutOfBounds)
    go true e = rw (le-leb y size (omega (arith, h, leb-true x size e))) tt
    go false e = tt

-- what passes is in a relation that holds in any case
related : (R : Unit {0} → Unit {0} → Type 0) (r s : Result (Unit {0}) Why) → R tt tt → PassesToo (λ u v. Unit {0}) r s → PassesToo R r s
related R (Err why) s x h = tt
related R (Ok u) (Err why) x h = h
related R (Ok u) (Ok v) x h = x

room_monotone : (shapes : List Shape) (n : ℕ) (j k : Kind) → CoversUsable j k → PassesToo (λ u v. SameRoom j k) (room_check shapes n j) (room_check shapes n k)
room_monotone shapes n (kind.Stack o) (kind.Stack p) g =
    related (λ u v. o ≡ p) (room_check shapes n (kind.Stack o)) (room_check shapes n (kind.Stack p)) g.1 (fits_too (o + n) (p + n) stack_size (omega (arith, g.1)))
room_monotone shapes n (kind.Stack o) k g = absurd g.1
room_monotone shapes n (Elem m c) (Elem e r) g =
    let high : r.high ≤ c.high = g.1.1.high in
    rw g.1.0 (related (λ u v. Unit {0}) (if nat_le (c.high + n) (element_size shapes e) then Ok tt else Err OutOfBounds) (if nat_le (r.high + n) (element_size shapes e) then Ok tt else Err OutOfBounds) tt
    (fits_too (c.high + n) (r.high + n) (element_size shapes e) (omega (arith, high))))
room_monotone shapes n (Elem m c) k g = absurd g.1
room_monotone shapes n j k g = tt

written_too : (b a : AbsState) (at n : ℕ) → CoversState b a → are_written b at n ≡ true → are_written a at n ≡ true
written_too b a at zero h e = refl
written_too b a at (suc n) h e =
    let both = and_parts (is_written (written_in (cell_at b (at / 8))) (at % 8)) (are_written b (at + 1) n) e in
    and_from (is_written (written_in (cell_at a (at / 8))) (at % 8)) (are_written a (at + 1) n)
    (written_covers (cell_at b (at / 8)) (cell_at a (at / 8)) (h.cells (at / 8)) (at % 8) (omega arith) both.0) (written_too b a (at + 1) n h both.1)

filled_monotone : (b a : AbsState) (n : ℕ) (j k : Kind) → CoversState b a → SameRoom j k → PassesToo NoMore (filled_check b n j) (filled_check a n k)
filled_monotone b a n (kind.Stack o) (kind.Stack p) h g = rw g (go (are_written b p n) refl)
  where
    go : (t : Bool) → are_written b p n ≡ t → PassesToo NoMore (if t then Ok tt else Err UnwrittenStack) (if are_written a p n then Ok tt else Err UnwrittenStack)
    go true e = rw (written_too b a p n h e) tt
    go false e = tt
filled_monotone b a n (kind.Stack o) k h g = absurd g
filled_monotone b a n (Elem m c) (Elem e r) h g = tt
filled_monotone b a n j k h g = absurd g

value_monotone : (shapes : List Shape) (b a : AbsState) (n : ℕ) (j k : Kind) → CoversState b a → CoversUsable j k → PassesToo NoMore (value_check shapes b n j) (value_check shapes a n k)
value_monotone shapes b a n j k h g =
    passes_then (λ u v. SameRoom j k) NoMore (room_check shapes n j) (room_check shapes n k) (λ room. filled_check b n j) (λ room. filled_check a n k) (room_monotone shapes n j k g) (λ u v f. filled_monotone b a n j k h f)

-- ---- each argument

-- both mean the same map
abbrev Agree : AbsState → AbsState → Type 0
Agree b a = map_at_hand b ≡ map_at_hand a

map_monotone : (shapes : List Shape) (p : Parameter) (j k : Kind) → CoversUsable j k → PassesToo (λ u v. map_named j ≡ map_named k) (map_check shapes p j) (map_check shapes p k)
map_monotone shapes p (MapRef m) (MapRef n) g =
    rw g.1 (elim (takes_shape p (shape_at shapes n)) as (λ t. PassesToo (λ (u v : Unit {0}). n ≡ n) (if t then Ok tt else Err BadArgument) (if t then Ok tt else Err BadArgument)) [ true ↦ refl | false ↦ tt ])
map_monotone shapes p (MapRef m) k g = absurd g.1
map_monotone shapes p j k g = tt

no_more : (R : Unit {0} → Unit {0} → Type 0) (r s : Result (Unit {0}) Why) → PassesToo R r s → PassesToo NoMore r s
no_more R (Err why) s h = tt
no_more R (Ok u) (Err why) h = h
no_more R (Ok u) (Ok v) h = tt

task_monotone : (j k : Kind) → CoversUsable j k → PassesToo NoMore (task_check j) (task_check k)
task_monotone Task Task g = tt
task_monotone Task k g = absurd g.1
task_monotone j k g = tt

number_monotone : (j k : Kind) → CoversUsable j k → PassesToo NoMore (number_check j) (number_check k)
number_monotone (Num s) (Num r) g = tt
number_monotone (Num s) k g = absurd g.1
number_monotone j k g = tt

takes_monotone : (shapes : List Shape) (b a : AbsState) (p : Parameter) (j k : Kind) → Agree b a → CoversState b a → CoversUsable j k → PassesToo NoMore (takes shapes b p j) (takes shapes a p k)
takes_monotone shapes b a parameter.Key j k e h g = subst (λ q. PassesToo NoMore (key_check shapes b (key_bytes (key_size (shape_at shapes q).kind)) j) (key_check shapes a (key_bytes_at_hand shapes a) k)) (sym e) (key_monotone shapes b a (key_size (shape_at shapes (map_at_hand a)).kind) j k h g)
takes_monotone shapes b a parameter.Value j k e h g = subst (λ q. PassesToo NoMore (value_check shapes b (element_size shapes q) j) (value_check shapes a (value_bytes_at_hand shapes a) k)) (sym e) (value_monotone shapes b a (element_size shapes (map_at_hand a)) j k h g)
takes_monotone shapes b a parameter.Room j k e h g = subst (λ q. PassesToo NoMore (room_check shapes (element_size shapes q) j) (room_check shapes (value_bytes_at_hand shapes a) k)) (sym e) (no_more (λ u v. SameRoom j k) (room_check shapes (element_size shapes (map_at_hand a)) j) (room_check shapes (element_size shapes (map_at_hand a)) k) (room_monotone shapes (element_size shapes (map_at_hand a)) j k g))
takes_monotone shapes b a parameter.Task j k e h g = task_monotone j k g
takes_monotone shapes b a parameter.Number j k e h g = number_monotone j k g
takes_monotone shapes b a p j k e h g = no_more (λ u v. map_named j ≡ map_named k) (map_check shapes p j) (map_check shapes p k) (map_monotone shapes p j k g)

argument_monotone : (shapes : List Shape) (b a : AbsState) (p : Parameter) (j k : Kind) → Agree b a → CoversState b a → CoversKind j k → IsProperKind j → IsProperKind k
    → PassesToo NoMore (argument_check shapes b p j) (argument_check shapes a p k)
argument_monotone shapes b a p Unusable k e h g v w = tt
argument_monotone shapes b a p j Unusable e h g v w = absurd g
argument_monotone shapes b a p j k e h g v w = takes_monotone shapes b a p j k e h (tt, g, v, w)

arguments_monotone : (shapes : List Shape) (b a : AbsState) (ps : List Parameter) (r : ℕ) → Agree b a → IsProper b → IsProper a → CoversState b a → PassesToo NoMore (arguments_check shapes b ps r) (arguments_check shapes a ps r)
arguments_monotone shapes b a [] r e v w h = tt
arguments_monotone shapes b a (p ∷ ps) r e v w h =
    passes_then NoMore NoMore (argument_check shapes b p (kind_at b r)) (argument_check shapes a p (kind_at a r)) (λ here. arguments_check shapes b ps (r + 1)) (λ here. arguments_check shapes a ps (r + 1))
    (argument_monotone shapes b a p (kind_at b r) (kind_at a r) e h (h.registers r) (kind_is_proper b r v) (kind_is_proper a r w)) (λ x y f. arguments_monotone shapes b a ps (r + 1) e v w h)

-- ---- after a call

element_of_monotone : (j k : Kind) → CoversKind j k → CoversKind (element_of j) (element_of k)
element_of_monotone (MapRef m) (MapRef n) h = h
element_of_monotone (MapRef m) k h = absurd h
element_of_monotone j k h = tt

answer_monotone : (h : Helper) (j k : Kind) → CoversKind j k → CoversKind (answer_kind h j) (answer_kind h k)
answer_monotone helper.MapLookupElem j k g = element_of_monotone j k g
answer_monotone (helper.OnMap LookUpPerCpu) j k g = element_of_monotone j k g
answer_monotone h j k g = kind_itself (if answers_task h then TaskOrNull else Num all)

after_monotone : (b a : AbsState) (j k : Kind) → IsProper a → CoversState b a → CoversKind j k → CoversState (after_call b j) (after_call a k)
after_monotone b a j k p h g =
    let b1 = with_kind b 1 Unusable in
    let b2 = with_kind b1 2 Unusable in
    let b3 = with_kind b2 3 Unusable in
    let b4 = with_kind b3 4 Unusable in
    let b5 = with_kind b4 5 Unusable in
    let a1 = with_kind a 1 Unusable in
    let a2 = with_kind a1 2 Unusable in
    let a3 = with_kind a2 3 Unusable in
    let a4 = with_kind a3 4 Unusable in
    let a5 = with_kind a4 5 Unusable in
    let p1 = kind_proper a 1 Unusable p tt in
    let p2 = kind_proper a1 2 Unusable p1 tt in
    let p3 = kind_proper a2 3 Unusable p2 tt in
    let p4 = kind_proper a3 4 Unusable p3 tt in
    let p5 = kind_proper a4 5 Unusable p4 tt in
    let h1 = with_kind_covers b a 1 Unusable Unusable (omega arith) p h tt in
    let h2 = with_kind_covers b1 a1 2 Unusable Unusable (omega arith) p1 h1 tt in
    let h3 = with_kind_covers b2 a2 3 Unusable Unusable (omega arith) p2 h2 tt in
    let h4 = with_kind_covers b3 a3 4 Unusable Unusable (omega arith) p3 h3 tt in
    let h5 = with_kind_covers b4 a4 5 Unusable Unusable (omega arith) p4 h4 tt in
    with_kind_covers b5 a5 0 j k (omega arith) p5 h5 g

-- ---- what a helper takes, and gives

-- a first argument that is a map
map_first : (shapes : List Shape) (b a : AbsState) (p : Parameter) (j k : Kind) → IsMapParameter p → CoversKind j k → IsProperKind j → IsProperKind k → PassesToo (λ u v. map_named j ≡ map_named k) (argument_check shapes b p j) (argument_check shapes a p k)
map_first shapes b a p Unusable k i g v w = tt
map_first shapes b a p j Unusable i g v w = absurd g
map_first shapes b a parameter.Map j k i g v w = map_monotone shapes parameter.Map j k (tt, g, v, w)
map_first shapes b a parameter.PerCpuMap j k i g v w = map_monotone shapes parameter.PerCpuMap j k (tt, g, v, w)
map_first shapes b a parameter.LineMap j k i g v w = map_monotone shapes parameter.LineMap j k (tt, g, v, w)
map_first shapes b a p j k i g v w = absurd i

-- a room
room_argument : (shapes : List Shape) (b a : AbsState) (j k : Kind) → Agree b a → CoversKind j k → IsProperKind j → IsProperKind k → PassesToo (λ u v. SameRoom j k) (argument_check shapes b parameter.Room j) (argument_check shapes a parameter.Room k)
room_argument shapes b a Unusable k e g v w = tt
room_argument shapes b a j Unusable e g v w = absurd g
room_argument shapes b a j k e g v w = subst (λ q. PassesToo (λ (x y : Unit {0}). SameRoom j k) (room_check shapes (element_size shapes q) j) (room_check shapes (value_bytes_at_hand shapes a) k)) (sym e) (room_monotone shapes (element_size shapes (map_at_hand a)) j k (tt, g, v, w))

-- both write what a helper gives to the same place
abbrev SameGiven : Helper → AbsState → AbsState → Type 0
SameGiven (helper.OnMap Pop) b a = Agree b a × SameRoom (kind_at b 2) (kind_at a 2)
SameGiven (helper.OnMap Peek) b a = Agree b a × SameRoom (kind_at b 2) (kind_at a 2)
SameGiven h b a = Unit {0}

module _ (shapes : List Shape) (b a : AbsState) (q : IsProper b) (p : IsProper a) (g : CoversState b a) where
  on_map : (m : Parameter) (ps : List Parameter) → IsMapParameter m → PassesToo NoMore (arguments_check shapes b (m ∷ ps) 1) (arguments_check shapes a (m ∷ ps) 1)
  on_map m ps i =
      passes_then (λ u v. Agree b a) NoMore (argument_check shapes b m (kind_at b 1)) (argument_check shapes a m (kind_at a 1)) (λ here. arguments_check shapes b ps 2) (λ here. arguments_check shapes a ps 2)
      (map_first shapes b a m (kind_at b 1) (kind_at a 1) i (g.registers 1) (kind_is_proper b 1 q) (kind_is_proper a 1 p)) (λ u v e. arguments_monotone shapes b a ps 2 e q p g)

  giving : PassesToo (λ u v. Agree b a × SameRoom (kind_at b 2) (kind_at a 2)) (arguments_check shapes b (parameter.LineMap ∷ parameter.Room ∷ []) 1) (arguments_check shapes a (parameter.LineMap ∷ parameter.Room ∷ []) 1)
  giving =
      passes_then (λ u v. Agree b a) (λ u v. Agree b a × SameRoom (kind_at b 2) (kind_at a 2)) (argument_check shapes b parameter.LineMap (kind_at b 1)) (argument_check shapes a parameter.LineMap (kind_at a 1))
      (λ here. arguments_check shapes b (parameter.Room ∷ []) 2) (λ here. arguments_check shapes a (parameter.Room ∷ []) 2)
      (map_first shapes b a parameter.LineMap (kind_at b 1) (kind_at a 1) tt (g.registers 1) (kind_is_proper b 1 q) (kind_is_proper a 1 p))
      (λ u v e. passes_then (λ u v. SameRoom (kind_at b 2) (kind_at a 2)) (λ u v. Agree b a × SameRoom (kind_at b 2) (kind_at a 2)) (argument_check shapes b parameter.Room (kind_at b 2)) (argument_check shapes a parameter.Room (kind_at a 2))
      (λ here. Ok tt) (λ here. Ok tt) (room_argument shapes b a (kind_at b 2) (kind_at a 2) e (g.registers 2) (kind_is_proper b 2 q) (kind_is_proper a 2 p)) (λ u v f. (e, f)))

  plain_argument : (m : Parameter) (ps : List Parameter) (j k : Kind) → ArePlain (m ∷ ps) → CoversKind j k → IsProperKind j → IsProperKind k → PassesToo NoMore (argument_check shapes b m j) (argument_check shapes a m k)
  plain_argument m ps Unusable k i c v w = tt
  plain_argument m ps j Unusable i c v w = absurd c
  plain_argument parameter.Task ps j k i c v w = task_monotone j k (tt, c, v, w)
  plain_argument parameter.Number ps j k i c v w = number_monotone j k (tt, c, v, w)
  plain_argument m ps j k i c v w = absurd i

  plain_monotone : (ps : List Parameter) (r : ℕ) → ArePlain ps → PassesToo NoMore (arguments_check shapes b ps r) (arguments_check shapes a ps r)
  plain_monotone [] r i = tt
  plain_monotone (m ∷ ps) r i =
      passes_then NoMore NoMore (argument_check shapes b m (kind_at b r)) (argument_check shapes a m (kind_at a r)) (λ here. arguments_check shapes b ps (r + 1)) (λ here. arguments_check shapes a ps (r + 1))
      (plain_argument m ps (kind_at b r) (kind_at a r) i (g.registers r) (kind_is_proper b r q) (kind_is_proper a r p)) (λ u v f. plain_monotone ps (r + 1) (behind_plain m ps i))

  helper_monotone : (h : Helper) → PassesToo (λ u v. SameGiven h b a) (arguments_check shapes b (parameters h) 1) (arguments_check shapes a (parameters h) 1)
  helper_monotone helper.MapLookupElem = on_map parameter.Map (parameter.Key ∷ []) tt
  helper_monotone (helper.OnMap Update) = on_map parameter.Map (parameter.Key ∷ parameter.Value ∷ parameter.Number ∷ []) tt
  helper_monotone (helper.OnMap Delete) = on_map parameter.Map (parameter.Key ∷ []) tt
  helper_monotone (helper.OnMap Push) = on_map parameter.LineMap (parameter.Value ∷ parameter.Number ∷ []) tt
  helper_monotone (helper.OnMap Pop) = giving
  helper_monotone (helper.OnMap Peek) = giving
  helper_monotone (helper.OnMap LookUpPerCpu) = on_map parameter.PerCpuMap (parameter.Key ∷ parameter.Number ∷ []) tt
  helper_monotone h = plain_monotone (parameters h) 1 tt

-- ---- bytes that are written

cell_covers : (b a : AbsState) (c : ℕ) (x y : Cell) → IsProper b → IsProper a → CoversState b a → CoversCell x y → CoversState (with_cell b c x) (with_cell a c y)
cell_covers b a c x y q p g h = go (cases_lt c 64)
  where
    go : (c < 64) ⊎ (64 ≤ c) → CoversState (with_cell b c x) (with_cell a c y)
    go (inl lt) = with_cell_covers b a c x y lt p g h
    go (inr ge) = rw (no_cell b c x (omega (arith, ge, q.whole.cells)), no_cell a c y (omega (arith, ge, p.whole.cells))) g

written_covers_too : (b a : AbsState) (at n : ℕ) → IsProper b → IsProper a → CoversState b a → CoversState (with_written b at n) (with_written a at n)
written_covers_too b a at zero q p g = g
written_covers_too b a at (suc n) q p g =
    let x = Bytes (with_bytes (written_in (cell_at b (at / 8))) (at % 8) 1) in
    let y = Bytes (with_bytes (written_in (cell_at a (at / 8))) (at % 8) 1) in
    let part = marked_part (written_in (cell_at b (at / 8))) (written_in (cell_at a (at / 8))) (at % 8) 1 (written_covers (cell_at b (at / 8)) (cell_at a (at / 8)) (g.cells (at / 8))) in
    written_covers_too (with_cell b (at / 8) x) (with_cell a (at / 8) y) (at + 1) n (cell_proper b (at / 8) x q refl) (cell_proper a (at / 8) y p refl) (cell_covers b a (at / 8) x y q p g part)

filled_covers : (b a : AbsState) (n : ℕ) (j k : Kind) → IsProper b → IsProper a → CoversState b a → SameRoom j k → CoversState (filled b n j) (filled a n k)
filled_covers b a n (kind.Stack o) (kind.Stack o') q p g h = rw h (written_covers_too b a o' n q p g)
filled_covers b a n (kind.Stack o) k q p g h = absurd h
filled_covers b a n (Elem m c) (Elem e r) q p g h = g
filled_covers b a n j k q p g h = absurd h

giving_covers : (shapes : List Shape) (h : Helper) (b a : AbsState) → IsProper b → IsProper a → CoversState b a → SameGiven h b a → CoversState (after_giving shapes h b) (after_giving shapes h a)
giving_covers shapes (helper.OnMap Pop) b a q p g e = subst (λ n. CoversState (filled b (element_size shapes n) (kind_at b 2)) (filled a (value_bytes_at_hand shapes a) (kind_at a 2))) (sym e.0) (filled_covers b a (element_size shapes (map_at_hand a)) (kind_at b 2) (kind_at a 2) q p g e.1)
giving_covers shapes (helper.OnMap Peek) b a q p g e = subst (λ n. CoversState (filled b (element_size shapes n) (kind_at b 2)) (filled a (value_bytes_at_hand shapes a) (kind_at a 2))) (sym e.0) (filled_covers b a (element_size shapes (map_at_hand a)) (kind_at b 2) (kind_at a 2) q p g e.1)
giving_covers shapes h b a q p g e = g

-- all calls
pub call_monotone : (shapes : List Shape) (c : Callback) (h : Option Helper) (b a : AbsState) → IsProper b → IsProper a → CoversState b a → PassesToo CoversFlows (call_rule shapes c h b) (call_rule shapes c h a)
call_monotone shapes c None b a q p g = tt
call_monotone shapes c (Some h) b a q p g =
    elim (is_allowed h c) as (λ t. PassesToo CoversFlows (if t then call_allowed shapes h b else Err HelperNotHere) (if t then call_allowed shapes h a else Err HelperNotHere)) [
      | true ↦ passes_then (λ u v. SameGiven h b a) CoversFlows (arguments_check shapes b (parameters h) 1) (arguments_check shapes a (parameters h) 1)
          (λ fine. goes_on (after_call (after_giving shapes h b) (answer_kind h (kind_at b 1)))) (λ fine. goes_on (after_call (after_giving shapes h a) (answer_kind h (kind_at a 1)))) (helper_monotone shapes b a q p g h)
          (λ x y f. on_monotone (after_call (after_giving shapes h b) (answer_kind h (kind_at b 1))) (after_call (after_giving shapes h a) (answer_kind h (kind_at a 1)))
          (after_monotone (after_giving shapes h b) (after_giving shapes h a) (answer_kind h (kind_at b 1)) (answer_kind h (kind_at a 1)) (giving_proper shapes h a p) (giving_covers shapes h b a q p g f) (answer_monotone h (kind_at b 1) (kind_at a 1) (g.registers 1))))
      | false ↦ tt
    ]
