-- Helper calls: what the checks pass the helper takes, and the state after a call.
use Rattle.std.proofs.Common.{◌≡◌, ℕ, zero, suc, ◌+◌, ◌*◌, ◌/◌, ◌%◌, ◌<◌, ◌≤◌, ◌⊎◌, inl, inr, Bool, true, false, ◌&&◌, nat_le, nat_lt, pos, List, [], ◌∷◌, length, get_or, slice_get, Option, Some, None, is_some, option_map, Result, Ok, Err, if◌then◌else◌, MatchBool, ◌^◌, refl, sym, ap, ◌∙◌, subst, arith}
use Rattle.std.proofs.lemmas.Bool.{and_parts, and_from, lt-ltb, ltb-true, leb-true, le-leb, cases_lt}
use Rattle.std.proofs.lemmas.Option.{slice_get_cases, get_or_from_slice_get}
use Rattle.scx_isa_semantics.specs.declared.operations.Size.TheVariants as sizes
use Rattle.scx_isa_semantics.specs.declared.callbacks.Callback.{Callback}
use Rattle.scx_isa_semantics.specs.declared.host_tables.Helper.{Helper}
use Rattle.scx_isa_semantics.specs.declared.host_tables.Helper.TheVariants as helper
use Rattle.scx_isa_semantics.specs.declared.host_tables.MapHelper.{MapHelper}
use Rattle.scx_isa_semantics.specs.declared.host_tables.MapHelper.TheVariants.{Update, Delete, Push, Pop, Peek, LookUpPerCpu}
use Rattle.scx_isa_semantics.specs.declared.map_kinds.KeySize.{KeySize}
use Rattle.scx_isa_semantics.specs.declared.map_kinds.KeySize.TheVariants.{Four, Eight}
use Rattle.scx_isa_semantics.specs.declared.values.StackByte.{StackByte}
use Rattle.scx_isa_semantics.specs.declared.values.StackByte.TheVariants as byte
use Rattle.scx_isa_semantics.specs.declared.host_tables.Parameter.{Parameter}
use Rattle.scx_isa_semantics.specs.declared.host_tables.Parameter.TheVariants as parameter
use Rattle.scx_isa_semantics.specs.declared.rules.Rules.{Rules}
use Rattle.scx_isa_semantics.specs.declared.values.Value.{Value}
use Rattle.scx_isa_semantics.specs.declared.values.Value.TheVariants as value
use Rattle.scx_isa_semantics.specs.declared.values.Pointer.TheVariants as pointer
use Rattle.scx_isa_semantics.specs.Arithmetic.{at_distance}
use Rattle.scx_isa_semantics.specs.Memory.{Stack, stack_size, aligned_within, bytes_at, load}
use Rattle.scx_isa_semantics.specs.HostTables.{parameters, map_parameters, fits_map, answers_task, is_known, is_allowed, if_known}
use Rattle.scx_isa_semantics.specs.Runs.{IsNumberBelow, IsTaskOrNull}
use Rattle.scx_isa_semantics.specs.Elements.{Maps, count, directory, with_directory, elements, element}
use Rattle.scx_isa_semantics.specs.Directories as directories
use Rattle.scx_isa_semantics.specs.Directories.{Directory, kind_of, key_size, peeked, shortened}
use Rattle.scx_isa_semantics.specs.Serving.{Answer, Gives, slot_count, bytes_from, found}
use Rattle.scx_isa_semantics.specs.Locations as location
use Rattle.scx_isa_semantics.specs.Locations.{on_stack, in_element}
use Rattle.scx_isa_semantics.specs.Machine.{Machine, with_register, with_maps}
use Rattle.scx_isa_semantics.specs.Effects as effect
use Rattle.scx_isa_semantics.specs.Calls as meaning
use Rattle.scx_isa_semantics.specs.Calls.{number_of, map_in, map_or_first, key_access, key_bytes, key_at, key_of_size, key_size_at_hand, key, key_given, value_given, number_given, fitting, region, region_at_hand, numbers_in, is_room, takes_all, nothing_given, asks_here, element_or_0, served, after_serving, map_effect, looked_up, call_effect, call_helper}
use Rattle.scx_maps.specs.declared.shape.Shape.{Shape}
use Rattle.scx_maps.specs.Slots.{slots}
use Rattle.scx_maps.specs.Unused.{unused_shape}
use Rattle.scx_maps.specs.Layout.{shape_at}
use Rattle.scx_maps.specs.Contents.{HasShapes}
use Rattle.scx_maps.proofs.Shaped.{length-shaped, length-entries-shaped}
use Rattle.scx_maps.proofs.KindsOfShapes.{kind-shaped}
use Rattle.scx_maps.proofs.Served.{update_shaped, delete_shaped, push_shaped, pop_shaped, peek_shaped, given_long, given_bytes}
use Rattle.scx_vm.proofs.MapCalls.{value_sound}
use Rattle.scx_abs.specs.declared.faults.Why.{Why}
use Rattle.scx_abs.specs.declared.faults.Why.TheVariants.{UnwrittenStack, OutOfBounds, HelperNotHere, BadArgument}
use Rattle.scx_abs_ranges.specs.declared.ranges.Range.{Range}
use Rattle.scx_abs_ranges.specs.Ranges.{IsIn, IsWellFormed, all}
use Rattle.scx_abs.specs.declared.kinds.Kind.{Kind}
use Rattle.scx_abs.specs.declared.kinds.Kind.TheVariants as kind
use Rattle.scx_abs.specs.declared.kinds.Kind.TheVariants.{Unusable, Num, Elem, ElemOrNull, Task, TaskOrNull, MapRef}
use Rattle.scx_abs.specs.declared.kinds.Cell.{Cell}
use Rattle.scx_abs.specs.declared.kinds.Cell.TheVariants.{Bytes, Pointer}
use Rattle.scx_abs.specs.declared.states.AbsState.{AbsState}
use Rattle.scx_abs.specs.Cells.{no_bytes, is_written, all_written, written_in}
use Rattle.scx_abs.specs.Kinds.{IsProperKind}
use Rattle.scx_abs.specs.States.{kind_at, cell_at, with_kind, IsProper}
use Rattle.scx_abs.specs.Stands.{Stands, IsByte, CellStands, IsMember}
use Rattle.scx_isa_semantics.specs.Results.{◌>>=◌}
use Rattle.scx_abs.specs.Checks.{goes_on, element_size, offsets_for}
use Rattle.scx_abs.specs.Calls as rules
use Rattle.scx_abs.specs.Calls.{key_in, key_check, room_check, are_written, value_check, takes_shape, argument_check, arguments_check, element_of, answer_kind, filled, after_giving, call_allowed, call_rule}
use Rattle.scx_abs.specs.Laws.{IsSoundFor}
use Rattle.scx_abs.proofs.Orders.{none_written}
use Rattle.scx_abs.proofs.Bytes.{bytes_read, written_at}
use Rattle.scx_abs.proofs.Proper.{kind_is_proper}
use Rattle.scx_abs.proofs.Registers.{kind_member, number_stands, task_or_null_fits}
use Rattle.scx_abs.proofs.Elements.{offset_cases, offsets_cases, element_sized, maps_member}
use Rattle.scx_abs.proofs.Filled.{given_member}
use Rattle.scx_abs.proofs.Codes.{updated_small, deleted_small, pushed_small, peeked_small}
use Rattle.scx_abs.proofs.Accesses.{bytes_stand}

-- ---- arguments

-- what a check passes a helper takes
abbrev Passes : Result (Unit {0}) Why → Bool → Type 0
Passes (Err why) b = Unit {0}
Passes (Ok fine) b = b ≡ true

-- bytes of the stack, all known to be written, are a key
word_read : (maps : Maps) (cell : Cell) (stack : Stack) (z : KeySize) (at : ℕ) → CellStands maps cell stack (8 * (at / 8)) → at % 8 + key_bytes z ≤ 8 → all_written (written_in cell) (at % 8) (key_bytes z) ≡ true
    → is_some (number_of (load stack (key_access z) at)) ≡ true
word_read maps (Bytes set) stack Four at h fits e = let read = bytes_read stack at 4 (bytes_stand maps set stack at 4 h fits e) in rw read.1 refl
word_read maps (Bytes set) stack Eight at h fits e = let read = bytes_read stack at 8 (bytes_stand maps set stack at 8 h fits e) in rw read.1 refl
word_read maps (Pointer k) stack Four at h fits e = absurd (none_written (at % 8 + 0) (omega arith) (written_at no_bytes (at % 8) 4 0 e (omega arith)))
word_read maps (Pointer k) stack Eight at h fits e = absurd (none_written (at % 8 + 0) (omega arith) (written_at no_bytes (at % 8) 8 0 e (omega arith)))

-- a key lies in a cell
key_fits : (z : KeySize) (at : ℕ) → at % key_bytes z ≡ 0 → at % 8 + key_bytes z ≤ 8
key_fits Four at h = omega (arith, h)
key_fits Eight at h = omega (arith, h)

stack_key : (shapes : List Shape) (a : AbsState) (m : Machine) (z : KeySize) (at : ℕ) → IsMember shapes a m → at % key_bytes z ≡ 0
    → Passes (key_in (cell_at a (at / 8)) (at % 8) (key_bytes z)) (is_some (key_at m z (location.OnStack at)))
stack_key shapes a m z at h aligned = go (all_written (written_in (cell_at a (at / 8))) (at % 8) (key_bytes z)) refl
  where
    go : (b : Bool) → all_written (written_in (cell_at a (at / 8))) (at % 8) (key_bytes z) ≡ b → Passes (if b then Ok tt else Err UnwrittenStack) (is_some (key_at m z (location.OnStack at)))
    go true e = word_read m.maps (cell_at a (at / 8)) m.stack z at (h.cells (at / 8)) (key_fits z at aligned) e
    go false e = tt

element_key : (m : Machine) (z : KeySize) (k i size p : ℕ) (r : Range) → IsWellFormed r → IsIn p r → length (element m.maps k i) ≡ size
    → Passes (offsets_for size (key_bytes z) r (pos 0)) (is_some (key_at m z (in_element k i (aligned_within (length (element m.maps k i)) (key_bytes z) (at_distance p (pos 0))))))
element_key m Four k i size p r w h long =
    rw (← long) (offsets_cases (length (element m.maps k i)) sizes.Word r (pos 0) p (λ x o. Passes x (is_some (key_at m Four (in_element k i o)))) w h (λ why o. tt) (λ at inside. refl))
element_key m Eight k i size p r w h long =
    rw (← long) (offsets_cases (length (element m.maps k i)) sizes.DoubleWord r (pos 0) p (λ x o. Passes x (is_some (key_at m Eight (in_element k i o)))) w h (λ why o. tt) (λ at inside. refl))

key_passes : (shapes : List Shape) (a : AbsState) (m : Machine) (z : KeySize) (k : Kind) (v : Value) → IsMember shapes a m → IsProperKind k → Stands m.maps k v
    → Passes (key_check shapes a (key_bytes z) k) (is_some (key_of_size m z v))
key_passes shapes a m z (kind.Stack o) (value.Pointer (pointer.Stack p)) h w g =
    let here : p + 0 ≡ p = omega arith in
    rw (g, here) (offset_cases stack_size (key_bytes z) (Some p) (λ r t. Passes (r >>= λ at. key_in (cell_at a (at / 8)) (at % 8) (key_bytes z)) (is_some (key_at m z (on_stack t)))) (λ why t. tt)
    (λ at inside aligned. stack_key shapes a m z at h aligned))
key_passes shapes a m z (kind.Stack o) v h w g = absurd g
key_passes shapes a m z (Elem n r) (value.Pointer (pointer.Element k i p)) h w g =
    rw g.0 (element_key m z k i _ p r w g.1 (element_sized shapes m.maps k i h.maps g.2))
key_passes shapes a m z (Elem n r) v h w g = absurd g
key_passes shapes a m z k v h w g = tt

-- ---- values

-- fewer bytes fit where more do
fewer_fit : (at n more size : ℕ) (P : Option ℕ → Type 0) → n ≤ more → at + more ≤ size → P (Some at) → P (fitting size n at)
fewer_fit at n more size P fewer fits some = rw (le-leb (at + n) size (omega (arith, fewer, fits))) some

room_passes : (shapes : List Shape) (m : Machine) (n more : ℕ) (k : Kind) (v : Value) → HasShapes shapes m.maps → Stands m.maps k v → n ≤ more → Passes (room_check shapes more k) (is_room (region m.maps v n))
room_passes shapes m n more (kind.Stack o) (value.Pointer (pointer.Stack p)) shaped g fewer = rw g (go (nat_le (p + more) stack_size) refl)
  where
    go : (b : Bool) → nat_le (p + more) stack_size ≡ b → Passes (if b then Ok tt else Err OutOfBounds) (is_room (on_stack (fitting stack_size n p)))
    go true e = fewer_fit p n more stack_size (λ t. is_room (on_stack t) ≡ true) fewer (leb-true (p + more) stack_size e) refl
    go false e = tt
room_passes shapes m n more (kind.Stack o) v shaped g fewer = absurd g
room_passes shapes m n more (Elem e r) (value.Pointer (pointer.Element f i p)) shaped g fewer = rw g.0 (go (nat_le (r.high + more) (element_size shapes f)) refl)
  where
    go : (b : Bool) → nat_le (r.high + more) (element_size shapes f) ≡ b → Passes (if b then Ok tt else Err OutOfBounds) (is_room (in_element f i (fitting (length (element m.maps f i)) n p)))
    go true t =
        let long = element_sized shapes m.maps f i shaped g.2 in
        let fits = leb-true (r.high + more) (element_size shapes f) t in
        fewer_fit p n more (length (element m.maps f i)) (λ o. is_room (in_element f i o) ≡ true) fewer (omega (arith, long, fits, g.1.to_high)) refl
    go false t = tt
room_passes shapes m n more (Elem e r) v shaped g fewer = absurd g
room_passes shapes m n more k v shaped g fewer = tt

-- what is there is there once it is mapped
is_some_mapped : {A B : Type 0} (f : A → B) (o : Option A) → is_some o ≡ true → is_some (option_map f o) ≡ true
is_some_mapped f None e = absurd (cc)
is_some_mapped f (Some x) e = refl

-- a number in a byte, and those after it
number_first : (b : StackByte) (rest : List StackByte) → IsByte b → is_some (numbers_in rest) ≡ true → is_some (numbers_in (b ∷ rest)) ≡ true
number_first (byte.Byte x) rest h e = is_some_mapped (λ (ns : List ℕ). x % 256 ∷ ns) (numbers_in rest) e
number_first byte.Unwritten rest h e = absurd h
number_first (byte.Part q j) rest h e = absurd h

-- a byte that is known to be written holds a number
byte_there : (maps : Maps) (d : Cell) (stack : Stack) (at : ℕ) → CellStands maps d stack (8 * (at / 8)) → is_written (written_in d) (at % 8) ≡ true → IsByte (stack at)
byte_there maps (Bytes set) stack at g t = let place : 8 * (at / 8) + at % 8 ≡ at = omega arith in subst (λ k. IsByte (stack k)) place (g (at % 8) (omega arith) t)
byte_there maps (Pointer k) stack at g t = absurd (none_written (at % 8) (omega arith) t)

-- bytes of the stack that are all known to be written are there
numbers_there : (shapes : List Shape) (a : AbsState) (m : Machine) (at n more : ℕ) → IsMember shapes a m → n ≤ more → are_written a at more ≡ true → is_some (numbers_in (bytes_at m.stack at n)) ≡ true
numbers_there shapes a m at zero more h fewer e = refl
numbers_there shapes a m at (suc n) zero h fewer e = absurd (omega (arith, fewer))
numbers_there shapes a m at (suc n) (suc more) h fewer e =
    let both = and_parts (is_written (written_in (cell_at a (at / 8))) (at % 8)) (are_written a (at + 1) more) e in
    number_first (m.stack at) (bytes_at m.stack (at + 1) n) (byte_there m.maps (cell_at a (at / 8)) m.stack at (h.cells (at / 8)) both.0)
    (numbers_there shapes a m (at + 1) n more h (omega (arith, fewer)) both.1)

-- a check that passes
abbrev fine_check : Result (Unit {0}) Why
fine_check = Ok tt

value_passes : (shapes : List Shape) (a : AbsState) (m : Machine) (n more : ℕ) (k : Kind) (v : Value) → IsMember shapes a m → Stands m.maps k v → n ≤ more
    → Passes (value_check shapes a more k) (is_some (meaning.bytes_there m n (region m.maps v n)))
value_passes shapes a m n more (kind.Stack o) (value.Pointer (pointer.Stack p)) h g fewer = rw g (go (nat_le (p + more) stack_size) refl (are_written a p more) refl)
  where
    go : (b : Bool) → nat_le (p + more) stack_size ≡ b → (c : Bool) → are_written a p more ≡ c
        → Passes ((if b then fine_check else Err OutOfBounds) >>= λ room. (if c then fine_check else Err UnwrittenStack)) (is_some (meaning.bytes_there m n (on_stack (fitting stack_size n p))))
    go true e true f = fewer_fit p n more stack_size (λ t. is_some (meaning.bytes_there m n (on_stack t)) ≡ true) fewer (leb-true (p + more) stack_size e) (numbers_there shapes a m p n more h fewer f)
    go true e false f = tt
    go false e c f = tt
value_passes shapes a m n more (kind.Stack o) v h g fewer = absurd g
value_passes shapes a m n more (Elem e r) (value.Pointer (pointer.Element f i p)) h g fewer = rw g.0 (go (nat_le (r.high + more) (element_size shapes f)) refl)
  where
    go : (b : Bool) → nat_le (r.high + more) (element_size shapes f) ≡ b
        → Passes ((if b then fine_check else Err OutOfBounds) >>= λ room. fine_check) (is_some (meaning.bytes_there m n (in_element f i (fitting (length (element m.maps f i)) n p))))
    go true t =
        let long = element_sized shapes m.maps f i h.maps g.2 in
        let fits = leb-true (r.high + more) (element_size shapes f) t in
        fewer_fit p n more (length (element m.maps f i)) (λ o. is_some (meaning.bytes_there m n (in_element f i o)) ≡ true) fewer (omega (arith, long, fits, g.1.to_high)) refl
    go false t = tt
value_passes shapes a m n more (Elem e r) v h g fewer = absurd g
value_passes shapes a m n more k v h g fewer = tt

-- ---- each argument

-- the checks and the helper mean the same map
abbrev pub Agrees : AbsState → Machine → Type 0
Agrees a m = rules.map_at_hand a ≡ meaning.map_at_hand m

takes_fits : (p : Parameter) (s : Shape) → takes_shape p s ≡ true → fits_map p s.kind ≡ true
takes_fits parameter.LineMap s e = (and_parts (fits_map parameter.LineMap s.kind) (nat_lt 0 (slots s)) e).0
takes_fits p s e = e

map_passes : (shapes : List Shape) (m : Machine) (p : Parameter) (k : Kind) (v : Value) → HasShapes shapes m.maps → Stands m.maps k v → Passes (rules.map_check shapes p k) (meaning.takes_map m p v)
map_passes shapes m p (MapRef j) (value.Pointer (pointer.Map n)) shaped h = rw h.0 (go (takes_shape p (shape_at shapes n)) refl)
  where
    go : (b : Bool) → takes_shape p (shape_at shapes n) ≡ b → Passes (if b then Ok tt else Err BadArgument) (nat_lt n (count m.maps) && fits_map p (kind_of (directory m.maps n)))
    go true e = and_from (nat_lt n (count m.maps)) (fits_map p (kind_of (directory m.maps n))) (lt-ltb n (count m.maps) h.1) (ap (fits_map p) (kind-shaped shapes m.maps n shaped) ∙ takes_fits p (shape_at shapes n) e)
    go false e = tt
map_passes shapes m p (MapRef j) v shaped h = absurd h
map_passes shapes m p k v shaped h = tt

task_passes : (m : Machine) (k : Kind) (v : Value) → Stands m.maps k v → Passes (rules.task_check k) (meaning.takes m parameter.Task v)
task_passes m Task (value.Pointer (pointer.Task t)) h = refl
task_passes m Task v h = absurd h
task_passes m k v h = tt

number_passes : (m : Machine) (k : Kind) (v : Value) → Stands m.maps k v → Passes (rules.number_check k) (meaning.takes m parameter.Number v)
number_passes m (Num r) (value.Number n) h = refl
number_passes m (Num r) v h = absurd h
number_passes m k v h = tt

-- keys of the map at hand are as long as its shape says
pub key_agrees : (shapes : List Shape) (a : AbsState) (m : Machine) → HasShapes shapes m.maps → Agrees a m → rules.key_bytes_at_hand shapes a ≡ key_bytes (key_size_at_hand m)
key_agrees shapes a m shaped e =
    ap (λ j. key_bytes (key_size (shape_at shapes j).kind)) e ∙ ap (λ d. key_bytes (key_size d)) (sym (kind-shaped shapes m.maps (meaning.map_at_hand m) shaped))

no_element : (es : List (List ℕ)) → length es ≤ 0 → length (get_or es 0 []) ≡ 0
no_element [] h = refl
no_element (e ∷ es) h = absurd (omega (arith, h))

-- values are no longer than it says
pub value_agrees : (shapes : List Shape) (a : AbsState) (m : Machine) → HasShapes shapes m.maps → Agrees a m → meaning.value_size_at_hand m ≤ rules.value_bytes_at_hand shapes a
value_agrees shapes a m shaped e = subst (λ j. meaning.value_size_at_hand m ≤ element_size shapes j) (sym e) (go (cases_lt 0 (length (elements m.maps (meaning.map_at_hand m)))))
  where
    go : (0 < length (elements m.maps (meaning.map_at_hand m))) ⊎ (length (elements m.maps (meaning.map_at_hand m)) ≤ 0) → meaning.value_size_at_hand m ≤ element_size shapes (meaning.map_at_hand m)
    go (inl some) = omega (arith, element_sized shapes m.maps (meaning.map_at_hand m) 0 shaped some)
    go (inr none) = omega (arith, no_element (elements m.maps (meaning.map_at_hand m)) none)

kind_passes : (shapes : List Shape) (a : AbsState) (m : Machine) (p : Parameter) (k : Kind) (v : Value) → Agrees a m → IsMember shapes a m → IsProperKind k → Stands m.maps k v
    → Passes (rules.takes shapes a p k) (meaning.takes m p v)
kind_passes shapes a m parameter.Key k v e h w g = subst (λ n. Passes (key_check shapes a n k) (meaning.takes m parameter.Key v)) (sym (key_agrees shapes a m h.maps e)) (key_passes shapes a m (key_size_at_hand m) k v h w g)
kind_passes shapes a m parameter.Value k v e h w g = value_passes shapes a m (meaning.value_size_at_hand m) (rules.value_bytes_at_hand shapes a) k v h g (value_agrees shapes a m h.maps e)
kind_passes shapes a m parameter.Room k v e h w g = room_passes shapes m (meaning.value_size_at_hand m) (rules.value_bytes_at_hand shapes a) k v h.maps g (value_agrees shapes a m h.maps e)
kind_passes shapes a m parameter.Task k v e h w g = task_passes m k v g
kind_passes shapes a m parameter.Number k v e h w g = number_passes m k v g
kind_passes shapes a m p k v e h w g = map_passes shapes m p k v h.maps g

argument_passes : (shapes : List Shape) (a : AbsState) (m : Machine) (p : Parameter) (k : Kind) (v : Value) → Agrees a m → IsMember shapes a m → IsProperKind k → Stands m.maps k v
    → Passes (argument_check shapes a p k) (meaning.takes m p v)
argument_passes shapes a m p Unusable v e h w g = tt
argument_passes shapes a m p k v e h w g = kind_passes shapes a m p k v e h w g

-- where a check passes, and only there, the next one matters
abbrev pub IsFine : Result (Unit {0}) Why → Type 0
IsFine (Ok fine) = Unit {0}
IsFine (Err why) = ⊥

both_pass : (r s : Result (Unit {0}) Why) (b c : Bool) → Passes r b → (IsFine r → Passes s c) → Passes (r >>= λ here. s) (b && c)
both_pass (Err why) s b c g h = tt
both_pass (Ok fine) (Err why) b c g h = tt
both_pass (Ok fine) (Ok same) b c g h = and_from b c g (h tt)

arguments_pass : (shapes : List Shape) (a : AbsState) (m : Machine) (ps : List Parameter) (r : ℕ) → Agrees a m → IsProper a → IsMember shapes a m → Passes (arguments_check shapes a ps r) (takes_all m ps r)
arguments_pass shapes a m [] r e w h = refl
arguments_pass shapes a m (p ∷ ps) r e w h =
    both_pass (argument_check shapes a p (kind_at a r)) (arguments_check shapes a ps (r + 1)) (meaning.takes m p (m.registers r)) (takes_all m ps (r + 1))
    (argument_passes shapes a m p (kind_at a r) (m.registers r) e h (kind_is_proper a r w) (h.registers r))
    (λ fine. arguments_pass shapes a m ps (r + 1) e w h)

referred : (shapes : List Shape) (m : Machine) (p : Parameter) (k : Kind) (v : Value) → Stands m.maps k v → IsFine (rules.map_check shapes p k) → rules.map_named k ≡ map_or_first (map_in v)
referred shapes m p (MapRef j) (value.Pointer (pointer.Map n)) g fine = g.0
referred shapes m p (MapRef j) v g fine = absurd g
referred shapes m p k v g fine = absurd fine

-- a map that was checked is the one that the register refers to
pub mapped : (shapes : List Shape) (a : AbsState) (m : Machine) (p : Parameter) (k : Kind) (v : Value) → rules.IsMapParameter p → Stands m.maps k v → IsFine (argument_check shapes a p k) → rules.map_named k ≡ map_or_first (map_in v)
mapped shapes a m p Unusable v i g fine = absurd fine
mapped shapes a m parameter.Map k v i g fine = referred shapes m parameter.Map k v g fine
mapped shapes a m parameter.PerCpuMap k v i g fine = referred shapes m parameter.PerCpuMap k v g fine
mapped shapes a m parameter.LineMap k v i g fine = referred shapes m parameter.LineMap k v g fine
mapped shapes a m p k v i g fine = absurd i

map_argument : (shapes : List Shape) (a : AbsState) (m : Machine) (p : Parameter) (k : Kind) (v : Value) → rules.IsMapParameter p → IsMember shapes a m → Stands m.maps k v
    → Passes (argument_check shapes a p k) (meaning.takes m p v)
map_argument shapes a m p Unusable v i h g = tt
map_argument shapes a m parameter.Map k v i h g = map_passes shapes m parameter.Map k v h.maps g
map_argument shapes a m parameter.PerCpuMap k v i h g = map_passes shapes m parameter.PerCpuMap k v h.maps g
map_argument shapes a m parameter.LineMap k v i h g = map_passes shapes m parameter.LineMap k v h.maps g
map_argument shapes a m p k v i h g = absurd i

-- a helper on a map, and what it takes
map_first : (shapes : List Shape) (a : AbsState) (m : Machine) (p : Parameter) (ps : List Parameter) → rules.IsMapParameter p → IsProper a → IsMember shapes a m
    → Passes (arguments_check shapes a (p ∷ ps) 1) (takes_all m (p ∷ ps) 1)
map_first shapes a m p ps i w h =
    both_pass (argument_check shapes a p (kind_at a 1)) (arguments_check shapes a ps 2) (meaning.takes m p (m.registers 1)) (takes_all m ps 2)
    (map_argument shapes a m p (kind_at a 1) (m.registers 1) i h (h.registers 1))
    (λ fine. arguments_pass shapes a m ps 2 (mapped shapes a m p (kind_at a 1) (m.registers 1) i (h.registers 1) fine) w h)

-- parameters for tasks and numbers alone
abbrev pub ArePlain : List Parameter → Type 0
ArePlain [] = Unit {0}
ArePlain (parameter.Task ∷ ps) = ArePlain ps
ArePlain (parameter.Number ∷ ps) = ArePlain ps
ArePlain (p ∷ ps) = ⊥

plain_argument : (shapes : List Shape) (a : AbsState) (m : Machine) (p : Parameter) (ps : List Parameter) (k : Kind) (v : Value) → ArePlain (p ∷ ps) → Stands m.maps k v → Passes (argument_check shapes a p k) (meaning.takes m p v)
plain_argument shapes a m p ps Unusable v i g = tt
plain_argument shapes a m parameter.Task ps k v i g = task_passes m k v g
plain_argument shapes a m parameter.Number ps k v i g = number_passes m k v g
plain_argument shapes a m p ps k v i g = absurd i

-- so are those behind one
pub behind_plain : (p : Parameter) (ps : List Parameter) → ArePlain (p ∷ ps) → ArePlain ps
behind_plain parameter.Task ps i = i
behind_plain parameter.Number ps i = i
behind_plain p ps i = absurd i

plain_passes : (shapes : List Shape) (a : AbsState) (m : Machine) (ps : List Parameter) (r : ℕ) → ArePlain ps → IsProper a → IsMember shapes a m → Passes (arguments_check shapes a ps r) (takes_all m ps r)
plain_passes shapes a m [] r i w h = refl
plain_passes shapes a m (p ∷ ps) r i w h =
    both_pass (argument_check shapes a p (kind_at a r)) (arguments_check shapes a ps (r + 1)) (meaning.takes m p (m.registers r)) (takes_all m ps (r + 1))
    (plain_argument shapes a m p ps (kind_at a r) (m.registers r) i (h.registers r))
    (λ fine. plain_passes shapes a m ps (r + 1) (behind_plain p ps i) w h)

-- the arguments of any helper
helper_passes : (shapes : List Shape) (a : AbsState) (m : Machine) (h : Helper) → IsProper a → IsMember shapes a m → Passes (arguments_check shapes a (parameters h) 1) (takes_all m (parameters h) 1)
helper_passes shapes a m helper.MapLookupElem w g = map_first shapes a m parameter.Map (parameter.Key ∷ []) tt w g
helper_passes shapes a m (helper.OnMap Update) w g = map_first shapes a m parameter.Map (parameter.Key ∷ parameter.Value ∷ parameter.Number ∷ []) tt w g
helper_passes shapes a m (helper.OnMap Delete) w g = map_first shapes a m parameter.Map (parameter.Key ∷ []) tt w g
helper_passes shapes a m (helper.OnMap Push) w g = map_first shapes a m parameter.LineMap (parameter.Value ∷ parameter.Number ∷ []) tt w g
helper_passes shapes a m (helper.OnMap Pop) w g = map_first shapes a m parameter.LineMap (parameter.Room ∷ []) tt w g
helper_passes shapes a m (helper.OnMap Peek) w g = map_first shapes a m parameter.LineMap (parameter.Room ∷ []) tt w g
helper_passes shapes a m (helper.OnMap LookUpPerCpu) w g = map_first shapes a m parameter.PerCpuMap (parameter.Key ∷ parameter.Number ∷ []) tt w g
helper_passes shapes a m h w g = plain_passes shapes a m (parameters h) 1 tt w g

-- ---- after a call

after_member : (shapes : List Shape) (a : AbsState) (m : Machine) (k : Kind) (v : Value) → IsMember shapes a m → Stands m.maps k v
    → IsMember shapes (rules.after_call a k) (meaning.after_call m v)
after_member shapes a m k v h g =
    let a1 = with_kind a 1 Unusable in
    let a2 = with_kind a1 2 Unusable in
    let a3 = with_kind a2 3 Unusable in
    let a4 = with_kind a3 4 Unusable in
    let m1 = with_register m 1 value.Unset in
    let m2 = with_register m1 2 value.Unset in
    let m3 = with_register m2 3 value.Unset in
    let m4 = with_register m3 4 value.Unset in
    let h1 = kind_member shapes a m 1 Unusable value.Unset h tt in
    let h2 = kind_member shapes a1 m1 2 Unusable value.Unset h1 tt in
    let h3 = kind_member shapes a2 m2 3 Unusable value.Unset h2 tt in
    let h4 = kind_member shapes a3 m3 4 Unusable value.Unset h3 tt in
    let h5 = kind_member shapes a4 m4 5 Unusable value.Unset h4 tt in
    kind_member shapes (rules.without_arguments a) (meaning.without_arguments m) 0 k v h5 g

-- ---- the look-up of an element

found_stands : (maps : Maps) (j n x : ℕ) (b : Bool) → j ≡ n → nat_lt x (length (elements maps n)) ≡ b
    → Stands maps (ElemOrNull j) (if b then value.Pointer (pointer.Element n x 0) else value.Number 0)
found_stands maps j n x true e lt = (e, refl, ltb-true x (length (elements maps n)) lt)
found_stands maps j n x false e lt = refl

element_stands : (maps : Maps) (k : Kind) (n x : ℕ) → Stands maps k (value.Pointer (pointer.Map n)) → Stands maps (element_of k) (element_or_0 maps n x)
element_stands maps (MapRef j) n x h = found_stands maps j n x (nat_lt x (length (elements maps n))) h.0 refl
element_stands maps k n x h = tt

-- what r1 refers to has the element, or none
element_there : (m : Machine) (p : Parameter) (k : Kind) (v : Value) (x : ℕ) → Stands m.maps k v → meaning.takes_map m p v ≡ true → Stands m.maps (element_of k) (element_or_0 m.maps (map_or_first (map_in v)) x)
element_there m p k (value.Pointer (pointer.Map n)) x g e = element_stands m.maps k n x g
element_there m p k (value.Pointer (pointer.Stack o)) x g e = absurd (cc)
element_there m p k (value.Pointer (pointer.Task t)) x g e = absurd (cc)
element_there m p k (value.Pointer (pointer.Element q i o)) x g e = absurd (cc)
element_there m p k (value.Number n) x g e = absurd (cc)
element_there m p k value.Unset x g e = absurd (cc)

null_there : (maps : Maps) (k : Kind) → Stands maps (element_of k) (value.Number 0)
null_there maps (MapRef j) = refl
null_there maps k = tt

-- ---- the work on a map

-- maps of the same shapes
with_shaped : (shapes : List Shape) (a : AbsState) (m : Machine) (maps : Maps) → IsMember shapes a m → HasShapes shapes maps → IsMember shapes a (with_maps m maps)
with_shaped shapes a m maps h shaped = maps_member shapes a m maps h (shaped.lengths ∙ sym h.maps.lengths) shaped.bytes (shaped.kinds ∙ sym h.maps.kinds)

-- a helper that answers a number
answered : (shapes : List Shape) (a : AbsState) (m : Machine) (maps : Maps) (n : ℕ) → IsMember shapes a m → HasShapes shapes maps → n < 2 ^ 64
    → IsMember shapes (rules.after_call a (Num all)) (after_serving m (record { maps = maps; reply = Answer n }))
answered shapes a m maps n h shaped small = after_member shapes a (with_maps m maps) (Num all) (value.Number n) (with_shaped shapes a m maps h shaped) (number_stands maps (value.Number n) small)

-- a look-up
look_up_member : (shapes : List Shape) (a : AbsState) (m : Machine) (p : Parameter) (o : Option ℕ) → IsMember shapes a m → meaning.takes_map m p (m.registers 1) ≡ true
    → IsMember shapes (rules.after_call a (element_of (kind_at a 1))) (after_serving m (record { maps = m.maps; reply = found o }))
look_up_member shapes a m p None h e = after_member shapes a (with_maps m m.maps) (element_of (kind_at a 1)) (value.Number 0) (with_shaped shapes a m m.maps h h.maps) (null_there m.maps (kind_at a 1))
look_up_member shapes a m p (Some x) h e =
    after_member shapes a (with_maps m m.maps) (element_of (kind_at a 1)) (element_or_0 m.maps (meaning.map_at_hand m) x) (with_shaped shapes a m m.maps h h.maps)
    (element_there m p (kind_at a 1) (m.registers 1) x (h.registers 1) e)

-- a queue or a stack that was checked has elements
some_there : (shapes : List Shape) (a : AbsState) (m : Machine) (k : Kind) (v : Value) → HasShapes shapes m.maps → Stands m.maps k v → IsFine (argument_check shapes a parameter.LineMap k) → 0 < slot_count m.maps (map_or_first (map_in v))
some_there shapes a m (MapRef j) (value.Pointer (pointer.Map n)) shaped g fine = go (takes_shape parameter.LineMap (shape_at shapes n)) refl (subst (λ i. IsFine (rules.map_check shapes parameter.LineMap (MapRef i))) g.0 fine) (slice_get_cases shapes n).1
  where
    go : (b : Bool) → takes_shape parameter.LineMap (shape_at shapes n) ≡ b → IsFine (if b then Ok tt else Err BadArgument)
        → ((s : Shape) × (n < length shapes) × (slice_get shapes n ≡ Some s) × (get_or shapes n s ≡ s)) ⊎ ((length shapes ≤ n) × (slice_get shapes n ≡ None)) → 0 < slot_count m.maps n
    go false e f c = absurd f
    go true e f (inr past) = let long = length-shaped shapes m.maps shaped in absurd (omega (arith, past.0, long, g.1))
    go true e f (inl s) =
        let count = length-entries-shaped shapes m.maps n s.0 shaped s.2 in
        let same : shape_at shapes n ≡ s.0 = get_or_from_slice_get shapes n s.0 unused_shape s.2 in
        let some = ltb-true 0 (slots (shape_at shapes n)) (and_parts (fits_map parameter.LineMap (shape_at shapes n).kind) (nat_lt 0 (slots (shape_at shapes n))) e).1 in
        omega (arith, count, some, ap slots same)
some_there shapes a m (MapRef j) v shaped g fine = absurd g
some_there shapes a m Unusable v shaped g fine = absurd fine
some_there shapes a m k v shaped g fine = absurd fine

-- a room that was checked is one for a register of its kind
room_fine : (shapes : List Shape) (a : AbsState) (k : Kind) → IsFine (argument_check shapes a parameter.Room k) → room_check shapes (rules.value_bytes_at_hand shapes a) k ≡ Ok tt
room_fine shapes a Unusable fine = absurd fine
room_fine shapes a k fine = go (room_check shapes (rules.value_bytes_at_hand shapes a) k) fine
  where
    go : (r : Result (Unit {0}) Why) → IsFine r → r ≡ Ok tt
    go (Ok t) f = refl
    go (Err why) f = absurd f

-- checks that pass together pass each
fine_parts : (r s : Result (Unit {0}) Why) → IsFine (r >>= λ here. s) → IsFine r × IsFine s
fine_parts (Ok t) s f = (tt, f)
fine_parts (Err why) s f = absurd f

-- a helper that gives a value
gives_member : (shapes : List Shape) (a : AbsState) (m : Machine) (d : Directory) (n : ℕ) → IsMember shapes a m → HasShapes shapes (with_directory m.maps (meaning.map_at_hand m) d) → n < 2 ^ 64
    → IsFine (arguments_check shapes a (parameter.LineMap ∷ parameter.Room ∷ []) 1) → is_room (region_at_hand m (m.registers 2)) ≡ true
    → IsMember shapes (rules.after_call (filled a (rules.value_bytes_at_hand shapes a) (kind_at a 2)) (Num all))
    (after_serving m (record { maps = with_directory m.maps (meaning.map_at_hand m) d; reply = Gives (bytes_from m.maps (meaning.map_at_hand m) (peeked (directory m.maps (meaning.map_at_hand m)) (slot_count m.maps (meaning.map_at_hand m)))) n }))
gives_member shapes a m d n h shaped small fine room =
    let maps = with_directory m.maps (meaning.map_at_hand m) d in
    let bs = bytes_from m.maps (meaning.map_at_hand m) (peeked (directory m.maps (meaning.map_at_hand m)) (slot_count m.maps (meaning.map_at_hand m))) in
    let first = fine_parts (argument_check shapes a parameter.LineMap (kind_at a 1)) (arguments_check shapes a (parameter.Room ∷ []) 2) fine in
    let second = fine_parts (argument_check shapes a parameter.Room (kind_at a 2)) (Ok tt) first.1 in
    let agree = mapped shapes a m parameter.LineMap (kind_at a 1) (m.registers 1) tt (h.registers 1) first.0 in
    let some = some_there shapes a m (kind_at a 1) (m.registers 1) h.maps (h.registers 1) first.0 in
    let long = given_long shapes m.maps (meaning.map_at_hand m) h.maps some in
    let sized : meaning.value_size_at_hand m ≡ rules.value_bytes_at_hand shapes a = element_sized shapes m.maps (meaning.map_at_hand m) 0 h.maps some ∙ ap (element_size shapes) (sym agree) in
    let bytes : length bs ≡ rules.value_bytes_at_hand shapes a = long ∙ sized in
    let base = with_shaped shapes a m maps h shaped in
    let check = room_fine shapes a (kind_at a 2) second.0 in
    let there : is_room (region maps (m.registers 2) (length bs)) ≡ true = ap (λ i. is_room (region maps (m.registers 2) i)) long ∙ room in
    let given = given_member shapes a (with_maps m maps) (kind_at a 2) (m.registers 2) bs base (base.registers 2) (ap (λ i. room_check shapes i (kind_at a 2)) bytes ∙ check) there (given_bytes shapes m.maps (meaning.map_at_hand m) h.maps) in
    let same : IsMember shapes (filled a (rules.value_bytes_at_hand shapes a) (kind_at a 2)) (meaning.with_bytes (with_maps m maps) (region_at_hand m (m.registers 2)) bs) =
    subst (λ i. IsMember shapes (filled a i (kind_at a 2)) (meaning.with_bytes (with_maps m maps) (region_at_hand m (m.registers 2)) bs)) bytes
    (subst (λ i. IsMember shapes (filled a (length bs) (kind_at a 2)) (meaning.with_bytes (with_maps m maps) (region maps (m.registers 2) i) bs)) long given) in
    after_member shapes (filled a (rules.value_bytes_at_hand shapes a) (kind_at a 2)) (meaning.with_bytes (with_maps m maps) (region_at_hand m (m.registers 2)) bs) (Num all) (value.Number n) same (number_stands (meaning.with_bytes (with_maps m maps) (region_at_hand m (m.registers 2)) bs).maps (value.Number n) small)

-- ---- calls

-- a helper's answer is of the kind that it answers
answer_stands : (maps : Maps) (b : Bool) (v : Value) → MatchBool b (IsTaskOrNull v) (IsNumberBelow (2 ^ 64) v) → Stands maps (if b then TaskOrNull else Num all) v
answer_stands maps true v fits = task_or_null_fits maps v fits
answer_stands maps false v fits = number_stands maps v fits

-- the state after the work of a helper on a map
abbrev ServedMember : List Shape → AbsState → Machine → ℕ → Helper → Type 0
ServedMember shapes a m c g = IsMember shapes (rules.after_call (after_giving shapes g a) (answer_kind g (kind_at a 1))) (after_serving m (served m c g))

served_member : (shapes : List Shape) (a : AbsState) (m : Machine) (c : ℕ) (g : MapHelper) → IsMember shapes a m → IsFine (arguments_check shapes a (map_parameters g) 1) → takes_all m (map_parameters g) 1 ≡ true → ServedMember shapes a m c (helper.OnMap g)
served_member shapes a m c Update h fine t =
    let first = and_parts (meaning.takes m parameter.Map (m.registers 1)) (takes_all m (parameter.Key ∷ parameter.Value ∷ parameter.Number ∷ []) 2) t in
    let second = and_parts (meaning.takes m parameter.Key (m.registers 2)) (takes_all m (parameter.Value ∷ parameter.Number ∷ []) 3) first.1 in
    let third = and_parts (meaning.takes m parameter.Value (m.registers 3)) (takes_all m (parameter.Number ∷ []) 4) second.1 in
    let sound = value_sound m 3 h.maps.bytes third.0 in
    let q = meaning.map_at_hand m in
    answered shapes a m (served m c (helper.OnMap Update)).maps _ h (update_shaped shapes m.maps q c (key_given m) (value_given m 3) (number_given (m.registers 4)) h.maps sound.0 sound.1)
    (updated_small (directory m.maps q) (slot_count m.maps q) c (key_given m) (number_given (m.registers 4)))
served_member shapes a m c Delete h fine t =
    let q = meaning.map_at_hand m in
    answered shapes a m (served m c (helper.OnMap Delete)).maps _ h (delete_shaped shapes m.maps q (key_given m) h.maps) (deleted_small (directory m.maps q) (key_given m))
served_member shapes a m c Push h fine t =
    let first = and_parts (meaning.takes m parameter.LineMap (m.registers 1)) (takes_all m (parameter.Value ∷ parameter.Number ∷ []) 2) t in
    let second = and_parts (meaning.takes m parameter.Value (m.registers 2)) (takes_all m (parameter.Number ∷ []) 3) first.1 in
    let sound = value_sound m 2 h.maps.bytes second.0 in
    let q = meaning.map_at_hand m in
    answered shapes a m (served m c (helper.OnMap Push)).maps _ h (push_shaped shapes m.maps q (value_given m 2) (number_given (m.registers 3)) h.maps sound.0 sound.1)
    (pushed_small (directory m.maps q) (slot_count m.maps q) (number_given (m.registers 3)))
served_member shapes a m c Pop h fine t =
    let first = and_parts (meaning.takes m parameter.LineMap (m.registers 1)) (takes_all m (parameter.Room ∷ []) 2) t in
    let second = and_parts (meaning.takes m parameter.Room (m.registers 2)) true first.1 in
    let q = meaning.map_at_hand m in
    gives_member shapes a m (shortened (directory m.maps q) (slot_count m.maps q)) _ h (pop_shaped shapes m.maps q h.maps) (peeked_small (directory m.maps q) (slot_count m.maps q)) fine second.0
served_member shapes a m c Peek h fine t =
    let first = and_parts (meaning.takes m parameter.LineMap (m.registers 1)) (takes_all m (parameter.Room ∷ []) 2) t in
    let second = and_parts (meaning.takes m parameter.Room (m.registers 2)) true first.1 in
    let q = meaning.map_at_hand m in
    gives_member shapes a m (directory m.maps q) _ h (peek_shaped shapes m.maps q h.maps) (peeked_small (directory m.maps q) (slot_count m.maps q)) fine second.0
served_member shapes a m c LookUpPerCpu h fine t =
    let first = and_parts (meaning.takes m parameter.PerCpuMap (m.registers 1)) (takes_all m (parameter.Key ∷ parameter.Number ∷ []) 2) t in
    look_up_member shapes a m parameter.PerCpuMap _ h first.0

-- whichever CPU is at hand
effect_sound : (shapes : List Shape) (a : AbsState) (m : Machine) (g : Helper) → ((c : ℕ) → ServedMember shapes a m c g) → IsSoundFor shapes (goes_on (rules.after_call (after_giving shapes g a) (answer_kind g (kind_at a 1)))) (map_effect m g)
effect_sound shapes a m g each =
    elim (asks_here g (directory m.maps (meaning.map_at_hand m))) as (λ b. IsSoundFor shapes (goes_on (rules.after_call (after_giving shapes g a) (answer_kind g (kind_at a 1))))
    (if b then effect.Ask (effect.Call helper.SmpProcessorId nothing_given) (λ v. after_serving m (served m (number_given v) g)) else effect.Next (after_serving m (served m 0 g))))
    [ true ↦ λ v fits. each (number_given v) | false ↦ each 0 ]

look_up_sound : (shapes : List Shape) (a : AbsState) (m : Machine) (v : Value) (key : Option ℕ) → m.registers 1 ≡ v → IsMember shapes a m → meaning.takes_map m parameter.Map (m.registers 1) ≡ true → is_some key ≡ true
    → IsSoundFor shapes (goes_on (rules.after_call a (element_of (kind_at a 1)))) (looked_up m v key)
look_up_sound shapes a m (value.Pointer (pointer.Map n)) (Some x) r h t s = go (directory m.maps n)
  where
    stands : Stands m.maps (kind_at a 1) (value.Pointer (pointer.Map n))
    stands = subst (Stands m.maps (kind_at a 1)) r (h.registers 1)

    other : IsSoundFor shapes (goes_on (rules.after_call a (element_of (kind_at a 1)))) (map_effect m helper.MapLookupElem)
    other = effect_sound shapes a m helper.MapLookupElem (λ c. look_up_member shapes a m parameter.Map _ h t)

    go : (d : Directory) → IsSoundFor shapes (goes_on (rules.after_call a (element_of (kind_at a 1)))) (meaning.looked_up_in m n x d)
    go directories.Array = after_member shapes a m (element_of (kind_at a 1)) (element_or_0 m.maps n x) h (element_stands m.maps (kind_at a 1) n x stands)
    go directories.PerCpu = other
    go (directories.Hash z ks) = other
    go (directories.Queue l) = other
    go (directories.Stack l) = other
look_up_sound shapes a m (value.Pointer (pointer.Map n)) None r h t s = absurd (cc)
look_up_sound shapes a m v key r h t s = let no : meaning.takes_map m parameter.Map v ≡ true = ap (meaning.takes_map m parameter.Map) (sym r) ∙ t in absurd (cc)

called_sound : (shapes : List Shape) (h : Helper) (a : AbsState) (m : Machine) → IsMember shapes a m → IsFine (arguments_check shapes a (parameters h) 1) → takes_all m (parameters h) 1 ≡ true
    → IsSoundFor shapes (goes_on (rules.after_call (after_giving shapes h a) (answer_kind h (kind_at a 1)))) (call_effect m h)
called_sound shapes helper.MapLookupElem a m g fine t =
    let map = and_parts (meaning.takes m parameter.Map (m.registers 1)) (meaning.takes m parameter.Key (m.registers 2) && true) t in
    let second = and_parts (is_some (key m (m.registers 2))) true map.1 in
    look_up_sound shapes a m (m.registers 1) (key m (m.registers 2)) refl g map.0 second.0
called_sound shapes (helper.OnMap h) a m g fine t = effect_sound shapes a m (helper.OnMap h) (λ c. served_member shapes a m c h g fine t)
called_sound shapes h a m g fine t = λ v fits. after_member shapes a m (if answers_task h then TaskOrNull else Num all) v g (answer_stands m.maps (answers_task h) v fits)

allowed_sound : (shapes : List Shape) (h : Helper) (a : AbsState) (m : Machine) (r : Result (Unit {0}) Why) (b : Bool) → IsMember shapes a m → Passes r b → arguments_check shapes a (parameters h) 1 ≡ r → takes_all m (parameters h) 1 ≡ b
    → IsSoundFor shapes (r >>= λ fine. goes_on (rules.after_call (after_giving shapes h a) (answer_kind h (kind_at a 1)))) (if b then call_effect m h else effect.Stuck)
allowed_sound shapes h a m (Err why) b g p c e = tt
allowed_sound shapes h a m (Ok fine) b g p c e = rw p (called_sound shapes h a m g (subst IsFine (sym c) tt) (e ∙ p))

-- the rule of helper calls is sound
call_sound : (shapes : List Shape) (c : Callback) (h : Option Helper) (a : AbsState) (m : Machine) → IsProper a → IsMember shapes a m → IsSoundFor shapes (call_rule shapes c h a) (call_helper c m h)
call_sound shapes c None a m w g = tt
call_sound shapes c (Some h) a m w g =
    elim (is_allowed h c) as (λ b. IsSoundFor shapes (if b then call_allowed shapes h a else Err HelperNotHere) (if b && takes_all m (parameters h) 1 then call_effect m h else effect.Stuck))
    [ true ↦ allowed_sound shapes h a m (arguments_check shapes a (parameters h) 1) (takes_all m (parameters h) 1) g (helper_passes shapes a m h w g) refl refl | false ↦ tt ]

-- and whichever helpers a machine by its rules has
pub known_sound : (r : Rules) (shapes : List Shape) (c : Callback) (h : Option Helper) (a : AbsState) (m : Machine) → IsProper a → IsMember shapes a m
    → IsSoundFor shapes (call_rule shapes c (if_known r h) a) (call_helper c m h)
known_sound r shapes c None a m w g = tt
known_sound r shapes c (Some h) a m w g =
    elim (is_known h r) as (λ b. IsSoundFor shapes (call_rule shapes c (if b then Some h else None) a) (call_helper c m (Some h))) [ true ↦ call_sound shapes c (Some h) a m w g | false ↦ tt ]
