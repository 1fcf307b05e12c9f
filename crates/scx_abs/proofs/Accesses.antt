-- Loads and stores: the location that an address means, and what is read and written there.
use Rattle.std.proofs.Common.{◌≡◌, ℕ, ◌+◌, ◌*◌, ◌/◌, ◌%◌, ◌<◌, ◌≤◌, ℤ, Bool, true, false, ◌&&◌, nat_eq, List, [], ◌∷◌, length, Option, Some, None, Result, Ok, Err, if◌then◌else◌, refl, sym, ap, ◌∙◌, arith}
use Rattle.std.proofs.lemmas.Bool.{eqb-true, and_parts}
use Rattle.scx_isa_semantics.specs.declared.instructions.Operand.{Operand}
use Rattle.scx_isa_semantics.specs.declared.operations.Width.TheVariants.{Bits64}
use Rattle.scx_isa_semantics.specs.declared.operations.Size.{Size}
use Rattle.scx_isa_semantics.specs.declared.operations.Size.TheVariants as size
use Rattle.scx_isa_semantics.specs.declared.operations.Access.{Access}
use Rattle.scx_isa_semantics.specs.declared.operations.Access.TheVariants as access
use Rattle.scx_isa_semantics.specs.declared.host_tables.Field.{Field}
use Rattle.scx_isa_semantics.specs.declared.host_tables.Field.TheVariants.{Pid, Weight, Slice, DsqVtime, PrevCpu, Group, RunNs, Cpus}
use Rattle.scx_isa_semantics.specs.declared.host_tables.TaskId.{TaskId}
use Rattle.scx_isa_semantics.specs.declared.values.Value.{Value}
use Rattle.scx_isa_semantics.specs.declared.values.Value.TheVariants as value
use Rattle.scx_isa_semantics.specs.declared.values.Pointer.TheVariants as pointer
use Rattle.scx_isa_semantics.specs.declared.values.StackByte.{StackByte}
use Rattle.scx_isa_semantics.specs.declared.registers.Register.{Register}
use Rattle.scx_isa_semantics.specs.Registers.{number}
use Rattle.scx_isa_semantics.specs.Arithmetic.{at_distance}
use Rattle.scx_isa_semantics.specs.Memory.{Stack, stack_size, aligned_within, bytes_at, write, number_bytes, parts, value_in, value_bytes, load, read_as, size_bytes, access_size}
use Rattle.scx_isa_semantics.specs.HostTables.{field_width, field_offset, found_field, field_at, is_known_field, is_writable}
use Rattle.scx_isa_semantics.specs.Elements.{Maps, element, number_at, with_element, with_number}
use Rattle.scx_isa_semantics.specs.Locations as location
use Rattle.scx_isa_semantics.specs.Locations.{Location, on_stack, in_element, in_task, address}
use Rattle.scx_isa_semantics.specs.Machine.{Machine, with_stack}
use Rattle.scx_isa_semantics.specs.Effects as effect
use Rattle.scx_isa_semantics.specs.Effects.{set_register_by_answer}
use Rattle.scx_isa_semantics.specs.Meaning.{operand_value, is_plain, load_effect, store_effect}
use Rattle.scx_isa_semantics.proofs.Bytes.{with_number_bytes, with_element_bytes}
use Rattle.scx_isa_encoding.specs.Spelling.{IsOperand}
use Rattle.scx_isa_semantics.specs.declared.rules.Rules.{Rules}
use Rattle.scx_maps.specs.declared.shape.Shape.{Shape}
use Rattle.scx_vm.specs.declared.context.Context.{Context}
use Rattle.scx_maps.specs.Contents.{HasShapes}
use Rattle.scx_abs.specs.declared.faults.Why.{Why}
use Rattle.scx_abs.specs.declared.faults.Why.TheVariants.{UnwrittenStack, TaskField}
use Rattle.scx_abs_ranges.specs.declared.ranges.Range.{Range}
use Rattle.scx_abs_ranges.specs.Ranges.{IsIn, IsWellFormed}
use Rattle.scx_abs_ranges.specs.Results as results
use Rattle.scx_abs_ranges.proofs.AllWidths.{loads_are_sound}
use Rattle.scx_abs.specs.declared.kinds.Kind.{Kind}
use Rattle.scx_abs.specs.declared.kinds.Kind.TheVariants as kind
use Rattle.scx_abs.specs.declared.kinds.Kind.TheVariants.{Unusable, Num, Elem, Task}
use Rattle.scx_abs.specs.declared.kinds.Held.{Held}
use Rattle.scx_abs.specs.declared.kinds.Held.TheVariants as held
use Rattle.scx_abs.specs.declared.kinds.Cell.{Cell}
use Rattle.scx_abs.specs.declared.kinds.Cell.TheVariants.{Bytes, Pointer}
use Rattle.scx_abs.specs.declared.states.AbsState.{AbsState}
use Rattle.scx_abs.specs.declared.memory.Area.{Area}
use Rattle.scx_abs.specs.declared.memory.Area.TheVariants.{OnStack, InElement, InTask}
use Rattle.scx_abs.specs.Kinds.{IsProperKind, IsUsable}
use Rattle.scx_abs.specs.Cells.{kind_of, held_of, with_bytes, all_written, written_in}
use Rattle.scx_abs.specs.States.{kind_at, cell_at, with_cell, IsProper}
use Rattle.scx_abs.specs.Stands.{HasElement, Stands, IsByte, CellStands, IsMember}
use Rattle.scx_isa_semantics.specs.Results.{◌>>=◌}
use Rattle.scx_abs.specs.Checks.{goes_on, usable, operand_kind, sets, offset_for, offsets_for}
use Rattle.scx_abs.specs.Rules.{area_of, field_area, loaded_kind, kind_in, load_kind, pointer_cell, number_stored, stored_in, store_rule}
use Rattle.scx_abs.specs.Laws.{IsSoundFor}
use Rattle.scx_abs.proofs.Lists.{set_each}
use Rattle.scx_abs.proofs.Bytes as bytes
use Rattle.scx_abs.proofs.Bytes.{bytes_read, read_below, element_below, written_at, reads_back, length-number_bytes, length-value_bytes, cell_apart, pointer_stored, fits_cell}
use Rattle.scx_abs.proofs.Registers.{Gives, set_sound, answer_sound, refused_sound, field_stands, register_allows, operand_allows, checked}
use Rattle.scx_abs.proofs.Elements.{offset_cases, offsets_cases, element_sized, with_number-lengths, maps_member}

-- ---- locations

-- the memory that a rule finds is that of the location, for so many bytes
abbrev pub Means : Maps → ℕ → Area → Location → Type 0
Means maps n (OnStack at) (location.OnStack to) = (at ≡ to) × (at % n ≡ 0)
Means maps n InElement (location.InElement m i at) = HasElement maps m i × (at + n ≤ length (element maps m i))
Means maps n (InTask f) (location.InTask t g) = (f ≡ g) × (field_width f ≡ n)
Means maps n area to = ⊥

-- a rule's area against the location that the address means
abbrev pub Finds : Maps → ℕ → Result Area Why → Location → Type 0
Finds maps n (Err why) to = Unit {0}
Finds maps n (Ok area) to = Means maps n area to

stack_found : (maps : Maps) (n : ℕ) (t : Option ℕ) → Finds maps n (offset_for stack_size n t >>= λ at. Ok (OnStack at)) (on_stack (aligned_within stack_size n t))
stack_found maps n t =
    offset_cases stack_size n t (λ r o. Finds maps n (r >>= λ at. Ok (OnStack at)) (on_stack o)) (λ why o. tt) (λ at inside aligned. (refl, aligned))

element_found : (maps : Maps) (m i size p : ℕ) (s : Size) (r : Range) (k : ℤ) → IsWellFormed r → IsIn p r → HasElement maps m i → length (element maps m i) ≡ size
    → Finds maps (size_bytes s) (offsets_for size (size_bytes s) r k >>= λ fine. Ok InElement) (in_element m i (aligned_within (length (element maps m i)) (size_bytes s) (at_distance p k)))
element_found maps m i size p s r k w h there long =
    rw (← long) (offsets_cases (length (element maps m i)) s r k p (λ x o. Finds maps (size_bytes s) (x >>= λ fine. Ok InElement) (in_element m i o)) w h (λ why o. tt) (λ at inside. (there, inside)))

-- a field that an access takes whole has as many bytes
first_width : (n at : ℕ) (fs : List Field) (f : Field) → found_field n at fs ≡ Some f → field_width f ≡ n
first_width n at [] f e = absurd (cc)
first_width n at (g ∷ fs) f e = go (nat_eq at (field_offset g) && nat_eq n (field_width g)) refl e (first_width n at fs f)
  where
    same : (d h : Field) → Some d ≡ Some h → d ≡ h
    same d h k = cc

    go : (b : Bool) → (nat_eq at (field_offset g) && nat_eq n (field_width g)) ≡ b → (if b then Some g else found_field n at fs) ≡ Some f → (found_field n at fs ≡ Some f → field_width f ≡ n) → field_width f ≡ n
    go true t k rest = ap field_width (sym (same g f k)) ∙ sym (eqb-true n (field_width g) ((and_parts (nat_eq at (field_offset g)) (nat_eq n (field_width g)) t).1))
    go false t k rest = rest k

width_found : (n : ℕ) (at : Option ℕ) (f : Field) → field_at n at ≡ Some f → field_width f ≡ n
width_found n None f e = absurd (cc)
width_found n (Some at) f e = first_width n at (Pid ∷ Weight ∷ Slice ∷ DsqVtime ∷ PrevCpu ∷ Group ∷ RunNs ∷ Cpus ∷ []) f e

field_found : (maps : Maps) (n : ℕ) (t : TaskId) (at : Option ℕ) → Finds maps n (field_area (field_at n at)) (in_task t (field_at n at))
field_found maps n t at = go (field_at n at) refl
  where
    go : (o : Option Field) → field_at n at ≡ o → Finds maps n (field_area o) (in_task t o)
    go None e = tt
    go (Some f) e = (refl, width_found n at f e)

-- the memory that a kind means is where an address of its value points
pub area_found : (shapes : List Shape) (maps : Maps) (k : Kind) (v : Value) (offset : ℤ) (s : Size) → HasShapes shapes maps → IsProperKind k → Stands maps k v
    → Finds maps (size_bytes s) (area_of shapes k offset (size_bytes s)) (address maps v offset (size_bytes s))
area_found shapes maps (kind.Stack o) (value.Pointer (pointer.Stack p)) offset s shaped w h = rw h (stack_found maps (size_bytes s) (at_distance p offset))
area_found shapes maps (kind.Stack o) v offset s shaped w h = absurd h
area_found shapes maps (Elem m r) (value.Pointer (pointer.Element k i p)) offset s shaped w h =
    rw h.0 (element_found maps k i _ p s r offset w h.1 h.2 (element_sized shapes maps k i shaped h.2))
area_found shapes maps (Elem m r) v offset s shaped w h = absurd h
area_found shapes maps Task (value.Pointer (pointer.Task t)) offset s shaped w h = field_found maps (size_bytes s) t (at_distance 0 offset)
area_found shapes maps Task v offset s shaped w h = absurd h
area_found shapes maps k v offset s shaped w h = tt

-- what holds of every refusal, and of each location that both find, holds of both
area_cases : {B : Type 0} (maps : Maps) (n : ℕ) (r : Result Area Why) (to : Location) (f : Area → Result B Why) (P : Result B Why → Type 0) → ((why : Why) → P (Err why))
    → Finds maps n r to → ((area : Area) → Means maps n area to → P (f area)) → P (r >>= f)
area_cases maps n (Err why) to f P none h ok = none why
area_cases maps n (Ok area) to f P none h ok = ok area h

-- ---- loads

-- numbers were written to the bytes of a cell that are known to be written
pub bytes_stand : (maps : Maps) (set : List Bool) (stack : Stack) (at n : ℕ) → CellStands maps (Bytes set) stack (8 * (at / 8)) → at % 8 + n ≤ 8 → all_written set (at % 8) n ≡ true
    → (i : ℕ) → i < n → IsByte (stack (at + i))
bytes_stand maps set stack at n h fits e i lt =
    let place : at + i ≡ 8 * (at / 8) + (at % 8 + i) = omega arith in
    rw place (h (at % 8 + i) (omega arith) (written_at set (at % 8) n i e lt))

loads : (maps : Maps) (cell : Cell) (stack : Stack) (a : Access) (at : ℕ) → CellStands maps cell stack (8 * (at / 8)) → at % 8 + size_bytes (access_size a) ≤ 8
    → Gives maps (loaded_kind cell a (at % 8)) (load stack a at)
loads maps (Bytes set) stack a at h fits = go (all_written set (at % 8) (size_bytes (access_size a))) refl
  where
    go : (b : Bool) → all_written set (at % 8) (size_bytes (access_size a)) ≡ b → Gives maps (if b then Ok (Num (results.loaded_range a)) else Err UnwrittenStack) (load stack a at)
    go true e =
        let here = bytes_stand maps set stack at (size_bytes (access_size a)) h fits e in
        let read = bytes_read stack at (size_bytes (access_size a)) here in
        rw read.1 ((loads_are_sound a).kept read.0 (read_below stack at (size_bytes (access_size a)) read.0 here read.1))
    go false e = tt
loads maps (Pointer k) stack access.DoubleWord at h fits =
    let place : 8 * (at / 8) ≡ at = omega arith in
    let read = reads_back maps k h.0 h.1 (bytes_at stack (8 * (at / 8)) 8) h.2 in
    let is : value_in access.DoubleWord (bytes_at stack at 8) ≡ Some read.value = ap (λ i. value_in access.DoubleWord (bytes_at stack i 8)) (sym place) ∙ read.is in
    rw is read.stands
loads maps (Pointer k) stack a at h fits = tt

field_loaded : (by : Rules) (shapes : List Shape) (a : AbsState) (m : Machine) (r : ℕ) (access : Access) (t : TaskId) (f : Field) → IsMember shapes a m → field_width f ≡ size_bytes (access_size access)
    → IsSoundFor shapes (sets a r (kind_in by a access (InTask f))) (load_effect m r access (location.InTask t f))
field_loaded by shapes a m r access t f h wide = go (is_plain access) (is_known_field f by) refl
  where
    go : (b known : Bool) → is_plain access ≡ b
        → IsSoundFor shapes (sets a r (if b && known then Ok (Num (results.loaded_range access)) else Err TaskField)) (if b then set_register_by_answer m r (effect.Load t f) else effect.Stuck)
    go true true e = answer_sound shapes a m r (Num (results.loaded_range access)) (effect.Load t f) h (λ v fits. field_stands m.maps t f access v e wide fits)
    go true false e = refused_sound shapes a r TaskField (set_register_by_answer m r (effect.Load t f))
    go false known e = refused_sound shapes a r TaskField effect.Stuck

load_in : (by : Rules) (shapes : List Shape) (a : AbsState) (m : Machine) (r : ℕ) (access : Access) (area : Area) (to : Location) → IsMember shapes a m
    → Means m.maps (size_bytes (access_size access)) area to → IsSoundFor shapes (sets a r (kind_in by a access area)) (load_effect m r access to)
load_in by shapes a m r access (OnStack at) (location.OnStack to) h g =
    rw (← g.0) (set_sound shapes a m r (loaded_kind (cell_at a (at / 8)) access (at % 8)) (load m.stack access at) h
    (loads m.maps (cell_at a (at / 8)) m.stack access at (h.cells (at / 8)) (fits_cell (access_size access) at g.1)))
load_in by shapes a m r access (OnStack at) to h g = absurd g
load_in by shapes a m r access InElement (location.InElement k i at) h g =
    set_sound shapes a m r (Ok (Num (results.loaded_range access))) (Some (value.Number (read_as access (number_at (element m.maps k i) at (size_bytes (access_size access)))))) h
    ((loads_are_sound access).kept (number_at (element m.maps k i) at (size_bytes (access_size access))) (element_below (element m.maps k i) at (size_bytes (access_size access)) (h.maps.bytes k i)))
load_in by shapes a m r access InElement to h g = absurd g
load_in by shapes a m r access (InTask f) (location.InTask t e) h g = rw g.0 (field_loaded by shapes a m r access t e h (ap field_width (sym g.0) ∙ g.1))
load_in by shapes a m r access (InTask f) to h g = absurd g

-- the rule of loads is sound
pub load_sound : (c : Context) (a : AbsState) (m : Machine) (access : Access) (d r : Register) (offset : ℤ) → IsProper a → IsMember c.defs a m
    → IsSoundFor c.defs (sets a (number d) (load_kind c a access r offset)) (load_effect m (number d) access (address m.maps (m.registers (number r)) offset (size_bytes (access_size access))))
load_sound c a m access d r offset p h =
    let n = size_bytes (access_size access) in
    let to = address m.maps (m.registers (number r)) offset n in
    checked m.maps (usable (kind_at a (number r))) (m.registers (number r))
    (λ base. area_of c.defs base offset n >>= λ area. kind_in c.rules a access area)
    (λ res. IsSoundFor c.defs (sets a (number d) res) (load_effect m (number d) access to)) (λ why. refused_sound c.defs a (number d) why (load_effect m (number d) access to))
    (register_allows c.defs a m r p h)
    (λ base ub pb hb. area_cases m.maps n (area_of c.defs base offset n) to (λ area. kind_in c.rules a access area)
    (λ res. IsSoundFor c.defs (sets a (number d) res) (load_effect m (number d) access to)) (λ why. refused_sound c.defs a (number d) why (load_effect m (number d) access to))
    (area_found c.defs m.maps base (m.registers (number r)) offset (access_size access) h.maps pb hb)
    (λ area means. load_in c.rules c.defs a m (number d) access area to h means))

-- ---- stores

cell_member : (shapes : List Shape) (a : AbsState) (m : Machine) (c : ℕ) (cell : Cell) (stack : Stack) → IsMember shapes a m → CellStands m.maps cell stack (8 * c)
    → ((i : ℕ) → (i ≡ c → ⊥) → CellStands m.maps (cell_at a i) stack (8 * i)) → IsMember shapes (with_cell a c cell) (with_stack m stack)
cell_member shapes a m c cell stack h new old = record {
  registers = h.registers;
  cells = set_each (λ i d. CellStands m.maps d stack (8 * i)) a.cells (Bytes []) c cell (λ i j lt w. absurd (cc)) new old;
  maps = h.maps;
}

-- a number that is stored to bytes of a cell is known of
pub after_number : (shapes : List Shape) (a : AbsState) (m : Machine) (s : Size) (at n : ℕ) → IsMember shapes a m → at % 8 + size_bytes s ≤ 8
    → IsMember shapes (with_cell a (at / 8) (Bytes (with_bytes (written_in (cell_at a (at / 8))) (at % 8) (size_bytes s)))) (with_stack m (write m.stack at (number_bytes (size_bytes s) n)))
after_number shapes a m s at n h fits =
    let place : at ≡ 8 * (at / 8) + at % 8 = omega arith in
    let long : length (number_bytes (size_bytes s) n) ≡ size_bytes s = length-number_bytes (size_bytes s) n in
    cell_member shapes a m (at / 8) (Bytes (with_bytes (written_in (cell_at a (at / 8))) (at % 8) (size_bytes s))) (write m.stack at (number_bytes (size_bytes s) n)) h
    (bytes.number_stored m.maps (cell_at a (at / 8)) m.stack at (at / 8) (at % 8) (size_bytes s) n place (h.cells (at / 8)))
    (λ i other. cell_apart m.maps (cell_at a i) m.stack at (number_bytes (size_bytes s) n) i other (omega arith) (h.cells i))

after_pointer : (shapes : List Shape) (a : AbsState) (m : Machine) (at : ℕ) (k : Held) (v : Value) (bytes : List StackByte) → IsMember shapes a m → at % 8 + 8 ≤ 8 → Stands m.maps (kind_of k) v
    → value_bytes size.DoubleWord v ≡ Some bytes → IsMember shapes (with_cell a (at / 8) (Pointer k)) (with_stack m (write m.stack at bytes))
after_pointer shapes a m at k v bytes h fits g b =
    let place : at ≡ 8 * (at / 8) = omega arith in
    let long : length bytes ≡ 8 = length-value_bytes size.DoubleWord v bytes b in
    cell_member shapes a m (at / 8) (Pointer k) (write m.stack at bytes) h
    (pointer_stored m.maps k v m.stack at (at / 8) bytes place g b)
    (λ i other. cell_apart m.maps (cell_at a i) m.stack at bytes i other (omega arith) (h.cells i))

no_value : (maps : Maps) (k : Held) → Stands maps (kind_of k) value.Unset → ⊥
no_value maps (held.Stack o) h = h
no_value maps (held.Elem m o) h = h
no_value maps (held.ElemOrNull m) h = h
no_value maps held.Task h = h
no_value maps held.TaskOrNull h = h
no_value maps (held.MapRef m) h = h

-- where a register's kind is kept, the cell's stands for the value too
abbrev Keeps : Maps → Option Held → Value → Type 0
Keeps maps None v = Unit {0}
Keeps maps (Some k) v = Stands maps (kind_of k) v

kept : (maps : Maps) (k : Kind) (v : Value) → Stands maps k v → Keeps maps (held_of k) v
kept maps Unusable v h = tt
kept maps (Num r) v h = tt
kept maps k v h = h

pointer_held : (shapes : List Shape) (a : AbsState) (m : Machine) (at : ℕ) (o : Option Held) (v : Value) → IsMember shapes a m → at % 8 + 8 ≤ 8 → Keeps m.maps o v
    → IsSoundFor shapes (pointer_cell o >>= λ cell. goes_on (with_cell a (at / 8) cell)) (store_effect m size.DoubleWord v (location.OnStack at))
pointer_held shapes a m at None v h fits g = tt
pointer_held shapes a m at (Some k) (value.Number n) h fits g = after_pointer shapes a m at k (value.Number n) (number_bytes 8 n) h fits g refl
pointer_held shapes a m at (Some k) (value.Pointer p) h fits g = after_pointer shapes a m at k (value.Pointer p) (parts p) h fits g refl
pointer_held shapes a m at (Some k) value.Unset h fits g = absurd (no_value m.maps k g)

stack_stored : (shapes : List Shape) (a : AbsState) (m : Machine) (s : Size) (at : ℕ) (k : Kind) (v : Value) → IsMember shapes a m → at % 8 + size_bytes s ≤ 8 → IsUsable k → Stands m.maps k v
    → IsSoundFor shapes (stored_in a s k (OnStack at)) (store_effect m s v (location.OnStack at))
stack_stored shapes a m s at (Num r) (value.Number n) h fits u g = after_number shapes a m s at n h fits
stack_stored shapes a m s at (Num r) v h fits u g = absurd g
stack_stored shapes a m size.DoubleWord at Unusable v h fits u g = absurd u
stack_stored shapes a m size.DoubleWord at k value.Unset h fits u g = absurd g
stack_stored shapes a m size.DoubleWord at k v h fits u g = pointer_held shapes a m at (held_of k) v h fits (kept m.maps k v g)
stack_stored shapes a m s at k v h fits u g = tt

element_stored : (shapes : List Shape) (a : AbsState) (m : Machine) (s : Size) (e i at : ℕ) (k : Kind) (v : Value) → IsMember shapes a m → HasElement m.maps e i
    → at + size_bytes s ≤ length (element m.maps e i) → Stands m.maps k v → IsSoundFor shapes (number_stored a k) (store_effect m s v (location.InElement e i at))
element_stored shapes a m s e i at (Num r) (value.Number n) h there room g =
    let bytes = with_number (element m.maps e i) at (size_bytes s) n in
    maps_member shapes a m (with_element m.maps e i bytes) h (with_number-lengths m.maps e i at (size_bytes s) n there room)
    (with_element_bytes m.maps e i bytes h.maps.bytes (with_number_bytes (element m.maps e i) at (size_bytes s) n (h.maps.bytes e i))) refl
element_stored shapes a m s e i at (Num r) v h there room g = absurd g
element_stored shapes a m s e i at k v h there room g = tt

field_stored : (shapes : List Shape) (a : AbsState) (m : Machine) (s : Size) (t : TaskId) (f : Field) (k : Kind) (v : Value) → IsMember shapes a m → Stands m.maps k v
    → IsSoundFor shapes (stored_in a s k (InTask f)) (store_effect m s v (location.InTask t f))
field_stored shapes a m s t f (Num r) (value.Number n) h g =
    elim (is_writable f) as (λ b. IsSoundFor shapes (if b then goes_on a else Err TaskField) (if b then effect.Ask (effect.Store t f n) (λ v. m) else effect.Stuck))
    [ true ↦ λ v fits. h | false ↦ tt ]
field_stored shapes a m s t f (Num r) v h g = absurd g
field_stored shapes a m s t f k v h g = refused (is_writable f)
  where
    refused : (b : Bool) → IsSoundFor shapes (if b then number_stored a k else Err TaskField) (store_effect m s v (location.InTask t f))
    refused true = tt
    refused false = tt

store_in : (shapes : List Shape) (a : AbsState) (m : Machine) (s : Size) (k : Kind) (v : Value) (area : Area) (to : Location) → IsMember shapes a m → IsUsable k → Stands m.maps k v
    → Means m.maps (size_bytes s) area to → IsSoundFor shapes (stored_in a s k area) (store_effect m s v to)
store_in shapes a m s k v (OnStack at) (location.OnStack to) h u g means = rw (← means.0) (stack_stored shapes a m s at k v h (fits_cell s at means.1) u g)
store_in shapes a m s k v (OnStack at) to h u g means = absurd means
store_in shapes a m s k v InElement (location.InElement e i at) h u g means = element_stored shapes a m s e i at k v h means.0 means.1 g
store_in shapes a m s k v InElement to h u g means = absurd means
store_in shapes a m s k v (InTask f) (location.InTask t e) h u g means = rw means.0 (field_stored shapes a m s t e k v h g)
store_in shapes a m s k v (InTask f) to h u g means = absurd means

-- and that of stores
pub store_sound : (shapes : List Shape) (a : AbsState) (m : Machine) (s : Size) (r : Register) (offset : ℤ) (x : Operand) → IsOperand x → IsProper a → IsMember shapes a m
    → IsSoundFor shapes (store_rule shapes a s r offset x) (store_effect m s (operand_value m Bits64 x) (address m.maps (m.registers (number r)) offset (size_bytes s)))
store_sound shapes a m s r offset x fits p h =
    let n = size_bytes s in
    let v = operand_value m Bits64 x in
    let to = address m.maps (m.registers (number r)) offset n in
    checked m.maps (usable (kind_at a (number r))) (m.registers (number r))
    (λ base. operand_kind a Bits64 x >>= λ k. area_of shapes base offset n >>= λ area. stored_in a s k area)
    (λ res. IsSoundFor shapes res (store_effect m s v to)) (λ why. tt)
    (register_allows shapes a m r p h)
    (λ base ub pb hb. checked m.maps (operand_kind a Bits64 x) v
    (λ k. area_of shapes base offset n >>= λ area. stored_in a s k area)
    (λ res. IsSoundFor shapes res (store_effect m s v to)) (λ why. tt)
    (operand_allows shapes a m Bits64 x fits p h)
    (λ k uk pk hk. area_cases m.maps n (area_of shapes base offset n) to (λ area. stored_in a s k area)
    (λ res. IsSoundFor shapes res (store_effect m s v to)) (λ why. tt)
    (area_found shapes m.maps base (m.registers (number r)) offset s h.maps pb hb)
    (λ area means. store_in shapes a m s k v area to h uk hk means)))
