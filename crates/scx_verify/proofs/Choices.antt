-- The operation that kinds give against the one that a state calls for.
use Rattle.std.proofs.Common.{◌≡◌, ℕ, ℤ, pos, ◌+◌, ◌≤◌, Bool, true, false, nat_eq, nat_le, List, [], ◌∷◌, length, Option, Some, None, Result, Ok, Err, if◌then◌else◌, refl, sym, ap, ◌∙◌, subst, arith, add-zero, ◌/◌, ◌%◌}
use Rattle.std.proofs.lemmas.Bool.{leb-true, le-leb}
use Rattle.scx_isa_semantics.specs.declared.callbacks.Callback.{Callback}
use Rattle.scx_isa_semantics.specs.declared.instructions.Insn.TheVariants as insn
use Rattle.scx_isa_semantics.specs.declared.instructions.Operand.{Operand}
use Rattle.scx_isa_semantics.specs.declared.operations.Access.{Access}
use Rattle.scx_isa_semantics.specs.declared.operations.Size.{Size}
use Rattle.scx_isa_semantics.specs.declared.operations.Width.TheVariants.{Bits64}
use Rattle.scx_isa_semantics.specs.declared.registers.Register.{Register}
use Rattle.scx_isa_semantics.specs.declared.host_tables.Helper.{Helper}
use Rattle.scx_isa_semantics.specs.declared.host_tables.Helper.TheVariants.{MapLookupElem, OnMap}
use Rattle.scx_isa_semantics.specs.declared.host_tables.MapHelper.{MapHelper}
use Rattle.scx_isa_semantics.specs.declared.host_tables.MapHelper.TheVariants.{Update, Delete, Push, Pop, Peek, LookUpPerCpu}
use Rattle.scx_isa_semantics.specs.declared.host_tables.Parameter.{Parameter}
use Rattle.scx_isa_semantics.specs.declared.map_kinds.MapKind.{MapKind}
use Rattle.scx_isa_semantics.specs.declared.host_tables.Parameter.TheVariants as parameter
use Rattle.scx_isa_semantics.specs.declared.rules.Rules.{Rules}
use Rattle.scx_isa_semantics.specs.declared.values.Value.{Value}
use Rattle.scx_isa_semantics.specs.declared.values.Value.TheVariants as value
use Rattle.scx_isa_semantics.specs.declared.values.Pointer.TheVariants as pointer
use Rattle.scx_isa_semantics.specs.Registers.{number}
use Rattle.scx_isa_semantics.specs.Memory.{size_bytes, access_size, stack_size}
use Rattle.scx_isa_semantics.specs.HostTables.{helper_at, map_parameters, is_known, is_allowed, if_known}
use Rattle.scx_isa_semantics.specs.Elements.{Maps, directory, element}
use Rattle.scx_isa_semantics.specs.Directories as directories
use Rattle.scx_isa_semantics.specs.Directories.{Directory, kind_of}
use Rattle.scx_isa_semantics.specs.Calls.{key_access, key_bytes, key_size_at_hand, value_size_at_hand, fitting, region, region_at_hand}
use Rattle.scx_isa_semantics.specs.Locations as location
use Rattle.scx_isa_semantics.specs.Locations.{Location, on_stack, in_element, address}
use Rattle.scx_isa_semantics.specs.Machine.{Machine}
use Rattle.scx_maps.specs.declared.shape.Shape.{Shape}
use Rattle.scx_maps.specs.Contents.{HasShapes}
use Rattle.scx_maps.proofs.KindsOfShapes.{kind-shaped}
use Rattle.scx_vm.specs.declared.context.Context.{Context}
use Rattle.scx_abs.specs.declared.faults.Why.{Why}
use Rattle.scx_abs.specs.declared.faults.Why.TheVariants.{WritesFrame, OutOfBounds, Misaligned, HelperNotHere}
use Rattle.scx_abs.specs.declared.kinds.Kind.{Kind}
use Rattle.scx_abs.specs.declared.kinds.Kind.TheVariants.{Unusable, Stack, Elem, MapRef}
use Rattle.scx_abs.specs.declared.memory.Area.{Area}
use Rattle.scx_abs.specs.declared.memory.Area.TheVariants.{OnStack, InElement, InTask}
use Rattle.scx_abs.specs.declared.states.AbsState.{AbsState}
use Rattle.scx_abs.specs.declared.rules.Next.{Next}
use Rattle.scx_abs.specs.States.{kind_at, cell_at, IsProper}
use Rattle.scx_abs.specs.Stands.{Stands, IsMember}
use Rattle.scx_isa_semantics.specs.Results.{◌>>=◌}
use Rattle.scx_abs.specs.Checks.{usable, operand_kind, sets, offset_for}
use Rattle.scx_abs.specs.Calls.{kind_of_map, key_bytes_at_hand, value_bytes_at_hand, key_in, room_check, filled_check, IsMapParameter, argument_check, arguments_check, call_allowed, call_rule}
use Rattle.scx_abs.specs.Rules.{area_of, kind_in, load_kind, stored_in, store_rule}
use Rattle.scx_abs.proofs.Accesses.{Means, area_found}
use Rattle.scx_abs.proofs.Proper.{kind_is_proper}
use Rattle.scx_abs.proofs.HelperCalls.{Agrees, IsFine, key_agrees, value_agrees, mapped}
use Rattle.scx_vm.specs.declared.ops.Op.TheVariants as op
use Rattle.scx_vm.specs.declared.ops.Place.{Place}
use Rattle.scx_vm.specs.declared.ops.Place.TheVariants as place
use Rattle.scx_vm.specs.Chosen as chosen
use Rattle.scx_vm.specs.Chosen.{place_of, load_op, store_op, look_up_op, call_op}
use Rattle.scx_vm.proofs.OnMaps.{fitting_cases}
use Rattle.scx_verify.specs.Translation.{load_from, store_to, place_by, map_op, look_up_of, look_up_in, call_of}
use Rattle.scx_verify.specs.Laws.{TypingChooses}

-- ---- checks that pass

abbrev ok : {A : Type 0} → A → Result A Why
ok x = Ok x

set_passes : (a : AbsState) (r : ℕ) (res : Result Kind Why) (next : Next) → sets a r res ≡ Ok next → (k : Kind) × (res ≡ Ok k)
set_passes a r (Err why) next e = go (nat_eq r 10) e
  where
    go : (b : Bool) → (if b then Err WritesFrame else Err why) ≡ ok next → (k : Kind) × (Err why ≡ ok k)
    go true f = absurd (cc)
    go false f = absurd (cc)
set_passes a r (Ok k) next e = (k, refl)

-- the area of an access whose checks pass is there
area_passes : {B : Type 0} (shapes : List Shape) (k : Kind) (z : ℤ) (n : ℕ) (f : Area → Result B Why) (x : B) → (usable k >>= λ base. area_of shapes base z n >>= f) ≡ Ok x → (area : Area) × (area_of shapes k z n ≡ Ok area)
area_passes shapes Unusable z n f x e = absurd (cc)
area_passes shapes k z n f x e = go (area_of shapes k z n) refl e
  where
    go : (r : Result Area Why) → area_of shapes k z n ≡ r → (r >>= f) ≡ Ok x → (area : Area) × (area_of shapes k z n ≡ Ok area)
    go (Err why) g h = absurd (cc)
    go (Ok area) g h = (area, g)

-- ---- accesses

load_means : (maps : Maps) (n : ℕ) (x : Access) (d r : Register) (k : ℤ) (area : Area) (to : Location) → Means maps n area to → load_from x d r k (Ok area) ≡ load_op x d r k to
load_means maps n x d r k (OnStack at) (location.OnStack to) h = ap (λ i. load_from x d r k (Ok (OnStack i))) h.0
load_means maps n x d r k (OnStack at) to h = absurd h
load_means maps n x d r k InElement (location.InElement m i at) h = refl
load_means maps n x d r k InElement to h = absurd h
load_means maps n x d r k (InTask f) (location.InTask t g) h = ap (λ i. load_from x d r k (Ok (InTask i))) h.0
load_means maps n x d r k (InTask f) to h = absurd h

store_means : (maps : Maps) (n : ℕ) (s : Size) (r : Register) (k : ℤ) (x : Operand) (area : Area) (to : Location) → Means maps n area to → store_to s r k x (Ok area) ≡ store_op s r k x to
store_means maps n s r k x (OnStack at) (location.OnStack to) h = ap (λ i. store_to s r k x (Ok (OnStack i))) h.0
store_means maps n s r k x (OnStack at) to h = absurd h
store_means maps n s r k x InElement (location.InElement m i at) h = refl
store_means maps n s r k x InElement to h = absurd h
store_means maps n s r k x (InTask f) (location.InTask t g) h = ap (λ i. store_to s r k x (Ok (InTask i))) h.0
store_means maps n s r k x (InTask f) to h = absurd h

-- the memory of an access is that of the address
found : (shapes : List Shape) (a : AbsState) (m : Machine) (r : ℕ) (z : ℤ) (s : Size) (area : Area) → IsProper a → IsMember shapes a m → area_of shapes (kind_at a r) z (size_bytes s) ≡ Ok area
    → Means m.maps (size_bytes s) area (address m.maps (m.registers r) z (size_bytes s))
found shapes a m r z s area p h e = rw e at (area_found shapes m.maps (kind_at a r) (m.registers r) z s h.maps (kind_is_proper a r p) (h.registers r))

load_chosen : (c : Context) (a : AbsState) (m : Machine) (x : Access) (d r : Register) (k : ℤ) (next : Next) → IsProper a → IsMember c.defs a m → sets a (number d) (load_kind c a x r k) ≡ Ok next
    → load_from x d r k (area_of c.defs (kind_at a (number r)) k (size_bytes (access_size x))) ≡ load_op x d r k (address m.maps (m.registers (number r)) k (size_bytes (access_size x)))
load_chosen c a m x d r k next p h e =
    let n : ℕ = size_bytes (access_size x) in
    let kind = set_passes a (number d) (load_kind c a x r k) next e in
    let area = area_passes c.defs (kind_at a (number r)) k n (λ area. kind_in c.rules a x area) kind.0 kind.1 in
    ap (load_from x d r k) area.1 ∙ load_means m.maps n x d r k area.0 _ (found c.defs a m (number r) k (access_size x) area.0 p h area.1)

store_passes : (shapes : List Shape) (a : AbsState) (s : Size) (r : Register) (k : ℤ) (x : Operand) (next : Next) → store_rule shapes a s r k x ≡ Ok next → (area : Area) × (area_of shapes (kind_at a (number r)) k (size_bytes s) ≡ Ok area)
store_passes shapes a s r k x next e = by_operand (operand_kind a Bits64 x) (kind_at a (number r)) refl e
  where
    by_operand : (o : Result Kind Why) (base : Kind) → kind_at a (number r) ≡ base → (usable base >>= λ j. o >>= λ q. area_of shapes j k (size_bytes s) >>= λ area. stored_in a s q area) ≡ Ok next
        → (area : Area) × (area_of shapes base k (size_bytes s) ≡ Ok area)
    by_operand (Ok q) base b f = area_passes shapes base k (size_bytes s) (λ area. stored_in a s q area) next f
    by_operand (Err why) Unusable b f = absurd (cc)
    by_operand (Err why) base b f = absurd (cc)

store_chosen : (shapes : List Shape) (a : AbsState) (m : Machine) (s : Size) (r : Register) (k : ℤ) (x : Operand) (next : Next) → IsProper a → IsMember shapes a m → store_rule shapes a s r k x ≡ Ok next
    → store_to s r k x (area_of shapes (kind_at a (number r)) k (size_bytes s)) ≡ store_op s r k x (address m.maps (m.registers (number r)) k (size_bytes s))
store_chosen shapes a m s r k x next p h e =
    let area = store_passes shapes a s r k x next e in
    ap (store_to s r k x) area.1 ∙ store_means m.maps (size_bytes s) s r k x area.0 _ (found shapes a m (number r) k s area.0 p h area.1)

-- ---- look-ups

-- checks of arguments that pass
abbrev fine : Result (Unit {0}) Why
fine = Ok tt

first_passes : {B : Type 0} (r : Result (Unit {0}) Why) (f : Unit {0} → Result B Why) (x : B) → (r >>= f) ≡ Ok x → r ≡ fine
first_passes (Ok tt) f x e = refl
first_passes (Err why) f x e = absurd (cc)

second_passes : {B : Type 0} (r : Result (Unit {0}) Why) (f : Unit {0} → Result B Why) (x : B) → (r >>= f) ≡ Ok x → f tt ≡ Ok x
second_passes (Ok tt) f x e = e
second_passes (Err why) f x e = absurd (cc)

-- ---- keys

-- the place of a key in that area
abbrev place_in : Area → Place
place_in (OnStack at) = place.OnStack at
place_in x = place.InElement

-- a check of an offset gives the offset
same_offset : (size n o at : ℕ) → offset_for size n (Some o) ≡ Ok at → o ≡ at
same_offset size n o at e = go (nat_le (o + n) size) (nat_eq (o % n) 0) e
  where
    go : (b c : Bool) → (if b then if c then Ok o else Err Misaligned else Err OutOfBounds) ≡ ok at → o ≡ at
    go true true f = cc
    go true false f = absurd (cc)
    go false c f = absurd (cc)

-- a key that is checked lies in an area
pub record KeyArea (shapes : List Shape) (k : Kind) (n : ℕ) : Type 0 where
  pub area : Area
  pub there : area_of shapes k (pos 0) n ≡ Ok area
  pub same : place_by k ≡ place_in area

key_passes : (shapes : List Shape) (a : AbsState) (k : Kind) → argument_check shapes a parameter.Key k ≡ fine → KeyArea shapes k (key_bytes_at_hand shapes a)
key_passes shapes a (Stack o) e = go (offset_for stack_size n (Some o)) refl e
  where
    n : ℕ
    n = key_bytes_at_hand shapes a

    go : (r : Result ℕ Why) → offset_for stack_size n (Some o) ≡ r → (r >>= λ at. key_in (cell_at a (at / 8)) (at % 8) n) ≡ fine → KeyArea shapes (Stack o) n
    go (Ok at) f g = record {
      area = OnStack at;
      there = ap (λ i. offset_for stack_size n (Some i) >>= λ at. Ok (OnStack at)) (add-zero o) ∙ ap (λ r. r >>= λ at. Ok (OnStack at)) f;
      same = ap (λ i. place.OnStack i) (same_offset stack_size n o at f);
    }
    go (Err why) f g = absurd (cc)
key_passes shapes a (Elem m o) e = record { area = InElement; there = ap (λ r. r >>= λ at. Ok InElement) e; same = refl }
key_passes shapes a k e = absurd (cc)

-- the area that a key means is its place
means_place : (maps : Maps) (n : ℕ) (area : Area) (to : Location) → Means maps n area to → place_in area ≡ place_of to
means_place maps n (OnStack at) (location.OnStack to) h = ap (λ i. place.OnStack i) h.0
means_place maps n (OnStack at) to h = absurd h
means_place maps n InElement (location.InElement m i at) h = refl
means_place maps n InElement to h = absurd h
means_place maps n (InTask f) (location.InTask t g) h = refl
means_place maps n (InTask f) to h = absurd h

key_chosen : (shapes : List Shape) (a : AbsState) (m : Machine) → IsProper a → IsMember shapes a m → Agrees a m → argument_check shapes a parameter.Key (kind_at a 2) ≡ fine
    → place_by (kind_at a 2) ≡ place_of (address m.maps (m.registers 2) (pos 0) (key_bytes (key_size_at_hand m)))
key_chosen shapes a m p h agree e =
    let key = key_passes shapes a (kind_at a 2) e in
    let sized = key_agrees shapes a m h.maps agree in
    let there : area_of shapes (kind_at a 2) (pos 0) (key_bytes (key_size_at_hand m)) ≡ Ok key.area = ap (λ n. area_of shapes (kind_at a 2) (pos 0) n) (sym sized) ∙ key.there in
    key.same ∙ means_place m.maps _ key.area _ (found shapes a m 2 (pos 0) (access_size (key_access (key_size_at_hand m))) key.area p h there)

-- ---- values

room_place : (shapes : List Shape) (m : Machine) (n more : ℕ) (k : Kind) (v : Value) → Stands m.maps k v → n ≤ more → room_check shapes more k ≡ fine → place_by k ≡ place_of (region m.maps v n)
room_place shapes m n more (Stack o) (value.Pointer (pointer.Stack q)) g fewer e = subst (λ j. place.OnStack o ≡ place_of (on_stack (fitting stack_size n j))) g (go (nat_le (o + more) stack_size) refl e)
  where
    go : (b : Bool) → nat_le (o + more) stack_size ≡ b → (if b then Ok tt else Err OutOfBounds) ≡ fine → place.OnStack o ≡ place_of (on_stack (fitting stack_size n o))
    go true f t = rw (le-leb (o + n) stack_size (omega (arith, fewer, leb-true (o + more) stack_size f))) refl
    go false f t = absurd (cc)
room_place shapes m n more (Stack o) v g fewer e = absurd g
room_place shapes m n more (Elem f r) (value.Pointer (pointer.Element d i at)) g fewer e =
    fitting_cases (length (element m.maps d i)) n at (λ t. place.InElement ≡ place_of (in_element d i t)) refl (λ fits. refl)
room_place shapes m n more (Elem f r) v g fewer e = absurd g
room_place shapes m n more k v g fewer e = absurd (cc)

-- the check of a room, of an argument that has one
room_checked : (shapes : List Shape) (a : AbsState) (k : Kind) → argument_check shapes a parameter.Room k ≡ fine → room_check shapes (value_bytes_at_hand shapes a) k ≡ fine
room_checked shapes a Unusable e = absurd (cc)
room_checked shapes a k e = e

value_checked : (shapes : List Shape) (a : AbsState) (k : Kind) → argument_check shapes a parameter.Value k ≡ fine → room_check shapes (value_bytes_at_hand shapes a) k ≡ fine
value_checked shapes a Unusable e = absurd (cc)
value_checked shapes a k e = first_passes (room_check shapes (value_bytes_at_hand shapes a) k) (λ room. filled_check a (value_bytes_at_hand shapes a) k) tt e

room_chosen : (shapes : List Shape) (a : AbsState) (m : Machine) (r : ℕ) → IsMember shapes a m → Agrees a m → room_check shapes (value_bytes_at_hand shapes a) (kind_at a r) ≡ fine → place_by (kind_at a r) ≡ place_of (region_at_hand m (m.registers r))
room_chosen shapes a m r h agree e =
    room_place shapes m (value_size_at_hand m) (value_bytes_at_hand shapes a) (kind_at a r) (m.registers r) (h.registers r) (value_agrees shapes a m h.maps agree) e

-- ---- helpers on maps

is_fine : (r : Result (Unit {0}) Why) → r ≡ fine → IsFine r
is_fine (Ok t) e = tt
is_fine (Err why) e = absurd (cc)

-- a first argument that is a map, and the checks behind it
first_agrees : (shapes : List Shape) (a : AbsState) (m : Machine) (p : Parameter) (ps : List Parameter) → IsMapParameter p → IsMember shapes a m → arguments_check shapes a (p ∷ ps) 1 ≡ fine → Agrees a m × (arguments_check shapes a ps 2 ≡ fine)
first_agrees shapes a m p ps i h e =
    let first = first_passes (argument_check shapes a p (kind_at a 1)) _ tt e in
    (mapped shapes a m p (kind_at a 1) (m.registers 1) i (h.registers 1) (is_fine (argument_check shapes a p (kind_at a 1)) first), second_passes (argument_check shapes a p (kind_at a 1)) _ tt e)

on_map_chosen : (shapes : List Shape) (a : AbsState) (m : Machine) (g : MapHelper) → IsProper a → IsMember shapes a m → arguments_check shapes a (map_parameters g) 1 ≡ fine → map_op a (OnMap g) ≡ chosen.map_op m (OnMap g)
on_map_chosen shapes a m Update p h e =
    let map = first_agrees shapes a m parameter.Map (parameter.Key ∷ parameter.Value ∷ parameter.Number ∷ []) tt h e in
    let key = key_chosen shapes a m p h map.0 (first_passes (argument_check shapes a parameter.Key (kind_at a 2)) _ tt map.1) in
    let rest = second_passes (argument_check shapes a parameter.Key (kind_at a 2)) _ tt map.1 in
    let room = room_chosen shapes a m 3 h map.0 (value_checked shapes a (kind_at a 3) (first_passes (argument_check shapes a parameter.Value (kind_at a 3)) _ tt rest)) in
    λ i. op.OnMap (OnMap Update) (map.0 i) (key i) (room i)
on_map_chosen shapes a m Delete p h e =
    let map = first_agrees shapes a m parameter.Map (parameter.Key ∷ []) tt h e in
    let key = key_chosen shapes a m p h map.0 (first_passes (argument_check shapes a parameter.Key (kind_at a 2)) _ tt map.1) in
    λ i. op.OnMap (OnMap Delete) (map.0 i) (key i) place.InElement
on_map_chosen shapes a m Push p h e =
    let map = first_agrees shapes a m parameter.LineMap (parameter.Value ∷ parameter.Number ∷ []) tt h e in
    let room = room_chosen shapes a m 2 h map.0 (value_checked shapes a (kind_at a 2) (first_passes (argument_check shapes a parameter.Value (kind_at a 2)) _ tt map.1)) in
    λ i. op.OnMap (OnMap Push) (map.0 i) place.InElement (room i)
on_map_chosen shapes a m Pop p h e =
    let map = first_agrees shapes a m parameter.LineMap (parameter.Room ∷ []) tt h e in
    let room = room_chosen shapes a m 2 h map.0 (room_checked shapes a (kind_at a 2) (first_passes (argument_check shapes a parameter.Room (kind_at a 2)) _ tt map.1)) in
    λ i. op.OnMap (OnMap Pop) (map.0 i) place.InElement (room i)
on_map_chosen shapes a m Peek p h e =
    let map = first_agrees shapes a m parameter.LineMap (parameter.Room ∷ []) tt h e in
    let room = room_chosen shapes a m 2 h map.0 (room_checked shapes a (kind_at a 2) (first_passes (argument_check shapes a parameter.Room (kind_at a 2)) _ tt map.1)) in
    λ i. op.OnMap (OnMap Peek) (map.0 i) place.InElement (room i)
on_map_chosen shapes a m LookUpPerCpu p h e =
    let map = first_agrees shapes a m parameter.PerCpuMap (parameter.Key ∷ parameter.Number ∷ []) tt h e in
    let key = key_chosen shapes a m p h map.0 (first_passes (argument_check shapes a parameter.Key (kind_at a 2)) _ tt map.1) in
    λ i. op.OnMap (OnMap LookUpPerCpu) (map.0 i) (key i) place.InElement

-- ---- look-ups

map_passes : (shapes : List Shape) (a : AbsState) (k : Kind) → argument_check shapes a parameter.Map k ≡ fine → (q : ℕ) × (k ≡ MapRef q)
map_passes shapes a (MapRef q) e = (q, refl)
map_passes shapes a k e = absurd (cc)

-- a look-up in a map of that kind, in both
kinds_chosen : (a : AbsState) (m : Machine) (q : ℕ) (at : Place) (k : MapKind) (d : Directory) → kind_of d ≡ k → map_op a MapLookupElem ≡ chosen.map_op m MapLookupElem → look_up_of a q at k ≡ chosen.look_up_in m q at d
kinds_chosen a m q at k directories.Array e other = ap (look_up_of a q at) (sym e)
kinds_chosen a m q at k directories.PerCpu e other = ap (look_up_of a q at) (sym e) ∙ other
kinds_chosen a m q at k (directories.Hash s ks) e other = ap (look_up_of a q at) (sym e) ∙ other
kinds_chosen a m q at k (directories.Queue l) e other = ap (look_up_of a q at) (sym e) ∙ other
kinds_chosen a m q at k (directories.Stack l) e other = ap (look_up_of a q at) (sym e) ∙ other

look_up_means : (shapes : List Shape) (a : AbsState) (m : Machine) (n q : ℕ) (v : Value) (area : Area) (to : Location) → HasShapes shapes m.maps → map_op a MapLookupElem ≡ chosen.map_op m MapLookupElem → Stands m.maps (MapRef q) v → Means m.maps n area to
    → look_up_in shapes a (MapRef q) (Ok area) ≡ look_up_op m v to
look_up_means shapes a m n q (value.Pointer (pointer.Map r)) (OnStack at) (location.OnStack to) shaped other s h =
    (λ i. look_up_in shapes a (MapRef (s.0 i)) (Ok (OnStack (h.0 i)))) ∙ kinds_chosen a m r (place.OnStack to) (kind_of_map shapes r) (directory m.maps r) (kind-shaped shapes m.maps r shaped) other
look_up_means shapes a m n q (value.Pointer (pointer.Map r)) (OnStack at) to shaped other s h = absurd h
look_up_means shapes a m n q (value.Pointer (pointer.Map r)) InElement (location.InElement e i at) shaped other s h =
    ap (λ j. look_up_in shapes a (MapRef j) (Ok InElement)) s.0 ∙ kinds_chosen a m r place.InElement (kind_of_map shapes r) (directory m.maps r) (kind-shaped shapes m.maps r shaped) other
look_up_means shapes a m n q (value.Pointer (pointer.Map r)) InElement to shaped other s h = absurd h
look_up_means shapes a m n q (value.Pointer (pointer.Map r)) (InTask f) (location.InTask t g) shaped other s h = refl
look_up_means shapes a m n q (value.Pointer (pointer.Map r)) (InTask f) to shaped other s h = absurd h
look_up_means shapes a m n q v area to shaped other s h = absurd s

look_up_chosen : (shapes : List Shape) (a : AbsState) (m : Machine) (next : Next) → IsProper a → IsMember shapes a m → call_allowed shapes MapLookupElem a ≡ Ok next
    → look_up_in shapes a (kind_at a 1) (area_of shapes (kind_at a 2) (pos 0) (key_bytes_at_hand shapes a)) ≡ look_up_op m (m.registers 1) (address m.maps (m.registers 2) (pos 0) (key_bytes (key_size_at_hand m)))
look_up_chosen shapes a m next p h e =
    let all = first_passes (arguments_check shapes a (parameter.Map ∷ parameter.Key ∷ []) 1) _ next e in
    let map = map_passes shapes a (kind_at a 1) (first_passes (argument_check shapes a parameter.Map (kind_at a 1)) _ tt all) in
    let both = first_agrees shapes a m parameter.Map (parameter.Key ∷ []) tt h all in
    let checked = first_passes (argument_check shapes a parameter.Key (kind_at a 2)) _ tt both.1 in
    let key = key_passes shapes a (kind_at a 2) checked in
    let sized = key_agrees shapes a m h.maps both.0 in
    let there : area_of shapes (kind_at a 2) (pos 0) (key_bytes (key_size_at_hand m)) ≡ Ok key.area = ap (λ n. area_of shapes (kind_at a 2) (pos 0) n) (sym sized) ∙ key.there in
    let keys = key_chosen shapes a m p h both.0 checked in
    let other : map_op a MapLookupElem ≡ chosen.map_op m MapLookupElem = λ i. op.OnMap MapLookupElem (both.0 i) (keys i) place.InElement in
    let stands : Stands m.maps (MapRef map.0) (m.registers 1) = subst (λ (k : Kind). Stands m.maps k (m.registers 1)) map.1 (h.registers 1) in
    (λ i. look_up_in shapes a (map.1 i) (key.there i))
    ∙ look_up_means shapes a m _ map.0 (m.registers 1) key.area _ h.maps other stands (found shapes a m 2 (pos 0) (access_size (key_access (key_size_at_hand m))) key.area p h there)

call_chosen : (shapes : List Shape) (c : Callback) (a : AbsState) (m : Machine) (o : Option Helper) (next : Next) → IsProper a → IsMember shapes a m → call_rule shapes c o a ≡ Ok next → call_of shapes a o ≡ call_op m o
call_chosen shapes c a m None next p h e = refl
call_chosen shapes c a m (Some MapLookupElem) next p h e = go (is_allowed MapLookupElem c) e
  where
    go : (b : Bool) → (if b then call_allowed shapes MapLookupElem a else Err HelperNotHere) ≡ ok next → call_of shapes a (Some MapLookupElem) ≡ call_op m (Some MapLookupElem)
    go true f = look_up_chosen shapes a m next p h f
    go false f = absurd (cc)
call_chosen shapes c a m (Some (OnMap g)) next p h e = go (is_allowed (OnMap g) c) e
  where
    go : (b : Bool) → (if b then call_allowed shapes (OnMap g) a else Err HelperNotHere) ≡ ok next → map_op a (OnMap g) ≡ chosen.map_op m (OnMap g)
    go true f = on_map_chosen shapes a m g p h (first_passes (arguments_check shapes a (map_parameters g) 1) _ next f)
    go false f = absurd (cc)
call_chosen shapes c a m (Some g) next p h e = refl

-- whichever helpers a machine by its rules has
known_chosen : (r : Rules) (shapes : List Shape) (c : Callback) (a : AbsState) (m : Machine) (o : Option Helper) (next : Next) → IsProper a → IsMember shapes a m → call_rule shapes c (if_known r o) a ≡ Ok next
    → call_of shapes a o ≡ call_op m o
known_chosen r shapes c a m None next p h e = refl
known_chosen r shapes c a m (Some g) next p h e = go (is_known g r) e
  where
    go : (b : Bool) → call_rule shapes c (if b then Some g else None) a ≡ ok next → call_of shapes a (Some g) ≡ call_op m (Some g)
    go true f = call_chosen shapes c a m (Some g) next p h f
    go false f = absurd (cc)

-- the law
pub typing_chooses : TypingChooses
typing_chooses c t (insn.Load x d r k) a m next p h e = load_chosen c a m x d r k next p h e
typing_chooses c t (insn.Store s r k x) a m next p h e = store_chosen c.defs a m s r k x next p h e
typing_chooses c t (insn.Call k) a m next p h e = known_chosen c.rules c.defs c.callback a m (helper_at k) next p h e
typing_chooses c t i a m next p h e = refl
