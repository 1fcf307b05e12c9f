-- What the interpreter's answers to helpers on maps come to.
use Rattle.std.proofs.Common.{◌≡◌, ℕ, ◌+◌, ◌<◌, ◌≤◌, Bool, true, false, ◌&&◌, nat_lt, pos, List, ◌∷◌, ◌++◌, length, length-take-le, length-append, take, drop, map, Option, Some, None, is_some, if◌then◌else◌, ◌⊎◌, inl, inr, refl, sym, ap, ◌∙◌, subst, arith}
use Rattle.std.proofs.lemmas.Bool.{ltb-true, lt-ltb}
use Rattle.scx_isa_semantics.specs.declared.operations.Size.{Size}
use Rattle.scx_isa_semantics.specs.declared.operations.Access.TheVariants.{Word, DoubleWord}
use Rattle.scx_isa_semantics.specs.declared.map_kinds.KeySize.TheVariants.{Four, Eight}
use Rattle.scx_isa_semantics.specs.declared.values.Pointer as pointers
use Rattle.scx_isa_semantics.specs.Memory.{Stack, bytes_at, number_in, pointer_in, number_or_pointer, load, size_bytes}
use Rattle.scx_isa_semantics.specs.declared.values.Pointer.TheVariants as pointer
use Rattle.scx_isa_semantics.specs.declared.values.Value.{Value}
use Rattle.scx_isa_semantics.specs.declared.values.Value.TheVariants.{Unset, Number, Pointer}
use Rattle.scx_isa_semantics.specs.declared.host_tables.Helper.{Helper}
use Rattle.scx_isa_semantics.specs.declared.host_tables.Helper.TheVariants.{MapLookupElem, SmpProcessorId, OnMap}
use Rattle.scx_isa_semantics.specs.declared.host_tables.MapHelper.TheVariants.{Update, Delete, Push, Pop, Peek, LookUpPerCpu}
use Rattle.scx_isa_semantics.specs.declared.host_tables.MapHelper.{MapHelper}
use Rattle.scx_isa_semantics.specs.declared.host_tables.Parameter.{Parameter}
use Rattle.scx_isa_semantics.specs.declared.host_tables.Parameter.TheVariants as parameter
use Rattle.scx_isa_semantics.specs.declared.map_kinds.KeySize.{KeySize}
use Rattle.scx_isa_semantics.specs.HostTables.{map_parameters, parameters, fits_map, is_of_map}
use Rattle.scx_isa_semantics.specs.Directories as directories
use Rattle.scx_isa_semantics.specs.Directories.{Directory, kind_of, key_size, seek, array_slot}
use Rattle.scx_isa_semantics.specs.Elements.{Contents, Maps, no_maps, count, directory, elements, element, with_element, number_at}
use Rattle.scx_isa_semantics.specs.Locations.{Location, OnStack, InElement, address}
use Rattle.scx_isa_semantics.specs.Machine.{Machine, with_maps}
use Rattle.scx_isa_semantics.specs.Effects as effects
use Rattle.scx_isa_semantics.specs.Serving.{Served, Answer, Gives, found, slot_count, value_size, look_up, update, delete, push, pop, peek}
use Rattle.scx_isa_semantics.specs.Calls.{number_of, key_access, key_bytes, key_at, map_in, map_or_first, map_at_hand, key_of_size, key, region, region_at_hand, numbers_in, over, value_read, bytes_there, is_room, takes, takes_map, takes_all, after_call, element_or_0, number_or_0, bytes_or_none, looked_up, number_given, key_given, with_bytes, served, after_serving, asks_here, nothing_given, map_effect, looked_up_in}
use Rattle.scx_isa_semantics.specs.Runs.{Outside}
use Rattle.scx_isa_semantics.specs.declared.values.StackByte.TheVariants.{Unwritten}
use Rattle.scx_vm.specs.Arguments.{argument_of}
use Rattle.scx_vm.specs.Host.{AreTaken}
use Rattle.scx_vm_tagged.proofs.HelperCalls.{arguments_taken}
use Rattle.scx_vm_tagged.specs.declared.effect.Effect.{Effect}
use Rattle.scx_vm_tagged.specs.declared.effect.Effect.TheVariants.{Stuck, Next, Jumped, Ended}
use Rattle.scx_vm_tagged.specs.Execute.{GoesOn, ComesTo}
use Rattle.scx_vm_tagged.specs.declared.memory.Location as places
use Rattle.scx_vm_tagged.specs.declared.memory.Location.TheVariants as place
use Rattle.scx_isa_semantics.specs.declared.host_tables.TaskId.{TaskId}
use Rattle.scx_isa_semantics.specs.declared.host_tables.Field.{Field}
use Rattle.scx_vm_tagged.specs.Locations.{location_of, LiesInElement}
use Rattle.scx_vm_tagged.specs.MapCalls.{called, Does, RefersTo, HasBytes, IsRoom, TellsHere, TellsCopy, value_found}
use Rattle.scx_maps.specs.Contents.{lengths_of}
use Rattle.scx_maps.proofs.Shaped.{lengths_of-with_value}
use Rattle.std.proofs.lemmas.List.{length-drop}

-- an effect that asks the host nothing
pub does_come : {W : Type 0} (O : Outside W) (e : effects.Effect) (maps : Maps) (w : W) (r : Effect) (m : Machine) → Does e maps r m → ComesTo O e maps w r m w
does_come O e maps w Stuck m d = (d.0, d.1, refl)
does_come {W} O e maps w Next m d = let Goes : effects.Effect → Type 0 = λ x. GoesOn O x w m w in subst Goes (sym d) (refl, refl)
does_come O e maps w Jumped m d = absurd d
does_come O e maps w (Ended n) m d = absurd d

-- ---- what isn't found

-- one test of several fails
and_second : (a b : Bool) → b ≡ false → (a && b) ≡ false
and_second true b lacks = lacks
and_second false b lacks = refl

-- a helper that lacks an argument is stuck
stuck_where : (b : Bool) (e : effects.Effect) → b ≡ false → (if b then e else effects.Stuck) ≡ effects.Stuck
stuck_where b e lacks = ap (λ (c : Bool). if c then e else effects.Stuck) lacks

-- one that lacks the map
pub no_map : (m : Machine) (p : Parameter) (rest : List Parameter) (e : effects.Effect) → takes m p (m.registers 1) ≡ false → (if takes_all m (p ∷ rest) 1 then e else effects.Stuck) ≡ effects.Stuck
no_map m p rest e lacks = stuck_where (takes_all m (p ∷ rest) 1) e (ap (λ (b : Bool). b && takes_all m rest 2) lacks)

-- one that lacks what r2 should hold
pub no_second : (m : Machine) (p q : Parameter) (rest : List Parameter) (e : effects.Effect) → takes m q (m.registers 2) ≡ false → (if takes_all m (p ∷ q ∷ rest) 1 then e else effects.Stuck) ≡ effects.Stuck
no_second m p q rest e lacks = stuck_where (takes_all m (p ∷ q ∷ rest) 1) e (and_second (takes m p (m.registers 1)) _ (ap (λ (b : Bool). b && takes_all m rest 3) lacks))

-- r3
pub no_third : (m : Machine) (p q s : Parameter) (rest : List Parameter) (e : effects.Effect) → takes m s (m.registers 3) ≡ false → (if takes_all m (p ∷ q ∷ s ∷ rest) 1 then e else effects.Stuck) ≡ effects.Stuck
no_third m p q s rest e lacks =
    stuck_where (takes_all m (p ∷ q ∷ s ∷ rest) 1) e
    (and_second (takes m p (m.registers 1)) _ (and_second (takes m q (m.registers 2)) _ (ap (λ (b : Bool). b && takes_all m rest 4) lacks)))

-- r4
pub no_fourth : (m : Machine) (p q s t : Parameter) (rest : List Parameter) (e : effects.Effect) → takes m t (m.registers 4) ≡ false → (if takes_all m (p ∷ q ∷ s ∷ t ∷ rest) 1 then e else effects.Stuck) ≡ effects.Stuck
no_fourth m p q s t rest e lacks =
    stuck_where (takes_all m (p ∷ q ∷ s ∷ t ∷ rest) 1) e
    (and_second (takes m p (m.registers 1)) _ (and_second (takes m q (m.registers 2)) _ (and_second (takes m s (m.registers 3)) _ (ap (λ (b : Bool). b && takes_all m rest 5) lacks))))

-- ---- what is found

-- the map that r1 refers to is at hand
pub at_hand : (m : Machine) (k : ℕ) → m.registers 1 ≡ Pointer (pointer.Map k) → map_at_hand m ≡ k
at_hand m k refers = ap (λ v. map_or_first (map_in v)) refers

-- its key
pub key_at_hand : (m : Machine) (k : ℕ) (o : Option ℕ) → map_at_hand m ≡ k → o ≡ key_of_size m (key_size (kind_of (directory m.maps k))) (m.registers 2) → key m (m.registers 2) ≡ o
key_at_hand m k o hand e = ap (λ i. key_of_size m (key_size (kind_of (directory m.maps i))) (m.registers 2)) hand ∙ sym e

-- its value
pub value_at_hand : (m : Machine) (k n r : ℕ) (o : Option (List ℕ)) → map_at_hand m ≡ k → n ≡ value_size m.maps k → o ≡ bytes_there m n (region m.maps (m.registers r) n) → value_read m (m.registers r) ≡ o
value_at_hand m k n r o hand long e =
    ap (λ i. bytes_there m i (region m.maps (m.registers r) i)) (ap (λ i. value_size m.maps i) hand ∙ sym long) ∙ sym e

-- room for it
pub room_at_hand : (m : Machine) (k n : ℕ) → map_at_hand m ≡ k → n ≡ value_size m.maps k → region_at_hand m (m.registers 2) ≡ region m.maps (m.registers 2) n
room_at_hand m k n hand long = ap (λ i. region m.maps (m.registers 2) i) (ap (λ i. value_size m.maps i) hand ∙ sym long)

-- a number, taken and as it is
pub number_taken : (m : Machine) (v : Value) (n : ℕ) → Some n ≡ number_of (Some v) → (takes m parameter.Number v ≡ true) × (number_given v ≡ n)
number_taken m (Number k) n e = let same : Some n ≡ Some k = e in (refl, cc)
number_taken m (Pointer q) n e = let none : Some n ≡ None = e in absurd (cc)
number_taken m Unset n e = let none : Some n ≡ None = e in absurd (cc)

-- none
pub number_missing : (m : Machine) (v : Value) → None ≡ number_of (Some v) → takes m parameter.Number v ≡ false
number_missing m (Number k) e = let none : None ≡ Some k = e in absurd (cc)
number_missing m (Pointer q) e = refl
number_missing m Unset e = refl

-- ---- replies

-- a number
answered : (m : Machine) (maps : Maps) (n : ℕ) (s : Served) (m' : Machine) → record { maps = maps; reply = Answer n } ≡ s → m' ≡ after_call (with_maps m maps) (Number n) → m' ≡ after_serving m s
answered m maps n s m' same e = e ∙ ap (λ (i : Served). after_serving m i) same

-- bytes
gave : (m : Machine) (maps : Maps) (bytes : List ℕ) (n : ℕ) (s : Served) (written m' : Machine) → record { maps = maps; reply = Gives bytes n } ≡ s → written ≡ with_bytes (with_maps m maps) (region_at_hand m (m.registers 2)) bytes
    → m' ≡ after_call written (Number n) → m' ≡ after_serving m s
gave m maps bytes n s written m' same wrote e = e ∙ ap (λ (i : Machine). after_call i (Number n)) wrote ∙ ap (λ (i : Served). after_serving m i) same

-- an element
looked : (m : Machine) (k c n : ℕ) (m' : Machine) → map_at_hand m ≡ k → m' ≡ after_call m (value_found m.maps k (seek (directory m.maps k) (slot_count m.maps k) c n)) → m' ≡ after_serving m (look_up m.maps k c n)
looked m k c n m' hand e = e ∙ go (seek (directory m.maps k) (slot_count m.maps k) c n)
  where
    go : (o : Option ℕ) → after_call m (value_found m.maps k o) ≡ after_serving m (record { maps = m.maps; reply = found o })
    go None = refl
    go (Some s) = ap (λ i. after_call m (element_or_0 m.maps i s)) (sym hand)

-- ---- helpers that ask the host nothing

-- one that finds all that it takes goes on
next_where : (b : Bool) (m m' : Machine) → b ≡ true → m' ≡ m → (if b then effects.Next m else effects.Stuck) ≡ effects.Next m'
next_where b m m' takes same = ap (λ (c : Bool). if c then effects.Next m else effects.Stuck) takes ∙ ap effects.Next (sym same)

-- a delete
pub deletes : (m : Machine) (k x n : ℕ) (maps : Maps) (m' : Machine) → RefersTo m parameter.Map k → Some x ≡ key_of_size m (key_size (kind_of (directory m.maps k))) (m.registers 2)
    → record { maps = maps; reply = Answer n } ≡ delete m.maps k x → m' ≡ after_call (with_maps m maps) (Number n) → called m (OnMap Delete) ≡ effects.Next m'
deletes m k x n maps m' map keyed same e =
    let hand = at_hand m k map.refers in
    let keys = key_at_hand m k (Some x) hand keyed in
    let all : takes_all m (map_parameters Delete) 1 ≡ true = λ i. map.takes i && (is_some (keys i) && true) in
    let is : record { maps = maps; reply = Answer n } ≡ delete m.maps (map_at_hand m) (key_given m) = same ∙ sym (λ i. delete m.maps (hand i) (number_or_0 (keys i))) in
    next_where (takes_all m (map_parameters Delete) 1) (after_serving m (served m 0 (OnMap Delete))) m' all (answered m maps n (served m 0 (OnMap Delete)) m' is e)

-- a push
pub pushes : (m : Machine) (k n f a : ℕ) (bytes : List ℕ) (maps : Maps) (m' : Machine) → RefersTo m parameter.LineMap k → n ≡ value_size m.maps k → Some bytes ≡ bytes_there m n (region m.maps (m.registers 2) n)
    → Some f ≡ number_of (Some (m.registers 3)) → record { maps = maps; reply = Answer a } ≡ push m.maps k bytes f → m' ≡ after_call (with_maps m maps) (Number a) → called m (OnMap Push) ≡ effects.Next m'
pushes m k n f a bytes maps m' map long value flags same e =
    let hand = at_hand m k map.refers in
    let read = value_at_hand m k n 2 (Some bytes) hand long value in
    let number = number_taken m (m.registers 3) f flags in
    let all : takes_all m (map_parameters Push) 1 ≡ true = λ i. map.takes i && (is_some (read i) && (number.0 i && true)) in
    let is : record { maps = maps; reply = Answer a } ≡ served m 0 (OnMap Push) = same ∙ sym (λ i. push m.maps (hand i) (bytes_or_none (read i)) (number.1 i)) in
    next_where (takes_all m (map_parameters Push) 1) (after_serving m (served m 0 (OnMap Push))) m' all (answered m maps a (served m 0 (OnMap Push)) m' is e)

-- a pop
pub pops : (m : Machine) (k n a : ℕ) (bytes : List ℕ) (maps : Maps) (written m' : Machine) → RefersTo m parameter.LineMap k → n ≡ value_size m.maps k → is_room (region m.maps (m.registers 2) n) ≡ true
    → record { maps = maps; reply = Gives bytes a } ≡ pop m.maps k → written ≡ with_bytes (with_maps m maps) (region m.maps (m.registers 2) n) bytes → m' ≡ after_call written (Number a) → called m (OnMap Pop) ≡ effects.Next m'
pops m k n a bytes maps written m' map long room same wrote e =
    let hand = at_hand m k map.refers in
    let to = room_at_hand m k n hand long in
    let all : takes_all m (map_parameters Pop) 1 ≡ true = λ i. map.takes i && ((ap is_room to ∙ room) i && true) in
    let is : record { maps = maps; reply = Gives bytes a } ≡ served m 0 (OnMap Pop) = same ∙ sym (λ i. pop m.maps (hand i)) in
    next_where (takes_all m (map_parameters Pop) 1) (after_serving m (served m 0 (OnMap Pop))) m' all
    (gave m maps bytes a (served m 0 (OnMap Pop)) written m' is (wrote ∙ sym (ap (λ l. with_bytes (with_maps m maps) l bytes) to)) e)

-- a peek
pub peeks : (m : Machine) (k n a : ℕ) (bytes : List ℕ) (written m' : Machine) → RefersTo m parameter.LineMap k → n ≡ value_size m.maps k → is_room (region m.maps (m.registers 2) n) ≡ true
    → record { maps = m.maps; reply = Gives bytes a } ≡ peek m.maps k → written ≡ with_bytes m (region m.maps (m.registers 2) n) bytes → m' ≡ after_call written (Number a) → called m (OnMap Peek) ≡ effects.Next m'
peeks m k n a bytes written m' map long room same wrote e =
    let hand = at_hand m k map.refers in
    let to = room_at_hand m k n hand long in
    let all : takes_all m (map_parameters Peek) 1 ≡ true = λ i. map.takes i && ((ap is_room to ∙ room) i && true) in
    let is : record { maps = m.maps; reply = Gives bytes a } ≡ served m 0 (OnMap Peek) = same ∙ sym (λ i. peek m.maps (hand i)) in
    next_where (takes_all m (map_parameters Peek) 1) (after_serving m (served m 0 (OnMap Peek))) m' all
    (gave m m.maps bytes a (served m 0 (OnMap Peek)) written m' is (wrote ∙ sym (ap (λ l. with_bytes m l bytes) to)) e)

-- a look-up in the copy of a CPU
pub looks_up_copy : (m : Machine) (k x c : ℕ) (m' : Machine) → RefersTo m parameter.PerCpuMap k → Some x ≡ key_of_size m (key_size (kind_of (directory m.maps k))) (m.registers 2) → Some c ≡ number_of (Some (m.registers 3))
    → m' ≡ after_call m (value_found m.maps k (seek (directory m.maps k) (slot_count m.maps k) c x)) → called m (OnMap LookUpPerCpu) ≡ effects.Next m'
looks_up_copy m k x c m' map keyed cpu e =
    let hand = at_hand m k map.refers in
    let keys = key_at_hand m k (Some x) hand keyed in
    let number = number_taken m (m.registers 3) c cpu in
    let all : takes_all m (map_parameters LookUpPerCpu) 1 ≡ true = λ i. map.takes i && (is_some (keys i) && (number.0 i && true)) in
    let is : look_up m.maps k c x ≡ served m 0 (OnMap LookUpPerCpu) = sym (λ i. look_up m.maps (hand i) (number.1 i) (number_or_0 (keys i))) in
    next_where (takes_all m (map_parameters LookUpPerCpu) 1) (after_serving m (served m 0 (OnMap LookUpPerCpu))) m' all
    (looked m k c x m' hand e ∙ ap (λ (i : Served). after_serving m i) is)

-- ---- helpers that ask for the CPU at hand

-- a helper that works on the copy of the CPU at hand, if there are copies
abbrev AsksHere : Helper → Type 0
AsksHere h = (d : Directory) → asks_here h d ≡ asks_here MapLookupElem d

look_up_asks : AsksHere MapLookupElem
look_up_asks d = refl

update_asks : AsksHere (OnMap Update)
update_asks directories.Array = refl
update_asks directories.PerCpu = refl
update_asks (directories.Hash s ks) = refl
update_asks (directories.Queue l) = refl
update_asks (directories.Stack l) = refl

-- its effect on a map with that part
map_goes_on : {W : Type 0} (O : Outside W) (m : Machine) (h : Helper) (d : Directory) (w w' : W) (n : ℕ) (m' : Machine) → AsksHere h → directory m.maps (map_at_hand m) ≡ d → TellsCopy O d w n w' → m' ≡ after_serving m (served m n h)
    → GoesOn O (map_effect m h) w m' w'
map_goes_on {W} O m h d w w' n m' asks is tells e =
    let Goes : Bool → Type 0 = λ b. GoesOn O (if b then effects.Ask (effects.Call SmpProcessorId nothing_given) (λ v. after_serving m (served m (number_given v) h)) else effects.Next (after_serving m (served m 0 h))) w m' w' in
    subst Goes (sym (ap (λ (i : Directory). asks_here h i) is ∙ asks d)) (go d tells)
  where
    none : (n ≡ 0) × (w' ≡ w) → (m' ≡ after_serving m (served m 0 h)) × (w' ≡ w)
    none t = (e ∙ ap (λ i. after_serving m (served m i h)) t.0, t.1)

    go : (x : Directory) → TellsCopy O x w n w'
        → GoesOn O (if asks_here MapLookupElem x then effects.Ask (effects.Call SmpProcessorId nothing_given) (λ v. after_serving m (served m (number_given v) h)) else effects.Next (after_serving m (served m 0 h))) w m' w'
    go directories.PerCpu t = (t.0, t.1, e ∙ ap (λ i. after_serving m (served m i h)) t.2)
    go directories.Array t = none t
    go (directories.Hash s ks) t = none t
    go (directories.Queue l) t = none t
    go (directories.Stack l) t = none t

-- an update
pub updates : {W : Type 0} (O : Outside W) (m : Machine) (k x n f c a : ℕ) (bytes : List ℕ) (maps : Maps) (w w' : W) (m' : Machine) → RefersTo m parameter.Map k → Some x ≡ key_of_size m (key_size (kind_of (directory m.maps k))) (m.registers 2)
    → n ≡ value_size m.maps k → Some bytes ≡ bytes_there m n (region m.maps (m.registers 3) n) → Some f ≡ number_of (Some (m.registers 4)) → TellsCopy O (directory m.maps k) w c w'
    → record { maps = maps; reply = Answer a } ≡ update m.maps k c x bytes f → m' ≡ after_call (with_maps m maps) (Number a) → GoesOn O (called m (OnMap Update)) w m' w'
updates {W} O m k x n f c a bytes maps w w' m' map keyed long value flags tells same e =
    let hand = at_hand m k map.refers in
    let keys = key_at_hand m k (Some x) hand keyed in
    let read = value_at_hand m k n 3 (Some bytes) hand long value in
    let number = number_taken m (m.registers 4) f flags in
    let all : takes_all m (map_parameters Update) 1 ≡ true = λ i. map.takes i && (is_some (keys i) && (is_some (read i) && (number.0 i && true))) in
    let is : record { maps = maps; reply = Answer a } ≡ served m c (OnMap Update) = same ∙ sym (λ i. update m.maps (hand i) c (number_or_0 (keys i)) (bytes_or_none (read i)) (number.1 i)) in
    let Goes : Bool → Type 0 = λ b. GoesOn O (if b then map_effect m (OnMap Update) else effects.Stuck) w m' w' in
    subst Goes (sym all) (map_goes_on O m (OnMap Update) (directory m.maps k) w w' c m' update_asks (ap (λ i. directory m.maps i) hand) tells (answered m maps a (served m c (OnMap Update)) m' is e))

-- the element of a key in an array
in_array : (maps : Maps) (k n : ℕ) → value_found maps k (array_slot (slot_count maps k) n) ≡ element_or_0 maps k n
in_array maps k n = go (nat_lt n (length (elements maps k))) refl
  where
    go : (b : Bool) → nat_lt n (length (elements maps k)) ≡ b → value_found maps k (if b then Some n else None) ≡ (if b then Pointer (pointer.Element k n 0) else Number 0)
    go true e = ap (λ (b : Bool). if b then Pointer (pointer.Element k n 0) else Number 0) e
    go false e = refl

-- a look-up
pub looks_up : {W : Type 0} (O : Outside W) (m : Machine) (k x c : ℕ) (w w' : W) (m' : Machine) → RefersTo m parameter.Map k → Some x ≡ key_of_size m (key_size (kind_of (directory m.maps k))) (m.registers 2)
    → TellsCopy O (directory m.maps k) w c w' → m' ≡ after_call m (value_found m.maps k (seek (directory m.maps k) (slot_count m.maps k) c x)) → GoesOn O (called m MapLookupElem) w m' w'
looks_up {W} O m k x c w w' m' map keyed tells e =
    let Goes : Bool → Value → Option ℕ → Type 0 = λ b v o. GoesOn O (if b then looked_up m v o else effects.Stuck) w m' w' in
    subst (λ (b : Bool). Goes b (m.registers 1) (key m (m.registers 2))) (sym all)
    (subst (λ (v : Value). Goes true v (key m (m.registers 2))) (sym map.refers)
    (subst (λ (o : Option ℕ). Goes true (Pointer (pointer.Map k)) o) (sym keys) (go (directory m.maps k) refl tells e)))
  where
    hand : map_at_hand m ≡ k
    hand = at_hand m k map.refers

    keys : key m (m.registers 2) ≡ Some x
    keys = key_at_hand m k (Some x) hand keyed

    all : takes_all m (parameters MapLookupElem) 1 ≡ true
    all = λ i. map.takes i && (is_some (keys i) && true)

    same : look_up m.maps k c x ≡ served m c MapLookupElem
    same = sym (λ i. look_up m.maps (hand i) c (number_or_0 (keys i)))

    by_map : (d : Directory) → directory m.maps k ≡ d → TellsCopy O d w c w' → GoesOn O (map_effect m MapLookupElem) w m' w'
    by_map d is t =
        map_goes_on O m MapLookupElem d w w' c m' look_up_asks (ap (λ i. directory m.maps i) hand ∙ is) t
        (looked m k c x m' hand e ∙ ap (λ (i : Served). after_serving m i) same)

    go : (d : Directory) → directory m.maps k ≡ d → TellsCopy O d w c w' → m' ≡ after_call m (value_found m.maps k (seek d (slot_count m.maps k) c x)) → GoesOn O (looked_up_in m k x d) w m' w'
    go directories.Array is t f = (f ∙ ap (λ (v : Value). after_call m v) (in_array m.maps k x), t.1)
    go directories.PerCpu is t f = by_map directories.PerCpu is t
    go (directories.Hash s ks) is t f = by_map (directories.Hash s ks) is t
    go (directories.Queue l) is t f = by_map (directories.Queue l) is t
    go (directories.Stack l) is t f = by_map (directories.Stack l) is t

-- ---- what the interpreter finds

-- a map that r1 refers to, of a kind that the parameter takes
pub refers_to : (m : Machine) (p : Parameter) (k : ℕ) → m.registers 1 ≡ Pointer (pointer.Map k) → k < count m.maps → true ≡ fits_map p (kind_of (directory m.maps k)) → RefersTo m p k
refers_to m p k r h fits = record {
  takes = ap (λ (v : Value). takes_map m p v) r ∙ (λ i. lt-ltb k (count m.maps) h i && sym fits i);
  refers = r;
  there = h;
}

-- one of another kind
pub unfit : (m : Machine) (p : Parameter) (k : ℕ) → m.registers 1 ≡ Pointer (pointer.Map k) → false ≡ fits_map p (kind_of (directory m.maps k)) → takes_map m p (m.registers 1) ≡ false
unfit m p k r fits = ap (λ (v : Value). takes_map m p v) r ∙ and_second (nat_lt k (count m.maps)) _ (sym fits)

-- one that isn't there
pub past : (m : Machine) (p : Parameter) (k : ℕ) → m.registers 1 ≡ Pointer (pointer.Map k) → count m.maps ≤ k → takes_map m p (m.registers 1) ≡ false
past m p k r h = ap (λ (v : Value). takes_map m p v) r ∙ ap (λ (b : Bool). b && fits_map p (kind_of (directory m.maps k))) (go (nat_lt k (count m.maps)) refl)
  where
    go : (b : Bool) → nat_lt k (count m.maps) ≡ b → b ≡ false
    go true e = let below = ltb-true k (count m.maps) e in absurd (omega (arith, h, below))
    go false e = refl

-- a number on the stack is loaded as a key
number_loaded : (stack : Stack) (s : KeySize) (at : ℕ) → number_in (bytes_at stack at (key_bytes s)) ≡ number_of (load stack (key_access s) at)
number_loaded stack Four at = go (number_in (bytes_at stack at 4)) (pointer_in (bytes_at stack at 4))
  where
    go : (o : Option ℕ) (q : Option pointers.Pointer) → o ≡ number_of (number_or_pointer Word o q)
    go (Some n) q = refl
    go None None = refl
    go None (Some q) = refl
number_loaded stack Eight at = go (number_in (bytes_at stack at 8)) (pointer_in (bytes_at stack at 8))
  where
    go : (o : Option ℕ) (q : Option pointers.Pointer) → o ≡ number_of (number_or_pointer DoubleWord o q)
    go (Some n) q = refl
    go None None = refl
    go None (Some q) = refl

-- the key at the location that an address means
key_there : (m : Machine) (s : KeySize) (v : Value) (b : Size) (l : Location) → size_bytes b ≡ key_bytes s → address m.maps v (pos 0) (size_bytes b) ≡ l → key_at m s l ≡ key_of_size m s v
key_there m s v b l same is = ap (λ (to : Location). key_at m s to) (sym is) ∙ ap (λ n. key_at m s (address m.maps v (pos 0) n)) same

-- a key on the stack
pub stack_key : (m : Machine) (s : KeySize) (v : Value) (b : Size) (at : ℕ) (o : Option ℕ) → size_bytes b ≡ key_bytes s → address m.maps v (pos 0) (size_bytes b) ≡ OnStack at → o ≡ number_in (bytes_at m.stack at (size_bytes b)) → o ≡ key_of_size m s v
stack_key m s v b at o same is e = e ∙ ap (λ n. number_in (bytes_at m.stack at n)) same ∙ number_loaded m.stack s at ∙ key_there m s v b (OnStack at) same is

-- a key in an element
pub element_key : (m : Machine) (s : KeySize) (v : Value) (b : Size) (k i at n : ℕ) → size_bytes b ≡ key_bytes s → address m.maps v (pos 0) (size_bytes b) ≡ InElement k i at → n ≡ number_at (element m.maps k i) at (size_bytes b) → Some n ≡ key_of_size m s v
element_key m s v b k i at n same is e = ap Some (e ∙ ap (λ j. number_at (element m.maps k i) at j) same) ∙ key_there m s v b (InElement k i at) same is

-- no key
pub no_key : (m : Machine) (s : KeySize) (v : Value) (b : Size) (l : Location) → size_bytes b ≡ key_bytes s → address m.maps v (pos 0) (size_bytes b) ≡ l → key_at m s l ≡ None → None ≡ key_of_size m s v
no_key m s v b l same is none = sym none ∙ key_there m s v b l same is

-- the CPU at hand, where there are copies
pub copy_told : {W : Type 0} (O : Outside W) (d : Directory) (w w' : W) (n : ℕ) → true ≡ fits_map parameter.PerCpuMap (kind_of d) → TellsHere O w n w' → TellsCopy O d w n w'
copy_told O directories.PerCpu w w' n e t = t
copy_told O directories.Array w w' n e t = absurd (cc)
copy_told O (directories.Hash s ks) w w' n e t = absurd (cc)
copy_told O (directories.Queue l) w w' n e t = absurd (cc)
copy_told O (directories.Stack l) w w' n e t = absurd (cc)

-- and 0 where there are none
pub none_told : {W : Type 0} (O : Outside W) (d : Directory) (w : W) → false ≡ fits_map parameter.PerCpuMap (kind_of d) → TellsCopy O d w 0 w
none_told O directories.PerCpu w e = absurd (cc)
none_told O directories.Array w e = (refl, refl)
none_told O (directories.Hash s ks) w e = (refl, refl)
none_told O (directories.Queue l) w e = (refl, refl)
none_told O (directories.Stack l) w e = (refl, refl)

-- an element that is there
pub element_there : (maps : Maps) (k i : ℕ) → i < length (elements maps k) → Pointer (pointer.Element k i 0) ≡ element_or_0 maps k i
element_there maps k i h = sym (ap (λ (b : Bool). if b then Pointer (pointer.Element k i 0) else Number 0) (lt-ltb i (length (elements maps k)) h))

-- one that isn't
pub element_missing : (maps : Maps) (k i : ℕ) → (i < length (elements maps k) → false ≡ true) → Number 0 ≡ element_or_0 maps k i
element_missing maps k i never = go (nat_lt i (length (elements maps k))) refl
  where
    go : (b : Bool) → nat_lt i (length (elements maps k)) ≡ b → Number 0 ≡ (if b then Pointer (pointer.Element k i 0) else Number 0)
    go true e = absurd (let bad = never (ltb-true i (length (elements maps k)) e) in cc)
    go false e = refl

-- a helper on a map that isn't one of the others is the look-up
pub only_look_up : (h : Helper) → is_of_map h ≡ true → ((g : MapHelper) → h ≡ OnMap g → ⊥) → MapLookupElem ≡ h
only_look_up MapLookupElem is other = refl
only_look_up (OnMap g) is other = absurd (other g refl)
only_look_up h is other = absurd (cc)

-- a host is asked for the CPU at hand with nothing
pub nothing_taken : AreTaken SmpProcessorId (map argument_of nothing_given)
nothing_taken = arguments_taken (record { registers = λ r. Unset; stack = λ k. Unwritten; maps = no_maps }) SmpProcessorId refl refl

-- bytes on the stack
pub stack_bytes : (m : Machine) (n c at : ℕ) (v : Value) (o : Option (List ℕ)) → c ≡ n → region m.maps v c ≡ OnStack at → o ≡ numbers_in (bytes_at m.stack at n) → o ≡ bytes_there m n (region m.maps v n)
stack_bytes m n c at v o same is e = e ∙ ap (λ l. bytes_there m n l) (sym is ∙ ap (λ i. region m.maps v i) same)

-- bytes in an element
pub element_bytes : (m : Machine) (n c k i at : ℕ) (v : Value) (bytes : List ℕ) → c ≡ n → region m.maps v c ≡ InElement k i at → bytes ≡ take n (drop at (element m.maps k i)) → Some bytes ≡ bytes_there m n (region m.maps v n)
element_bytes m n c k i at v bytes same is e = ap Some e ∙ ap (λ l. bytes_there m n l) (sym is ∙ ap (λ i. region m.maps v i) same)

-- none
pub no_bytes : (m : Machine) (n c : ℕ) (v : Value) (l : Location) → c ≡ n → region m.maps v c ≡ l → bytes_there m n l ≡ None → None ≡ bytes_there m n (region m.maps v n)
no_bytes m n c v l same is none = sym none ∙ ap (λ to. bytes_there m n to) (sym is ∙ ap (λ i. region m.maps v i) same)

-- room that a register points to
pub room_found : (maps : Maps) (n : ℕ) (v v' : Value) (l : places.Location) → v' ≡ v → region maps v' n ≡ location_of l → is_room (location_of l) ≡ true → HasBytes maps n l → IsRoom maps n (region maps v n) l
room_found maps n v v' l same is room has =
    let here : region maps v n ≡ location_of l = ap (λ i. region maps i n) (sym same) ∙ is in
    record { location = here; room = ap is_room here ∙ room; has = has }

-- none
pub no_room : (maps : Maps) (n : ℕ) (v v' : Value) (l : Location) → v' ≡ v → region maps v' n ≡ l → is_room l ≡ false → is_room (region maps v n) ≡ false
no_room maps n v v' l same is none = ap is_room (ap (λ i. region maps i n) (sym same) ∙ is) ∙ none

-- bytes written over others leave the sizes of all elements
pub same_lengths : (maps : Maps) (k i at : ℕ) (bytes : List ℕ) → LiesInElement maps k i at (length bytes) → lengths_of (with_element maps k i (over (element maps k i) at bytes)) ≡ lengths_of maps
same_lengths maps k i at bytes there = lengths_of-with_value maps k i (over (element maps k i) at bytes) there.map there.index (length-over at bytes (element maps k i) there.within)
  where
    length-over : (a : ℕ) (ys xs : List ℕ) → a + length ys ≤ length xs → length (over xs a ys) ≡ length xs
    length-over a ys xs within =
        let front : length (take a xs) ≡ a = length-take-le a xs (omega (arith, within)) in
        omega (arith, within, front, length-drop (a + length ys) xs, length-append (take a xs) (ys ++ drop (a + length ys) xs), length-append ys (drop (a + length ys) xs))

-- what holds of a location that is neither on the stack nor in an element
pub neither : (P : places.Location → Type 0) (l : places.Location) → (l ≡ place.Nowhere) ⊎ ((t : TaskId) × (f : Field) × (l ≡ place.InTask t f)) → P place.Nowhere → ((t : TaskId) (f : Field) → P (place.InTask t f)) → P l
neither P l (inl e) nowhere in_task = subst P (sym e) nowhere
neither P l (inr e) nowhere in_task = subst P (sym e.2) (in_task e.0 e.1)

-- bytes are there after a helper that leaves the elements
pub has_after : (maps maps' : Maps) (n : ℕ) (l : places.Location) → maps'.contents ≡ maps.contents → HasBytes maps n l → HasBytes maps' n l
has_after maps maps' n place.Nowhere same has = tt
has_after maps maps' n (place.OnStack at) same has = has
has_after maps maps' n (place.InElement k i at) same has =
    let Lies : Contents → Type 0 = λ contents. LiesInElement (record { contents = contents; directories = maps'.directories }) k i at n in
    let there : Lies maps.contents = record { map = has.map; index = has.index; within = has.within } in
    let moved : Lies maps'.contents = subst Lies (sym same) there in
    record { map = moved.map; index = moved.index; within = moved.within }
has_after maps maps' n (place.InTask t f) same has = tt

-- of one that is on the stack or in an element
pub either : (P : places.Location → Type 0) (l : places.Location) → ((at : ℕ) × (l ≡ place.OnStack at)) ⊎ ((k : ℕ) × (i : ℕ) × (at : ℕ) × (l ≡ place.InElement k i at)) → ((at : ℕ) → P (place.OnStack at)) → ((k i at : ℕ) → P (place.InElement k i at)) → P l
either P l (inl e) on_stack in_element = subst P (sym e.1) (on_stack e.0)
either P l (inr e) on_stack in_element = subst P (sym e.3) (in_element e.0 e.1 e.2)
