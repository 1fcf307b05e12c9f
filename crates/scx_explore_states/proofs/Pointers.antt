-- A run of a program that asks for no task has pointers to no other task than the one that it was given.
use Rattle.std.proofs.Common.{◌≡◌, ℕ, zero, suc, ◌+◌, ◌^◌, ◌&&◌, ℤ, pos, List, [], ◌∷◌, map, Bool, true, false, nat_eq, nat_lt, length, if◌then◌else◌, Option, Some, None, option_map, refl, sym, subst}
use Rattle.std.specs.Prelude.{MatchBool}
use Rattle.scx_isa_semantics.specs.declared.callbacks.Callback.{Callback}
use Rattle.scx_isa_semantics.specs.declared.host_tables.Field.{Field}
use Rattle.scx_isa_semantics.specs.declared.host_tables.Helper.{Helper}
use Rattle.scx_isa_semantics.specs.declared.host_tables.Helper.TheVariants.{MapLookupElem, OnMap}
use Rattle.scx_isa_semantics.specs.declared.host_tables.TaskId.{TaskId}
use Rattle.scx_isa_semantics.specs.declared.instructions.Insn.{Insn}
use Rattle.scx_isa_semantics.specs.declared.instructions.Insn.TheVariants as insn
use Rattle.scx_isa_semantics.specs.declared.instructions.Operand.{Operand}
use Rattle.scx_isa_semantics.specs.declared.instructions.Operand.TheVariants as operand
use Rattle.scx_isa_semantics.specs.declared.operations.Access.{Access}
use Rattle.scx_isa_semantics.specs.declared.operations.Operation.{Operation}
use Rattle.scx_isa_semantics.specs.declared.operations.Operation.TheVariants.{Add, Move}
use Rattle.scx_isa_semantics.specs.declared.operations.Size.{Size}
use Rattle.scx_isa_semantics.specs.declared.operations.Size.TheVariants as size
use Rattle.scx_isa_semantics.specs.declared.operations.Width.{Width}
use Rattle.scx_isa_semantics.specs.declared.operations.Width.TheVariants.{Bits32, Bits64}
use Rattle.scx_isa_semantics.specs.declared.values.Pointer as pointers
use Rattle.scx_isa_semantics.specs.declared.values.Pointer.TheVariants as pointer
use Rattle.scx_isa_semantics.specs.declared.values.StackByte.{StackByte}
use Rattle.scx_isa_semantics.specs.declared.values.StackByte.TheVariants as byte
use Rattle.scx_isa_semantics.specs.declared.values.Value.{Value}
use Rattle.scx_isa_semantics.specs.declared.values.Value.TheVariants as value
use Rattle.scx_isa_semantics.specs.Arithmetic.{negative, sign_extension, byte_swapped, wide_immediate}
use Rattle.scx_isa_semantics.specs.Calls.{takes_all, arguments, map_at_hand, key, after_call, element_or_0, number_given, served, with_bytes, replied, after_serving, region_at_hand, asks_here, map_effect, looked_up_in, looked_up, call_effect, call_helper}
use Rattle.scx_isa_semantics.specs.Code.{Code, at}
use Rattle.scx_isa_semantics.specs.Directories as directories
use Rattle.scx_isa_semantics.specs.Directories.{Directory}
use Rattle.scx_isa_semantics.specs.Effects.{Query, Call, Load, Store, Effect, set_register, set_stack, branch}
use Rattle.scx_isa_semantics.specs.Effects as effect
use Rattle.scx_isa_semantics.specs.Elements.{Maps, directory, elements, element, number_at}
use Rattle.scx_isa_semantics.specs.HostTables.{helper_at, parameters, is_allowed, is_writable, answers, answers_task}
use Rattle.scx_isa_semantics.specs.Locations.{Location, Nowhere, OnStack, InElement, InTask, on_stack, in_element, in_task, address}
use Rattle.scx_isa_semantics.specs.Machine.{Machine, Arguments, start, with_register, with_maps, with_value_at}
use Rattle.scx_isa_semantics.specs.Meaning.{operand_value, copy_of, number_arithmetic, pointer_step, pointer_moved, pointer_plus_number, pointer_combined, arithmetic, binary, on_number, map_reference, is_plain, load_effect, number_stored, pointer_stored, store_effect, comparison_answer, end_with, act}
use Rattle.scx_isa_semantics.specs.Memory.{Stack, size_bytes, access_size, bytes_at, write, number_bytes, number_in, parts, are_parts, pointer_in, read_as, number_or_pointer, value_in, load, value_bytes}
use Rattle.scx_isa_semantics.specs.Registers.{number}
use Rattle.scx_isa_semantics.specs.Runs.{IsNumberBelow, IsTaskOrNull, Fits, LeadsTo, Leads, any_answer}
use Rattle.scx_isa_semantics.specs.Serving.{Reply, Answer, Found, Gives}
use Rattle.scx_isa_semantics.specs.Steps.{Outcome, Stuck, Goes, Asks, Ends, target, goes, outcome_at, outcome_of, step}
use Rattle.scx_explore_states.specs.Asking.{PointsTo, ArgumentsPointTo, IsOfTask, may_answer_task, asks_for_task, RunsPointToTheirTask}

module _ (t : TaskId) where
  -- ---- values and bytes

  abbrev Points : Value → Type 0
  Points v = PointsTo t v

  -- a value, if there is one
  abbrev PointsIf : Option Value → Type 0
  PointsIf None = Unit {0}
  PointsIf (Some v) = Points v

  -- a byte of the stack
  abbrev PointsByte : StackByte → Type 0
  PointsByte (byte.Part p j) = Points (value.Pointer p)
  PointsByte b = Unit {0}

  abbrev PointsBytes : List StackByte → Type 0
  PointsBytes [] = Unit {0}
  PointsBytes (b ∷ bytes) = PointsByte b × PointsBytes bytes

  -- the state has pointers to no other task
  record IsOwn (m : Machine) : Type 0 where
    registers : (r : ℕ) → Points (m.registers r)
    stack : (k : ℕ) → PointsByte (m.stack k)

  number_points : (limit : ℕ) (v : Value) → IsNumberBelow limit v → Points v
  number_points limit (value.Number n) h = tt
  number_points limit (value.Pointer p) h = absurd h
  number_points limit value.Unset h = absurd h

  -- ---- registers

  own_value : (f : ℕ → Value) (i : ℕ) (x : Value) → ((r : ℕ) → Points (f r)) → Points x → (r : ℕ) → Points (with_value_at f i x r)
  own_value f i x h p r = go (nat_eq r i)
    where
      go : (b : Bool) → Points (if b then x else f r)
      go true = p
      go false = h r

  own_register : (m : Machine) (r : ℕ) (v : Value) → IsOwn m → Points v → IsOwn (with_register m r v)
  own_register m r v own p = record { registers = own_value m.registers r v own.registers p; stack = own.stack }

  own_maps : (m : Machine) (maps : Maps) → IsOwn m → IsOwn (with_maps m maps)
  own_maps m maps own = record { registers = own.registers; stack = own.stack }

  -- ---- the stack

  own_write : (stack : Stack) (at : ℕ) (bytes : List StackByte) → ((k : ℕ) → PointsByte (stack k)) → PointsBytes bytes → (k : ℕ) → PointsByte (write stack at bytes k)
  own_write stack at [] h p k = h k
  own_write stack at (b ∷ bytes) h p k = go (nat_eq k at) (own_write stack (at + 1) bytes h p.1 k)
    where
      go : (c : Bool) → PointsByte (write stack (at + 1) bytes k) → PointsByte (if c then b else write stack (at + 1) bytes k)
      go true more = p.0
      go false more = more

  own_bytes : (stack : Stack) (at n : ℕ) → ((k : ℕ) → PointsByte (stack k)) → PointsBytes (bytes_at stack at n)
  own_bytes stack at zero h = tt
  own_bytes stack at (suc n) h = (h at, own_bytes stack (at + 1) n h)

  -- what is loaded
  points_in : (bytes : List StackByte) → PointsBytes bytes → PointsIf (option_map value.Pointer (pointer_in bytes))
  points_in [] h = tt
  points_in (byte.Byte b ∷ bytes) h = tt
  points_in (byte.Unwritten ∷ bytes) h = tt
  points_in (byte.Part p j ∷ bytes) h = go (are_parts p 0 (byte.Part p j ∷ bytes))
    where
      go : (c : Bool) → PointsIf (option_map value.Pointer (if c then Some p else None))
      go true = h.0
      go false = tt

  points_loaded : (a : Access) (bytes : List StackByte) → PointsBytes bytes → PointsIf (value_in a bytes)
  points_loaded a bytes h = go (number_in bytes)
    where
      go : (o : Option ℕ) → PointsIf (number_or_pointer a o (pointer_in bytes))
      go None = points_in bytes h
      go (Some n) = tt

  -- what is stored
  bytes_point : (k n : ℕ) → PointsBytes (number_bytes k n)
  bytes_point zero n = tt
  bytes_point (suc k) n = (tt, bytes_point k _)

  plain_point : (bytes : List ℕ) → PointsBytes (map byte.Byte bytes)
  plain_point [] = tt
  plain_point (b ∷ bytes) = (tt, plain_point bytes)

  parts_point : (p : pointers.Pointer) → Points (value.Pointer p) → PointsBytes (parts p)
  parts_point p h = (h, (h, (h, (h, (h, (h, (h, (h, tt))))))))

  -- ---- effects

  -- of a query it is so, and of what follows it, whatever is answered that fits
  abbrev OwnEffect : Effect → Type 0
  OwnEffect effect.Stuck = Unit {0}
  OwnEffect (effect.Next m) = IsOwn m
  OwnEffect (effect.Jumped m) = IsOwn m
  OwnEffect (effect.Ask q go) = IsOfTask t q × ((v : Value) → Fits q v → IsOwn (go v))
  OwnEffect (effect.Ended n) = Unit {0}

  of_two : (b : Bool) (x y : Effect) → OwnEffect x → OwnEffect y → OwnEffect (if b then x else y)
  of_two true x y p q = p
  of_two false x y p q = q

  module _ (m : Machine) (own : IsOwn m) where
    of_register : (r : ℕ) (o : Option Value) → PointsIf o → OwnEffect (set_register m r o)
    of_register r None h = tt
    of_register r (Some v) h = of_two (nat_eq r 10) _ _ tt (own_register m r v own h)

    of_stack : (at : ℕ) (o : Option (List StackByte)) → ((bytes : List StackByte) → o ≡ Some bytes → PointsBytes bytes) → OwnEffect (set_stack m (option_map (write m.stack at) o))
    of_stack at None h = tt
    of_stack at (Some bytes) h = record { registers = own.registers; stack = own_write m.stack at bytes own.stack (h bytes refl) }

    of_branch : (o : Option Bool) → OwnEffect (branch m o)
    of_branch None = tt
    of_branch (Some true) = own
    of_branch (Some false) = own

    -- ---- arithmetic

    of_operand : (w : Width) (x : Operand) → Points (operand_value m w x)
    of_operand w (operand.Immediate k) = tt
    of_operand w (operand.Register r) = own.registers (number r)

    copied : (w : Width) (v : Value) → Points v → PointsIf (copy_of w v)
    copied w (value.Number n) h = tt
    copied Bits64 (value.Pointer p) h = h
    copied Bits32 (value.Pointer p) h = tt
    copied w value.Unset h = tt

    computed : (w : Width) (o : Operation) (a : ℕ) (v : Value) → PointsIf (number_arithmetic w o a v)
    computed w o a (value.Number b) = tt
    computed w o a (value.Pointer p) = tt
    computed w o a value.Unset = tt

    in_stack : (o : Option ℕ) → PointsIf (option_map (λ to. value.Pointer (pointer.Stack to)) o)
    in_stack None = tt
    in_stack (Some n) = tt

    in_map : (k i : ℕ) (o : Option ℕ) → PointsIf (option_map (λ to. value.Pointer (pointer.Element k i to)) o)
    in_map k i None = tt
    in_map k i (Some n) = tt

    moved : (p : pointers.Pointer) (o : Option ℤ) → PointsIf (pointer_moved m.maps p o)
    moved p None = tt
    moved (pointer.Stack at) (Some k) = in_stack _
    moved (pointer.Element k i at) (Some d) = in_map k i _
    moved (pointer.Task u) (Some k) = tt
    moved (pointer.Map k) (Some d) = tt

    plus : (k i at : ℕ) (v : Value) → PointsIf (pointer_plus_number m.maps k i at v)
    plus k i at (value.Number n) = in_map k i _
    plus k i at (value.Pointer p) = tt
    plus k i at value.Unset = tt

    combined : (w : Width) (o : Operation) (p : pointers.Pointer) (x : Operand) → PointsIf (pointer_combined m w o p x)
    combined Bits64 Add (pointer.Element k i at) (operand.Register r) = plus k i at (m.registers (number r))
    combined w o p x = moved p (pointer_step w o x)

    of_arithmetic : (w : Width) (o : Operation) (v : Value) (x : Operand) → PointsIf (arithmetic m w o v x)
    of_arithmetic w o (value.Number a) x = computed w o a (operand_value m w x)
    of_arithmetic w o (value.Pointer p) x = combined w o p x
    of_arithmetic w o value.Unset x = tt

    of_binary : (w : Width) (o : Operation) (v : Value) (x : Operand) → PointsIf (binary m w o v x)
    of_binary w Move v x = copied w (operand_value m w x) (of_operand w x)
    of_binary w o v x = of_arithmetic w o v x

    of_number : (f : ℕ → ℕ) (v : Value) → PointsIf (on_number f v)
    of_number f (value.Number n) = tt
    of_number f (value.Pointer p) = tt
    of_number f value.Unset = tt

    of_map_reference : (k : ℤ) → PointsIf (map_reference m.maps k)
    of_map_reference (pos k) = go (nat_lt k _)
      where
        go : (b : Bool) → PointsIf (if b then Some (value.Pointer (pointer.Map k)) else None)
        go true = tt
        go false = tt
    of_map_reference k = tt

    -- ---- memory

    -- the location is of no other task
    abbrev OwnLocation : Location → Type 0
    OwnLocation (InTask u f) = u ≡ t
    OwnLocation l = Unit {0}

    own_on_stack : (o : Option ℕ) → OwnLocation (on_stack o)
    own_on_stack None = tt
    own_on_stack (Some at) = tt

    own_in_task : (u : TaskId) (o : Option Field) → u ≡ t → OwnLocation (in_task u o)
    own_in_task u None e = tt
    own_in_task u (Some f) e = e

    own_in_element : (k i : ℕ) (o : Option ℕ) → OwnLocation (in_element k i o)
    own_in_element k i None = tt
    own_in_element k i (Some at) = tt

    own_address : (v : Value) (offset : ℤ) (n : ℕ) → Points v → OwnLocation (address m.maps v offset n)
    own_address (value.Pointer (pointer.Stack at)) offset n h = own_on_stack _
    own_address (value.Pointer (pointer.Element k i at)) offset n h = own_in_element k i _
    own_address (value.Pointer (pointer.Task u)) offset n h = own_in_task u _ h
    own_address (value.Pointer (pointer.Map k)) offset n h = tt
    own_address (value.Number a) offset n h = tt
    own_address value.Unset offset n h = tt

    of_load : (r : ℕ) (a : Access) (l : Location) → OwnLocation l → OwnEffect (load_effect m r a l)
    of_load r a Nowhere h = tt
    of_load r a (OnStack at) h = of_register r (load m.stack a at) (points_loaded a (bytes_at m.stack at (size_bytes (access_size a))) (own_bytes m.stack at (size_bytes (access_size a)) own.stack))
    of_load r a (InElement k i at) h = of_register r (Some (value.Number (read_as a (number_at (element m.maps k i) at (size_bytes (access_size a)))))) tt
    of_load r a (InTask u f) h =
        of_two (is_plain a) _ _ (of_two (nat_eq r 10) _ _ tt (h, λ v fits. own_register m r v own (number_points _ v fits))) tt

    of_number_stored : (s : Size) (n : ℕ) (l : Location) → OwnLocation l → OwnEffect (number_stored m s n l)
    of_number_stored s n Nowhere h = tt
    of_number_stored s n (OnStack at) h = of_stack at (Some (number_bytes (size_bytes s) n)) (λ bytes is. subst PointsBytes (same is) (bytes_point (size_bytes s) n))
      where
        same : {x y : List StackByte} → Some x ≡ Some y → x ≡ y
        same e = cc
    of_number_stored s n (InElement k i at) h = own_maps m _ own
    of_number_stored s n (InTask u f) h = of_two (is_writable f) _ _ (h, λ v fits. own) tt

    stored_bytes : (s : Size) (p : pointers.Pointer) → Points (value.Pointer p) → (bytes : List StackByte) → value_bytes s (value.Pointer p) ≡ Some bytes → PointsBytes bytes
    stored_bytes size.DoubleWord p h bytes e = subst PointsBytes (same e) (parts_point p h)
      where
        same : {x y : List StackByte} → Some x ≡ Some y → x ≡ y
        same e = cc
    stored_bytes s p h bytes e = absurd (cc)

    of_pointer_stored : (s : Size) (p : pointers.Pointer) (l : Location) → Points (value.Pointer p) → OwnEffect (pointer_stored m s p l)
    of_pointer_stored s p Nowhere h = tt
    of_pointer_stored s p (OnStack at) h = of_stack at (value_bytes s (value.Pointer p)) (stored_bytes s p h)
    of_pointer_stored s p (InElement k i at) h = tt
    of_pointer_stored s p (InTask u f) h = tt

    of_store : (s : Size) (v : Value) (l : Location) → Points v → OwnLocation l → OwnEffect (store_effect m s v l)
    of_store s (value.Number n) l h k = of_number_stored s n l k
    of_store s (value.Pointer p) l h k = of_pointer_stored s p l h
    of_store s value.Unset l h k = tt

    of_end : (v : Value) → OwnEffect (end_with v)
    of_end (value.Number n) = tt
    of_end (value.Pointer p) = tt
    of_end value.Unset = tt

  -- ---- calls

  own_call : (m : Machine) (v : Value) → IsOwn m → Points v → IsOwn (after_call m v)
  own_call m v own h =
      let a = with_register m 1 value.Unset in
      let b = with_register a 2 value.Unset in
      let c = with_register b 3 value.Unset in
      let d = with_register c 4 value.Unset in
      let e = with_register d 5 value.Unset in
      own_register e 0 v (own_register d 5 value.Unset (own_register c 4 value.Unset (own_register b 3 value.Unset (own_register a 2 value.Unset (own_register m 1 value.Unset own tt) tt) tt) tt) tt) h

  found_points : (maps : Maps) (k n : ℕ) → Points (element_or_0 maps k n)
  found_points maps k n = go (nat_lt n (length (elements maps k)))
    where
      go : (b : Bool) → Points (if b then value.Pointer (pointer.Element k n 0) else value.Number 0)
      go true = tt
      go false = tt

  own_given : (m : Machine) (l : Location) (bytes : List ℕ) → IsOwn m → IsOwn (with_bytes m l bytes)
  own_given m Nowhere bytes own = own
  own_given m (OnStack at) bytes own = record { registers = own.registers; stack = own_write m.stack at (map byte.Byte bytes) own.stack (plain_point bytes) }
  own_given m (InElement k i at) bytes own = own_maps m _ own
  own_given m (InTask u f) bytes own = own

  own_replied : (m : Machine) (k : ℕ) (l : Location) (r : Reply) → IsOwn m → IsOwn (replied m k l r)
  own_replied m k l (Answer n) own = own_call m (value.Number n) own tt
  own_replied m k l (Found s) own = own_call m (element_or_0 m.maps k s) own (found_points m.maps k s)
  own_replied m k l (Gives bytes n) own = own_call (with_bytes m l bytes) (value.Number n) (own_given m l bytes own) tt

  module _ (m : Machine) (own : IsOwn m) where
    of_map : (f : Helper) → OwnEffect (map_effect m f)
    of_map f = of_two (asks_here f (directory m.maps (map_at_hand m))) _ _ (tt, λ v fits. served_own (number_given v)) (served_own 0)
      where
        served_own : (n : ℕ) → IsOwn (after_serving m (served m n f))
        served_own n = let s = served m n f in own_replied (with_maps m s.maps) (map_at_hand m) (region_at_hand m (m.registers 2)) s.reply (own_maps m s.maps own)

    of_look_up : (v : Value) (o : Option ℕ) → OwnEffect (looked_up m v o)
    of_look_up (value.Pointer (pointer.Map k)) (Some n) = go (directory m.maps k)
      where
        go : (d : Directory) → OwnEffect (looked_up_in m k n d)
        go directories.Array = own_call m (element_or_0 m.maps k n) own (found_points m.maps k n)
        go d = of_map MapLookupElem
    of_look_up (value.Pointer (pointer.Map k)) None = tt
    of_look_up v o = tt

    -- what such a helper answers points to no task
    answer_points : (f : Helper) (a : List Value) → answers_task f ≡ false → (v : Value) → Fits (Call f a) v → Points v
    answer_points f a none v fits = go (answers_task f) none fits
      where
        go : (b : Bool) → b ≡ false → MatchBool b (IsTaskOrNull v) (IsNumberBelow (2 ^ 64) v) → Points v
        go true e h = absurd (cc)
        go false e h = number_points (2 ^ 64) v h

    of_helper : (f : Helper) → answers_task f ≡ false → OwnEffect (call_effect m f)
    of_helper MapLookupElem none = of_look_up (m.registers 1) (key m (m.registers 2))
    of_helper (OnMap g) none = of_map (OnMap g)
    of_helper f none = (tt, λ v fits. own_call m v own (answer_points f (arguments m f) none v fits))

    of_call : (c : Callback) (o : Option Helper) → may_answer_task o ≡ false → OwnEffect (call_helper c m o)
    of_call c None none = tt
    of_call c (Some f) none = of_two (is_allowed f c && takes_all m (parameters f) 1) _ _ (of_helper f none) tt

    of_instruction : (c : Callback) (i : Insn) → asks_for_task (Some i) ≡ false → OwnEffect (act c i m)
    of_instruction c (insn.Binary w o d x) none = of_register m own (number d) (binary m w o (m.registers (number d)) x) (of_binary m own w o (m.registers (number d)) x)
    of_instruction c (insn.Negate w d) none = of_register m own (number d) (on_number (negative w) (m.registers (number d))) (of_number m own (negative w) (m.registers (number d)))
    of_instruction c (insn.SignExtend x d r) none = of_register m own (number d) (on_number (sign_extension x) (m.registers (number r))) (of_number m own (sign_extension x) (m.registers (number r)))
    of_instruction c (insn.ByteSwap o w d) none = of_register m own (number d) (on_number (byte_swapped o w) (m.registers (number d))) (of_number m own (byte_swapped o w) (m.registers (number d)))
    of_instruction c (insn.LoadImmediate d low high) none = of_register m own (number d) (Some (value.Number (wide_immediate low high))) tt
    of_instruction c (insn.LoadMapReference d k) none = of_register m own (number d) (map_reference m.maps k) (of_map_reference m own k)
    of_instruction c (insn.Load a d r offset) none =
        of_load m own (number d) a (address m.maps (m.registers (number r)) offset (size_bytes (access_size a))) (own_address m own (m.registers (number r)) offset (size_bytes (access_size a)) (own.registers (number r)))
    of_instruction c (insn.Store s r offset x) none =
        of_store m own s (operand_value m Bits64 x) (address m.maps (m.registers (number r)) offset (size_bytes s)) (of_operand m own Bits64 x) (own_address m own (m.registers (number r)) offset (size_bytes s) (own.registers (number r)))
    of_instruction c (insn.JumpIf w k r x offset) none = of_branch m own (comparison_answer m w k (m.registers (number r)) x)
    of_instruction c (insn.Goto offset) none = own
    of_instruction c (insn.GotoLong offset) none = own
    of_instruction c (insn.Call k) none = of_call c (helper_at k) none
    of_instruction c insn.Exit none = of_two (answers c) _ _ (of_end m own (m.registers 0)) tt

  -- ---- steps

  abbrev OwnOutcome : Outcome → Type 0
  OwnOutcome Stuck = Unit {0}
  OwnOutcome (Goes s m) = IsOwn m
  OwnOutcome (Asks q s go) = IsOfTask t q × ((v : Value) → Fits q v → IsOwn (go v))
  OwnOutcome (Ends n) = Unit {0}

  of_goes : (o : Option ℕ) (m : Machine) → IsOwn m → OwnOutcome (goes o m)
  of_goes None m own = tt
  of_goes (Some s) m own = own

  of_effect : (s : ℕ) (i : Insn) (e : Effect) → OwnEffect e → OwnOutcome (outcome_at s i e)
  of_effect s i (effect.Jumped m) h = of_goes (target s i) m h
  of_effect s i effect.Stuck h = tt
  of_effect s i (effect.Ended n) h = tt
  of_effect s i e h = h

  module _ (c : Callback) (code : Code) (none : (s : ℕ) → asks_for_task (at code s) ≡ false) where
    of_step : (s : ℕ) (m : Machine) → IsOwn m → OwnOutcome (step c code s m)
    of_step s m own = go (at code s) (none s)
      where
        go : (o : Option Insn) → asks_for_task o ≡ false → OwnOutcome (outcome_of c s o m)
        go None h = tt
        go (Some i) h = of_effect s i (act c i m) (of_instruction m own c i h)

    led : (o : Outcome) (s : ℕ) (m : Machine) → OwnOutcome o → LeadsTo any_answer o tt s m tt → IsOwn m
    led Stuck s m h l = absurd l
    led (Goes u k) s m h l = subst IsOwn (sym l.1) h
    led (Asks q u go) s m h l = subst IsOwn (sym l.3) (h.1 l.0 l.1)
    led (Ends n) s m h l = absurd l

    led_all : (n s u : ℕ) (m k : Machine) → IsOwn m → Leads any_answer c code n s m tt u k tt → IsOwn k
    led_all zero s u m k own l = subst IsOwn (sym l.1) own
    led_all (suc n) s u m k own l = led_all n l.0 u l.1 k (led (step c code s m) l.0 l.1 (of_step s m own) l.3) l.4

  own_start : (a : Arguments) (maps : Maps) → ArgumentsPointTo t a → IsOwn (start a maps)
  own_start a maps h = record {
    registers =
        own_value _ 10 _ (own_value _ 3 a.third (own_value _ 2 a.second (own_value (λ r. value.Unset) 1 a.first (λ r. tt) h.0) h.1) h.2) tt;
    stack = λ k. tt;
  }

-- the law
pub runs_point_to_their_task : RunsPointToTheirTask
runs_point_to_their_task t c code a maps n s m q next go none points leads e =
    let own = led_all t c code none n 0 s (start a maps) m (own_start t a maps points) leads in
    (subst (OwnOutcome t) e (of_step t c code none s m own)).0
