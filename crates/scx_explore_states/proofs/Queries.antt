-- The queries of a program, by its code and its registers: what holds of each query that an instruction may make holds of all
-- that it asks, and what each such query keeps a run keeps.
use Rattle.std.proofs.Common.{◌≡◌, ℕ, zero, suc, ◌&&◌, ℤ, List, Bool, true, false, if◌then◌else◌, Option, Some, None, nat_eq, refl}
use Rattle.scx_isa_semantics.specs.declared.instructions.Insn.{Insn}
use Rattle.scx_isa_semantics.specs.declared.instructions.Insn.TheVariants as insn
use Rattle.scx_isa_semantics.specs.declared.operations.Access.{Access}
use Rattle.scx_isa_semantics.specs.declared.operations.Size.{Size}
use Rattle.scx_isa_semantics.specs.declared.operations.Width.TheVariants.{Bits64}
use Rattle.scx_isa_semantics.specs.declared.values.Pointer as pointers
use Rattle.scx_isa_semantics.specs.declared.values.Pointer.TheVariants as pointer
use Rattle.scx_isa_semantics.specs.declared.values.Value.{Value}
use Rattle.scx_isa_semantics.specs.declared.values.Value.TheVariants as value
use Rattle.scx_isa_semantics.specs.declared.callbacks.Callback.{Callback}
use Rattle.scx_isa_semantics.specs.declared.host_tables.Field.{Field}
use Rattle.scx_isa_semantics.specs.declared.host_tables.Helper.{Helper}
use Rattle.scx_isa_semantics.specs.declared.host_tables.Helper.TheVariants.{MapLookupElem, SmpProcessorId, OnMap}
use Rattle.scx_isa_semantics.specs.declared.host_tables.TaskId.{TaskId}
use Rattle.scx_isa_semantics.specs.Registers.{number}
use Rattle.scx_isa_semantics.specs.Arithmetic.{negative, sign_extension, byte_swapped, wide_immediate, at_distance}
use Rattle.scx_isa_semantics.specs.Memory.{Stack, size_bytes, access_size, read_as, load, store}
use Rattle.scx_isa_semantics.specs.declared.callbacks.Callback.TheVariants as callback
use Rattle.scx_isa_semantics.specs.Elements.{Maps, directory, element, number_at}
use Rattle.scx_isa_semantics.specs.HostTables.{field_at, helper_at, parameters, is_allowed, is_writable, answers}
use Rattle.scx_isa_semantics.specs.Locations.{Location, Nowhere, OnStack, InElement, InTask, on_stack, in_element, in_task, address}
use Rattle.scx_isa_semantics.specs.Code.{Code, at}
use Rattle.scx_isa_semantics.specs.Machine.{Machine}
use Rattle.scx_isa_semantics.specs.Calls.{takes_all, arguments, map_at_hand, key, nothing_given, asks_here, map_effect, looked_up_in, looked_up, call_effect, call_helper}
use Rattle.scx_isa_semantics.specs.Directories as directories
use Rattle.scx_isa_semantics.specs.Directories.{Directory}
use Rattle.scx_isa_semantics.specs.Effects.{Query, Call, Load, Store, Effect, set_register, set_register_by_answer, set_stack, branch}
use Rattle.scx_isa_semantics.specs.Effects as effect
use Rattle.scx_isa_semantics.specs.Meaning.{operand_value, binary, on_number, map_reference, is_plain, load_effect, number_stored, pointer_stored, store_effect, comparison_answer, end_with, act}
use Rattle.scx_isa_semantics.specs.Steps.{Outcome, Stuck, Goes, Asks, Ends, target, goes, outcome_at, outcome_of, step}
use Rattle.scx_isa_semantics.specs.Endings.{Ending, ending_of, run_within}

-- a fact of queries that holds of each store to a field of a task
module _ (P : Query → Type 0) (stores : (t : TaskId) (f : Field) (n : ℕ) → P (Store t f n)) where
  -- ---- what an instruction asks

  -- it holds of a query that an effect makes
  abbrev AsksOpen : Effect → Type 0
  AsksOpen (effect.Ask q go) = P q
  AsksOpen e = Unit {0}

  -- and of one that a step makes
  abbrev pub StepsOpen : Outcome → Type 0
  StepsOpen (Asks q t go) = P q
  StepsOpen o = Unit {0}

  -- and of a load at a location
  abbrev IsShown : Location → Type 0
  IsShown (InTask t f) = P (Load t f)
  IsShown l = Unit {0}

  -- it holds of each query that an instruction may make in that state, but for stores
  abbrev pub MayAskIn : Machine → Callback → Insn → Type 0
  MayAskIn m c (insn.Load a d r offset) = (t : TaskId) (f : Field) → m.registers (number r) ≡ value.Pointer (pointer.Task t) → field_at (size_bytes (access_size a)) (at_distance 0 offset) ≡ Some f → P (Load t f)
  MayAskIn m c (insn.Call k) = (f : Helper) → helper_at k ≡ Some f → is_allowed f c ≡ true → P (Call f (arguments m f)) × P (Call SmpProcessorId nothing_given)
  MayAskIn m c i = Unit {0}

  -- the same of what begins at a slot
  abbrev pub MayAskThere : Machine → Callback → Option Insn → Type 0
  MayAskThere m c None = Unit {0}
  MayAskThere m c (Some i) = MayAskIn m c i

  -- it holds of each query that an instruction may make in any state, but for stores
  abbrev pub MayAsk : Callback → Insn → Type 0
  MayAsk c (insn.Load a d b offset) = (t : TaskId) (f : Field) → field_at (size_bytes (access_size a)) (at_distance 0 offset) ≡ Some f → P (Load t f)
  MayAsk c (insn.Call k) = ((f : Helper) (v : List Value) → helper_at k ≡ Some f → is_allowed f c ≡ true → P (Call f v)) × ((f : Helper) → helper_at k ≡ Some f → is_allowed f c ≡ true → P (Call SmpProcessorId nothing_given))
  MayAsk c i = Unit {0}

  -- the same of what begins at a slot
  abbrev pub MayAskAt : Callback → Option Insn → Type 0
  MayAskAt c None = Unit {0}
  MayAskAt c (Some i) = MayAsk c i

  -- what holds in any state holds in that one
  asks_there : (m : Machine) (c : Callback) (o : Option Insn) → MayAskAt c o → MayAskThere m c o
  asks_there m c None e = tt
  asks_there m c (Some (insn.Load a d r offset)) e = λ t f is there. e t f there
  asks_there m c (Some (insn.Call k)) e = λ f is free. (e.0 f (arguments m f) is free, e.1 f is free)
  asks_there m c (Some i) e = tt

  of_two : (b : Bool) (x y : Effect) → AsksOpen x → AsksOpen y → AsksOpen (if b then x else y)
  of_two true x y p q = p
  of_two false x y p q = q

  of_register : (m : Machine) (r : ℕ) (v : Option Value) → AsksOpen (set_register m r v)
  of_register m r None = tt
  of_register m r (Some v) = of_two (nat_eq r 10) _ _ tt tt

  of_stack : (m : Machine) (o : Option Stack) → AsksOpen (set_stack m o)
  of_stack m None = tt
  of_stack m (Some stack) = tt

  of_branch : (m : Machine) (o : Option Bool) → AsksOpen (branch m o)
  of_branch m None = tt
  of_branch m (Some true) = tt
  of_branch m (Some false) = tt

  shown_on_stack : (o : Option ℕ) → IsShown (on_stack o)
  shown_on_stack None = tt
  shown_on_stack (Some at) = tt

  shown_in_element : (m i : ℕ) (o : Option ℕ) → IsShown (in_element m i o)
  shown_in_element m i None = tt
  shown_in_element m i (Some at) = tt

  shown_in_task : (t : TaskId) (o : Option Field) → ((f : Field) → o ≡ Some f → P (Load t f)) → IsShown (in_task t o)
  shown_in_task t None e = tt
  shown_in_task t (Some f) e = e f refl

  -- where it holds of loads of a field of the task that a value points to, no address of it is of another one
  shown_at : (maps : Maps) (v : Value) (offset : ℤ) (n : ℕ) → ((t : TaskId) (f : Field) → v ≡ value.Pointer (pointer.Task t) → field_at n (at_distance 0 offset) ≡ Some f → P (Load t f)) → IsShown (address maps v offset n)
  shown_at maps (value.Pointer (pointer.Stack at)) offset n e = shown_on_stack _
  shown_at maps (value.Pointer (pointer.Element m i at)) offset n e = shown_in_element m i _
  shown_at maps (value.Pointer (pointer.Task t)) offset n e = shown_in_task t _ (λ f there. e t f refl there)
  shown_at maps (value.Pointer (pointer.Map m)) offset n e = tt
  shown_at maps (value.Number a) offset n e = tt
  shown_at maps value.Unset offset n e = tt

  of_load : (m : Machine) (r : ℕ) (a : Access) (l : Location) → IsShown l → AsksOpen (load_effect m r a l)
  of_load m r a Nowhere e = tt
  of_load m r a (OnStack at) e = of_register m r (load m.stack a at)
  of_load m r a (InElement k i at) e = of_register m r (Some (value.Number (read_as a (number_at (element m.maps k i) at (size_bytes (access_size a))))))
  of_load m r a (InTask t f) e = of_two (is_plain a) _ _ (of_two (nat_eq r 10) _ _ tt e) tt

  of_number : (m : Machine) (s : Size) (n : ℕ) (l : Location) → AsksOpen (number_stored m s n l)
  of_number m s n Nowhere = tt
  of_number m s n (OnStack at) = of_stack m (store m.stack s at (value.Number n))
  of_number m s n (InElement k i at) = tt
  of_number m s n (InTask t f) = of_two (is_writable f) _ _ (stores t f n) tt

  of_pointer : (m : Machine) (s : Size) (p : pointers.Pointer) (l : Location) → AsksOpen (pointer_stored m s p l)
  of_pointer m s p Nowhere = tt
  of_pointer m s p (OnStack at) = of_stack m (store m.stack s at (value.Pointer p))
  of_pointer m s p (InElement k i at) = tt
  of_pointer m s p (InTask t f) = tt

  of_store : (m : Machine) (s : Size) (v : Value) (l : Location) → AsksOpen (store_effect m s v l)
  of_store m s (value.Number n) l = of_number m s n l
  of_store m s (value.Pointer p) l = of_pointer m s p l
  of_store m s value.Unset l = tt

  of_end : (v : Value) → AsksOpen (end_with v)
  of_end (value.Number n) = tt
  of_end (value.Pointer p) = tt
  of_end value.Unset = tt

  -- a helper on a map asks for the CPU at hand at most
  of_map : (m : Machine) (f : Helper) → P (Call SmpProcessorId nothing_given) → AsksOpen (map_effect m f)
  of_map m f here = of_two (asks_here f (directory m.maps (map_at_hand m))) _ _ here tt

  of_look_up : (m : Machine) (v : Value) (o : Option ℕ) → P (Call SmpProcessorId nothing_given) → AsksOpen (looked_up m v o)
  of_look_up m (value.Pointer (pointer.Map k)) (Some n) here = go (directory m.maps k)
    where
      go : (d : Directory) → AsksOpen (looked_up_in m k n d)
      go directories.Array = tt
      go directories.PerCpu = of_map m MapLookupElem here
      go (directories.Hash s ks) = of_map m MapLookupElem here
      go (directories.Queue l) = of_map m MapLookupElem here
      go (directories.Stack l) = of_map m MapLookupElem here
  of_look_up m (value.Pointer (pointer.Map k)) None here = tt
  of_look_up m v o here = tt

  of_helper : (m : Machine) (f : Helper) → P (Call f (arguments m f)) → P (Call SmpProcessorId nothing_given) → AsksOpen (call_effect m f)
  of_helper m MapLookupElem e here = of_look_up m (m.registers 1) (key m (m.registers 2)) here
  of_helper m (OnMap g) e here = of_map m (OnMap g) here
  of_helper m f e here = e

  of_call : (c : Callback) (m : Machine) (o : Option Helper) → ((f : Helper) → o ≡ Some f → is_allowed f c ≡ true → P (Call f (arguments m f)) × P (Call SmpProcessorId nothing_given)) → AsksOpen (call_helper c m o)
  of_call c m None e = tt
  of_call c m (Some f) e = go (is_allowed f c) (takes_all m (parameters f) 1) refl
    where
      go : (b d : Bool) → is_allowed f c ≡ b → AsksOpen (if b && d then call_effect m f else effect.Stuck)
      go true true free = of_helper m f (e f refl free).0 (e f refl free).1
      go true false free = tt
      go false d free = tt

  of_instruction : (c : Callback) (i : Insn) (m : Machine) → MayAskIn m c i → AsksOpen (act c i m)
  of_instruction c (insn.Binary w o d x) m e = of_register m (number d) (binary m w o (m.registers (number d)) x)
  of_instruction c (insn.Negate w d) m e = of_register m (number d) (on_number (negative w) (m.registers (number d)))
  of_instruction c (insn.SignExtend x d r) m e = of_register m (number d) (on_number (sign_extension x) (m.registers (number r)))
  of_instruction c (insn.ByteSwap o w d) m e = of_register m (number d) (on_number (byte_swapped o w) (m.registers (number d)))
  of_instruction c (insn.LoadImmediate d low high) m e = of_register m (number d) (Some (value.Number (wide_immediate low high)))
  of_instruction c (insn.LoadMapReference d k) m e = of_register m (number d) (map_reference m.maps k)
  of_instruction c (insn.Load a d r offset) m e = of_load m (number d) a (address m.maps (m.registers (number r)) offset (size_bytes (access_size a))) (shown_at m.maps (m.registers (number r)) offset (size_bytes (access_size a)) e)
  of_instruction c (insn.Store s r offset x) m e = of_store m s (operand_value m Bits64 x) (address m.maps (m.registers (number r)) offset (size_bytes s))
  of_instruction c (insn.JumpIf w k r x offset) m e = of_branch m (comparison_answer m w k (m.registers (number r)) x)
  of_instruction c (insn.Goto offset) m e = tt
  of_instruction c (insn.GotoLong offset) m e = tt
  of_instruction c (insn.Call k) m e = of_call c m (helper_at k) e
  of_instruction c insn.Exit m e = of_two (answers c) _ _ (of_end (m.registers 0)) tt

  of_goes : (o : Option ℕ) (m : Machine) → StepsOpen (goes o m)
  of_goes None m = tt
  of_goes (Some t) m = tt

  of_effect : (s : ℕ) (i : Insn) (e : Effect) → AsksOpen e → StepsOpen (outcome_at s i e)
  of_effect s i effect.Stuck o = tt
  of_effect s i (effect.Next m) o = tt
  of_effect s i (effect.Jumped m) o = of_goes (target s i) m
  of_effect s i (effect.Ask q go) o = o
  of_effect s i (effect.Ended n) o = tt

  -- it holds of what a step asks in that state
  pub of_step_in : (c : Callback) (code : Code) (s : ℕ) (m : Machine) → MayAskThere m c (at code s) → StepsOpen (step c code s m)
  of_step_in c code s m may = go (at code s) may
    where
      go : (o : Option Insn) → MayAskThere m c o → StepsOpen (outcome_of c s o m)
      go None e = tt
      go (Some i) e = of_effect s i (act c i m) (of_instruction c i m e)

  -- and of what one asks in any state
  pub of_step : (c : Callback) (code : Code) → ((slot : ℕ) → MayAskAt c (at code slot)) → (s : ℕ) (m : Machine) → StepsOpen (step c code s m)
  of_step c code may s m = of_step_in c code s m (asks_there m c (at code s) (may s))

  -- ---- what a run keeps

  module _ {W : Type 0} (answer : W → Query → Value) (after : W → Query → W) (I : W → Type 0) (keeps : (w : W) (q : Query) → P q → I w → I (after w q)) where
    ending_keeps : (on : ℕ → Machine → W → Ending W) → ((t : ℕ) (k : Machine) (v : W) → I v → I (on t k v).outside) → (o : Outcome) → StepsOpen o → (m : Machine) (w : W) → I w → I (ending_of answer after on o m w).outside
    ending_keeps on all Stuck h m w i = i
    ending_keeps on all (Goes t k) h m w i = all t k w i
    ending_keeps on all (Asks q t go) h m w i = all t (go (answer w q)) (after w q) (keeps w q h i)
    ending_keeps on all (Ends x) h m w i = i

    -- what each query keeps that an instruction may make, a run keeps
    pub run_keeps : (c : Callback) (code : Code) → ((slot : ℕ) → MayAskAt c (at code slot)) → (n s : ℕ) (m : Machine) (w : W) → I w → I (run_within answer after c code n s m w).outside
    run_keeps c code may zero s m w i = i
    run_keeps c code may (suc n) s m w i = ending_keeps (λ t k v. run_within answer after c code n t k v) (λ t k v h. run_keeps c code may n t k v h) (step c code s m) (of_step c code may s m) m w i

-- ---- helpers that are allowed

-- a helper that is called may be called in that callback
abbrev pub IsAllowed : Callback → Query → Type 0
IsAllowed c (Call f a) = is_allowed f c ≡ true
IsAllowed c q = Unit {0}

pub stores_allowed : (c : Callback) (t : TaskId) (f : Field) (n : ℕ) → IsAllowed c (Store t f n)
stores_allowed c t f n = tt

-- where a helper may be called the CPU at hand may be asked for
here_allowed : (c : Callback) (f : Helper) → is_allowed f c ≡ true → is_allowed SmpProcessorId c ≡ true
here_allowed callback.Plain f e = absurd (cc)
here_allowed c f e = refl

-- no instruction calls another one
pub asks_allowed : (c : Callback) (o : Option Insn) → MayAskAt (IsAllowed c) (stores_allowed c) c o
asks_allowed c None = tt
asks_allowed c (Some (insn.Load a d b offset)) = λ t f is. tt
asks_allowed c (Some (insn.Call k)) = (λ f v is free. free, λ f is free. here_allowed c f free)
asks_allowed c (Some i) = tt
