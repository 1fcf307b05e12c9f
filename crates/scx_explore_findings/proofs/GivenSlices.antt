-- Where the code of a program shows that r3 holds a constant other than 0 at each insert, each insert of a run gives a
-- slice.
use Rattle.std.proofs.Common.{◌≡◌, ℕ, zero, suc, ◌+◌, nat_eq, ◌&&◌, ◌||◌, not, if◌then◌else◌, Bool, true, false, Option, Some, None, refl}
use Rattle.scx_isa_semantics.specs.declared.callbacks.Callback.{Callback}
use Rattle.scx_isa_semantics.specs.declared.host_tables.Helper.{Helper}
use Rattle.scx_isa_semantics.specs.declared.host_tables.Helper.TheVariants.{DsqInsert, DsqInsertVtime, MapLookupElem, OnMap}
use Rattle.scx_isa_semantics.specs.declared.instructions.Insn.{Insn}
use Rattle.scx_isa_semantics.specs.declared.instructions.Insn.TheVariants as insn
use Rattle.scx_isa_semantics.specs.declared.instructions.Operand.{Operand}
use Rattle.scx_isa_semantics.specs.declared.instructions.Operand.TheVariants as operand
use Rattle.scx_isa_semantics.specs.declared.operations.Access.{Access}
use Rattle.scx_isa_semantics.specs.declared.operations.Operation.{Operation}
use Rattle.scx_isa_semantics.specs.declared.operations.Operation.TheVariants.{Move}
use Rattle.scx_isa_semantics.specs.declared.operations.Size.{Size}
use Rattle.scx_isa_semantics.specs.declared.operations.Width.{Width}
use Rattle.scx_isa_semantics.specs.declared.operations.Width.TheVariants.{Bits64}
use Rattle.scx_isa_semantics.specs.declared.registers.Register.{Register}
use Rattle.scx_isa_semantics.specs.declared.values.Pointer as pointers
use Rattle.scx_isa_semantics.specs.declared.values.Pointer.TheVariants as pointer
use Rattle.scx_isa_semantics.specs.declared.values.Value.{Value}
use Rattle.scx_isa_semantics.specs.declared.values.Value.TheVariants as value
use Rattle.scx_isa_semantics.specs.Arithmetic.{immediate, low, negative, sign_extension, byte_swapped, wide_immediate}
use Rattle.scx_isa_semantics.specs.Calls.{takes_all, map_at_hand, key, asks_here, map_effect, looked_up_in, looked_up, call_effect, call_helper}
use Rattle.scx_isa_semantics.specs.Code.{Code, at, size}
use Rattle.scx_isa_semantics.specs.Directories as directories
use Rattle.scx_isa_semantics.specs.Directories.{Directory}
use Rattle.scx_isa_semantics.specs.Effects.{Effect, set_register, set_stack, branch}
use Rattle.scx_isa_semantics.specs.Effects as effect
use Rattle.scx_isa_semantics.specs.Elements.{directory, element, number_at}
use Rattle.scx_isa_semantics.specs.HostTables.{helper_at, parameters, is_allowed, is_writable, answers}
use Rattle.scx_isa_semantics.specs.Locations.{Location, Nowhere, OnStack, InElement, InTask, address}
use Rattle.scx_isa_semantics.specs.Machine.{Machine, with_register, start}
use Rattle.scx_isa_semantics.specs.Meaning.{operand_value, binary, on_number, map_reference, is_plain, load_effect, number_stored, pointer_stored, store_effect, comparison_answer, end_with, act}
use Rattle.scx_isa_semantics.specs.Memory.{Stack, size_bytes, access_size, read_as, load, store}
use Rattle.scx_isa_semantics.specs.Registers.{number}
use Rattle.scx_isa_semantics.specs.Steps.{target, goes, outcome_at, outcome_of}
use Rattle.scx_vm.specs.Arguments.{argument_of}
use Rattle.scx_sched_world.specs.Helpers.{number_of}
use Rattle.scx_explore_findings.specs.GivenSlices.{has_slice_after, inserts, called, Fits, FitsAt, ShowsSlices, SuchProgramsGiveSlices}
use Rattle.scx_explore_states.specs.Asking.{GivesOne}
use Rattle.scx_explore_findings.specs.Asked.{StepAnyhow, AnyhowWithin}
use Rattle.scx_explore_findings.proofs.IdleRecords.{bits}

first_of : (a b : Bool) → (a && b) ≡ true → a ≡ true
first_of true b e = refl
first_of false b e = e

second_of : (a b : Bool) → (a && b) ≡ true → b ≡ true
second_of true b e = e
second_of false b e = absurd (bits false e refl)

-- a number other than 0
abbrev IsGiven : Value → Type 0
IsGiven v = (nat_eq (number_of (argument_of v)) 0) ≡ false

-- r3 holds such a number, if that is so claimed
abbrev Holds : Bool → Machine → Type 0
Holds b m = b ≡ true → IsGiven (m.registers 3)

-- it does after an effect, and an insert is given it
abbrev Gives : Bool → Effect → Type 0
Gives b (effect.Next m) = Holds b m
Gives b (effect.Jumped m) = Holds b m
Gives b (effect.Ask q go) = GivesOne q × ((v : Value) → Holds b (go v))
Gives b e = Unit {0}

module _ (a : Bool) (m : Machine) (h : Holds a m) where
  as_was : Holds (a && true) m
  as_was e = h (first_of a true e)

  never : {A : Type 0} → (a && false) ≡ true → A
  never e = absurd (bits false (second_of a false e) refl)

  -- another register is written
  kept : (r : ℕ) (v : Value) → Holds (a && not (nat_eq 3 r)) (with_register m r v)
  kept r v e = go (nat_eq 3 r) e
    where
      go : (y : Bool) → (a && not y) ≡ true → IsGiven (if y then v else m.registers 3)
      go true is = absurd (bits false (second_of a false is) refl)
      go false is = h (first_of a true is)

  -- a constant is moved to a register
  moved : (r n : ℕ) → Holds ((nat_eq 3 r && not (nat_eq n 0)) || (a && not (nat_eq 3 r))) (with_register m r (value.Number n))
  moved r n e = go (nat_eq 3 r) (nat_eq n 0) refl e
    where
      go : (y z : Bool) → nat_eq n 0 ≡ z → ((y && not z) || (a && not y)) ≡ true → IsGiven (if y then value.Number n else m.registers 3)
      go true false zero_is is = zero_is
      go true true zero_is is = absurd (bits false (second_of a false is) refl)
      go false z zero_is is = h (first_of a true is)

  of_two : (b y : Bool) (p q : Effect) → Gives b p → Gives b q → Gives b (if y then p else q)
  of_two b true p q j k = j
  of_two b false p q j k = k

  of_register : (b : Bool) (r : ℕ) (o : Option Value) → ((v : Value) → Holds b (with_register m r v)) → Gives b (set_register m r o)
  of_register b r None k = tt
  of_register b r (Some v) k = of_two b (nat_eq r 10) effect.Stuck (effect.Next (with_register m r v)) tt (k v)

  of_load : (r : ℕ) (x : Access) (l : Location) → Gives (a && not (nat_eq 3 r)) (load_effect m r x l)
  of_load r x Nowhere = tt
  of_load r x (OnStack at) = of_register (a && not (nat_eq 3 r)) r (load m.stack x at) (kept r)
  of_load r x (InElement k i at) = of_register (a && not (nat_eq 3 r)) r (Some (value.Number (read_as x (number_at (element m.maps k i) at (size_bytes (access_size x)))))) (kept r)
  of_load r x (InTask t f) = let b = a && not (nat_eq 3 r) in of_two b (is_plain x) _ _ (of_two b (nat_eq r 10) _ _ tt (tt, λ v. kept r v)) tt

  of_stack : (o : Option Stack) → Gives (a && true) (set_stack m o)
  of_stack None = tt
  of_stack (Some stack) = as_was

  of_number : (s : Size) (n : ℕ) (l : Location) → Gives (a && true) (number_stored m s n l)
  of_number s n Nowhere = tt
  of_number s n (OnStack at) = of_stack (store m.stack s at (value.Number n))
  of_number s n (InElement k i at) = as_was
  of_number s n (InTask t f) = of_two (a && true) (is_writable f) _ _ (tt, λ v. as_was) tt

  of_pointer : (s : Size) (p : pointers.Pointer) (l : Location) → Gives (a && true) (pointer_stored m s p l)
  of_pointer s p Nowhere = tt
  of_pointer s p (OnStack at) = of_stack (store m.stack s at (value.Pointer p))
  of_pointer s p (InElement k i at) = tt
  of_pointer s p (InTask t f) = tt

  of_store : (s : Size) (v : Value) (l : Location) → Gives (a && true) (store_effect m s v l)
  of_store s (value.Number n) l = of_number s n l
  of_store s (value.Pointer p) l = of_pointer s p l
  of_store s value.Unset l = tt

  of_branch : (o : Option Bool) → Gives (a && true) (branch m o)
  of_branch None = tt
  of_branch (Some true) = as_was
  of_branch (Some false) = as_was

  of_end : (b : Bool) (v : Value) → Gives b (end_with v)
  of_end b (value.Number n) = tt
  of_end b (value.Pointer p) = tt
  of_end b value.Unset = tt

  of_map : (f : Helper) → Gives (a && false) (map_effect m f)
  of_map f = of_two (a && false) (asks_here f (directory m.maps (map_at_hand m))) _ _ (tt, λ v. never) never

  of_look_up : (v : Value) (o : Option ℕ) → Gives (a && false) (looked_up m v o)
  of_look_up (value.Pointer (pointer.Map k)) (Some n) = go (directory m.maps k)
    where
      go : (d : Directory) → Gives (a && false) (looked_up_in m k n d)
      go directories.Array = never
      go directories.PerCpu = of_map MapLookupElem
      go (directories.Hash s ks) = of_map MapLookupElem
      go (directories.Queue l) = of_map MapLookupElem
      go (directories.Stack l) = of_map MapLookupElem
  of_look_up (value.Pointer (pointer.Map k)) None = tt
  of_look_up v o = tt

  of_helper : (f : Helper) → (inserts (Some f) ≡ true → a ≡ true) → Gives (a && false) (call_effect m f)
  of_helper MapLookupElem is = of_look_up (m.registers 1) (key m (m.registers 2))
  of_helper (OnMap g) is = of_map (OnMap g)
  of_helper DsqInsert is = (h (is refl), λ v. never)
  of_helper DsqInsertVtime is = (h (is refl), λ v. never)
  of_helper f is = (tt, λ v. never)

  of_call : (c : Callback) (o : Option Helper) → (inserts o ≡ true → a ≡ true) → Gives (a && false) (call_helper c m o)
  of_call c None is = tt
  of_call c (Some f) is = of_two (a && false) (is_allowed f c && takes_all m (parameters f) 1) _ _ (of_helper f is) tt

  of_binary : (c : Callback) (w : Width) (o : Operation) (d : Register) (x : Operand) → Gives (has_slice_after a (insn.Binary w o d x)) (act c (insn.Binary w o d x) m)
  of_binary c w Move d (operand.Immediate k) =
      of_two (has_slice_after a (insn.Binary w Move d (operand.Immediate k))) (nat_eq (number d) 10) _ _ tt (moved (number d) (low w (immediate w k)))
  of_binary c w Move d x = of_register (a && not (nat_eq 3 (number d))) (number d) (binary m w Move (m.registers (number d)) x) (kept (number d))
  of_binary c w o d x = of_register (a && not (nat_eq 3 (number d))) (number d) (binary m w o (m.registers (number d)) x) (kept (number d))

  -- so it is after an instruction
  of_instruction : (c : Callback) (i : Insn) → (inserts (called i) ≡ true → a ≡ true) → Gives (has_slice_after a i) (act c i m)
  of_instruction c (insn.Binary w o d x) is = of_binary c w o d x
  of_instruction c (insn.Negate w d) is = of_register (a && not (nat_eq 3 (number d))) (number d) (on_number (negative w) (m.registers (number d))) (kept (number d))
  of_instruction c (insn.SignExtend x d r) is = of_register (a && not (nat_eq 3 (number d))) (number d) (on_number (sign_extension x) (m.registers (number r))) (kept (number d))
  of_instruction c (insn.ByteSwap o w d) is = of_register (a && not (nat_eq 3 (number d))) (number d) (on_number (byte_swapped o w) (m.registers (number d))) (kept (number d))
  of_instruction c (insn.LoadImmediate d l u) is = of_register (a && not (nat_eq 3 (number d))) (number d) (Some (value.Number (wide_immediate l u))) (kept (number d))
  of_instruction c (insn.LoadMapReference d k) is = of_register (a && not (nat_eq 3 (number d))) (number d) (map_reference m.maps k) (kept (number d))
  of_instruction c (insn.Load x d r offset) is = of_load (number d) x (address m.maps (m.registers (number r)) offset (size_bytes (access_size x)))
  of_instruction c (insn.Store s r offset x) is = of_store s (operand_value m Bits64 x) (address m.maps (m.registers (number r)) offset (size_bytes s))
  of_instruction c (insn.JumpIf w k r x offset) is = of_branch (comparison_answer m w k (m.registers (number r)) x)
  of_instruction c (insn.Goto offset) is = as_was
  of_instruction c (insn.GotoLong offset) is = as_was
  of_instruction c (insn.Call k) is = of_call c (helper_at k) is
  of_instruction c insn.Exit is = of_two (a && true) (answers c) _ _ (of_end (a && true) (m.registers 0)) tt

module _ (c : Callback) (code : Code) (shows : ShowsSlices code) where
  step_gives : (P : ℕ → Machine → Type 0) → ((t : ℕ) (m : Machine) → Holds (shows.label t) m → P t m) → (s : ℕ) (i : Insn) → Fits shows.label s i → (e : Effect) → Gives (has_slice_after (shows.label s) i) e → StepAnyhow GivesOne P (outcome_at s i e)
  step_gives P on s i fits effect.Stuck k = tt
  step_gives P on s i fits (effect.Next m) k = on (s + size i) m (λ l. k (fits.next l))
  step_gives P on s i fits (effect.Jumped m) k = go (target s i) refl
    where
      go : (o : Option ℕ) → target s i ≡ o → StepAnyhow GivesOne P (goes o m)
      go None is = tt
      go (Some t) is = on t m (λ l. k (fits.jump t is l))
  step_gives P on s i fits (effect.Ask q go) k = (k.0, λ v. on (s + size i) (go v) (λ l. k.1 v (fits.next l)))
  step_gives P on s i fits (effect.Ended n) k = tt

  run_gives : (n s : ℕ) (m : Machine) → Holds (shows.label s) m → AnyhowWithin GivesOne c code n s m
  run_gives zero s m h = tt
  run_gives (suc n) s m h = go (at code s) (shows.fits s) (λ t k. run_gives n t k)
    where
      go : (o : Option Insn) → FitsAt shows.label s o → ((t : ℕ) (k : Machine) → Holds (shows.label t) k → AnyhowWithin GivesOne c code n t k) → StepAnyhow GivesOne (AnyhowWithin GivesOne c code n) (outcome_of c s o m)
      go None fits on = tt
      go (Some i) fits on = step_gives (AnyhowWithin GivesOne c code n) on s i fits (act c i m) (of_instruction (shows.label s) m h c i fits.insert)

-- no insert of a run of such a program gives a slice of 0
pub such_programs_give_slices : SuchProgramsGiveSlices
such_programs_give_slices c code shows n a maps = run_gives c code shows n 0 (start a maps) (λ e. absurd (bits (shows.label 0) e shows.first))
