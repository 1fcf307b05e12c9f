-- Programs whose code shows that each insert gives a slice: r3 holds a constant other than 0 there.
use Rattle.std.specs.Prelude.{◌≡◌, ℕ, ◌+◌, nat_eq, ◌&&◌, ◌||◌, not, Bool, true, false, Option, Some, None}
use Rattle.scx_isa_semantics.specs.declared.callbacks.Callback.{Callback}
use Rattle.scx_isa_semantics.specs.declared.host_tables.Helper.{Helper}
use Rattle.scx_isa_semantics.specs.declared.host_tables.Helper.TheVariants.{DsqInsert, DsqInsertVtime}
use Rattle.scx_isa_semantics.specs.declared.instructions.Insn.{Insn}
use Rattle.scx_isa_semantics.specs.declared.instructions.Insn.TheVariants as insn
use Rattle.scx_isa_semantics.specs.declared.instructions.Operand.TheVariants as operand
use Rattle.scx_isa_semantics.specs.declared.operations.Operation.TheVariants.{Move}
use Rattle.scx_isa_semantics.specs.Arithmetic.{immediate, low}
use Rattle.scx_isa_semantics.specs.Code.{Code, at, size}
use Rattle.scx_isa_semantics.specs.HostTables.{helper_at}
use Rattle.scx_isa_semantics.specs.Registers.{number}
use Rattle.scx_isa_semantics.specs.Steps.{target}
use Rattle.scx_explore_states.specs.Asking.{GivesOne}
use Rattle.scx_explore_findings.specs.Asked.{AsksAnyhow}

-- the instruction moves a constant other than 0 to r3
abbrev pub sets_slice : Insn → Bool
sets_slice (insn.Binary w Move d (operand.Immediate k)) =
    nat_eq 3 (number d) && not (nat_eq (low w (immediate w k)) 0)
sets_slice i = false

-- it leaves r3 as it is
abbrev pub leaves_slice : Insn → Bool
leaves_slice (insn.Binary w o d x) = not (nat_eq 3 (number d))
leaves_slice (insn.Negate w d) = not (nat_eq 3 (number d))
leaves_slice (insn.SignExtend e d r) = not (nat_eq 3 (number d))
leaves_slice (insn.ByteSwap o w d) = not (nat_eq 3 (number d))
leaves_slice (insn.LoadImmediate d low_half high_half) = not (nat_eq 3 (number d))
leaves_slice (insn.LoadMapReference d k) = not (nat_eq 3 (number d))
leaves_slice (insn.Load a d r offset) = not (nat_eq 3 (number d))
leaves_slice (insn.Call k) = false
leaves_slice i = true

-- r3 holds a number other than 0 after the instruction, by whether it did before
abbrev pub has_slice_after : Bool → Insn → Bool
has_slice_after b i = sets_slice i || (b && leaves_slice i)

-- the helper inserts a task
abbrev pub inserts : Option Helper → Bool
inserts (Some DsqInsert) = true
inserts (Some DsqInsertVtime) = true
inserts o = false

-- the helper that an instruction calls, if it calls one
abbrev pub called : Insn → Option Helper
called (insn.Call k) = helper_at k
called i = None

-- A label of slots fits the instruction at a slot: it is set where control goes next, and where the
-- instruction jumps to, only if r3 holds such a number after it; and it is set at an insert.
pub record Fits (label : ℕ → Bool) (s : ℕ) (i : Insn) : Type 0 where
  pub next : label (s + size i) ≡ true → has_slice_after (label s) i ≡ true
  pub jump : (t : ℕ) → target s i ≡ Some t → label t ≡ true → has_slice_after (label s) i ≡ true
  pub insert : inserts (called i) ≡ true → label s ≡ true

-- it fits the instruction that begins at the slot, if one does
abbrev pub FitsAt : (ℕ → Bool) → ℕ → Option Insn → Type 0
FitsAt label s None = Unit {0}
FitsAt label s (Some i) = Fits label s i

-- such a label of the slots of a program, not set where the program starts
pub record ShowsSlices (code : Code) : Type 0 where
  pub label : ℕ → Bool
  pub first : label 0 ≡ false
  pub fits : (s : ℕ) → FitsAt label s (at code s)

-- no insert of a run of a program with such a label gives a slice of 0
abbrev pub SuchProgramsGiveSlices : Type 0
SuchProgramsGiveSlices =
    (c : Callback) (code : Code)
    → ShowsSlices code
    → AsksAnyhow GivesOne c code
