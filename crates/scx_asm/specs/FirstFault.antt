-- The first fault of a text that describes no program, without saying how it is found: a line that
-- is faulty by itself or after the lines before it; if there is none, a text without an
-- instruction; and then a jump that has no instruction. Lines count from 1.
use Rattle.std.specs.Prelude.{◌≡◌, ℕ, suc, ◌+◌, ◌<◌, ◌≤◌, true, false, List, [], ◌∷◌, ◌++◌, map, length, Option, Some, None, Result, Ok, Err}
use Rattle.std.specs.List.{Contains, IsDistinct, AllByRecursion}
use Rattle.std.specs.Str.{bytes_eq}
use Rattle.std.specs.Str.Lines.{lines}
use Rattle.scx_isa_semantics.specs.declared.instructions.Insn.{Insn}
use Rattle.scx_isa.specs.declared.program.TheConstants.{MAX_SLOTS}
use Rattle.scx_isa_semantics.specs.Code.{Code}
use Rattle.scx_isa_semantics.specs.Steps.{target}
use Rattle.scx_asm_text.specs.Items.{Label, ItemValue, DefinesLabel, Jumps, read_line}
use Rattle.scx_asm.specs.declared.faults.AsmFault.{AsmFault}
use Rattle.scx_asm.specs.declared.faults.AsmFault.TheVariants.{Syntax, UnknownLabel, TwiceLabel, OutOfRange, TooLong}
use Rattle.scx_asm.specs.declared.faults.AsmError.{AsmError}
use Rattle.scx_asm.specs.declared.faults.AsmError.TheVariants.{Refused, OutOfMemory}
use Rattle.scx_asm.specs.Resolving.{fits, slots, Labels}
use Rattle.scx_asm.specs.Standing.{definitions, names, IsJump, AreSaid, StandsFor}

-- the slots that lines take
abbrev pub slots_of : List ItemValue → ℕ
slots_of [] = 0
slots_of (l ∷ ls) = slots l + slots_of ls

-- no line is faulty by itself or after the lines before it
pub record AreFine (ls : List ItemValue) : Type 0 where
  pub once : IsDistinct bytes_eq (names (definitions 0 ls))
  pub fit : AllByRecursion (λ l. fits l ≡ true) ls
  pub within : slots_of ls ≤ MAX_SLOTS

-- the fault of a line, by its item if it is of the language, after lines without a fault
abbrev pub IsWrong : List ItemValue → Option ItemValue → AsmFault → Type 0
IsWrong earlier None Syntax = Unit {0}
IsWrong earlier (Some (DefinesLabel l)) TwiceLabel =
    (s : ℕ) × Contains (definitions 0 earlier) (l, s)
IsWrong earlier (Some l) OutOfRange = fits l ≡ false
IsWrong earlier (Some l) TooLong = (fits l ≡ true) × (MAX_SLOTS < slots_of earlier + slots l)
IsWrong earlier l fault = ⊥

-- the lines before the n-th are fine, and it has the fault
pub record FailsAt (texts : List (List ℕ)) (fault : AsmFault) (n : ℕ) : Type 0 where
  pub before : List (List ℕ)
  pub text : List ℕ
  pub following : List (List ℕ)
  pub split : texts ≡ before ++ text ∷ following
  pub number : n ≡ suc (length before)
  pub earlier : List ItemValue
  pub read : map read_line before ≡ map Some earlier
  pub fine : AreFine earlier
  pub wrong : IsWrong earlier (read_line text) fault

-- the fault of a jump to a label, at a slot, where labels name slots
abbrev pub IsLost : Labels → ℕ → ItemValue → AsmFault → Type 0
IsLost labels s (Jumps j (Label l)) UnknownLabel = (t : ℕ) → Contains labels (l, t) → ⊥
IsLost labels s (Jumps j (Label l)) OutOfRange =
    (t : ℕ) × Contains labels (l, t) × ((i : Insn) → IsJump j i → target s i ≡ Some t → ⊥)
IsLost labels s l fault = ⊥

-- all lines are fine, those before the n-th say instructions, and it is a jump with the fault
pub record LosesAt (texts : List (List ℕ)) (fault : AsmFault) (n : ℕ) : Type 0 where
  pub before : List ItemValue
  pub line : ItemValue
  pub following : List ItemValue
  pub read : map read_line texts ≡ map Some (before ++ line ∷ following)
  pub number : n ≡ suc (length before)
  pub fine : AreFine (before ++ line ∷ following)
  pub insns : List Insn
  pub said : AreSaid (definitions 0 (before ++ line ∷ following)) 0 before insns
  pub lost : IsLost (definitions 0 (before ++ line ∷ following)) (slots_of before) line fault

-- all lines are fine, and none says an instruction
pub record IsEmpty (texts : List (List ℕ)) : Type 0 where
  pub says : List ItemValue
  pub read : map read_line texts ≡ map Some says
  pub fine : AreFine says
  pub none : slots_of says ≡ 0

-- the first fault of a text, and its line
pub data IsFirstFault (text : List ℕ) : AsmFault → ℕ → Type 0 where
  AtLine : (fault : AsmFault) (n : ℕ) → FailsAt (lines text) fault n → IsFirstFault text fault n
  NoInsn : IsEmpty (lines text) → IsFirstFault text Syntax 1
  AtJump : (fault : AsmFault) (n : ℕ) → LosesAt (lines text) fault n → IsFirstFault text fault n

-- The statement of an answer: the text describes the program, or it has this first fault
-- and describes no program.
abbrev pub Answers : List ℕ → Result Code AsmError → Type 0
Answers text (Ok code) = StandsFor text code
Answers text (Err (Refused fault line)) =
    IsFirstFault text fault line × ((code : Code) → StandsFor text code → ⊥)
Answers text (Err OutOfMemory) = Unit {0}
