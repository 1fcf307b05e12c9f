-- A text describes a program, whatever reads it, if each of its lines is of the
-- language, no label is defined twice, each instruction is the one that its line says, and a jump
-- to a label has the label's slot as its target.
use Rattle.std.specs.Prelude.{◌≡◌, ℕ, ◌+◌, ◌<◌, ◌≤◌, ℤ, List, [], ◌∷◌, ◌++◌, map, length, Some}
use Rattle.std.specs.List.{Contains, IsDistinct}
use Rattle.std.specs.Str.{bytes_eq}
use Rattle.std.specs.Str.Lines.{lines}
use Rattle.scx_isa_semantics.specs.declared.instructions.Insn.{Insn}
use Rattle.scx_isa_semantics.specs.Code.{Code}
use Rattle.scx_isa_semantics.specs.Steps.{target}
use Rattle.scx_isa.specs.declared.program.TheConstants.{MAX_SLOTS}
use Rattle.scx_asm_text.specs.declared.items.Jump.{Jump}
use Rattle.scx_asm_text.specs.Items.{Label, Distance, ItemValue, Blank, DefinesLabel, Says, Jumps, read_line}
use Rattle.scx_asm.specs.Resolving.{insn_of, jump_of, distant, slots, Labels}
use Rattle.scx_asm.specs.Reading.{code_of}

-- the label that a line defines at a slot
abbrev pub label_at : ℕ → ItemValue → Labels
label_at s (DefinesLabel l) = (l, s) ∷ []
label_at s l = []

-- the labels that lines define, each with the slot that it names, where the lines begin at a slot
abbrev pub definitions : ℕ → List ItemValue → Labels
definitions s [] = []
definitions s (l ∷ ls) = label_at s l ++ definitions (s + slots l) ls

-- the labels alone, without their slots
abbrev pub names : Labels → List (List ℕ)
names labels = map (λ e. e.0) labels

-- the instruction is that jump, of some distance
abbrev pub IsJump : Jump → Insn → Type 0
IsJump j i = (z : ℤ) × (jump_of j z ≡ Some i)

-- the instruction is the one that the line says at a slot; one that goes to a label has the
-- label's slot as its target
abbrev pub IsSaid : Labels → ℕ → ItemValue → Insn → Type 0
IsSaid labels s (Says x) i = insn_of x ≡ Some i
IsSaid labels s (Jumps j (Distance n)) i = distant j n ≡ Some i
IsSaid labels s (Jumps j (Label l)) i =
    (t : ℕ) × Contains labels (l, t) × (target s i ≡ Some t) × IsJump j i
IsSaid labels s l i = ⊥

-- the lines from a slot on say the instructions in order, and nothing else
abbrev pub AreSaid : Labels → ℕ → List ItemValue → List Insn → Type 0
AreSaid labels s [] [] = Unit {0}
AreSaid labels s [] (i ∷ insns) = ⊥
AreSaid labels s (Blank ∷ ls) insns = AreSaid labels s ls insns
AreSaid labels s (DefinesLabel l ∷ ls) insns = AreSaid labels s ls insns
AreSaid labels s (l ∷ ls) [] = ⊥
AreSaid labels s (l ∷ ls) (i ∷ insns) =
    IsSaid labels s l i × AreSaid labels (s + slots l) ls insns

-- the text describes the program
pub record StandsFor (text : List ℕ) (code : Code) : Type 0 where
  pub says : List ItemValue
  pub insns : List Insn
  pub read : map read_line (lines text) ≡ map Some says
  pub once : IsDistinct bytes_eq (names (definitions 0 says))
  pub said : AreSaid (definitions 0 says) 0 says insns
  pub program : code ≡ code_of insns
  pub some : 0 < length code
  pub fits : length code ≤ MAX_SLOTS
