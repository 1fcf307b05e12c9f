-- The laws of encoding and of faults, which are the contracts of public functions with empty
-- bodies: an encoded program is read back, it has one encoding, and no bytes encode two programs.
-- Bytes have at most one first fault, and bytes that have one encode no program.
use Rattle.std.specs.Prelude.{ℕ, ◌≡◌, List, Ok}
use Rattle.scx_isa_encoding.specs.declared.faults.DecodeFault.{DecodeFault}
use Rattle.scx_isa_semantics.specs.Code.{Code}
use Rattle.scx_isa.specs.Spelling.{spelling, IsProgram, Spells}
use Rattle.scx_isa.specs.Reading.{read_program}
use Rattle.scx_isa.specs.FirstFault.{IsFirstFault}

-- the spelling of a program is read as that program
abbrev pub ReadsBack : Type 0
ReadsBack = (code : Code) → IsProgram code → read_program (spelling code) ≡ Ok code

-- two different byte lists never spell one program
abbrev pub OneSpelling : Type 0
OneSpelling =
    (bytes others : List ℕ) (code : Code) → Spells bytes code → Spells others code → bytes ≡ others

-- no bytes spell two programs
abbrev pub OneProgram : Type 0
OneProgram =
    (bytes : List ℕ) (code other : Code) → Spells bytes code → Spells bytes other → code ≡ other

-- no bytes have two first faults, nor one at two slots
abbrev pub OneFirstFault : Type 0
OneFirstFault =
    (bytes : List ℕ) (fault other : DecodeFault) (slot place : ℕ)
    → IsFirstFault bytes fault slot → IsFirstFault bytes other place
    → (fault ≡ other) × (slot ≡ place)

-- bytes with a first fault spell no program
abbrev pub FaultyBytesSpellNothing : Type 0
FaultyBytesSpellNothing =
    (bytes : List ℕ) (fault : DecodeFault) (slot : ℕ) (code : Code)
    → IsFirstFault bytes fault slot → ¬ Spells bytes code
