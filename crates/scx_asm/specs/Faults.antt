-- The numbers and names of the faults of texts, as a refusal prints them. They are this
-- project's own.
use Rattle.std.specs.Prelude.{ℕ, List, codes}
use Rattle.scx_asm.specs.declared.faults.AsmFault.{AsmFault}
use Rattle.scx_asm.specs.declared.faults.AsmFault.TheVariants.{Syntax, UnknownLabel, TwiceLabel, OutOfRange, TooLong}

-- the number by which a refusal names a fault of a text
abbrev pub asm_number : AsmFault → ℕ
asm_number Syntax = 1
asm_number UnknownLabel = 2
asm_number TwiceLabel = 3
asm_number OutOfRange = 4
asm_number TooLong = 5

-- the name of a fault of a text in a refusal
abbrev pub asm_name : AsmFault → List ℕ
asm_name Syntax = codes "Syntax"
asm_name UnknownLabel = codes "UnknownLabel"
asm_name TwiceLabel = codes "TwiceLabel"
asm_name OutOfRange = codes "OutOfRange"
asm_name TooLong = codes "TooLong"
