-- The numbers and names of the checks that may fail at an instruction, as a refusal prints them.
-- They are this project's own, and go on from those of a program's flow.
use Rattle.std.specs.Prelude.{ℕ, List, codes}
use Rattle.scx_abs.specs.declared.faults.Why.{Why}
use Rattle.scx_abs.specs.declared.faults.Why.TheVariants.{UnusableRegister, WritesFrame, UnwrittenStack, OutOfBounds, Misaligned, NullNotTested, PointerArithmetic, PointerCompare, PointerStore, TaskField, UnknownHelper, HelperNotHere, BadArgument, BadReturn, UnknownMap}

-- the number of a failed check in a refusal, 5 to 19
abbrev pub why_number : Why → ℕ
why_number UnusableRegister = 5
why_number WritesFrame = 6
why_number UnwrittenStack = 7
why_number OutOfBounds = 8
why_number Misaligned = 9
why_number NullNotTested = 10
why_number PointerArithmetic = 11
why_number PointerCompare = 12
why_number PointerStore = 13
why_number TaskField = 14
why_number UnknownHelper = 15
why_number HelperNotHere = 16
why_number BadArgument = 17
why_number BadReturn = 18
why_number UnknownMap = 19

-- the name of a failed check in a refusal, that of its variant
abbrev pub why_name : Why → List ℕ
why_name UnusableRegister = codes "UnusableRegister"
why_name WritesFrame = codes "WritesFrame"
why_name UnwrittenStack = codes "UnwrittenStack"
why_name OutOfBounds = codes "OutOfBounds"
why_name Misaligned = codes "Misaligned"
why_name NullNotTested = codes "NullNotTested"
why_name PointerArithmetic = codes "PointerArithmetic"
why_name PointerCompare = codes "PointerCompare"
why_name PointerStore = codes "PointerStore"
why_name TaskField = codes "TaskField"
why_name UnknownHelper = codes "UnknownHelper"
why_name HelperNotHere = codes "HelperNotHere"
why_name BadArgument = codes "BadArgument"
why_name BadReturn = codes "BadReturn"
why_name UnknownMap = codes "UnknownMap"
