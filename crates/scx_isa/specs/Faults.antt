-- The numbers and names of the faults of a program's flow, as a refusal prints them. They are this
-- project's own.
use Rattle.std.specs.Prelude.{ℕ, List, codes}
use Rattle.scx_isa.specs.declared.faults.FlowFault.{FlowFault}
use Rattle.scx_isa.specs.declared.faults.FlowFault.TheVariants.{BackJump, OutOfProgram, IntoWide, FallsOff}

-- the number by which a refusal names a fault of the flow
abbrev pub flow_number : FlowFault → ℕ
flow_number BackJump = 1
flow_number OutOfProgram = 2
flow_number IntoWide = 3
flow_number FallsOff = 4

-- the name of a fault of the flow in a refusal
abbrev pub flow_name : FlowFault → List ℕ
flow_name BackJump = codes "BackJump"
flow_name OutOfProgram = codes "OutOfProgram"
flow_name IntoWide = codes "IntoWide"
flow_name FallsOff = codes "FallsOff"
