-- Outcomes of commands: refusals.
use Rattle.std.specs.Prelude.{Bool, Result, Ok, Err, ⊤}
use Rattle.scxsim_commands.specs.declared.refusal.Fault.{Fault}
use Rattle.scxsim_commands.specs.declared.refusal.Fault.TheVariants.{Refused, WriteFailed}
use Rattle.scxsim_commands.specs.declared.refusal.Refusal.{Refusal}

-- a fact of the cause, where the input was refused
abbrev pub IfRefused : Result Bool Fault → (Refusal → Type 0) → Type 0
IfRefused (Ok done) P = ⊤
IfRefused (Err (Refused refusal)) P = P refusal
IfRefused (Err WriteFailed) P = ⊤

-- the input was refused
abbrev pub IsRefused : Result Bool Fault → Type 0
IsRefused (Ok done) = ⊥
IsRefused (Err (Refused refusal)) = ⊤
IsRefused (Err WriteFailed) = ⊥
