-- An exit of a callback is a call of `exit` in its run, before which it had no fault and called no
-- `exit`.
use Rattle.std.specs.Prelude.{◌≡◌, ℕ, ℤ, List, map, None}
use Rattle.std.specs.Int.{w64, cast_signed}
use Rattle.scx_isa_semantics.specs.declared.host_tables.Helper.{Helper}
use Rattle.scx_isa_semantics.specs.declared.host_tables.Helper.TheVariants.{Exit}
use Rattle.scx_isa_semantics.specs.declared.values.Value.{Value}
use Rattle.scx_isa_semantics.specs.Effects.{Call}
use Rattle.scx_isa_semantics.specs.Machine.{Machine, start}
use Rattle.scx_isa_semantics.specs.Runs.{Leads}
use Rattle.scx_isa_semantics.specs.Steps.{Asks, step}
use Rattle.scx_vm.specs.Arguments.{argument_of, program_arguments}
use Rattle.scx_vm.specs.Host.{host}
use Rattle.scx_sched_world.specs.World.{WorldState}
use Rattle.scx_sched_world.specs.Helpers.{given_number, world_functions}
use Rattle.scx_sched_machine.specs.Steps.{CallMade}
use Rattle.scx_sched.specs.Causes.{EndsIn, HasExit}

-- in its run, a callback calls that helper with these values, in that world
pub record Calls (m : CallMade) (h : Helper) (values : List Value) (w : WorldState) : Type 0 where
  pub steps : ℕ
  pub slot : ℕ
  pub state : Machine
  pub leads : Leads (host world_functions) m.callback m.program.code steps 0
      (start (program_arguments m.arguments) m.maps) m.world slot state w
  pub next : ℕ
  pub go : Value → Machine
  pub asks : step m.callback m.program.code slot state ≡ Asks (Call h values) next go

-- it calls `exit` with that code, and had no fault and no other exit before
pub record CallsExit (m : CallMade) (code : ℤ) : Type 0 where
  pub values : List Value
  pub world : WorldState
  pub call : Calls m Exit values world
  pub first : world.call.cause ≡ None
  pub says : cast_signed w64 (given_number (map argument_of values) 0) ≡ code

-- each exit of a callback is such a call
abbrev pub ExitsAreCalls : Type 0
ExitsAreCalls =
    (m : CallMade) (code : ℤ) → m.world.call.cause ≡ None → HasExit m code → CallsExit m code

-- and each such call of a callback that comes to an answer is its exit
abbrev pub CallsAreExits : Type 0
CallsAreExits =
    (m : CallMade) (code : ℤ) (answer : ℕ) (w : WorldState)
    → EndsIn m answer w → CallsExit m code → HasExit m code
