-- A run of a program as a callback.
use Rattle.std.specs.Prelude.{◌≡◌, ℕ, List, Any}
use Rattle.scx_isa_semantics.specs.declared.callbacks.Callback.{Callback}
use Rattle.scx_isa_semantics.specs.Elements.{Maps}
use Rattle.scx_isa_semantics.specs.Runs.{Runs}
use Rattle.scx_vm.specs.declared.arguments.Args.{Args}
use Rattle.scx_vm.specs.Arguments.{program_arguments}
use Rattle.scx_vm.specs.Programs.{VerifiedProgram}
use Rattle.scx_vm.specs.Host.{host}
use Rattle.scx_sched_world.specs.World.{WorldState}
use Rattle.scx_sched_world.specs.Helpers.{world_functions}
use Rattle.scx_sched_machine.specs.Steps.{CallMade}

-- the call of a program as the callback that it was verified for
abbrev pub call_as : VerifiedProgram → Args → Maps → WorldState → CallMade
call_as p a maps w = record {
  callback = p.context.callback;
  program = p;
  arguments = a;
  maps = maps;
  world = w;
}

-- the call is of that callback, for which its program was verified, and comes to an answer in so
-- many steps
pub record IsRunOf (c : CallMade) (b : Callback) (n : ℕ) : Type 0 where
  pub callback : c.callback ≡ b
  pub verified : c.program.context.callback ≡ b
  pub answer : ℕ
  pub maps : Maps
  pub world : WorldState
  pub run : Runs (host world_functions) c.callback c.program.code (program_arguments c.arguments)
      c.maps c.world answer n maps world

-- one of these calls is of that callback, and comes to an answer in n steps
abbrev pub IsRunAmong : List CallMade → Callback → ℕ → Type 0
IsRunAmong cs b n = Any (λ (c : CallMade). IsRunOf c b n) cs
