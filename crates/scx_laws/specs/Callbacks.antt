-- What a callback of the policy may leave, by the run of its program: the world answers what the
-- program asks, and changes by it.
use Rattle.std.specs.Prelude.{◌≡◌, ℕ, ◌≤◌, Option, Some, None}
use Rattle.scx_isa_semantics.specs.declared.callbacks.Callback.{Callback}
use Rattle.scx_isa_semantics.specs.Code.{instruction_count}
use Rattle.scx_isa_semantics.specs.Elements.{Maps}
use Rattle.scx_isa_semantics.specs.Endings.{Ending}
use Rattle.scx_isa_semantics.specs.Runs.{Outside, Runs, GetsStuck}
use Rattle.scx_vm.specs.Programs.{VerifiedProgram}
use Rattle.scx_vm.specs.declared.arguments.Args.{Args}
use Rattle.scx_vm.specs.Arguments.{program_arguments}
use Rattle.scx_vm.specs.Host.{host}
use Rattle.scx_sched_world.specs.World.{WorldState, at_callback}
use Rattle.scx_sched_world.specs.Helpers.{world_functions}
use Rattle.scx_sched_world.specs.declared.eject.Cause.{Cause}
use Rattle.scx_sched_machine.specs.Steps.{State, Stepped, one_after_other}
use Rattle.scx_sched_machine.specs.Callbacks.{acting, calls_of, after_callback}
use Rattle.scx_laws.specs.Ejections.{CauseOf, Judges}

-- the world as that which answers a program
abbrev pub answering : Outside WorldState
answering = host world_functions

-- how a callback ends that begins in that world; one that the policy hasn't answers 0
pub data EndsAs (program : Option VerifiedProgram) (b : Callback) (a : Args) (maps : Maps)
    (w : WorldState) (e : Ending WorldState) : Type 0 where
  Absent : program ≡ None → e ≡ record { answer = Some 0; maps = maps; outside = w }
      → EndsAs program b a maps w e
  Exits : (p : VerifiedProgram) (answer steps : ℕ) (left : Maps) (v : WorldState)
      → program ≡ Some p → steps ≤ instruction_count p.code
      → Runs answering b p.code (program_arguments a) maps w answer steps left v
      → e ≡ record { answer = Some answer; maps = left; outside = v }
      → EndsAs program b a maps w e
  Sticks : (p : VerifiedProgram) (slot steps : ℕ) (left : Maps) (v : WorldState)
      → program ≡ Some p → steps ≤ instruction_count p.code
      → GetsStuck answering b p.code (program_arguments a) maps w slot steps left v
      → e ≡ record { answer = None; maps = left; outside = v }
      → EndsAs program b a maps w e

-- what the machine goes on from; what the world noted is handed on
abbrev pub leaving : State → Callback → Args → WorldState → Ending WorldState → Stepped
leaving s b a w e = record {
  state = after_callback s.policy e;
  notes = e.outside.notes;
  calls = calls_of (acting s b) b a s.maps w;
}

-- with that task and processor at hand, it answers so, if it comes to an answer, and ejects the
-- policy where it has a cause; none is called once the policy is ejected
pub record CallsBack (s : State) (b : Callback) (a : Args) (t c : ℕ) (answer : Option ℕ)
    (r : Stepped) : Type 0 where
  pub ending : Ending WorldState
  pub ends : EndsAs (acting s b) b a s.maps (at_callback s.world b t c) ending
  pub answers : answer ≡ ending.answer
  pub cause : Option Cause
  pub why : CauseOf b ending cause
  pub ejected : Stepped
  pub judged : Judges (after_callback s.policy ending) cause ejected
  pub all : r ≡ one_after_other (leaving s b a (at_callback s.world b t c) ending) ejected
