-- The last callback before a policy is ejected, and the instruction at which it ends.
use Rattle.std.specs.Prelude.{◌≡◌, ℕ, true, List, [], ◌∷◌, ◌++◌, Option, Some, is_some}
use Rattle.scx_vm.specs.Arguments.{program_arguments}
use Rattle.scx_vm.specs.Host.{host}
use Rattle.scx_vm_tagged.specs.Watched.{EndsAt}
use Rattle.scx_sched_world.specs.World.{WorldState}
use Rattle.scx_sched_world.specs.Helpers.{world_functions}
use Rattle.scx_sched_machine.specs.declared.events.Event.{Event}
use Rattle.scx_sched_machine.specs.Steps.{CallMade}
use Rattle.scx_sched.specs.Causes.{IsLast}
use Rattle.scx_sched.specs.Sim.{SimState}
use Rattle.scx_load_driver.specs.Runs.{stepped_all}
use Rattle.scx_load_driver.specs.Headline.{calls_of_all}
use Rattle.scxsim_account.specs.declared.call_end.CallEnd.{CallEnd}

-- the callback's program ends at the instruction of that slot
pub record IsEndOf (m : CallMade) (end : CallEnd) : Type 0 where
  pub callback : end.callback ≡ m.callback
  pub answer : ℕ
  pub world : WorldState
  pub ends : EndsAt (host world_functions) m.callback m.program.code (program_arguments m.arguments)
      m.maps m.world answer world end.slot

-- the last of these callbacks ends so
pub record IsEndOfLast (calls : List CallMade) (end : CallEnd) : Type 0 where
  pub call : CallMade
  pub last : IsLast call calls
  pub ends : IsEndOf call end

-- the last callback ends so, after these calls; where there are none, the end is the one before
abbrev pub IsEndAfter : Option CallEnd → List CallMade → CallEnd → Type 0
IsEndAfter before [] end = before ≡ Some end
IsEndAfter before (c ∷ cs) end = IsEndOfLast (c ∷ cs) end

-- of all callbacks up to the policy's ejection in these events, the last one ends so
pub record IsLastBeforeEjection (s : SimState) (events : List Event) (end : CallEnd) : Type 0 where
  pub done : List Event
  pub rest : List Event
  pub whole : events ≡ done ++ rest
  pub ejected : is_some (stepped_all s done).state.world.ejected ≡ true
  pub last : IsEndOfLast (calls_of_all s done) end
