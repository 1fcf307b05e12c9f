-- The state of the machine, and what a step of it leaves, notes and calls.
use Rattle.std.specs.Prelude.{ℕ, List, [], ◌++◌, Bool, ◌&&◌, if◌then◌else◌, is_some}
use Rattle.scx_isa_semantics.specs.declared.callbacks.Callback.{Callback}
use Rattle.scx_isa_semantics.specs.Elements.{Maps}
use Rattle.scx_vm.specs.Programs.{VerifiedProgram}
use Rattle.scx_vm.specs.declared.arguments.Args.{Args}
use Rattle.scx_sched_world.specs.declared.notes.Note.{Note}
use Rattle.scx_sched_world.specs.World as world
use Rattle.scx_sched_world.specs.World.{WorldState, with_kick, is_idle}
use Rattle.scx_sched_policy.specs.Policy.{PolicyState}

-- a machine at one time: its policy, what its maps hold, and its world
pub record State : Type 0 where
  pub policy : PolicyState
  pub maps : Maps
  pub world : WorldState

-- a callback that is called: which one, its program, what it is given, and the maps and
-- the world as it begins
pub record CallMade : Type 0 where
  pub callback : Callback
  pub program : VerifiedProgram
  pub arguments : Args
  pub maps : Maps
  pub world : WorldState

-- what a step comes to: the state that it leaves, its notes, and the callbacks that it calls
pub record Stepped : Type 0 where
  pub state : State
  pub notes : List Note
  pub calls : List CallMade

-- the same policy and maps, with that world
abbrev pub with_world : State → WorldState → State
with_world s w = record s { world = w }

-- the policy was put out of force
abbrev pub is_ejected : State → Bool
is_ejected s = is_some s.world.ejected

-- the machine goes by Linux rules
abbrev pub is_by_linux : State → Bool
is_by_linux s = world.is_by_linux s.world

-- the processor looks for work as the event ends
abbrev pub kicked : State → ℕ → State
kicked s c = with_world s (with_kick s.world c)

-- under Linux rules, if it is idle
abbrev pub kicked_if_idle : State → ℕ → State
kicked_if_idle s c = if is_by_linux s && is_idle s.world c then kicked s c else s

-- the step that changes nothing, notes nothing and calls no callback
abbrev pub stays : State → Stepped
stays s = record { state = s; notes = []; calls = [] }

-- a step with notes in front
abbrev pub after : List Note → Stepped → Stepped
after ns r = record r { notes = ns ++ r.notes }

-- one step after another, the second one from where the first one leads
abbrev pub one_after_other : Stepped → Stepped → Stepped
one_after_other a r =
    record { state = r.state; notes = a.notes ++ r.notes; calls = a.calls ++ r.calls }
