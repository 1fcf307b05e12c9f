-- Runs: a machine of a policy, and what a list of events makes of it.
use Rattle.std.specs.Prelude.{◌≡◌, ℕ, false, List, [], ◌∷◌, length}
use Rattle.scx_weights.specs.Hierarchy.{Hierarchy}
use Rattle.scx_sched_machine.specs.declared.events.Event.{Event}
use Rattle.scx_sched_policy.specs.Policy.{PolicyState}
use Rattle.scx_sched_machine.specs.Start.{is_bad_shape}
use Rattle.scx_sched.specs.Sim.{SimState, after_event, IsFirstState}

-- a machine of that policy before any event, over these groups and tasks and with that number of
-- processors
pub record IsBegun (p : PolicyState) (tree : Hierarchy) (cpus : ℕ) (s : SimState) : Type 0 where
  pub shape : is_bad_shape tree cpus ≡ false
  pub flags : length tree.active ≡ length tree.homes
  pub first : IsFirstState p tree cpus s

-- the state after these events, of which a refused one changes nothing
abbrev pub after_events : SimState → List Event → SimState
after_events s [] = s
after_events s (e ∷ es) = after_events (after_event s e) es
