-- A list of events and the machines along it.
use Rattle.std.specs.Prelude.{◌≡◌, ℕ, ⊤, ◌≤◌, List, [], ◌∷◌, ◌++◌, length, take, if◌then◌else◌, Some, None, is_none}
use Rattle.scx_sched_world.specs.World.{IsLike}
use Rattle.scx_sched_machine.specs.declared.events.Event.{Event}
use Rattle.scx_sched_machine.specs.declared.events.Refused.{Refused}
use Rattle.scx_sched.specs.Sim.{SimState, refusal, after_event}
use Rattle.scx_load_driver.specs.Runs.{stepped_all}

-- where a list begins, the list, and how many events one may have
pub record PathState : Type 0 where
  pub root : SimState
  pub events : List Event
  pub room : ℕ

-- the machine after the list
abbrev pub machine_of : PathState → SimState
machine_of p = stepped_all p.root p.events

-- the list is cut to its first n events
abbrev pub went_back : PathState → ℕ → PathState
went_back p n = record p { events = take n p.events }

-- the event is appended to the list, if the machine after the list accepts it
abbrev pub went_on : PathState → Event → PathState
went_on p e =
    if is_none (refusal (machine_of p) e) then record p { events = p.events ++ e ∷ [] } else p

-- the second machine has the policy of the first one, its queues, and as many tasks, processors
-- and groups
pub record IsAs (s t : SimState) : Type 0 where
  pub policy : s.state.policy ≡ t.state.policy
  pub world : IsLike s.state.world t.state.world

-- the list so far is a beginning of the other one, and the event after it is refused
pub record IsRefusedBehind (p : PathState) (events : List Event) (r : Refused) : Type 0 where
  pub event : Event
  pub rest : List Event
  pub list : events ≡ p.events ++ event ∷ rest
  pub refused : refusal (machine_of p) event ≡ Some r

-- both lists have at least n events, and these are the same
pub record SharesBeginning (n : ℕ) (xs ys : List Event) : Type 0 where
  pub first : n ≤ length xs
  pub second : n ≤ length ys
  pub same : take n xs ≡ take n ys

-- from a machine on, each event is accepted, and the machines are those after each of them; there
-- may be more machines after these
abbrev pub IsAlong : SimState → List Event → List SimState → Type 0
IsAlong s [] sims = ⊤
IsAlong s (e ∷ es) [] = ⊥
IsAlong s (e ∷ es) (t ∷ ts) = (refusal s e ≡ None) × (t ≡ after_event s e) × IsAlong t es ts

-- the last of the machines, or that one where there is none
abbrev pub last_of : SimState → List SimState → SimState
last_of s [] = s
last_of s (t ∷ ts) = last_of t ts
