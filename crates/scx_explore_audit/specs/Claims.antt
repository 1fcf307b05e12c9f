-- The lists of events of a claim, and the findings that none of them shows.
use Rattle.std.specs.Prelude.{◌≡◌, ℕ, zero, suc, ◌<◌, Bool, ⊤, List, [], ◌∷◌, ◌++◌, length, All, None, Some, is_none, if◌then◌else◌}
use Rattle.scx_sched_machine.specs.declared.events.Event.{Event}
use Rattle.scx_sched_machine.specs.declared.events.Event.TheVariants.{Wake, Sleep, Tick, Clock, SetWeight, SetTaskWeight}
use Rattle.scx_sched.specs.Sim.{SimState, refusal, after_event}
use Rattle.scx_explore_findings.specs.Findings.{fault_in, stall_in, exit_in, IsIdleBehind}
use Rattle.scx_explore_findings.specs.declared.finding.Sort.{Sort}
use Rattle.scx_explore_findings.specs.declared.finding.Sort.TheVariants as sort
use Rattle.scx_explore_audit.specs.declared.table.Moves.{Moves}
use Rattle.scx_explore_audit.specs.declared.table.Moves.TheVariants.{Events, Milliseconds}

-- ---- lists

-- an event of a machine's tasks, of its processors, or of the clock; no change of a weight
abbrev pub IsTried : SimState → Event → Type 0
IsTried r (Wake t) = t < length r.state.world.tasks
IsTried r (Sleep t) = t < length r.state.world.tasks
IsTried r (Tick c) = c < length r.state.world.cpus
IsTried r Clock = ⊤
IsTried r (SetWeight g w) = ⊥
IsTried r (SetTaskWeight t w) = ⊥

-- a set of tasks, which says of each whether it is in the set
abbrev pub TaskSet : Type 0
TaskSet = ℕ → Bool

-- for each of n tasks from that one on that is of the set, its event, by number
abbrev pub of_tasks : (ℕ → Event) → TaskSet → ℕ → ℕ → List Event
of_tasks event set t zero = []
of_tasks event set t (suc n) =
    (if set t then event t ∷ [] else []) ++ of_tasks event set (suc t) n

-- a tick of each of n CPUs from that one on, by number
abbrev pub ticks : ℕ → ℕ → List Event
ticks c zero = []
ticks c (suc n) = Tick c ∷ ticks (suc c) n

-- a millisecond of these tasks and CPUs: the tasks of the one set wake, each CPU ticks,
-- those of the other set go to sleep, and the clock grows
abbrev pub millisecond : ℕ → ℕ → TaskSet → TaskSet → List Event
millisecond tasks cpus wakes sleeps =
    of_tasks (λ t. Wake t) wakes 0 tasks
    ++ (ticks 0 cpus ++ (of_tasks (λ t. Sleep t) sleeps 0 tasks ++ Clock ∷ []))

-- the events are a millisecond, with any two sets of tasks
pub record IsMillisecond (tasks cpus : ℕ) (es : List Event) : Type 0 where
  pub wakes : TaskSet
  pub sleeps : TaskSet
  pub list : es ≡ millisecond tasks cpus wakes sleeps

-- of what lists are made: of single events, or of whole milliseconds
abbrev pub IsMove : Moves → SimState → List Event → Type 0
IsMove Events r es = (e : Event) × IsTried r e × (es ≡ e ∷ [])
IsMove Milliseconds r es =
    IsMillisecond (length r.state.world.tasks) (length r.state.world.cpus) es

-- the list of these moves, one after another
abbrev pub list_of : List (List Event) → List Event
list_of [] = []
list_of (es ∷ moves) = es ++ list_of moves

-- ---- what is shown

-- the event, which has led to that state, shows nothing of the sort: no ejection for that fault,
-- none because a task waited too long, none by a callback that ended the policy, and no processor
-- that its tick leaves idle while a task waits; of tasks that are overtaken nothing is said
abbrev pub IsFree : Sort → SimState → Event → Type 0
IsFree (sort.Fault f) s e = fault_in s.state.world.ejected ≡ Some f → ⊥
IsFree sort.Stall s e = stall_in s.state.world.ejected ≡ None
IsFree sort.Idle s e = s.state.world.ejected ≡ None → IsIdleBehind s e None
IsFree sort.Overtaken s e = ⊥
IsFree sort.Exit s e = exit_in s.state.world.ejected ≡ None

-- the same of some sorts
abbrev pub AreFree : List Sort → SimState → Event → Type 0
AreFree sorts s e = All (λ x. IsFree x s e) sorts

-- as far as the events of the list are accepted and the policy stays in force, none of them shows
-- anything of these sorts; after an event that is refused nothing is said
abbrev pub ShowsNoneAtFirst : List Sort → SimState → List Event → Type 0
ShowsNoneAtFirst sorts s [] = ⊤
ShowsNoneAtFirst sorts s (e ∷ es) =
    refusal s e ≡ None
    → AreFree sorts (after_event s e) e
    × ((after_event s e).state.world.ejected ≡ None → ShowsNoneAtFirst sorts (after_event s e) es)

-- as long as the policy stays in force, no event of the list shows anything of these sorts; one
-- that is refused shows nothing and changes nothing, and the list goes on
abbrev pub ShowsNone : List Sort → SimState → List Event → Type 0
ShowsNone sorts s [] = ⊤
ShowsNone sorts s (e ∷ es) =
    (refusal s e ≡ None → AreFree sorts (after_event s e) e)
    × ((after_event s e).state.world.ejected ≡ None → ShowsNone sorts (after_event s e) es)

-- the events of the list that are accepted
abbrev pub accepted_of : SimState → List Event → List Event
accepted_of s [] = []
accepted_of s (e ∷ es) =
    (if is_none (refusal s e) then e ∷ [] else []) ++ accepted_of (after_event s e) es
