-- The headline: for every policy whose callbacks `verify` accepts and every list of events, the
-- recorded run is the machine's; in it no callback is ever stuck or takes more steps than it has
-- instructions, every runnable task appears exactly once on a processor or in a queue, and while
-- the policy is in force no task has waited longer than its limit. In no period does a group with a
-- quota use as much as its quota and one millisecond for each processor.
use Rattle.std.specs.Prelude.{◌≡◌, ℕ, ℤ, ⊤, ◌+◌, ◌<◌, ◌≤◌, List, [], ◌∷◌, ◌++◌, length, None, Some, is_some, Result, Ok, Err}
use Rattle.std.specs.List.{AllByRecursion}
use Rattle.scx_dsq.specs.Laws.{one_if}
use Rattle.scx_weights.specs.Hierarchy.{Hierarchy, quota_at}
use Rattle.scx_weights.specs.Limits.{usage_of}
use Rattle.scx_sched_world.specs.declared.notes.Note.{Note}
use Rattle.scx_sched_world.specs.World.{task_at, is_runnable, waits, wait}
use Rattle.scx_sched_machine.specs.declared.events.Event.{Event}
use Rattle.scx_sched_machine.specs.Notes.{Takes}
use Rattle.scx_sched_policy.specs.Policy.{PolicyState}
use Rattle.scx_sched_machine.specs.Steps.{State, CallMade}
use Rattle.scx_sched_machine.specs.Callbacks.{AreAnswered}
use Rattle.scx_sched_machine.specs.Start.{first_state, start_calls}
use Rattle.scx_sched.specs.Sim.{SimState, refusal, after_event, calls_of}
use Rattle.scx_sched.specs.Decided.{Follows}
use Rattle.scx_sched.specs.Once.{appearances}
use Rattle.scx_load_driver.specs.Runs.{notes_of_all}

-- ---- the machine's run

-- what becomes of a machine: its states, as it begins and after each event, the notes of all
-- events, and the callbacks that are called, those as it begins in front
pub record Run : Type 0 where
  pub states : List SimState
  pub notes : List Note
  pub calls : List CallMade

-- the state in which the events begin, and the one after each of them
abbrev pub states_from : SimState → List Event → List SimState
states_from s [] = s ∷ []
states_from s (e ∷ es) = s ∷ states_from (after_event s e) es

-- the callbacks that are called in these events, one after another
abbrev pub calls_of_all : SimState → List Event → List CallMade
calls_of_all s [] = []
calls_of_all s (e ∷ es) = calls_of s e ++ calls_of_all (after_event s e) es

-- after the callbacks that were called before
abbrev pub run_from : List CallMade → SimState → List Event → Run
run_from before s events = record {
  states = states_from s events;
  notes = notes_of_all s events;
  calls = before ++ calls_of_all s events;
}

-- a machine that can't begin has no states
abbrev pub run_if : Result State ℤ → List CallMade → List Event → Run
run_if (Err answer) before events = record { states = []; notes = []; calls = before }
run_if (Ok s) before events = run_from before (record { state = s; events = 0 }) events

-- the run of a policy's machine through a list of events; one that is refused changes nothing
abbrev pub machine_run : PolicyState → Hierarchy → ℕ → List Event → Run
machine_run p tree cpus events = run_if (first_state p tree cpus) (start_calls p tree cpus) events

-- ---- the sentence

-- the state is the last one of these
abbrev pub IsLast : SimState → List SimState → Type 0
IsLast s states = (earlier : List SimState) × (states ≡ earlier ++ s ∷ [])

-- the recorded run is the machine's: what is handed back is its last state, and the sink took its
-- notes, in order, and no others
pub record IsRecorded {S : Type 0} (takes : S → Note → S → Type 0) (run : Run) (a : S)
    (s : SimState) (b : S) : Type 0 where
  pub state : IsLast s run.states
  pub notes : Takes takes a run.notes b

-- no callback is ever stuck or takes more steps than it has instructions
abbrev pub NoneIsStuck : Run → Type 0
NoneIsStuck run = AreAnswered run.calls

-- every runnable task appears exactly once on a processor or in a queue, and no other task anywhere
abbrev pub EachIsOnce : Run → Type 0
EachIsOnce run =
    AllByRecursion
    (λ s. (t : ℕ) → appearances s.state.world t ≡ one_if (is_runnable s.state.world t)) run.states

-- a wait is counted, from when the task woke or was stopped, exactly as long as the
-- task is in a queue
abbrev pub EachWaitIsCounted : Run → Type 0
EachWaitIsCounted run =
    AllByRecursion
    (λ s. (t : ℕ) → is_some (task_at s.state.world t).since ≡ waits s.state.world t) run.states

-- while the policy is in force no task has waited longer than the limit, in milliseconds
abbrev pub NoneIsLate : ℕ → Run → Type 0
NoneIsLate limit run =
    AllByRecursion
    (λ s. s.state.world.ejected ≡ None → (t : ℕ) → wait s.state.world t ≤ limit) run.states

-- in its period each group with a quota has used less than that and one millisecond
-- for each processor
abbrev pub EachUsageIsBounded : Run → Type 0
EachUsageIsBounded run =
    AllByRecursion
    (λ s. (g quota : ℕ)
    → quota_at s.state.world.tree.groups g ≡ Some quota
    → usage_of s.state.world.tree g < quota + length s.state.world.cpus) run.states

-- of the states, one more than events, each follows from the one before and its event
abbrev pub EachFollows : List Event → List SimState → Type 0
EachFollows [] (s ∷ []) = ⊤
EachFollows (e ∷ es) (s ∷ t ∷ ss) = Follows (refusal s e) s e t × EachFollows es (t ∷ ss)
EachFollows es ss = ⊥
