-- Machines in which tasks that sleep or are held have no slice: an insert gives them one before
-- anything reads it, if no program loads the slice of one and each insert gives one.
use Rattle.std.specs.Prelude.{◌≡◌, ◌⊎◌, ℕ, suc, ◌==◌, ◌&&◌, ◌||◌, not, Bool, true, false, List, [], ◌∷◌, if◌then◌else◌, Option, Some, None}
use Rattle.scx_dsq.specs.declared.entries.Entry.{Entry}
use Rattle.scx_dsq.specs.Queues.{entry_of}
use Rattle.scx_isa_semantics.specs.declared.callbacks.Callback.{Callback}
use Rattle.scx_isa_semantics.specs.declared.host_tables.Field.{Field}
use Rattle.scx_isa_semantics.specs.declared.host_tables.Field.TheVariants.{Slice}
use Rattle.scx_isa_semantics.specs.Code.{Code}
use Rattle.scx_isa_semantics.specs.Effects.{Query, Call, Load}
use Rattle.scx_isa_semantics.specs.HostTables.{answers_task}
use Rattle.scx_vm.specs.declared.context.Context.{Context}
use Rattle.scx_vm.specs.Programs.{VerifiedProgram}
use Rattle.scx_sched_tasks.specs.declared.task.Task.{Task}
use Rattle.scx_sched_world.specs.Ids.{held_queue}
use Rattle.scx_sched_world.specs.Tasks.{with_slice}
use Rattle.scx_sched_world.specs.World.{WorldState, is_this}
use Rattle.scx_sched_machine.specs.declared.events.Event.{Event}
use Rattle.scx_sched_policy.specs.Policy.{PolicyState, program_of}
use Rattle.scx_sched_machine.specs.Steps.{State}
use Rattle.scx_sched.specs.Sim.{SimState, refusal, after_event, calls_of}
use Rattle.scx_explore_states.specs.Asking.{LoadsNo, GivesOne, AsksOnly, is_early}
use Rattle.scx_explore_findings.specs.Asked.{AsksAnyhow, AskAnyhow, AskOnly, CallsAsk}
use Rattle.scx_explore_findings.specs.Hidden.{with_tasks}
use Rattle.scx_explore_findings.specs.Unread.{LoadsNone}

-- ---- worlds

-- the task runs on one of these processors
abbrev pub runs_on : ℕ → List (Option ℕ) → Bool
runs_on t [] = false
runs_on t (o ∷ cpus) = is_this t o || runs_on t cpus

-- it waits nowhere, or is held
abbrev pub is_put_nowhere : Option Entry → Bool
is_put_nowhere None = true
is_put_nowhere (Some e) = e.queue == held_queue

-- the task sleeps, or is held
abbrev pub is_idle : WorldState → ℕ → Bool
is_idle w t = not (runs_on t w.cpus) && is_put_nowhere (entry_of w.queues t)

-- so is one of those tasks
abbrev pub is_idle_of : (ℕ → Bool) → WorldState → ℕ → Bool
is_idle_of d w t = d t && is_idle w t

-- the record of a task, with no slice where that is so wanted
abbrev pub sliceless_if : Bool → Task → Task
sliceless_if b x = if b then with_slice x 0 else x

-- records with no slice for those tasks, the first of which has the number 0
abbrev pub without_slices : (ℕ → Bool) → List Task → List Task
without_slices p [] = []
without_slices p (x ∷ xs) = sliceless_if (p 0) x ∷ without_slices (λ t. p (suc t)) xs

-- the world in which none of those tasks has a slice that sleeps or is held
abbrev pub erase : (ℕ → Bool) → WorldState → WorldState
erase d w = with_tasks w (without_slices (is_idle_of d w) w.tasks)

-- the state of a machine with such a world
abbrev pub erase_state : (ℕ → Bool) → State → State
erase_state d s = record s { world = erase d s.world }

-- all tasks
abbrev pub any_task : ℕ → Bool
any_task t = true

-- two machines are the same but for slices of tasks that sleep or are held
abbrev pub AreSame : SimState → SimState → Type 0
AreSame s t =
    record s { state = erase_state any_task s.state }
    ≡ record t { state = erase_state any_task t.state }

-- ---- programs

-- a query loads no slice, and gives one if it inserts a task
abbrev pub TellsNoSlice : Query → Type 0
TellsNoSlice q = LoadsNo Slice q × GivesOne q

-- each program of the policy asks such queries alone, whatever it is given and answered
abbrev pub TellNoSlices : PolicyState → Type 0
TellNoSlices p = AskAnyhow TellsNoSlice p

-- a query asks for no task
abbrev pub AsksForNone : Query → Type 0
AsksForNone (Call f a) = answers_task f ≡ false
AsksForNone q = Unit {0}

-- no run of the program loads a slice, or its callback is given a task that runs, and no run asks
-- for another one
abbrev pub LoadsItsOwn : Context → Code → Type 0
LoadsItsOwn c code =
    AsksOnly (LoadsNo Slice) c code
    ⊎ ((is_early c.callback true ≡ false) × AsksOnly AsksForNone c code)

-- so it is with a program that was verified for that callback, if there is one
abbrev pub IfLoadsItsOwn : Callback → Option VerifiedProgram → Type 0
IfLoadsItsOwn b None = Unit {0}
IfLoadsItsOwn b (Some p) = p.context.callback ≡ b → LoadsItsOwn p.context p.code

-- no run of a program of the policy loads the slice of a task that sleeps or is held, and each
-- insert of one gives a slice
pub record TellNoIdleSlices (p : PolicyState) : Type 0 where
  pub given : AskOnly GivesOne p
  pub loads : (b : Callback) → IfLoadsItsOwn b (program_of p b)

-- a query loads the slice of no task that sleeps or is held
abbrev pub LoadsBusy : WorldState → Query → Type 0
LoadsBusy w (Load t Slice) = is_idle w t.0 ≡ false
LoadsBusy w q = Unit {0}

-- and gives a slice if it inserts a task
abbrev pub TellsNoIdleSlice : WorldState → Query → Type 0
TellsNoIdleSlice w q = LoadsBusy w q × GivesOne q

-- the field is the slice of a task
abbrev pub is_slice : Field → Bool
is_slice Slice = true
is_slice f = false

-- a program with no load of the bytes at which a task's slice lies, of 8 bytes at offset 8, and of
-- which each insert gives a slice, tells none
abbrev pub SuchProgramsTellNoSlices : Type 0
SuchProgramsTellNoSlices =
    (c : Callback) (code : Code)
    → LoadsNone is_slice code
    → AsksAnyhow GivesOne c code
    → AsksAnyhow TellsNoSlice c code

-- ---- the law

-- Two machines answer an event alike: it is refused for the same cause or accepted by both, and the
-- machines after it are the same but for such slices.
pub record AnswersAlike (s t : SimState) (e : Event) : Type 0 where
  pub refusal : refusal s e ≡ refusal t e
  pub after : AreSame (after_event s e) (after_event t e)

-- under a policy that tells no slices two machines that are the same but for slices of tasks that
-- sleep or are held answer an event alike
abbrev pub EventsTellNoIdleSlices : Type 0
EventsTellNoIdleSlices =
    (s t : SimState) (e : Event)
    → TellNoSlices s.state.policy
    → AreSame s t
    → AnswersAlike s t e

-- so they do where no callback that one of them calls tells such a slice
abbrev pub CallsTellNoIdleSlices : Type 0
CallsTellNoIdleSlices =
    (s t : SimState) (e : Event)
    → CallsAsk TellsNoIdleSlice (calls_of s e)
    → AreSame s t
    → AnswersAlike s t e
