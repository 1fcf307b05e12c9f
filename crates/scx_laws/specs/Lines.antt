-- Policies of one line: a task that has to wait goes to the end of queue 0, with the same slice
-- each time, and a CPU takes the front of that queue.
use Rattle.std.specs.Prelude.{◌≡◌, ◌≢◌, ℕ, ⊤, pos, negsuc, true, false, ◌==◌, if◌then◌else◌, List, [], ◌∷◌, Option, Some, None, ◌≤◌, count_by}
use Rattle.scx_dsq.specs.declared.entries.Entry.{Entry}
use Rattle.scx_dsq.specs.declared.entries.Rank.TheVariants.{Fifo}
use Rattle.scx_dsq.specs.Entries.{is_before}
use Rattle.scx_dsq.specs.Queues.{entry_of, is_ahead}
use Rattle.scx_weights.specs.Hierarchy.{Hierarchy}
use Rattle.scx_weights.specs.Limits.{has_quota}
use Rattle.scx_isa_semantics.specs.declared.callbacks.Callback.TheVariants as callback
use Rattle.scx_isa_semantics.specs.declared.instructions.Insn.TheVariants.{Binary, LoadImmediate, JumpIf, Call, Exit}
use Rattle.scx_isa_semantics.specs.declared.instructions.Operand.TheVariants.{Immediate, Register}
use Rattle.scx_isa_semantics.specs.declared.operations.Width.TheVariants.{Bits64}
use Rattle.scx_isa_semantics.specs.declared.operations.Operation.TheVariants.{Move}
use Rattle.scx_isa_semantics.specs.declared.operations.Comparison.TheVariants.{Equal}
use Rattle.scx_isa_semantics.specs.declared.registers.Register.TheVariants.{R0, R1, R2, R3, R4, R6, R7}
use Rattle.scx_isa_semantics.specs.declared.rules.Rules.TheVariants.{Plain}
use Rattle.scx_isa_semantics.specs.Code.{Code}
use Rattle.scx_isa_semantics.specs.Elements.{Maps}
use Rattle.scx_vm.specs.Programs.{VerifiedProgram}
use Rattle.scx_vm.specs.declared.arguments.Args.{Args}
use Rattle.scx_sched_world.specs.declared.call.Insert.{Insert}
use Rattle.scx_sched_world.specs.declared.eject.Eject.{Eject}
use Rattle.scx_sched_world.specs.declared.eject.Eject.TheVariants as cause
use Rattle.scx_sched_world.specs.Ids.{local}
use Rattle.scx_sched_world.specs.World.{WorldState, is_by_linux, running}
use Rattle.scx_sched_world.specs.Helpers.{has_preempt, arrival_rank, after_create_dsq, create_answer, after_insert, choice_answer, after_choice, idle_answer, after_idle}
use Rattle.scx_sched_machine.specs.declared.events.Event.{Event}
use Rattle.scx_sched_machine.specs.declared.events.Event.TheVariants.{Sleep}
use Rattle.scx_sched_policy.specs.Policy.{PolicyState, program_of}
use Rattle.scx_sched_machine.specs.Callbacks.{call_ending, task_cpu_and_0, task_and_number}
use Rattle.scx_sched.specs.Sim.{SimState, refusal, after_event}
use Rattle.scx_laws.specs.Runs.{IsBegun, after_events}
use Rattle.scx_laws.specs.Serving.{Serves, NobodyWaits, looks}

-- ---- what the programs do

-- the end of queue 0 with that slice, in nanoseconds, and with the flags that enqueue was given
abbrev pub to_line : ℕ → WorldState → ℕ → Insert
to_line slice w flags = record {
  queue = 0;
  slice = slice;
  rank = arrival_rank flags;
  preempts = has_preempt flags;
  refills = is_by_linux w;
}

-- init comes to the creation of queue 0, and answers what that answers
abbrev pub CreatesLine : VerifiedProgram → Type 0
CreatesLine p =
    (a : Args) (maps : Maps) (w : WorldState)
    → call_ending (Some p) callback.Init a maps w
    ≡ record { answer = Some (create_answer w 0); maps = maps; outside = after_create_dsq w 0 }

-- enqueue comes to an insert of its task there, with the same slice each time
abbrev pub LinesUp : ℕ → VerifiedProgram → Type 0
LinesUp slice p =
    (t flags : ℕ) (maps : Maps) (w : WorldState)
    → call_ending (Some p) callback.Enqueue (task_and_number t flags) maps w
    ≡ record {
      answer = Some 0;
      maps = maps;
      outside = after_insert w (Some t) (to_line slice w flags) flags;
    }

-- a task that wakes goes to the local queue of the CPU that select_cpu answers
abbrev pub to_idle : ℕ → WorldState → Insert
to_idle slice w = record {
  queue = local;
  slice = slice;
  rank = Fifo;
  preempts = false;
  refills = is_by_linux w;
}

-- select_cpu asks the host for a CPU, and inserts its task there if that is idle
abbrev pub asked_for : ℕ → WorldState → ℕ → ℕ → WorldState
asked_for slice w t c =
    let v = after_idle (after_choice w (Some t)) c in
    if idle_answer (after_choice w (Some t)) c == 0 then v
    else after_insert v (Some t) (to_idle slice v) 0

-- it answers that CPU
abbrev pub ChoosesIdle : ℕ → VerifiedProgram → Type 0
ChoosesIdle slice p =
    (t c : ℕ) (maps : Maps) (w : WorldState)
    → call_ending (Some p) callback.SelectCpu (task_cpu_and_0 t c) maps w
    ≡ record {
      answer = Some (choice_answer w (Some t));
      maps = maps;
      outside = asked_for slice w t (choice_answer w (Some t));
    }

-- a policy has no select_cpu, or one that comes to that
abbrev pub MayChoose : ℕ → Option VerifiedProgram → Type 0
MayChoose slice None = ⊤
MayChoose slice (Some p) = ChoosesIdle slice p

-- a policy of one line, which has none of the other callbacks that plain rules call
pub record IsLine (slice : ℕ) (p : PolicyState) : Type 0 where
  pub init : VerifiedProgram
  pub enqueue : VerifiedProgram
  pub dispatch : VerifiedProgram
  pub inits : program_of p callback.Init ≡ Some init
  pub enqueues : program_of p callback.Enqueue ≡ Some enqueue
  pub dispatches : program_of p callback.Dispatch ≡ Some dispatch
  pub creates : CreatesLine init
  pub lines_up : LinesUp slice enqueue
  pub serves : Serves (0 ∷ []) dispatch
  pub chooses : MayChoose slice (program_of p callback.SelectCpu)
  pub enables : program_of p callback.Enable ≡ None
  pub runs : program_of p callback.Running ≡ None
  pub stops : program_of p callback.Stopping ≡ None

-- ---- their instructions

-- init of `fifo`, `simple` and `short_slices`
abbrev pub one_line : Code
one_line =
    Some (Binary Bits64 Move R1 (Immediate (pos 0))) ∷ Some (Call (pos 1001)) ∷ Some Exit ∷ []

-- enqueue of `fifo` and `simple`, and, with another slice, of `short_slices`
abbrev pub line_with : ℕ → Code
line_with slice =
    Some (Binary Bits64 Move R4 (Register R2)) ∷ Some (Binary Bits64 Move R2 (Immediate (pos 0)))
    ∷ Some (Binary Bits64 Move R3 (Immediate (pos slice))) ∷ Some (Call (pos 1002)) ∷ Some Exit
    ∷ []

-- select_cpu of `simple`
abbrev pub to_idle_with : ℕ → Code
to_idle_with slice =
    Some (Binary Bits64 Move R6 (Register R1)) ∷ Some (Call (pos 1005))
    ∷ Some (Binary Bits64 Move R7 (Register R0)) ∷ Some (Binary Bits64 Move R1 (Register R0))
    ∷ Some (Call (pos 1006)) ∷ Some (JumpIf Bits64 Equal R0 (Immediate (pos 0)) (pos 6))
    ∷ Some (Binary Bits64 Move R1 (Register R6))
    ∷ Some (LoadImmediate R2 (pos 2) (negsuc 0x7fff_ffff))
    ∷ None ∷ Some (Binary Bits64 Move R3 (Immediate (pos slice)))
    ∷ Some (Binary Bits64 Move R4 (Immediate (pos 0))) ∷ Some (Call (pos 1002))
    ∷ Some (Binary Bits64 Move R0 (Register R7)) ∷ Some Exit ∷ []

-- a program of these instructions takes an idle CPU that the host chooses
abbrev pub EachChooses : Code → ℕ → Type 0
EachChooses code slice = (p : VerifiedProgram) → p.code ≡ code → ChoosesIdle slice p

-- a program of these instructions creates queue 0
abbrev pub EachCreates : Code → Type 0
EachCreates code = (p : VerifiedProgram) → p.code ≡ code → CreatesLine p

-- a program of these instructions inserts its task there with that slice
abbrev pub EachLinesUp : Code → ℕ → Type 0
EachLinesUp code slice = (p : VerifiedProgram) → p.code ≡ code → LinesUp slice p

-- ---- only a wait puts such a policy out of force

-- the policy was put out of force for a task that waited too long
abbrev pub IsStall : Eject → Type 0
IsStall (cause.Stall t clock) = ⊤
IsStall x = ⊥

-- a machine of such a policy before any event, by plain rules
pub record IsLineBegun (slice : ℕ) (p : PolicyState) (tree : Hierarchy) (cpus : ℕ) (s : SimState)
    : Type 0 where
  pub line : IsLine slice p
  pub rules : p.rules ≡ Plain
  pub begun : IsBegun p tree cpus s

-- by plain rules no callback of a policy of one line has a fault or calls `exit`, whatever happens:
-- it is put out of force for a task that waited too long, and for nothing else
abbrev pub OnlyWaitsEject : Type 0
OnlyWaitsEject =
    (slice : ℕ) (p : PolicyState) (tree : Hierarchy) (cpus : ℕ) (s : SimState)
    (events : List Event) (x : Eject)
    → IsLineBegun slice p tree cpus s
    → (after_events s events).state.world.ejected ≡ Some x
    → IsStall x

-- so, without quotas, where a tick or the sleep of the task that ran there leaves a CPU idle,
-- no task waits in queue 0, in its own queue or in the global one, unless a task waited too long
abbrev pub IdlesUnlessLate : Type 0
IdlesUnlessLate =
    (slice : ℕ) (p : PolicyState) (tree : Hierarchy) (cpus : ℕ) (s : SimState)
    (events : List Event) (v : Event) (c : ℕ)
    → IsLineBegun slice p tree cpus s
    → has_quota tree.groups ≡ false
    → refusal (after_events s events) v ≡ None
    → looks (after_events s events).state.world v ≡ Some c
    → running (after_event (after_events s events) v).state.world c ≡ None
    → ((t clock : ℕ)
    → (after_event (after_events s events) v).state.world.ejected ≡ Some (cause.Stall t clock)
    → ⊥)
    → NobodyWaits (0 ∷ []) (after_event (after_events s events) v).state.world c

-- ---- the order of arrival

-- the first task waits in queue 0 by that entry, and the second one by that other, after it
pub record IsAheadOf (w : WorldState) (t u : ℕ) (first second : Entry) : Type 0 where
  pub front : entry_of w.queues t ≡ Some first
  pub back : entry_of w.queues u ≡ Some second
  pub here : first.queue ≡ 0
  pub there : second.queue ≡ 0
  pub before : is_before first second ≡ true

-- a task goes to sleep in none of these events
abbrev pub StaysAwake : ℕ → List Event → Type 0
StaysAwake u [] = ⊤
StaysAwake u (Sleep t ∷ es) = (u ≢ t) × StaysAwake u es
StaysAwake u (e ∷ es) = StaysAwake u es

-- by plain rules, under a policy of one line that is in force: as long as a task is still where it
-- was in the line, so is each task that was after it there and doesn't go to sleep
abbrev pub NobodyOvertakes : Type 0
NobodyOvertakes =
    (slice : ℕ) (p : PolicyState) (tree : Hierarchy) (cpus : ℕ) (s : SimState)
    (events more : List Event) (t u : ℕ) (first second : Entry)
    → IsLineBegun slice p tree cpus s
    → IsAheadOf (after_events s events).state.world t u first second
    → StaysAwake u more
    → (after_events (after_events s events) more).state.world.ejected ≡ None
    → entry_of (after_events (after_events s events) more).state.world.queues t ≡ Some first
    → entry_of (after_events (after_events s events) more).state.world.queues u ≡ Some second

-- and no task cuts in: one that is before a task in the line was so from the start
abbrev pub NobodyCutsIn : Type 0
NobodyCutsIn =
    (slice : ℕ) (p : PolicyState) (tree : Hierarchy) (cpus : ℕ) (s : SimState)
    (events more : List Event) (t u : ℕ) (mine other : Entry)
    → IsLineBegun slice p tree cpus s
    → entry_of (after_events s events).state.world.queues t ≡ Some mine
    → mine.queue ≡ 0
    → (after_events (after_events s events) more).state.world.ejected ≡ None
    → IsAheadOf (after_events (after_events s events) more).state.world u t other mine
    → entry_of (after_events s events).state.world.queues u ≡ Some other

-- how many tasks are before that entry in the line
abbrev pub ahead_of : WorldState → Entry → ℕ
ahead_of w e = count_by (is_ahead 0 e) w.queues.entries

-- so no more tasks are before a task than were there when it came
abbrev pub OnlyFewerAhead : Type 0
OnlyFewerAhead =
    (slice : ℕ) (p : PolicyState) (tree : Hierarchy) (cpus : ℕ) (s : SimState)
    (events more : List Event) (t : ℕ) (mine : Entry)
    → IsLineBegun slice p tree cpus s
    → entry_of (after_events s events).state.world.queues t ≡ Some mine
    → mine.queue ≡ 0
    → (after_events (after_events s events) more).state.world.ejected ≡ None
    → ahead_of (after_events (after_events s events) more).state.world mine
    ≤ ahead_of (after_events s events).state.world mine
