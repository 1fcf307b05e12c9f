-- Forms that keep all that a program can read, and the machines whose words then tell everything
-- but parts that nothing reads.
use Rattle.std.specs.Prelude.{◌≡◌, ℕ, ◌≤◌, ◌⊎◌, Bool, true, false, List, length, slice_index_or, Option, Some, None}
use Rattle.scx_dsq.specs.Laws as queues
use Rattle.scx_isa_semantics.specs.declared.callbacks.Callback.{Callback}
use Rattle.scx_isa_semantics.specs.declared.host_tables.Helper.{Helper}
use Rattle.scx_isa_semantics.specs.declared.host_tables.Helper.TheVariants.{PrandomU32}
use Rattle.scx_isa_semantics.specs.declared.instructions.Insn.{Insn}
use Rattle.scx_isa_semantics.specs.declared.instructions.Insn.TheVariants.{Call}
use Rattle.scx_isa_semantics.specs.declared.rules.Rules.{Rules}
use Rattle.scx_isa_semantics.specs.Code.{at}
use Rattle.scx_isa_semantics.specs.Effects.{Query}
use Rattle.scx_isa_semantics.specs.HostTables.{helper_at}
use Rattle.scx_maps.specs.declared.shape.Shape.{Shape}
use Rattle.scx_isa_semantics.specs.Elements.{Maps}
use Rattle.scx_maps.specs.Contents.{HasShapes}
use Rattle.scx_maps.specs.Laws as laws
use Rattle.scx_vm.specs.Programs.{VerifiedProgram}
use Rattle.scx_weights.specs.Hierarchy.{Hierarchy}
use Rattle.scx_sched_tasks.specs.declared.task.Task.{Task}
use Rattle.scx_sched_tasks.specs.Tasks.{no_task}
use Rattle.scx_sched_world.specs.declared.cpu_set.CpuSet.{CpuSet}
use Rattle.scx_sched_world.specs.CpuSets.{no_cpus}
use Rattle.scx_sched_world.specs.World.{WorldState, IsLike, are_linux, nothing_passes}
use Rattle.scx_sched_policy.specs.Policy.{PolicyState, IsTimeout, program_of}
use Rattle.scx_sched.specs.Ranges.{IsFine}
use Rattle.scx_sched.specs.Sim.{SimState}
use Rattle.scx_sched.specs.Timers.{AreTimersLater}
use Rattle.scx_sched.specs.Waits.{IsTimely}
use Rattle.scx_explore_states.specs.declared.form.Form.{Form}
use Rattle.scx_explore_findings.specs.Asked.{AskAnyhow, AskOnly}
use Rattle.scx_explore_findings.specs.Between.{IsQuiet}
use Rattle.scx_explore_findings.specs.Delayed.{AreClockless}
use Rattle.scx_explore_findings.specs.FifoOnly.{InsertInOrder, IsInOrder}
use Rattle.scx_explore_findings.specs.Hidden.{Hidden}
use Rattle.scx_explore_findings.specs.HiddenLaws.{LeavesOut}
use Rattle.scx_explore_findings.specs.IdleSlices.{TellNoSlices, TellNoIdleSlices}
use Rattle.scx_explore_findings.specs.Unread.{ReadsNone}

-- ---- programs

-- it is the helper that draws a random number; false where there is none
abbrev pub is_random : Option Helper → Bool
is_random (Some PrandomU32) = true
is_random o = false

-- it is a call of that helper
abbrev pub draws : Option Insn → Bool
draws (Some (Call k)) = is_random (helper_at k)
draws o = false

-- no instruction of a program is such a call, if there is one
abbrev pub DrawsNone : Option VerifiedProgram → Type 0
DrawsNone None = Unit {0}
DrawsNone (Some p) = (slot : ℕ) → draws (at p.code slot) ≡ false

-- nor of any program of the policy
abbrev pub DrawNone : PolicyState → Type 0
DrawNone p = (b : Callback) → DrawsNone (program_of p b)

-- ---- forms

-- the form keeps everything that a program of the policy can read: it leaves out the number of
-- pushes, and at most waits, which none can read, the clock where no program tells the time, slices
-- of tasks that sleep or are held where none tells them, keys where none inserts a task by one, the
-- random number where none draws one, and run times and virtual times that none loads. That none
-- tells or loads these is said of programs in these two ways. Of slices themselves nothing is said.
pub record IsWholeBy
    (Ask : (Query → Type 0) → PolicyState → Type 0) (Tell : PolicyState → Type 0) (p : PolicyState)
    (f : Form) : Type 0
  where
    pub clock : (f.clock ≡ true) ⊎ AreClockless p
    pub pushes : f.pushes ≡ false
    pub idle_slices : (f.idle_slices ≡ true) ⊎ Tell p
    pub keys : (f.keys ≡ true) ⊎ InsertInOrder p
    pub hidden : Hidden
    pub unread : Ask (ReadsNone hidden) p
    pub left_out : LeavesOut f hidden
    pub waits : hidden.waits ≡ false → f.waits ≡ true
    pub vtime : hidden.vtime ≡ false → f.vtime ≡ true
    pub run_ns : hidden.run_ns ≡ false → f.run_ns ≡ true
    pub random : (f.random ≡ true) ⊎ DrawNone p
    pub names : f.names ≡ true

-- whatever programs are given and answered
abbrev pub IsWhole : PolicyState → Form → Type 0
IsWhole p f = IsWholeBy AskAnyhow TellNoSlices p f

-- in each run of a program that was verified, as long as what it is given and answered fits
abbrev pub IsWholeInRuns : PolicyState → Form → Type 0
IsWholeInRuns p f = IsWholeBy AskOnly TellNoIdleSlices p f

-- a form that is whole is so in each run
abbrev pub WholeFormsAreSoInRuns : Type 0
WholeFormsAreSoInRuns = (p : PolicyState) (f : Form) → IsWhole p f → IsWholeInRuns p f

-- the machine has at most eight tasks and sixteen CPUs, and timers by Linux rules alone
pub record HasFew (root : SimState) : Type 0 where
  pub tasks : length root.state.world.tasks ≤ 8
  pub cpus : length root.state.world.cpus ≤ 16
  pub timers : are_linux root.state.world.rules ≡ false → length root.state.world.timers ≡ 0

-- ---- facts of a machine between events

-- it began at that clock or before, or never
abbrev pub IsSince : ℕ → Option ℕ → Type 0
IsSince now None = Unit {0}
IsSince now (Some n) = n ≤ now

-- no task waits since a time to come
abbrev pub AreSince : ℕ → List Task → Type 0
AreSince clock xs = (u : ℕ) → IsSince clock (slice_index_or xs u no_task).since

-- both trees have the same groups, and the same tasks in them
abbrev pub IsTree : Hierarchy → Hierarchy → Type 0
IsTree x y =
    (x.groups ≡ y.groups) × (x.homes ≡ y.homes) × (x.own_weights ≡ y.own_weights)
    × (x.masks ≡ y.masks)

-- the second tree is as the first one, and has a usage of each group; and plain rules claim no CPU
abbrev pub IsRest : Hierarchy → Hierarchy → Rules → CpuSet → Type 0
IsRest v t r claimed =
    IsTree v t × (length t.usages ≡ length t.groups) × (are_linux r ≡ false → claimed ≡ no_cpus)

-- so it is with the tree of the world, in which no task waits since a time to come
abbrev pub IsTidy : Hierarchy → WorldState → Type 0
IsTidy v w = AreSince w.clock w.tasks × IsRest v w.tree w.rules w.claimed

-- the maps have these shapes, and the keys of each hash are sound
pub record AreMapsOf (shapes : List Shape) (maps : Maps) : Type 0 where
  pub shaped : HasShapes shapes maps
  pub sound : (m : ℕ) → laws.IsSound maps m

-- the second machine is one to which events lead from the first one, whose maps have these shapes,
-- as long as no weight changes
pub record IsLed (shapes : List Shape) (root s : SimState) : Type 0 where
  pub policy : s.state.policy ≡ root.state.policy
  pub timeout : IsTimeout root.state.policy.timeout_ms
  pub size : IsLike root.state.world s.state.world
  pub events : ℕ
  pub fine :
      IsFine (length root.state.world.tasks) events events None s.state.world.cpus s.state.world
  pub timely : IsTimely s.state
  pub timers : AreTimersLater s.state.world
  pub still : s.state.world.cycling ≡ None
  pub settled : s.state.world.passing ≡ nothing_passes
  pub rules : s.state.world.rules ≡ root.state.world.rules
  pub quiet : IsQuiet root.state.world.tracks_idle s.state.world
  pub tidy : IsTidy root.state.world.tree s.state.world
  pub queues : queues.IsSound s.state.world.queues
  pub maps : AreMapsOf shapes s.state.maps
  pub order : InsertInOrder root.state.policy → IsInOrder s.state.world
  pub random : DrawNone root.state.policy → s.state.world.random ≡ root.state.world.random
