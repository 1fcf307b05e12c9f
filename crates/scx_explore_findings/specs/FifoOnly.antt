-- Under a policy that inserts no task by a virtual time none waits by one, as long as the policy is
-- in force.
use Rattle.std.specs.Prelude.{◌≡◌, ℕ, Bool, true, false, List, Option, Some, None}
use Rattle.scx_dsq.specs.declared.entries.Entry.{Entry}
use Rattle.scx_dsq.specs.declared.entries.Rank.{Rank}
use Rattle.scx_dsq.specs.declared.entries.Rank.TheVariants.{Fifo, Front, Vtime}
use Rattle.scx_dsq.specs.Queues.{Entries, entry_at, entry_of}
use Rattle.scx_weights.specs.Hierarchy.{Hierarchy}
use Rattle.scx_isa_semantics.specs.declared.callbacks.Callback.{Callback}
use Rattle.scx_isa_semantics.specs.declared.host_tables.Helper.{Helper}
use Rattle.scx_isa_semantics.specs.declared.host_tables.Helper.TheVariants.{DsqInsertVtime}
use Rattle.scx_isa_semantics.specs.declared.instructions.Insn.{Insn}
use Rattle.scx_isa_semantics.specs.declared.instructions.Insn.TheVariants.{Call}
use Rattle.scx_isa_semantics.specs.Code.{at}
use Rattle.scx_isa_semantics.specs.HostTables.{helper_at}
use Rattle.scx_vm.specs.Programs.{VerifiedProgram}
use Rattle.scx_sched_world.specs.declared.call.Insert.{Insert}
use Rattle.scx_sched_world.specs.World.{WorldState}
use Rattle.scx_sched_machine.specs.declared.events.Event.{Event}
use Rattle.scx_sched_policy.specs.Policy.{PolicyState, program_of}
use Rattle.scx_sched.specs.Sim.{SimState, IsFirstState}
use Rattle.scx_load_driver.specs.Runs.{stepped_all}
use Rattle.scx_explore_states.specs.Rows.{waiting_key}

-- ---- programs

-- whether it is the helper that inserts a task by a virtual time; false where there is none
abbrev pub is_by_vtime : Option Helper → Bool
is_by_vtime (Some DsqInsertVtime) = true
is_by_vtime o = false

-- whether it is a call of that helper
abbrev pub inserts_by_vtime : Option Insn → Bool
inserts_by_vtime (Some (Call k)) = is_by_vtime (helper_at k)
inserts_by_vtime o = false

-- no instruction of a program is such a call, if there is one
abbrev pub InsertsInOrder : Option VerifiedProgram → Type 0
InsertsInOrder None = Unit {0}
InsertsInOrder (Some p) = (slot : ℕ) → inserts_by_vtime (at p.code slot) ≡ false

-- nor of any program of the policy
abbrev pub InsertInOrder : PolicyState → Type 0
InsertInOrder p = (b : Callback) → InsertsInOrder (program_of p b)

-- ---- queues

-- in order of arrival, and by no virtual time
abbrev pub IsFifo : Rank → Type 0
IsFifo Fifo = Unit {0}
IsFifo Front = Unit {0}
IsFifo (Vtime n) = ⊥

-- the same of an entry, if there is one
abbrev pub WaitsInOrder : Option Entry → Type 0
WaitsInOrder None = Unit {0}
WaitsInOrder (Some e) = IsFifo e.rank

-- and of where each task waits
abbrev pub AreInOrder : Entries → Type 0
AreInOrder es = (t : ℕ) → WaitsInOrder (entry_at es t)

-- what a callback wants is a place in order of arrival, if it wants one
abbrev pub WantsOrder : Option Insert → Type 0
WantsOrder None = Unit {0}
WantsOrder (Some i) = IsFifo i.rank

-- so it is of each task of the world, and of what the last callback wanted, while the policy is in
-- force
abbrev pub IsInOrder : WorldState → Type 0
IsInOrder w = w.ejected ≡ None → AreInOrder w.queues.entries × WantsOrder w.call.insert

-- ---- the law

-- where it is so at first, no list of events leads to a state in which a task waits by a virtual
-- time, while the policy is in force: what a form keeps of such times is 0
abbrev pub NobodyWaitsByVtime : Type 0
NobodyWaitsByVtime =
    (root : SimState) (events : List Event) (t : ℕ)
    → InsertInOrder root.state.policy
    → IsInOrder root.state.world
    → (stepped_all root events).state.world.ejected ≡ None
    → waiting_key (entry_of (stepped_all root events).state.world.queues t) ≡ 0

-- and so it is at first, in the machine of such a policy before any event
abbrev pub FirstStatesAreInOrder : Type 0
FirstStatesAreInOrder =
    (p : PolicyState) (tree : Hierarchy) (cpus : ℕ) (s : SimState)
    → InsertInOrder p
    → IsFirstState p tree cpus s
    → IsInOrder s.state.world
