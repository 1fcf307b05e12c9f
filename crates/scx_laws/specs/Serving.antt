-- Policies whose `dispatch` serves queues in turn: it moves the front of the first of them in which
-- a task waits that may run on the processor, and does nothing else. Linux's example scx_simple has
-- one such queue.
use Rattle.std.specs.Prelude.{◌≡◌, ℕ, pos, Bool, false, ◌&&◌, List, [], ◌∷◌, if◌then◌else◌, Option, Some, None, is_none}
use Rattle.std.specs.List.{AllByRecursion}
use Rattle.scx_dsq.specs.Queues.{len_of}
use Rattle.scx_weights.specs.Hierarchy.{Hierarchy}
use Rattle.scx_weights.specs.Limits.{has_quota}
use Rattle.scx_isa_semantics.specs.declared.callbacks.Callback.TheVariants as callback
use Rattle.scx_isa_semantics.specs.declared.instructions.Insn.{Insn}
use Rattle.scx_isa_semantics.specs.declared.instructions.Insn.TheVariants.{Binary, JumpIf, Call, Exit}
use Rattle.scx_isa_semantics.specs.declared.instructions.Operand.TheVariants.{Immediate}
use Rattle.scx_isa_semantics.specs.declared.operations.Width.TheVariants.{Bits64}
use Rattle.scx_isa_semantics.specs.declared.operations.Operation.TheVariants.{Move}
use Rattle.scx_isa_semantics.specs.declared.operations.Comparison.TheVariants.{NotEqual}
use Rattle.scx_isa_semantics.specs.declared.registers.Register.TheVariants.{R0, R1}
use Rattle.scx_isa_semantics.specs.declared.rules.Rules.TheVariants.{Plain}
use Rattle.scx_isa_semantics.specs.Code.{Code}
use Rattle.scx_isa_semantics.specs.Elements.{Maps}
use Rattle.scx_vm.specs.Programs.{VerifiedProgram}
use Rattle.scx_vm.specs.declared.arguments.Args.{Args}
use Rattle.scx_sched_world.specs.Ids.{global}
use Rattle.scx_sched_world.specs.World.{WorldState, running, cpu_of}
use Rattle.scx_sched_world.specs.Tasks.{local_len, next_for}
use Rattle.scx_sched_world.specs.Helpers.{can_move, after_move}
use Rattle.scx_sched_machine.specs.declared.events.Event.{Event}
use Rattle.scx_sched_machine.specs.declared.events.Event.TheVariants.{Sleep, Tick}
use Rattle.scx_sched_policy.specs.Policy.{PolicyState, program_of}
use Rattle.scx_sched_machine.specs.Steps.{State, is_by_linux}
use Rattle.scx_sched_machine.specs.Callbacks.{call_ending}
use Rattle.scx_sched_machine.specs.Events as machine
use Rattle.scx_sched_machine.specs.Events.{event_step}
use Rattle.scx_sched.specs.Ranges.{IsFine}
use Rattle.scx_sched.specs.Sim.{SimState, refusal, after_event}
use Rattle.scx_laws.specs.Runs.{IsBegun, after_events}

-- ---- what dispatch does

-- there is such a queue, and no task waits in it that may run on the current processor
abbrev pub has_nobody : WorldState → ℕ → Bool
has_nobody w q = can_move w q && is_none (next_for w q w.call.cpu)

-- the first of these queues in which such a task waits is served: its front goes to the processor
abbrev pub after_serving : List ℕ → WorldState → WorldState
after_serving [] w = w
after_serving (q ∷ qs) w = if has_nobody w q then after_serving qs w else after_move w q

-- dispatch comes to that in this program, whatever it is given
abbrev pub Serves : List ℕ → VerifiedProgram → Type 0
Serves qs p =
    (a : Args) (maps : Maps) (w : WorldState)
    → call_ending (Some p) callback.Dispatch a maps w
    ≡ record { answer = Some 0; maps = maps; outside = after_serving qs w }

-- a policy with such a dispatch, whatever its other programs are
pub record ServesQueues (qs : List ℕ) (p : PolicyState) : Type 0 where
  pub dispatch : VerifiedProgram
  pub is_there : program_of p callback.Dispatch ≡ Some dispatch
  pub serves : Serves qs dispatch

-- ---- programs of dispatch

-- `if r0 != 0 goto +n`
abbrev pub done_if_moved : ℕ → Option Insn
done_if_moved n = Some (JumpIf Bits64 NotEqual R0 (Immediate (pos 0)) (pos n))

-- dispatch of `fifo`, `priority`, `simple`, `simple_vtime` and `short_slices`
abbrev pub one_queue : Code
one_queue =
    Some (Binary Bits64 Move R1 (Immediate (pos 0))) ∷ Some (Call (pos 1004)) ∷ Some Exit ∷ []

-- its bytes
abbrev pub one_bytes : List ℕ
one_bytes =
    0xb7 ∷ 1 ∷ 0 ∷ 0 ∷ 0 ∷ 0 ∷ 0 ∷ 0
    ∷ 0x85 ∷ 0 ∷ 0 ∷ 0 ∷ 0xec ∷ 3 ∷ 0 ∷ 0
    ∷ 0x95 ∷ 0 ∷ 0 ∷ 0 ∷ 0 ∷ 0 ∷ 0 ∷ 0 ∷ []

-- dispatch of `round_robin`
abbrev pub two_queues : Code
two_queues =
    Some (Binary Bits64 Move R1 (Immediate (pos 0))) ∷ Some (Call (pos 1004)) ∷ done_if_moved 2
    ∷ Some (Binary Bits64 Move R1 (Immediate (pos 1))) ∷ Some (Call (pos 1004)) ∷ Some Exit ∷ []

-- dispatch of `feedback`
abbrev pub three_queues : Code
three_queues =
    Some (Binary Bits64 Move R1 (Immediate (pos 0))) ∷ Some (Call (pos 1004)) ∷ done_if_moved 5
    ∷ Some (Binary Bits64 Move R1 (Immediate (pos 1))) ∷ Some (Call (pos 1004)) ∷ done_if_moved 2
    ∷ Some (Binary Bits64 Move R1 (Immediate (pos 2))) ∷ Some (Call (pos 1004)) ∷ Some Exit ∷ []

-- a program of these instructions serves these queues
abbrev pub EachServes : Code → List ℕ → Type 0
EachServes code qs = (p : VerifiedProgram) → p.code ≡ code → Serves qs p

-- ---- no processor idles while a task waits

-- no task waits in these queues, in the processor's own, or in that of all processors
pub record NobodyWaits (qs : List ℕ) (w : WorldState) (c : ℕ) : Type 0 where
  pub served : AllByRecursion (λ q. len_of w.queues q ≡ 0) qs
  pub local : local_len w c ≡ 0
  pub global : len_of w.queues global ≡ 0

-- the processor is idle only if no task waits there, while the policy is in force
abbrev pub IdlesForNobody : List ℕ → WorldState → ℕ → Type 0
IdlesForNobody qs w c = w.ejected ≡ None → running w c ≡ None → NobodyWaits qs w c

-- the processor that an event makes look for a task by plain rules: that of a tick, and the one on
-- which a task runs that goes to sleep; of other events none is named
abbrev pub looks : WorldState → Event → Option ℕ
looks w (Tick c) = Some c
looks w (Sleep t) = cpu_of w t
looks w e = None

-- by plain rules and without quotas, so it is after an accepted event that makes it look
abbrev pub StepLeavesNobody : Type 0
StepLeavesNobody =
    (qs : List ℕ) (n e : ℕ) (s : State) (v : Event) (c : ℕ)
    → ServesQueues qs s.policy
    → is_by_linux s ≡ false
    → has_quota s.world.tree.groups ≡ false
    → IsFine n e e None s.world.cpus s.world
    → machine.refusal s v ≡ None
    → looks s.world v ≡ Some c
    → IdlesForNobody qs (event_step s v).state.world c

-- of a machine of such a policy: after any events and then such a one
abbrev pub NobodyIsLeft : Type 0
NobodyIsLeft =
    (qs : List ℕ) (p : PolicyState) (tree : Hierarchy) (cpus : ℕ) (s : SimState)
    (events : List Event) (v : Event) (c : ℕ)
    → ServesQueues qs p
    → p.rules ≡ Plain
    → has_quota tree.groups ≡ false
    → IsBegun p tree cpus s
    → refusal (after_events s events) v ≡ None
    → looks (after_events s events).state.world v ≡ Some c
    → IdlesForNobody qs (after_event (after_events s events) v).state.world c
