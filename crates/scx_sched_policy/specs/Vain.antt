-- Programs of dispatch that do nothing but move tasks: from which queues, and that where nobody
-- waits in these they change nothing.
use Rattle.std.specs.Prelude.{ℕ, zero, suc, ◌+◌, ◌≡◌, ◌≤◌, ℤ, pos, negsuc, unsigned_abs, Bool, true, false, ◌&&◌, nat_eq, nat_lt, min, List, [], ◌∷◌, length, Option, Some, None, is_none, if◌then◌else◌}
use Rattle.scx_isa_semantics.specs.declared.callbacks.Callback.TheVariants as callback
use Rattle.scx_isa_semantics.specs.declared.host_tables.Helper.{Helper}
use Rattle.scx_isa_semantics.specs.declared.host_tables.Helper.TheVariants.{DsqMoveToLocal}
use Rattle.scx_isa_semantics.specs.declared.instructions.Insn.{Insn}
use Rattle.scx_isa_semantics.specs.declared.instructions.Insn.TheVariants as insn
use Rattle.scx_isa_semantics.specs.declared.instructions.Operand.{Operand}
use Rattle.scx_isa_semantics.specs.declared.instructions.Operand.TheVariants as operand
use Rattle.scx_isa_semantics.specs.declared.operations.Width.{Width}
use Rattle.scx_isa_semantics.specs.declared.operations.Operation.{Operation}
use Rattle.scx_isa_semantics.specs.declared.operations.Operation.TheVariants.{Move}
use Rattle.scx_isa_semantics.specs.declared.operations.Comparison.{Comparison}
use Rattle.scx_isa_semantics.specs.declared.operations.Comparison.TheVariants.{Equal, NotEqual}
use Rattle.scx_isa_semantics.specs.declared.registers.Register.{Register}
use Rattle.scx_isa_semantics.specs.declared.registers.Register.TheVariants.{R0, R1, R10}
use Rattle.scx_isa_semantics.specs.Arithmetic.{immediate, low, wide_immediate}
use Rattle.scx_isa_semantics.specs.Code.{Code, at, size, instruction_count}
use Rattle.scx_isa_semantics.specs.Elements.{Maps}
use Rattle.scx_isa_semantics.specs.HostTables.{helper_at}
use Rattle.scx_isa_semantics.specs.Machine.{Arguments}
use Rattle.scx_isa_semantics.specs.Runs.{Runs}
use Rattle.scx_vm.specs.Host.{host}
use Rattle.scx_vm.specs.Programs.{VerifiedProgram}
use Rattle.scx_sched_world.specs.World.{WorldState}
use Rattle.scx_sched_world.specs.Tasks.{next_for}
use Rattle.scx_sched_world.specs.Helpers.{is_there, world_functions}
use Rattle.scx_sched_policy.specs.declared.vain.Asked.{Asked}
use Rattle.scx_sched_policy.specs.declared.vain.Asked.TheVariants.{Nothing, One, Two, Three}
use Rattle.scx_sched_policy.specs.declared.vain.Known.{Known}
use Rattle.scx_sched_policy.specs.declared.vain.Part.{Part}
use Rattle.scx_sched_policy.specs.declared.vain.Part.TheVariants.{Sets, Jumps, Moves, Ends, Other}
use Rattle.scx_sched_policy.specs.declared.vain.When.{When}
use Rattle.scx_sched_policy.specs.declared.vain.When.TheVariants.{Always, OnZero, OnOther}

-- ---- what an instruction is to a walk

-- a register set to a number, unless it is r10
abbrev pub sets : Register → ℕ → Part
sets R10 n = Other
sets r n = Sets r n

-- a jump that goes on
abbrev pub forward : When → ℤ → Part
forward when (pos d) = Jumps when d
forward when (negsuc d) = Other

-- a jump by a comparison of r0 with 0
abbrev pub test_of : Comparison → ℤ → Part
test_of Equal d = forward OnZero d
test_of NotEqual d = forward OnOther d
test_of c d = Other

-- a jump by a comparison
abbrev pub tested : Register → Operand → Comparison → ℤ → Part
tested R0 (operand.Immediate k) c d = if nat_eq (unsigned_abs k) 0 then test_of c d else Other
tested r x c d = Other

-- a register set to an operand
abbrev pub moved_from : Width → Register → Operand → Part
moved_from w r (operand.Immediate k) = sets r (low w (immediate w k))
moved_from w r x = Other

-- an operation with two operands
abbrev pub moved : Width → Operation → Register → Operand → Part
moved w Move r x = moved_from w r x
moved w o r x = Other

-- a call of a helper
abbrev pub called : Option Helper → Part
called (Some DsqMoveToLocal) = Moves
called h = Other

-- what an instruction is to a walk over a program that only moves tasks
abbrev pub part_of : Insn → Part
part_of (insn.Binary w o r x) = moved w o r x
part_of (insn.LoadImmediate r low_half high_half) = sets r (wide_immediate low_half high_half)
part_of (insn.JumpIf w c r x d) = tested r x c d
part_of (insn.Goto d) = forward Always d
part_of (insn.Call k) = called (helper_at k)
part_of insn.Exit = Ends
part_of i = Other

-- ---- the walk

-- nothing is known of registers
abbrev pub nothing_known : Known
nothing_known = record { is_zero = false; first = None }

-- a queue was asked that had no task
abbrev pub asked_in_vain : Known
asked_in_vain = record { is_zero = true; first = None }

-- what is known once a register was set to a number
abbrev pub known_after : Known → Register → ℕ → Known
known_after k R0 n = record k { is_zero = false }
known_after k R1 n = record k { first = Some n }
known_after k r n = k

-- the slot after the one with such a jump, if it is known
abbrev pub jumped : Known → When → ℕ → ℕ → Option ℕ
jumped k Always s d = Some (s + 1 + d)
jumped k OnZero s d = if k.is_zero then Some (s + 1 + d) else None
jumped k OnOther s d = if k.is_zero then Some (s + 1) else None

-- a queue before others, of which there are at most three
abbrev pub one_more : ℕ → List ℕ → Option (List ℕ)
one_more q qs = if nat_lt (length qs) 3 then Some (q ∷ qs) else None

-- that queue before those, if both are known
abbrev pub both_known : Option ℕ → Option (List ℕ) → Option (List ℕ)
both_known None o = None
both_known (Some q) None = None
both_known (Some q) (Some qs) = one_more q qs

-- a walk goes on, if it is known where
abbrev pub on_from : (ℕ → Known → Option (List ℕ)) → Known → Option ℕ → Option (List ℕ)
on_from on k None = None
on_from on k (Some t) = on t k

-- from an instruction on, where `on` is what follows
abbrev pub walk_on : (ℕ → Known → Option (List ℕ)) → ℕ → Known → Insn → Part → Option (List ℕ)
walk_on on s k i (Sets r n) = on (s + size i) (known_after k r n)
walk_on on s k i (Jumps when d) = on_from on k (jumped k when s d)
walk_on on s k i Moves = both_known k.first (on (s + 1) asked_in_vain)
walk_on on s k i Ends = Some []
walk_on on s k i Other = None

-- from a slot on, by what begins there
abbrev pub walk_at : (ℕ → Known → Option (List ℕ)) → ℕ → Known → Option Insn → Option (List ℕ)
walk_at on s k None = None
walk_at on s k (Some i) = walk_on on s k i (part_of i)

-- the queues that a program asks from a slot on, in at most n steps
abbrev pub walk : Code → ℕ → ℕ → Known → Option (List ℕ)
walk code zero s k = None
walk code (suc n) s k = walk_at (λ t l. walk code n t l) s k (at code s)

-- the queues that a run of dispatch asks one after another, if none has a task for the processor at
-- hand, and that it does nothing else; none where that isn't seen
unfoldable pub vain_queues : Code → Option (List ℕ)
vain_queues code = walk code (min 64 (instruction_count code)) 0 nothing_known

-- as a list
abbrev pub queues_in : Asked → List ℕ
queues_in Nothing = []
queues_in (One a) = a ∷ []
queues_in (Two a b) = a ∷ b ∷ []
queues_in (Three a b c) = a ∷ b ∷ c ∷ []

-- ---- what it means

-- all these queues of the policy are there, and no task waits in them that may run on the processor
abbrev pub nobody_in : WorldState → ℕ → List ℕ → Bool
nobody_in w c [] = true
nobody_in w c (q ∷ qs) = nobody_in w c qs && (is_there w q && is_none (next_for w q c))

-- a run as dispatch that comes to an answer, in no more steps than the program has instructions,
-- and leaves maps and world as they are
pub record RunsInVain (code : Code) (a : Arguments) (maps : Maps) (w : WorldState) : Type 0 where
  pub steps : ℕ
  pub runs : Runs (host world_functions) callback.Dispatch code a maps w 0 steps maps w
  pub in_bound : steps ≤ instruction_count code

-- whatever it is given, dispatch runs in vain where nobody waits in these queues for the processor
-- at hand
abbrev pub OnlyAsks : Code → List ℕ → Type 0
OnlyAsks code qs =
    (a : Arguments) (maps : Maps) (w : WorldState)
    → w.call.callback ≡ callback.Dispatch → nobody_in w w.call.cpu qs ≡ true
    → RunsInVain code a maps w

-- ---- a policy's dispatch

-- the queues that it asks in vain: none where there is no dispatch
abbrev pub asked_in : Option VerifiedProgram → Option (List ℕ)
asked_in None = Some []
asked_in (Some p) = vain_queues p.code

-- true if these queues are known and nobody waits in them for the processor
abbrev pub in_vain : WorldState → ℕ → Option (List ℕ) → Bool
in_vain w c None = false
in_vain w c (Some qs) = nobody_in w c qs
