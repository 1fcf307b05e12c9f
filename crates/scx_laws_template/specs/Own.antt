-- A policy of your own with one queue, and its theorem.
use Rattle.std.specs.Prelude.{◌≡◌, ℕ, false, List, [], ◌∷◌, Some, None, codes}
use Rattle.scx_isa_semantics.specs.declared.callbacks.Callback.TheVariants as callback
use Rattle.scx_isa_semantics.specs.declared.rules.Rules.TheVariants.{Plain}
use Rattle.scx_isa_semantics.specs.Elements.{Maps}
use Rattle.scx_vm.specs.Programs.{VerifiedProgram}
use Rattle.scx_weights.specs.Hierarchy.{Hierarchy}
use Rattle.scx_weights.specs.Limits.{has_quota}
use Rattle.scx_sched_world.specs.World.{WorldState}
use Rattle.scx_sched_world.specs.Helpers.{after_insert}
use Rattle.scx_sched_world.specs.Inserts.{insert_in_order}
use Rattle.scx_sched_machine.specs.declared.events.Event.{Event}
use Rattle.scx_sched_policy.specs.Policy.{PolicyState, program_of}
use Rattle.scx_sched_machine.specs.Callbacks.{call_ending, task_and_number}
use Rattle.scx_sched.specs.Sim.{SimState, refusal, after_event}
use Rattle.scx_laws.specs.Runs.{IsBegun, after_events}
use Rattle.scx_laws.specs.Serving.{Serves, IdlesForNobody, looks}
use Rattle.scx_laws.specs.Texts.{Says}

-- ---- the policy: change this

-- its queue
abbrev pub queue : ℕ
queue = 0

-- its slice in nanoseconds
abbrev pub slice : ℕ
slice = 2000000

-- its enqueue, as the policy file has it
abbrev pub enqueue_text : List ℕ
enqueue_text = codes "r4 = r2\nr2 = 0\nr3 = 2000000\ncall 1002\nexit\n"

-- its dispatch
abbrev pub dispatch_text : List ℕ
dispatch_text = codes "r1 = 0\ncall 1004\nexit\n"

-- ---- its theorem

-- enqueue puts the task at the end of the queue, with that slice, and does nothing else
abbrev pub TasksAreQueued : Type 0
TasksAreQueued =
    (p : VerifiedProgram) (t flags : ℕ) (maps : Maps) (w : WorldState)
    → Says enqueue_text p.code
    → (call_ending (Some p) callback.Enqueue (task_and_number t flags) maps w).outside
    ≡ after_insert w (Some t) (insert_in_order w queue slice flags) flags

-- dispatch moves the front of the queue, and does nothing else
abbrev pub QueueIsServed : Type 0
QueueIsServed = (p : VerifiedProgram) → Says dispatch_text p.code → Serves (queue ∷ []) p

-- By plain rules and without quotas, whatever the other programs are and whichever events came
-- before: where a tick, or the sleep of the task that ran there, leaves a CPU idle, no task waits
-- in the queue, in the CPU's own queue or in the global one, unless the policy is out of force.
abbrev pub NoTaskIsLeft : Type 0
NoTaskIsLeft =
    (d : VerifiedProgram) (p : PolicyState) (tree : Hierarchy) (cpus : ℕ) (s : SimState)
    (events : List Event) (v : Event) (c : ℕ)
    → Says dispatch_text d.code
    → program_of p callback.Dispatch ≡ Some d
    → p.rules ≡ Plain
    → has_quota tree.groups ≡ false
    → IsBegun p tree cpus s
    → refusal (after_events s events) v ≡ None
    → looks (after_events s events).state.world v ≡ Some c
    → IdlesForNobody (queue ∷ []) (after_event (after_events s events) v).state.world c
