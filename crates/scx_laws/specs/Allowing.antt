-- What the machine computes is what the rules allow, and the only thing that they allow.
use Rattle.std.specs.Prelude.{◌≡◌, ◌≢◌, ℕ, ℤ, ◌^◌, ◌<◌, Bool, true, false, nat_lt, int_lt, List, length, Option, Some, None, Result}
use Rattle.std.specs.Int.{w64, cast_signed}
use Rattle.scx_isa_semantics.specs.declared.callbacks.Callback.{Callback}
use Rattle.scx_isa_semantics.specs.declared.host_tables.Helper.{Helper}
use Rattle.scx_isa_semantics.specs.HostTables.{is_of_map}
use Rattle.scx_vm.specs.declared.arguments.Arg.{Arg}
use Rattle.scx_vm.specs.declared.arguments.Answer.{Answer}
use Rattle.scx_vm.specs.declared.arguments.Args.{Args}
use Rattle.scx_weights.specs.Hierarchy.{Hierarchy}
use Rattle.scx_sched_world.specs.declared.call.Insert.{Insert}
use Rattle.scx_sched_world.specs.World.{WorldState, with_cycling, running, is_by_linux, is_claimed, current}
use Rattle.scx_sched_world.specs.Tasks.{key_by, after_enter}
use Rattle.scx_sched_world.specs.Helpers.{helper_answer, helper_after}
use Rattle.scx_sched_machine.specs.declared.events.Event.{Event}
use Rattle.scx_sched_machine.specs.declared.events.Refused.{Refused}
use Rattle.scx_sched_machine.specs.Steps.{State, Stepped}
use Rattle.scx_sched_policy.specs.Policy.{PolicyState}
use Rattle.scx_sched_machine.specs.Callbacks.{call_back, answered_by, AreAnswered}
use Rattle.scx_sched_machine.specs.Cycle.{cycle}
use Rattle.scx_sched_machine.specs.Events.{refusal, event_step}
use Rattle.scx_sched_machine.specs.Start.{is_bad_shape, first_state, start_calls}
use Rattle.scx_laws.specs.Entries.{EntersQueue}
use Rattle.scx_laws.specs.Helpers.{IsEffect}
use Rattle.scx_laws.specs.Callbacks.{CallsBack}
use Rattle.scx_laws.specs.Cycles.{Cycles}
use Rattle.scx_laws.specs.Events.{Happens}
use Rattle.scx_laws.specs.Refusals.{Refuses}
use Rattle.scx_laws.specs.Starts.{HasBadShape, Begins}

-- what a helper answers and leaves; those on maps are a run's own
abbrev pub RulesAllowHelpers : Type 0
RulesAllowHelpers =
    (w : WorldState) (h : Helper) (a : List Arg)
    → is_of_map h ≡ false → IsEffect w h a (helper_answer w h a) (helper_after w h a)

-- of a helper call the rules allow no other answer, and no other world, than are computed
abbrev pub RulesAllowHelpersOnly : Type 0
RulesAllowHelpersOnly =
    (w : WorldState) (h : Helper) (a : List Arg) (x : Answer) (v : WorldState) → IsEffect w h a x v
    → (x ≡ helper_answer w h a) × (v ≡ helper_after w h a)

-- a task that comes into a queue
abbrev pub RulesAllowEntries : Type 0
RulesAllowEntries =
    (w : WorldState) (t : ℕ) (i : Insert)
    → t < length w.tasks → EntersQueue w t i (after_enter w t i)

-- the rules of entries allow no other world than the one that is computed
abbrev pub RulesAllowEntriesOnly : Type 0
RulesAllowEntriesOnly =
    (w : WorldState) (t : ℕ) (i : Insert) (v : WorldState)
    → t < length w.tasks → EntersQueue w t i v → v ≡ after_enter w t i

-- under Linux rules the keys of a queue compare as virtual times do that are signed numbers
abbrev pub KeysCompareBySign : Type 0
KeysCompareBySign =
    (w : WorldState) (m n : ℕ)
    → is_by_linux w ≡ true → m < 2 ^ 64 → n < 2 ^ 64
    → nat_lt (key_by w m) (key_by w n) ≡ int_lt (cast_signed w64 m) (cast_signed w64 n)

-- as a cycle begins the claim on its processor ends, and no other does
abbrev pub CyclesEndClaims : Type 0
CyclesEndClaims =
    (w : WorldState) (c : ℕ)
    → c < 64
    → (is_claimed (with_cycling w (Some c)) c ≡ false)
    × ((d : ℕ) → d < 64 → d ≢ c → is_claimed (with_cycling w (Some c)) d ≡ is_claimed w d)

-- as a cycle ends, the current task of each processor is the one that runs there
abbrev pub CyclesEndSwitches : Type 0
CyclesEndSwitches =
    (w : WorldState) (c : ℕ)
    → is_by_linux w ≡ true → current (with_cycling w None) c ≡ running w c

-- as a cycle begins, the task that was current on a processor stays the current one there
abbrev pub CyclesKeepCurrent : Type 0
CyclesKeepCurrent =
    (w : WorldState) (c d : ℕ) → current (with_cycling w (Some c)) d ≡ current w d

-- a callback that comes to an answer, as each does that an event calls
abbrev pub RulesAllowCallbacks : Type 0
RulesAllowCallbacks =
    (s : State) (b : Callback) (a : Args) (t c : ℕ)
    → AreAnswered (call_back s b a t c).calls
    → CallsBack s b a t c (answered_by s b a t c) (call_back s b a t c)

-- of a callback the rules allow no other answer, and no other step, than are computed
abbrev pub RulesAllowCallbacksOnly : Type 0
RulesAllowCallbacksOnly =
    (s : State) (b : Callback) (a : Args) (t c : ℕ) (answer : Option ℕ) (r : Stepped)
    → CallsBack s b a t c answer r → (answer ≡ answered_by s b a t c) × (r ≡ call_back s b a t c)

-- a cycle
abbrev pub RulesAllowCycles : Type 0
RulesAllowCycles =
    (s : State) (c : ℕ) (p : Option ℕ) (ran : Bool) → Cycles s c p ran (cycle s c p ran)

-- of a cycle the rules allow no other step than the one that is computed
abbrev pub RulesAllowCyclesOnly : Type 0
RulesAllowCyclesOnly =
    (s : State) (c : ℕ) (p : Option ℕ) (ran : Bool) (r : Stepped)
    → Cycles s c p ran r → r ≡ cycle s c p ran

-- an accepted event
abbrev pub RulesAllowEvents : Type 0
RulesAllowEvents = (s : State) (v : Event) → refusal s v ≡ None → Happens s v (event_step s v)

-- of an accepted event the rules allow no other step than the one that is computed
abbrev pub RulesAllowEventsOnly : Type 0
RulesAllowEventsOnly =
    (s : State) (v : Event) (r : Stepped) → refusal s v ≡ None → Happens s v r → r ≡ event_step s v

-- a refusal
abbrev pub RulesRefuseEvents : Type 0
RulesRefuseEvents = (s : State) (v : Event) (r : Refused) → refusal s v ≡ Some r → Refuses s v r

-- the rules refuse no event that isn't refused, and none for another cause
abbrev pub RulesRefuseEventsOnly : Type 0
RulesRefuseEventsOnly = (s : State) (v : Event) (r : Refused) → Refuses s v r → refusal s v ≡ Some r

-- a start, of a policy of which each program that is called comes to an answer, as each does
abbrev pub RulesAllowStarts : Type 0
RulesAllowStarts =
    (p : PolicyState) (tree : Hierarchy) (cpus : ℕ)
    → AreAnswered (start_calls p tree cpus) → Begins p tree cpus (first_state p tree cpus)

-- of a start the rules allow no other state or failure than the one that is computed
abbrev pub RulesAllowStartsOnly : Type 0
RulesAllowStartsOnly =
    (p : PolicyState) (tree : Hierarchy) (cpus : ℕ) (r : Result State ℤ)
    → Begins p tree cpus r → r ≡ first_state p tree cpus

-- and of what no machine is made
abbrev pub RulesRefuseShapes : Type 0
RulesRefuseShapes =
    (tree : Hierarchy) (cpus : ℕ) → is_bad_shape tree cpus ≡ true → HasBadShape tree cpus

-- the rules call no other shape bad than those that are computed as bad
abbrev pub RulesRefuseShapesOnly : Type 0
RulesRefuseShapesOnly =
    (tree : Hierarchy) (cpus : ℕ) → HasBadShape tree cpus → is_bad_shape tree cpus ≡ true
