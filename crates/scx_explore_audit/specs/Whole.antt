-- A form that keeps all that programs can read leaves out nothing that matters.
use Rattle.std.specs.Prelude.{◌≡◌, ◌≢◌, ◌⊎◌, ℕ, ◌+◌, ◌≤◌, true, false, List, length, All, Option}
use Rattle.scx_maps.specs.declared.shape.Shape.{Shape}
use Rattle.scx_weights.specs.Hierarchy.{Hierarchy}
use Rattle.scx_weights.specs.Limits.{has_quota}
use Rattle.scx_sched_world.specs.World.{are_linux}
use Rattle.scx_sched_machine.specs.declared.events.Event.{Event}
use Rattle.scx_sched_policy.specs.Policy.{PolicyState, IsTimeout}
use Rattle.scx_sched_machine.specs.Start.{is_bad_shape}
use Rattle.scx_sched.specs.Sim.{SimState, IsFirstState, max_events}
use Rattle.scx_explore_findings.specs.declared.finding.Sort.{Sort}
use Rattle.scx_explore_findings.specs.declared.finding.Sort.TheVariants as sort
use Rattle.scx_explore_findings.specs.Asked.{AskAnyhow}
use Rattle.scx_explore_findings.specs.Counted.{LoadsNoCount}
use Rattle.scx_explore_findings.specs.WholeForms.{IsWhole, IsWholeInRuns, HasFew, IsLed}
use Rattle.scx_explore_states.specs.Words.{most_queues}
use Rattle.scx_explore_states.specs.declared.form.Form.{Form}
use Rattle.scx_explore_audit.specs.declared.table.Moves.{Moves}
use Rattle.scx_explore_audit.specs.declared.table.Moves.TheVariants.{Events}
use Rattle.scx_explore_audit.specs.Claims.{IsMove}
use Rattle.scx_explore_audit.specs.Closed.{Respects, RespectsRuns, FollowsRuns}
use Rattle.scx_explore_audit.specs.Laws.{NoneIn}

-- after lists of that many events the machine has room for those of one move more
abbrev pub HasRoom : Moves → SimState → ℕ → Type 0
HasRoom moves root room =
    (es : List Event) → IsMove moves root es → root.events + room + length es ≤ max_events

-- the form keeps waits, or lists are of events, none of the sorts is a stall, and in so few events
-- no task waits too long
abbrev pub MayLeaveWaits : Form → Moves → List Sort → SimState → ℕ → Type 0
MayLeaveWaits f moves sorts root room =
    (f.waits ≡ true)
    ⊎ ((moves ≡ Events) × All (λ x. x ≢ sort.Stall) sorts
    × (root.state.world.clock + room ≤ root.state.policy.timeout_ms))

-- In lists from a machine with few tasks and CPUs, and with timers by Linux rules alone, what a
-- form leaves out that keeps all that programs can read, and slices, changes nothing that is looked
-- for.
abbrev pub WholeFormsAreRespected : Type 0
WholeFormsAreRespected =
    (f : Form) (ids : List ℕ) (moves : Moves) (sorts : List Sort) (root : SimState) (room : ℕ)
    (shapes : List Shape)
    → IsWhole root.state.policy f
    → f.slices ≡ true
    → MayLeaveWaits f moves sorts root room
    → HasFew root
    → IsLed shapes root root
    → length ids ≤ most_queues
    → HasRoom moves root room
    → Respects f ids moves sorts root room

-- So it does if it keeps all that they can read in each run that fits, and callbacks run as they
-- were verified.
abbrev pub FormsWholeInRunsAreRespected : Type 0
FormsWholeInRunsAreRespected =
    (f : Form) (ids : List ℕ) (moves : Moves) (sorts : List Sort) (root : SimState) (room : ℕ)
    (shapes : List Shape)
    → IsWholeInRuns root.state.policy f
    → f.slices ≡ true
    → MayLeaveWaits f moves sorts root room
    → HasFew root
    → IsLed shapes root root
    → length ids ≤ most_queues
    → HasRoom moves root room
    → RespectsRuns f ids moves sorts root room

-- the form keeps waits, or lists are of events, and none of the sorts is a stall
abbrev pub AsksNoStalls : Form → Moves → List Sort → Type 0
AsksNoStalls f moves sorts = (f.waits ≡ true) ⊎ ((moves ≡ Events) × All (λ x. x ≢ sort.Stall) sorts)

-- the form keeps slices, or lists are of events by plain rules, no group has a quota, and no
-- program asks for a slice or a run time, which the form leaves out too, whatever it is given and
-- answered
abbrev pub MayLeaveSlices : Form → Moves → SimState → Type 0
MayLeaveSlices f moves root =
    (f.slices ≡ true)
    ⊎ ((moves ≡ Events) × (f.run_ns ≡ false) × AskAnyhow LoadsNoCount root.state.policy
    × (has_quota root.state.world.tree.groups ≡ false)
    × (are_linux root.state.world.rules ≡ false))

-- And where such a form leaves out slices, rows of ticks are followed.
abbrev pub FormsWholeInRunsAreFollowed : Type 0
FormsWholeInRunsAreFollowed =
    (f : Form) (ids : List ℕ) (moves : Moves) (sorts : List Sort) (root : SimState) (room : ℕ)
    (shapes : List Shape)
    → IsWholeInRuns root.state.policy f
    → AsksNoStalls f moves sorts
    → MayLeaveSlices f moves root
    → HasFew root
    → IsLed shapes root root
    → length ids ≤ most_queues
    → HasRoom moves root room
    → FollowsRuns f ids moves sorts root room

-- Nothing is presumed of such a form: no list of such moves shows anything of these sorts, from the
-- first state of a policy, on a machine of a good shape.
abbrev pub NeedsNoPremise : Form → Moves → Option ℕ → List Sort → SimState → ℕ → Type 0
NeedsNoPremise f moves limit sorts root room =
    (p : PolicyState) (tree : Hierarchy) (cpus : ℕ)
    → IsFirstState p tree cpus root
    → is_bad_shape tree cpus ≡ false
    → length tree.active ≡ length tree.homes
    → IsTimeout p.timeout_ms
    → IsWholeInRuns root.state.policy f
    → AsksNoStalls f moves sorts
    → MayLeaveSlices f moves root
    → HasFew root
    → HasRoom moves root room
    → NoneIn moves limit sorts root
