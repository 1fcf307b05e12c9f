-- Findings: the ends of a list of events that a search looks for.
use Rattle.std.specs.Prelude.{◌≡◌, ℕ, ℤ, ◌+◌, ◌-◌, ◌==◌, ◌||◌, ◌&&◌, Bool, true, false, List, [], ◌∷◌, ◌++◌, length, nat_lt, ◌<◌, slice_index, slice_index_or, Option, Some, None, option_map, unwrap_or, if◌then◌else◌}
use Rattle.scx_isa_semantics.specs.declared.callbacks.Callback.{Callback}
use Rattle.scx_dsq.specs.Queues.{queue_of}
use Rattle.scx_sched_world.specs.Faults.{fault_number}
use Rattle.scx_sched_world.specs.Ids.{policy_end, global, held_queue, parked_queue}
use Rattle.scx_sched_world.specs.World.{WorldState, is_by_linux, may_run, running, waits, wait}
use Rattle.scx_sched_world.specs.declared.eject.Eject.{Eject}
use Rattle.scx_sched_world.specs.declared.eject.Eject.TheVariants as cause
use Rattle.scx_sched_world.specs.declared.faults.Fault as faults
use Rattle.scx_sched_world.specs.declared.notes.Note.{Note}
use Rattle.scx_sched_world.specs.declared.notes.What.{What}
use Rattle.scx_sched_world.specs.declared.notes.What.TheVariants.{Wake, Sleep, Insert, Move, Run, Stop, Idle, Weight, TaskWeight, Stall, Fault, Exit}
use Rattle.scx_sched_machine.specs.declared.events.Event.{Event}
use Rattle.scx_sched_machine.specs.declared.events.Event.TheVariants.{Tick}
use Rattle.scx_sched.specs.Sim.{SimState, refusal, calls_of}
use Rattle.scx_load_driver.specs.Runs.{stepped_all, notes_of_all}
use Rattle.scx_explore_findings.specs.declared.outcome.Outcome.{Outcome}
use Rattle.scx_explore_findings.specs.declared.outcome.Outcome.TheVariants as outcome
use Rattle.scx_explore_findings.specs.Outcomes.{IsInForceFor, IsEjectedAt}
use Rattle.scx_explore_findings.specs.declared.finding.Pair.{Pair}
use Rattle.scx_explore_findings.specs.Running.{IsRunAmong}
use Rattle.scx_explore_findings.specs.declared.finding.Sort.{Sort}
use Rattle.scx_explore_findings.specs.declared.finding.Sort.TheVariants as sort
use Rattle.scx_explore_findings.specs.declared.finding.Finding.{Finding}
use Rattle.scx_explore_findings.specs.declared.finding.Finding.TheVariants as finding

-- the place of a sort among those that are told: faults by their numbers, and four after them
abbrev pub sort_number : Sort → ℕ
sort_number (sort.Fault f) = fault_number f
sort_number sort.Stall = 10
sort_number sort.Idle = 11
sort_number sort.Overtaken = 12
sort_number sort.Exit = 13

-- of which sort a finding is, if it is of one
abbrev pub sort_of : Finding → Option Sort
sort_of (finding.Fault f) = Some (sort.Fault f)
sort_of (finding.Stall t) = Some sort.Stall
sort_of (finding.Idle c t) = Some sort.Idle
sort_of (finding.Overtaken p) = Some sort.Overtaken
sort_of (finding.Waits t ms) = None
sort_of (finding.Exit n) = Some sort.Exit
sort_of (finding.Takes b n) = None

-- the fault for which a policy is ejected
abbrev pub fault_in : Option Eject → Option faults.Fault
fault_in None = None
fault_in (Some (cause.Fault f clock)) = Some f
fault_in (Some (cause.Stall t clock)) = None
fault_in (Some (cause.Exit n clock)) = None

-- the task that waited too long for a policy that is ejected for that
abbrev pub stall_in : Option Eject → Option ℕ
stall_in None = None
stall_in (Some (cause.Fault f clock)) = None
stall_in (Some (cause.Stall t clock)) = Some t
stall_in (Some (cause.Exit n clock)) = None

-- the code with which a callback ended the policy
abbrev pub exit_in : Option Eject → Option ℤ
exit_in None = None
exit_in (Some (cause.Fault f clock)) = None
exit_in (Some (cause.Stall t clock)) = None
exit_in (Some (cause.Exit n clock)) = Some n

-- the list ends with that event
abbrev pub IsLast : List Event → Event → Type 0
IsLast events e = (d : Event) → slice_index_or events (length events - 1) d ≡ e

-- an idle processor leaves tasks in GLOBAL: under Linux rules, where it sleeps until it is given
-- work; under plain rules it takes them
abbrev pub leaves_global : WorldState → Bool
leaves_global w = is_by_linux w

-- in a queue of the policy, in none that the policy chose, or in GLOBAL, where tasks are left there
abbrev pub is_left : Bool → Option ℕ → Bool
is_left leaves None = false
is_left leaves (Some q) = nat_lt q policy_end || (q == held_queue || (leaves && q == global))

-- the task waits, and may run on that processor, which leaves it while it is idle
abbrev pub waits_left : WorldState → ℕ → ℕ → Bool
waits_left w c t = is_left (leaves_global w) (queue_of w.queues t) && may_run w t c

-- the first task that the processor leaves so, or it leaves none
abbrev pub IsFirstLeft : WorldState → ℕ → Option ℕ → Type 0
IsFirstLeft w c None = (u : ℕ) → u < length w.tasks → waits_left w c u ≡ false
IsFirstLeft w c (Some t) = (t < length w.tasks) × (waits_left w c t ≡ true)
    × ((u : ℕ) → u < t → waits_left w c u ≡ false)

-- after a tick that leaves its CPU idle the first task is told that waits and may run there; after
-- any other event, or where no task waits so, nothing is
abbrev pub IsIdleBehind : SimState → Event → Option Finding → Type 0
IsIdleBehind s e None =
    (c : ℕ) → e ≡ Tick c → running s.state.world c ≡ None → IsFirstLeft s.state.world c None
IsIdleBehind s e (Some (finding.Idle c t)) = (e ≡ Tick c) × (running s.state.world c ≡ None)
    × IsFirstLeft s.state.world c (Some t)
IsIdleBehind s e (Some (finding.Fault f)) = ⊥
IsIdleBehind s e (Some (finding.Stall t)) = ⊥
IsIdleBehind s e (Some (finding.Overtaken p)) = ⊥
IsIdleBehind s e (Some (finding.Exit n)) = ⊥
IsIdleBehind s e (Some (finding.Waits t ms)) = ⊥
IsIdleBehind s e (Some (finding.Takes b n)) = ⊥

-- one more, up to two
abbrev pub once_more : ℕ → ℕ
once_more n = if nat_lt n 2 then n + 1 else n

-- the count of the first task of a pair after it comes into a queue: none while it is parked; it
-- begins at 0 as its wait does
abbrev pub begun_in_queue : Option ℕ → ℕ → Option ℕ
begun_in_queue b q = if q == parked_queue then None else Some (unwrap_or b 0)

-- the count after an insert, which changes it for the first task of the pair alone
abbrev pub begun_after_insert : Pair → Option ℕ → ℕ → ℕ → Option ℕ
begun_after_insert p b t q = if t == p.waits then begun_in_queue b q else b

-- the count after a run: there is none where the first task runs
abbrev pub begun_after_run : Pair → Option ℕ → ℕ → Option ℕ
begun_after_run p b t =
    if t == p.waits then None else if t == p.runs then option_map once_more b else b

-- how often the second task of a pair began to run, up to two, since the first one waits, after
-- what happens: none while it doesn't wait, as one that is parked
abbrev pub begun_after : Pair → Option ℕ → What → Option ℕ
begun_after p b (Insert t q) = begun_after_insert p b t q
begun_after p b (Sleep t) = if t == p.waits then None else b
begun_after p b (Run t c) = begun_after_run p b t
begun_after p b (Wake t) = b
begun_after p b (Move t c) = b
begun_after p b (Stop t c) = b
begun_after p b (Idle c) = b
begun_after p b (Weight g x) = b
begun_after p b (TaskWeight t x) = b
begun_after p b (Stall t) = b
begun_after p b (Fault f) = b
begun_after p b (Exit n) = b

-- that count after notes
abbrev pub begun_over : Pair → Option ℕ → List Note → Option ℕ
begun_over p b [] = b
begun_over p b (n ∷ ns) = begun_over p (begun_after p b n.what) ns

-- the policy is ejected for that fault by the last event of the list, and is in force before it
pub record EndsInFault (s : SimState) (events : List Event) (f : faults.Fault) : Type 0 where
  pub at : ℕ
  pub clock : ℕ
  pub ejected : IsEjectedAt s events at (cause.Fault f clock)
  pub last : at + 1 ≡ length events

-- the policy is ejected by the last event of the list because that task waited too long, and is in
-- force before it
pub record EndsInStall (s : SimState) (events : List Event) (t : ℕ) : Type 0 where
  pub at : ℕ
  pub clock : ℕ
  pub ejected : IsEjectedAt s events at (cause.Stall t clock)
  pub last : at + 1 ≡ length events

-- a callback ends the policy with that code in the last event of the list, and the policy is in
-- force before it
pub record EndsInExit (s : SimState) (events : List Event) (n : ℤ) : Type 0 where
  pub at : ℕ
  pub clock : ℕ
  pub ejected : IsEjectedAt s events at (cause.Exit n clock)
  pub last : at + 1 ≡ length events

-- the last event is a tick that leaves its processor idle, while the task, which may run there, is
-- left waiting; the policy is in force
pub record EndsIdle (s : SimState) (events : List Event) (c t : ℕ) : Type 0 where
  pub force : IsInForceFor s events (length events)
  pub last : IsLast events (Tick c)
  pub idle : running (stepped_all s events).state.world c ≡ None
  pub left : waits_left (stepped_all s events).state.world c t ≡ true

-- what comes of the list is an ejection for that fault by its last event, of `count`
abbrev pub IsFaultAtEnd : Outcome → ℕ → faults.Fault → Type 0
IsFaultAtEnd (outcome.Ejected at (cause.Fault g clock)) count f = (g ≡ f) × (at + 1 ≡ count)
IsFaultAtEnd (outcome.Ejected at (cause.Stall t clock)) count f = ⊥
IsFaultAtEnd (outcome.Ejected at (cause.Exit n clock)) count f = ⊥
IsFaultAtEnd outcome.InForce count f = ⊥
IsFaultAtEnd (outcome.Refused at r) count f = ⊥

-- the same of an ejection because that task waited too long
abbrev pub IsStallAtEnd : Outcome → ℕ → ℕ → Type 0
IsStallAtEnd (outcome.Ejected at (cause.Stall u clock)) count t = (u ≡ t) × (at + 1 ≡ count)
IsStallAtEnd (outcome.Ejected at (cause.Fault f clock)) count t = ⊥
IsStallAtEnd (outcome.Ejected at (cause.Exit n clock)) count t = ⊥
IsStallAtEnd outcome.InForce count t = ⊥
IsStallAtEnd (outcome.Refused at r) count t = ⊥

-- the same of an ejection by a callback that ended the policy with that code
abbrev pub IsExitAtEnd : Outcome → ℕ → ℤ → Type 0
IsExitAtEnd (outcome.Ejected at (cause.Exit m clock)) count n = (m ≡ n) × (at + 1 ≡ count)
IsExitAtEnd (outcome.Ejected at (cause.Fault f clock)) count n = ⊥
IsExitAtEnd (outcome.Ejected at (cause.Stall t clock)) count n = ⊥
IsExitAtEnd outcome.InForce count n = ⊥
IsExitAtEnd (outcome.Refused at r) count n = ⊥

-- the list is accepted and the policy in force, and in its notes the second task of the pair began
-- to run twice since the first one waits
abbrev pub IsTwice : SimState → List Event → Pair → Type 0
IsTwice s events p =
    IsInForceFor s events (length events) × (begun_over p None (notes_of_all s events) ≡ Some 2)

-- both tasks of the pair are of the same group
pub record AreTogether (homes : List ℕ) (p : Pair) : Type 0 where
  pub waits : p.waits < length homes
  pub runs : p.runs < length homes
  pub same : slice_index homes p.waits ≡ slice_index homes p.runs

-- after the list the first task of the pair waits, while the second one, of the same group, began
-- to run twice; the policy is in force
pub record EndsOvertaken (homes : List ℕ) (s : SimState) (events : List Event) (p : Pair) : Type 0
  where
    pub together : AreTogether homes p
    pub twice : IsTwice s events p

-- after the list the task waits, and has waited for that many milliseconds; the policy is in force
pub record EndsWaiting (s : SimState) (events : List Event) (t ms : ℕ) : Type 0 where
  pub force : IsInForceFor s events (length events)
  pub waits : waits (stepped_all s events).state.world t ≡ true
  pub long : wait (stepped_all s events).state.world t ≡ ms

-- the list is accepted, and the policy in force up to its last event; and one of the callbacks that
-- are called in that event is the one, and its program takes n instructions in that run
pub record EndsTaking (s : SimState) (events : List Event) (b : Callback) (n : ℕ) : Type 0 where
  pub before : List Event
  pub event : Event
  pub list : events ≡ before ++ event ∷ []
  pub force : IsInForceFor s before (length before)
  pub accepted : refusal (stepped_all s before) event ≡ None
  pub called : IsRunAmong (calls_of (stepped_all s before) event) b n

-- given to that machine, whose tasks are of these groups, the list is accepted and ends so
abbrev pub Shows : List ℕ → SimState → List Event → Finding → Type 0
Shows homes s events (finding.Fault f) = EndsInFault s events f
Shows homes s events (finding.Stall t) = EndsInStall s events t
Shows homes s events (finding.Exit n) = EndsInExit s events n
Shows homes s events (finding.Idle c t) = EndsIdle s events c t
Shows homes s events (finding.Overtaken p) = EndsOvertaken homes s events p
Shows homes s events (finding.Waits t ms) = EndsWaiting s events t ms
Shows homes s events (finding.Takes b n) = EndsTaking s events b n
