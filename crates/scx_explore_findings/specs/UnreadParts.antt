-- Machines that are the same but for parts that nothing reads: the order numbers of pushes, the
-- last callback, kicks under plain rules, and usages of groups where none has a quota.
use Rattle.std.specs.Prelude.{◌≡◌, ℕ, ◌+◌, ◌<◌, ◌≤◌, Bool, true, false, List, length, Option}
use Rattle.scx_dsq.specs.Queues.{QueueState}
use Rattle.scx_isa_semantics.specs.declared.rules.Rules.{Rules}
use Rattle.scx_weights.specs.declared.group.Group.{Group}
use Rattle.scx_weights.specs.Limits.{has_quota}
use Rattle.scx_sched_world.specs.declared.call.Call.{Call}
use Rattle.scx_sched_world.specs.declared.cpu_set.CpuSet.{CpuSet}
use Rattle.scx_sched_world.specs.World.{WorldState, are_linux}
use Rattle.scx_sched_machine.specs.declared.events.Event.{Event}
use Rattle.scx_sched_machine.specs.Steps.{State, with_world}
use Rattle.scx_sched.specs.Sim.{SimState, max_events, refusal, after_event, notes_of}
use Rattle.scx_load_driver.specs.Runs.{stepped_all, notes_of_all, AreAccepted}
use Rattle.scx_explore_states.specs.declared.form.Form.{Form}
use Rattle.scx_explore_states.specs.Written.{IsWritten}
use Rattle.scx_explore_findings.specs.Findings.{IsIdleBehind}
use Rattle.scx_explore_findings.specs.declared.finding.Finding.{Finding}
use Rattle.scx_explore_findings.specs.QueueOrder.{AreAsQueues}

-- the parts of a world in which two worlds may differ
pub record Parts : Type 0 where
  pub queues : QueueState
  pub call : Call  -- the last callback
  pub kicked : CpuSet
  pub preempted : CpuSet
  pub usages : List ℕ  -- the time that each group has used in its period

-- those of a world
abbrev pub parts_of : WorldState → Parts
parts_of w = record {
  queues = w.queues;
  call = w.call;
  kicked = w.kicked;
  preempted = w.preempted;
  usages = w.tree.usages;
}

-- the world with other ones
abbrev pub with_parts : WorldState → Parts → WorldState
with_parts w p = record w {
  queues = p.queues;
  call = p.call;
  kicked = p.kicked;
  preempted = p.preempted;
  tree = record w.tree { usages = p.usages };
}

-- Parts of two worlds by those rules and with those groups are alike: tasks leave their queues in
-- the same order, kicks are the same under Linux rules, and usages are where a group has a quota.
-- The callback is the same too, where that is said.
pub record AreAlike
    (same_call : Bool) (rules : Rules) (groups : List Group) (p q : Parts) : Type 0 where
  pub queues : AreAsQueues p.queues q.queues
  pub call : same_call ≡ true → p.call ≡ q.call
  pub kicked : are_linux rules ≡ true → p.kicked ≡ q.kicked
  pub preempted : are_linux rules ≡ true → p.preempted ≡ q.preempted
  pub usages : has_quota groups ≡ true → p.usages ≡ q.usages

-- these parts are alike to those of the world
abbrev pub Fits : Bool → WorldState → Parts → Type 0
Fits b w p = AreAlike b w.rules w.tree.groups (parts_of w) p

-- two worlds are the same but for such parts
pub record AreAsWorlds (b : Bool) (v w : WorldState) : Type 0 where
  pub parts : Fits b v (parts_of w)
  pub rest : with_parts v (parts_of w) ≡ w

-- two states of a machine are the same but for such parts
pub record AreAsStates (b : Bool) (s t : State) : Type 0 where
  pub parts : Fits b s.world (parts_of t.world)
  pub rest : with_world s (with_parts s.world (parts_of t.world)) ≡ t

-- ---- laws

-- two machines are the same between events but for such parts, and how many events they accepted
abbrev pub AreSame : SimState → SimState → Type 0
AreSame s t = AreAsStates false s.state t.state

-- Two machines answer an event alike: it is refused for the same cause or accepted by both, the
-- same is noted, and the machines after it are the same but for such parts.
pub record AnswersAlike (s t : SimState) (e : Event) : Type 0 where
  pub refusal : refusal s e ≡ refusal t e
  pub notes : notes_of s e ≡ notes_of t e
  pub after : AreSame (after_event s e) (after_event t e)

-- the same of a list of events, each of which either both machines accept or none does
pub record GoAlike (s t : SimState) (events : List Event) : Type 0 where
  pub accepted : AreAccepted s events → AreAccepted t events
  pub notes : notes_of_all s events ≡ notes_of_all t events
  pub after : AreSame (stepped_all s events) (stepped_all t events)

-- under any policy two machines that are the same but for such parts, and have room for one more
-- event, answer it alike
abbrev pub EventsReadNoSuchPart : Type 0
EventsReadNoSuchPart =
    (s t : SimState) (e : Event)
    → AreSame s t
    → s.events < max_events
    → t.events < max_events
    → AnswersAlike s t e

-- and a list of events, for which both have room
abbrev pub ListsReadNoSuchPart : Type 0
ListsReadNoSuchPart =
    (s t : SimState) (events : List Event)
    → AreSame s t
    → s.events + length events ≤ max_events
    → t.events + length events ≤ max_events
    → GoAlike s t events

-- Where one shows something so does the other one: the policy is ejected for the same cause, if it
-- is at all; the same processor is idle while the same task waits; and a form that leaves out the
-- number of pushes writes both as the same words.
pub record ShowsAlike (s t : SimState) : Type 0 where
  pub ejected : s.state.world.ejected ≡ t.state.world.ejected
  pub idle : (e : Event) (o : Option Finding) → IsIdleBehind s e o → IsIdleBehind t e o
  pub written : (f : Form) (ids xs : List ℕ)
      → f.pushes ≡ false → IsWritten f ids xs s → IsWritten f ids xs t

-- two machines that are the same but for such parts show the same
abbrev pub SuchPartsShowNothing : Type 0
SuchPartsShowNothing = (s t : SimState) → AreSame s t → ShowsAlike s t
