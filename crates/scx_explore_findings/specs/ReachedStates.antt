-- Machines that differ only in hidden parts show a search the same, and have the same words.
use Rattle.std.specs.Prelude.{◌≡◌, ℕ, ◌+◌, ◌≤◌, true, List, length, Option}
use Rattle.scx_sched_machine.specs.declared.events.Event.{Event}
use Rattle.scx_sched.specs.Sim.{SimState, IsValid}
use Rattle.scx_load_driver.specs.Runs.{stepped_all, AreAccepted}
use Rattle.scx_explore_findings.specs.Findings.{IsIdleBehind}
use Rattle.scx_explore_findings.specs.declared.finding.Finding.{Finding}
use Rattle.scx_explore_states.specs.declared.form.Form.{Form}
use Rattle.scx_explore_states.specs.Written.{IsWritten}
use Rattle.scx_explore_findings.specs.Hidden.{Hidden}
use Rattle.scx_explore_findings.specs.HiddenMachines.{AreSame, AreUnread, GoesAlike}
use Rattle.scx_explore_findings.specs.HiddenLaws.{LeavesOut}

-- Where one shows something so does the other one: the policy is ejected for the same cause, if it
-- is at all, so for the same fault or stall; the same processor is idle while the same task waits;
-- and what is written of the one without what is hidden is written of the other one.
pub record ShowsAlike (h : Hidden) (s t : SimState) : Type 0 where
  pub ejected : s.state.world.ejected ≡ t.state.world.ejected
  pub idle : (e : Event) (o : Option Finding) → IsIdleBehind s e o → IsIdleBehind t e o
  pub written : (f : Form) (ids xs : List ℕ)
      → LeavesOut f h → IsWritten f ids xs s → IsWritten f ids xs t

-- two machines that are the same but for what is hidden show the same
abbrev pub SameMachinesShowTheSame : Type 0
SameMachinesShowTheSame = (h : Hidden) (s t : SimState) → AreSame h s t → ShowsAlike h s t

-- So of two states that lists of events lead to, which are the same but for what is hidden, events
-- lead on alike. Where waits are hidden, there are no more events in all than milliseconds that a
-- task may wait.
abbrev pub ReachedStatesGoAlike : Type 0
ReachedStatesGoAlike =
    (h : Hidden) (root : SimState) (one other events : List Event)
    → IsValid root.state 0
    → AreUnread h root.state.policy
    → AreAccepted root one
    → AreAccepted root other
    → (h.waits ≡ true → length one + length events ≤ root.state.policy.timeout_ms)
    → (h.waits ≡ true → length other + length events ≤ root.state.policy.timeout_ms)
    → AreSame h (stepped_all root one) (stepped_all root other)
    → GoesAlike h (stepped_all root one) (stepped_all root other) events
