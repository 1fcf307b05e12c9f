-- Laws: hidden times change nothing, if no program loads them.
use Rattle.std.specs.Prelude.{◌≡◌, ℕ, ◌<◌, true, false, List, length, None}
use Rattle.scx_sched_machine.specs.declared.events.Event.{Event}
use Rattle.scx_sched.specs.Sim.{SimState, IsValid, calls_of}
use Rattle.scx_load_driver.specs.Runs.{stepped_all, AreAccepted}
use Rattle.scx_explore_states.specs.declared.form.Form.{Form}
use Rattle.scx_explore_states.specs.Written.{IsWritten}
use Rattle.scx_explore_findings.specs.Asked.{CallsAsk}
use Rattle.scx_explore_findings.specs.Hidden.{Hidden}
use Rattle.scx_explore_findings.specs.HiddenStates.{late_in}
use Rattle.scx_explore_findings.specs.Unread.{ReadsNone}
use Rattle.scx_explore_findings.specs.HiddenMachines.{AreSame, AreUnread, AreAsLate, StayAsLate, AnswersAlike, GoesAlike}

-- two machines that are the same but for what is hidden answer an event alike
abbrev pub EventsDontDepend : Type 0
EventsDontDepend =
    (h : Hidden) (s t : SimState) (e : Event)
    → AreUnread h s.state.policy
    → AreSame h s t
    → AreAsLate h s t e
    → AnswersAlike h s t e

-- so they do where no callback that one of them calls asks for what is hidden
abbrev pub CallsDontDepend : Type 0
CallsDontDepend =
    (h : Hidden) (s t : SimState) (e : Event)
    → CallsAsk (λ w. ReadsNone h) (calls_of s e)
    → AreSame h s t
    → AreAsLate h s t e
    → AnswersAlike h s t e

-- and a list of events
abbrev pub ListsDontDepend : Type 0
ListsDontDepend =
    (h : Hidden) (s t : SimState) (events : List Event)
    → AreUnread h s.state.policy
    → AreSame h s t
    → StayAsLate h s t events
    → GoesAlike h s t events

-- what is hidden is left out of states
pub record LeavesOut (f : Form) (h : Hidden) : Type 0 where
  pub run_ns : h.run_ns ≡ true → f.run_ns ≡ false
  pub vtime : h.vtime ≡ true → f.vtime ≡ false
  pub waits : h.waits ≡ true → f.waits ≡ false

-- two machines that are the same but for what is left out are written as the same words
abbrev pub WordsDontDepend : Type 0
WordsDontDepend =
    (h : Hidden) (f : Form) (ids xs : List ℕ) (s t : SimState)
    → LeavesOut f h
    → AreSame h s t
    → IsWritten f ids xs s
    → IsWritten f ids xs t

-- after fewer events than a task may wait milliseconds, no task waits too long
abbrev pub NobodyIsLate : Type 0
NobodyIsLate =
    (root : SimState) (events : List Event) (e : Event)
    → IsValid root.state 0
    → AreAccepted root events
    → length events < root.state.policy.timeout_ms
    → late_in (stepped_all root events).state e ≡ None
