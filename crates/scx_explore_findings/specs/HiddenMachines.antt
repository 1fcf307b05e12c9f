-- Machines that are the same but for hidden times, and like answers of two machines.
use Rattle.std.specs.Prelude.{◌≡◌, ⊤, true, List, [], ◌∷◌, map}
use Rattle.scx_sched_machine.specs.declared.events.Event.{Event}
use Rattle.scx_sched_policy.specs.Policy.{PolicyState}
use Rattle.scx_sched.specs.Sim.{SimState, refusal, after_event, notes_of, calls_of}
use Rattle.scx_load_driver.specs.Runs.{stepped_all, notes_of_all, AreAccepted}
use Rattle.scx_explore_findings.specs.Asked.{AskAnyhow}
use Rattle.scx_explore_findings.specs.Hidden.{Hidden}
use Rattle.scx_explore_findings.specs.HiddenStates.{hide_state, hide_call, late_in}
use Rattle.scx_explore_findings.specs.Unread.{ReadsNone}

-- the machine without all that is hidden
abbrev pub hide_machine : Hidden → SimState → SimState
hide_machine h s = record s { state = hide_state h s.state }

-- two machines are the same but for what is hidden
abbrev pub AreSame : Hidden → SimState → SimState → Type 0
AreSame h s t = hide_machine h s ≡ hide_machine h t

-- where waits are hidden, the same task or none waits too long in both machines, as the clock grows
abbrev pub AreAsLate : Hidden → SimState → SimState → Event → Type 0
AreAsLate h s t e = h.waits ≡ true → late_in s.state e ≡ late_in t.state e

-- so it is in each event of a list
abbrev pub StayAsLate : Hidden → SimState → SimState → List Event → Type 0
StayAsLate h s t [] = ⊤
StayAsLate h s t (e ∷ es) =
    AreAsLate h s t e × StayAsLate h (after_event s e) (after_event t e) es

-- no program of the policy asks for what is hidden, whatever it is given and answered
abbrev pub AreUnread : Hidden → PolicyState → Type 0
AreUnread h p = AskAnyhow (ReadsNone h) p

-- Both machines answer an event alike: it is refused for the same cause or accepted by both, the
-- same is noted, the same callbacks are called with the same arguments and maps, in worlds that are
-- the same but for what is hidden, and so are the machines after it.
pub record AnswersAlike (h : Hidden) (s t : SimState) (e : Event) : Type 0 where
  pub refusal : refusal s e ≡ refusal t e
  pub notes : notes_of s e ≡ notes_of t e
  pub calls : map (hide_call h) (calls_of s e) ≡ map (hide_call h) (calls_of t e)
  pub after : AreSame h (after_event s e) (after_event t e)

-- the same of a list of events, each of which either both machines accept or none does
pub record GoesAlike (h : Hidden) (s t : SimState) (events : List Event) : Type 0 where
  pub accepted : AreAccepted s events → AreAccepted t events
  pub notes : notes_of_all s events ≡ notes_of_all t events
  pub after : AreSame h (stepped_all s events) (stepped_all t events)
