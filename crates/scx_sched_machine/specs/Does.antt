-- What each function of the machine does: it goes through a step.
use Rattle.std.specs.Prelude.{◌≡◌, ℕ, ◌+◌, ◌≤◌}
use Rattle.scx_sched_world.specs.declared.notes.Note.{Note}
use Rattle.scx_sched_machine.specs.Notes.{Takes}
use Rattle.scx_sched_machine.specs.Steps.{State, CallMade, Stepped}
use Rattle.scx_sched_machine.specs.Callbacks.{AreAnswered}
use Rattle.scx_sched_machine.specs.Hearing.{Hears}

-- the machine and its sink go through the step, in at most that many pushes, and its
-- calls are answered
pub record Does {S : Type 0} (takes : S → Note → S → Type 0) (pushes : ℕ) (step : Stepped)
    (old : State) (sink : S) (new : State) (sink' : S) : Type 0 where
  pub state : new ≡ step.state
  pub notes : Takes takes sink step.notes sink'
  pub few : new.world.queues.pushes ≤ old.world.queues.pushes + pushes
  pub answered : AreAnswered step.calls

-- the machine and its hearer go through the step, in at most that many pushes: notes change what is
-- noted of the hearer, and calls, each of which is answered, what it was told
pub record Goes {S N T : Type 0} (noted : S → N) (takes : N → Note → N → Type 0) (told : S → T)
    (hears : T → CallMade → T → Type 0) (pushes : ℕ) (step : Stepped) (old : State) (hearer : S)
    (new : State) (hearer' : S) : Type 0 where
  pub state : new ≡ step.state
  pub notes : Takes takes (noted hearer) step.notes (noted hearer')
  pub few : new.world.queues.pushes ≤ old.world.queues.pushes + pushes
  pub calls : Hears hears (told hearer) step.calls (told hearer')
