-- A policy is put out of force, by cases: why a callback does that, and who goes where.
use Rattle.std.specs.Prelude.{◌≡◌, ℕ, suc, ℤ, ◌<◌, ◌≤◌, true, false, List, [], ◌∷◌, ◌++◌, length, Option, Some, None}
use Rattle.scx_isa_semantics.specs.declared.callbacks.Callback.{Callback}
use Rattle.scx_isa_semantics.specs.declared.callbacks.Callback.TheVariants.{SelectCpu}
use Rattle.scx_isa_semantics.specs.Endings.{Ending}
use Rattle.scx_sched_world.specs.declared.eject.Cause.{Cause}
use Rattle.scx_sched_world.specs.declared.eject.Cause.TheVariants as reason
use Rattle.scx_sched_world.specs.declared.eject.Eject.{Eject}
use Rattle.scx_sched_world.specs.declared.eject.Eject.TheVariants as cause
use Rattle.scx_sched_world.specs.declared.faults.Fault.{Fault}
use Rattle.scx_sched_world.specs.declared.faults.Fault.TheVariants.{Stuck, NoSuchCpu}
use Rattle.scx_sched_world.specs.declared.notes.Note.{Note}
use Rattle.scx_sched_world.specs.declared.notes.What.TheVariants as note
use Rattle.scx_sched_world.specs.Ids.{builtin_queue}
use Rattle.scx_sched_world.specs.World.{WorldState, waits, note_now}
use Rattle.scx_sched_world.specs.Tasks.{after_leave}
use Rattle.scx_sched_world.specs.Ejecting.{put_out, put_builtin, after_cut, eject_note}
use Rattle.scx_sched_machine.specs.Steps.{State, Stepped, with_world, stays}

-- ---- causes

-- why a callback that ended so puts the policy out of force: its first call of a helper with a
-- fault, or of `exit`, whichever comes first; else that it is stuck, or that select_cpu answers no
-- processor
pub data CauseOf (b : Callback) (e : Ending WorldState) : Option Cause → Type 0 where
  Of_helper : (x : Cause) → e.outside.call.cause ≡ Some x → CauseOf b e (Some x)
  Is_stuck : e.outside.call.cause ≡ None → e.answer ≡ None
      → CauseOf b e (Some (reason.Fault Stuck))
  Of_answer : (n : ℕ)
      → e.outside.call.cause ≡ None → e.answer ≡ Some n → b ≡ SelectCpu → length e.outside.cpus ≤ n
      → CauseOf b e (Some (reason.Fault NoSuchCpu))
  Of_nothing : (n : ℕ)
      → e.outside.call.cause ≡ None → e.answer ≡ Some n → b ≡ SelectCpu → n < length e.outside.cpus
      → CauseOf b e None
  Of_no_answer : (n : ℕ)
      → e.outside.call.cause ≡ None → e.answer ≡ Some n → ¬ (b ≡ SelectCpu) → CauseOf b e None

-- ---- who goes where

-- of the first tasks those that wait in any queue go to the built-in scheduler, by number
pub data GoOver (w : WorldState) : ℕ → List Note → WorldState → Type 0 where
  Begins : (notes : List Note) (v : WorldState) → notes ≡ [] → v ≡ w → GoOver w 0 notes v
  Waits : (n : ℕ) (before notes : List Note) (u v : WorldState)
      → GoOver w n before u → waits u n ≡ true
      → notes ≡ before ++ note_now u (note.Insert n builtin_queue) ∷ []
      → v ≡ put_builtin (after_leave u n) n
      → GoOver w (suc n) notes v
  Passes : (n : ℕ) (notes : List Note) (v : WorldState)
      → GoOver w n notes v → waits v n ≡ false → GoOver w (suc n) notes v

-- the ejection is noted, all go over, and the slices of those who run are cut
pub record Ejects (s : State) (x : Eject) (r : Stepped) : Type 0 where
  pub notes : List Note
  pub over : WorldState
  pub all_go : GoOver (put_out s.world x) (length s.world.tasks) notes over
  pub all : r ≡ record {
    state = with_world s (after_cut (length over.cpus) over);
    notes = note_now s.world (eject_note x) ∷ notes;
    calls = [];
  }

-- after a callback
pub data Judges (s : State) : Option Cause → Stepped → Type 0 where
  Stays : (r : Stepped) → r ≡ stays s → Judges s None r
  Ejected : (f : Fault) (r : Stepped)
      → Ejects s (cause.Fault f s.world.clock) r → Judges s (Some (reason.Fault f)) r
  Ended : (n : ℤ) (r : Stepped)
      → Ejects s (cause.Exit n s.world.clock) r → Judges s (Some (reason.Exit n)) r
