-- Tasks in a policy's custody, and what a policy that has `dequeue` hears as one leaves it, by
-- cases (ext.c, `task_leave_custody`).
use Rattle.std.specs.Prelude.{◌≡◌, ℕ, ◌<◌, ◌≤◌, true, false, List, [], ◌∷◌, Some, None}
use Rattle.scx_dsq.specs.Queues.{queue_of}
use Rattle.scx_isa_semantics.specs.declared.callbacks.Callback.TheVariants as callback
use Rattle.scx_vm.specs.Programs.{VerifiedProgram}
use Rattle.scx_sched_world.specs.declared.eject.Eject.{Eject}
use Rattle.scx_sched_world.specs.declared.notes.Note.{Note}
use Rattle.scx_sched_world.specs.declared.notes.What.{What}
use Rattle.scx_sched_world.specs.declared.notes.What.TheVariants as note
use Rattle.scx_sched_world.specs.Ids.{policy_end, held_queue}
use Rattle.scx_sched_world.specs.World.{WorldState}
use Rattle.scx_sched_world.specs.Tasks.{after_leave}
use Rattle.scx_sched_machine.specs.Steps.{State, Stepped, with_world, stays, one_after_other, is_by_linux}
use Rattle.scx_sched_machine.specs.Callbacks.{task_and_number}
use Rattle.scx_laws.specs.Differences.{CallsIfThere}

-- a task in custody: it waits in a queue of the policy, or is held
pub data IsInCustody (w : WorldState) (t : ℕ) : Type 0 where
  InItsQueue : (q : ℕ) → queue_of w.queues t ≡ Some q → q < policy_end → IsInCustody w t
  IsHeld : queue_of w.queues t ≡ Some held_queue → IsInCustody w t

-- the state in which a task that waited has left its queue
abbrev pub gone_out : State → ℕ → State
gone_out s t = with_world s (after_leave s.world t)

-- a task leaves its queue; where it was in custody, the policy hears of it, with these flags
pub data LeavesQueue (s : State) (t c flags : ℕ) (r : Stepped) : Type 0 where
  LeavesCustody : IsInCustody s.world t
      → CallsIfThere (gone_out s t) callback.Dequeue (task_and_number t flags) t c r
      → LeavesQueue s t c flags r
  LeavesOther : ¬ IsInCustody s.world t → r ≡ stays (gone_out s t) → LeavesQueue s t c flags r

-- ---- out of dispatch

-- a task left custody as that was noted of dispatch: it was moved, or it was held and came into a
-- queue that isn't the policy's
pub data HasLeft (x : What) (t : ℕ) : Type 0 where
  WasMoved : (c : ℕ) → x ≡ note.Move t c → HasLeft x t
  WasReleased : (q : ℕ) → x ≡ note.Insert t q → policy_end ≤ q → HasLeft x t

-- the policy hears of that task, if one left
pub data TellsOf (x : What) (s : State) (c : ℕ) (r : Stepped) : Type 0 where
  OneLeft : (t : ℕ)
      → HasLeft x t → CallsIfThere s callback.Dequeue (task_and_number t 0) t c r → TellsOf x s c r
  NoneLeft : ((t : ℕ) → ¬ HasLeft x t) → r ≡ stays s → TellsOf x s c r

-- the policy hears of all who left, in the order in which they did
pub data TellsEach : List Note → State → ℕ → Stepped → Type 0 where
  NoNotes : (s : State) (c : ℕ) (r : Stepped) → r ≡ stays s → TellsEach [] s c r
  OneNote : (n : Note) (ns : List Note) (s : State) (c : ℕ) (told more r : Stepped)
      → TellsOf n.what s c told → TellsEach ns told.state c more → r ≡ one_after_other told more
      → TellsEach (n ∷ ns) s c r

-- dispatch counts as the last callback again: whether it moved a task is what counts; an ejection
-- forgets that
pub data KeepsMoved (s r v : State) : Type 0 where
  IsKept : r.world.ejected ≡ None
      → v ≡ with_world r (record r.world {
        call = record r.world.call { has_moved = s.world.call.has_moved };
      })
      → KeepsMoved s r v
  IsForgotten : (x : Eject) → r.world.ejected ≡ Some x → v ≡ r → KeepsMoved s r v

-- a call of dispatch has ended, which noted these things: a policy that has `dequeue` hears, under
-- Linux rules, who left its custody
pub data TellsLeft (s : State) (c : ℕ) (noted : List Note) (r : Stepped) : Type 0 where
  LeftByPlain : is_by_linux s ≡ false → r ≡ stays s → TellsLeft s c noted r
  HasNoDequeue : s.policy.callbacks.dequeue ≡ None → r ≡ stays s → TellsLeft s c noted r
  TellsAll : (p : VerifiedProgram) (told : Stepped) (v : State)
      → is_by_linux s ≡ true → s.policy.callbacks.dequeue ≡ Some p → TellsEach noted s c told
      → KeepsMoved s told.state v → r ≡ record told { state = v } → TellsLeft s c noted r
