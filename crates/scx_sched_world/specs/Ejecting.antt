-- A policy is put out of force, and what the scheduler does that takes its place: the virtual time
-- rules of Linux's example scx_simple, over numbers of its own.
use Rattle.std.specs.Prelude.{ℕ, zero, suc, ◌+◌, ◌-◌, ◌*◌, ◌/◌, min, max, true, false, nat_lt, List, [], ◌∷◌, ◌++◌, length, if◌then◌else◌, Option, Some, None}
use Rattle.scx_dsq.specs.Calls.{after_push}
use Rattle.scx_dsq.specs.declared.entries.Rank.TheVariants.{Vtime}
use Rattle.scx_sched_world.specs.declared.call.Call.{Call}
use Rattle.scx_sched_world.specs.declared.eject.Cause.{Cause}
use Rattle.scx_sched_world.specs.declared.eject.Cause.TheVariants as reason
use Rattle.scx_sched_world.specs.declared.eject.Eject.{Eject}
use Rattle.scx_sched_world.specs.declared.eject.Eject.TheVariants as cause
use Rattle.scx_sched_world.specs.declared.notes.Note.{Note}
use Rattle.scx_sched_world.specs.declared.notes.What.{What}
use Rattle.scx_sched_world.specs.declared.notes.What.TheVariants as note
use Rattle.scx_sched_world.specs.Ids.{builtin_queue}
use Rattle.scx_sched_world.specs.World.{WorldState, nothing_passes, with_queues, task_at, with_task, waits, running, note_now}
use Rattle.scx_sched_tasks.specs.Tasks.{default_slice}
use Rattle.scx_sched_world.specs.Tasks.{with_slice, with_builtin, after_leave}
use Rattle.scx_sched_world.specs.Helpers.{weight_at}

-- ---- the built-in scheduler

-- the virtual time by which a task waits: at most a slice before the clock
abbrev pub builtin_vtime : WorldState → ℕ → ℕ
builtin_vtime w t = max (task_at w t).builtin (w.builtin_clock - default_slice)

-- a task waits for the built-in scheduler, with a slice of its own
abbrev pub put_builtin : WorldState → ℕ → WorldState
put_builtin w t =
    if nat_lt t (length w.tasks)
    then with_queues
    (with_task w t (with_builtin (with_slice (task_at w t) default_slice) (builtin_vtime w t)))
    (after_push w.queues builtin_queue t (Vtime (builtin_vtime w t)))
    else w

-- the clock is at least as late as the task that runs
abbrev pub after_catch_up : WorldState → ℕ → WorldState
after_catch_up w t = record w { builtin_clock = max w.builtin_clock (task_at w t).builtin }

-- what a task used of its slice, the more the less it weighs
abbrev pub used_vtime : WorldState → ℕ → ℕ
used_vtime w t = (default_slice - (task_at w t).slice) * 100 / max 1 (weight_at w t)

-- a sum that is a number of 64 bits
abbrev pub at_most_64_bits : ℕ → ℕ
at_most_64_bits n = min n 0xffff_ffff_ffff_ffff

-- a task that stops has used what is gone of its slice
abbrev pub after_charge : WorldState → ℕ → WorldState
after_charge w t =
    with_task w t
    (with_builtin (task_at w t) (at_most_64_bits ((task_at w t).builtin + used_vtime w t)))

-- ---- ejection

-- what the callback at hand wanted is forgotten
abbrev pub without_insert : Call → Call
without_insert c = record c { insert = None; has_moved = false }

-- the ejection for the reason for which a callback puts the policy out of force, at that clock
abbrev pub eject_of : Cause → ℕ → Eject
eject_of (reason.Fault f) clock = cause.Fault f clock
eject_of (reason.Exit n) clock = cause.Exit n clock

-- the policy is out of force, for that cause, and nothing that Linux rules keep is known any more;
-- the host tracks idle processors again
abbrev pub put_out : WorldState → Eject → WorldState
put_out w x = record w {
  ejected = Some x;
  call = without_insert w.call;
  passing = nothing_passes;
  tracks_idle = true;
}

-- a task that waits in any queue waits for the built-in scheduler
abbrev pub evict : WorldState → ℕ → WorldState
evict w t = if waits w t then put_builtin (after_leave w t) t else w

-- the first n tasks, by number
abbrev pub after_evictions : ℕ → WorldState → WorldState
after_evictions zero w = w
after_evictions (suc n) w = evict (after_evictions n w) n

-- what is noted of a task that goes over: its insert into the built-in queue; of any other nothing
abbrev pub evict_note : WorldState → ℕ → List Note
evict_note w t = if waits w t then note_now w (note.Insert t builtin_queue) ∷ [] else []

-- what is noted as the first n tasks go over, by number
abbrev pub evict_notes : ℕ → WorldState → List Note
evict_notes zero w = []
evict_notes (suc n) w = evict_notes n w ++ evict_note (after_evictions n w) n

-- a task that runs stays, with a slice of the built-in scheduler at most
abbrev pub cut_task : Option ℕ → WorldState → WorldState
cut_task None w = w
cut_task (Some t) w =
    with_task w t (with_slice (task_at w t) (min (task_at w t).slice default_slice))

-- on the first n CPUs
abbrev pub after_cut : ℕ → WorldState → WorldState
after_cut zero w = w
after_cut (suc n) w = let v = after_cut n w in cut_task (running v n) v

-- what is noted of an ejection: the task that waited too long, the fault, or the code of an exit,
-- without the clock
abbrev pub eject_note : Eject → What
eject_note (cause.Stall t clock) = note.Stall t
eject_note (cause.Fault fault clock) = note.Fault fault
eject_note (cause.Exit code clock) = note.Exit code
