-- A policy is ejected: it is out of force from then on, and every task that waits goes to the
-- built-in scheduler (sched-ext.rst, "Switching to and from sched_ext").
use Rattle.std.specs.Prelude.{[], ◌∷◌, length, Option, Some, None}
use Rattle.scx_sched_world.specs.declared.eject.Eject.{Eject}
use Rattle.scx_sched_world.specs.declared.eject.Cause.{Cause}
use Rattle.scx_sched_world.specs.World.{note_now}
use Rattle.scx_sched_world.specs.Ejecting.{eject_of, put_out, after_evictions, evict_notes, after_cut, eject_note}
use Rattle.scx_sched_machine.specs.Steps.{State, Stepped, with_world, stays, after}

-- all who wait go over, by number
unfoldable pub moves_over : State → Stepped
moves_over s = record {
  state = with_world s (after_evictions (length s.world.tasks) s.world);
  notes = evict_notes (length s.world.tasks) s.world;
  calls = [];
}

-- the tasks that run stay, with slices that are cut
abbrev pub cuts : Stepped → Stepped
cuts r =
    record r { state = with_world r.state (after_cut (length r.state.world.cpus) r.state.world) }

-- the cause is noted and the policy put out of force; who waits goes over, and slices are cut
unfoldable pub eject : State → Eject → Stepped
eject s x =
    after (note_now s.world (eject_note x) ∷ [])
    (cuts (moves_over (with_world s (put_out s.world x))))

-- where there was a cause
abbrev pub ejected_for : Option Cause → State → Stepped
ejected_for None s = stays s
ejected_for (Some x) s = eject s (eject_of x s.world.clock)
