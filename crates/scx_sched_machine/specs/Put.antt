-- The task at hand comes to wait, by the policy or by the built-in scheduler.
use Rattle.std.specs.Prelude.{ℕ, [], ◌∷◌, if◌then◌else◌, Option, Some, None}
use Rattle.scx_isa_semantics.specs.declared.callbacks.Callback.TheVariants as callback
use Rattle.scx_vm.specs.Programs.{VerifiedProgram}
use Rattle.scx_sched_world.specs.declared.call.Insert.{Insert}
use Rattle.scx_sched_world.specs.declared.notes.What.TheVariants as note
use Rattle.scx_sched_world.specs.Ids.{builtin_queue}
use Rattle.scx_sched_world.specs.World.{note_now}
use Rattle.scx_sched_world.specs.Tasks.{after_enter, for_cpu, to_held, to_global}
use Rattle.scx_sched_world.specs.Ejecting.{put_builtin}
use Rattle.scx_sched_machine.specs.Steps.{State, Stepped, with_world, one_after_other, is_ejected}
use Rattle.scx_sched_machine.specs.Callbacks.{call_back, task_and_number}

-- the task comes to wait as an insert wants it to
unfoldable pub enters : State → ℕ → Insert → Stepped
enters s t i = record {
  state = with_world s (after_enter s.world t i);
  notes = note_now s.world (note.Insert t i.queue) ∷ [];
  calls = [];
}

-- where enqueue wants the task to wait; where it says nothing the task is held, and where there is
-- no such callback it waits for any processor
abbrev pub enqueue_choice : Option VerifiedProgram → ℕ → Option Insert → Insert
enqueue_choice None c i = to_global
enqueue_choice (Some p) c None = to_held
enqueue_choice (Some p) c (Some i) = for_cpu c i

-- the task comes to wait for the built-in scheduler
unfoldable pub enters_builtin : State → ℕ → Stepped
enters_builtin s t = record {
  state = with_world s (put_builtin s.world t);
  notes = note_now s.world (note.Insert t builtin_queue) ∷ [];
  calls = [];
}

-- after enqueue, which may have ejected the policy
unfoldable pub comes_in : State → ℕ → ℕ → Stepped
comes_in s t c =
    if is_ejected s then enters_builtin s t
    else enters s t (enqueue_choice s.policy.callbacks.enqueue c s.world.call.insert)

-- enqueue is called, with these flags and that processor at hand, and then the task comes to wait
unfoldable pub put : State → ℕ → ℕ → ℕ → Stepped
put s t c flags =
    let r = call_back s callback.Enqueue (task_and_number t flags) t c in
    one_after_other r (comes_in r.state t c)
