-- As a callback runs, its task stays the one at hand.
use Rattle.std.proofs.Common.{◌≡◌, ℕ, refl}
use Rattle.scx_isa_semantics.specs.declared.callbacks.Callback.{Callback}
use Rattle.scx_vm.specs.declared.arguments.Args.{Args}
use Rattle.scx_sched_world.specs.World.{WorldState}
use Rattle.scx_sched_machine.specs.Steps.{State}
use Rattle.scx_sched_machine.specs.Callbacks.{call_back}
use Rattle.scx_sched.proofs.Queries.{KeepsQueries, KeepsBuiltin, KeepsCallbacks, off_queues, kept_query, kept_ejecting, kept_call_back}

-- the task at hand
abbrev IsOf : ℕ → WorldState → Type 0
IsOf t w = w.call.task ≡ t

of_kept : (t : ℕ) → KeepsQueries (IsOf t)
of_kept t = off_queues (IsOf t) (λ w x other h. h) (λ w n o later h. h) (λ w u s k c h. h) (λ w q i m a b c d n ns h. h)

of_builtin : (t : ℕ) → KeepsBuiltin (IsOf t)
of_builtin t w u h = h

of_callbacks : (t : ℕ) → KeepsCallbacks (IsOf t)
of_callbacks t = record { query = kept_query (IsOf t) (of_kept t); quiet = λ w h. h; out = λ w x h. h; ejecting = kept_ejecting (IsOf t) (of_kept t) (of_builtin t) }

-- after a callback its task is the one at hand
pub task_called : (s : State) (b : Callback) (a : Args) (t c : ℕ) → (call_back s b a t c).state.world.call.task ≡ t
task_called s b a t c = kept_call_back (IsOf t) (of_callbacks t) s b a t c refl
