-- In a first state no task waits by a virtual time: none waits at all, and callbacks keep it so.
use Rattle.std.proofs.Common.{◌≡◌, ℕ, zero, suc, ◌+◌, length, replicate, None, Ok, refl}
use Rattle.scx_dsq.specs.Queues.{QueueState}
use Rattle.scx_dsq.specs.Calls.{after_create, empty}
use Rattle.scx_weights.specs.Hierarchy.{Hierarchy}
use Rattle.scx_isa_semantics.specs.declared.callbacks.Callback.{Callback}
use Rattle.scx_vm.specs.declared.arguments.Args.{Args}
use Rattle.scx_sched_world.specs.Ids.{global, held_queue, builtin_queue, parked_queue, local_on}
use Rattle.scx_sched_world.specs.First.{with_locals, own_queues, first_world, with_homes_below}
use Rattle.scx_sched_world.specs.World.{WorldState, at_callback, binds}
use Rattle.scx_sched_world.specs.Tasks.{begun_periods}
use Rattle.scx_sched_policy.specs.Policy.{PolicyState}
use Rattle.scx_sched_machine.specs.Steps.{State}
use Rattle.scx_sched_machine.specs.Callbacks.{acting}
use Rattle.scx_sched_machine.specs.Start.{by_policy, blank, first_state}
use Rattle.scx_sched_machine.proofs.Choices.{keeps_if}
use Rattle.scx_sched.proofs.Begins.{left_by, keeps_started}
use Rattle.scx_explore_findings.specs.FifoOnly.{InsertInOrder, AreInOrder, IsInOrder, FirstStatesAreInOrder}
use Rattle.scx_explore_findings.proofs.FifoQueues.{Kept, created, called_order, order_acting}

-- ---- queues

nobody_there : (n : ℕ) → AreInOrder (replicate n None)
nobody_there zero t = tt
nobody_there (suc n) zero = tt
nobody_there (suc n) (suc t) = nobody_there n t

locals_order : (n : ℕ) (s : QueueState) → AreInOrder s.entries → AreInOrder (with_locals n s).entries
locals_order zero s h = h
locals_order (suc n) s h = created (with_locals n s) (local_on n) (locals_order n s h)

own_order : (cpus tasks : ℕ) → AreInOrder (own_queues cpus tasks).entries
own_order cpus tasks =
    let a = empty (20 + cpus) tasks in
    let b = after_create a global in
    let c = after_create b held_queue in
    let d = after_create c builtin_queue in
    created d parked_queue (created c builtin_queue (created b held_queue (created a global (nobody_there tasks))))

-- bound tasks are placed where they may run
homes_order : (n : ℕ) (w : WorldState) → IsInOrder w → IsInOrder (with_homes_below n w)
homes_order zero w h = h
homes_order (suc n) w h = homes_order n w h

module _ (p : PolicyState) (may : InsertInOrder p) where
  blank_kept : (tree : Hierarchy) (cpus : ℕ) → Kept p may (blank p tree cpus)
  blank_kept tree cpus =
      let w = begun_periods (by_policy p (first_world tree cpus)) in
      let h : IsInOrder w = λ none. (locals_order cpus (own_queues cpus (length tree.homes)) (own_order cpus (length tree.homes)), tt) in
      (refl, keeps_if IsInOrder (binds w) (with_homes_below (length w.tasks) w) w (homes_order (length w.tasks) w h) h)

  -- a callback keeps it
  called_kept : (s : State) (b : Callback) (a : Args) (t c : ℕ) → Kept p may s → Kept p may (left_by s b a t c)
  called_kept s b a t c h = (h.0, called_order (acting s b) (order_acting p may s b h.0) b a s.maps (at_callback s.world b t c) (λ none. ((h.1 none).0, tt)))

  -- so do all of a first state
  first_kept : (tree : Hierarchy) (cpus : ℕ) (t : State) → first_state p tree cpus ≡ Ok t → Kept p may t
  first_kept tree cpus t e =
      keeps_started cpus (Kept p may) (λ s b a u c any h. called_kept s b a u c h) (λ s h. (h.0, h.1)) p tree t e (blank_kept tree cpus)

-- in a first state no task waits by a virtual time
pub first_states_are_in_order : FirstStatesAreInOrder
first_states_are_in_order p tree cpus s may first = (first_kept p may tree cpus s.state first.0).1
