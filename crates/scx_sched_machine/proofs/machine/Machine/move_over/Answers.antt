use Rattle.std.proofs.Common.{arith, ap, refl, ◌∙◌, ◌≡◌}
use Rattle.scx_sched_world.specs.Ejecting.{evict, after_evictions}
use Rattle.scx_sched_machine.specs.Steps.{with_world, State}
use Rattle.scx_sched_machine.proofs.Taking.{Takes-append}
use Rattle.scx_sched_machine.proofs.Evicting.{evicted_next, notes_next}
use Rattle.scx_sched_machine.proofs.machine.Machine.move_over.Goals as goal

pub loop-task-preserved : goal.loop-task-preserved
loop-task-preserved g c =
    let s = c.args.self.now in
    let n = c.loop-task.task in
    let inv = c.loop-task.invariant in
    let now : c.loop-task.self.world ≡ after_evictions n s.world = ap (λ (x : State). x.world) inv.state in
    record {
      few = omega (arith, inv.few, c.evict.ensures.few);
      state = c.evict.ensures.state ∙ ap (λ (x : State). with_world x (evict x.world n)) inv.state ∙ rw (evicted_next n s.world) refl;
      notes = rw (notes_next n s.world, ← now) (Takes-append g.H.Hearer.takes _ _ _ _ _ inv.notes c.evict.ensures.notes);
      calls = c.evict.ensures.calls ∙ inv.calls;
    }
