use Rattle.std.proofs.Common.{◌≡◌, ◌+◌, ◌≤◌, ap, ◌∙◌, arith}
use Rattle.scx_sched_world.specs.World.{WorldState, quiet}
use Rattle.scx_sched_machine.specs.Steps.{State, with_world}
use Rattle.scx_sched_machine.specs.Budgets.{eject_pushes}
use Rattle.scx_sched_machine.specs.Ejecting.{ejected_for}
use Rattle.scx_sched_machine.specs.Custody.{ended}
use Rattle.scx_sched_machine.proofs.Leaving.{ended_due}
use Rattle.scx_sched_machine.proofs.machine.Machine.end_callback.Goals as goal

pub returns-clause-committed : goal.returns-clause-committed
unfolding ended
returns-clause-committed g c =
    let s = c.args.self.now in
    let new = c.eject_for.new.self in
    let seen = ap (λ (x : State). x.world.queues.pushes) c.self.view_is in
    let same = ap (λ (w : WorldState). w.queues.pushes) c.flush_any.ensures.world in
    let few : new.world.queues.pushes ≤ s.world.queues.pushes + eject_pushes = omega (arith, c.eject_for.ensures.few, seen, same) in
    let is : new ≡ (ended c.args.cause s).state =
    c.eject_for.ensures.state
    ∙ ap (λ (w : WorldState). (ejected_for c.args.cause (record { policy = c.self.inside.policy; maps = c.self.inside.maps; world = w })).state) c.flush_any.ensures.world
    ∙ ap (λ (x : State). (ejected_for c.args.cause (with_world x (quiet x.world))).state) c.self.view_is in
    ended_due c.args.cause s new is few
