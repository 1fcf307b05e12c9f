use Rattle.std.proofs.Common.{rules, ◌≡◌, ◌+◌, ◌≤◌, ap, arith}
use Rattle.scx_sched_world.specs.World.{WorldState}
use Rattle.scx_sched_machine.specs.Steps.{State}
use Rattle.scx_sched_machine.specs.Budgets.{eject_pushes}
use Rattle.scx_sched_machine.specs.Callbacks.{call_back}
use Rattle.scx_sched_machine.proofs.Unchanged.{calm_call, calm_end}
use Rattle.scx_sched_machine.proofs.machine.Machine.call_back.Goals as goal

pub returns-clause-calm : goal.returns-clause-calm
unfolding call_back
returns-clause-calm g c h =
    let s = c.args.self.now in
    let new = c.eject_for.new.self in
    let still = calm_end _ _ _ _ _ c.self.inside.world _ _ c.args.task c.args.cpu _ h c.begin.ensures c.run_callback-answer.ensures.ended in
    let seen = ap (λ (x : State). x.world.queues.pushes) c.self.view_is in
    let same = ap (λ (w : WorldState). w.queues.pushes) c.flush_any.ensures.world in
    let few : new.world.queues.pushes ≤ s.world.queues.pushes + eject_pushes = omega (arith, c.eject_for.ensures.few, still, seen, same) in
    let is : new ≡ (call_back s c.args.callback c.args.arguments c.args.task c.args.cpu).state = search rules in
    calm_call s new c.args.callback c.args.arguments c.args.task c.args.cpu h is few
