use Rattle.std.proofs.Common.{rules, ◌+◌, ◌≤◌, sym, subst, arith}
use Rattle.std.proofs.lemmas.Grind.{common_steps}
use Rattle.scx_sched_world.specs.Quiet.{SlicesLast, StaysCalm}
use Rattle.scx_sched_machine.specs.Steps.{State}
use Rattle.scx_sched_machine.specs.Quiet.{IsAtRest, IsQuiet}
use Rattle.scx_sched_machine.proofs.Quiet.{are_quiet}
use Rattle.scx_sched_machine.proofs.machine.Machine.quiet_ms.Goals as goal

pub returns-then-is_at_rest-clause-quiet : goal.returns-then-is_at_rest-clause-quiet
returns-then-is_at_rest-clause-quiet c some =
    let ms = c.min-ms.result in
    let now : State = record { policy = c.self.inside.policy; maps = c.self.inside.maps; world = c.self.inside.world } in
    let le : ms ≤ c.slices_last-ms.result = first_of (search rules, grind (arith, common_steps)) in
    let early : ms ≤ c.saturating_sub.result = first_of (search rules, grind (arith, common_steps)) in
    let until : now.world.clock + ms ≤ c.calm_clock-calm.result = omega (arith, some, early, c.saturating_sub.ensures, c.clock.ensures) in
    let last : SlicesLast c.slices_last-ms.result now.world = c.slices_last-ms.ensures.last (omega (arith, some, le)) in
    let calm : StaysCalm now.world c.timeout_ms.result c.calm_clock-calm.result = c.calm_clock-calm.ensures (omega (arith, some, until)) in
    let rest : IsAtRest c.args.self.now = c.is_at_rest.ensures.rest c.if-is_at_rest.true in
    subst (λ (x : State). IsQuiet ms x) c.self.view_is
    (are_quiet c.slices_last-ms.result ms c.calm_clock-calm.result now
    (subst (λ (x : State). IsAtRest x) (sym c.self.view_is) rest)
    last (subst (λ k. StaysCalm now.world k c.calm_clock-calm.result) c.timeout_ms.ensures calm) le until)
