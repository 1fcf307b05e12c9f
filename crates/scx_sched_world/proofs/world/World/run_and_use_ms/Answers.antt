use Rattle.std.proofs.Common.{◌≡◌, ◌<◌, false, Some, length, sym, ap, ◌∙◌, arith}
use Rattle.scx_weights.specs.Limits.{with_use, has_quota}
use Rattle.scx_sched_world.specs.Tasks.{ran_a_tick, after_tick, slice_left}
use Rattle.scx_sched_world.specs.World.{WorldState, task_at}
use Rattle.scx_sched_world.proofs.Records.{used_then_ran, left_unlimited}
use Rattle.scx_sched_world.proofs.world.World.run_and_use_ms.Goals as goal

pub returns-clause-world : goal.returns-clause-world
returns-clause-world c =
    let w = c.args.self.now in
    let t = c.args.task in
    let known : t < length w.tasks = rw (← c.self.view_is) (omega arith) in
    c.run_ms.ensures.world ∙ ap (λ (x : WorldState). after_tick x t) c.charge_ms.ensures ∙ used_then_ran w t known

pub returns-clause-answer : goal.returns-clause-answer
returns-clause-answer c =
    let w = c.args.self.now in
    let t = c.args.task in
    let known : t < length w.tasks = rw (← c.self.view_is) (omega arith) in
    let tree = with_use w.tree t in
    let none : has_quota tree.groups ≡ false = sym c.is_limited.ensures ∙ c.if-is_limited.false in
    let new = c.run_ms.ensures.world ∙ ap (λ (x : WorldState). after_tick x t) c.charge_ms.ensures in
    ap Some (c.run_ms.ensures.answer ∙ ap (λ (x : WorldState). (ran_a_tick (task_at x t)).slice) c.charge_ms.ensures) ∙ left_unlimited w tree t known none ∙ ap (λ (x : WorldState). slice_left x t) (sym new)
