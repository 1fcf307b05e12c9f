use Rattle.std.proofs.Common.{◌≡◌, ◌<◌, ◌≤◌, ⊎_elim, subst, arith, rules}
use Rattle.std.proofs.lemmas.Bool.{cases_lt}
use Rattle.scx_sched_world.specs.Kept.{StaysParked}
use Rattle.scx_sched_world.proofs.world.World.is_nobody_free.Goals as goal

pub loop-task-preserved : goal.loop-task-preserved
loop-task-preserved c t l =
    ⊎_elim
    (λ (before : t < c.loop-task.task). c.loop-task.invariant t before)
    (λ (last : c.loop-task.task ≤ t).
    let same : c.loop-task.task ≡ t = omega (arith, last, l) in
    subst (λ k. StaysParked c.args.self.now k) same (c.stays_parked.ensures.throttled (search rules)))
    (cases_lt t c.loop-task.task)

pub returns-then-is_nobody_parked-clause-throttled : goal.returns-then-is_nobody_parked-clause-throttled
returns-then-is_nobody_parked-clause-throttled c known t l = c.is_nobody_parked.ensures c.if-is_nobody_parked.true t
