use Rattle.std.proofs.Common.{ℕ, ◌-◌, ◌+◌, ◌/◌, arith}
use Rattle.scxsim_views.specs.Claims.{IsStep}
use Rattle.scxsim_views.proofs.Levels.{is_step}
use Rattle.scxsim_views.proofs.claims.step_from.Goals as goal

pub returns-else-weight-eq0-clause-some : goal.returns-else-weight-eq0-clause-some
returns-else-weight-eq0-clause-some c =
    let To : ℕ → ℕ → Type 0 = λ left weight. IsStep c.args.claims.now c.args.family c.args.amount c.args.level ((left - 1) / weight + 1) in
    let some_left = c.if-weight-eq0.false.0 in
    let some_weight = c.if-weight-eq0.false.1 in
    let left = c.left_at-left.ensures in
    let weight = c.open_weight-weight.ensures in
    let step = is_step c.args.claims.now c.args.family c.args.amount c.args.level (omega (arith, some_left, left)) (omega (arith, some_weight, weight)) in
    rw (left, weight) step
