use Rattle.std.proofs.Common.{arith, ◌*◌, ◌/◌, ap}
use Rattle.scx_weights.specs.Counting.{product_by}
use Rattle.scx_weights.specs.Hierarchy.{path}
use Rattle.scx_weights.specs.RunningSums.{siblings}
use Rattle.scx_weights.proofs.Shares.{cut_division}
use Rattle.scx_weights.proofs.share.weight_in.Goals as goal

pub returns-clause-weight : goal.returns-clause-weight
returns-clause-weight c =
    let groups = c.args.groups.now in
    let sums = c.args.sums.now in
    let total = product_by (siblings groups sums.tasks.items sums.weights.items) (path groups c.args.home) * c.args.tasks in
    let share = c.share_of-part.result in
    let ensures = c.share_of-part.ensures in
    let quotient = cut_division (10000 * share.part) share.whole total (omega (arith, ensures.small)) ensures.some ensures.whole in
    let part = ap (λ n. 10000 * n / total) ensures.part in
    omega (arith, c.max.ensures, quotient, part)
