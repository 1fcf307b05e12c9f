use Rattle.std.proofs.Common.{◌%◌, refl, arith}
use Rattle.std.proofs.lemmas.Bool.{ne_eqb}
use Rattle.scx_weights.specs.Hierarchy.{period_at}
use Rattle.scx_weights.specs.Pending.{usages_in}
use Rattle.scx_weights.proofs.Forgetting.{nobody_freed}
use Rattle.scx_weights.proofs.KnownLimits.{none_begins}
use Rattle.scx_weights.proofs.usage.Usages.turn.Goals as goal

pub returns-then-clock-self-clause-counted : goal.returns-then-clock-self-clause-counted
returns-then-clock-self-clause-counted c g lt =
    let p = period_at c.args.groups.now g in
    let limits = c.requires.limits in
    rw (ne_eqb (c.args.clock % p) 0 (none_begins c.args.self.now.beat p c.args.clock (limits.divides g lt) (limits.quiet c.args.clock (omega arith) (omega arith)))) refl

pub returns-then-clock-self-clause-freed : goal.returns-then-clock-self-clause-freed
returns-then-clock-self-clause-freed c =
    let groups = c.args.groups.now in
    let self = c.args.self.now in
    let clock = c.args.clock in
    let limits = c.requires.limits in
    nobody_freed groups (usages_in groups self.used.items self.pending.items) clock
    (λ g lt. ne_eqb (clock % period_at groups g) 0 (none_begins self.beat (period_at groups g) clock (limits.divides g lt) (limits.quiet clock (omega arith) (omega arith))))
