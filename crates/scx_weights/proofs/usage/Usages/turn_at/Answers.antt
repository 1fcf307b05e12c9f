use Rattle.std.proofs.Common.{◌%◌, eqb, get_or, length, refl, sym, ap, ◌∙◌}
use Rattle.std.proofs.lemmas.Bool.{ne_eqb}
use Rattle.scx_weights.specs.Hierarchy.{period_at}
use Rattle.scx_weights.specs.Pending.{usages_in}
use Rattle.scx_weights.proofs.Forgetting.{nobody_freed, frees_same}
use Rattle.scx_weights.proofs.KnownLimits.{none_begins, quiet_after}
use Rattle.scx_weights.proofs.Settling.{turned_usage, turned_are, usage_settled}
use Rattle.scx_weights.proofs.usage.Usages.turn_at.Goals as goal

pub returns-then-clock-self-ne0-clause-counted : goal.returns-then-clock-self-ne0-clause-counted
returns-then-clock-self-ne0-clause-counted c g lt =
    let p = period_at c.args.groups.now g in
    rw (ne_eqb (c.args.clock % p) 0 (none_begins c.args.self.now.beat p c.args.clock (c.requires.limits.divides g lt) c.if-clock-self-ne0.true)) refl

pub returns-then-clock-self-ne0-clause-freed : goal.returns-then-clock-self-ne0-clause-freed
returns-then-clock-self-ne0-clause-freed c =
    let groups = c.args.groups.now in
    let self = c.args.self.now in
    let clock = c.args.clock in
    nobody_freed groups (usages_in groups self.used.items self.pending.items) clock
    (λ g lt. ne_eqb (clock % period_at groups g) 0 (none_begins self.beat (period_at groups g) clock (c.requires.limits.divides g lt) c.if-clock-self-ne0.true))

pub returns-clause-limits : goal.returns-clause-limits
returns-clause-limits c =
    let before = c.requires.limits in
    rw (c.forget.ensures.beat, c.settle.ensures.beat, c.forget.ensures.since, c.settle.ensures.since, c.forget.ensures.next, c.settle.ensures.next, c.forget.ensures.limited, c.settle.ensures.limited)
    (record {
      some = before.some;
      divides = before.divides;
      quiet = quiet_after c.args.self.now.beat c.args.clock _ c.if-clock-self-ne0.false c.saturating_add-self.ensures;
      quotas = before.quotas;
    })

pub returns-clause-counted : goal.returns-clause-counted
returns-clause-counted c g lt =
    let self = c.args.self.now in
    turned_usage c.args.groups.now self.used.items self.pending.items c.settle.new.self.used.items c.settle.new.self.pending.items c.forget.new.self.used.items c.forget.new.self.pending.items
    (eqb (c.args.clock % period_at c.args.groups.now g) 0) g lt c.settle.ensures.settled c.forget.ensures.pending (c.settle.ensures.counted g lt) (c.forget.ensures.counted g lt)

pub returns-clause-freed : goal.returns-clause-freed
returns-clause-freed c =
    let groups = c.args.groups.now in
    let self = c.args.self.now in
    let settled = c.settle.new.self in
    c.forget.ensures.freed
    ∙ frees_same groups settled.used.items (usages_in groups self.used.items self.pending.items) c.args.clock
    (λ g lt. sym (usage_settled groups settled.used.items settled.pending.items g lt c.settle.ensures.settled) ∙ c.settle.ensures.counted g lt)

pub returns-clause-usages : goal.returns-clause-usages
returns-clause-usages c =
    let groups = c.args.groups.now in
    let self = c.args.self.now in
    let settled = c.settle.new.self in
    let left = c.forget.new.self in
    rw (c.forget.ensures.limited, c.settle.ensures.limited)
    (turned_are groups self.used.items left.used.items self.pending.items left.pending.items self.limited (λ g. eqb (c.args.clock % period_at groups g) 0) c.requires.usages
    c.forget.ensures.lengths (ap length c.forget.ensures.pending ∙ c.settle.ensures.pending_length)
    (λ g lt. ap (λ ps. get_or ps g 0) c.forget.ensures.pending ∙ c.settle.ensures.settled g lt)
    (λ g lt. turned_usage groups self.used.items self.pending.items settled.used.items settled.pending.items left.used.items left.pending.items
    (eqb (c.args.clock % period_at groups g) 0) g lt c.settle.ensures.settled c.forget.ensures.pending (c.settle.ensures.counted g lt) (c.forget.ensures.counted g lt)))
