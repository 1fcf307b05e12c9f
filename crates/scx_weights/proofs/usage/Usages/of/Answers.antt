use Rattle.std.proofs.Common.{arith, sym, ap, ◌∙◌, ◌≡◌, length}
use Rattle.std.proofs.lemmas.List.{get_or_read}
use Rattle.scx_weights.specs.Counting.{sum_below}
use Rattle.scx_weights.specs.Pending.{pending_for}
use Rattle.scx_weights.proofs.Settling.{usage_at, usage_settled, part_below, sum_more}
use Rattle.scx_weights.proofs.usage.Usages.of.Goals as goal

pub returns-then-self : goal.returns-then-self
returns-then-self c =
    let groups = c.args.groups.now in
    let self = c.args.self.now in
    get_or_read self.used.items c.args.group c.index.result.now (omega (arith, c.requires.usages.used_length, c.requires.known)) c.index.ensures 0
    ∙ sym (usage_settled groups self.used.items self.pending.items c.args.group c.requires.known (c.requires.usages.settled c.if-self.true))

pub overflow_add-used : goal.overflow_add-used
overflow_add-used c =
    let groups = c.args.groups.now in
    let self = c.args.self.now in
    let group = c.args.group in
    omega (
      arith,
      c.loop-home.invariant,
      c.pending_for-pending.ensures,
      part_below (length groups) c.loop-home.home (λ h. pending_for groups self.pending.items group h) (omega (arith, c.loop-home-test.true)),
      usage_at groups self.used.items self.pending.items group c.requires.known,
      c.requires.usages.room group c.requires.known,
    )

pub loop-home-init : goal.loop-home-init
loop-home-init c =
    let self = c.args.self.now in
    omega (arith, get_or_read self.used.items c.args.group c.index-used.result.now (omega (arith, c.requires.usages.used_length, c.requires.known)) c.index-used.ensures 0)

pub loop-home-preserved : goal.loop-home-preserved
loop-home-preserved c =
    let groups = c.args.groups.now in
    let self = c.args.self.now in
    omega (arith, c.loop-home.invariant, c.pending_for-pending.ensures, sum_more c.loop-home.home (λ h. pending_for groups self.pending.items c.args.group h))

pub returns : goal.returns
returns c =
    let groups = c.args.groups.now in
    let self = c.args.self.now in
    let all : sum_below c.loop-home.home (λ h. pending_for groups self.pending.items c.args.group h) ≡ sum_below (length groups) (λ h. pending_for groups self.pending.items c.args.group h) =
    ap (λ n. sum_below n (λ h. pending_for groups self.pending.items c.args.group h)) (omega arith) in
    omega (arith, c.loop-home.invariant, all, usage_at groups self.used.items self.pending.items c.args.group c.requires.known)
