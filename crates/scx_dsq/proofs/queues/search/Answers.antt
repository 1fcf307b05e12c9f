use Rattle.std.proofs.Common.{◌+◌, ◌-◌, ◌/◌, ◌∙◌, sym, arith}
use Rattle.scx_dsq.specs.Kept.{ids_of}
use Rattle.scx_dsq.proofs.Ordering.{named, missing, middle_id, upper, lower, nothing_between}
use Rattle.scx_dsq.proofs.queues.search.Goals as goal

pub loop-low-preserved-then-other-id-2 : goal.loop-low-preserved-then-other-id-2
loop-low-preserved-then-other-id-2 c =
    let is = middle_id c.args.live.now c.args.order.now c.args.id c.loop-low.low c.loop-low.high c.index-live-order.result c.requires c.loop-low.invariant c.loop-low-test.true in
    upper (ids_of c.args.live.now) c.args.order.now c.args.id c.loop-low.low c.loop-low.high (c.loop-low.low + (c.loop-low.high - c.loop-low.low) / 2) c.requires c.loop-low.invariant (omega (arith, c.loop-low-test.true)) (λ d. rw (is d) c.if-other-id-2.true)

pub loop-low-preserved : goal.loop-low-preserved
loop-low-preserved c =
    let is = middle_id c.args.live.now c.args.order.now c.args.id c.loop-low.low c.loop-low.high c.index-live-order.result c.requires c.loop-low.invariant c.loop-low-test.true in
    lower (ids_of c.args.live.now) c.args.order.now c.args.id c.loop-low.low c.loop-low.high (c.loop-low.low + (c.loop-low.high - c.loop-low.low) / 2) c.requires c.loop-low.invariant (omega arith) (omega (arith, c.loop-low-test.true)) (λ d. rw (is d) (omega (arith, c.if-other-id.false, c.if-other-id-2.false)))

pub returns-then-other-id-clause-named : goal.returns-then-other-id-clause-named
returns-then-other-id-clause-named c =
    let is = middle_id c.args.live.now c.args.order.now c.args.id c.loop-low.low c.loop-low.high c.index-live-order.result c.requires c.loop-low.invariant c.loop-low-test.true in
    sym (named (ids_of c.args.live.now) c.args.order.now c.args.id (c.loop-low.low + (c.loop-low.high - c.loop-low.low) / 2) c.requires (omega (arith, c.loop-low-test.true, c.loop-low.invariant.most), λ d. is d ∙ c.if-other-id.true))

pub returns-clause-named : goal.returns-clause-named
returns-clause-named c =
    sym (missing (ids_of c.args.live.now) c.args.order.now c.args.id c.loop-low.low c.requires (nothing_between (ids_of c.args.live.now) c.args.order.now c.args.id c.loop-low.low c.loop-low.high c.loop-low.invariant c.loop-low-test.false))
