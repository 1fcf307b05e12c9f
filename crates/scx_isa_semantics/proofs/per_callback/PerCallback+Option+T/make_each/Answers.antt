use Rattle.std.proofs.Common.{arith}
use Rattle.std.proofs.lemmas.Result.{err_from_is_err_and}
use Rattle.scx_isa_semantics.specs.Callbacks.{at, Made}
use Rattle.scx_isa_semantics.proofs.EachMade.{made_more, there_still, fails_first, of_each}
use Rattle.scx_isa_semantics.proofs.per_callback.PerCallback+Option+T.make_each.Goals as goal

pub returns-in_err-value-clause-failed : goal.returns-in_err-value-clause-failed
returns-in_err-value-clause-failed g c =
    let p = err_from_is_err_and c.from_residual.result c.from_residual.ensures.1 in
    let loop = c.loop-callback in
    rw (p.1, p.2) (fails_first g.F.Fn c.args.f.now c.args.self.now loop.callback-index _ loop.self loop.all_made _ _ c.loop-callback-test.true c.take.ensures.taken c.in_err-value.ensures.failed loop.invariant.0 loop.invariant.1)

pub loop-callback-preserved : goal.loop-callback-preserved
loop-callback-preserved g c =
    let loop = c.loop-callback in (
      made_more g.F.Fn c.args.f.now c.args.self.now loop.callback-index _ loop.self loop.all_made c.set.new.self _ _ c.loop-callback-test.true c.take.ensures.taken c.in_ok-value.ensures.made c.set.ensures loop.invariant.0 loop.invariant.1,
      there_still g.F.Fn c.args.f.now c.args.self.now loop.callback-index _ loop.self c.take.new.self c.loop-callback-test.true c.take.ensures.rest loop.invariant.1,
    )

pub returns-clause-made : goal.returns-clause-made
returns-clause-made g c =
    of_each (λ b. Made g.F.Fn c.args.f.now b (at c.args.self.now b) (at c.loop-callback.all_made b)) tt
    (λ k d lt. c.loop-callback.invariant.0 k d (omega (arith, lt, c.loop-callback-test.false)) lt)
