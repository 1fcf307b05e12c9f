use Rattle.std.proofs.Common.{sym, ◌∙◌}
use Rattle.std.proofs.lemmas.List.{at_drop_all}
use Rattle.scx_isa_semantics.specs.Callbacks.{callbacks}
use Rattle.scx_sched_policy.proofs.Copying.{copied, copied_more}
use Rattle.scx_sched_policy.proofs.policy.set_duplicates.Goals as goal

pub loop-callback-preserved : goal.loop-callback-preserved
loop-callback-preserved c =
    let loop = c.loop-callback in
    copied_more c.args.callbacks.now loop.callback-index _ c.in_ok-copy.copy loop.copies c.set.new.self c.loop-callback-test.true (c.in_ok-copy.ensures ∙ c.get.ensures) c.set.ensures loop.invariant

pub returns : goal.returns
returns c =
    let loop = c.loop-callback in
    sym (at_drop_all (λ bs. copied c.args.callbacks.now bs loop.copies) callbacks loop.callback-index c.loop-callback-test.false) ∙ loop.invariant
