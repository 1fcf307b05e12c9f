use Rattle.std.proofs.Common.{set, ap, ◌∙◌}
use Rattle.scx_sched.specs.Sim.{SimState}
use Rattle.scx_explore_findings.proofs.PoolCopies.{put_down, taken_behind, copied_all}
use Rattle.scx_explore_findings.proofs.pool.copy_down.Goals as goal

pub returns-clause-sims : goal.returns-clause-sims
returns-clause-sims c =
    put_down c.args.sims.now c.split_at_mut-before.result.0.now c.split_at_mut-before.result.1.now c.args.from c.args.to c.take_over.new.sim c.split_at_mut-before.ensures.front c.split_at_mut-before.ensures.back c.requires.down
    ∙ ap (λ (x : SimState). set c.args.sims.now c.args.to x) (taken_behind c.args.sims.now c.split_at_mut-before.result.1.now c.args.from c.take_over.new.sim c.index-rest-0.result c.args.root.now c.split_at_mut-before.ensures.back c.requires.from c.take_over.ensures)

pub returns-clause-alike : goal.returns-clause-alike
returns-clause-alike c =
    copied_all c.args.root.now c.args.sims.now _ c.args.from c.args.to c.take_over.new.sim c.requires.from
    (taken_behind c.args.sims.now c.split_at_mut-before.result.1.now c.args.from c.take_over.new.sim c.index-rest-0.result c.args.root.now c.split_at_mut-before.ensures.back c.requires.from c.take_over.ensures)
    (put_down c.args.sims.now c.split_at_mut-before.result.0.now c.split_at_mut-before.result.1.now c.args.from c.args.to c.take_over.new.sim c.split_at_mut-before.ensures.front c.split_at_mut-before.ensures.back c.requires.down) c.requires.alike
