use Rattle.std.proofs.Common.{◌≡◌, ◌+◌, ◌*◌, min, length, arith}
use Rattle.std.proofs.lemmas.Grind.{common_steps}
use Rattle.scx_sched_tasks.proofs.Watching.{in_part}
use Rattle.scx_sched_tasks.proofs.watch.oldest_in.Goals as goal

pub returns : goal.returns
returns c = λ t n of is.
    let first : c.min-first.result ≡ min (c.args.block * 32) (length c.args.records.now) = grind (arith, common_steps) in
    let end : c.min-end.result ≡ min (c.min-first.result + 32) (length c.args.records.now) = grind (arith, common_steps) in
    in_part c.args.records.now _ _ c.args.block t n _ first end c.oldest_of.ensures of is
