use Rattle.std.proofs.Common.{sym, get_or}
use Rattle.std.proofs.lemmas.List.{get_or_default}
use Rattle.scx_dsq.specs.Kept.{ids_of}
use Rattle.scx_dsq.proofs.Ordering.{missing, named, stands}
use Rattle.scx_dsq.proofs.queues.find_slowly.Goals as goal

pub returns-in-Ok-clause-found : goal.returns-in-Ok-clause-found
returns-in-Ok-clause-found c = sym (named (ids_of c.args.live.now) c.args.order.now c.args.id c.in-Ok.at c.requires c.in-Ok.ensures.found)

pub returns-in-Ok-clause-at : goal.returns-in-Ok-clause-at
returns-in-Ok-clause-at c = stands c.args.live.now c.args.order.now c.args.id c.in-Ok.at (get_or c.args.order.now c.in-Ok.at 0) c.requires c.in-Ok.ensures.found (get_or_default c.args.order.now c.in-Ok.at 0 _ c.in-Ok.ensures.found.0)

pub returns-in-Err-clause-found : goal.returns-in-Err-clause-found
returns-in-Err-clause-found c = sym (missing (ids_of c.args.live.now) c.args.order.now c.args.id _ c.requires c.in-Err.ensures.missing)
