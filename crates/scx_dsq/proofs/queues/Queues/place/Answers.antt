use Rattle.std.proofs.Common.{◌≡◌, is_some}
use Rattle.scx_dsq.specs.Queues.{exists}
use Rattle.scx_dsq.specs.Kept.{state_of}
use Rattle.scx_dsq.proofs.QueueReads.{found_stands, found_nobody}
use Rattle.scx_dsq.proofs.queues.Queues.place.Goals as goal

pub returns-clause-found : goal.returns-clause-found
returns-clause-found c =
    let found : is_some c.find.result ≡ exists (state_of c.self.inside) c.args.id = rw c.deref.ensures.value at c.find.ensures.found in
    rw (← c.self.view_is) found

pub returns-clause-at : goal.returns-clause-at
returns-clause-at c = rw (← c.self.view_is) (found_stands c.self.inside _ c.args.id c.find.result c.deref.ensures.value c.find.ensures.at)

pub returns-clause-nobody : goal.returns-clause-nobody
returns-clause-nobody c =
    let found : is_some c.find.result ≡ exists (state_of c.self.inside) c.args.id = rw c.deref.ensures.value at c.find.ensures.found in
    rw (← c.self.view_is) (found_nobody (state_of c.self.inside) c.args.id c.find.result c.self.invariant.sound found)
