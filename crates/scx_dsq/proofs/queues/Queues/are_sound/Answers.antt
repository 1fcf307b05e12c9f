use Rattle.scx_dsq.specs.Kept.{state_of}
use Rattle.scx_dsq.proofs.Counted.{stands_in_so_many}
use Rattle.scx_dsq.proofs.Costs.{arrays_held}
use Rattle.scx_dsq.proofs.queues.Queues.are_sound.Goals as goal

pub returns-clause-standing : goal.returns-clause-standing
returns-clause-standing c = rw (← c.self.view_is) (stands_in_so_many (state_of c.self.inside) c.self.invariant.sound)

pub returns-clause-arrays : goal.returns-clause-arrays
returns-clause-arrays c = rw (← c.self.view_is) (arrays_held c.self.inside c.self.invariant)
