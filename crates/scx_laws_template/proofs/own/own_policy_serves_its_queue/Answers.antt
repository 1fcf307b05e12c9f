use Rattle.std.proofs.Common.{arith}
use Rattle.scx_laws_template.proofs.Computing.{tasks_queued, queue_served}
use Rattle.scx_laws_template.proofs.own.own_policy_serves_its_queue.Goals as goal

pub returns-clause-enqueue : goal.returns-clause-enqueue
returns-clause-enqueue c = tasks_queued

pub returns-clause-slice : goal.returns-clause-slice
returns-clause-slice c = omega arith

pub returns-clause-dispatch : goal.returns-clause-dispatch
returns-clause-dispatch c = queue_served

pub returns-clause-idle : goal.returns-clause-idle
returns-clause-idle c = λ d p tree cpus s events v k said there plain free begun ok at.
    c.no_processor_idles_beside_served_queues.ensures.run _ p tree cpus s events v k (record { dispatch = d; is_there = there; serves = queue_served d said }) plain free begun ok at
