use Rattle.scx_laws.proofs.Known.{known_serves}
use Rattle.scx_laws.proofs.recognizing.serves_queue_0.Goals as goal

pub returns-clause-serves : goal.returns-clause-serves
returns-clause-serves c found = known_serves c.args.program.now c.program.result.now c.in_ok-bytes.bytes.items c.deref.result.now c.is_one_queue.result c.program.ensures c.in_ok-bytes.ensures c.deref.ensures.value c.is_one_queue.ensures found
