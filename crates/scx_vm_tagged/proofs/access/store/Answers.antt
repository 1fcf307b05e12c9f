use Rattle.scx_vm_tagged.specs.State.{seen}
use Rattle.scx_vm_tagged.proofs.access.store.Goals as goal

pub returns-in-InTask-clause-effect : goal.returns-in-InTask-clause-effect
returns-in-InTask-clause-effect g c = rw c.in-InTask.is (c.store_field.ensures.effect (seen c.args.core.now c.args.maps.now) c.args.size)
