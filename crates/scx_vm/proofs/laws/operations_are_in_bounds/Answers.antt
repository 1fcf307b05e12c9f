use Rattle.scx_vm.proofs.InBounds.{in_bounds_there}
use Rattle.scx_vm.proofs.laws.operations_are_in_bounds.Goals as goal

pub returns : goal.returns
returns c = in_bounds_there
