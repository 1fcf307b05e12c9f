use Rattle.scx_vm_tagged.proofs.StackWrites.{nothing_written}
use Rattle.scx_vm_tagged.proofs.stack.Stack.new.Goals as goal

pub returns : goal.returns
returns c = nothing_written 512 512 64
