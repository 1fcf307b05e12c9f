use Rattle.std.proofs.Common.{◌-◌, arith}
use Rattle.scx_vm_tagged.proofs.StackWrites.{pointer_written}
use Rattle.scx_vm_tagged.proofs.stack.Stack.store_pointer.Goals as goal

pub returns : goal.returns
returns c =
    let s = c.args.self.now in
    pointer_written s.marks s.bytes s.pointers c.args.at (512 - c.args.at) c.args.pointer _ (omega arith) (omega arith) c.requires.aligned (omega arith) c.write_u64.ensures
