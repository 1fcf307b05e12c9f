use Rattle.std.proofs.Common.{arith}
use Rattle.scx_vm_tagged.proofs.StackWrites.{byte_written}
use Rattle.scx_vm_tagged.proofs.stack.Stack.write_byte.Goals as goal

pub returns : goal.returns
returns c =
    let s = c.args.self.now in
    byte_written s.marks s.bytes s.pointers c.args.at c.args.n (omega arith) (omega arith) (omega arith)
