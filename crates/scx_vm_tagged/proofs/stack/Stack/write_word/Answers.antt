use Rattle.std.proofs.Common.{◌-◌, arith}
use Rattle.scx_vm_tagged.proofs.StackWrites.{number_written}
use Rattle.scx_vm_tagged.proofs.stack.Stack.write_word.Goals as goal

pub returns : goal.returns
returns c =
    let s = c.args.self.now in
    number_written s.marks s.bytes s.pointers c.args.at (512 - c.args.at) 4 c.args.n _ _ (omega arith) (omega arith) (omega arith) c.write_u32.ensures c.write_u32-2.ensures
