use Rattle.std.proofs.Common.{◌-◌, arith}
use Rattle.scx_vm_tagged.proofs.StackReads.{read_clear, read_over}
use Rattle.scx_vm_tagged.proofs.stack.Stack.pointer.Goals as goal

pub returns-then-read_u64-eq-NONE_WRITTEN : goal.returns-then-read_u64-eq-NONE_WRITTEN
returns-then-read_u64-eq-NONE_WRITTEN c =
    let s = c.args.self.now in
    read_clear s.marks s.bytes s.pointers c.args.at (512 - c.args.at) _ c.requires.aligned (omega arith) c.read_u64.ensures c.if-read_u64-eq-NONE_WRITTEN.true

pub returns-else-read_u64-eq-NONE_WRITTEN : goal.returns-else-read_u64-eq-NONE_WRITTEN
returns-else-read_u64-eq-NONE_WRITTEN c =
    let s = c.args.self.now in
    read_over s.marks s.bytes s.pointers c.args.at (512 - c.args.at) _ c.requires.aligned (omega arith) c.read_u64.ensures c.if-read_u64-eq-NONE_WRITTEN.false
