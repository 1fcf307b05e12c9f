use Rattle.std.proofs.Common.{ℕ, ◌<◌, ◌-◌, get_or, arith, rules}
use Rattle.scx_vm_tagged.proofs.StackReads.{read_written, read_unwritten}
use Rattle.scx_vm_tagged.proofs.stack.Stack.double_word.Goals as goal

pub returns-then-read_u64-eq-EIGHT_WRITTEN : goal.returns-then-read_u64-eq-EIGHT_WRITTEN
returns-then-read_u64-eq-EIGHT_WRITTEN c =
    let s = c.args.self.now in
    let small : (i : ℕ) → get_or s.marks i 0 < 256 = search rules in
    read_written s.marks s.bytes s.pointers c.args.at (512 - c.args.at) 8 _ _ small (omega arith) c.read_u64.ensures c.if-read_u64-eq-EIGHT_WRITTEN.true c.read_u64-then-read_u64-eq-EIGHT_WRITTEN.ensures

pub returns-else-read_u64-eq-EIGHT_WRITTEN : goal.returns-else-read_u64-eq-EIGHT_WRITTEN
returns-else-read_u64-eq-EIGHT_WRITTEN c =
    let s = c.args.self.now in
    let small : (i : ℕ) → get_or s.marks i 0 < 256 = search rules in
    read_unwritten s.marks s.bytes s.pointers c.args.at (512 - c.args.at) 8 _ small (omega arith) c.read_u64.ensures c.if-read_u64-eq-EIGHT_WRITTEN.false
