use Rattle.std.proofs.Common.{ℕ, ◌<◌, ◌-◌, get_or, arith, rules}
use Rattle.scx_vm_tagged.proofs.StackReads.{read_written, read_unwritten}
use Rattle.scx_vm_tagged.proofs.stack.Stack.word.Goals as goal

pub returns-then-read_u32-eq-FOUR_WRITTEN : goal.returns-then-read_u32-eq-FOUR_WRITTEN
returns-then-read_u32-eq-FOUR_WRITTEN c =
    let s = c.args.self.now in
    let small : (i : ℕ) → get_or s.marks i 0 < 256 = search rules in
    read_written s.marks s.bytes s.pointers c.args.at (512 - c.args.at) 4 _ _ small (omega arith) c.read_u32.ensures c.if-read_u32-eq-FOUR_WRITTEN.true c.read_u32-then-read_u32-eq-FOUR_WRITTEN.ensures

pub returns-else-read_u32-eq-FOUR_WRITTEN : goal.returns-else-read_u32-eq-FOUR_WRITTEN
returns-else-read_u32-eq-FOUR_WRITTEN c =
    let s = c.args.self.now in
    let small : (i : ℕ) → get_or s.marks i 0 < 256 = search rules in
    read_unwritten s.marks s.bytes s.pointers c.args.at (512 - c.args.at) 4 _ small (omega arith) c.read_u32.ensures c.if-read_u32-eq-FOUR_WRITTEN.false
