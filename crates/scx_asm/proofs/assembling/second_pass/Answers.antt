use Rattle.std.proofs.Common.{sym}
use Rattle.scx_asm.specs.Passes.{table}
use Rattle.scx_asm.proofs.SecondPasses.{goes_on, ends, is_done}
use Rattle.scx_asm.proofs.assembling.second_pass.Goals as goal

pub returns-in-Err : goal.returns-in-Err
returns-in-Err c =
    let lt = rw c.deref-unresolved-items.ensures.value at c.loop-unresolved-test.true in
    let fails = rw c.deref-unresolved-items.ensures.value at c.in-Err.ensures in
    rw (c.refused.ensures, c.deref-unresolved-items.ensures.value)
    (ends (table c.args.pass.now.labels.entries) c.args.pass.now.unresolved.items c.loop-unresolved.unresolved-index _ c.loop-unresolved.code.items c.in-Err.fault _ lt (sym fails) c.loop-unresolved.invariant)

pub loop-unresolved-preserved : goal.loop-unresolved-preserved
loop-unresolved-preserved c =
    let lt = rw c.deref-unresolved-items.ensures.value at c.loop-unresolved-test.true in
    let read = rw c.deref-unresolved-items.ensures.value at c.in-Ok.ensures in
    rw c.in_ok-push_occupants-in-Ok.ensures
    (goes_on (table c.args.pass.now.labels.entries) c.args.pass.now.unresolved.items c.loop-unresolved.unresolved-index _ c.loop-unresolved.code.items c.in-Ok.insn _ lt (sym read) c.loop-unresolved.invariant)

pub returns : goal.returns
returns c =
    let behind = rw c.deref-unresolved-items.ensures.value at c.loop-unresolved-test.false in
    is_done (table c.args.pass.now.labels.entries) c.args.pass.now.unresolved.items c.loop-unresolved.unresolved-index c.loop-unresolved.code.items _ behind c.loop-unresolved.invariant
