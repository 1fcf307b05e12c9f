use Rattle.std.proofs.Common.{◌≤◌, length, arith}
use Rattle.scx_asm.specs.Passes.{first_pass_of}
use Rattle.scx_asm.proofs.FirstPasses.{goes_on, ends, is_done}
use Rattle.scx_asm.proofs.scanning.scan.Goals as goal

pub returns-in-Err : goal.returns-in-Err
returns-in-Err c =
    let fails = rw (c.as_bytes-line.ensures.value, c.index.ensures) at c.in-Err.ensures in
    ends c.in-Err.error c.in_ok-lines.lines.items c.loop-index.index _ (first_pass_of c.loop-index.pass) _ (omega arith) fails c.loop-index.invariant

pub loop-index-preserved : goal.loop-index-preserved
loop-index-preserved c =
    let read = rw (c.as_bytes-line.ensures.value, c.index.ensures) at c.in-Ok.ensures in
    goes_on c.in_ok-lines.lines.items c.loop-index.index _ (first_pass_of c.loop-index.pass) (first_pass_of c.push_line.new.pass) _ (omega arith) read c.loop-index.invariant

pub returns : goal.returns
returns c =
    let behind : length c.in_ok-lines.lines.items ≤ c.loop-index.index = omega arith in
    is_done c.in_ok-lines.lines.items c.loop-index.index (first_pass_of c.loop-index.pass) _ behind c.loop-index.invariant
