use Rattle.std.proofs.Common.{◌≤◌, length, arith}
use Rattle.scx_load_replay.specs.Kept.{progress_of}
use Rattle.scx_load_replay.proofs.Passing.{goes_on, ends, is_done}
use Rattle.scx_load_replay.proofs.reading.read_lines.Goals as goal

pub returns-in-Err : goal.returns-in-Err
returns-in-Err c =
    let fails = rw (c.index.ensures) at c.in-Err.ensures in
    ends c.in-Err.error c.args.rules c.args.workload.now c.in_ok-texts.texts.items c.loop-index.index _ (progress_of c.loop-index.progress) _ (omega arith) fails c.loop-index.invariant

pub loop-index-preserved : goal.loop-index-preserved
loop-index-preserved c =
    let read = rw (c.index.ensures) at c.in-Ok.ensures in
    goes_on c.args.rules c.args.workload.now c.in_ok-texts.texts.items c.loop-index.index _ (progress_of c.loop-index.progress) (progress_of c.read_line.new.progress) _ (omega arith) read c.loop-index.invariant

pub returns : goal.returns
returns c =
    let behind : length c.in_ok-texts.texts.items ≤ c.loop-index.index = omega arith in
    is_done c.args.rules c.args.workload.now c.in_ok-texts.texts.items c.loop-index.index (progress_of c.loop-index.progress) _ behind c.loop-index.invariant
