use Rattle.std.proofs.Common.{◌<◌, ◌≤◌, length, rules, arith}
use Rattle.std.proofs.lemmas.List.{length-map}
use Rattle.scxsim_trace.specs.Report.{times, ran_ms}
use Rattle.scxsim_trace.proofs.Reporting.{written_more, cut_at_end, cut_in_total, cut_in_line, on_err}
use Rattle.scxsim_trace.proofs.report.write_report.Goals as goal

pub returns-in_err-write_named-clause-err : goal.returns-in_err-write_named-clause-err
returns-in_err-write_named-clause-err g c =
    let all = times c.args.sim.now.state.world in
    let within : c.loop-task.task < length all = omega (arith, length-map c.args.sim.now.state.world.tasks ran_ms, c.loop-task-test.true, c.tasks-task-end.ensures) in
    let before = rw c.total_ms-total.ensures at c.loop-task.invariant.written in
    let line = rw (c.task.ensures, c.as_str.ensures.value, c.end_of_task-end.ensures, c.total_ms-total.ensures) at c.in_err-write_named.ensures.err in
    let cut = cut_in_line (g.N.Names.lists c.args.names.now) all c.loop-task.task c.run_ms.result c.args.sim.now.state.world.ejected _ _ _ within c.run_ms.ensures.ms before line in
    search rules

pub loop-task-preserved : goal.loop-task-preserved
loop-task-preserved g c =
    let all = times c.args.sim.now.state.world in
    let within : c.loop-task.task < length all = omega (arith, length-map c.args.sim.now.state.world.tasks ran_ms, c.loop-task-test.true, c.tasks-task-end.ensures) in
    let line = rw (c.task.ensures, c.as_str.ensures.value, c.end_of_task-end.ensures) at c.in_ok-write_named.ensures.ok in
    record {
      written = written_more (g.N.Names.lists c.args.names.now) _ all c.loop-task.task c.run_ms.result _ _ _ within c.run_ms.ensures.ms c.loop-task.invariant.written line;
      unfailed = search rules;
    }

pub returns-in_err-write_all-clause-err : goal.returns-in_err-write_all-clause-err
returns-in_err-write_all-clause-err g c =
    let all = times c.args.sim.now.state.world in
    let past : length all ≤ c.loop-task.task = omega (arith, length-map c.args.sim.now.state.world.tasks ran_ms, c.loop-task-test.false, c.tasks-task-end.ensures) in
    let before = rw c.total_ms-total.ensures at c.loop-task.invariant.written in
    let end = rw (c.as_bytes.ensures.value, c.as_str-2.ensures.value, c.total_line.ensures, c.total_ms-total.ensures) at c.in_err-write_all.ensures.err in
    let cut = cut_in_total (g.N.Names.lists c.args.names.now) all c.loop-task.task c.args.sim.now.state.world.ejected _ _ _ past before end in
    search rules

pub returns-clause-err : goal.returns-clause-err
returns-clause-err g c =
    let all = times c.args.sim.now.state.world in
    let past : length all ≤ c.loop-task.task = omega (arith, length-map c.args.sim.now.state.world.tasks ran_ms, c.loop-task-test.false, c.tasks-task-end.ensures) in
    let before = rw c.total_ms-total.ensures at c.loop-task.invariant.written in
    let total = rw (c.as_bytes.ensures.value, c.as_str-2.ensures.value, c.total_line.ensures, c.total_ms-total.ensures) at c.in_ok-write_all.ensures.ok in
    let end = rw c.ejected.ensures at c.write_policy.ensures.err in
    on_err c.write_policy.result (cut_at_end (g.N.Names.lists c.args.names.now) all c.loop-task.task c.args.sim.now.state.world.ejected _ _ _ _ past before total) end
