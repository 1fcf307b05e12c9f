use Rattle.std.proofs.Common.{length, arith}
use Rattle.scx_explore_findings.specs.Path.{machine_of}
use Rattle.scx_explore_audit.proofs.Fitting.{none_fit, one_fits, kept_fit, all_fit}
use Rattle.scx_explore_audit.proofs.room.rows_fit.Goals as goal

pub loop-cpu-init : goal.loop-cpu-init
loop-cpu-init c = none_fit c.args.path.now

pub loop-cpu-preserved : goal.loop-cpu-preserved
loop-cpu-preserved c =
    one_fits c.args.path.now c.loop-cpu.cpu c.loop-cpu.invariant (c.row_fits.ensures c.if-not-row_fits.false)

pub returns-then-table : goal.returns-then-table
returns-then-table c is = kept_fit c.args.table.form c.args.table.moves c.args.path.now.root c.args.path.now.room (length c.args.path.now.events) (machine_of c.args.path.now) c.if-table.true

pub returns : goal.returns
returns c is = all_fit c.args.table.form c.args.table.moves c.args.path.now _ c.cpus_of-cpu-end.ensures c.requires (λ k few. c.loop-cpu.invariant k (omega (arith, few, c.loop-cpu-test.false)))
