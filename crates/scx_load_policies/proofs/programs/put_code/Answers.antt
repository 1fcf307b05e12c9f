use Rattle.std.proofs.lemmas.Result.{err_from_is_err_and}
use Rattle.toml.specs.View.{table_view}
use Rattle.scx_isa_semantics.specs.declared.callbacks.Callback.{Callback}
use Rattle.scx_load_policies.specs.Policies.{Programs}
use Rattle.scx_load_policies.specs.Programs.{code_at}
use Rattle.scx_load_policies.proofs.Placing.{goes_on, fails}
use Rattle.scx_load_policies.proofs.programs.put_code.Goals as goal

pub returns-in_err-program : goal.returns-in_err-program
returns-in_err-program c =
    let at = c.loop-callback in
    let p = err_from_is_err_and c.from_residual.result c.from_residual.ensures.1 in
    let read = λ (b : Callback) (old : Programs). code_at (table_view c.args.code.table.now) b in
    rw (p.1, p.2) (fails read at.callback-index at.programs _ _ c.in_err-program.field-0.0 c.loop-callback-test.true c.in_err-program.ensures at.invariant)

pub loop-callback-preserved : goal.loop-callback-preserved
loop-callback-preserved c =
    let at = c.loop-callback in
    let read = λ (b : Callback) (old : Programs). code_at (table_view c.args.code.table.now) b in
    goes_on read at.callback-index at.programs _ _ c.in_ok-program.program c.set.new.self c.loop-callback-test.true c.in_ok-program.ensures c.set.ensures at.invariant
