use Rattle.std.proofs.lemmas.Result.{err_from_is_err_and}
use Rattle.toml.specs.View.{table_view}
use Rattle.scx_isa_semantics.specs.declared.callbacks.Callback.{Callback}
use Rattle.scx_isa_semantics.specs.Callbacks.{at}
use Rattle.scx_load_policies.specs.Policies.{Programs}
use Rattle.scx_load_policies.specs.Programs.{slots_at}
use Rattle.scx_load_policies.proofs.Placing.{is_put, goes_on, fails}
use Rattle.scx_load_policies.proofs.programs.put_slots.Goals as goal

pub returns-in_err-program : goal.returns-in_err-program
returns-in_err-program c =
    let here = c.loop-callback in
    let p = err_from_is_err_and c.from_residual.result c.from_residual.ensures.1 in
    let read = λ (b : Callback) (old : Programs). slots_at (table_view c.args.slots.table.now) b (at old b) in
    let failed = rw c.take-before.ensures.taken at c.in_err-program.ensures in
    rw (p.1, p.2) (fails read here.callback-index here.programs _ _ c.in_err-program.field-0.0 c.loop-callback-test.true failed here.invariant)

pub loop-callback-preserved : goal.loop-callback-preserved
loop-callback-preserved c =
    let here = c.loop-callback in
    let read = λ (b : Callback) (old : Programs). slots_at (table_view c.args.slots.table.now) b (at old b) in
    let put = is_put here.programs c.take-before.new.self c.set.new.self _ _ c.in_ok-program.program c.take-before.ensures.rest c.set.ensures in
    let found = rw c.take-before.ensures.taken at c.in_ok-program.ensures in
    goes_on read here.callback-index here.programs _ _ c.in_ok-program.program c.set.new.self c.loop-callback-test.true found put here.invariant
