use Rattle.std.proofs.Common.{◌≡◌, true, sym, subst, ◌∙◌}
use Rattle.scx_load_workloads.specs.Limit.{is_numeral}
use Rattle.scx_load_workloads.proofs.Limits.{too_long}
use Rattle.scx_load_workloads.proofs.numerals.numeral.Goals as goal

pub returns-in-Err : goal.returns-in-Err
returns-in-Err c =
    let digits = subst (λ t. is_numeral t ≡ true) c.as_bytes.ensures.value (sym c.is_numeral.ensures ∙ c.if-not-is_numeral.false) in
    too_long c.args.text.now digits c.in-Err.ensures.value.0
