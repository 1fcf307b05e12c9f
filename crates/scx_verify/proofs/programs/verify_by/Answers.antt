use Rattle.std.proofs.Common.{rules}
use Rattle.scx_verify.proofs.Safe.{typed_safe}
use Rattle.scx_verify.proofs.Justified.{refusal_justified}
use Rattle.scx_verify.proofs.programs.verify_by.Goals as goal

pub invariant_of-result : goal.invariant_of-result
invariant_of-result c =
    let ready = c.in_ok-ops.ensures.ready in
    (ready, typed_safe _ _ ready.program ready.typed)

pub returns-clause-safe : goal.returns-clause-safe
returns-clause-safe c =
    let ready = c.in_ok-ops.ensures.ready in
    typed_safe _ _ ready.program ready.typed

pub returns-in_err-ops-clause-justified : goal.returns-in_err-ops-clause-justified
returns-in_err-ops-clause-justified c = search (rules, refusal_justified)
