use Rattle.std.proofs.Common.{sym, subst, ◌∙◌}
use Rattle.scx_abs.specs.Changes.{IsBlankBelow}
use Rattle.scx_abs.proofs.Blanks.{first_blank}
use Rattle.scx_abs.proofs.known.Known.start.Goals as goal

pub invariant_of-result : goal.invariant_of-result
invariant_of-result c =
    subst (IsBlankBelow 64) (sym (c.in_ok-new.ensures.ok ∙ c.start.ensures)) (first_blank c.args.callback)
