use Rattle.std.proofs.Common.{◌≤◌, sym, ap, subst, ◌∙◌, arith}
use Rattle.scx_abs.specs.Changes.{IsBlankBelow, after_change, lowest_changed}
use Rattle.scx_abs.proofs.Blanks.{changed_blank}
use Rattle.scx_abs.proofs.known.Known.change.Goals as goal

pub invariant_of-self : goal.invariant_of-self
invariant_of-self c =
    let least = c.min-self-inside in
    let before : least.result ≤ c.self.inside.low = omega (arith, least.ensures) in
    let behind : least.result ≤ lowest_changed c.args.change.now = omega (arith, least.ensures, c.lowest_changed.ensures) in
    let changed = c.change.ensures ∙ ap (λ a. after_change a c.args.change.now) c.deref_mut.ensures.value in
    subst (IsBlankBelow least.result) (sym changed) (changed_blank c.self.inside.state.value c.args.change.now c.self.inside.low least.result c.self.invariant before behind)
