use Rattle.std.proofs.Common.{ℕ, List, Option, sym, ◌∙◌, subst}
use Rattle.scx_maps.specs.Keeping.{AreApart}
use Rattle.scx_maps.proofs.Kept.{led_apart}
use Rattle.scx_maps.proofs.keys.Keys.copy_from.Goals as goal

pub index_again-requires-clause-apart : goal.index_again-requires-clause-apart
index_again-requires-clause-apart c =
    let held = c.deref-3.ensures.value ∙ c.copy_from_slice.ensures.items ∙ c.deref.ensures.value in
    subst (λ (xs : List (Option ℕ)). AreApart xs) (sym held) (led_apart c.other.inside.held.items c.other.inside.index c.other.invariant.led)
