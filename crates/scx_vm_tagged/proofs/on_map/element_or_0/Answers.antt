use Rattle.std.proofs.Common.{sym, ◌∙◌}
use Rattle.scx_vm_tagged.proofs.MapEffects.{element_there, element_missing}
use Rattle.scx_vm_tagged.proofs.on_map.element_or_0.Goals as goal

pub returns-then-lookup : goal.returns-then-lookup
returns-then-lookup c = element_there c.args.maps.now c.args.map c.args.index (c.lookup.ensures.0 c.if-lookup.true)

pub returns-else-lookup : goal.returns-else-lookup
returns-else-lookup c = element_missing c.args.maps.now c.args.map c.args.index (λ h. sym c.if-lookup.false ∙ c.lookup.ensures.1 h)
