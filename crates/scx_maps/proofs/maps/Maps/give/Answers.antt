use Rattle.std.proofs.Common.{sym, ap, ◌∙◌}
use Rattle.scx_isa_semantics.specs.Elements.{Maps}
use Rattle.scx_isa_semantics.specs.Serving.{value_size}
use Rattle.scx_maps.proofs.maps.Maps.give.Goals as goal

pub copy_from_slice-requires : goal.copy_from_slice-requires
copy_from_slice-requires c = c.requires.long ∙ ap (λ (m : Maps). value_size m c.args.map) (sym c.self.view_is) ∙ sym c.value.ensures.long
