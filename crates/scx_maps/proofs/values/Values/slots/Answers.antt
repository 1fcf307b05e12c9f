use Rattle.std.proofs.Common.{ap, sym, ◌∙◌}
use Rattle.scx_maps.specs.Slots.{slots}
use Rattle.scx_maps.proofs.Blocks.{map_there, element_count}
use Rattle.scx_maps.proofs.values.Values.slots.Goals as goal

pub shape-requires : goal.shape-requires
shape-requires c = map_there _ _ _ _ c.self.view_is c.requires

pub returns : goal.returns
returns c =
    let count = element_count c.self.inside.layout c.self.inside.block.items c.args.self.now c.args.map c.self.view_is c.requires in
    c.slots.ensures ∙ ap slots c.shape.ensures ∙ sym count
