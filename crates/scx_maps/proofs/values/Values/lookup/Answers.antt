use Rattle.std.proofs.Common.{◌≡◌, length, ap, sym, ◌∙◌, rules}
use Rattle.scx_isa_semantics.specs.Elements.{slots_in}
use Rattle.scx_maps.specs.Slots.{slots}
use Rattle.scx_maps.proofs.Blocks.{map_there, element_count}
use Rattle.scx_maps.proofs.values.Values.lookup.Goals as goal

pub shape-requires : goal.shape-requires
shape-requires c = map_there _ _ _ _ c.self.view_is c.requires

pub returns : goal.returns
returns c =
    let count = element_count c.self.inside.layout c.self.inside.block.items c.args.self.now c.args.map c.self.view_is c.requires in
    let slots_there : c.slots.result ≡ length (slots_in c.args.self.now c.args.map) = c.slots.ensures ∙ ap slots c.shape.ensures ∙ sym count in
    rw slots_there (search rules)
