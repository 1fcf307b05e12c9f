use Rattle.std.proofs.Common.{List, ℕ, length, ap, ◌∙◌}
use Rattle.scx_maps.proofs.Blocks.{map_there, element_is_there, value_read, same_length}
use Rattle.scx_maps.proofs.values.Values.value.Goals as goal

pub offset-start-requires-clause-map : goal.offset-start-requires-clause-map
offset-start-requires-clause-map c = map_there _ _ _ _ c.self.view_is c.requires.map

pub offset-start-requires-clause-index : goal.offset-start-requires-clause-index
offset-start-requires-clause-index c = element_is_there _ _ _ _ _ c.self.view_is c.requires.map c.requires.index

pub shape-size-requires : goal.shape-size-requires
shape-size-requires c = map_there _ _ _ _ c.self.view_is c.requires.map

pub returns-clause-value : goal.returns-clause-value
returns-clause-value c = value_read c.self.inside.layout c.self.inside.block.items c.args.self.now c.args.map c.args.index _ _ _ c.self.view_is c.requires.map c.requires.index c.offset-start.ensures.offset (ap (λ s. s.value_size) c.shape-size.ensures) c.deref.ensures.value

pub returns-clause-long : goal.returns-clause-long
returns-clause-long c =
    ap (λ (xs : List ℕ). length xs) (returns-clause-value c)
    ∙ same_length c.self.inside.layout c.self.inside.block.items c.args.self.now c.args.map c.args.index c.self.view_is c.requires.map c.requires.index c.self.invariant.full
