use Rattle.std.proofs.Common.{sym, ap, ◌∙◌, arith}
use Rattle.scx_maps.specs.Layout.{offset_of}
use Rattle.scx_maps.proofs.Blocks.{map_there, element_is_there, offset_of-laid}
use Rattle.scx_maps.proofs.ByPlace.{shapes_shown}
use Rattle.scx_maps.proofs.values.Values.offset.Goals as goal

pub offset-requires-clause-map : goal.offset-requires-clause-map
offset-requires-clause-map c = map_there _ _ _ _ c.self.view_is c.requires.map

pub offset-requires-clause-index : goal.offset-requires-clause-index
offset-requires-clause-index c = element_is_there _ _ _ _ _ c.self.view_is c.requires.map c.requires.index

pub returns-clause-offset : goal.returns-clause-offset
returns-clause-offset c =
    c.offset.ensures.offset ∙ sym (offset_of-laid c.self.inside.layout c.args.map c.args.index) ∙ ap (λ s. offset_of s c.args.map c.args.index) (sym (shapes_shown c.self.inside.layout c.self.inside.block.items c.args.self.now c.self.invariant c.self.view_is))

pub returns-clause-small : goal.returns-clause-small
returns-clause-small c = omega (arith, c.offset.ensures.within, c.offset.ensures.limits.total)
