use Rattle.std.proofs.Common.{length, refl, ap, ◌∙◌}
use Rattle.scx_maps.proofs.ShapedContents.{given_back-same_length, lengths_in-with_value}
use Rattle.scx_maps.proofs.Blocks.{map_there, element_is_there, value_read, same_length}
use Rattle.scx_maps.proofs.Lent.{lent_at}
use Rattle.scx_maps.proofs.values.Values.value_mut.Goals as goal

pub offset-start-requires-clause-map : goal.offset-start-requires-clause-map
offset-start-requires-clause-map c = map_there _ _ _ _ c.self.view_is c.requires.map

pub offset-start-requires-clause-index : goal.offset-start-requires-clause-index
offset-start-requires-clause-index c = element_is_there _ _ _ _ _ c.self.view_is c.requires.map c.requires.index

pub shape-size-requires : goal.shape-size-requires
shape-size-requires c = map_there _ _ _ _ c.self.view_is c.requires.map

pub returns : goal.returns
returns c =
    let maps = c.args.self.now in
    let block = c.self.inside.block in
    let size = ap (λ s. s.value_size) c.shape-size.ensures in
    let shown = value_read c.self.inside.layout block.items maps c.args.map c.args.index _ _ _ c.self.view_is c.requires.map c.requires.index c.offset-start.ensures.offset size refl in
    let value = c.slice_mut.ensures.value ∙ shown in
    let whole = ap (λ xs. length xs) value in (
      (refl, λ w. lent_at c.self.inside.layout block.items maps c.args.map c.args.index c.offset-start.result block.len w c.self.invariant c.self.view_is c.requires.map c.requires.index c.offset-start.ensures.offset block.ok.0),
      record {
        writes_back = tt;
        value = value;
        long = whole ∙ same_length c.self.inside.layout block.items maps c.args.map c.args.index c.self.view_is c.requires.map c.requires.index c.self.invariant.full;
        changes = λ bytes long. given_back-same_length maps c.args.map c.args.index bytes (long ∙ whole);
        shapes = λ bytes long. lengths_in-with_value maps c.args.map c.args.index bytes c.requires.map c.requires.index (long ∙ whole);
      },
    )
