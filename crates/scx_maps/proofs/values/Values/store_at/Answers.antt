use Rattle.std.proofs.Common.{◌≡◌, length, sym, ap, ◌∙◌, arith}
use Rattle.std.proofs.lemmas.List.{take_at}
use Rattle.scx_isa_semantics.specs.Elements.{slots_in, with_number}
use Rattle.scx_isa_semantics.specs.Memory.{size_bytes}
use Rattle.scx_isa_semantics.proofs.Bytes.{length-with_number}
use Rattle.scx_maps.specs.Layout.{contents_in}
use Rattle.scx_maps.specs.Lending.{bytes_of}
use Rattle.scx_maps.proofs.Blocks.{contents_in-laid, same_counts}
use Rattle.scx_maps.proofs.ByPlace.{all_shown, shapes_shown}
use Rattle.scx_maps.proofs.values.Values.store_at.Goals as goal

pub write_number-requires : goal.write_number-requires
write_number-requires c =
    let all = all_shown c.self.inside.layout c.self.inside.block.items c.args.self.now c.self.invariant c.self.view_is in
    omega (arith, ap (λ xs. length xs) all, ap (λ xs. length xs) c.deref_mut.ensures.value)

pub returns-clause-counts : goal.returns-clause-counts
returns-clause-counts c m =
    same_counts c.self.inside.layout _ _ m ∙ ap (λ ms. length (slots_in ms m)) c.self.view_is

pub returns-clause-stored : goal.returns-clause-stored
returns-clause-stored c =
    let maps = c.args.self.now in
    let block = c.self.inside.block in
    let all = all_shown c.self.inside.layout block.items maps c.self.invariant c.self.view_is in
    let shapes = shapes_shown c.self.inside.layout block.items maps c.self.invariant c.self.view_is in
    let is = c.write_number.ensures ∙ ap (λ xs. with_number xs c.args.offset (size_bytes c.args.size) c.args.number) (c.deref_mut.ensures.value ∙ sym all) in
    let count = ap (λ xs. length xs) all in
    let long : length c.write_number.new.value ≡ block.len = ap (λ xs. length xs) is ∙ length-with_number (bytes_of maps) c.args.offset (size_bytes c.args.size) c.args.number c.requires ∙ count ∙ sym block.ok.0 in
    ap (λ xs. contents_in c.self.inside.layout xs) (take_at c.write_number.new.value _ block.len long ∙ is)
    ∙ sym (contents_in-laid c.self.inside.layout (with_number (bytes_of maps) c.args.offset (size_bytes c.args.size) c.args.number))
    ∙ ap (λ s. contents_in s (with_number (bytes_of maps) c.args.offset (size_bytes c.args.size) c.args.number)) (sym shapes)
