use Rattle.std.proofs.Common.{length, ap, ◌∙◌}
use Rattle.scx_maps.specs.Contents.{lengths_in}
use Rattle.scx_isa_semantics.specs.Memory.{size_bytes}
use Rattle.scx_isa_semantics.proofs.Bytes.{length-with_number}
use Rattle.scx_maps.proofs.values.Values.store.Goals as goal

pub returns-clause-shapes : goal.returns-clause-shapes
returns-clause-shapes c =
    let lent = ap (λ xs. length xs) c.value_mut.ensures.value in
    let long = ap (λ xs. length xs) c.write_number.ensures ∙ length-with_number c.value_mut.result.now c.args.offset (size_bytes c.args.size) c.args.number (rw c.value_mut.ensures.value c.requires.offset) in
    ap (λ maps. lengths_in maps) (c.value_mut.ensures.changes _ long) ∙ c.value_mut.ensures.shapes _ long
