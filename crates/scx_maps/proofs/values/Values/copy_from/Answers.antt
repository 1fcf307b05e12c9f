use Rattle.std.proofs.Common.{length, sym, ap, ◌∙◌}
use Rattle.scx_maps.specs.Limits.{total_bytes}
use Rattle.scx_maps.specs.Layout.{contents_in}
use Rattle.scx_maps.proofs.Blocks.{total_bytes-laid, contents_in-laid}
use Rattle.scx_maps.proofs.ByPlace.{shapes_shown}
use Rattle.scx_maps.proofs.SameShapes.{same_shapes}
use Rattle.scx_maps.proofs.values.Values.copy_from.Goals as goal

pub copy_from_slice-requires : goal.copy_from_slice-requires
copy_from_slice-requires c =
    let own = shapes_shown c.self.inside.layout c.self.inside.block.items c.args.self.now c.self.invariant c.self.view_is in
    let others = shapes_shown c.other.inside.layout c.other.inside.block.items c.args.other.now c.other.invariant c.other.view_is in
    let same = sym own ∙ (same_shapes c.args.self.now c.args.other.now c.requires ∙ others) in
    c.self.inside.block.ok.0 ∙ c.self.invariant.full ∙ sym (total_bytes-laid c.self.inside.layout) ∙ ap total_bytes same ∙ total_bytes-laid c.other.inside.layout ∙ sym c.other.invariant.full ∙ sym (ap (λ xs. length xs) c.deref.ensures.value)

pub returns : goal.returns
returns c =
    let own = shapes_shown c.self.inside.layout c.self.inside.block.items c.args.self.now c.self.invariant c.self.view_is in
    let others = shapes_shown c.other.inside.layout c.other.inside.block.items c.args.other.now c.other.invariant c.other.view_is in
    let same = sym own ∙ (same_shapes c.args.self.now c.args.other.now c.requires ∙ others) in
    ap (λ xs. contents_in c.self.inside.layout xs) (c.copy_from_slice.ensures.items ∙ c.deref.ensures.value)
    ∙ sym (contents_in-laid c.self.inside.layout c.other.inside.block.items) ∙ ap (λ s. contents_in s c.other.inside.block.items) same ∙ contents_in-laid c.other.inside.layout c.other.inside.block.items ∙ c.other.view_is

pub invariant_of-self : goal.invariant_of-self
invariant_of-self c =
    let own = shapes_shown c.self.inside.layout c.self.inside.block.items c.args.self.now c.self.invariant c.self.view_is in
    let others = shapes_shown c.other.inside.layout c.other.inside.block.items c.args.other.now c.other.invariant c.other.view_is in
    let same = sym own ∙ (same_shapes c.args.self.now c.args.other.now c.requires ∙ others) in
    record {
      limits = c.self.invariant.limits;
      full = ap (λ xs. length xs) (c.copy_from_slice.ensures.items ∙ c.deref.ensures.value) ∙ c.other.invariant.full ∙ sym (total_bytes-laid c.other.inside.layout) ∙ sym (ap total_bytes same) ∙ total_bytes-laid c.self.inside.layout;
    }
