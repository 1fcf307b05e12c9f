use Rattle.std.proofs.Common.{◌≡◌, ◌≤◌, ap, sym, ◌∙◌, subst, arith, rules}
use Rattle.std.specs.Prelude.{replicate}
use Rattle.scx_maps.specs.Limits.{total_bytes}
use Rattle.scx_isa_semantics.specs.Elements.{Contents}
use Rattle.scx_maps.specs.Contents.{zero_contents, HaveShapes}
use Rattle.scx_maps.specs.Layout.{contents_in}
use Rattle.scx_maps.proofs.Blocks.{contents_in-zeros}
use Rattle.scx_maps.proofs.Shapes.{HasShapes-zeros}
use Rattle.scx_maps.proofs.values.Values.new.Goals as goal

pub returns-clause-zeros : goal.returns-clause-zeros
returns-clause-zeros c =
    let items : c.in_ok-block.block.items ≡ replicate c.bytes.result 0 = search rules in
    let fits : total_bytes c.new-layout.result ≤ c.bytes.result = omega (arith, c.bytes.ensures.bytes) in
    ap (λ xs. contents_in c.new-layout.result xs) items ∙ contents_in-zeros c.new-layout.result c.bytes.result fits ∙ ap (λ shapes. zero_contents shapes) c.new-layout.ensures

pub returns-clause-shapes : goal.returns-clause-shapes
returns-clause-shapes c =
    let Shaped : Contents → Type 0 = λ maps. HaveShapes c.args.defs.now maps in
    subst Shaped (sym (returns-clause-zeros c)) (HasShapes-zeros c.args.defs.now)
