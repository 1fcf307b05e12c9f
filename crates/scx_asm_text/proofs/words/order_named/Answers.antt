use Rattle.std.proofs.Common.{◌≡◌, true, false, get_or, sym, ◌∙◌}
use Rattle.std.specs.Str.{bytes_eq}
use Rattle.scx_isa_semantics.specs.declared.operations.ByteOrder.TheVariants.{Little}
use Rattle.scx_isa_semantics.specs.declared.operations.SwapWidth.TheVariants as order
use Rattle.scx_asm_text.specs.Names.{order_text, orders}
use Rattle.scx_asm_text.proofs.Names.{named_here, named_later}
use Rattle.scx_asm_text.proofs.words.order_named.Goals as goal

pub returns-then-eq : goal.returns-then-eq
returns-then-eq c =
    let found : bytes_eq c.args.name.now (order_text (get_or orders c.loop-order.order-index (Little, order.Bits16))) ≡ true = cc in
    sym (c.loop-order.invariant ∙ named_here order_text orders c.loop-order.order-index (Little, order.Bits16) c.args.name.now c.loop-order-test.true found)

pub loop-order-preserved : goal.loop-order-preserved
loop-order-preserved c =
    let missed : bytes_eq c.args.name.now (order_text (get_or orders c.loop-order.order-index (Little, order.Bits16))) ≡ false = cc in
    c.loop-order.invariant ∙ named_later order_text orders c.loop-order.order-index (Little, order.Bits16) c.args.name.now c.loop-order-test.true missed
