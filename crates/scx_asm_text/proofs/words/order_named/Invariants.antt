use Rattle.std.proofs.Common.{◌≡◌, drop}
use Rattle.scx_asm_text.specs.Names.{first_with_name, order_text, orders, order_named}
use Rattle.scx_asm_text.proofs.words.order_named.Given as goal

abbrev pub invariant-loop-order : goal.invariant-loop-order
invariant-loop-order l = order_named l.name ≡ first_with_name order_text (drop l.order-index orders) l.name
