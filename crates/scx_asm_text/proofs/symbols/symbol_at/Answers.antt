use Rattle.std.proofs.Common.{◌≡◌, [], ◌∷◌, get_or, Some, None, refl, arith}
use Rattle.std.proofs.lemmas.Grind.{common_steps}
use Rattle.scx_isa_semantics.specs.declared.operations.Operation.TheVariants.{Add, Subtract, Multiply, Divide, SignedDivide, Or, And, Xor, ShiftLeft, ShiftRight, ShiftRightSigned, Modulo, SignedModulo, Move}
use Rattle.scx_isa_semantics.specs.declared.operations.Comparison.TheVariants.{Equal, Greater, GreaterOrEqual, BitTest, NotEqual, SignedGreater, SignedGreaterOrEqual, Less, LessOrEqual, SignedLess, SignedLessOrEqual}
use Rattle.scx_asm_text.specs.declared.symbols.Symbol.TheVariants.{Assign, Compare, Plus, Minus, Star, Opening, Closing, Colon}
use Rattle.scx_asm_text.specs.Symbols.{first_of}
use Rattle.scx_asm_text.proofs.Firsts.{narrowed, alone, told_by_equals, no_symbol, no_text}
use Rattle.scx_asm_text.proofs.symbols.symbol_at.Goals as goal

pub returns-in-115 : goal.returns-in-115
unfolding first_of
returns-in-115 c =
    let first : get_or c.args.text.now 0 0 ≡ 115 = grind (arith, common_steps) in
    narrowed c.first_of.result 115 c.args.text.now (Assign ShiftRightSigned ∷ Assign SignedDivide ∷ Assign SignedModulo ∷ Compare SignedGreaterOrEqual ∷ Compare SignedLessOrEqual ∷ Compare SignedGreater ∷ Compare SignedLess ∷ []) c.first_of.ensures c.in-115.len_at_least first (λ rest. refl)

pub returns-in-60 : goal.returns-in-60
unfolding first_of
returns-in-60 c =
    let first : get_or c.args.text.now 0 0 ≡ 60 = grind (arith, common_steps) in
    narrowed c.first_of-in-60.result 60 c.args.text.now (Assign ShiftLeft ∷ Compare LessOrEqual ∷ Compare Less ∷ []) c.first_of-in-60.ensures c.in-60.len_at_least first (λ rest. refl)

pub returns-in-62 : goal.returns-in-62
unfolding first_of
returns-in-62 c =
    let first : get_or c.args.text.now 0 0 ≡ 62 = grind (arith, common_steps) in
    narrowed c.first_of-in-62.result 62 c.args.text.now (Assign ShiftRight ∷ Compare GreaterOrEqual ∷ Compare Greater ∷ []) c.first_of-in-62.ensures c.in-62.len_at_least first (λ rest. refl)

pub returns-in-61 : goal.returns-in-61
unfolding first_of
returns-in-61 c =
    let first : get_or c.args.text.now 0 0 ≡ 61 = grind (arith, common_steps) in
    told_by_equals c.by_equals.result 61 c.args.text.now (Compare Equal) (Some (Assign Move)) c.by_equals.ensures c.in-61.len_at_least first (λ rest. refl) (λ x rest other. rw other refl) refl

pub returns-in-43 : goal.returns-in-43
unfolding first_of
returns-in-43 c =
    let first : get_or c.args.text.now 0 0 ≡ 43 = grind (arith, common_steps) in
    told_by_equals c.assigned.result 43 c.args.text.now (Assign Add) (Some Plus) c.assigned.ensures c.in-43.len_at_least first (λ rest. refl) (λ x rest other. rw other refl) refl

pub returns-in-45 : goal.returns-in-45
unfolding first_of
returns-in-45 c =
    let first : get_or c.args.text.now 0 0 ≡ 45 = grind (arith, common_steps) in
    told_by_equals c.assigned-in-45.result 45 c.args.text.now (Assign Subtract) (Some Minus) c.assigned-in-45.ensures c.in-45.len_at_least first (λ rest. refl) (λ x rest other. rw other refl) refl

pub returns-in-42 : goal.returns-in-42
unfolding first_of
returns-in-42 c =
    let first : get_or c.args.text.now 0 0 ≡ 42 = grind (arith, common_steps) in
    told_by_equals c.assigned-in-42.result 42 c.args.text.now (Assign Multiply) (Some Star) c.assigned-in-42.ensures c.in-42.len_at_least first (λ rest. refl) (λ x rest other. rw other refl) refl

pub returns-in-38 : goal.returns-in-38
unfolding first_of
returns-in-38 c =
    let first : get_or c.args.text.now 0 0 ≡ 38 = grind (arith, common_steps) in
    told_by_equals c.assigned-in-38.result 38 c.args.text.now (Assign And) (Some (Compare BitTest)) c.assigned-in-38.ensures c.in-38.len_at_least first (λ rest. refl) (λ x rest other. rw other refl) refl

pub returns-in-47 : goal.returns-in-47
unfolding first_of
returns-in-47 c =
    let first : get_or c.args.text.now 0 0 ≡ 47 = grind (arith, common_steps) in
    told_by_equals c.assigned-in-47.result 47 c.args.text.now (Assign Divide) (None) c.assigned-in-47.ensures c.in-47.len_at_least first (λ rest. refl) (λ x rest other. rw other refl) refl

pub returns-in-37 : goal.returns-in-37
unfolding first_of
returns-in-37 c =
    let first : get_or c.args.text.now 0 0 ≡ 37 = grind (arith, common_steps) in
    told_by_equals c.assigned-in-37.result 37 c.args.text.now (Assign Modulo) (None) c.assigned-in-37.ensures c.in-37.len_at_least first (λ rest. refl) (λ x rest other. rw other refl) refl

pub returns-in-124 : goal.returns-in-124
unfolding first_of
returns-in-124 c =
    let first : get_or c.args.text.now 0 0 ≡ 124 = grind (arith, common_steps) in
    told_by_equals c.assigned-in-124.result 124 c.args.text.now (Assign Or) (None) c.assigned-in-124.ensures c.in-124.len_at_least first (λ rest. refl) (λ x rest other. rw other refl) refl

pub returns-in-94 : goal.returns-in-94
unfolding first_of
returns-in-94 c =
    let first : get_or c.args.text.now 0 0 ≡ 94 = grind (arith, common_steps) in
    told_by_equals c.assigned-in-94.result 94 c.args.text.now (Assign Xor) (None) c.assigned-in-94.ensures c.in-94.len_at_least first (λ rest. refl) (λ x rest other. rw other refl) refl

pub returns-in-33 : goal.returns-in-33
unfolding first_of
returns-in-33 c =
    let first : get_or c.args.text.now 0 0 ≡ 33 = grind (arith, common_steps) in
    told_by_equals c.by_equals-in-33.result 33 c.args.text.now (Compare NotEqual) (None) c.by_equals-in-33.ensures c.in-33.len_at_least first (λ rest. refl) (λ x rest other. rw other refl) refl

pub returns-in-40 : goal.returns-in-40
unfolding first_of
returns-in-40 c =
    let first : get_or c.args.text.now 0 0 ≡ 40 = grind (arith, common_steps) in
    alone Opening 40 c.args.text.now c.in-40.len_at_least first (λ rest. refl)

pub returns-in-41 : goal.returns-in-41
unfolding first_of
returns-in-41 c =
    let first : get_or c.args.text.now 0 0 ≡ 41 = grind (arith, common_steps) in
    alone Closing 41 c.args.text.now c.in-41.len_at_least first (λ rest. refl)

pub returns-in-58 : goal.returns-in-58
unfolding first_of
returns-in-58 c =
    let first : get_or c.args.text.now 0 0 ≡ 58 = grind (arith, common_steps) in
    alone Colon 58 c.args.text.now c.in-58.len_at_least first (λ rest. refl)

pub returns-in_default : goal.returns-in_default
returns-in_default c = no_text c.args.text.now c.in_default.len_below

pub returns-in_default-2 : goal.returns-in_default-2
returns-in_default-2 c =
    no_symbol c.args.text.now c.in_default.len_at_least (record {
      signed = grind (arith, common_steps);
      less = grind (arith, common_steps);
      greater = grind (arith, common_steps);
      equal = grind (arith, common_steps);
      plus = grind (arith, common_steps);
      minus = grind (arith, common_steps);
      star = grind (arith, common_steps);
      and = grind (arith, common_steps);
      slash = grind (arith, common_steps);
      percent = grind (arith, common_steps);
      bar = grind (arith, common_steps);
      caret = grind (arith, common_steps);
      bang = grind (arith, common_steps);
      opening = grind (arith, common_steps);
      closing = grind (arith, common_steps);
      colon = grind (arith, common_steps);
    })
