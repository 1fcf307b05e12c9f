-- Each rule in a state and in one that it covers.
use Rattle.std.proofs.Common.{true, false, None, Ok, if◌then◌else◌}
use Rattle.scx_isa_semantics.specs.declared.instructions.Insn.TheVariants as insn
use Rattle.scx_isa_semantics.specs.Registers.{number}
use Rattle.scx_isa_semantics.specs.HostTables.{helper_known, answers}
use Rattle.scx_isa_semantics.specs.Arithmetic.{negative, sign_extension, byte_swapped, wide_immediate}
use Rattle.scx_abs_ranges.specs.Ranges.{single}
use Rattle.scx_abs_ranges.specs.Results.{negated_range, extended_range, swapped_range}
use Rattle.scx_abs_ranges.proofs.AllWidths.{negatives_are_sound, extensions_are_sound, swaps_are_sound}
use Rattle.scx_abs.specs.declared.kinds.Kind.{Kind}
use Rattle.scx_abs.specs.declared.kinds.Kind.TheVariants.{Num}
use Rattle.scx_abs.specs.Kinds.{CoversKind}
use Rattle.scx_abs.specs.States.{kind_at}
use Rattle.scx_abs.specs.Checks.{flows}
use Rattle.scx_abs.specs.Rules.{binary_kind, number_kind, map_kind, load_kind, end_rule}
use Rattle.scx_abs.specs.Monotone.{PassesToo, CoversFlows, RulesAreMonotone}
use Rattle.scx_abs.proofs.Orders.{kind_itself}
use Rattle.scx_abs.proofs.Proper.{kind_is_proper}
use Rattle.scx_abs.proofs.MonotoneRegisters.{passes_itself, sets_monotone}
use Rattle.scx_abs.proofs.MonotoneOperations.{binary_monotone, number_monotone}
use Rattle.scx_abs.proofs.MonotoneAccesses.{load_monotone, store_monotone}
use Rattle.scx_abs.proofs.MonotoneBranches.{jump_monotone}
use Rattle.scx_abs.proofs.MonotoneCalls.{call_monotone}

end_monotone : (j k : Kind) → CoversKind j k → PassesToo CoversFlows (end_rule j) (end_rule k)
end_monotone (Num s) (Num r) h = record { on = tt; jump = tt }
end_monotone (Num s) k h = absurd h
end_monotone j k h = tt

-- the law
pub rules_monotone : RulesAreMonotone
rules_monotone c (insn.Binary w o d x) b a fits q p h = sets_monotone b a d (binary_kind c.defs b w o d x) (binary_kind c.defs a w o d x) p h (binary_monotone c.defs b a w o d x fits q p h)
rules_monotone c (insn.Negate w d) b a fits q p h =
    sets_monotone b a d (number_kind (negated_range w) (kind_at b (number d))) (number_kind (negated_range w) (kind_at a (number d))) p h
    (number_monotone (negative w) (negated_range w) (kind_at b (number d)) (kind_at a (number d)) (negatives_are_sound w) (kind_is_proper b (number d) q) (kind_is_proper a (number d) p) (h.registers (number d)))
rules_monotone c (insn.SignExtend e d r) b a fits q p h =
    sets_monotone b a d (number_kind (extended_range e) (kind_at b (number r))) (number_kind (extended_range e) (kind_at a (number r))) p h
    (number_monotone (sign_extension e) (extended_range e) (kind_at b (number r)) (kind_at a (number r)) (extensions_are_sound e) (kind_is_proper b (number r) q) (kind_is_proper a (number r) p) (h.registers (number r)))
rules_monotone c (insn.ByteSwap o w d) b a fits q p h =
    sets_monotone b a d (number_kind (swapped_range o w) (kind_at b (number d))) (number_kind (swapped_range o w) (kind_at a (number d))) p h
    (number_monotone (byte_swapped o w) (swapped_range o w) (kind_at b (number d)) (kind_at a (number d)) (swaps_are_sound o w) (kind_is_proper b (number d) q) (kind_is_proper a (number d) p) (h.registers (number d)))
rules_monotone c (insn.LoadImmediate d low_half high_half) b a fits q p h =
    let k = Num (single (wide_immediate low_half high_half)) in
    sets_monotone b a d (Ok k) (Ok k) p h (kind_itself k)
rules_monotone c (insn.LoadMapReference d k) b a fits q p h = sets_monotone b a d (map_kind c.defs k) (map_kind c.defs k) p h (passes_itself CoversKind (map_kind c.defs k) kind_itself)
rules_monotone c (insn.Load access d r offset) b a fits q p h =
    sets_monotone b a d (load_kind c b access r offset) (load_kind c a access r offset) p h (load_monotone c b a access r offset q p h)
rules_monotone c (insn.Store s r offset x) b a fits q p h = store_monotone c.defs b a s r offset x fits.1 q p h
rules_monotone c (insn.JumpIf w k r x offset) b a fits q p h = jump_monotone b a w k r x fits.1 q p h
rules_monotone c (insn.Goto offset) b a fits q p h = record { on = tt; jump = h }
rules_monotone c (insn.GotoLong offset) b a fits q p h = record { on = tt; jump = h }
rules_monotone c (insn.Call k) b a fits q p h = call_monotone c.defs c.callback (helper_known c.rules k) b a q p h
rules_monotone c insn.Exit b a fits q p h =
    elim (answers c.callback) as (λ t. PassesToo CoversFlows (if t then end_rule (kind_at b 0) else Ok (flows None None)) (if t then end_rule (kind_at a 0) else Ok (flows None None)))
    [ true ↦ end_monotone (kind_at b 0) (kind_at a 0) (h.registers 0) | false ↦ record { on = tt; jump = tt } ]
