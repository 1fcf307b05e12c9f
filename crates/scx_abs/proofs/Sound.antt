-- Each rule against what its instruction means, and the state in which a callback begins.
use Rattle.std.proofs.Common.{true, false, List, Some, None, Ok, if◌then◌else◌}
use Rattle.scx_isa_semantics.specs.declared.instructions.Insn.TheVariants as insn
use Rattle.scx_isa_semantics.specs.declared.values.Value.{Value}
use Rattle.scx_isa_semantics.specs.declared.values.Value.TheVariants as value
use Rattle.scx_isa_semantics.specs.Registers.{number}
use Rattle.scx_isa_semantics.specs.Arithmetic.{negative, sign_extension, byte_swapped, wide_immediate}
use Rattle.scx_isa_semantics.specs.HostTables.{helper_at, answers}
use Rattle.scx_isa_semantics.specs.Elements.{Maps}
use Rattle.scx_isa_semantics.specs.Effects as effect
use Rattle.scx_isa_semantics.specs.Meaning.{binary, on_number, map_reference, end_with}
use Rattle.scx_maps.specs.declared.shape.Shape.{Shape}
use Rattle.scx_abs_ranges.specs.Ranges.{single}
use Rattle.scx_abs_ranges.specs.Results.{negated_range, extended_range, swapped_range}
use Rattle.scx_abs_ranges.proofs.Multiples.{in_single}
use Rattle.scx_abs_ranges.proofs.AllWidths.{negatives_are_sound, extensions_are_sound, swaps_are_sound}
use Rattle.scx_abs.specs.declared.kinds.Kind.{Kind}
use Rattle.scx_abs.specs.declared.kinds.Kind.TheVariants.{Num}
use Rattle.scx_abs.specs.States.{kind_at}
use Rattle.scx_abs.specs.Stands.{Stands}
use Rattle.scx_abs.specs.Checks.{flows}
use Rattle.scx_abs.specs.Rules.{binary_kind, number_kind, map_kind, end_rule}
use Rattle.scx_abs.specs.Laws.{IsSoundFor, RulesAreSound, StartIsSound}
use Rattle.scx_abs.proofs.Proper.{kind_is_proper}
use Rattle.scx_abs.proofs.Registers.{set_sound}
use Rattle.scx_abs.proofs.Operations.{binary_gives, number_gives, map_gives}
use Rattle.scx_abs.proofs.Accesses.{load_sound, store_sound}
use Rattle.scx_abs.proofs.Branches.{jump_sound}
use Rattle.scx_abs.proofs.HelperCalls.{known_sound}
use Rattle.scx_abs.proofs.Starts.{begins_sound}

end_sound : (shapes : List Shape) (maps : Maps) (k : Kind) (v : Value) → Stands maps k v → IsSoundFor shapes (end_rule k) (end_with v)
end_sound shapes maps (Num r) (value.Number n) h = tt
end_sound shapes maps (Num r) v h = absurd h
end_sound shapes maps k v h = tt

-- the law of rules
pub rules_sound : RulesAreSound
rules_sound c (insn.Binary w o d x) a m fits p h =
    set_sound c.defs a m (number d) (binary_kind c.defs a w o d x) (binary m w o (m.registers (number d)) x) h (binary_gives c.defs a m w o d x fits p h)
rules_sound c (insn.Negate w d) a m fits p h =
    set_sound c.defs a m (number d) (number_kind (negated_range w) (kind_at a (number d))) (on_number (negative w) (m.registers (number d))) h
    (number_gives m.maps (negative w) (negated_range w) (kind_at a (number d)) (m.registers (number d)) (negatives_are_sound w) (kind_is_proper a (number d) p) (h.registers (number d)))
rules_sound c (insn.SignExtend e d r) a m fits p h =
    set_sound c.defs a m (number d) (number_kind (extended_range e) (kind_at a (number r))) (on_number (sign_extension e) (m.registers (number r))) h
    (number_gives m.maps (sign_extension e) (extended_range e) (kind_at a (number r)) (m.registers (number r)) (extensions_are_sound e) (kind_is_proper a (number r) p) (h.registers (number r)))
rules_sound c (insn.ByteSwap o w d) a m fits p h =
    set_sound c.defs a m (number d) (number_kind (swapped_range o w) (kind_at a (number d))) (on_number (byte_swapped o w) (m.registers (number d))) h
    (number_gives m.maps (byte_swapped o w) (swapped_range o w) (kind_at a (number d)) (m.registers (number d)) (swaps_are_sound o w) (kind_is_proper a (number d) p) (h.registers (number d)))
rules_sound c (insn.LoadImmediate d low_half high_half) a m fits p h =
    set_sound c.defs a m (number d) (Ok (Num (single (wide_immediate low_half high_half)))) (Some (value.Number (wide_immediate low_half high_half))) h (in_single (wide_immediate low_half high_half))
rules_sound c (insn.LoadMapReference d k) a m fits p h =
    set_sound c.defs a m (number d) (map_kind c.defs k) (map_reference m.maps k) h (map_gives c.defs m.maps k h.maps)
rules_sound c (insn.Load access d r offset) a m fits p h = load_sound c a m access d r offset p h
rules_sound c (insn.Store s r offset x) a m fits p h = store_sound c.defs a m s r offset x fits.1 p h
rules_sound c (insn.JumpIf w k r x offset) a m fits p h = jump_sound c.defs a m w k r x fits.1 p h
rules_sound c (insn.Goto offset) a m fits p h = h
rules_sound c (insn.GotoLong offset) a m fits p h = h
rules_sound c (insn.Call k) a m fits p h = known_sound c.rules c.defs c.callback (helper_at k) a m p h
rules_sound c insn.Exit a m fits p h =
    elim (answers c.callback) as (λ b. IsSoundFor c.defs (if b then end_rule (kind_at a 0) else Ok (flows None None)) (if b then end_with (m.registers 0) else effect.Ended 0))
    [ true ↦ end_sound c.defs m.maps (kind_at a 0) (m.registers 0) (h.registers 0) | false ↦ tt ]

-- the law of the start
pub start_sound : StartIsSound
start_sound = begins_sound
