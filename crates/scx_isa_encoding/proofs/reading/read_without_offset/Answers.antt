use Rattle.std.proofs.Common.{rules, ◌≡◌, ℤ, Ok, FitsSigned, ap, sym, ◌∙◌, to_z-of_z}
use Rattle.std.specs.Int.{w32, cast_signed, cast_unsigned}
use Rattle.scx_isa_semantics.specs.declared.instructions.Operand.TheVariants as operand
use Rattle.scx_isa_encoding.specs.Slots.{front_slot}
use Rattle.scx_isa_encoding.specs.Reading.{operand_at}
use Rattle.scx_isa_encoding.specs.declared.forms.Source.TheVariants.{Immediate}
use Rattle.scx_isa_encoding.proofs.Insns.{plainly_read}
use Rattle.scx_isa_encoding.proofs.reading.read_without_offset.Goals as goal

pub returns-in-Immediate : goal.returns-in-Immediate
returns-in-Immediate c =
    let slot = c.args.slot.now in
    let form = rw c.in-Immediate.is at c.requires.form in
    let read : ℤ = cast_signed w32 (cast_unsigned w32 c.cast_signed.result) in
    let fits : FitsSigned w32 c.cast_signed.result = search rules in
    let same : read ≡ c.cast_signed.result = to_z-of_z {w = w32} {z = c.cast_signed.result} fits in
    let number : operand_at Immediate slot ≡ Ok (operand.Immediate read) = ap (λ (k : ℤ). Ok (operand.Immediate k)) (sym c.cast_signed.ensures ∙ sym same) in
    c.checked.ensures ∙ sym (plainly_read slot (front_slot c.args.after.now) c.args.width c.args.operation Immediate c.in_ok-destination.destination (operand.Immediate read) form (sym c.in_ok-destination.ensures) number c.requires.offset)
