use Rattle.std.proofs.Common.{rules, ◌≡◌, IfOk, sym, subst}
use Rattle.scx_isa_encoding.specs.Opcodes.{opcode}
use Rattle.scx_isa_encoding.proofs.Codes.{opcode_is_read}
use Rattle.scx_isa_encoding.proofs.reading.form_of_slot.Goals as goal

pub returns-clause-opcode : goal.returns-clause-opcode
returns-clause-opcode c =
    let slot = c.args.slot.now in
    subst (λ r. IfOk r (λ f. slot.opcode ≡ opcode f)) (sym c.form_at.ensures) (opcode_is_read slot.opcode slot.source (search rules))
