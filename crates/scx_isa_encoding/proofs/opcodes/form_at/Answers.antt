use Rattle.std.proofs.Common.{rules, sym, ◌∙◌}
use Rattle.scx_isa_encoding.proofs.Classes.{class_is_form}
use Rattle.scx_isa_encoding.proofs.opcodes.form_at.Goals as goal

pub returns-in-Some : goal.returns-in-Some
returns-in-Some c =
    sym (class_is_form c.args.opcode c.args.source c.in-Some.form (search rules) (sym c.in_class.ensures ∙ c.in-Some.is))
