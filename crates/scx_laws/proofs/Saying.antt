-- Meanings of texts, computed by reading them.
use Rattle.std.proofs.Common.{refl}
use Rattle.scx_asm_text.specs.Symbols.{first_of}
use Rattle.scx_asm_text.specs.Tokens.{class_length, tokens_from}
use Rattle.scx_asm.specs.FirstPass.{first_pass}
use Rattle.scx_asm.specs.Reading.{second_pass}
use Rattle.scx_asm.specs.Resolving.{find}
use Rattle.scx_laws.specs.Serving.{one_queue, two_queues, three_queues}
use Rattle.scx_laws.specs.Lines.{one_line, line_with, to_idle_with}
use Rattle.scx_laws.specs.Texts.{Says, one_text, two_text, three_text, create_text, short_text, long_text, idle_text}

-- those of dispatch
pub queues_said : Says one_text one_queue × Says two_text two_queues × Says three_text three_queues
unfolding first_pass second_pass find tokens_from first_of class_length
queues_said = (refl, refl, refl)

-- and those of policies of one line
pub lines_said : Says create_text one_line × Says short_text (line_with 2000000) × Says long_text (line_with 20000000) × Says idle_text (to_idle_with 20000000)
unfolding first_pass second_pass find tokens_from first_of class_length
lines_said = (refl, refl, refl, refl)
