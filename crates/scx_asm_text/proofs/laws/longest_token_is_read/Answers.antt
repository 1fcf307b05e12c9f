use Rattle.scx_asm_text.proofs.LongestTokens.{longest_token}
use Rattle.scx_asm_text.proofs.laws.longest_token_is_read.Goals as goal

pub returns : goal.returns
returns c = longest_token
