use Rattle.scx_verify.proofs.Choices.{typing_chooses}
use Rattle.scx_verify.proofs.laws.typing_chooses.Goals as goal

pub returns : goal.returns
returns c = typing_chooses
