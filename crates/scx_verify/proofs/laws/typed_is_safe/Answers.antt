use Rattle.scx_verify.proofs.Safe.{typed_safe}
use Rattle.scx_verify.proofs.laws.typed_is_safe.Goals as goal

pub returns : goal.returns
returns c = typed_safe
