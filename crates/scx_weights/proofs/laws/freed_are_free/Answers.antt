use Rattle.scx_weights.proofs.Freed.{freed_are_free_lem}
use Rattle.scx_weights.proofs.laws.freed_are_free.Goals as goal

pub returns : goal.returns
returns c = freed_are_free_lem
