use Rattle.scx_vm.proofs.Sound.{plain_shows}
use Rattle.scx_vm.proofs.laws.plain_runs_show.Goals as goal

pub returns : goal.returns
returns c = plain_shows
