use Rattle.scx_explore_states.proofs.Telling.{words_tell}
use Rattle.scx_explore_states.proofs.laws.words_tell.Goals as goal

pub returns : goal.returns
returns c = words_tell
