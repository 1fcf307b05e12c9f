use Rattle.scxsim_template.proofs.Drawing.{all_drawn}
use Rattle.scxsim_template.proofs.laws.stretches_are_drawn.Goals as goal

pub returns : goal.returns
returns c = all_drawn
