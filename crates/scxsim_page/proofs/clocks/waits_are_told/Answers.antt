use Rattle.scxsim_page.proofs.Told.{clock_told, told, one_long}
use Rattle.scxsim_page.proofs.clocks.waits_are_told.Goals as goal

pub returns-clause-clocks : goal.returns-clause-clocks
returns-clause-clocks c = clock_told

pub returns-clause-all : goal.returns-clause-all
returns-clause-all c = told

pub returns-clause-length : goal.returns-clause-length
returns-clause-length c = one_long
