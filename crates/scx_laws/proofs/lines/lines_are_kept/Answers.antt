use Rattle.scx_laws.proofs.Lining.{line_created, short_lined, long_lined, idle_chosen}
use Rattle.scx_laws.proofs.lines.lines_are_kept.Goals as goal

pub returns-clause-creates : goal.returns-clause-creates
returns-clause-creates c = line_created

pub returns-clause-short : goal.returns-clause-short
returns-clause-short c = short_lined

pub returns-clause-long : goal.returns-clause-long
returns-clause-long c = long_lined

pub returns-clause-idle : goal.returns-clause-idle
returns-clause-idle c = idle_chosen
