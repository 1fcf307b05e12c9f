use Rattle.scx_laws.proofs.Saying.{lines_said}
use Rattle.scx_laws.proofs.lines.texts_say_lines.Goals as goal

pub returns-clause-creates : goal.returns-clause-creates
returns-clause-creates c = lines_said.0

pub returns-clause-short : goal.returns-clause-short
returns-clause-short c = lines_said.1

pub returns-clause-long : goal.returns-clause-long
returns-clause-long c = lines_said.2

pub returns-clause-idle : goal.returns-clause-idle
returns-clause-idle c = lines_said.3
