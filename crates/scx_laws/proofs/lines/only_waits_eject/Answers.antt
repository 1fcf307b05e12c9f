use Rattle.scx_laws.proofs.Faultless.{only_waits_eject, idles_unless_late}
use Rattle.scx_laws.proofs.lines.only_waits_eject.Goals as goal

pub returns-clause-run : goal.returns-clause-run
returns-clause-run c = only_waits_eject

pub returns-clause-idle : goal.returns-clause-idle
returns-clause-idle c = idles_unless_late
