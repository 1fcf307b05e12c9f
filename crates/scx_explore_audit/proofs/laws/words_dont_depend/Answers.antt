use Rattle.scx_explore_findings.proofs.Words.{words_dont_depend}
use Rattle.scx_explore_audit.proofs.laws.words_dont_depend.Goals as goal

pub returns : goal.returns
returns c = words_dont_depend
