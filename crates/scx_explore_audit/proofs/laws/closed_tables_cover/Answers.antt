use Rattle.scx_explore_audit.proofs.Covered.{closed_tables_cover, respected_followed}
use Rattle.scx_explore_audit.proofs.laws.closed_tables_cover.Goals as goal

pub returns-clause-cover : goal.returns-clause-cover
returns-clause-cover c = closed_tables_cover

pub returns-clause-matched : goal.returns-clause-matched
returns-clause-matched c = respected_followed
