use Rattle.scx_laws.proofs.Entering.{enters_queue, only_enters_queue, keys_compare}
use Rattle.scx_laws.proofs.allowing.rules_allow_entries.Goals as goal

pub returns-clause-allowed : goal.returns-clause-allowed
returns-clause-allowed c = enters_queue

pub returns-clause-only : goal.returns-clause-only
returns-clause-only c = only_enters_queue

pub returns-clause-by_sign : goal.returns-clause-by_sign
returns-clause-by_sign c = keys_compare
