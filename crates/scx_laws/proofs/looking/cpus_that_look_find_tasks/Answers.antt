use Rattle.scx_laws.proofs.Finding.{looking_finds, woken_finds}
use Rattle.scx_laws.proofs.looking.cpus_that_look_find_tasks.Goals as goal

pub returns-clause-any : goal.returns-clause-any
returns-clause-any c = looking_finds

pub returns-clause-woken : goal.returns-clause-woken
returns-clause-woken c = woken_finds
