use Rattle.scx_isa.proofs.Programs.{spelling_is_read, spells_one}
use Rattle.scx_isa.proofs.laws.spelling_is_one_to_one.Goals as goal

pub returns-clause-reads_back : goal.returns-clause-reads_back
returns-clause-reads_back c = spelling_is_read

pub returns-clause-one_program : goal.returns-clause-one_program
returns-clause-one_program c = spells_one
