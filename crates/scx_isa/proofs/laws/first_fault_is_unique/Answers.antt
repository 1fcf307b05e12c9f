use Rattle.scx_isa.proofs.FirstFaults.{one_first_fault, faulty_bytes_spell_nothing}
use Rattle.scx_isa.proofs.laws.first_fault_is_unique.Goals as goal

pub returns-clause-unique : goal.returns-clause-unique
returns-clause-unique c = one_first_fault

pub returns-clause-unspelled : goal.returns-clause-unspelled
returns-clause-unspelled c = faulty_bytes_spell_nothing
