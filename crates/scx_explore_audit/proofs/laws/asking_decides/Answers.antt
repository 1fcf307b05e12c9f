use Rattle.scx_explore_findings.proofs.Answered.{answered_calls_load_none, answered_calls_give}
use Rattle.scx_explore_findings.proofs.Loads.{loads_are_told}
use Rattle.scx_explore_findings.proofs.Machines.{calls_dont_depend, calls_tell_no_idle_slices}
use Rattle.scx_explore_findings.proofs.Runs.{such_programs_read_none, such_programs_tell_no_slices}
use Rattle.scx_explore_audit.proofs.laws.asking_decides.Goals as goal

pub returns-clause-loads : goal.returns-clause-loads
returns-clause-loads c = loads_are_told

pub returns-clause-hidden : goal.returns-clause-hidden
returns-clause-hidden c = such_programs_read_none

pub returns-clause-slices : goal.returns-clause-slices
returns-clause-slices c = such_programs_tell_no_slices

pub returns-clause-calls : goal.returns-clause-calls
returns-clause-calls c = calls_dont_depend

pub returns-clause-calls_and_slices : goal.returns-clause-calls_and_slices
returns-clause-calls_and_slices c = calls_tell_no_idle_slices

pub returns-clause-called_loads : goal.returns-clause-called_loads
returns-clause-called_loads c = answered_calls_load_none

pub returns-clause-called_inserts : goal.returns-clause-called_inserts
returns-clause-called_inserts c = answered_calls_give
