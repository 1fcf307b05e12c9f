use Rattle.scx_explore_findings.proofs.CountedRuns.{such_programs_load_no_count}
use Rattle.scx_explore_findings.proofs.CountedMachines.{counts_change_nothing, ticks_only_count}
use Rattle.scx_explore_audit.proofs.laws.counts_change_nothing.Goals as goal

pub returns-clause-events : goal.returns-clause-events
returns-clause-events c = counts_change_nothing

pub returns-clause-ticks : goal.returns-clause-ticks
returns-clause-ticks c = ticks_only_count

pub returns-clause-programs : goal.returns-clause-programs
returns-clause-programs c = such_programs_load_no_count
