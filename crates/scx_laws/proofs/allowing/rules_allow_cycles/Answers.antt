use Rattle.scx_laws.proofs.Cycling.{cycles, only_cycles}
use Rattle.scx_laws.proofs.Differing.{ends_switches, keeps_current}
use Rattle.scx_laws.proofs.Entering.{claims_end}
use Rattle.scx_laws.proofs.allowing.rules_allow_cycles.Goals as goal

pub returns-clause-allowed : goal.returns-clause-allowed
returns-clause-allowed c = cycles

pub returns-clause-only : goal.returns-clause-only
returns-clause-only c = only_cycles

pub returns-clause-claims : goal.returns-clause-claims
returns-clause-claims c = claims_end

pub returns-clause-switches : goal.returns-clause-switches
returns-clause-switches c = ends_switches

pub returns-clause-keeps : goal.returns-clause-keeps
returns-clause-keeps c = keeps_current
