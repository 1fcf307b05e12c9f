use Rattle.scxsim_faults.proofs.Ejected.{under_text}
use Rattle.scxsim_faults.proofs.finding.find_fault.Goals as goal

pub returns : goal.returns
returns c = under_text c.args.policy.now _ c.args.scenario.now c.find_under_any.result (rw (c.seed.ensures, c.workload.ensures) at c.in_ok-policy.ensures) c.find_under_any.ensures
