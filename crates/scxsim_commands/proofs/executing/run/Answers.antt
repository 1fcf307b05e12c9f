use Rattle.std.proofs.Common.{rules}
use Rattle.scxsim_commands.proofs.Causes.{verify_cause}
use Rattle.scxsim_commands.proofs.executing.run.Goals as goal

pub returns-in_err-verified-clause-refused : goal.returns-in_err-verified-clause-refused
returns-in_err-verified-clause-refused c = search (rules, verify_cause)
