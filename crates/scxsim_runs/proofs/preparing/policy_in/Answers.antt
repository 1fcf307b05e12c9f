use Rattle.scx_load_policies.specs.Reading.{policy_text}
use Rattle.scxsim_commands.specs.declared.refusal.FileKind.TheVariants as kinds
use Rattle.scxsim_commands.specs.Refusals.{file_refusal}
use Rattle.scxsim_runs.proofs.Passing.{read_is}
use Rattle.scxsim_runs.proofs.preparing.policy_in.Goals as goal

pub returns-clause-read : goal.returns-clause-read
returns-clause-read c = read_is (file_refusal kinds.Policy) c.read_policy.result c.or_refusal.result (policy_text c.args.text.now) c.read_policy.ensures c.or_refusal.ensures
