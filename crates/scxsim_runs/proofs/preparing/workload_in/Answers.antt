use Rattle.scx_load_workloads.specs.Reading.{workload_by}
use Rattle.scxsim_commands.specs.declared.refusal.FileKind.TheVariants as kinds
use Rattle.scxsim_commands.specs.Refusals.{file_refusal}
use Rattle.scxsim_runs.proofs.Passing.{read_is}
use Rattle.scxsim_runs.proofs.preparing.workload_in.Goals as goal

pub returns-clause-read : goal.returns-clause-read
returns-clause-read c = read_is (file_refusal kinds.Workload) c.read_workload_by.result c.or_refusal.result (workload_by c.args.rules c.args.text.now) c.read_workload_by.ensures c.or_refusal.ensures
