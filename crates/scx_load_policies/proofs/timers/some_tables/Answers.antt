use Rattle.std.proofs.Common.{codes}
use Rattle.toml.specs.View.{table_view}
use Rattle.scx_load_policies.specs.Policies.{max_timers}
use Rattle.scx_load_policies.proofs.Within.{few_values}
use Rattle.scx_load_policies.proofs.timers.some_tables.Goals as goal

pub returns-clause-few : goal.returns-clause-few
returns-clause-few c = few_values max_timers c.args.file.path.now (codes "timer") (table_view c.args.file.table.now) c.elements.result c.elements.ensures
