use Rattle.toml.specs.View.{table_view}
use Rattle.scx_load_workloads.proofs.Values.{few_given}
use Rattle.scx_load_workloads.proofs.elements.elements.Goals as goal

pub returns-clause-few : goal.returns-clause-few
returns-clause-few c = few_given c.args.most c.args.file.path.now c.args.key.now (table_view c.args.file.table.now) c.elements.result c.elements.ensures
