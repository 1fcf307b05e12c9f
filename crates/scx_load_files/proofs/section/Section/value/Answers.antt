use Rattle.toml.proofs.Views.{table_get}
use Rattle.scx_load_files.proofs.section.Section.value.Goals as goal

pub returns : goal.returns
returns c = table_get c.get.result c.args.key.now c.args.self.table.now.entries c.get.ensures.value
