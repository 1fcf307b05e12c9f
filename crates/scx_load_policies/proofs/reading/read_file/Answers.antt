use Rattle.std.proofs.Common.{codes, arith}
use Rattle.toml.specs.View.{table_view}
use Rattle.scx_load_policies.specs.Reading.{timeout_limits}
use Rattle.scx_load_policies.proofs.Within.{optional_in}
use Rattle.scx_load_policies.proofs.reading.read_file.Goals as goal

pub invariant_of-result : goal.invariant_of-result
invariant_of-result c = (
  optional_in timeout_limits 30000 c.args.file.path.now (codes "timeout_ms") (table_view c.args.file.table.now) c.in_ok-timeout_ms.timeout_ms (omega arith, omega arith) c.in_ok-timeout_ms.ensures,
  c.in_ok-tick_ms.ensures.limits,
  c.in_ok-timers.ensures.few,
)
