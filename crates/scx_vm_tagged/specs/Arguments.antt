-- The arguments of a helper that asks its host.
use Rattle.std.specs.Prelude.{Bool, true, false, Option, Some, None}
use Rattle.scx_isa_semantics.specs.declared.values.Value.{Value}
use Rattle.scx_isa_semantics.specs.declared.host_tables.Parameter.{Parameter}
use Rattle.scx_isa_semantics.specs.declared.host_tables.Parameter.TheVariants as parameter
use Rattle.scx_isa_semantics.specs.Calls.{takes}
use Rattle.scx_isa_semantics.specs.Machine as machine

-- whether a helper that asks its host finds what it takes, if it takes anything: a task or a number
abbrev pub finds : machine.Machine → Option Parameter → Value → Bool
finds m None v = true
finds m (Some parameter.Task) v = takes m parameter.Task v
finds m (Some parameter.Number) v = takes m parameter.Number v
finds m (Some p) v = false
