use Rattle.std.proofs.Common.{◌-◌}
use Rattle.scx_abs.proofs.calls.+check_arguments.Given as goal

abbrev pub decreases-check_arguments : goal.decreases-check_arguments
decreases-check_arguments l = 5 - l.argument
