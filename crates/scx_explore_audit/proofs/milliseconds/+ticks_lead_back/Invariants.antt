use Rattle.std.proofs.Common.{◌-◌}
use Rattle.scx_explore_audit.proofs.milliseconds.+ticks_lead_back.Given as goal

abbrev pub decreases-ticks_lead_back : goal.decreases-ticks_lead_back
decreases-ticks_lead_back l = 4294967295 - l.cpu
