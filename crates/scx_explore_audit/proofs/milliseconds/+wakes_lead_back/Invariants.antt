use Rattle.std.proofs.Common.{◌-◌}
use Rattle.scx_explore_audit.proofs.milliseconds.+wakes_lead_back.Given as goal

abbrev pub decreases-wakes_lead_back : goal.decreases-wakes_lead_back
decreases-wakes_lead_back l = 65535 - l.task
