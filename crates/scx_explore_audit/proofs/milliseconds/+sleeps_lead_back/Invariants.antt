use Rattle.std.proofs.Common.{◌-◌}
use Rattle.scx_explore_audit.proofs.milliseconds.+sleeps_lead_back.Given as goal

abbrev pub decreases-sleeps_lead_back : goal.decreases-sleeps_lead_back
decreases-sleeps_lead_back l = 65535 - l.task
