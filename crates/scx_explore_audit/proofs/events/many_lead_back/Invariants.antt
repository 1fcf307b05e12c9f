use Rattle.std.proofs.Common.{◌+◌, ◌-◌}
use Rattle.scx_explore_audit.specs.Closed.{claim_of}
use Rattle.scx_explore_audit.proofs.InARow.{HasMore, LeadsOn}
use Rattle.scx_explore_audit.proofs.events.many_lead_back.Given as goal

-- the events so far have come, and those that are left may lead back
abbrev pub invariant-loop-number : goal.invariant-loop-number
invariant-loop-number l = record {
  path : HasMore l.fn.path l.path;
  back : LeadsOn (claim_of l.charted) l.depth l.event l.times l.fn.path l.path (l.times + 1 - l.number);
}
