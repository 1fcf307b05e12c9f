use Rattle.std.proofs.Common.{◌≡◌, ℕ, ◌<◌}
use Rattle.scx_sched_machine.specs.declared.events.Event.TheVariants.{Wake, Sleep}
use Rattle.scx_explore_findings.specs.Path.{machine_of}
use Rattle.scx_explore_audit.specs.Closed.{LeadsBack, claim_of}
use Rattle.scx_explore_audit.specs.Tried.{row}
use Rattle.scx_explore_audit.proofs.events.tasks_lead_back.Given as goal

-- the wake and the sleep of each task so far lead back
abbrev pub invariant-loop-task : goal.invariant-loop-task
invariant-loop-task l = record {
  path : l.path ≡ l.fn.path;
  wakes :
      (t : ℕ) → t < l.task
      → LeadsBack (claim_of l.charted) l.depth (machine_of l.fn.path) (row l.charted.table.form.slices (machine_of l.fn.path) (Wake t));
  sleeps :
      (t : ℕ) → t < l.task
      → LeadsBack (claim_of l.charted) l.depth (machine_of l.fn.path) (row l.charted.table.form.slices (machine_of l.fn.path) (Sleep t));
}
