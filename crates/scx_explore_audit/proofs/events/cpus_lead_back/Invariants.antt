use Rattle.std.proofs.Common.{◌≡◌, ℕ, ◌<◌}
use Rattle.scx_sched_machine.specs.declared.events.Event.TheVariants.{Tick}
use Rattle.scx_explore_findings.specs.Path.{machine_of}
use Rattle.scx_explore_audit.specs.Closed.{LeadsBack, claim_of}
use Rattle.scx_explore_audit.specs.Tried.{row}
use Rattle.scx_explore_audit.proofs.events.cpus_lead_back.Given as goal

-- the ticks of each processor so far lead back
abbrev pub invariant-loop-cpu : goal.invariant-loop-cpu
invariant-loop-cpu l = record {
  path : l.path ≡ l.fn.path;
  ticks :
      (k : ℕ) → k < l.cpu
      → LeadsBack (claim_of l.charted) l.depth (machine_of l.fn.path) (row l.charted.table.form.slices (machine_of l.fn.path) (Tick k));
}
