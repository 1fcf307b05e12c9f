-- The callback at hand, as a world keeps it.
use Rattle.std.specs.Prelude.{Some, None, if◌then◌else◌}
use Rattle.scx_sched_world.specs.declared.call.Call.{Call}
use Rattle.scx_sched_world.specs.declared.call.KeptCall.{KeptCall}
use Rattle.scx_sched_world.specs.CpuSets.{no_cpus}

-- the callback that flags and fields represent; what no flag tells of is left over from another
abbrev pub call_of : KeptCall → Call
call_of c = record {
  callback = c.callback;
  task = c.task;
  cpu = c.cpu;
  insert = if c.has_insert then Some c.insert else None;
  has_moved = c.has_moved;
  cause = if c.has_cause then Some c.cause else None;
  claims = if c.has_claims then c.claims else no_cpus;
}
