-- Inserts that programs ask for.
use Rattle.std.specs.Prelude.{ℕ, false}
use Rattle.scx_dsq.specs.declared.entries.Rank.TheVariants.{Vtime}
use Rattle.scx_sched_world.specs.declared.call.Insert.{Insert}
use Rattle.scx_sched_world.specs.World.{WorldState, is_by_linux}
use Rattle.scx_sched_world.specs.Helpers.{arrival_rank, has_preempt}

-- one in order of arrival, into that queue, with that slice and those flags
abbrev pub insert_in_order : WorldState → (queue slice flags : ℕ) → Insert
insert_in_order w queue slice flags = record {
  queue = queue;
  slice = slice;
  rank = arrival_rank flags;
  preempts = has_preempt flags;
  refills = is_by_linux w;
}

-- one by virtual time, into that queue, with that slice
abbrev pub insert_by_vtime : WorldState → (queue slice vtime : ℕ) → Insert
insert_by_vtime w queue slice vtime = record {
  queue = queue;
  slice = slice;
  rank = Vtime vtime;
  preempts = false;
  refills = is_by_linux w;
}
