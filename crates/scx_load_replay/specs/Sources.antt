-- The remaining events of a scenario.
use Rattle.std.specs.Prelude.{List}
use Rattle.scx_sched_machine.specs.declared.events.Event.{Event}
use Rattle.scx_sched.specs.Sim.{SimState}
use Rattle.scx_load_driver.specs.Driver as driver
use Rattle.scx_load_replay.specs.declared.source.Source.{Source}
use Rattle.scx_load_replay.specs.declared.source.Source.TheVariants as source
use Rattle.scx_load_replay.specs.Replayer as replayer

-- the remaining events, from that state on; those of a file of events don't depend on it
abbrev pub remaining : Source → SimState → List Event
remaining (source.Workload d) s = driver.remaining d s
remaining (source.Events r) s = replayer.remaining r
