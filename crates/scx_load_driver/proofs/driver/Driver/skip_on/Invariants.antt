use Rattle.scx_load_driver.specs.Driver.{remaining}
use Rattle.scx_load_driver.specs.Runs.{Skips}
use Rattle.scx_load_driver.proofs.driver.Driver.skip_on.Given as goal

-- the events so far went quietly
abbrev pub invariant-loop-skip : goal.invariant-loop-skip
invariant-loop-skip l = Skips (remaining l.fn.self l.fn.sim) l.fn.sim (remaining l.self l.sim) l.sim
