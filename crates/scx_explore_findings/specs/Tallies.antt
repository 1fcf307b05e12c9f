-- The calls that a tally is told. No public clause cites it.
use Rattle.std.specs.Prelude.{◌≡◌, true, ◌⊎◌}
use Rattle.scx_sched_machine.specs.Steps.{CallMade}
use Rattle.scx_explore_findings.specs.Running.{IsRunOf}
use Rattle.scx_explore_findings.specs.declared.tally.Tally.{Tally}

-- what the tally looks for stays; where it says that there was such a run, it said so before the
-- call, or the call is one
abbrev pub Tells : Tally → CallMade → Tally → Type 0
Tells a c b = (b.callback ≡ a.callback) × (b.instructions ≡ a.instructions)
    × (b.has_run ≡ true → (a.has_run ≡ true) ⊎ IsRunOf c a.callback a.instructions)
