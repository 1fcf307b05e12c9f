use Rattle.scx_explore_findings.proofs.Running.{tells}
use Rattle.scx_explore_findings.proofs.tally.TallyHearer.call.Goals as goal

pub returns-clause-calls : goal.returns-clause-calls
returns-clause-calls c =
    tells _ _ _ _ _ _ c.run_counted-done.ensures.run c.callback.ensures c.look.ensures.callback c.look.ensures.instructions c.look.ensures.seen
