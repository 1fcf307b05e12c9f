use Rattle.std.proofs.Common.{rules, of_calls}
use Rattle.scxsim_commands.proofs.Judging.{all_judged, no_memory, asked}
use Rattle.scxsim_commands.proofs.verdict.verdicts_of.Goals as goal

pub returns-clause-verdicts : goal.returns-clause-verdicts
returns-clause-verdicts c =
    let made = rw c.into_programs.ensures at c.try_map.ensures.made in
    all_judged _ _ c.args.policy c.try_map.result made (λ b x v said. first_of (search rules, search of_calls))

pub returns-clause-memory : goal.returns-clause-memory
returns-clause-memory c =
    let failed = rw c.into_programs.ensures at c.try_map.ensures.failed in
    no_memory _ _ c.args.policy c.try_map.result failed (λ b x e said. first_of (search rules, search of_calls))

pub returns-clause-asked : goal.returns-clause-asked
returns-clause-asked c =
    let failed = rw c.into_programs.ensures at c.try_map.ensures.failed in
    asked _ _ c.args.policy c.try_map.result failed (λ b x e said. first_of (search rules, search of_calls))
