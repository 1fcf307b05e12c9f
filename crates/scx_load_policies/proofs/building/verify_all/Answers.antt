use Rattle.std.proofs.Common.{rules, of_calls}
use Rattle.scx_load_policies.proofs.Built.{all_verified, first_refused}
use Rattle.scx_load_policies.proofs.building.verify_all.Goals as goal

pub returns-clause-ok : goal.returns-clause-ok
returns-clause-ok c =
    let made = rw c.into_programs.ensures at c.try_map.ensures.made in
    all_verified _ _ c.args.text c.try_map.result made (λ b x v said. first_of (search rules, search of_calls))

pub returns-clause-refused : goal.returns-clause-refused
returns-clause-refused c =
    let failed = rw c.into_programs.ensures at c.try_map.ensures.failed in
    first_refused _ _ c.args.text c.try_map.result failed (λ b x v said. first_of (search rules, search of_calls)) (λ b x e said. first_of (search rules, search of_calls))
