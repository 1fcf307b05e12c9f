use Rattle.std.proofs.Common.{refl}
use Rattle.scxsim_why.proofs.telling_json.why_json.Goals as goal

pub returns-clause-done : goal.returns-clause-done
returns-clause-done g c =
    let found = c.in_ok-lines.ensures.idle in
    (refl, found.0, found.1, _, _, rw found.2 at c.in_ok-write_lines.ensures.ok)
