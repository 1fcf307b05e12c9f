use Rattle.std.proofs.Common.{refl}
use Rattle.scx_explore_findings.proofs.heard.HeardHearer.call.Goals as goal

pub returns-clause-calls : goal.returns-clause-calls
returns-clause-calls c = record { callback = refl; arguments = c.requires.arguments; shapes = c.requires.shapes }
