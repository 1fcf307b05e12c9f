use Rattle.scx_explore_findings.proofs.PathFields.{kept_accepted, kept_room}
use Rattle.scx_explore_findings.proofs.path.Path.events.Goals as goal

pub returns-clause-accepted : goal.returns-clause-accepted
returns-clause-accepted c = kept_accepted c.self.inside c.args.self.now c.self.view_is c.self.invariant

pub returns-clause-room : goal.returns-clause-room
returns-clause-room c = kept_room c.self.inside c.args.self.now c.self.view_is c.self.invariant
