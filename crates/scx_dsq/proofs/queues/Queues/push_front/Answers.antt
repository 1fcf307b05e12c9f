use Rattle.std.proofs.Common.{◌≡◌, false, sym, refl}
use Rattle.scx_dsq.specs.Queues.{exists}
use Rattle.scx_dsq.proofs.queues.Queues.push_front.Goals as goal

pub returns-in-None-clause-answer : goal.returns-in-None-clause-answer
returns-in-None-clause-answer c =
    let out : exists c.args.self.now.state c.args.id ≡ false = sym c.in-None.ensures.found in
    rw out refl

pub returns-in-None-clause-state : goal.returns-in-None-clause-state
returns-in-None-clause-state c =
    let out : exists c.args.self.now.state c.args.id ≡ false = sym c.in-None.ensures.found in
    rw out refl
