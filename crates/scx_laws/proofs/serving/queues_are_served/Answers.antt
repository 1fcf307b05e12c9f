use Rattle.scx_laws.proofs.Moving.{one_served, two_served, three_served}
use Rattle.scx_laws.proofs.serving.queues_are_served.Goals as goal

pub returns-clause-one : goal.returns-clause-one
returns-clause-one c = one_served

pub returns-clause-two : goal.returns-clause-two
returns-clause-two c = two_served

pub returns-clause-three : goal.returns-clause-three
returns-clause-three c = three_served
