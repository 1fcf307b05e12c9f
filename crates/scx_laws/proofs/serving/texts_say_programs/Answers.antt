use Rattle.scx_laws.proofs.Saying.{queues_said}
use Rattle.scx_laws.proofs.serving.texts_say_programs.Goals as goal

pub returns-clause-one : goal.returns-clause-one
returns-clause-one c = queues_said.0

pub returns-clause-two : goal.returns-clause-two
returns-clause-two c = queues_said.1

pub returns-clause-three : goal.returns-clause-three
returns-clause-three c = queues_said.2
