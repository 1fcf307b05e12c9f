use Rattle.scx_vm.specs.Arguments.{program_arguments}
use Rattle.scxsim_faults.proofs.Ended.{is_not_stuck, keeps_shapes, is_answered, ends_in, ends_at}
use Rattle.scxsim_faults.proofs.running.run_seen.Goals as goal

pub run_watched-watched-requires-clause-flows : goal.run_watched-watched-requires-clause-flows
run_watched-watched-requires-clause-flows g c = rw c.program.ensures c.code-code.ensures.ready.typed.flows

pub answer_of-requires : goal.answer_of-requires
answer_of-requires g c =
    is_not_stuck c.args.program.now.context c.args.program.now.code (program_arguments c.args.arguments) c.args.maps.now c.args.world.now c.run_watched-watched.result.ran c.run_watched-watched.new.maps c.run_watched-watched.new.env
    c.code-code.ensures.safe c.requires.shapes c.requires.arguments (rw (← c.callback.ensures, ← c.program.ensures) c.run_watched-watched.ensures.stuck)

pub returns-clause-shapes : goal.returns-clause-shapes
returns-clause-shapes g c =
    keeps_shapes c.args.program.now.context c.args.program.now.code (program_arguments c.args.arguments) c.args.maps.now c.args.world.now c.run_watched-watched.result.ran c.answer_of.result c.run_watched-watched.new.maps c.run_watched-watched.new.env
    c.code-code.ensures.safe c.requires.shapes c.requires.arguments c.answer_of.ensures (rw (← c.callback.ensures, ← c.program.ensures) c.run_watched-watched.ensures.done)

pub returns-clause-answered : goal.returns-clause-answered
returns-clause-answered g c =
    is_answered c.args.program.now c.args.arguments c.args.maps.now c.args.world.now c.run_watched-watched.result.ran c.answer_of.result c.run_watched-watched.new.maps c.run_watched-watched.new.env c.answer_of.ensures
    (rw (← c.callback.ensures, ← c.program.ensures) c.run_watched-watched.ensures.done) (rw (← c.program.ensures) c.run_watched-watched.ensures.in_bound)

pub returns-clause-ends : goal.returns-clause-ends
returns-clause-ends g c =
    ends_in c.args.program.now c.args.arguments c.args.maps.now c.args.world.now c.run_watched-watched.result.ran c.answer_of.result c.run_watched-watched.new.maps c.run_watched-watched.new.env c.answer_of.ensures
    (rw (← c.callback.ensures, ← c.program.ensures) c.run_watched-watched.ensures.done) (rw (← c.program.ensures) c.run_watched-watched.ensures.in_bound)

pub returns-clause-last : goal.returns-clause-last
returns-clause-last g c =
    ends_at c.args.program.now (program_arguments c.args.arguments) c.args.maps.now c.args.world.now c.run_watched-watched.result.ran c.answer_of.result c.run_watched-watched.new.env c.run_watched-watched.result.last c.answer_of.ensures
    (rw (← c.callback.ensures, ← c.program.ensures) c.run_watched-watched.ensures.last)
