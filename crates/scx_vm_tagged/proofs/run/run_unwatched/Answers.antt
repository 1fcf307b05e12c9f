use Rattle.scx_vm.specs.Arguments.{program_arguments}
use Rattle.scx_vm.specs.Host.{answer_to, after_query}
use Rattle.scx_vm_tagged.proofs.Ended.{ran_is}
use Rattle.scx_vm_tagged.proofs.run.run_unwatched.Goals as goal

pub returns-clause-exact : goal.returns-clause-exact
returns-clause-exact g c =
    ran_is (answer_to g.E.Env.functions) (after_query g.E.Env.functions) c.args.callback c.args.program.now (program_arguments c.args.arguments) c.args.maps.now c.args.env.now
    c.walk.result.ran c.walk.new.maps c.walk.new.env c.walk.ensures.done c.walk.ensures.in_bound c.walk.ensures.stuck
