use Rattle.std.proofs.Common.{◌≤◌, length, refl, arith}
use Rattle.scxsim_faults.specs.Places.{call_of}
use Rattle.scxsim_faults.specs.Queues.{policy_queues}
use Rattle.scxsim_faults.proofs.Heard.{finds}
use Rattle.scxsim_faults.proofs.finder.FinderHearer.call.Goals as goal

pub returns-clause-calls : goal.returns-clause-calls
returns-clause-calls c =
    let enough : length (policy_queues c.args.world.now) ≤ c.at_least-count.result = omega (arith, c.count_in-before.ensures, c.at_least-count.ensures) in
    finds c.place_of-self.result (call_of c.args.program.now c.args.arguments c.args.maps.now c.args.world.now) c.run_seen-ran.result c.run_seen-ran.new.world c.first_in-queues.result refl
    c.run_seen-ran.ensures.ends c.run_seen-ran.ensures.came c.run_seen-ran.ensures.last (record { count = c.at_least-count.result; enough = enough; first = c.first_in-queues.ensures }) c.place_of-self.ensures
