use Rattle.scxsim_steps.proofs.Growing.{until_grows}
use Rattle.scxsim_steps.proofs.until.go_until.Goals as goal

pub returns : goal.returns
returns g c =
    until_grows c.args.ms (g.E.Events.remaining c.args.events.now c.args.sim.now) c.args.sim.now c.args.stepper.now c.go_through.new.sim c.go_through.new.sink c.requires c.go_through.ensures
