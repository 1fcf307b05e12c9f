use Rattle.scx_load_driver.proofs.Whole.{run_recorded, run_never_stuck, run_once, run_counted, run_timely, run_bounded, run_follows}
use Rattle.scx_load_driver.proofs.run.run_events.Goals as goal

pub returns-clause-recorded : goal.returns-clause-recorded
returns-clause-recorded g c =
    run_recorded c.args.policy c.args.tree c.args.cpus c.args.events.now _ c.in_ok-sim.ensures.first g.S.Sink.takes _ _ _ c.go_through.ensures.state c.go_through.ensures.notes

pub returns-clause-never_stuck : goal.returns-clause-never_stuck
returns-clause-never_stuck g c =
    run_never_stuck c.args.policy c.args.tree c.args.cpus c.args.events.now _ c.in_ok-sim.ensures.first c.in_ok-sim.ensures.answered c.go_through.ensures.answered

pub returns-clause-once : goal.returns-clause-once
returns-clause-once g c =
    run_once c.args.policy c.args.tree c.args.cpus c.args.events.now _ c.in_ok-sim.ensures.first c.go_through.ensures.once

pub returns-clause-counted : goal.returns-clause-counted
returns-clause-counted g c =
    run_counted c.args.policy c.args.tree c.args.cpus c.args.events.now _ c.in_ok-sim.ensures.first c.go_through.ensures.counted

pub returns-clause-timely : goal.returns-clause-timely
returns-clause-timely g c =
    run_timely c.args.policy c.args.tree c.args.cpus c.args.events.now _ c.in_ok-sim.ensures.first c.go_through.ensures.follows c.go_through.ensures.timely

pub returns-clause-bounded : goal.returns-clause-bounded
returns-clause-bounded g c =
    run_bounded c.args.policy c.args.tree c.args.cpus c.args.events.now _ c.in_ok-sim.ensures.first c.go_through.ensures.bounded

pub returns-clause-follows : goal.returns-clause-follows
returns-clause-follows g c =
    run_follows c.args.policy c.args.tree c.args.cpus c.args.events.now _ c.in_ok-sim.ensures.first c.go_through.ensures.follows
