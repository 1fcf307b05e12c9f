use Rattle.std.proofs.Common.{List, length, ap}
use Rattle.scx_sched_machine.specs.declared.events.Event.{Event}
use Rattle.scx_sched.specs.Sim.{refusal, calls_of}
use Rattle.scx_explore_findings.specs.Path.{machine_of}
use Rattle.scx_explore_findings.proofs.OwnCalls.{heard}
use Rattle.scx_explore_findings.proofs.Replaying.{is_accepted}
use Rattle.scx_explore_audit.proofs.Passing.{comes_there, comes_over}
use Rattle.scx_explore_audit.proofs.advance.go_along.Goals as goal

pub returns-in-There : goal.returns-in-There
returns-in-There c =
    comes_there c.args.sorts.now c.args.path.now _ _ c.args.event (is_accepted (refusal (machine_of c.args.path.now) c.args.event) tt c.in-Ok.ensures.answer) c.in-Ok.ensures.list c.sim.ensures c.in-There.ensures (heard tt tt (calls_of (machine_of c.args.path.now) c.args.event) c.in-Ok.ensures.calls)

pub returns-in-Over : goal.returns-in-Over
returns-in-Over c =
    comes_over c.args.sorts.now c.args.path.now _ _ _ c.args.event _ (ap (λ (es : List Event). length es) c.events-length.ensures.events) (is_accepted (refusal (machine_of c.args.path.now) c.args.event) tt c.in-Ok.ensures.answer) c.in-Ok.ensures.list c.sim.ensures c.go_back.ensures c.in-Over.ensures (heard tt tt (calls_of (machine_of c.args.path.now) c.args.event) c.in-Ok.ensures.calls)
