use Rattle.std.proofs.Common.{arith}
use Rattle.std.proofs.lemmas.Result.{err_from_is_err_and}
use Rattle.scx_sched.proofs.Failing.{has_failed, started_right}
use Rattle.scx_sched.proofs.First.{force_started}
use Rattle.scx_sched.proofs.Still.{still_first, are_current}
use Rattle.scx_sched.proofs.Valid.{valid_first}
use Rattle.scx_sched.proofs.sim.Sim.new_seen.Goals as goal
use Rattle.scx_sched.proofs.Alarms.{timers_first}

pub invariant_of-result : goal.invariant_of-result
invariant_of-result g c =
    let m = c.in_ok-machine.ensures in
    record {
      few = omega arith;
      valid = valid_first c.args.policy c.args.tree c.args.cpus _ m.shape m.flags m.timeout m.programs m.made m.few;
    }

pub returns-clause-in_force : goal.returns-clause-in_force
returns-clause-in_force g c = force_started c.args.policy c.args.tree c.args.cpus _ c.in_ok-machine.ensures.made

pub returns-clause-current : goal.returns-clause-current
returns-clause-current g c = are_current _ (still_first c.args.policy c.args.tree c.args.cpus _ c.in_ok-machine.ensures.made).1

pub returns-clause-timers : goal.returns-clause-timers
returns-clause-timers g c = let m = c.in_ok-machine.ensures in timers_first c.args.policy c.args.tree c.args.cpus _ m.shape m.made

pub returns-clause-allowed : goal.returns-clause-allowed
returns-clause-allowed g c = let m = c.in_ok-machine.ensures in (valid_first c.args.policy c.args.tree c.args.cpus _ m.shape m.flags m.timeout m.programs m.made m.few).allowed

pub returns-clause-timer_cpus : goal.returns-clause-timer_cpus
returns-clause-timer_cpus g c = let m = c.in_ok-machine.ensures in (valid_first c.args.policy c.args.tree c.args.cpus _ m.shape m.flags m.timeout m.programs m.made m.few).fine.sound.here.timed

-- where the machine begins, no callback has failed
pub returns-clause-none_failed : goal.returns-clause-none_failed
returns-clause-none_failed g c = started_right c.args.policy c.args.tree c.args.cpus _ c.in_ok-machine.ensures.made

-- where it doesn't, the last one has
pub returns-in_err-machine-clause-failed : goal.returns-in_err-machine-clause-failed
returns-in_err-machine-clause-failed g c =
    let p = err_from_is_err_and c.from_residual.result c.from_residual.ensures.1 in
    let m = c.in_err-machine.ensures in
    rw (p.1, p.2) (has_failed c.args.policy c.args.tree c.args.cpus c.in_err-machine.field-0.0 m.refused m.answered_before)
