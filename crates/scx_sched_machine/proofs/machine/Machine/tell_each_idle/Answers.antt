use Rattle.std.proofs.Common.{rules, ◌<◌, length, arith}
use Rattle.scx_sched_machine.proofs.Telling.{idle_fails, idle_answered_fails, idle_heard_fails}
use Rattle.scx_sched_machine.proofs.machine.Machine.tell_each_idle.Goals as goal

pub returns-in-Err-clause-failed : goal.returns-in-Err-clause-failed
returns-in-Err-clause-failed g c =
    let s = c.args.self.now in
    let l : c.loop-cpu.cpu < length c.args.self.now.world.cpus = rw (← c.self.view_is) (omega (arith, c.loop-cpu-test.true, c.cpus-cpu-end.ensures.cpus)) in
    let failed = idle_fails (length s.world.cpus) c.loop-cpu.cpu s c.loop-cpu.self _ l c.loop-cpu.invariant.state c.in-Err.ensures.failed in
    search rules

pub returns-in-Err-clause-answered : goal.returns-in-Err-clause-answered
returns-in-Err-clause-answered g c =
    let s = c.args.self.now in
    let l : c.loop-cpu.cpu < length c.args.self.now.world.cpus = rw (← c.self.view_is) (omega (arith, c.loop-cpu-test.true, c.cpus-cpu-end.ensures.cpus)) in
    idle_answered_fails (length s.world.cpus) c.loop-cpu.cpu s c.loop-cpu.self _ l c.loop-cpu.invariant.state c.in-Err.ensures.failed c.loop-cpu.invariant.answered c.in-Err.ensures.answered

pub returns-in-Err-clause-calls : goal.returns-in-Err-clause-calls
returns-in-Err-clause-calls g c =
    let s = c.args.self.now in
    let h = g.H.Hearer in
    let l : c.loop-cpu.cpu < length c.args.self.now.world.cpus = rw (← c.self.view_is) (omega (arith, c.loop-cpu-test.true, c.cpus-cpu-end.ensures.cpus)) in
    idle_heard_fails h.hears (length s.world.cpus) c.loop-cpu.cpu s c.loop-cpu.self _ (h.told c.args.hearer.now) _ _ l c.loop-cpu.invariant.state c.in-Err.ensures.failed c.loop-cpu.invariant.calls c.in-Err.ensures.calls
