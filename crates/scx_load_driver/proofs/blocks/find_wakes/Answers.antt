use Rattle.std.proofs.Common.{rules, ◌≡◌, ◌+◌, length, ap, ◌∙◌, arith}
use Rattle.scx_sched_world.specs.World.{task_at}
use Rattle.scx_sched_machine.specs.declared.events.Event.TheVariants.{Wake}
use Rattle.scx_load_driver.specs.Blocks.{events_below, set_below, is_due}
use Rattle.scx_load_driver.proofs.Waking.{none_awake, awake_to, awake_more}
use Rattle.scx_load_driver.proofs.blocks.find_wakes.Goals as goal

pub loop-task-init : goal.loop-task-init
loop-task-init c =
    let due = c.args.due.now in
    let w = c.args.sim.now.state.world in
    let next = c.next-task.ensures.next in
    record {
      awake =
          awake_to due c.args.now w c.args.ran.now 0 c.next-task.result c.args.calendar.now _ _ (omega arith) (omega (arith, next.most)) c.requires.noted next.none
          (none_awake due c.args.now w c.args.ran.now c.args.events.now.items c.requires.empty);
      even = c.requires.even;
      last = c.requires.last;
      within = omega (arith, next.most);
      few = (search rules);
      room = (search rules);
    }

pub loop-task-preserved : goal.loop-task-preserved
loop-task-preserved c =
    let k = c.loop-task.task in
    let due = c.args.due.now in
    let w = c.args.sim.now.state.world in
    let inv = c.loop-task.invariant in
    let next = c.next-task-in-loop-task.ensures.next in
    let one = awake_more due c.args.now w c.args.ran.now k _ _ _ _ c.wake.ensures.events c.wake.ensures.ran inv.awake in
    record {
      awake =
          awake_to due c.args.now w c.args.ran.now (k + 1) c.next-task-in-loop-task.result c.args.calendar.now _ _ c.next-task-in-loop-task.ensures.after (omega (arith, next.most))
          c.requires.noted next.none one;
      even = c.wake.ensures.even;
      last = c.wake.ensures.last;
      within = omega (arith, next.most);
      few = omega (arith, c.wake.ensures.one, inv.few, c.next-task-in-loop-task.ensures.after);
      room = omega (arith, c.wake.ensures.room, inv.room);
    }

pub returns : goal.returns
returns c =
    let w = c.args.sim.now.state.world in
    let inv = c.loop-task.invariant in
    let end : c.loop-task.task ≡ length c.args.due.now = omega (arith, inv.within, c.loop-task-test.false) in
    record {
      events = inv.awake.events ∙ ap (λ n. events_below n (is_due c.args.due.now c.args.now w) Wake) end;
      ran = inv.awake.ran ∙ ap (λ n. set_below n (is_due c.args.due.now c.args.now w) (λ t. (task_at w t).run_ns) c.args.ran.now) end;
      even = inv.even;
      last = inv.last;
      room = inv.room;
    }
