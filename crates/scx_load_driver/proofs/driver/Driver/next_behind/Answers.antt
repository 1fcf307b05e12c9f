use Rattle.std.proofs.Common.{◌∷◌, sym, ap, ◌∙◌}
use Rattle.scx_sched_machine.specs.declared.events.Event.TheVariants.{Clock}
use Rattle.scx_sched.specs.Sim.{after_event}
use Rattle.scx_load_driver.proofs.driver.Driver.next_behind.Goals as goal

pub returns-then-takes_clock-clause-next : goal.returns-then-takes_clock-clause-next
returns-then-takes_clock-clause-next c =
    c.takes_clock.ensures.clock c.if-takes_clock.true c.args.sim.now
    ∙ ap (λ es. Clock ∷ es) (sym (c.begin_ticks.ensures (after_event c.args.sim.now Clock)))
