use Rattle.std.proofs.Common.{◌≡◌, false, sym, subst}
use Rattle.scx_sched_machine.specs.Steps.{State, is_by_linux}
use Rattle.scx_sched_machine.proofs.Plainly.{plain_left}
use Rattle.scx_sched_machine.proofs.machine.Machine.pick_plainly.Goals as goal

pub start_or_cycle_plainly-requires-clause-plain : goal.start_or_cycle_plainly-requires-clause-plain
start_or_cycle_plainly-requires-clause-plain g c =
    subst (λ (s : State). is_by_linux s ≡ false) (sym c.leave_plainly.ensures.state) (plain_left c.args.self.now c.args.cpu c.args.before c.requires.plain)
