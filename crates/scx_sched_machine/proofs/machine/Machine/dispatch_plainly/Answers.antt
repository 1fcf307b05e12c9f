use Rattle.std.proofs.Common.{◌≡◌, false, sym, subst}
use Rattle.scx_isa_semantics.specs.declared.callbacks.Callback.TheVariants.{Dispatch}
use Rattle.scx_sched_machine.specs.Steps.{State, is_by_linux}
use Rattle.scx_sched_machine.proofs.Steady.{plain_called, plain_supplied}
use Rattle.scx_sched_machine.proofs.machine.Machine.dispatch_plainly.Goals as goal

pub returns-clause-plain : goal.returns-clause-plain
returns-clause-plain g c =
    let called : is_by_linux c.call_back.new.self ≡ false =
    subst (λ (s : State). is_by_linux s ≡ false) (sym c.call_back.ensures.does.state) (plain_called c.args.self.now Dispatch c.cpu_and_task.result 0 c.args.cpu c.requires.plain) in
    subst (λ (s : State). is_by_linux s ≡ false) (sym c.supply.ensures.state) (plain_supplied c.call_back.new.self c.args.cpu called)
