use Rattle.scx_sched_machine.proofs.Idling.{idles_go}
use Rattle.scx_sched_machine.proofs.machine.Machine.stay_idle.Goals as goal

-- src/cycle.rt
pub returns : goal.returns
returns g c =
    idles_go g.H.Hearer.noted g.H.Hearer.takes g.H.Hearer.told g.H.Hearer.hears c.args.self.now c.idle.new.self c.args.hearer.now c.args.cpu c.requires.idle c.requires.untold c.idle.ensures.state c.idle.ensures.few
