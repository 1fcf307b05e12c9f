use Rattle.std.proofs.Common.{◌≡◌, false, ap, ◌∙◌}
use Rattle.std.specs.Prelude.{is_err}
use Rattle.scxsim_views.specs.Watching.{kept_of_all}
use Rattle.scxsim_views.proofs.Keeping.{run_is_kept}
use Rattle.scxsim_account.specs.Idling.{idle_after_event, idle_after_note}
use Rattle.scxsim_account.proofs.account.account_of.Goals as goal

pub returns : goal.returns
returns g c =
    let events = g.E.Events.remaining c.args.events.now c.args.sim.now in
    let well : is_err c.observe.new.observer.result ≡ false = ap (λ r. is_err r) c.in_ok-account-2.was in
    let kept = run_is_kept (λ a. is_err a.result) (λ a. a.idling) idle_after_event idle_after_note events c.args.sim.now c.observe.new.sim c.in_ok-account.account c.observe.new.observer c.observe.ensures well in
    c.end.ensures.idling ∙ kept.1 ∙ ap (λ k. kept_of_all idle_after_event idle_after_note c.args.sim.now events k) c.in_ok-account.ensures.idling
