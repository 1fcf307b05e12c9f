use Rattle.std.proofs.Common.{◌≡◌, false, ap}
use Rattle.std.specs.Prelude.{is_err, string_bytes}
use Rattle.scxsim_story.proofs.Hearing.{run_is_told}
use Rattle.scxsim_story.proofs.telling.tell_from.Goals as goal

pub returns : goal.returns
returns g c =
    let events = g.E.Events.remaining c.args.events.now c.args.sim.now in
    let well : is_err c.observe.new.observer.result ≡ false = ap (λ r. is_err r) c.in_ok-storyteller.was in (
      string_bytes c.in_ok-opening.opening,
      c.in_ok-opening.ensures,
      rw (c.into_text.ensures) (run_is_told (λ x. is_err x.result) (λ x. x.subject) (λ x. record { text = string_bytes x.text; pending = x.pending })
          events c.args.sim.now c.observe.new.sim c.new-storyteller.result c.observe.new.observer c.args.subject (string_bytes c.in_ok-opening.opening) (string_bytes c.end.new.self.text)
          c.observe.ensures well c.new-storyteller.ensures.subject c.new-storyteller.ensures.pending (ap string_bytes c.new-storyteller.ensures.text) c.in_ok-end.ensures.written),
    )
