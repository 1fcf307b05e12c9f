use Rattle.std.proofs.Common.{◌≡◌, true, refl, sym, ap, ◌∙◌, arith}
use Rattle.scx_load_driver.specs.Driver.{DriverState, remaining, is_empty, state_of}
use Rattle.scx_load_driver.proofs.Calm.{clock_next}
use Rattle.scx_load_driver.proofs.driver.Driver.takes_clock.Goals as goal

pub returns-then-self-gt0-clause-clock : goal.returns-then-self-gt0-clause-clock
returns-then-self-gt0-clause-clock c = λ yes s.
    let inside = c.self.inside in
    let none : is_empty (state_of inside).pending ≡ true = ap (λ (d : DriverState). is_empty d.pending) c.self.view_is ∙ c.requires in
    ap (λ (d : DriverState). remaining d s) (sym c.self.view_is)
    ∙ clock_next (state_of inside) inside.phase inside.some_watched inside.clock inside.left s (omega (arith, c.if-self-gt0.true)) (sym c.is_clock_next.ensures ∙ c.if-is_clock_next.true) refl none c.self.invariant.unwatched
