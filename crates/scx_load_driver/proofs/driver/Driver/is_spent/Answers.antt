use Rattle.std.proofs.Common.{rules, ◌≡◌, length, drop, sym, ap, ◌∙◌, arith}
use Rattle.std.proofs.lemmas.Bool.{eq-eqb}
use denote.Enum.Bare.{same_true}
use Rattle.scx_load_driver.specs.contracts.driver.Phase.{the_type}
use Rattle.scx_load_driver.specs.Driver.{DriverState, is_empty}
use Rattle.scx_load_driver.proofs.Remaining.{spent, not_spent}
use Rattle.scx_load_driver.proofs.driver.Driver.is_spent.Goals as goal

pub returns-then-self : goal.returns-then-self
returns-then-self c =
    let inside = c.self.inside in
    sym (not_spent inside.cpu inside.cpus (drop inside.taken inside.events.items) (omega (arith, c.if-self.true)))
    ∙ ap (λ (d : DriverState). is_empty d.pending) c.self.view_is

-- once the ticks began all events before them were answered
pub returns-then-eq : goal.returns-then-eq
returns-then-eq c =
    let inside = c.self.inside in
    let events = inside.events.items in
    let last : inside.cpu ≡ inside.cpus = omega (arith, c.if-self.false, c.self.invariant.cpu) in
    let all = c.self.invariant.ticked (same_true the_type (search rules) _ _ (sym c.if-eq.ensures)) in
    sym (eq-eqb inside.taken (length events) all) ∙ spent inside.cpu inside.cpus inside.taken events last c.self.invariant.taken
    ∙ ap (λ (d : DriverState). is_empty d.pending) c.self.view_is

pub returns : goal.returns
returns c =
    let inside = c.self.inside in
    let events = inside.events in
    let n : c.len.result ≡ length events.items = omega (arith, c.len.ensures, events.ok.0) in
    let last : inside.cpu ≡ inside.cpus = omega (arith, c.if-self.false, c.self.invariant.cpu) in
    rw n (spent inside.cpu inside.cpus inside.taken events.items last c.self.invariant.taken) ∙ ap (λ (d : DriverState). is_empty d.pending) c.self.view_is
