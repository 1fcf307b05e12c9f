use Rattle.std.proofs.Common.{rules, sym, ap, ◌∙◌}
use denote.Enum.Bare.{same_true}
use Rattle.scx_load_driver.specs.contracts.driver.Phase.{the_type}
use Rattle.scx_load_driver.specs.Driver.{DriverState}
use Rattle.scx_load_driver.proofs.Remaining.{begun_past, none_left, other_past}
use Rattle.scx_load_driver.proofs.driver.Driver.begin_at.Goals.{else-eq-via-then-eq+then-is_spent+else-has_block, else-eq-via-then-eq+else-is_spent, else-eq-via-else-eq}
use Rattle.scx_load_driver.proofs.driver.Driver.begin_at.Goals as goal

pub returns-then-has_block-clause-past : goal.returns-then-has_block-clause-past
returns-then-has_block-clause-past c none =
    let inside = c.self.inside in
    let blocks = ap (λ (d : DriverState). d.blocks) c.self.view_is in
    begun_past c.args.phase inside.phase inside.clock inside.left c.args.self.now c.begin_block.new.self c.args.sim.now blocks
    (same_true the_type (search rules) _ _ (sym c.if-eq.ensures)) (sym c.has_block.ensures ∙ c.if-has_block.true) c.begin_block.ensures none

pub returns-else-eq-clause-past : goal.returns-else-eq-clause-past
returns-else-eq-clause-past c none =
    let inside = c.self.inside in
    let blocks = ap (λ (d : DriverState). d.blocks) c.self.view_is in
    elim c.else-eq.branch [
      | else-eq-via-then-eq+then-is_spent+else-has_block w ↦ none_left c.args.phase c.args.self.now.blocks (sym w.has_block.ensures ∙ w.if-has_block.false)
      | else-eq-via-then-eq+else-is_spent w ↦ let some = sym w.is_spent.ensures ∙ w.if-is_spent.false in absurd (cc)
      | else-eq-via-else-eq w ↦ other_past c.args.phase inside.phase inside.clock inside.left c.args.self.now.blocks blocks (sym c.eq.ensures ∙ w.if-eq.false) (c.requires.turn none)
    ]
