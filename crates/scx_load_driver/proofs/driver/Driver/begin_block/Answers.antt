use Rattle.std.proofs.Common.{rules, ◌≡◌, not, length, ap, ◌∙◌, arith}
use Rattle.std.proofs.lemmas.List.{with_items_is}
use Rattle.std.specs.Vec.{with_items}
use Rattle.scx_load_driver.specs.Driver.{DriverState, is_empty, state_of, blocks_left, at_next_block}
use Rattle.scx_load_driver.proofs.Remaining.{some_left, none_ticks, only_ticks, begun_changes, begun_wakes, begun_ticks, begun_sleeps, begun_clock}
use Rattle.scx_load_driver.proofs.driver.Driver.begin_block.Goals as goal

pub returns-in-Changes : goal.returns-in-Changes
returns-in-Changes c =
    let inside = c.self.inside in
    let some = some_left inside.phase inside.left inside.clock (ap (λ (d : DriverState). not (is_empty d.blocks)) c.self.view_is ∙ c.requires) in
    begun_changes (state_of inside) inside.clock inside.left c.args.sim.now _ some
    (ap (λ q. blocks_left q inside.clock inside.left) c.in-Changes.is) (none_ticks inside.cpus inside.cpus _ _ (omega arith) (search rules))
    ∙ ap (λ (d : DriverState). at_next_block d c.args.sim.now) c.self.view_is

pub returns-in-Wakes : goal.returns-in-Wakes
returns-in-Wakes c =
    let inside = c.self.inside in
    let whole = c.self.invariant in
    let some = some_left inside.phase inside.left inside.clock (ap (λ (d : DriverState). not (is_empty d.blocks)) c.self.view_is ∙ c.requires) in
    let even : length c.add_wakes.new.ran ≡ inside.ran.len = omega (arith, c.add_wakes.ensures.even, ap length c.deref-in-Wakes.ensures.value, whole.due, whole.ran, inside.ran.ok.0) in
    begun_wakes (state_of inside) inside.clock inside.left c.args.sim.now _ (with_items inside.ran c.add_wakes.new.ran).items some
    (ap (λ q. blocks_left q inside.clock inside.left) c.in-Wakes.is) (none_ticks inside.cpus inside.cpus _ _ (omega arith) (search rules)) (with_items_is inside.ran c.add_wakes.new.ran even ∙ (search rules))
    ∙ ap (λ (d : DriverState). at_next_block d c.args.sim.now) c.self.view_is

pub returns-in-Ticks : goal.returns-in-Ticks
returns-in-Ticks c =
    let inside = c.self.inside in
    let some = some_left inside.phase inside.left inside.clock (ap (λ (d : DriverState). not (is_empty d.blocks)) c.self.view_is ∙ c.requires) in
    begun_ticks (state_of inside) inside.clock inside.left c.args.sim.now _ some
    (ap (λ q. blocks_left q inside.clock inside.left) c.in-Ticks.is) (only_ticks inside.cpus _ (search rules))
    ∙ ap (λ (d : DriverState). at_next_block d c.args.sim.now) c.self.view_is

pub returns-in-Sleeps : goal.returns-in-Sleeps
returns-in-Sleeps c =
    let inside = c.self.inside in
    let whole = c.self.invariant in
    let some = some_left inside.phase inside.left inside.clock (ap (λ (d : DriverState). not (is_empty d.blocks)) c.self.view_is ∙ c.requires) in
    let even : length c.add_sleeps-self-inside.new.due ≡ inside.due.len = omega (arith, c.add_sleeps-self-inside.ensures.even, ap length c.deref-in-Sleeps.ensures.value, whole.due, inside.due.ok.0) in
    begun_sleeps (state_of inside) inside.clock inside.left c.args.sim.now _ (with_items inside.due c.add_sleeps-self-inside.new.due).items c.add_sleeps-self-inside.new.watched some
    (ap (λ q. blocks_left q inside.clock inside.left) c.in-Sleeps.is) (none_ticks inside.cpus inside.cpus _ _ (omega arith) (search rules))
    (with_items_is inside.due c.add_sleeps-self-inside.new.due even ∙ (search rules)) (search rules)
    ∙ ap (λ (d : DriverState). at_next_block d c.args.sim.now) c.self.view_is

pub returns-in-Clock : goal.returns-in-Clock
returns-in-Clock c =
    let inside = c.self.inside in
    let some = some_left inside.phase inside.left inside.clock (ap (λ (d : DriverState). not (is_empty d.blocks)) c.self.view_is ∙ c.requires) in
    begun_clock (state_of inside) inside.clock inside.left c.args.sim.now _ some
    (ap (λ q. blocks_left q inside.clock inside.left) c.in-Clock.is) (none_ticks inside.cpus inside.cpus _ _ (omega arith) (search rules))
    ∙ ap (λ (d : DriverState). at_next_block d c.args.sim.now) c.self.view_is
