use Rattle.std.proofs.Common.{List, refl, subst}
use Rattle.std.specs.Prelude.{All}
use Rattle.std.proofs.lemmas.List.{take_all}
use Rattle.std.proofs.lemmas.List.Elements.{All-more}
use Rattle.scx_maps.specs.declared.shape.Shape.{Shape}
use Rattle.scx_maps.specs.Limits.{IsWithinLimits}
use Rattle.scx_maps.specs.Unused.{unused_shape}
use Rattle.scx_maps.proofs.defs.check_each.Goals as goal

pub loop-map-preserved : goal.loop-map-preserved
loop-map-preserved c =
    let limits : IsWithinLimits _ = record { entries = (c.if-not-has_entries.ensures {u = tt}).0 refl; value_size = (c.if-not-has_value_size.ensures {u = tt}).0 refl } in
    All-more IsWithinLimits c.args.shapes.now c.loop-map.map unused_shape c.loop-map-test.true c.loop-map.invariant limits

pub returns-clause-each : goal.returns-clause-each
returns-clause-each c =
    let Limits : List Shape → Type 0 = λ xs. All IsWithinLimits xs in
    subst Limits (take_all c.loop-map.map c.args.shapes.now c.loop-map-test.false) c.loop-map.invariant
